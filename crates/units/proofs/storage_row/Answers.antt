-- A short buffer is refused untouched; else the first 512 words are lent on, and the row that was asked for is handed over on success alone.
-- Every unit that a step of an accepted file names has a number, so that its storage is among those of the row.
use borrow.Author.Rules.{rules}
use mathlib.Core.Logic.{inl, inr}
use Rattle.std.proofs.lemmas.Result.{err_from_is_err_and}
use Rattle.units.specs.Ask.{storage_row_of}
use Rattle.units.proofs.Asking.{asks_short, asks_sought, asks_given, shown, storages_asked}
use Rattle.units.proofs.Storages.{four}
use Rattle.units.proofs.storage_row.Goals as goal
use Rattle.units.proofs.storage_row.Goals.{then-units-lt512-via-then-units-lt512, then-units-lt512-via-else-units-lt512+then-row-lt4}

pub returns-then-units-lt512 : goal.returns-then-units-lt512
returns-then-units-lt512 c = asks_short _ _ (storage_row_of c.args.written) 4 _ _ (elim c.then-units-lt512.branch [
  | then-units-lt512-via-then-units-lt512 w ↦ inl w.if-units-lt512.true
  | then-units-lt512-via-else-units-lt512+then-row-lt4 w ↦ inr w.if-row-lt4.true
])

pub returns-in_err-uses : goal.returns-in_err-uses
returns-in_err-uses c =
    let p = err_from_is_err_and c.from_residual.result c.from_residual.ensures.1 in
    rw (p.1, p.2) (asks_sought _ _ (storage_row_of c.args.written) 4 _ _ (search rules) (search rules) _ _ c.rows_at.ensures _ c.in_err-uses.was)

pub returns : goal.returns
returns c =
    let s = shown _ _ _ _ c.rows_at.ensures _ c.in_ok-uses.was in
    asks_given _ _ (storage_row_of c.args.written) 4 _ _ (search rules) (search rules) _ _ _ _ (four _ _ c.storages_of.ensures) s (storages_asked _ _ c.args.units.now _ _ _ s c.args.written _ _ c.asked.ensures c.storages_of.ensures)
