-- A short buffer is refused untouched; else the first 512 words are lent on, and the row that was asked for is handed over on success alone.
-- What lies past the row's eight words and past the 512 stays.
use borrow.Author.Rules.{rules}
use mathlib.Core.Path.{◌∙◌}
use mathlib.Core.Logic.{inl, inr}
use Rattle.std.proofs.lemmas.Result.{err_from_is_err_and}
use Rattle.units.specs.Ask.{row_of}
use Rattle.units.proofs.Asking.{asks_short, asks_sought, asks_given, shown, units_asked}
use Rattle.units.proofs.unit_row.Goals as goal
use Rattle.units.proofs.unit_row.Goals.{then-units-lt512-via-then-units-lt512, then-units-lt512-via-else-units-lt512+then-row-lt8}

pub returns-then-units-lt512 : goal.returns-then-units-lt512
returns-then-units-lt512 c = asks_short _ _ (row_of c.args.written) 8 _ _ (elim c.then-units-lt512.branch [
  | then-units-lt512-via-then-units-lt512 w ↦ inl w.if-units-lt512.true
  | then-units-lt512-via-else-units-lt512+then-row-lt8 w ↦ inr w.if-row-lt8.true
])

pub returns-in_err-uses : goal.returns-in_err-uses
returns-in_err-uses c =
    let p = err_from_is_err_and c.from_residual.result c.from_residual.ensures.1 in
    rw (p.1, p.2) (asks_sought _ _ (row_of c.args.written) 8 _ _ (search rules) (search rules) _ _ c.rows_at.ensures _ c.in_err-uses.was)

pub returns : goal.returns
returns c =
    let s = shown _ _ _ _ c.rows_at.ensures _ c.in_ok-uses.was in
    asks_given _ _ (row_of c.args.written) 8 _ _ (search rules) (search rules) _ _ _ _ (search rules) s (units_asked _ _ c.args.units.now _ _ _ s c.args.written _ (c.copy_from_slice.ensures.after ∙ c.asked.ensures))
