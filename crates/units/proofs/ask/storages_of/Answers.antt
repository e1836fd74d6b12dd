-- The row holds the storages of the numbers passed so far, so that at the end it holds those of all 512.
-- A number whose bit is not set adds none.
use mathlib.Core.Path.{sym, ◌∙◌}
use borrow.Author.Rules.{rules}
use Rattle.units.proofs.Storages.{storages_start, storages_no, storages_yes}
use Rattle.units.proofs.ask.storages_of.Goals as goal
use Rattle.units.proofs.ask.storages_of.Goals.{then-has, else-has}

pub loop-n-init : goal.loop-n-init
loop-n-init c = storages_start _ _ _ _ (search rules) c.clear.ensures

pub loop-n-preserved : goal.loop-n-preserved
loop-n-preserved c = elim c.if-has.branch [
  | then-has w ↦ storages_yes _ _ _ _ _ _ c.loop-n.invariant (sym c.has.ensures ∙ w.if-has.true) w.storage_in.ensures.0 w.storage_in.ensures.1 (w.row-is ∙ w.insert.ensures)
  | else-has w ↦ w.row-is ∙ storages_no _ _ _ _ c.loop-n.invariant (sym c.has.ensures ∙ w.if-has.false)
]
