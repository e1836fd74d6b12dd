-- An operand that fits is given to what is open, and its unit is admitted.
-- The check finds the immediate and each refusal by itself.
use mathlib.Core.Path.{◌≡◌, sym, ◌∙◌}
use mathlib.Core.Bool.{true}
use Rattle.fields.specs.Record.{operand, operand_in, u8_at}
use Rattle.records.specs.Step.{with_given, operand_fits}
use Rattle.records.proofs.Counts.{field_late, field_inside}
use Rattle.records.proofs.Held.{now_of, stage_as, targets_is, holds_opened}
use Rattle.records.proofs.Comings.{comes_admit, operand_unit, unit_as}
use Rattle.records.proofs.notes.Notes.take_operand.Goals as goal

pub returns-clause-comes : goal.returns-clause-comes
unfolding operand_in u8_at
returns-clause-comes c =
    λ s e kept h.
    let x = operand_in c.args.tail.now in
    let fits : operand_fits s.now.row s.now.given x ≡ true = sym (c.operand_fits_in.ensures s.now (now_of _ s e) kept.rising) ∙ c.if-not-operand_fits_in.false in
    let given = c.with_given.ensures s.now (now_of _ s e) kept.rising (field_late s.now.row s.now.given x fits) (field_inside s.now.row s.now.given x fits) in
    let on = c.with_now-next.ensures.2 s s.stage (with_given (u8_at c.args.tail.now 1) s.now) e (stage_as _ s e) given in
    comes_admit s _ (operand x) _ _ (targets_is _ s e c.if-o-ne0.false) fits
    (operand_unit s _ x _ _ c.if-shape-eq0.false
    (unit_as _ _ _ _ _ _ _ _ _ c.u16_at.ensures c.u16_at-2.ensures
    (c.admit_unit.ensures.comes _ on (holds_opened s _ h _ _))))
