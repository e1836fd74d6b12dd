-- Each way out is one law of what a record adds: a target, an operand, a step with its operands, whose rows are written where those of its number stand.
-- The record is whole, so the places behind it lie in the file. Assumes nothing.
use borrow.Author.Rules.{rules}
use Rattle.liveness.proofs.Taking.{target_fits, step_fits, taken_target, taken_operand, taken_step}
use Rattle.liveness.proofs.survey.take_record.Goals as goal

pub u16_at-requires : goal.u16_at-requires
u16_at-requires c = target_fits _ _ _ c.requires.2 c.if-kind-eq8.true

pub returns-then-kind-eq8 : goal.returns-then-kind-eq8
returns-then-kind-eq8 c =
    let p = c.requires in
    taken_target _ _ _ _ _ _ _ _ _ _ p.1 p.2 p.3 _ c.if-kind-eq8.true (search rules) c.args.source.short c.u16_at.ensures

pub returns-then-kind-eq6 : goal.returns-then-kind-eq6
returns-then-kind-eq6 c =
    let p = c.requires in
    taken_operand _ _ _ _ _ _ _ _ _ _ p.1 p.2 p.3 c.if-kind-eq6.true

pub step_rows-next-requires : goal.step_rows-next-requires
step_rows-next-requires c =
    let p = c.requires in
    record { site = (p.0, p.1.0, step_fits _ _ _ p.2 c.if-kind-eq8.false c.if-kind-eq6.false); rows = (search rules, search rules) }

pub returns : goal.returns
returns c =
    let p = c.requires in
    let b = c.row_for-b.ensures in
    let u = c.step_rows-next.ensures in
    taken_step _ _ _ _ _ _ _ _ _ _ p.1 p.2 p.3 _ _ _ _ _ _ c.if-kind-eq8.false c.if-kind-eq6.false c.args.source.short (search rules) (search rules) (search rules) (search rules) b.0 b.1
    (search rules) (search rules) u.sound.0 u.sound.1 u.sound.2 u.joined
