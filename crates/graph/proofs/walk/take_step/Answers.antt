-- `take_step` meets its contract: the rows are those of what the step reads and writes, and what is added by them is what the step adds.
-- Assumes nothing.
use Rattle.rows.proofs.Rows.{part_row}
use Rattle.graph.proofs.Stepping.{rows_kept_at, rows_asked, step_taken}
use Rattle.graph.proofs.walk.take_step.Goals as goal

pub returns-then-i-lt-KEPT : goal.returns-then-i-lt-KEPT
returns-then-i-lt-KEPT c =
    let n = c.note_step.ensures in
    step_taken _ _ _ _ _ _ _ _ _ _ _ c.instruction_at-op.ensures (rows_kept_at _ _ _ c.args.steps.now _ _ c.if-i-lt-KEPT.true (part_row _ _ _) (part_row _ _ _)) n.meets n.copies n.addressed n.live

pub returns : goal.returns
returns c =
    let n = c.note_step-2.ensures in
    step_taken _ _ _ _ _ _ _ _ _ _ _ c.instruction_at-op.ensures (rows_asked _ _ _ c.args.steps.now _ _ _ c.uses_at.ensures.uses) n.meets n.copies n.addressed n.live
