-- Where no record is whole, and at a kind outside 5 to 8, no step and no target comes.
-- A whole record of any other kind is the answer.
use native.Mathlib.Omega.{arith}
use Rattle.liveness.proofs.Onward.{outer_none, outer_low, outer_late}
use Rattle.liveness.proofs.survey.inner.Goals as goal

pub returns-in_err-whole_at : goal.returns-in_err-whole_at
returns-in_err-whole_at c = rw c.from_residual.ensures (outer_none c.args.file.now c.args.at c.in_err-whole_at.ensures)

pub returns-in_default : goal.returns-in_default
returns-in_default c = outer_low c.args.file.now c.args.at (omega arith)

pub returns-in_default-2 : goal.returns-in_default-2
returns-in_default-2 c = outer_late c.args.file.now c.args.at (omega arith)
