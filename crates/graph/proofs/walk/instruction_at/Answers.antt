-- `instruction_at` meets its contract: the kind byte says whether the operation counts.
-- Assumes nothing.
use Rattle.graph.proofs.Stepping.{op_yes, op_no}
use Rattle.graph.proofs.walk.instruction_at.Goals as goal

pub returns-then-file-at-eq5 : goal.returns-then-file-at-eq5
returns-then-file-at-eq5 c = search (op_yes)

pub returns : goal.returns
returns c = search (op_no)
