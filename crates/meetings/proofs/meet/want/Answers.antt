-- `want` meets its contract: the row is the live row, and then its union with the row of what is read.
-- Assumes nothing.
use native.Mathlib.Omega.{arith}
use Rattle.meetings.proofs.Walks.{want_row}
use Rattle.meetings.proofs.meet.want.Goals as goal

pub returns : goal.returns
returns c =
    want_row _ _ _ _ _ (omega arith) (omega arith) (omega arith) c.copy_row.ensures c.union_from.ensures
