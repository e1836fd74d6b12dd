-- `unit_rows` meets its contract. The invariant: the units still to come make of the rows now what all of them make of the rows at the start.
-- Assumes nothing.
use native.Mathlib.Omega.{arith}
use Rattle.meetings.proofs.Walks.{enter_start, enter_on, enter_end}
use Rattle.meetings.proofs.meet.unit_rows.Goals as goal

pub loop-n-init : goal.loop-n-init
loop-n-init c = enter_start _ _ _ (omega arith)

pub loop-n-preserved : goal.loop-n-preserved
loop-n-preserved c =
    enter_on _ _ _ c.loop-n.invariant _ _ c.loop-n-test.true (omega arith) c.storage_of.ensures.0 c.insert.ensures

pub returns : goal.returns
returns c = enter_end _ _ _ c.loop-n.invariant c.loop-n-test.false
