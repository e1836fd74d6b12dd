-- `close` meets its contract. The invariant: the storages still to come make of the graph now what all of them make of it at the start.
-- Assumes nothing.
use native.Mathlib.Omega.{arith}
use Rattle.rows.proofs.Rows.{part_row}
use Rattle.meetings.proofs.Closes.{close_start, close_on, close_end}
use Rattle.meetings.proofs.close.close.Goals as goal

pub loop-i-init : goal.loop-i-init
loop-i-init c = close_start _ _ _ _ (omega arith)

pub loop-i-preserved : goal.loop-i-preserved
loop-i-preserved c =
    close_on _ _ _ _ c.loop-i.invariant _ _ c.loop-i-test.true (omega arith) (part_row _ _ _) c.close_row.ensures

pub returns : goal.returns
returns c = close_end _ _ _ _ c.loop-i.invariant c.loop-i-test.false
