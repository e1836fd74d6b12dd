-- `take_block` meets its contract. The invariant: the steps from entry i on are noted, the last first, and the live row is what is live before them.
-- Assumes nothing.
use Prim.Native.Nat.{◌≤◌}
use Rattle.graph.specs.Walking.{BlockTaken}
use Rattle.graph.proofs.walk.take_block.Given as goal

abbrev pub invariant-loop-i : goal.invariant-loop-i
invariant-loop-i l = (l.first ≤ l.i) × BlockTaken l.basis l.own l.steps l.last l.i l.initial.live l.initial.sketch l.live l.sketch
