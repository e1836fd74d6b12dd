-- `take_blocks` meets its contract. The invariant: the blocks below b are noted, in file order.
-- Assumes nothing.
use Rattle.graph.specs.Walking.{BlocksTaken}
use Rattle.graph.proofs.walk.take_blocks.Given as goal

abbrev pub invariant-loop-b : goal.invariant-loop-b
invariant-loop-b l = BlocksTaken l.basis l.own l.findings l.count l.rows l.b l.initial.sketch l.sketch
