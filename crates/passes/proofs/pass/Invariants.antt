-- `passes::pass` meets its contract. The invariant: sweeping the blocks below k comes to the whole pass, and these are as they were,
-- so a turn that changes a row shows that the pass changes the live sets; and what the turns track is kept. Assumes nothing.
use Rattle.passes.specs.Blocks.{TrackedIn}
use Rattle.passes.proofs.Passing.{Passing}
use Rattle.passes.proofs.pass.Given as goal

abbrev pub invariant-loop-k : goal.invariant-loop-k
invariant-loop-k l = record {
  swept : Passing l.blocks.gens.now l.blocks.kills.now l.blocks.targets.now l.blocks.starts.now l.blocks.count l.initial.live l.live l.changed l.k;
  tracked : TrackedIn l.blocks l.first l.live l.moved l.k;
}
