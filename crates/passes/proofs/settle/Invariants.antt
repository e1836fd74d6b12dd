-- `passes::settle` meets its contract. The invariant: p passes have run and each changed the live sets, of which there are at most count + 1,
-- so the first pass that changes nothing comes in time and the loop never runs out; what a pass tracks, the next one needs. Assumes nothing.
use Rattle.std.proofs.Common.{eqb}
use Rattle.passes.specs.Blocks.{TrackedIn}
use Rattle.passes.proofs.Passing.{Running}
use Rattle.passes.proofs.settle.Given as goal

abbrev pub invariant-loop-p : goal.invariant-loop-p
invariant-loop-p l = record {
  ran : Running l.blocks.gens.now l.blocks.kills.now l.blocks.targets.now l.blocks.starts.now l.blocks.count l.live l.p;
  tracked : TrackedIn l.blocks (eqb l.p 0) l.live l.moved l.blocks.count;
}
