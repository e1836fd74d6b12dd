-- `passes::gather` meets its contract. The invariant: joining the targets that are left comes to what joining all of them comes to,
-- so a turn takes the first of those that are left, and at the end none is left. Assumes nothing.
use Rattle.std.proofs.Common.{◌≡◌, length, drop}
use Rattle.passes.specs.Passes.{width, joined_all}
use Rattle.passes.proofs.gather.Given as goal

abbrev pub invariant-loop-t : goal.invariant-loop-t
invariant-loop-t l = record {
  len : length l.out ≡ width;
  rest : joined_all l.live l.blocks.count (drop l.t-index l.t-items) l.out ≡ joined_all l.live l.blocks.count l.t-items l.initial.out;
}
