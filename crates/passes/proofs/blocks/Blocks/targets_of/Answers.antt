-- `passes::Blocks::targets_of` meets its contract. The part that it hands out is the one of the definition,
-- which is empty where it would end before it begins. Assumes nothing.
use Rattle.std.proofs.Common.{◌≡◌, ◌+◌, ◌-◌, get_or, refl, arith}
use Rattle.passes.specs.Passes.{part, targets_of}
use Rattle.passes.proofs.blocks.Blocks.targets_of.Goals as goal

pub returns-then-to-from : goal.returns-then-to-from
unfolding targets_of part
returns-then-to-from c =
    let starts = c.args.self.now.starts.now in
    let e : get_or starts (c.args.k + 1) 0 - get_or starts c.args.k 0 ≡ 0 = omega arith in
    rw e

pub returns : goal.returns
unfolding targets_of part
returns c = refl
