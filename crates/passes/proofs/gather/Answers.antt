-- `passes::gather` meets its contract. The invariant: joining the targets that are left comes to what joining all of them comes to,
-- so a turn takes the first of those that are left, and at the end none is left. Assumes nothing.
use Rattle.std.proofs.Common.{◌∙◌, sym, arith}
use Rattle.passes.proofs.Passing.{joined_len, gathering_step, gathering_end}
use Rattle.passes.proofs.gather.Goals as goal

pub loop-t-preserved : goal.loop-t-preserved
loop-t-preserved c =
    let l = c.loop-t in
    record {
      len = rw c.join.ensures (joined_len _ _ c.requires.1 c.args.blocks.now.given.few _ _ l.invariant.len);
      rest = rw c.join.ensures (sym (gathering_step _ _ _ l.t-index _ (omega arith)) ∙ l.invariant.rest);
    }

pub returns : goal.returns
returns c =
    let l = c.loop-t in
    rw (← c.targets_of-t-items.ensures) (sym (gathering_end _ _ _ l.t-index _ (omega arith)) ∙ l.invariant.rest)
