-- `passes::pass` meets its contract. The invariant: sweeping the blocks below k comes to the whole pass, and these are as they were,
-- so a turn that changes a row shows that the pass changes the live sets; and what the turns track is kept. Assumes nothing.
use native.Mathlib.Omega.{arith}
use Rattle.passes.proofs.Passing.{passing_start, passing_again, passing_done}
use Rattle.passes.proofs.pass.Goals as goal

pub loop-k-init : goal.loop-k-init
loop-k-init c = record { swept = passing_start _ _ _ _ _ _ c.requires.0; tracked = c.requires.1 }

pub loop-k-preserved : goal.loop-k-preserved
loop-k-preserved c =
    let l = c.loop-k in
    let v = c.turn-changed.ensures in
    record {
      swept = passing_again _ _ _ _ _ c.args.blocks.now.given _ _ _ _ l.k (omega arith) l.invariant.swept _ (λ i. (c.type_inv.live i).fits) v.live_after.0 v.live_after.1;
      tracked = v.tracked_after;
    }

pub returns-clause-passed : goal.returns-clause-passed
returns-clause-passed c = passing_done _ _ _ _ _ _ _ _ _ (omega arith) c.loop-k.invariant.swept
