-- `passes::turn` meets its contract. Where it leaves the visit out, what is tracked says that a visit would change nothing;
-- and either way the mark of block k is what the contract of a visit answers. Assumes nothing.
use Rattle.passes.proofs.Tracking.{skipped, differs_never, tracked_skip, tracked_turn}
use Rattle.passes.proofs.turn.Goals as goal

pub returns-then-not-leads_to : goal.returns-then-not-leads_to
returns-then-not-leads_to c =
    let q = c.requires in
    let given = c.args.blocks.now.given in
    let f = c.if-not-first.true in
    let n = c.if-not-leads_to.true in
    record {
      live_after = (skipped _ _ _ _ _ given _ _ _ q.live_len.0 _ q.live_len.1 q.tracked f _ c.leads_to.ensures n, differs_never _ _ _ _ _ given _ _);
      tracked_after = tracked_skip _ _ _ _ _ given _ _ _ q.live_len.0 _ q.live_len.1 q.tracked f _ c.leads_to.ensures n;
    }

pub returns-clause-tracked_after : goal.returns-clause-tracked_after
returns-clause-tracked_after c =
    let q = c.requires in
    let v = c.visit-changed.ensures in
    tracked_turn _ _ _ _ _ c.args.blocks.now.given _ _ _ q.live_len.0 _ q.live_len.1 q.tracked _ v.0 _ v.1
