-- `passes::settle` meets its contract. The invariant: p passes have run and each changed the live sets, of which there are at most count + 1,
-- so the first pass that changes nothing comes in time and the loop never runs out; what a pass tracks, the next one needs. Assumes nothing.
use mathlib.Core.Path.{refl}
use Prim.Native.Nat.{◌+◌}
use lib.Dec.{eqb}
use Rattle.passes.proofs.Passing.{running_start, running_step, running_done}
use Rattle.passes.proofs.Tracking.{tracked_start, tracked_next}
use Rattle.passes.proofs.settle.Goals as goal

pub loop-p-init : goal.loop-p-init
loop-p-init c = record { ran = running_start _ _ _ _ _ _ c.requires; tracked = tracked_start _ _ _ _ _ _ _ refl }

pub returns-then-not-pass : goal.returns-then-not-pass
returns-then-not-pass c =
    let l = c.loop-p in
    running_done _ _ _ _ _ _ _ l.p l.invariant.ran _ c.if-not-pass.true c.pass.ensures.passed

pub loop-p-preserved : goal.loop-p-preserved
loop-p-preserved c =
    let l = c.loop-p in
    let v = c.pass.ensures in
    record { ran = running_step _ _ _ _ _ _ _ l.p l.invariant.ran _ c.if-not-pass.false v.passed; tracked = tracked_next _ _ _ _ _ _ _ _ (eqb (l.p + 1) 0) v.tracked }
