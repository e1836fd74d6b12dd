-- `take_block` meets its contract. The invariant: the steps from entry i on are noted, the last first, and the live row is what is live before them.
-- Assumes nothing.
use native.Mathlib.Omega.{arith}
use mathlib.Core.Path.{◌≡◌, refl, subst}
use Prim.Native.Nat.{ℕ, ◌-◌}
use Rattle.graph.specs.Walking.{BlockTaken}
use Rattle.graph.proofs.Stepping.{block_none, block_more}
use Rattle.graph.proofs.walk.take_block.Goals as goal

pub loop-i-init : goal.loop-i-init
loop-i-init c = (omega arith, block_none _ _ _ _ _ _)

pub loop-i-preserved : goal.loop-i-preserved
loop-i-preserved c =
    let l = c.loop-i in
    (omega arith, block_more _ _ _ _ _ _ l.i (l.i - 1) _ _ _ _ _ (omega arith) refl refl l.invariant.1 c.take_step.ensures)

pub returns : goal.returns
returns c =
    let l = c.loop-i in
    let e : l.i ≡ c.args.first = omega arith in
    subst (λ (x : ℕ). BlockTaken c.args.basis c.args.own c.args.steps.now c.args.last x c.args.live.now c.args.sketch.now l.live l.sketch) e l.invariant.1
