-- `take_blocks` meets its contract. The invariant: the blocks below b are noted, in file order.
-- Assumes nothing.
use native.Mathlib.Omega.{arith}
use mathlib.Core.Path.{◌≡◌, subst}
use Prim.Native.Nat.{ℕ}
use Rattle.graph.specs.Walking.{BlocksTaken}
use Rattle.graph.proofs.Blocking.{blocks_none, blocks_more}
use Rattle.graph.proofs.walk.take_blocks.Goals as goal

pub loop-b-init : goal.loop-b-init
loop-b-init c = blocks_none _ _ _ _ _ _

pub loop-b-preserved : goal.loop-b-preserved
loop-b-preserved c = blocks_more _ _ _ _ _ _ c.loop-b.b _ _ (omega arith) c.loop-b.invariant c.take_one.ensures

pub returns : goal.returns
returns c =
    let l = c.loop-b in
    let e : l.b ≡ c.args.count = omega arith in
    subst (λ (x : ℕ). BlocksTaken c.args.basis c.args.own c.args.findings.now c.args.count c.args.rows.now x c.args.sketch.now l.sketch) e l.invariant
