-- `ids_below` meets its contract. The invariant: the number so far is above the ids of the storages of all units gone through.
-- Assumes nothing.
use Prim.Native.Nat.{◌+◌}
use native.Mathlib.Omega.{arith}
use Rattle.meetings.proofs.Closes.{max_left, max_right, max_below, above_on, above_all}
use Rattle.meetings.proofs.close.ids_below.Goals as goal

pub loop-n-init : goal.loop-n-init
loop-n-init c = (omega arith, omega arith, record { below = λ k l. absurd (omega arith) })

pub loop-n-preserved : goal.loop-n-preserved
loop-n-preserved c =
    let s = c.storage_of.ensures in
    let i = c.loop-n.invariant in
    (omega arith, max_below c.loop-n.top (c.storage_of.result + 1) 256 _ c.max-top.ensures i.1 (omega (arith, s.1)), above_on _ _ _ _ _ i.2 s.0 (max_left _ _ _ c.max-top.ensures) (max_right _ _ _ c.max-top.ensures))

pub returns : goal.returns
returns c =
    let i = c.loop-n.invariant in
    (i.1, above_all _ _ _ _ (omega arith) i.2)
