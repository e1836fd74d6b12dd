-- `maps::take_bytes` meets its contract: what `fill` leaves in the part, between what stands before and behind it,
-- is the map of the definition. Assumes nothing.
use mathlib.Core.Path.{◌≡◌}
use Prim.Native.Nat.{◌+◌, ◌-◌}
use native.Mathlib.Omega.{arith}
use lib.ListN.{length, take, drop, length-drop}
use lib.Seq.{length-take-le}
use Rattle.maps.proofs.Laws.{fill_part}
use Rattle.maps.proofs.take_bytes.Goals as goal

pub returns : goal.returns
returns c =
    let a = c.args in
    let n : a.offset + a.n - a.offset ≡ a.n = omega arith in
    let long : length (take a.n (drop a.offset a.map.now)) ≡ a.n = length-take-le _ _ (omega (arith, length-drop a.offset a.map.now)) in
    rw (c.fill.ensures.after (λ y h. h), n, long) (fill_part _ _ _ c.requires)
