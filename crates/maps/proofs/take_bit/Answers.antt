-- `maps::take_bit` meets its contract. The one store is the one of the definition,
-- since a shift within the byte loses nothing. Assumes nothing.
use mathlib.Core.Path.{◌≡◌, ◌∙◌}
use Prim.Native.Nat.{◌*◌, ◌%◌, ◌^◌}
use native.Mathlib.Nat.{one-mul}
use native.Mathlib.Omega.{arith}
use lib.Pow.{shl_exact}
use Rattle.maps.specs.Maps.{set_bit}
use Rattle.maps.proofs.take_bit.Goals as goal

pub returns : goal.returns
unfolding set_bit
returns c =
    let k = c.args.bit in
    let e : (1 * 2 ^ k) % 2 ^ 8 ≡ 2 ^ k = shl_exact 1 k 8 (omega arith) (omega arith) ∙ one-mul (2 ^ k) in
    rw e
