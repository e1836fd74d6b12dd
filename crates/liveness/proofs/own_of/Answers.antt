-- A number above 255 has no entry; the entries of any other are its place and its count of unit numbers.
-- Assumes nothing.
use mathlib.Core.Path.{refl}
use Prim.Native.Nat.{◌+◌}
use native.Mathlib.Omega.{arith}
use Rattle.liveness.proofs.own_of.Goals as goal

pub overflow_cast-result : goal.overflow_cast-result
overflow_cast-result c = omega (arith, c.type_inv.table c.args.number)

pub overflow_cast-result-2 : goal.overflow_cast-result-2
overflow_cast-result-2 c = omega (arith, c.type_inv.table (256 + c.args.number))

pub returns : goal.returns
returns c =
    let l = c.if-number-ge256.false in
    record { sound = c.requires.sound _ l; far = λ h. absurd (omega arith); near = λ _. (refl, refl) }
