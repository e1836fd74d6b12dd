-- What the machine's operations on a byte come to, in the words of the definitions: the tests compute at every byte.
-- Assumes nothing.
use Rattle.std.specs.Prelude.{Option, Some, None}
use mathlib.Core.Path.{◌≡◌, refl, ap}
use mathlib.Core.Bool.{Bool, false}
use Prim.Native.Nat.{ℕ, ◌-◌, ◌<◌}
use lib.Dec.{T, eqb, ltb, eqb→eq, ltb→lt}
use lib.Count.{count_trailing_zeros}
use Rattle.rows.specs.Row.{digit, bit}
use Rattle.fields.specs.Pick.{pick}
use Rattle.maps.specs.Maps.{low_from, low_clear}
use Rattle.maps.proofs.Below.{below}

abbrev is_at : Option ℕ → ℕ → Bool
is_at None k = false
is_at (Some j) k = eqb j k

is_at_lem : (r : Option ℕ) (k : ℕ) → T (is_at r k) → r ≡ Some k
is_at_lem (Some j) k t = ap Some (eqb→eq j k t)
is_at_lem None k t = elim t [ ]

-- `u8::trailing_zeros(!b)` is the lowest clear bit of a byte that is not full.
pub low_machine : (b : ℕ) → b < 255 → low_clear b ≡ Some (count_trailing_zeros 8 (255 - b))
unfolding low_clear low_from digit bit pick count_trailing_zeros
low_machine b l = is_at_lem (low_clear b) (count_trailing_zeros 8 (255 - b)) (below (λ n. is_at (low_clear n) (count_trailing_zeros 8 (255 - n))) 255 tt b l)

pub low_small : (b : ℕ) → b < 255 → count_trailing_zeros 8 (255 - b) < 8
unfolding count_trailing_zeros
low_small b l = ltb→lt (count_trailing_zeros 8 (255 - b)) 8 (below (λ n. ltb (count_trailing_zeros 8 (255 - n)) 8) 255 tt b l)

pub low_full : low_clear 255 ≡ None
unfolding low_clear low_from digit bit pick
low_full = refl
