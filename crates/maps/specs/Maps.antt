-- Document 01, "Placement": occupancy maps. A map is a list of bytes, and a set bit of it is taken.
use Rattle.std.specs.Prelude.{◌≡◌, Bool, true, false, not, ◌&&◌, List, [], ◌∷◌, ℕ, zero, suc, ◌+◌, ◌^◌, ◌≤◌, ◌<◌, ltb, leb, eqb, length, get_or, set, drop, Option, Some, None}
use Rattle.std.specs.Int.Bits.{bit_or}
use Rattle.rows.specs.Row.{bit}
use Rattle.fields.specs.Pick.{pick}

-- No byte below `o` is clear.
abbrev pub TakenBelow : List ℕ → ℕ → Type 0
TakenBelow m o = (j : ℕ) → j < o → get_or m j 0 ≡ 0 → ⊥

-- From `o` on, the first offset whose byte is clear, or the end of the map.
pub record NextClear (m : List ℕ) (o r : ℕ) : Type 0 where
  pub behind : o ≤ r
  pub inside : r ≤ length m
  pub taken : (j : ℕ) → j < r → o ≤ j → get_or m j 0 ≡ 0 → ⊥
  pub clear : r < length m → get_or m r 0 ≡ 0

-- The map begins with n clear bytes.
unfoldable pub clears : ℕ → List ℕ → Bool
clears zero m = true
clears (suc n) [] = false
clears (suc n) (b ∷ m) = let rest = clears n m in eqb b 0 && rest

abbrev pub later : Option ℕ → Option ℕ
later None = None
later (Some o) = Some (suc o)

-- The first clear window: the least offset from which n bytes are clear.
unfoldable pub first_window : ℕ → List ℕ → Option ℕ
first_window n [] = None
first_window n (b ∷ m) = let rest = later (first_window n m) in pick (clears n (b ∷ m)) (Some 0) rest

-- What is found lies below n.
abbrev pub FoundIn : ℕ → Option ℕ → Type 0
FoundIn n None = Unit {0}
FoundIn n (Some o) = o < n

-- Of the n bits of a byte from bit k on, the first that is clear; the lowest clear bit of a byte.
unfoldable pub low_from : ℕ → ℕ → ℕ → Option ℕ
low_from zero k b = None
low_from (suc n) k b = let rest = low_from n (suc k) b in pick (bit b k) rest (Some k)

unfoldable pub low_clear : ℕ → Option ℕ
low_clear b = low_from 8 0 b

-- That bit of byte i, or what comes below.
abbrev pub or_below : ℕ → Option ℕ → Option (ℕ × ℕ) → Option (ℕ × ℕ)
or_below i None below = below
or_below i (Some k) below = Some (i, k)

-- The search for a bit goes down: the highest of the bytes lo to hi - 1 that has a clear bit, and in it the lowest.
unfoldable pub high_bit : ℕ → ℕ → List ℕ → Option (ℕ × ℕ)
high_bit lo zero m = None
high_bit lo (suc i) m = let below = high_bit lo i m in pick (ltb i lo) None (or_below i (low_clear (get_or m i 0)) below)

-- A found bit is one of a byte below n.
abbrev pub BitIn : ℕ → Option (ℕ × ℕ) → Type 0
BitIn n None = Unit {0}
BitIn n (Some (o, k)) = (o < n) × (k < 8)

-- The n bytes from o on lie inside the map and are clear; so does bit k of byte o, and is.
unfoldable pub clear_bytes : ℕ → ℕ → List ℕ → Bool
clear_bytes o n m = leb (o + n) (length m) && clears n (drop o m)

unfoldable pub clear_bit : ℕ → ℕ → List ℕ → Bool
clear_bit o k m = ltb o (length m) && not (bit (get_or m o 0) k)

-- The n bytes from o on are taken; bit k of byte o is. What else is in the map stays.
unfoldable pub fill : ℕ → ℕ → List ℕ → List ℕ
fill o n [] = []
fill zero zero (b ∷ m) = b ∷ m
fill zero (suc n) (b ∷ m) = 255 ∷ fill zero n m
fill (suc o) n (b ∷ m) = b ∷ fill o n m

unfoldable pub set_bit : ℕ → ℕ → List ℕ → List ℕ
set_bit o k m = set m o (bit_or (get_or m o 0) (2 ^ k))
