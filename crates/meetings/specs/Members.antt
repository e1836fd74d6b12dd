-- The numbers of a row in rising order, and the first of them at or above a number: what a walk over a row sees. Document 01, "Refusal numbers" (rows).
use Rattle.std.specs.Prelude.{◌≡◌, true, false, List, [], ◌∷◌, ℕ, zero, suc, ◌*◌, ◌-◌, ◌≤◌, ◌<◌, length, get_or}
use Rattle.rows.specs.Row.{bit, member}
use Rattle.fields.specs.Pick.{pick}

-- The lowest bit of a word that is set.
pub record Lowest (w k : ℕ) : Type 0 where
  pub small : k < 64
  pub there : bit w k ≡ true
  pub none : (i : ℕ) → i < k → bit w i ≡ false

-- The first word of a row, at or above a place, that is not 0; the row's length where there is none.
pub record Filled (r : List ℕ) (from found : ℕ) : Type 0 where
  pub low : from ≤ found
  pub high : found ≤ length r
  pub none : (k : ℕ) → from ≤ k → k < found → get_or r k 0 ≡ 0
  pub there : found < length r → 0 < get_or r found 0

-- The first number of a row at or above a number; where there is none, the number just past the row's words.
pub record First (r : List ℕ) (from found : ℕ) : Type 0 where
  pub low : from ≤ found
  pub high : found ≤ 64 * length r
  pub none : (k : ℕ) → from ≤ k → k < found → member r k ≡ false
  pub there : found < 64 * length r → member r found ≡ true

-- Those of the k numbers from n on that are in the row; all from n on; all.
unfoldable pub members_from : List ℕ → ℕ → ℕ → List ℕ
members_from r n zero = []
members_from r n (suc k) = pick (member r n) (n ∷ members_from r (suc n) k) (members_from r (suc n) k)

unfoldable pub ahead : List ℕ → ℕ → List ℕ
ahead r n = members_from r n (64 * length r - n)

abbrev pub members : List ℕ → List ℕ
members r = ahead r 0
