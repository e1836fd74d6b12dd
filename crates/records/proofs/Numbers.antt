-- Laws of lists without repetition, for code that keeps them as bit rows and arrays: `has_snoc` (one more member), `number_low` and `number_at` (a
-- unit's number is a place of its word), `number_stays` (a new unit leaves the others their numbers). Assumes nothing.
use mathlib.Core.Path.{◌≡◌, refl, sym, ap}
use mathlib.Core.Bool.{Bool, true, false, true≢false}
use mathlib.Core.List.{List, [], ◌∷◌, ◌++◌}
use Prim.Native.Nat.{ℕ, zero, suc, ◌<◌}
use native.Mathlib.Omega.{arith}
use native.Mathlib.Nat.{not-suc-le-zero}
use lib.Dec.{eqb}
use lib.ListN.{length, get_or}
use borrow.Author.Tests.{eqb-true, eq-eqb}
use Rattle.fields.specs.Pick.{pick, ◌or◌, has}
use Rattle.records.specs.Units.{number_in}

pub has_snoc : (x y : ℕ) (ys : List ℕ) → has x (ys ++ (y ∷ [])) ≡ (has x ys or eqb x y)
unfolding has pick
has_snoc x y [] = go (eqb x y)
  where
    go : (t : Bool) → (t or false) ≡ t
    go true = refl
    go false = refl
has_snoc x y (z ∷ ys) = go (eqb x z) (has_snoc x y ys)
  where
    go : (t : Bool) → has x (ys ++ (y ∷ [])) ≡ (has x ys or eqb x y) → (t or has x (ys ++ (y ∷ []))) ≡ ((t or has x ys) or eqb x y)
    go true h = refl
    go false h = h

pub number_low : (word : ℕ) (us : List ℕ) → has word us ≡ true → number_in word us < length us
unfolding number_in has pick
number_low word [] h = absurd (true≢false (sym h))
number_low word (u ∷ us) h = go (eqb word u) h (number_low word us)
  where
    go : (t : Bool) → (t or has word us) ≡ true → (has word us ≡ true → number_in word us < length us) → pick t 0 (suc (number_in word us)) < suc (length us)
    go true h ih = omega arith
    go false h ih = omega (arith, ih h)

pub number_at : (word : ℕ) (us : List ℕ) → has word us ≡ true → get_or us (number_in word us) 0 ≡ word
unfolding number_in has pick
number_at word [] h = absurd (true≢false (sym h))
number_at word (u ∷ us) h = go (eqb word u) refl h (number_at word us)
  where
    go : (t : Bool) → eqb word u ≡ t → (t or has word us) ≡ true → (has word us ≡ true → get_or us (number_in word us) 0 ≡ word) → get_or (u ∷ us) (pick t 0 (suc (number_in word us))) 0 ≡ word
    go true e h ih = sym (eqb-true word u e)
    go false e h ih = ih h

-- a word that stands at a place is in the list
pub at_has : (us : List ℕ) (i : ℕ) → i < length us → has (get_or us i 0) us ≡ true
unfolding has pick
at_has [] i l = absurd (not-suc-le-zero l)
at_has (u ∷ us) zero l = rw (eq-eqb u u refl)
at_has (u ∷ us) (suc i) l = go (eqb (get_or us i 0) u) (at_has us i (omega arith))
  where
    go : (t : Bool) → has (get_or us i 0) us ≡ true → (t or has (get_or us i 0) us) ≡ true
    go true h = refl
    go false h = h

-- numbers stay when units are added
pub number_stays : (word : ℕ) (us vs : List ℕ) → has word us ≡ true → number_in word (us ++ vs) ≡ number_in word us
unfolding number_in has pick
number_stays word [] vs h = absurd (true≢false (sym h))
number_stays word (u ∷ us) vs h = go (eqb word u) h (number_stays word us vs)
  where
    go : (t : Bool) → (t or has word us) ≡ true → (has word us ≡ true → number_in word (us ++ vs) ≡ number_in word us) → pick t 0 (suc (number_in word (us ++ vs))) ≡ pick t 0 (suc (number_in word us))
    go true h ih = refl
    go false h ih = ap suc (ih h)
