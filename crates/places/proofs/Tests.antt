-- Two tests as facts, and what holds of each in a list or of one. A test of two tests is settled by the first of them, and a test over a list by its elements
-- from the front, so each law here follows by cases or by recursion on the list.
use mathlib.Core.Path.{subst}
use mathlib.Core.Logic.{◌⊎◌, inl, inr}
use mathlib.Core.Bool.{Bool, true, false}
use mathlib.Core.List.{List, [], ◌∷◌, ◌++◌}
use Prim.Native.Nat.{ℕ, zero, suc, ◌<◌}
use native.Mathlib.Nat.{not-suc-le-zero, le_of_suc-le-suc}
use lib.Dec.{T, eqb, eqb→eq}
use lib.ListN.{length, get_or}
use Rattle.fields.specs.Pick.{pick, ◌and◌, ◌or◌, All}
use Rattle.units.specs.Sets.{any}
use Rattle.places.specs.Legal.{Pairs}

-- ---- Two tests

pub and_l : (a b : Bool) → T (a and b) → T a
unfolding pick
and_l true b t = tt
and_l false b t = elim t [ ]

pub and_r : (a b : Bool) → T (a and b) → T b
unfolding pick
and_r true b t = t
and_r false b t = elim t [ ]

pub and_in : (a b : Bool) → T a → T b → T (a and b)
unfolding pick
and_in true b p q = q
and_in false b p q = elim p [ ]

pub or_cases : (a b : Bool) → T (a or b) → T a ⊎ T b
unfolding pick
or_cases true b t = inl tt
or_cases false b t = inr t

pub or_l : (a b : Bool) → T a → T (a or b)
unfolding pick
or_l true b t = tt
or_l false b t = elim t [ ]

pub or_r : (a b : Bool) → T b → T (a or b)
unfolding pick
or_r true b t = tt
or_r false b t = t

-- ---- One of a list

module _ {A : Type 0} (p : A → Bool) where
  pub any_left : (xs ys : List A) → T (any p xs) → T (any p (xs ++ ys))
  unfolding any
  any_left (x ∷ xs) ys t = go (or_cases (p x) (any p xs) t) (any_left xs ys)
    where
      go : T (p x) ⊎ T (any p xs) → (T (any p xs) → T (any p (xs ++ ys))) → T (p x or any p (xs ++ ys))
      go (inl h) ih = or_l (p x) (any p (xs ++ ys)) h
      go (inr h) ih = or_r (p x) (any p (xs ++ ys)) (ih h)
  any_left [] ys t = elim t [ ]

  pub any_last : (xs : List A) (y : A) → T (p y) → T (any p (xs ++ (y ∷ [])))
  unfolding any
  any_last [] y t = or_l (p y) false t
  any_last (x ∷ xs) y t = or_r (p x) (any p (xs ++ (y ∷ []))) (any_last xs y t)

-- Where no number passes, a number of the list does not.
pub any_none : (p : ℕ → Bool) (xs : List ℕ) (v : ℕ) → T (any (eqb v) xs) → (T (any p xs) → ⊥) → T (p v) → ⊥
unfolding any
any_none p (x ∷ xs) v t h q = go (or_cases (eqb v x) (any (eqb v) xs) t) (any_none p xs v)
  where
    go : T (eqb v x) ⊎ T (any (eqb v) xs) → (T (any (eqb v) xs) → (T (any p xs) → ⊥) → T (p v) → ⊥) → ⊥
    go (inl e) ih = h (or_l (p x) (any p xs) (subst (λ (n : ℕ). T (p n)) (eqb→eq v x e) q))
    go (inr m) ih = ih m (λ r. h (or_r (p x) (any p xs) r)) q
any_none p [] v t h q = elim t [ ]

-- ---- Each of a list, and each two

module _ {A : Type 0} where
  pub all_snoc : (P : A → Type 0) (xs : List A) (y : A) → All P xs → P y → All P (xs ++ (y ∷ []))
  all_snoc P [] y h p = (p, tt)
  all_snoc P (x ∷ xs) y h p = (h.0, all_snoc P xs y h.1 p)

  pub all_map : (P Q : A → Type 0) (xs : List A) → ((x : A) → P x → Q x) → All P xs → All Q xs
  all_map P Q [] f h = tt
  all_map P Q (x ∷ xs) f h = (f x h.0, all_map P Q xs f h.1)

  pub all_map₂ : (P Q R : A → Type 0) (xs : List A) → ((x : A) → P x → Q x → R x) → All P xs → All Q xs → All R xs
  all_map₂ P Q R [] f h k = tt
  all_map₂ P Q R (x ∷ xs) f h k = (f x h.0 k.0, all_map₂ P Q R xs f h.1 k.1)

  pub all_at : (P : A → Type 0) (xs : List A) (d : A) → All P xs → (i : ℕ) → i < length xs → P (get_or xs i d)
  all_at P [] d h i l = absurd (not-suc-le-zero l)
  all_at P (x ∷ xs) d h zero l = h.0
  all_at P (x ∷ xs) d h (suc i) l = all_at P xs d h.1 i (le_of_suc-le-suc l)

  pub pairs_snoc : (R : A → A → Type 0) (xs : List A) (y : A) → Pairs R xs → All (λ x. R x y) xs → Pairs R (xs ++ (y ∷ []))
  pairs_snoc R [] y h p = (tt, tt)
  pairs_snoc R (x ∷ xs) y h p = (all_snoc (R x) xs y h.0 p.0, pairs_snoc R xs y h.1 p.1)

  pub pairs_at : (R : A → A → Type 0) (xs : List A) (d : A) → Pairs R xs → (i j : ℕ) → i < j → j < length xs → R (get_or xs i d) (get_or xs j d)
  pairs_at R [] d h i j l b = absurd (not-suc-le-zero b)
  pairs_at R (x ∷ xs) d h i zero l b = absurd (not-suc-le-zero l)
  pairs_at R (x ∷ xs) d h zero (suc j) l b = all_at (R x) xs d h.0 j (le_of_suc-le-suc b)
  pairs_at R (x ∷ xs) d h (suc i) (suc j) l b = pairs_at R xs d h.1 i j (le_of_suc-le-suc l) (le_of_suc-le-suc b)
