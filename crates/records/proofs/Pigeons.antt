-- So many different numbers below n are at most n.
-- Assumes nothing.
use mathlib.Core.Path.{◌≡◌, refl}
use mathlib.Core.Bool.{Bool, true, false, true≢false}
use mathlib.Core.List.{List, [], ◌∷◌}
use Prim.Native.Nat.{ℕ, zero, suc, ◌+◌, ◌≤◌, ◌<◌}
use native.Mathlib.Omega.{arith}
use native.Mathlib.Nat.{not-suc-le-zero}
use lib.Dec.{eqb}
use lib.ListN.{length}
use borrow.Author.Tests.{eqb-true, eqb-false, eq-eqb}
use Rattle.fields.specs.Pick.{pick, ◌or◌, has, times}
use Rattle.records.proofs.Range.{Distinct}

times_none : (v : ℕ) (xs : List ℕ) → has v xs ≡ false → times v xs ≡ 0
unfolding has times pick
times_none v [] h = refl
times_none v (y ∷ ys) h = go (eqb v y) h (times_none v ys)
  where
    go : (t : Bool) → (t or has v ys) ≡ false → (has v ys ≡ false → times v ys ≡ 0) → pick t 1 0 + times v ys ≡ 0
    go true h ih = absurd (true≢false h)
    go false h ih = omega (arith, ih h)

times_once : (v : ℕ) (xs : List ℕ) → Distinct xs → times v xs ≤ 1
unfolding times pick
times_once v [] d = omega arith
times_once v (y ∷ ys) d = go (eqb v y) refl (times_once v ys d.1)
  where
    go : (t : Bool) → eqb v y ≡ t → times v ys ≤ 1 → pick t 1 0 + times v ys ≤ 1
    go true e ih = let q : v ≡ y = eqb-true v y e in let z : times v ys ≡ 0 = rw q (times_none y ys d.0) in omega arith
    go false e ih = omega arith

-- how many of the list are below n
total : ℕ → List ℕ → ℕ
total zero xs = 0
total (suc n) xs = times n xs + total n xs

total_most : (n : ℕ) (xs : List ℕ) → Distinct xs → total n xs ≤ n
unfolding total
total_most zero xs d = omega arith
total_most (suc n) xs d = omega (arith, times_once n xs d, total_most n xs d)

total_nil : (n : ℕ) → total n [] ≡ 0
unfolding total times
total_nil zero = refl
total_nil (suc n) = omega (arith, total_nil n)

total_cons : (n y : ℕ) (ys : List ℕ) → total n (y ∷ ys) ≡ total n (y ∷ []) + total n ys
unfolding total times
total_cons zero y ys = refl
total_cons (suc n) y ys = omega (arith, total_cons n y ys)

total_high : (n y : ℕ) → n ≤ y → total n (y ∷ []) ≡ 0
unfolding total times pick
total_high zero y l = refl
total_high (suc n) y l = go (eqb n y) refl (total_high n y (omega arith))
  where
    go : (t : Bool) → eqb n y ≡ t → total n (y ∷ []) ≡ 0 → pick t 1 0 + 0 + total n (y ∷ []) ≡ 0
    go true e ih = absurd (omega (arith, eqb-true n y e))
    go false e ih = omega arith

total_low : (n y : ℕ) → y < n → total n (y ∷ []) ≡ 1
unfolding total times pick
total_low zero y l = absurd (not-suc-le-zero l)
total_low (suc n) y l = go (eqb n y) refl (total_low n y) (total_high n y)
  where
    go : (t : Bool) → eqb n y ≡ t → (y < n → total n (y ∷ []) ≡ 1) → (n ≤ y → total n (y ∷ []) ≡ 0) → pick t 1 0 + 0 + total n (y ∷ []) ≡ 1
    go true e ih k = omega (arith, k (omega (arith, eqb-true n y e)))
    go false e ih k = omega (arith, ih (below (eqb-false n y e)))
      where
        below : (n ≡ y → ⊥) → y < n
        below q = omega arith

total_all : (n : ℕ) (xs : List ℕ) → ((x : ℕ) → has x xs ≡ true → x < n) → total n xs ≡ length xs
unfolding has pick
total_all n [] h = total_nil n
total_all n (y ∷ ys) h = omega (arith, total_cons n y ys, total_low n y (h y (rw (eq-eqb y y refl))), total_all n ys (λ x k. h x (more x k)))
  where
    more : (x : ℕ) → has x ys ≡ true → (eqb x y or has x ys) ≡ true
    more x k = go (eqb x y)
      where
        go : (t : Bool) → (t or has x ys) ≡ true
        go true = refl
        go false = k

pub distinct_most : (n : ℕ) (xs : List ℕ) → Distinct xs → ((x : ℕ) → has x xs ≡ true → x < n) → length xs ≤ n
distinct_most n xs d h = omega (arith, total_most n xs d, total_all n xs h)
