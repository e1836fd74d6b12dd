-- A test that antt computes at each number below n gives the fact at each, since a number below suc n is n or is below n.
-- Assumes nothing.
use mathlib.Core.Path.{◌≡◌, refl, subst, sym}
use mathlib.Core.Bool.{Bool, true, false, ◌&&◌}
use Prim.Native.Nat.{ℕ, zero, suc, ◌<◌}
use native.Mathlib.Nat.{not-suc-le-zero}
use native.Mathlib.Omega.{arith}
use lib.Dec.{T, eqb}
use borrow.Author.Tests.{eqb-true, eqb-false}

-- The test passes at each number below n.
abbrev pub every : (ℕ → Bool) → ℕ → Bool
every p zero = true
every p (suc n) = p n && every p n

both : (a b : Bool) → T (a && b) → T a × T b
both true b t = (tt, t)
both false b t = elim t [ ]

step : (p : ℕ → Bool) (n k : ℕ) → T (p n) → (k < n → T (p k)) → k < suc n → (t : Bool) → eqb k n ≡ t → T (p k)
step p n k h rest lt true e = subst (λ (m : ℕ). T (p m)) (sym (eqb-true k n e)) h
step p n k h rest lt false e = let ne : (k ≡ n → ⊥) = eqb-false k n e in rest (omega arith)

pub below : (p : ℕ → Bool) (n : ℕ) → T (every p n) → (k : ℕ) → k < n → T (p k)
below p zero t k h = absurd (not-suc-le-zero h)
below p (suc n) t k h = let b = both (p n) (every p n) t in step p n k b.0 (λ l. below p n b.1 k l) h (eqb k n) refl
