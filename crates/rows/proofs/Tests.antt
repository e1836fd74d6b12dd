-- Tests as facts. A test is true or it is false, and a test of two tests is settled by the first of them, so each law here follows by cases;
-- two tests are one where each of them implies the other.
use mathlib.Core.Path.{◌≡◌, refl, sym, subst}
use mathlib.Core.Logic.{◌⊎◌, inl, inr}
use mathlib.Core.Bool.{Bool, true, false, ◌&&◌, ◌||◌}
use lib.Dec.{T}

-- ---- one test

pub T_true : (b : Bool) → T b → b ≡ true
T_true true t = refl
T_true false t = elim t [ ]

pub T_yes : {b : Bool} → b ≡ true → T b
T_yes e = subst T (sym e) tt

pub T_false : (b : Bool) → (T b → ⊥) → b ≡ false
T_false true h = absurd (h tt)
T_false false h = refl

pub T_no : {b : Bool} → b ≡ false → T b → ⊥
T_no e t = subst T e t

-- ---- two tests

pub or_cases : (a b : Bool) → T (a || b) → T a ⊎ T b
or_cases true b t = inl t
or_cases false b t = inr t

pub or_l : (a b : Bool) → T a → T (a || b)
or_l true b t = t
or_l false b t = elim t [ ]

pub or_r : (a b : Bool) → T b → T (a || b)
or_r true b t = tt
or_r false b t = t

pub and_l : (a b : Bool) → T (a && b) → T a
and_l true b t = tt
and_l false b t = elim t [ ]

pub and_r : (a b : Bool) → T (a && b) → T b
and_r true b t = t
and_r false b t = elim t [ ]

pub and_in : (a b : Bool) → T a → T b → T (a && b)
and_in true b p q = q
and_in false b p q = elim p [ ]

pub either : (a b : Bool) → (a || b) ≡ true → (a ≡ true) ⊎ (b ≡ true)
either true b e = inl refl
either false b e = inr e

pub antisym : (a b : Bool) → (T a → T b) → (T b → T a) → a ≡ b
antisym true true p q = refl
antisym true false p q = absurd (p tt)
antisym false true p q = absurd (q tt)
antisym false false p q = refl

pub same_test : (a b : Bool) → (a ≡ true → b ≡ true) → (b ≡ true → a ≡ true) → a ≡ b
same_test true b p q = sym (p refl)
same_test false true p q = q refl
same_test false false p q = refl
