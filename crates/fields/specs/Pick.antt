-- A choice by a test, and members of a list. `pick` is no `abbrev`, so that a goal keeps its shape: a proof takes it apart by the laws of tests.
use Rattle.std.specs.Prelude.{◌≡◌, Bool, true, false, List, [], ◌∷◌, ℕ, ◌+◌, eqb}
use Rattle.std.proofs.Common.{ap, le-ltb, lt-ltb, le-leb, eq-eqb, ne_eqb}
use Rattle.std.proofs.lemmas.Bool.{lt-leb}

infixr 35 ◌and◌
infixr 30 ◌or◌
unfoldable pub pick : {A : Type 0} → Bool → A → A → A
pick true a b = a
pick false a b = b

pub pick_yes : {A : Type 0} (t : Bool) (a b : A) → t ≡ true → pick t a b ≡ a
unfolding pick
pick_yes t a b e = ap (λ (u : Bool). pick u a b) e

pub pick_no : {A : Type 0} (t : Bool) (a b : A) → t ≡ false → pick t a b ≡ b
unfolding pick
pick_no t a b e = ap (λ (u : Bool). pick u a b) e

-- A fact in hand decides the test: `search tests`.
pub ruleset tests = (pick_yes, pick_no, le-ltb, lt-ltb, le-leb, lt-leb, eq-eqb, ne_eqb)

-- Both tests; either of them.
abbrev pub ◌and◌ : Bool → Bool → Bool
a and b = pick a b false

abbrev pub ◌or◌ : Bool → Bool → Bool
a or b = pick a true b

-- A number stands in a list; how often it does.
unfoldable pub has : ℕ → List ℕ → Bool
has x [] = false
has x (y ∷ ys) = eqb x y or has x ys

unfoldable pub times : ℕ → List ℕ → ℕ
times x [] = 0
times x (y ∷ ys) = pick (eqb x y) 1 0 + times x ys

-- What holds of each in a list.
abbrev pub All : {A : Type 0} → (A → Type 0) → List A → Type 0
All P [] = Unit {0}
All P (x ∷ xs) = P x × All P xs
