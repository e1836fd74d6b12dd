-- Lists as sets of numbers: what the definitions of the analysis are written with. `has` is that of records.
use Rattle.std.specs.Prelude.{Bool, true, false, List, [], ◌∷◌, ◌++◌, ℕ}
use Rattle.fields.specs.Pick.{pick, ◌or◌, has}

-- The elements that pass a test, in order.
unfoldable pub select : {A : Type 0} → (A → Bool) → List A → List A
select t [] = []
select t (a ∷ l) = pick (t a) (a ∷ select t l) (select t l)

-- One element passes a test.
unfoldable pub any : {A : Type 0} → (A → Bool) → List A → Bool
any t [] = false
any t (a ∷ l) = t a or any t l

-- What each element gives, one after another.
unfoldable pub each : {A B : Type 0} → (A → List B) → List A → List B
each f [] = []
each f (a ∷ l) = f a ++ each f l

-- A set without the numbers of another.
unfoldable pub less : List ℕ → List ℕ → List ℕ
less l gone = select (λ u. pick (has u gone) false true) l
