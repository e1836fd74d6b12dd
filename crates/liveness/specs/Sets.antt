-- Document 01, "Liveness and interference": sets of units as lists of numbers that are built by uniting and compared as sets.
use Rattle.std.specs.Prelude.{Bool, true, ◌&&◌, List, [], ◌∷◌, ℕ, ltb, eqb}
use Rattle.fields.specs.Pick.{pick, has}

-- One number more. Lists that are built so rise and hold no number twice, which keeps them short where they compute; no law needs it.
unfoldable pub insert : ℕ → List ℕ → List ℕ
insert u [] = u ∷ []
insert u (a ∷ l) = pick (ltb u a) (u ∷ a ∷ l) (a ∷ pick (eqb u a) l (insert u l))

-- The union of two sets.
unfoldable pub join : List ℕ → List ℕ → List ℕ
join [] m = m
join (a ∷ l) m = insert a (join l m)

-- All elements pass a test.
unfoldable pub every : {A : Type 0} → (A → Bool) → List A → Bool
every t [] = true
every t (a ∷ l) = t a && every t l

-- Each number of the first list stands in the second; two lists hold the same numbers.
unfoldable pub within : List ℕ → List ℕ → Bool
within l m = every (λ u. has u m) l

unfoldable pub same_set : List ℕ → List ℕ → Bool
same_set l m = within l m && within m l
