-- Laws of lists of pairs. Whether a pair stands in a list is a test over the list, so they follow from the laws of `any`: a pair stands in joined lists
-- where it stands in one of them.
use mathlib.Core.Path.{◌≡◌, subst}
use mathlib.Core.Logic.{◌⊎◌}
use mathlib.Core.Bool.{◌&&◌, ◌||◌}
use mathlib.Core.List.{List, ◌++◌}
use Prim.Native.Nat.{ℕ}
use lib.Dec.{T, eqb}
use Rattle.rows.proofs.Tests.{or_cases, or_l, or_r}
use Rattle.units.specs.Sets.{any, each}
use Rattle.liveness.proofs.SetLaws.{any_append, any_each}
use Rattle.graph.specs.Graph.{has_pair}

pub pair_append : (l m : List (ℕ × ℕ)) (i j : ℕ) → has_pair (l ++ m) i j ≡ (has_pair l i j || has_pair m i j)
unfolding has_pair
pair_append l m i j = any_append (λ (p : ℕ × ℕ). eqb p.0 i && eqb p.1 j) l m

pub pair_each : {A : Type 0} (f : A → List (ℕ × ℕ)) (l : List A) (i j : ℕ) → has_pair (each f l) i j ≡ any (λ a. has_pair (f a) i j) l
unfolding has_pair
pair_each f l i j = any_each (λ (p : ℕ × ℕ). eqb p.0 i && eqb p.1 j) f l

pub pair_cases : (l m : List (ℕ × ℕ)) (i j : ℕ) → T (has_pair (l ++ m) i j) → T (has_pair l i j) ⊎ T (has_pair m i j)
pair_cases l m i j h = or_cases (has_pair l i j) (has_pair m i j) (subst T (pair_append l m i j) h)

pub pair_l : (l m : List (ℕ × ℕ)) (i j : ℕ) → T (has_pair l i j) → T (has_pair (l ++ m) i j)
pair_l l m i j h = rw (pair_append l m i j) (or_l (has_pair l i j) (has_pair m i j) h)

pub pair_r : (l m : List (ℕ × ℕ)) (i j : ℕ) → T (has_pair m i j) → T (has_pair (l ++ m) i j)
pair_r l m i j h = rw (pair_append l m i j) (or_r (has_pair l i j) (has_pair m i j) h)
