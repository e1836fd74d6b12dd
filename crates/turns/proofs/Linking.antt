-- Links among placed storages, in one list. Entries of storages and of keys lie apart in it, so that a store of one kind leaves the other,
-- and the laws of links hold of the two parts.
use mathlib.Core.Path.{◌≡◌, sym, ap, ◌∙◌}
use mathlib.Core.List.{List, [], ◌∷◌, ◌++◌}
use Prim.Native.Nat.{ℕ, ◌+◌, ◌<◌}
use native.Mathlib.Omega.{arith}
use lib.ListN.{length, get_or, set, drop, replicate, length-drop}
use lib.Seq.{get_or-drop, get_or-set_same, get_or-set_other, drop-set-lt, drop-set-add}
use Rattle.rows.proofs.Links as links
use Rattle.turns.specs.Held.{KinLinked, linked_at}

-- Where nothing is placed, no entry leads anywhere.
pub linked_none : (kin : List ℕ) → kin ≡ replicate 512 0 → KinLinked [] kin 0
linked_none kin e = rw e (links.linked_none (replicate 512 0))

-- One storage more.
module _ (keys kin : List ℕ) (i b : ℕ) (h : KinLinked keys kin i) (long : length kin ≡ 512) (count : i ≡ length keys) (left : i < 256) (low : b < 256) where
  abbrev first : List ℕ
  first = set kin i (get_or kin (256 + b) 0)

  lasts : drop 256 (linked_at kin i b) ≡ set (drop 256 kin) b (i + 1)
  lasts = drop-set-add 256 first b (i + 1) ∙ ap (λ (l : List ℕ). set l b (i + 1)) (drop-set-lt 256 kin i (get_or kin (256 + b) 0) left)

  befores : (j : ℕ) → j < 256 → get_or (linked_at kin i b) j 0 ≡ get_or first j 0
  befores j l = get_or-set_other first (256 + b) j (i + 1) 0 (omega arith)

  pub linked_more : KinLinked (keys ++ (b ∷ [])) (linked_at kin i b) (i + 1)
  linked_more =
      rw lasts
      (links.linked_more keys (drop 256 kin) kin (linked_at kin i b) i b h count low (omega (arith, length-drop 256 kin))
      (befores i left ∙ get_or-set_same kin i (get_or kin (256 + b) 0) 0 (omega arith) ∙ sym (get_or-drop 256 kin b 0))
      (λ j l. befores j (omega arith) ∙ get_or-set_other kin i j (get_or kin (256 + b) 0) 0 (omega arith)))
