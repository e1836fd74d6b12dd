-- The pairs of copies. Every pair stands at a step that copies, where one id is that of the storage written and the other that of the storage read;
-- the smaller is put first, so that a pair rises or holds one id twice.
use mathlib.Core.Path.{◌≡◌, subst}
use mathlib.Core.Bool.{Bool, true, false, ◌&&◌}
use mathlib.Core.List.{List, [], map, Memᴰ}
use Prim.Native.Nat.{ℕ, ◌≤◌, min, max}
use native.Mathlib.Omega.{arith}
use lib.Dec.{T, eqb, eqb→eq}
use Rattle.rows.proofs.Tests.{and_l, and_r, T_yes}
use Rattle.fields.specs.Pick.{pick}
use Rattle.fields.specs.Edition.{Edition}
use Rattle.records.specs.Program.{Program}
use Rattle.units.specs.Sets.{any, each}
use Rattle.units.specs.Uses.{storage_of}
use Rattle.liveness.specs.Flow.{Use}
use Rattle.liveness.proofs.SetLaws.{any_nil, any_map, any_each, any_out}
use Rattle.graph.specs.Graph.{has_pair, is_copy, copies_at, copies, copied, all_uses}
use Rattle.graph.proofs.PairLaws.{pair_each}

-- A pair (i, j) of a copying step.
pub record Copy (e : Edition) (s : Use) (i j : ℕ) : Type 0 where
  pub copying : T (is_copy s)
  pub to : ℕ
  pub written : Memᴰ to s.writes
  pub from : ℕ
  pub read : Memᴰ from s.reads
  pub smaller : min (storage_of e to) (storage_of e from) ≡ i
  pub greater : max (storage_of e to) (storage_of e from) ≡ j

module _ (e : Edition) (i j : ℕ) where
  abbrev is : ℕ × ℕ → Bool
  is p = eqb p.0 i && eqb p.1 j

  pub copy_out : (s : Use) → T (has_pair (copies_at e s) i j) → Copy e s i j
  unfolding copies_at has_pair pick
  copy_out s = go (is_copy s) (λ t. t)
    where
      pairs : ℕ → List (ℕ × ℕ)
      pairs w = map (λ v. (min (storage_of e w) (storage_of e v), max (storage_of e w) (storage_of e v))) s.reads

      go : (b : Bool) → (T b → T (is_copy s)) → T (any is (pick b (each pairs s.writes) [])) → Copy e s i j
      go false k h = absurd (subst T (any_nil is) h)
      go true k h =
          let a = any_out (λ w. any is (pairs w)) s.writes (subst T (any_each is pairs s.writes) h) in
          let b =
          any_out (λ v. is (min (storage_of e a.0) (storage_of e v), max (storage_of e a.0) (storage_of e v))) s.reads
          (subst T (any_map is (λ v. (min (storage_of e a.0) (storage_of e v), max (storage_of e a.0) (storage_of e v))) s.reads) a.2) in
          record {
            copying = k tt;
            to = a.0;
            written = a.1;
            from = b.0;
            read = b.1;
            smaller = eqb→eq (min (storage_of e a.0) (storage_of e b.0)) i (and_l (eqb (min (storage_of e a.0) (storage_of e b.0)) i) (eqb (max (storage_of e a.0) (storage_of e b.0)) j) b.2);
            greater = eqb→eq (max (storage_of e a.0) (storage_of e b.0)) j (and_r (eqb (min (storage_of e a.0) (storage_of e b.0)) i) (eqb (max (storage_of e a.0) (storage_of e b.0)) j) b.2);
          }

  pub copied_out : (p : Program) → copied e p i j ≡ true → (s : Use) × Memᴰ s (all_uses e p) × Copy e s i j
  unfolding copied copies
  copied_out p h =
      let a = any_out (λ s. has_pair (copies_at e s) i j) (all_uses e p) (subst T (pair_each (copies_at e) (all_uses e p) i j) (T_yes h)) in
      (a.0, a.1, copy_out a.0 a.2)

  pub copied_rises : (p : Program) → copied e p i j ≡ true → i ≤ j
  copied_rises p h = let c = (copied_out p h).2 in omega (arith, c.smaller, c.greater)
