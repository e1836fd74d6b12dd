-- The pairs of a step. A pair stands there where some written unit and some wanted unit have its two storages and clash, since the step's
-- pairs are made of just these; whether they clash depends on the storages alone.
use mathlib.Core.Path.{◌≡◌, sym, ◌∙◌, subst}
use mathlib.Core.Logic.{◌⊎◌, inl, inr}
use mathlib.Core.Bool.{Bool, ◌&&◌}
use mathlib.Core.List.{List, ◌++◌, map, Memᴰ}
use Prim.Native.Nat.{ℕ}
use lib.Dec.{T, eqb, eqb→eq}
use Rattle.rows.proofs.Tests.{or_cases, or_l, or_r, and_l, and_r, and_in}
use Rattle.fields.specs.Pick.{has}
use Rattle.fields.specs.Edition.{Edition}
use Rattle.units.specs.Sets.{select, any}
use Rattle.units.specs.Uses.{storage_of}
use Rattle.liveness.specs.Flow.{Use}
use Rattle.liveness.proofs.SetLaws.{eqb_yes, any_select, any_map, any_out, any_in_lem, any_same, has_mem, mem_has, has_append}
use Rattle.graph.specs.Graph.{has_pair, clash, clashes_at}
use Rattle.graph.proofs.PairLaws.{pair_each}

module _ (e : Edition) (s : Use) where
  abbrev both : ℕ → ℕ → ℕ → ℕ → Bool
  both i j w v = eqb (storage_of e w) i && eqb (storage_of e v) j

  at_any : (live : List ℕ) (i j : ℕ) → has_pair (clashes_at e s live) i j ≡ any (λ w. any (λ v. clash e s w v && both i j w v) (s.reads ++ live)) s.writes
  unfolding clashes_at has_pair
  at_any live i j =
      pair_each pairs s.writes i j
      ∙ any_same (λ w. has_pair (pairs w) i j) (λ w. any (λ v. clash e s w v && both i j w v) (s.reads ++ live)) s.writes one
    where
      pairs : ℕ → List (ℕ × ℕ)
      pairs w = map (λ v. (storage_of e w, storage_of e v)) (select (clash e s w) (s.reads ++ live))

      one : (w : ℕ) → has_pair (pairs w) i j ≡ any (λ v. clash e s w v && both i j w v) (s.reads ++ live)
      one w =
          any_map (λ (p : ℕ × ℕ). eqb p.0 i && eqb p.1 j) (λ v. (storage_of e w, storage_of e v)) (select (clash e s w) (s.reads ++ live))
          ∙ any_select (λ v. both i j w v) (clash e s w) (s.reads ++ live)

  -- A pair of the step, as units.
  pub record Pair (live : List ℕ) (i j : ℕ) : Type 0 where
    pub w : ℕ
    pub writes : T (has w s.writes)
    pub of_i : storage_of e w ≡ i
    pub v : ℕ
    pub of_j : storage_of e v ≡ j
    pub clashes : T (clash e s w v)
    pub wanted : T (has v s.reads) ⊎ T (has v live)

  want : (live : List ℕ) (v : ℕ) → T (has v s.reads) ⊎ T (has v live) → Memᴰ v (s.reads ++ live)
  want live v (inl p) = has_mem v (s.reads ++ live) (subst T (sym (has_append v s.reads live)) (or_l (has v s.reads) (has v live) p))
  want live v (inr p) = has_mem v (s.reads ++ live) (subst T (sym (has_append v s.reads live)) (or_r (has v s.reads) (has v live) p))

  unwant : (live : List ℕ) (v : ℕ) → Memᴰ v (s.reads ++ live) → T (has v s.reads) ⊎ T (has v live)
  unwant live v m = or_cases (has v s.reads) (has v live) (subst T (has_append v s.reads live) (mem_has v (s.reads ++ live) m))

  pub pair_out : (live : List ℕ) (i j : ℕ) → T (has_pair (clashes_at e s live) i j) → Pair live i j
  pair_out live i j h =
      record {
        w = a.0;
        writes = mem_has a.0 s.writes a.1;
        of_i = eqb→eq (storage_of e a.0) i (and_l (eqb (storage_of e a.0) i) (eqb (storage_of e b.0) j) two);
        v = b.0;
        of_j = eqb→eq (storage_of e b.0) j (and_r (eqb (storage_of e a.0) i) (eqb (storage_of e b.0) j) two);
        clashes = and_l (clash e s a.0 b.0) (both i j a.0 b.0) b.2;
        wanted = unwant live b.0 b.1;
      }
    where
      a : (w : ℕ) × Memᴰ w s.writes × T (any (λ v. clash e s w v && both i j w v) (s.reads ++ live))
      a = any_out (λ w. any (λ v. clash e s w v && both i j w v) (s.reads ++ live)) s.writes (subst T (at_any live i j) h)

      b : (v : ℕ) × Memᴰ v (s.reads ++ live) × T (clash e s a.0 v && both i j a.0 v)
      b = any_out (λ v. clash e s a.0 v && both i j a.0 v) (s.reads ++ live) a.2

      two : T (both i j a.0 b.0)
      two = and_r (clash e s a.0 b.0) (both i j a.0 b.0) b.2

  pub pair_in : (live : List ℕ) (i j : ℕ) → Pair live i j → T (has_pair (clashes_at e s live) i j)
  pair_in live i j r =
      subst T (sym (at_any live i j))
      (any_in_lem (λ w. any (λ v. clash e s w v && both i j w v) (s.reads ++ live)) (has_mem r.w s.writes r.writes)
      (any_in_lem (λ v. clash e s r.w v && both i j r.w v) (want live r.v r.wanted)
      (and_in (clash e s r.w r.v) (both i j r.w r.v) r.clashes
      (and_in (eqb (storage_of e r.w) i) (eqb (storage_of e r.v) j) (eqb_yes (storage_of e r.w) i r.of_i) (eqb_yes (storage_of e r.v) j r.of_j)))))
