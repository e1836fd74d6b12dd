-- The graph is irreflexive and symmetric by the form of its definition, and it is what the paths say: every pair of the program stands at a step of a block,
-- and what is live after that step is what some path from there reads before writing it (liveness, `live_there`).
use mathlib.Core.Path.{◌≡◌, refl, sym, ap, ◌∙◌, subst}
use mathlib.Core.Logic.{◌↔◌, ◌⊎◌, inl, inr}
use mathlib.Core.Bool.{Bool, true, false, not, ◌&&◌, ◌||◌, or_comm}
use mathlib.Core.List.{List, [], ◌∷◌, ◌++◌, map}
use Prim.Native.Nat.{ℕ, zero, suc, ◌<◌}
use native.Mathlib.Omega.{arith}
use native.Mathlib.Nat.{not-suc-le-zero}
use lib.Dec.{T, eqb, eqb→eq, eqb_refl, T_not, not_T}
use lib.ListN.{length, get_or}
use Rattle.rows.proofs.Tests.{or_cases, or_l, or_r, and_l, and_r, and_in, T_true, T_false, T_yes, T_no}
use Rattle.fields.specs.Pick.{has}
use Rattle.fields.specs.Edition.{Edition}
use Rattle.records.specs.Program.{Program}
use Rattle.units.specs.Uses.{storage_of}
use Rattle.passes.specs.Live as L
use Rattle.liveness.specs.Flow.{Use, Flow, flows}
use Rattle.liveness.specs.Settle.{step_view, views, before, flow_at, settled_by}
use Rattle.liveness.proofs.SetLaws.{eqb_sym, eqb_yes, any_nil, any_out, any_in_lem}
use Rattle.liveness.proofs.SettleLaws.{settled_outs, live_there}
use Rattle.graph.specs.Graph.{has_pair, spared, clashes_at, clashes_in, clashes_from, clashes_of, clashes, held, interferes}
use Rattle.graph.specs.Paths.{Meets, MeetsIn, Interfere}
use Rattle.graph.proofs.PairLaws.{pair_each, pair_cases, pair_l, pair_r}
use Rattle.graph.proofs.StepLaws.{Pair, pair_out, pair_in}

-- No storage interferes with itself; and the graph is symmetric.
pub irreflexive : (e : Edition) (p : Program) (i : ℕ) → interferes e p i i ≡ false
unfolding interferes
irreflexive e p i = rw (T_true (eqb i i) (eqb_refl i))

pub symmetric : (e : Edition) (p : Program) (i j : ℕ) → interferes e p i j ≡ interferes e p j i
unfolding interferes
symmetric e p i j = rw (eqb_sym i j, or_comm (has_pair (clashes e p) i j) (has_pair (clashes e p) j i), or_comm (held e p i j) (held e p j i))

none_there : (i j : ℕ) → ¬ T (has_pair [] i j)
unfolding has_pair
none_there i j h = subst T (any_nil (λ (p : ℕ × ℕ). eqb p.0 i && eqb p.1 j)) h

-- The pairs of a block: each stands at a step ------------------------------------------------------------------------------------------------

record Place (e : Edition) (ss : List Use) (out : List ℕ) (i j : ℕ) : Type 0 where
  pub ahead : List Use
  pub step : Use
  pub rest : List Use
  pub there : ss ≡ ahead ++ (step ∷ rest)
  pub pair : T (has_pair (clashes_at e step (before rest out)) i j)

module _ (e : Edition) (out : List ℕ) (i j : ℕ) where
  in_out : (ss : List Use) → T (has_pair (clashes_in e ss out) i j) → Place e ss out i j
  unfolding clashes_in
  in_out [] h = absurd (none_there i j h)
  in_out (s ∷ ss) h = go (pair_cases (clashes_at e s (before ss out)) (clashes_in e ss out) i j h) (in_out ss)
    where
      go : T (has_pair (clashes_at e s (before ss out)) i j) ⊎ T (has_pair (clashes_in e ss out) i j) → (T (has_pair (clashes_in e ss out) i j) → Place e ss out i j)
          → Place e (s ∷ ss) out i j
      go (inl p) ih = record { ahead = []; step = s; rest = ss; there = refl; pair = p }
      go (inr p) ih = let r = ih p in record { ahead = s ∷ r.ahead; step = r.step; rest = r.rest; there = ap (λ l. s ∷ l) r.there; pair = r.pair }

  in_in : (ahead : List Use) (s : Use) (rest : List Use) → T (has_pair (clashes_at e s (before rest out)) i j) → T (has_pair (clashes_in e (ahead ++ (s ∷ rest)) out) i j)
  unfolding clashes_in
  in_in [] s rest h = pair_l (clashes_at e s (before rest out)) (clashes_in e rest out) i j h
  in_in (a ∷ more) s rest h = pair_r (clashes_at e a (before (more ++ (s ∷ rest)) out)) (clashes_in e (more ++ (s ∷ rest)) out) i j (in_in more s rest h)

-- The pairs of a function: each stands in a block --------------------------------------------------------------------------------------------

module _ (e : Edition) (i j : ℕ) where
  from_out : (bs : List Flow) (os : List (List ℕ)) → T (has_pair (clashes_from e bs os) i j)
      → (k : ℕ) × (k < length bs) × T (has_pair (clashes_in e (flow_at bs k).uses (get_or os k [])) i j)
  unfolding clashes_from
  from_out [] os h = absurd (none_there i j h)
  from_out (b ∷ bs) [] h = absurd (none_there i j h)
  from_out (b ∷ bs) (o ∷ os) h = go (pair_cases (clashes_in e b.uses o) (clashes_from e bs os) i j h) (from_out bs os)
    where
      go : T (has_pair (clashes_in e b.uses o) i j) ⊎ T (has_pair (clashes_from e bs os) i j)
          → (T (has_pair (clashes_from e bs os) i j) → (k : ℕ) × (k < length bs) × T (has_pair (clashes_in e (flow_at bs k).uses (get_or os k [])) i j))
          → (k : ℕ) × (k < suc (length bs)) × T (has_pair (clashes_in e (flow_at (b ∷ bs) k).uses (get_or (o ∷ os) k [])) i j)
      go (inl p) ih = (zero, omega arith, p)
      go (inr p) ih = let r = ih p in (suc r.0, omega (arith, r.1), r.2)

  from_in : (bs : List Flow) (os : List (List ℕ)) → length os ≡ length bs → (k : ℕ) → k < length bs
      → T (has_pair (clashes_in e (flow_at bs k).uses (get_or os k [])) i j) → T (has_pair (clashes_from e bs os) i j)
  unfolding clashes_from
  from_in [] os q k low h = absurd (not-suc-le-zero low)
  from_in (b ∷ bs) [] q k low h = absurd (omega arith)
  from_in (b ∷ bs) (o ∷ os) q zero low h = pair_l (clashes_in e b.uses o) (clashes_from e bs os) i j h
  from_in (b ∷ bs) (o ∷ os) q (suc k) low h = pair_r (clashes_in e b.uses o) (clashes_from e bs os) i j (from_in bs os (omega arith) k (omega arith) h)

  -- A pair of a function is a meeting on a path.
  pub meets_out : (fs : List Flow) → T (has_pair (clashes_of e fs) i j) → Meets e fs i j
  unfolding clashes_of
  meets_out fs h =
      record {
        block = k;
        exists = a.1;
        ahead = c.ahead;
        step = s;
        rest = c.rest;
        there = c.there;
        written = r.w;
        writes = T_true (has r.w s.writes) r.writes;
        of_i = r.of_i;
        other = r.v;
        of_j = r.of_j;
        unspared =
            T_false (spared e s r.v)
            (T_not (spared e s r.v) (and_r (not (eqb (storage_of e r.w) (storage_of e r.v))) (not (spared e s r.v)) r.clashes));
        wanted = later r.wanted;
      }
    where
      a : (k : ℕ) × (k < length fs) × T (has_pair (clashes_in e (flow_at fs k).uses (get_or (settled_by fs).sets.outs k [])) i j)
      a = from_out fs (settled_by fs).sets.outs h

      k : ℕ
      k = a.0

      c : Place e (flow_at fs k).uses (get_or (settled_by fs).sets.outs k []) i j
      c = in_out e (get_or (settled_by fs).sets.outs k []) i j (flow_at fs k).uses a.2

      s : Use
      s = c.step

      r : Pair e s (before c.rest (get_or (settled_by fs).sets.outs k [])) i j
      r = pair_out e s (before c.rest (get_or (settled_by fs).sets.outs k [])) i j c.pair

      later : T (has r.v s.reads) ⊎ T (has r.v (before c.rest (get_or (settled_by fs).sets.outs k [])))
          → (has r.v s.reads ≡ true) ⊎ L.Reads (views fs) r.v (map step_view c.rest) (flow_at fs k).targets
      later (inl p) = inl (T_true (has r.v s.reads) p)
      later (inr p) = inr ((live_there fs r.v k a.1 c.rest).0 (T_true (has r.v (before c.rest (get_or (settled_by fs).sets.outs k []))) p))

  pub meets_in : (fs : List Flow) → ¬ (i ≡ j) → Meets e fs i j → T (has_pair (clashes_of e fs) i j)
  unfolding clashes_of
  meets_in fs two m =
      from_in fs (settled_by fs).sets.outs (settled_outs fs) m.block m.exists
      (subst (λ ss. T (has_pair (clashes_in e ss out) i j)) (sym m.there)
      (in_in e out i j m.ahead m.step m.rest (pair_in e m.step (before m.rest out) i j r)))
    where
      out : List ℕ
      out = get_or (settled_by fs).sets.outs m.block []

      now : (has m.other m.step.reads ≡ true) ⊎ L.Reads (views fs) m.other (map step_view m.rest) (flow_at fs m.block).targets
          → T (has m.other m.step.reads) ⊎ T (has m.other (before m.rest out))
      now (inl p) = inl (T_yes p)
      now (inr p) = inr (T_yes ((live_there fs m.other m.block m.exists m.rest).1 p))

      r : Pair e m.step (before m.rest out) i j
      r =
          record {
            w = m.written;
            writes = T_yes m.writes;
            of_i = m.of_i;
            v = m.other;
            of_j = m.of_j;
            clashes =
                and_in (not (eqb (storage_of e m.written) (storage_of e m.other))) (not (spared e m.step m.other))
                (not_T (eqb (storage_of e m.written) (storage_of e m.other))
                (λ h. two (sym m.of_i ∙ (eqb→eq (storage_of e m.written) (storage_of e m.other) h ∙ m.of_j))))
                (not_T (spared e m.step m.other) (T_no m.unspared));
            wanted = now m.wanted;
          }

-- THEOREM: the graph is what the paths say --------------------------------------------------------------------------------------------------

module _ (e : Edition) (p : Program) where
  program_out : (i j : ℕ) → T (has_pair (clashes e p) i j) → MeetsIn e p i j
  unfolding clashes
  program_out i j h =
      let a = any_out (λ f. has_pair (clashes_of e (flows e p f)) i j) p.functions (subst T (pair_each (λ f. clashes_of e (flows e p f)) p.functions i j) h) in
      (a.0, a.1, meets_out e i j (flows e p a.0) a.2)

  program_in_lem : (i j : ℕ) → ¬ (i ≡ j) → MeetsIn e p i j → T (has_pair (clashes e p) i j)
  unfolding clashes
  program_in_lem i j two m =
      subst T (sym (pair_each (λ f. clashes_of e (flows e p f)) p.functions i j))
      (any_in_lem (λ f. has_pair (clashes_of e (flows e p f)) i j) m.1 (meets_in e i j (flows e p m.0) two m.2))

  pub interferes_iff : (i j : ℕ) → (interferes e p i j ≡ true) ↔ Interfere e p i j
  unfolding interferes
  interferes_iff i j = (λ t. to (T_yes t), λ r. T_true (not (eqb i j) && ((a || b) || (g || h))) (from r))
    where
      a : Bool
      a = has_pair (clashes e p) i j

      b : Bool
      b = has_pair (clashes e p) j i

      g : Bool
      g = held e p i j

      h : Bool
      h = held e p j i

      to : T (not (eqb i j) && ((a || b) || (g || h))) → Interfere e p i j
      to t = (
        λ q. T_not (eqb i j) (and_l (not (eqb i j)) ((a || b) || (g || h)) t) (eqb_yes i j q),
        go (or_cases (a || b) (g || h) (and_r (not (eqb i j)) ((a || b) || (g || h)) t)),
      )
        where
          go : T (a || b) ⊎ T (g || h) → (MeetsIn e p i j ⊎ MeetsIn e p j i) ⊎ ((g ≡ true) ⊎ (h ≡ true))
          go (inr x) = inr (which (or_cases g h x))
            where
              which : T g ⊎ T h → (g ≡ true) ⊎ (h ≡ true)
              which (inl y) = inl (T_true g y)
              which (inr y) = inr (T_true h y)
          go (inl x) = inl (which (or_cases a b x))
            where
              which : T a ⊎ T b → MeetsIn e p i j ⊎ MeetsIn e p j i
              which (inl y) = inl (program_out i j y)
              which (inr y) = inr (program_out j i y)

      from : Interfere e p i j → T (not (eqb i j) && ((a || b) || (g || h)))
      from (two, r) = and_in (not (eqb i j)) ((a || b) || (g || h)) (not_T (eqb i j) (λ q. two (eqb→eq i j q))) (go r)
        where
          go : (MeetsIn e p i j ⊎ MeetsIn e p j i) ⊎ ((g ≡ true) ⊎ (h ≡ true)) → T ((a || b) || (g || h))
          go (inl (inl m)) = or_l (a || b) (g || h) (or_l a b (program_in_lem i j two m))
          go (inl (inr m)) = or_l (a || b) (g || h) (or_r a b (program_in_lem j i (λ q. two (sym q)) m))
          go (inr (inl x)) = or_r (a || b) (g || h) (or_l g h (T_yes x))
          go (inr (inr x)) = or_r (a || b) (g || h) (or_r g h (T_yes x))
