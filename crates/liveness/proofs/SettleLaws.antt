-- The live sets that compute are the settled ones. Each rule on lists holds what the theory's rule holds, so a visit, a sweep and a pass do; the test for
-- a change is right, and the theory's bound shows that the passes allowed are enough. What holds of the settled state then holds of `liveness`.
use mathlib.Core.Path.{◌≡◌, refl, sym, ap, ap₂, ◌∙◌, subst}
use mathlib.Core.Logic.{◌↔◌}
use mathlib.Core.Bool.{Bool, true, false, not, ◌&&◌, ◌||◌, or_comm}
use mathlib.Core.List.{List, [], ◌∷◌, map, Memᴰ}
use Prim.Native.Nat.{ℕ, zero, suc, ◌+◌, ◌≤◌, ◌<◌}
use native.Mathlib.Omega.{arith}
use native.Mathlib.Nat.{not-suc-le-zero}
use native.Mathlib.Decide.{ℕ_discrete, dec_lt}
use lib.Dec.{T, ltb, ltb→lt, lt→ltb}
use lib.ListN.{length, get_or, set, replicate, length-set, length-replicate, length-map, get_or-map, get_or-eq_default}
use lib.Seq.{get_or-set_same, get_or-set_other}
use Rattle.rows.proofs.Tests.{and_l, and_r, and_in, T_true, T_false, T_yes}
use Rattle.fields.specs.Pick.{pick, has}
use Rattle.fields.specs.Edition.{Edition}
use Rattle.records.specs.Program.{Function, Program}
use Rattle.units.specs.Sets.{less}
use Rattle.passes.specs.Live as L
use Rattle.passes.proofs.Laws.{put_cases, state_ext, settles, settles_within, settled_unique, live_inside, live_in_iff, live_out_iff}
use Rattle.liveness.specs.Sets.{same_set}
use Rattle.liveness.specs.Flow.{Use, Flow, no_flow, flow_of, flows}
use Rattle.liveness.specs.Settle.{step_view, view, views, Sets, state_of, union_at, before, flow_at, visit_at, sweep_at, pass_at, same_rows, same_sets, Outcome, settle_from, nothing, settled_by, liveness}
use Rattle.liveness.proofs.SetLaws.{mem_map, has_nil, has_less, has_join, same_set_out, same_set_in}

pub block_view : (fs : List Flow) (k : ℕ) → L.block (views fs) k ≡ view (flow_at fs k)
block_view fs k = get_or-map view fs k no_flow

-- Sets c of n blocks hold the theory's state s.
pub record Holds (n : ℕ) (c : Sets) (s : L.State) : Type 0 where
  pub size_in : length c.ins ≡ n
  pub size_out : length c.outs ≡ n
  pub same_in : (j u : ℕ) → has u (get_or c.ins j []) ≡ s.ins j u
  pub same_out : (j u : ℕ) → has u (get_or c.outs j []) ≡ s.outs j u

pub holds_state : {n : ℕ} {c : Sets} {s : L.State} → Holds n c s → state_of c ≡ s
holds_state {c = c} {s = s} h = state_ext (state_of c) s h.same_in h.same_out

-- The rules, one by one ------------------------------------------------------------------------------------------------------------------

pub before_view : (ss : List Use) (out : List ℕ) (o : L.Row) (u : ℕ) → has u out ≡ o u → has u (before ss out) ≡ L.backwards (map step_view ss) o u
unfolding before L.backwards
before_view [] out o u e = e
before_view (s ∷ ss) out o u e =
    has_join u s.reads (less (before ss out) s.writes)
    ∙ (ap (λ x. has u s.reads || x) (has_less u (before ss out) s.writes)
    ∙ (ap (λ x. has u s.reads || (x && not (has u s.writes))) (before_view ss out o u e)
    ∙ or_comm (has u s.reads) (L.backwards (map step_view ss) o u && not (has u s.writes))))

module _ (n : ℕ) (ins : List (List ℕ)) (x : ℕ → L.Row) (size : length ins ≡ n) (same : (j u : ℕ) → has u (get_or ins j []) ≡ x j u) where
  at_target : (t u : ℕ) → has u (get_or ins t []) ≡ (ltb t n && x t u)
  at_target t u = go (dec_lt t n)
    where
      go : Dec (t < n) → has u (get_or ins t []) ≡ (ltb t n && x t u)
      go (yes l) = same t u ∙ ap (λ b. b && x t u) (sym (T_true (ltb t n) (lt→ltb t n l)))
      go (no l) =
          ap (λ s. has u s) (get_or-eq_default ins [] (omega arith))
          ∙ (has_nil u ∙ ap (λ b. b && x t u) (sym (T_false (ltb t n) (λ h. l (ltb→lt t n h)))))

  union_view : (ts : List ℕ) (u : ℕ) → has u (union_at ins ts) ≡ L.union n x ts u
  unfolding union_at L.union
  union_view [] u = has_nil u
  union_view (t ∷ ts) u = has_join u (get_or ins t []) (union_at ins ts) ∙ ap₂ (λ a b. a || b) (at_target t u) (union_view ts u)

set_view : (ls : List (List ℕ)) (x : ℕ → L.Row) (k : ℕ) (l : List ℕ) (r : L.Row) → k < length ls → ((j u : ℕ) → has u (get_or ls j []) ≡ x j u)
    → ((u : ℕ) → has u l ≡ r u) → (j u : ℕ) → has u (get_or (set ls k l) j []) ≡ L.put k r x j u
set_view ls x k l r low old new j u =
    put_cases (λ z. has u (get_or (set ls k l) j []) ≡ z u) k r x j
    (λ e. ap (λ i. has u (get_or (set ls k l) i [])) e ∙ (ap (λ z. has u z) (get_or-set_same ls k l [] low) ∙ new u))
    (λ ne. ap (λ z. has u z) (get_or-set_other ls k j l [] ne) ∙ old j u)

-- Visits, passes --------------------------------------------------------------------------------------------------------------------------

module _ (fs : List Flow) where
  abbrev B : ℕ
  B = length fs

  pub visit_holds : (k : ℕ) (c : Sets) (s : L.State) → k < B → Holds B c s → Holds B (visit_at fs k c) (L.visit (views fs) k s)
  unfolding visit_at L.visit
  visit_holds k c s low h =
      rw (block_view fs k, length-map fs view)
      (record {
        size_in = length-set c.ins k (before (flow_at fs k).uses o) ∙ h.size_in;
        size_out = length-set c.outs k o ∙ h.size_out;
        same_in =
            set_view c.ins s.ins k (before (flow_at fs k).uses o) (L.backwards (map step_view (flow_at fs k).uses) r) (omega (arith, h.size_in)) h.same_in
            (λ u. before_view (flow_at fs k).uses o r u (joined u));
        same_out = set_view c.outs s.outs k o r (omega (arith, h.size_out)) h.same_out joined;
      })
    where
      o : List ℕ
      o = union_at c.ins (flow_at fs k).targets

      r : L.Row
      r = L.union B s.ins (flow_at fs k).targets

      joined : (u : ℕ) → has u o ≡ r u
      joined u = union_view B c.ins s.ins h.size_in h.same_in (flow_at fs k).targets u

  pub sweep_holds : (n : ℕ) (c : Sets) (s : L.State) → n ≤ B → Holds B c s → Holds B (sweep_at fs n c) (L.sweep (views fs) n s)
  unfolding sweep_at L.sweep
  sweep_holds zero c s low h = h
  sweep_holds (suc n) c s low h = sweep_holds n (visit_at fs n c) (L.visit (views fs) n s) (omega arith) (visit_holds n c s (omega arith) h)

  pub pass_holds : (c : Sets) (s : L.State) → Holds B c s → Holds B (pass_at fs c) (L.pass (views fs) s)
  unfolding pass_at L.pass
  pass_holds c s h = rw (length-map fs view) (sweep_holds B c s (omega arith) h)

  none_at : (n j u : ℕ) → has u (get_or (replicate n []) j []) ≡ false
  none_at zero j u = has_nil u
  none_at (suc n) zero u = has_nil u
  none_at (suc n) (suc j) u = none_at n j u

  pub nothing_holds : Holds B (nothing fs) L.empty
  unfolding nothing
  nothing_holds = record { size_in = length-replicate {A = List ℕ} B []; size_out = length-replicate {A = List ℕ} B []; same_in = none_at B; same_out = none_at B }

  -- The test for a change is right.
  rows_out : (ls ms : List (List ℕ)) → T (same_rows ls ms) → (j u : ℕ) → has u (get_or ls j []) ≡ has u (get_or ms j [])
  unfolding same_rows
  rows_out [] [] h j u = refl
  rows_out [] (m ∷ ms) h j u = absurd h
  rows_out (l ∷ ls) [] h j u = absurd h
  rows_out (l ∷ ls) (m ∷ ms) h zero u = same_set_out l m (and_l (same_set l m) (same_rows ls ms) h) u
  rows_out (l ∷ ls) (m ∷ ms) h (suc j) u = rows_out ls ms (and_r (same_set l m) (same_rows ls ms) h) j u

  rows_in : (ls ms : List (List ℕ)) → length ls ≡ length ms → ((j u : ℕ) → has u (get_or ls j []) ≡ has u (get_or ms j [])) → T (same_rows ls ms)
  unfolding same_rows
  rows_in [] [] e h = tt
  rows_in [] (m ∷ ms) e h = absurd (omega arith)
  rows_in (l ∷ ls) [] e h = absurd (omega arith)
  rows_in (l ∷ ls) (m ∷ ms) e h = and_in (same_set l m) (same_rows ls ms) (same_set_in l m (h zero)) (rows_in ls ms (omega arith) (λ j. h (suc j)))

  same_states : (c d : Sets) (s t : L.State) → Holds B c s → Holds B d t → T (same_sets c d) → s ≡ t
  unfolding same_sets
  same_states c d s t p q h =
      state_ext s t
      (λ j u. sym (p.same_in j u) ∙ (rows_out c.ins d.ins (and_l (same_rows c.ins d.ins) (same_rows c.outs d.outs) h) j u ∙ q.same_in j u))
      (λ j u. sym (p.same_out j u) ∙ (rows_out c.outs d.outs (and_r (same_rows c.ins d.ins) (same_rows c.outs d.outs) h) j u ∙ q.same_out j u))

  states_same : (c d : Sets) (s t : L.State) → Holds B c s → Holds B d t → s ≡ t → T (same_sets c d)
  unfolding same_sets
  states_same c d s t p q e =
      and_in (same_rows c.ins d.ins) (same_rows c.outs d.outs)
      (rows_in c.ins d.ins (p.size_in ∙ sym q.size_in) (λ j u. p.same_in j u ∙ (ap (λ (x : L.State). x.ins j u) e ∙ sym (q.same_in j u))))
      (rows_in c.outs d.outs (p.size_out ∙ sym q.size_out) (λ j u. p.same_out j u ∙ (ap (λ (x : L.State). x.outs j u) e ∙ sym (q.same_out j u))))

  -- The loop of passes.
  abbrev Ends : Outcome → Type 0
  Ends o = L.Settled (views fs) o.passes (state_of o.sets) × (length o.sets.ins ≡ B) × (length o.sets.outs ≡ B)

  abbrev Moves : ℕ → Type 0
  Moves n = (k : ℕ) → k < n → ¬ (L.after (views fs) (suc k) ≡ L.after (views fs) k)

  loop_settles : (fuel n : ℕ) (c : Sets) → n + fuel ≡ B + 2 → Holds B c (L.after (views fs) n) → Moves n → Ends (settle_from fuel fs n c)
  unfolding settle_from L.after pick
  loop_settles zero n c e h first = absurd (first (suc (length (views fs))) (omega (arith, length-map fs view)) (settles (views fs)))
  loop_settles (suc fuel) n c e h first = go (same_sets d c) refl (loop_settles fuel (suc n) d (omega arith) moved)
    where
      d : Sets
      d = pass_at fs c

      moved : Holds B d (L.after (views fs) (suc n))
      moved = pass_holds c (L.after (views fs) n) h

      go : (b : Bool) → same_sets d c ≡ b → (Moves (suc n) → Ends (settle_from fuel fs (suc n) d))
          → Ends (pick b (record { passes = suc n; sets = c }) (settle_from fuel fs (suc n) d))
      go true t more =
          (record { changed = n; counts = refl; state = holds_state h; first = first; last = same_states d c _ _ moved h (subst T (sym t) tt) }, h.size_in, h.size_out)
      go false t more = more (λ k l. longer k (ℕ_discrete k n) l)
        where
          longer : (k : ℕ) → Dec (k ≡ n) → k < suc n → ¬ (L.after (views fs) (suc k) ≡ L.after (views fs) k)
          longer k (yes q) l = subst (λ i. ¬ (L.after (views fs) (suc i) ≡ L.after (views fs) i)) (sym q) (λ w. subst T t (states_same d c _ _ moved h w))
          longer k (no q) l = first k (omega arith)

  settled_both : Ends (settled_by fs)
  unfolding settled_by L.after
  settled_both = loop_settles (suc (suc B)) 0 (nothing fs) (omega arith) nothing_holds (λ k l. absurd (not-suc-le-zero l))

  -- THEOREM: what computes is the settled outcome, and there is no other.
  pub settled : L.Settled (views fs) (settled_by fs).passes (state_of (settled_by fs).sets)
  settled = settled_both.0

  pub settled_ins : length (settled_by fs).sets.ins ≡ length fs
  settled_ins = settled_both.1

  pub settled_outs : length (settled_by fs).sets.outs ≡ length fs
  settled_outs = settled_both.2

  -- The count is at most B + 2.
  pub passes_within : (settled_by fs).passes ≤ length fs + 2
  passes_within = omega (arith, settles_within (views fs) _ _ settled, length-map fs view)

  -- Live before the rest of a block's steps, at its entry and at its end: exactly where some path from there reads the unit before writing it.
  pub live_there : (u k : ℕ) → k < length fs → (rest : List Use)
      → (has u (before rest (get_or (settled_by fs).sets.outs k [])) ≡ true) ↔ L.Reads (views fs) u (map step_view rest) (flow_at fs k).targets
  live_there u k low rest =
      rw (before_view rest (get_or (settled_by fs).sets.outs k []) (λ v. has v (get_or (settled_by fs).sets.outs k [])) u refl, ← ap (λ (b : L.Block). b.targets) (block_view fs k))
      (by_true (live_inside (views fs) (settled_by fs).passes (state_of (settled_by fs).sets) settled u k (omega (arith, length-map fs view)) (map step_view rest)))
    where
      by_true : {b : Bool} {A : Type 0} → (T b ↔ A) → ((b ≡ true) ↔ A)
      by_true {b} r = (λ e. r.0 (T_yes e), λ a. T_true b (r.1 a))

  pub live_entry : (u k : ℕ) → k < length fs → (has u (get_or (settled_by fs).sets.ins k []) ≡ true) ↔ L.ReadsFrom (views fs) u k
  live_entry u k low =
      let r = live_in_iff (views fs) (settled_by fs).passes (state_of (settled_by fs).sets) settled u k (omega (arith, length-map fs view)) in
      (λ e. r.0 (T_yes e), λ a. T_true (has u (get_or (settled_by fs).sets.ins k [])) (r.1 a))

  pub live_end : (u k : ℕ) → k < length fs → (has u (get_or (settled_by fs).sets.outs k []) ≡ true) ↔ L.ReadsAfter (views fs) u k
  live_end u k low =
      let r = live_out_iff (views fs) (settled_by fs).passes (state_of (settled_by fs).sets) settled u k (omega (arith, length-map fs view)) in
      (λ e. r.0 (T_yes e), λ a. T_true (has u (get_or (settled_by fs).sets.outs k [])) (r.1 a))

-- What is live somewhere is read by some step of the function, so that it is a unit of the file ----------------------------------------------------

abbrev pub Read : List Flow → ℕ → Type 0
Read fs u = (k : ℕ) × (k < length fs) × (s : Use) × Memᴰ s (flow_at fs k).uses × T (has u s.reads)

module _ (fs : List Flow) (u : ℕ) where
  pub block_read : (t : ℕ) → t < length fs → (s : L.Step) → Memᴰ s (L.block (views fs) t).steps → T (s.reads u) → Read fs u
  block_read t l s m h =
      let r = mem_map step_view (flow_at fs t).uses (subst (λ (b : L.Block). Memᴰ s b.steps) (block_view fs t) m) in
      (t, l, r.0, r.1, subst (λ (x : L.Step). T (x.reads u)) r.2 h)

  pub path_read : {ss : List L.Step} {ts : List ℕ} → L.Reads (views fs) u ss ts → ((s : L.Step) → Memᴰ s ss → T (s.reads u) → Read fs u) → Read fs u
  path_read (L.reads_here {s = s} h) k = k s (Memᴰ.head refl) h
  path_read (L.goes_on _ r) k = path_read r (λ s m. k s (Memᴰ.tail m))
  path_read (L.jumps {t = t} m l r) k = path_read r (block_read t (omega (arith, length-map fs view)))

-- Of a function of a program ------------------------------------------------------------------------------------------------------------------------

module _ (e : Edition) (p : Program) (f : Function) where
  pub flows_length : length (flows e p f) ≡ length f.blocks
  unfolding flows
  flows_length = length-map f.blocks (flow_of e p f)

  pub liveness_settled : L.Settled (views (flows e p f)) (liveness e p f).passes (state_of (liveness e p f).sets)
  unfolding liveness
  liveness_settled = settled (flows e p f)

  pub liveness_only : (count : ℕ) (s : L.State) → L.Settled (views (flows e p f)) count s → ((liveness e p f).passes ≡ count) × (state_of (liveness e p f).sets ≡ s)
  liveness_only count s r = settled_unique (views (flows e p f)) _ _ _ _ liveness_settled r

  pub liveness_within : (liveness e p f).passes ≤ length f.blocks + 2
  unfolding liveness
  liveness_within = omega (arith, passes_within (flows e p f), flows_length)

  pub live_at_entry : (u k : ℕ) → k < length f.blocks → (has u (get_or (liveness e p f).sets.ins k []) ≡ true) ↔ L.ReadsFrom (views (flows e p f)) u k
  unfolding liveness
  live_at_entry u k low = live_entry (flows e p f) u k (omega (arith, flows_length))

  pub live_at_end : (u k : ℕ) → k < length f.blocks → (has u (get_or (liveness e p f).sets.outs k []) ≡ true) ↔ L.ReadsAfter (views (flows e p f)) u k
  unfolding liveness
  live_at_end u k low = live_end (flows e p f) u k (omega (arith, flows_length))

  pub live_within_block : (u k : ℕ) → k < length f.blocks → (rest : List Use)
      → (has u (before rest (get_or (liveness e p f).sets.outs k [])) ≡ true) ↔ L.Reads (views (flows e p f)) u (map step_view rest) (flow_at (flows e p f) k).targets
  unfolding liveness
  live_within_block u k low rest = live_there (flows e p f) u k (omega (arith, flows_length)) rest
