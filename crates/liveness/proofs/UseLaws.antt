-- The units that the steps of an accepted file read and write are units of the file: each stands in an operand or an ABI record, and check has numbered those.
-- What is live is read by some step, so it is a unit of the file too.
use mathlib.Core.Path.{◌≡◌, refl, sym, ap, ◌∙◌, subst}
use mathlib.Core.Logic.{◌⊎◌, inl, inr}
use mathlib.Core.Bool.{Bool, true, false, true≢false}
use mathlib.Core.List.Memᴰ
use mathlib.Core.List.{List, [], ◌∷◌, map, Memᴰ}
use Prim.Native.Nat.{ℕ, ◌<◌}
use native.Mathlib.Omega.{arith}
use native.Mathlib.Decide.{dec_lt}
use lib.Dec.{T, eqb, eqb→eq}
use lib.ListN.{length, get_or, get_or-eq_default}
use Rattle.rows.proofs.Tests.{T_true, T_yes, or_cases}
use Rattle.fields.specs.Pick.{pick, pick_yes, ◌and◌, has, All}
use Rattle.fields.specs.Edition.{Edition}
use Rattle.fields.specs.Record.{Abi, Operand, word_of}
use Rattle.records.specs.Check.{units, check}
use Rattle.records.specs.Program.{Step, Block, Function, Program, program}
use Rattle.records.proofs.Contents.{OperandIn, AbiIn, StepIn, BlockIn, FunctionIn}
use Rattle.records.proofs.Shape.{ids_of}
use Rattle.records.proofs.Accepted.{accepted}
use Rattle.units.specs.Sets.{select}
use Rattle.units.specs.Uses.{is_parameter, is_result, is_outcome, reads_field, writes_field, defined, lookup, abis_by, units_in, units_of, abis_of, reads, writes}
use Rattle.passes.proofs.Squash.{get_d_map}
use Rattle.liveness.specs.Flow.{Use, Flow, no_flow, use_of, flow_of, flows}
use Rattle.liveness.specs.Settle.{flow_at, settled_by}
use Rattle.liveness.proofs.SetLaws.{has_nil, has_cons, mem_map, mem_at}
use Rattle.liveness.proofs.SettleLaws.{settled_outs, live_end, Read, path_read}
use Rattle.liveness.proofs.Numbered.{Among, Listed, AllListed}

pub all_mem : {A : Type 0} (P : A → Type 0) (l : List A) → All P l → {a : A} → Memᴰ a l → P a
all_mem P (x ∷ l) h (Memᴰ.head e) = subst P (sym e) h.0
all_mem P (x ∷ l) h (Memᴰ.tail m) = all_mem P l h.1 m
all_mem {A = A} P [] h {a = a} x'' = elim x'' [ ]

-- Block number k of a function, as the passes see it.
pub flow_at_lem : (ed : Edition) (p : Program) (f : Function) (k : ℕ) (b : Block) → k < length f.blocks → flow_at (flows ed p f) k ≡ flow_of ed p f (get_or f.blocks k b)
unfolding flows
flow_at_lem ed p f k b l = get_d_map (flow_of ed p f) f.blocks k b no_flow l

-- An immediate is no unit.
immediate : (a b : Bool) → b ≡ true → (a and pick b false true) ≡ false
unfolding pick
immediate true b e = pick_yes b false true e
immediate false b e = refl

-- Units among the units of the file -----------------------------------------------------------------------------------------------------

module _ (us : List ℕ) where
  none_among : Among [] us
  none_among w h = absurd (true≢false (sym h ∙ has_nil w))

  pick_among : (t : Bool) (a b : List ℕ) → Among a us → Among b us → Among (pick t a b) us
  unfolding pick
  pick_among true a b p q = p
  pick_among false a b p q = q

  cons_among : (x : ℕ) (l : List ℕ) → has x us ≡ true → Among l us → Among (x ∷ l) us
  cons_among x l p q w h = go (or_cases (eqb w x) (has w l) (T_yes (sym (has_cons w x l) ∙ h)))
    where
      go : T (eqb w x) ⊎ T (has w l) → has w us ≡ true
      go (inl e) = ap (λ u. has u us) (eqb→eq w x e) ∙ p
      go (inr m) = q w (T_true (has w l) m)

  -- Of a list, what passes a test.
  selected_among : {A : Type 0} (f : A → ℕ) (t : A → Bool) (l : List A) → All (λ a. (t a ≡ false) ⊎ (has (f a) us ≡ true)) l → Among (map f (select t l)) us
  unfolding select pick
  selected_among f t [] h = none_among
  selected_among f t (a ∷ l) h = go (t a) h.0 (selected_among f t l h.1)
    where
      go : (b : Bool) → (b ≡ false) ⊎ (has (f a) us ≡ true) → Among (map f (select t l)) us → Among (map f (pick b (a ∷ select t l) (select t l))) us
      go true (inl e) ih = absurd (true≢false e)
      go true (inr n) ih = cons_among (f a) (map f (select t l)) n ih
      go false n ih = ih

  module _ (ed : Edition) (ids : List ℕ) where
    abis_among : (t : ℕ → Bool) (xs : List Abi) → All (AbiIn ed ids us) xs → Among (units_of ed t xs) us
    unfolding units_of
    abis_among t xs h = selected_among (λ (a : Abi). word_of ed a.shape a.storage a.offset) (λ (a : Abi). t a.role) xs (each xs h)
      where
        each : (xs : List Abi) → All (AbiIn ed ids us) xs → All (λ (a : Abi). (t a.role ≡ false) ⊎ (has (word_of ed a.shape a.storage a.offset) us ≡ true)) xs
        each [] h = tt
        each (x ∷ xs) h = (inr h.0.numbered, each xs h.1)

    operands_among : (t : ℕ → Bool) (os : List Operand) → All (OperandIn ed ids us) os → Among (units_in ed t os) us
    unfolding units_in
    operands_among t os h =
        selected_among (λ (o : Operand). word_of ed o.shape o.storage o.offset) (λ (o : Operand). t o.field and pick (eqb o.shape 0) false true) os (each os h)
      where
        one : (o : Operand) → OperandIn ed ids us o → ((t o.field and pick (eqb o.shape 0) false true) ≡ false) ⊎ (has (word_of ed o.shape o.storage o.offset) us ≡ true)
        one o (inl e) = inl (immediate (t o.field) (eqb o.shape 0) e)
        one o (inr n) = inr n.numbered

        each : (os : List Operand) → All (OperandIn ed ids us) os
            → All (λ (o : Operand). ((t o.field and pick (eqb o.shape 0) false true) ≡ false) ⊎ (has (word_of ed o.shape o.storage o.offset) us ≡ true)) os
        each [] h = tt
        each (o ∷ os) h = (one o h.0, each os h.1)

    callee_in_lem : (fs : List Function) (n : ℕ) → All (FunctionIn ed ids us) fs → All (AbiIn ed ids us) (abis_of fs n)
    unfolding abis_of lookup pick
    callee_in_lem [] n h = tt
    callee_in_lem (f ∷ fs) n h = go (eqb f.number n) (callee_in_lem fs n h.1)
      where
        go : (b : Bool) → All (AbiIn ed ids us) (abis_of fs n) → All (AbiIn ed ids us) (abis_by (pick b (defined f) (lookup fs n)))
        go true ih = h.0.abis
        go false ih = ih

    module _ (p : Program) (all : All (FunctionIn ed ids us) p.functions) (f : Function) (in_f : FunctionIn ed ids us f) where
      pub reads_among : (s : Step) → StepIn ed ids us s → Among (reads ed p f s) us
      unfolding reads
      reads_among s h =
          pick_among _ _ _ (abis_among is_parameter (abis_of p.functions s.callee) (callee_in_lem p.functions s.callee all))
          (pick_among _ _ _ (abis_among is_result f.abis in_f.abis) (operands_among (reads_field s) s.operands h))

      pub writes_among : (s : Step) → StepIn ed ids us s → Among (writes ed p s) us
      unfolding writes
      writes_among s h =
          pick_among _ _ _ (abis_among is_outcome (abis_of p.functions s.callee) (callee_in_lem p.functions s.callee all))
          (operands_among (writes_field s) s.operands h)

      pub use_listed : (s : Step) → StepIn ed ids us s → Listed us (use_of ed p f s)
      unfolding use_of
      use_listed s h = record { reads = reads_among s h; writes = writes_among s h }

      pub flows_listed : AllListed us (flows ed p f)
      unfolding flows flow_of
      flows_listed b m s n =
          let k = mem_map (flow_of ed p f) f.blocks m in
          let j = mem_map (use_of ed p f) k.0.steps (subst (λ (x : Flow). Memᴰ s x.uses) k.2 n) in
          subst (λ (x : Use). Listed us x) (sym j.2)
          (use_listed j.0 (all_mem (StepIn ed ids us) k.0.steps (all_mem (BlockIn ed ids us) f.blocks in_f.blocks k.1) j.1))

  -- What is live is among the units.
  module _ (fs : List Flow) (all : AllListed us fs) where
    read_among : (u : ℕ) → Read fs u → has u us ≡ true
    read_among u (k, l, s, m, h) = (all (flow_at fs k) (mem_at fs k no_flow l) s m).reads u (T_true (has u s.reads) h)

    pub outs_among : (k : ℕ) → Among (get_or (settled_by fs).sets.outs k []) us
    outs_among k u h = go (dec_lt k (length fs))
      where
        go : Dec (k < length fs) → has u us ≡ true
        go (yes l) = read_among u (path_read fs u ((live_end fs u k l).0 h) (λ s m. absurd (Memᴰ.not-nil m)))
        go (no l) = none_among u (ap (λ s. has u s) (sym (get_or-eq_default (settled_by fs).sets.outs [] (omega (arith, settled_outs fs)))) ∙ h)

-- Of a file that check accepts, every function has only units of the file.
pub accepted_listed : (ed : Edition) (f us : List ℕ) → check ed f ≡ units us → (fn : Function) → Memᴰ fn (program ed f).functions → AllListed us (flows ed (program ed f) fn)
accepted_listed ed f us e fn m =
    let g = (accepted ed f us e).0 in
    flows_listed us ed (ids_of (program ed f).storages) (program ed f) g.contents fn
    (all_mem (FunctionIn ed (ids_of (program ed f).storages) us) (program ed f).functions g.contents m)
