-- Laws on the form of the program: each step's operands fit its fields in turn and none is missing, its targets are as many as its kind takes,
-- each block is instructions and then one terminator, ABI entries, storages and header are in their ranges. Assumes nothing.
use mathlib.Core.Path.{◌≡◌, refl, sym, ap, ◌∙◌}
use mathlib.Core.Logic.{◌⊎◌, inl, inr}
use mathlib.Core.Bool.{true, false}
use mathlib.Core.List.{List, [], ◌∷◌}
use Prim.Native.Nat.{ℕ, ◌+◌, ◌≤◌, ◌<◌}
use native.Mathlib.Omega.{arith}
use lib.Dec.{eqb}
use lib.ListN.{length, drop}
use borrow.Author.Tests.{ltb-true, leb-true, eqb-true}
use Rattle.fields.specs.Pick.{pick, ◌or◌, All}
use Rattle.fields.specs.Edition.{Edition}
use Rattle.fields.specs.Fields.{Field, missing}
use Rattle.fields.specs.Record.{Abi, Operand, Rec, header, storage, function, abi, block, instruction, operand, terminator, target, end, header_fits, storage_fits, abi_fits}
use Rattle.records.specs.Step.{Opened, nothing, State, with_header, with_storage, with_function, with_block, with_opened, with_number, with_unit, opened, with_given, with_target, at_start, in_storages, in_abi, in_block, after_block, at_end, operand_fits, finished}
use Rattle.records.specs.Program.{Step, row_of, least_by, most_by, numbers_fit, Block, Function, Rest, empty, put_step, put}
use Rattle.fields.proofs.Front.{and_both}
use Rattle.records.proofs.Scan.{Walk, done, more}
use Rattle.records.proofs.Took.{Named, Took, Stepped, stepped, unnamed, given_to}
use Rattle.records.proofs.Contents.{rest, rest_nil, rest_whole}
use Rattle.records.proofs.Stages.{Calm, passed, calm_on}

-- the fields that are given once these operands are, the last one first
abbrev pub gives : List ℕ → List Operand → List ℕ
gives g [] = g
gives g (x ∷ xs) = gives (x.field ∷ g) xs

-- each operand fits, after those before it
abbrev pub Fits : List Field → List ℕ → List Operand → Type 0
Fits row g [] = Unit {0}
Fits row g (x ∷ xs) = (operand_fits row g x ≡ true) × Fits row (x.field ∷ g) xs

-- operands and targets that fill an instruction or terminator which has `given` and n targets
pub record Filled (row : List Field) (given : List ℕ) (least most n : ℕ) (xs : List Operand) (ts : List ℕ) : Type 0 where
  pub fits : Fits row given xs
  pub full : missing row 0 (gives given xs) ≡ 0
  pub enough : least ≤ n + length ts
  pub few : n + length ts ≤ most

abbrev pub FilledFrom : Opened → List Operand → List ℕ → Type 0
FilledFrom o xs ts = Filled o.row o.given o.least o.most o.targets xs ts

pub record StepFormed (x : Step) : Type 0 where
  pub numbers : numbers_fit x.ends x.op x.sub x.callee ≡ true
  pub filled : Filled (row_of x) [] (least_by x.ends x.op) (most_by x.ends x.op) 0 x.operands x.targets

-- instructions, and then one terminator
pub data Closes : List Step → Type 0 where
  last : {x : Step} → x.ends ≡ true → Closes (x ∷ [])
  front : {x : Step} {xs : List Step} → x.ends ≡ false → Closes xs → Closes (x ∷ xs)

pub record BlockFormed (b : Block) : Type 0 where
  pub closes : Closes b.steps
  pub steps : All StepFormed b.steps

abbrev pub AbiFormed : Abi → Type 0
AbiFormed x = abi_fits x ≡ true

pub record FunctionFormed (f : Function) : Type 0 where
  pub abis : All AbiFormed f.abis
  pub blocks : All BlockFormed f.blocks

-- what is to come, as the state wants it
pub record Formed (ed : Edition) (s : State) (r : Rest) : Type 0 where
  pub fills : FilledFrom s.now r.operands r.targets
  pub late : (s.now.targets ≡ 0 → ⊥) → r.operands ≡ []
  pub inside : s.stage ≡ in_block → Closes r.steps
  pub outside : (s.stage ≡ in_block → ⊥) → r.steps ≡ []
  pub steps : All StepFormed r.steps
  pub blocks : All BlockFormed r.blocks
  pub abis : All AbiFormed r.abis
  pub functions : All FunctionFormed r.functions
  pub storages : All (λ x. storage_fits ed x ≡ true) r.storages
  pub early : s.stage < in_abi → r.blocks ≡ []
  pub head : s.stage ≡ at_start → header_fits r.application r.first r.work ≡ true

-- no more targets than there may be
abbrev pub Tame : State → Type 0
Tame s = s.now.targets ≤ s.now.most

-- an instruction or terminator that is finished wants nothing
wants_none : (o : Opened) → finished o ≡ true → o.targets ≤ o.most → FilledFrom o [] []
unfolding finished
wants_none o e l =
    let h = and_both _ _ e in
    let m : o.least ≤ o.targets = leb-true o.least o.targets h.1 in
    record { fits = tt; full = eqb-true _ 0 h.0; enough = omega arith; few = omega arith }

module _ (ed : Edition) where
  pub tame_on : (s : State) (at : ℕ) (x : Rec) (s' : State) → Tame s → Took ed s at x s' → Tame s'
  unfolding with_header with_storage with_function with_block with_opened with_number with_unit opened with_given with_target
  tame_on s at (header a f w) s' c h = rw h.2 c
  tame_on s at (storage x) s' c h = rw h.3 c
  tame_on s at (function n) s' c h = rw h.3 (omega arith)
  tame_on s at (abi x) s' c h = rw h.2.is c
  tame_on s at (block id) s' c h = rw h.3 (omega arith)
  tame_on s at (instruction op sub fn) s' c h = rw h.2 (omega arith)
  tame_on s at (operand x) s' c h = go h.2
    where
      go : ((eqb x.shape 0 ≡ true) × (s' ≡ unnamed (given_to x s))) ⊎ Named ed x.shape x.storage x.offset (given_to x s) s' → Tame s'
      go (inl m) = rw m.1 c
      go (inr m) = rw m.is c
  tame_on s at (terminator op sub fn) s' c h = rw h.2 (omega arith)
  tame_on s at (target id) s' c h = rw h.1 (ltb-true s.now.targets s.now.most h.0)
  tame_on s at end s' c h = rw h.1 (omega arith)

  -- a record that is neither operand nor target finds the one before it finished
  rested : (s : State) → (false or finished s.now) ≡ true → Tame s → FilledFrom s.now [] []
  unfolding pick
  rested s e c = wants_none s.now e c

  now_operand : (s : State) (at : ℕ) (x : Operand) (s' : State) → Took ed s at (operand x) s' → s'.now ≡ with_given x.field s.now
  unfolding with_opened with_number with_unit
  now_operand s at x s' h = go h.2
    where
      go : ((eqb x.shape 0 ≡ true) × (s' ≡ unnamed (given_to x s))) ⊎ Named ed x.shape x.storage x.offset (given_to x s) s' → s'.now ≡ with_given x.field s.now
      go (inl m) = ap (λ (z : State). z.now) m.1
      go (inr m) = ap (λ (z : State). z.now) m.is

  formed_put : (s : State) (at : ℕ) (x : Rec) (s' : State) (r : Rest) → Calm s → Tame s → Stepped ed s at x s' → Formed ed s' r → Formed ed s (put x r)
  unfolding put put_step with_opened opened with_given with_target
  formed_put s at (header a f w) s' r c d st k =
      let p = passed ed s at (header a f w) s' c st.taken in
      record {
        fills = rested s st.complete d;
        late = λ _. refl;
        inside = λ e. absurd (omega (arith, p.0));
        outside = λ _. refl;
        steps = tt;
        blocks = tt;
        abis = tt;
        functions = k.functions;
        storages = k.storages;
        early = λ _. refl;
        head = λ _. st.taken.1;
      }
  formed_put s at (storage x) s' r c d st k =
      let p = passed ed s at (storage x) s' c st.taken in
      record {
        fills = rested s st.complete d;
        late = λ _. refl;
        inside = λ e. absurd (omega (arith, p.0));
        outside = λ _. refl;
        steps = tt;
        blocks = tt;
        abis = tt;
        functions = k.functions;
        storages = (st.taken.1, k.storages);
        early = λ _. refl;
        head = λ e. absurd (omega (arith, p.0));
      }
  formed_put s at (function n) s' r c d st k =
      let p = passed ed s at (function n) s' c st.taken in
      let l = late_stage p.0 in
      record {
        fills = rested s st.complete d;
        late = λ _. refl;
        inside = λ e. absurd (omega (arith, l.1 e));
        outside = λ _. refl;
        steps = tt;
        blocks = tt;
        abis = tt;
        functions = (record { abis = k.abis; blocks = k.blocks }, k.functions);
        storages = tt;
        early = λ _. refl;
        head = λ e. absurd (omega (arith, l.0));
      }
    where
      late_stage : (s.stage ≡ in_storages) ⊎ ((s.stage ≡ in_abi) ⊎ (s.stage ≡ after_block)) → (0 < s.stage) × (s.stage ≡ in_block → 1 ≤ 0)
      late_stage (inl e) = (omega arith, λ q. omega arith)
      late_stage (inr (inl e)) = (omega arith, λ q. omega arith)
      late_stage (inr (inr e)) = (omega arith, λ q. omega arith)
  formed_put s at (abi x) s' r c d st k =
      let p = passed ed s at (abi x) s' c st.taken in
      record {
        fills = rested s st.complete d;
        late = λ _. refl;
        inside = λ e. absurd (omega (arith, p.0));
        outside = λ _. refl;
        steps = tt;
        blocks = k.blocks;
        abis = (st.taken.1, k.abis);
        functions = k.functions;
        storages = tt;
        early = λ q. absurd (omega (arith, p.0));
        head = λ e. absurd (omega (arith, p.0));
      }
  formed_put s at (block id) s' r c d st k =
      let p = passed ed s at (block id) s' c st.taken in
      let l = late_stage p.0 in
      record {
        fills = rested s st.complete d;
        late = λ _. refl;
        inside = λ e. absurd (omega (arith, l.1 e));
        outside = λ _. refl;
        steps = tt;
        blocks = (record { closes = k.inside p.1; steps = k.steps }, k.blocks);
        abis = tt;
        functions = k.functions;
        storages = tt;
        early = λ q. absurd (omega (arith, l.2));
        head = λ e. absurd (omega (arith, l.0));
      }
    where
      late_stage : (s.stage ≡ in_abi) ⊎ (s.stage ≡ after_block) → (0 < s.stage) × (s.stage ≡ in_block → 1 ≤ 0) × (in_abi ≤ s.stage)
      late_stage (inl e) = (omega arith, λ q. omega arith, omega arith)
      late_stage (inr e) = (omega arith, λ q. omega arith, omega arith)
  formed_put s at (instruction op sub fn) s' r c d st k =
      let p = passed ed s at (instruction op sub fn) s' c st.taken in
      record {
        fills = rested s st.complete d;
        late = λ _. refl;
        inside = λ _. front refl (k.inside p.1);
        outside = λ n. absurd (n p.0);
        steps = (record { numbers = st.taken.1; filled = rw st.taken.2 at k.fills }, k.steps);
        blocks = k.blocks;
        abis = tt;
        functions = k.functions;
        storages = tt;
        early = λ q. absurd (omega (arith, p.0));
        head = λ e. absurd (omega (arith, p.0));
      }
  formed_put s at (operand x) s' r c d st k =
      let p = passed ed s at (operand x) s' c st.taken in
      let m : FilledFrom (with_given x.field s.now) r.operands r.targets = rw (now_operand s at x s' st.taken) at k.fills in
      record {
        fills = record { fits = (st.taken.1, m.fits); full = m.full; enough = m.enough; few = m.few };
        late = λ n. absurd (n (eqb-true s.now.targets 0 st.taken.0));
        inside = λ e. k.inside (p.1 ∙ e);
        outside = λ n. k.outside (λ e. n (sym p.1 ∙ e));
        steps = k.steps;
        blocks = k.blocks;
        abis = tt;
        functions = k.functions;
        storages = tt;
        early = λ q. absurd (omega (arith, p.0.0));
        head = λ e. absurd (omega (arith, p.0.0));
      }
  formed_put s at (terminator op sub fn) s' r c d st k =
      let p = passed ed s at (terminator op sub fn) s' c st.taken in
      let o : r.steps ≡ [] = k.outside (λ e. absurd (omega (arith, p.1))) in
      record {
        fills = rested s st.complete d;
        late = λ _. refl;
        inside = λ _. rw o (last refl);
        outside = λ n. absurd (n p.0);
        steps = (record { numbers = st.taken.1; filled = rw st.taken.2 at k.fills }, k.steps);
        blocks = k.blocks;
        abis = tt;
        functions = k.functions;
        storages = tt;
        early = λ q. absurd (omega (arith, p.0));
        head = λ e. absurd (omega (arith, p.0));
      }
  formed_put s at (target id) s' r c d st k =
      let p = passed ed s at (target id) s' c st.taken in
      let e : s'.now ≡ with_target s.now = ap (λ (z : State). z.now) st.taken.1 in
      let o : r.operands ≡ [] = k.late (λ q. absurd (omega (arith, ap (λ (z : Opened). z.targets) e))) in
      let m : FilledFrom (with_target s.now) [] r.targets = rw (e, o) at k.fills in
      record {
        fills = record { fits = tt; full = m.full; enough = omega (arith, m.enough); few = omega (arith, m.few) };
        late = λ _. refl;
        inside = λ e. k.inside (p.1 ∙ e);
        outside = λ n. k.outside (λ e. n (sym p.1 ∙ e));
        steps = k.steps;
        blocks = k.blocks;
        abis = tt;
        functions = k.functions;
        storages = tt;
        early = λ q. absurd (omega (arith, p.0.0));
        head = λ e. absurd (omega (arith, p.0.0));
      }
  formed_put s at end s' r c d st k =
      let p = passed ed s at end s' c st.taken in
      let l = late_stage p.0 in
      record {
        fills = rested s st.complete d;
        late = λ _. refl;
        inside = λ e. absurd (omega (arith, l.1 e));
        outside = λ _. refl;
        steps = tt;
        blocks = tt;
        abis = tt;
        functions = tt;
        storages = tt;
        early = λ _. refl;
        head = λ e. absurd (omega (arith, l.0));
      }
    where
      late_stage : (s.stage ≡ in_abi) ⊎ (s.stage ≡ after_block) → (0 < s.stage) × (s.stage ≡ in_block → 1 ≤ 0)
      late_stage (inl e) = (omega arith, λ q. omega arith)
      late_stage (inr e) = (omega arith, λ q. omega arith)

  -- at the end nothing is to come
  formed_done : (s : State) → Calm s → s.stage ≡ at_end → Formed ed s empty
  unfolding missing
  formed_done s c e =
      let n : s.now ≡ nothing = c (λ i. absurd (omega (arith, i.1))) in
      record {
        fills = rw n (record { fits = tt; full = refl; enough = omega arith; few = omega arith });
        late = λ _. refl;
        inside = λ q. absurd (omega arith);
        outside = λ _. refl;
        steps = tt;
        blocks = tt;
        abis = tt;
        functions = tt;
        storages = tt;
        early = λ _. refl;
        head = λ q. absurd (omega arith);
      }

  pub walk_formed : {s s' : State} {at : ℕ} {t : List ℕ} → Walk ed s at t s' → Calm s → Tame s → s'.stage ≡ at_end → Formed ed s (rest ed t)
  walk_formed {s} done c d e = rw (rest_nil ed) (formed_done s c e)
  walk_formed {s} {at = at} {t} (more {s' = s'} len x r q w) c d e =
      let st = stepped ed s at x s' q in
      rw (rest_whole ed t len x r)
      (formed_put s at x s' (rest ed (drop len t)) c d st (walk_formed w (calm_on ed s at x s' c st.taken) (tame_on s at x s' d st.taken) e))
