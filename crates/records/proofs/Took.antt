-- What a record that was taken has met, and the state after it, kind by kind: the one law that takes a step apart.
-- Assumes nothing.
use mathlib.Core.Path.{◌≡◌, refl}
use mathlib.Core.Logic.{◌⊎◌, inl, inr}
use mathlib.Core.Bool.{Bool, true, false}
use Prim.Native.Nat.{ℕ}
use native.Mathlib.Omega.{arith}
use lib.Dec.{ltb, eqb}
use lib.ListN.{length}
use Rattle.fields.specs.Pick.{pick, ◌and◌, ◌or◌, has}
use Rattle.fields.specs.Edition.{Edition}
use Rattle.records.specs.declared.Refusal.{Refusal}
use Rattle.fields.specs.Fields.{fields_of, end_fields_of, least_targets, most_targets, instruction_fits, terminator_fits}
use Rattle.fields.specs.Record.{Operand, Rec, header, storage, function, abi, block, instruction, operand, terminator, target, end, header_fits, storage_fits, abi_fits, word_of}
use Rattle.records.specs.Units.{no_unit}
use Rattle.records.specs.Step.{nothing, State, Turn, next, refused, need, at_start, in_storages, in_abi, in_block, after_block, at_end, with_header, with_storage, with_function, with_block, with_opened, with_number, with_unit, opened, with_given, with_target, word_step, unit_step, finished, operand_fits, operand_step, admit, take, belongs, leaves, step}

-- a test that was passed, and one that was not met
pub need_next : (t : Bool) (x : Refusal) (k : Turn) (s : State) → need t x k ≡ next s → (t ≡ true) × (k ≡ next s)
unfolding pick
need_next true x k s e = (refl, e)
need_next false x k s e = let z : ◌≡◌ {A = ℕ} 0 1 = cc in absurd (omega arith)

pub bar_next : (t : Bool) (x : Refusal) (k : Turn) (s : State) → pick t (refused x) k ≡ next s → (t ≡ false) × (k ≡ next s)
unfolding pick
bar_next false x k s e = (refl, e)
bar_next true x k s e = let z : ◌≡◌ {A = ℕ} 0 1 = cc in absurd (omega arith)

pub next_is : (s s' : State) → next s ≡ next s' → s' ≡ s
next_is s s' e = cc

-- a unit that was taken: its storage is declared, there was room for its word, and the word is noted
pub record Named (ed : Edition) (shape id offset : ℕ) (s s' : State) : Type 0 where
  pub declared : has id s.ids ≡ true
  pub room : (has (word_of ed shape id offset) s.units or ltb (length s.units) ed.units) ≡ true
  pub is : s' ≡ with_unit (word_of ed shape id offset) s

pub unit_took : (ed : Edition) (at shape id offset : ℕ) (s s' : State) → unit_step ed at shape id offset s ≡ next s' → Named ed shape id offset s s'
unfolding unit_step word_step
unit_took ed at shape id offset s s' e =
    let h = need_next _ _ _ _ e in
    let k = need_next _ _ _ _ h.1 in
    record { declared = h.0; room = k.0; is = next_is _ _ k.1 }

-- an immediate's number
abbrev pub unnamed : State → State
unnamed s = with_number s.units no_unit s

-- the state while the operand's unit is judged
abbrev pub given_to : Operand → State → State
given_to x s = with_opened s.stage (with_given x.field s.now) s

abbrev pub Took : Edition → State → ℕ → Rec → State → Type 0
Took ed s at (header a f w) s' = (eqb s.stage at_start ≡ true) × (header_fits a f w ≡ true) × (s' ≡ with_header s)
Took ed s at (storage x) s' = (eqb s.stage in_storages ≡ true) × (storage_fits ed x ≡ true) × (has x.id s.ids ≡ false) × (s' ≡ with_storage x.id s)
Took ed s at (function n) s' = ((eqb s.stage in_storages or (eqb s.stage in_abi or eqb s.stage after_block)) ≡ true) × (has n s.functions ≡ false) × (ltb (length s.functions) ed.functions ≡ true) × (s' ≡ with_function n s)
Took ed s at (abi x) s' = (eqb s.stage in_abi ≡ true) × (abi_fits x ≡ true) × Named ed x.shape x.storage x.offset s s'
Took ed s at (block id) s' = ((eqb s.stage in_abi or eqb s.stage after_block) ≡ true) × (has id s.blocks ≡ false) × (ltb (length s.blocks) ed.blocks ≡ true) × (s' ≡ with_block at id s)
Took ed s at (instruction op sub fn) s' = (eqb s.stage in_block ≡ true) × (instruction_fits op sub fn ≡ true) × (s' ≡ with_opened in_block (opened at (fields_of op) 0 0) s)
Took ed s at (operand x) s' =
    (eqb s.now.targets 0 ≡ true) × (operand_fits s.now.row s.now.given x ≡ true)
    × (((eqb x.shape 0 ≡ true) × (s' ≡ unnamed (given_to x s))) ⊎ Named ed x.shape x.storage x.offset (given_to x s) s')
Took ed s at (terminator op sub fn) s' =
    (eqb s.stage in_block ≡ true) × (terminator_fits op sub fn ≡ true) × (s' ≡ with_opened after_block (opened at (end_fields_of op sub) (least_targets op) (most_targets op)) s)
Took ed s at (target id) s' = (ltb s.now.targets s.now.most ≡ true) × (s' ≡ with_opened s.stage (with_target s.now) s)
Took ed s at end s' = ((eqb s.stage in_abi or eqb s.stage after_block) ≡ true) × (s' ≡ with_opened at_end nothing s)

operand_took : (ed : Edition) (at : ℕ) (x : Operand) (s s' : State) → operand_step ed at x s ≡ next s'
    → ((eqb x.shape 0 ≡ true) × (s' ≡ unnamed s)) ⊎ Named ed x.shape x.storage x.offset s s'
unfolding operand_step pick
operand_took ed at x s s' e = go (eqb x.shape 0) refl e
  where
    go : (t : Bool) → eqb x.shape 0 ≡ t → pick t (next (unnamed s)) (unit_step ed at x.shape x.storage x.offset s) ≡ next s'
        → ((eqb x.shape 0 ≡ true) × (s' ≡ unnamed s)) ⊎ Named ed x.shape x.storage x.offset s s'
    go true h q = inl (h, next_is _ _ q)
    go false h q = inr (unit_took ed at x.shape x.storage x.offset s s' q)

pub took : (ed : Edition) (s : State) (at : ℕ) (x : Rec) (s' : State) → take ed s at x ≡ next s' → Took ed s at x s'
unfolding take admit
took ed s at (header a f w) s' e = let h = need_next _ _ _ _ e in let k = need_next _ _ _ _ h.1 in (h.0, k.0, next_is _ _ k.1)
took ed s at (storage x) s' e =
    let h = need_next _ _ _ _ e in let k = need_next _ _ _ _ h.1 in let m = bar_next _ _ _ _ k.1 in (h.0, k.0, m.0, next_is _ _ m.1)
took ed s at (function n) s' e =
    let h = need_next _ _ _ _ e in
    let k = bar_next _ _ _ _ (need_next _ _ _ _ h.1).1 in
    let m = need_next _ _ _ _ k.1 in
    (h.0, k.0, m.0, next_is _ _ m.1)
took ed s at (abi x) s' e = let h = need_next _ _ _ _ e in let k = need_next _ _ _ _ h.1 in (h.0, k.0, unit_took ed at _ _ _ s s' k.1)
took ed s at (block id) s' e =
    let h = need_next _ _ _ _ e in
    let k = bar_next _ _ _ _ (need_next _ _ _ _ h.1).1 in
    let m = need_next _ _ _ _ k.1 in
    (h.0, k.0, m.0, next_is _ _ m.1)
took ed s at (instruction op sub fn) s' e = let h = need_next _ _ _ _ e in let k = need_next _ _ _ _ h.1 in (h.0, k.0, next_is _ _ k.1)
took ed s at (operand x) s' e = let h = need_next _ _ _ _ e in let k = need_next _ _ _ _ h.1 in (h.0, k.0, operand_took ed at x (given_to x s) s' k.1)
took ed s at (terminator op sub fn) s' e = let h = need_next _ _ _ _ e in let k = need_next _ _ _ _ h.1 in (h.0, k.0, next_is _ _ k.1)
took ed s at (target id) s' e = let h = need_next _ _ _ _ e in (h.0, next_is _ _ (need_next _ _ _ _ h.1).1)
took ed s at end s' e = let h = need_next _ _ _ _ e in (h.0, next_is _ _ (need_next _ _ _ _ h.1).1)

-- and the tests before: nothing is left unfinished, and no block is left without its terminator
pub record Stepped (ed : Edition) (s : State) (at : ℕ) (x : Rec) (s' : State) : Type 0 where
  pub complete : (belongs x or finished s.now) ≡ true
  pub ended : (leaves x and eqb s.stage in_block) ≡ false
  pub taken : Took ed s at x s'

pub stepped : (ed : Edition) (s : State) (at : ℕ) (x : Rec) (s' : State) → step ed s at x ≡ next s' → Stepped ed s at x s'
unfolding step
stepped ed s at x s' e =
    let h = need_next _ _ _ _ e in let k = bar_next _ _ _ _ h.1 in record { complete = h.0; ended = k.0; taken = took ed s at x s' k.1 }
