-- What a record comes to in code: a test that was not met is the refusal that the step gives, and where all are met the step goes on to the next state.
-- So the tests that the code has made on its way to an answer decide the step, one by one.
use Rattle.std.specs.Prelude.{Result, Ok, Err}
use mathlib.Core.Path.{◌≡◌, refl, sym, ap, ap₂, ◌∙◌}
use mathlib.Core.Bool.{true, false}
use mathlib.Core.List.{List, [], ◌∷◌, ◌++◌}
use Prim.Native.Nat.{ℕ, ◌≤◌, ◌<◌}
use native.Mathlib.Omega.{arith}
use lib.Dec.{eqb}
use lib.ListN.{length}
use borrow.Author.Tests.{lt-ltb, le-ltb, eq-eqb, ne_eqb}
use Rattle.fields.specs.Pick.{pick_yes, pick_no, ◌and◌, ◌or◌, has}
use Rattle.fields.specs.Edition.{one}
use Rattle.fields.specs.Record.{Storage, Operand, Rec, storage, function, block, operand, word_of}
use Rattle.records.specs.Units.{number_in, noted, no_unit}
use Rattle.records.specs.Step.{State, Turn, next, refused, in_block, with_storage, with_function, with_block, with_number, with_unit, word_step, unit_step, operand_step, finished, belongs, leaves, follows, fits, admit, take as taken, step}
use Rattle.records.specs.Index.{entered}
use Rattle.records.specs.Mirror.{reader_of, Holds, Enters, Comes}
use Rattle.records.specs.declared.Refusal.{Refusal}
use Rattle.records.specs.declared.Refusal.TheVariants.{Form, Repeated, Undeclared, Limit}
use Rattle.records.specs.declared.reader.Reader.{Reader}
use Rattle.records.specs.declared.notes.Notes.{Notes}
use Rattle.records.proofs.Took.{given_to}
use Rattle.records.proofs.Lists.{number_snoc}

-- A turn that is known -------------------------------------------------------------------------------------------------------------------------

module _ (t : Turn) (r : Result Reader Refusal) (P : State → Type 0) where
  pub comes_next : (s : State) → t ≡ next s → r ≡ Ok (reader_of s) → P s → Comes t r P
  comes_next s p q h = rw p (q, h)

  pub comes_refused : (x : Refusal) → t ≡ refused x → r ≡ Err x → Comes t r P
  comes_refused x p q = rw p q

pub comes_as : (t u : Turn) (r : Result Reader Refusal) (P : State → Type 0) → t ≡ u → Comes u r P → Comes t r P
comes_as t u r P p h = rw p h

-- A record out of order, out of range, or to be judged further
module _ (s : State) (at : ℕ) (x : Rec) (P : State → Type 0) where
  pub comes_order : follows x s ≡ false → Comes (taken one s at x) (Err (Form at)) P
  unfolding taken
  comes_order h = comes_refused _ _ P (Form at) (pick_no _ _ _ h) refl

  pub comes_range : follows x s ≡ true → fits one x s.now ≡ false → Comes (taken one s at x) (Err (Form at)) P
  unfolding taken
  comes_range h k = comes_refused _ _ P (Form at) (pick_yes _ _ _ h ∙ pick_no _ _ _ k) refl

  pub comes_admit : (r : Result Reader Refusal) → follows x s ≡ true → fits one x s.now ≡ true → Comes (admit one s at x) r P → Comes (taken one s at x) r P
  unfolding taken
  comes_admit r h k m = comes_as _ _ r P (pick_yes _ _ _ h ∙ pick_yes _ _ _ k) m

-- What is left to judge ------------------------------------------------------------------------------------------------------------------------------

module _ (s : State) (at : ℕ) (P : State → Type 0) where
  pub storage_again : (x : Storage) → has x.id s.ids ≡ true → Comes (admit one s at (storage x)) (Err (Repeated at)) P
  unfolding admit
  storage_again x h = comes_refused _ _ P (Repeated at) (pick_yes _ _ _ h) refl

  pub storage_next : (x : Storage) (r : Reader) → has x.id s.ids ≡ false → r ≡ reader_of (with_storage x.id s) → P (with_storage x.id s)
      → Comes (admit one s at (storage x)) (Ok r) P
  unfolding admit
  storage_next x r h e p = comes_next _ _ P (with_storage x.id s) (pick_no _ _ _ h) (ap Ok e) p

  pub function_again : (n : ℕ) → has n s.functions ≡ true → Comes (admit one s at (function n)) (Err (Repeated at)) P
  unfolding admit
  function_again n h = comes_refused _ _ P (Repeated at) (pick_yes _ _ _ h) refl

  pub function_limit : (n : ℕ) → has n s.functions ≡ false → 64 ≤ length s.functions → Comes (admit one s at (function n)) (Err (Limit at)) P
  unfolding admit
  function_limit n h l = comes_refused _ _ P (Limit at) (pick_no _ _ _ h ∙ pick_no _ _ _ (le-ltb _ _ l)) refl

  pub function_next : (n : ℕ) (r : Reader) → has n s.functions ≡ false → length s.functions < 64 → r ≡ reader_of (with_function n s)
      → P (with_function n s) → Comes (admit one s at (function n)) (Ok r) P
  unfolding admit
  function_next n r h l e p = comes_next _ _ P (with_function n s) (pick_no _ _ _ h ∙ pick_yes _ _ _ (lt-ltb _ _ l)) (ap Ok e) p

  pub block_again : (id : ℕ) → has id s.blocks ≡ true → Comes (admit one s at (block id)) (Err (Repeated at)) P
  unfolding admit
  block_again id h = comes_refused _ _ P (Repeated at) (pick_yes _ _ _ h) refl

  pub block_limit : (id : ℕ) → has id s.blocks ≡ false → 128 ≤ length s.blocks → Comes (admit one s at (block id)) (Err (Limit at)) P
  unfolding admit
  block_limit id h l = comes_refused _ _ P (Limit at) (pick_no _ _ _ h ∙ pick_no _ _ _ (le-ltb _ _ l)) refl

  pub block_next : (id : ℕ) (r : Reader) → has id s.blocks ≡ false → length s.blocks < 128 → r ≡ reader_of (with_block at id s)
      → P (with_block at id s) → Comes (admit one s at (block id)) (Ok r) P
  unfolding admit
  block_next id r h l e p = comes_next _ _ P (with_block at id s) (pick_no _ _ _ h ∙ pick_yes _ _ _ (lt-ltb _ _ l)) (ap Ok e) p

-- A unit -----------------------------------------------------------------------------------------------------------------------------------------------

pub unit_as : (at shape id id' offset offset' : ℕ) (s : State) (r : Result Reader Refusal) (P : State → Type 0) → id ≡ id' → offset ≡ offset'
    → Comes (unit_step one at shape id offset s) r P → Comes (unit_step one at shape id' offset' s) r P
unit_as at shape id id' offset offset' s r P p q h = comes_as _ _ r P (ap₂ (λ (a b : ℕ). unit_step one at shape a b s) (sym p) (sym q)) h

module _ (s : State) (at shape id offset : ℕ) (P : State → Type 0) where
  pub unit_undeclared : has id s.ids ≡ false → Comes (unit_step one at shape id offset s) (Err (Undeclared at)) P
  unfolding unit_step
  unit_undeclared h = comes_refused _ _ P (Undeclared at) (pick_no _ _ _ h) refl

  pub unit_declared : (word : ℕ) (r : Result Reader Refusal) → has id s.ids ≡ true → word ≡ word_of one shape id offset → Comes (word_step one at word s) r P
      → Comes (unit_step one at shape id offset s) r P
  unfolding unit_step
  unit_declared word r h e k = comes_as _ _ r P (pick_yes _ _ _ h ∙ ap (λ (w : ℕ). word_step one at w s) (sym e)) k

-- an operand's unit is judged once the operand is given to what is open
module _ (s : State) (at : ℕ) (x : Operand) (r : Result Reader Refusal) (P : State → Type 0) where
  pub operand_none : x.shape ≡ 0 → Comes (next (with_number (given_to x s).units no_unit (given_to x s))) r P → Comes (admit one s at (operand x)) r P
  unfolding admit operand_step
  operand_none q h = comes_as _ _ r P (pick_yes _ _ _ (eq-eqb _ _ q)) h

  pub operand_unit : (x.shape ≡ 0 → ⊥) → Comes (unit_step one at x.shape x.storage x.offset (given_to x s)) r P → Comes (admit one s at (operand x)) r P
  unfolding admit operand_step
  operand_unit q h = comes_as _ _ r P (pick_no _ _ _ (ne_eqb _ _ q)) h

module _ (s : State) (at word : ℕ) (P : State → Type 0) where
  pub word_full : has word s.units ≡ false → 512 ≤ length s.units → Comes (word_step one at word s) (Err (Limit at)) P
  unfolding word_step
  word_full h l = comes_refused _ _ P (Limit at) (pick_no _ _ _ (pick_no _ _ _ h ∙ le-ltb _ _ l)) refl

  pub word_known : (k : ℕ) (r : Reader) → has word s.units ≡ true → k ≡ number_in word s.units → r ≡ reader_of (with_number s.units k s)
      → P (with_number s.units k s) → Comes (word_step one at word s) (Ok r) P
  unfolding word_step with_unit noted
  word_known k r h e q p =
      comes_next _ _ P (with_number s.units k s)
      (pick_yes _ _ _ (pick_yes _ _ _ h)
      ∙ ap (λ (us : List ℕ). next (with_number us (number_in word us) s)) (pick_yes _ _ _ h) ∙ ap (λ (i : ℕ). next (with_number s.units i s)) (sym e))
      (ap Ok q) p

  pub word_new : (k : ℕ) (r : Reader) → has word s.units ≡ false → k ≡ length s.units → k < 512 → r ≡ reader_of (with_number (s.units ++ (word ∷ [])) k s)
      → P (with_number (s.units ++ (word ∷ [])) k s) → Comes (word_step one at word s) (Ok r) P
  unfolding word_step with_unit noted
  word_new k r h e l q p =
      let few : length s.units < 512 = omega arith in
      comes_next _ _ P (with_number (s.units ++ (word ∷ [])) k s)
      (pick_yes _ _ _ (pick_no _ _ _ h ∙ lt-ltb _ _ few)
      ∙ ap (λ (us : List ℕ). next (with_number us (number_in word us) s)) (pick_no _ _ _ h)
      ∙ ap (λ (i : ℕ). next (with_number (s.units ++ (word ∷ [])) i s)) (number_snoc word s.units h ∙ sym e))
      (ap Ok q) p

-- A record by its kind, and the tests before it ---------------------------------------------------------------------------------------------------

module _ (s : State) (at k : ℕ) (x y : Rec) (r : Result Reader Refusal) (before : List ℕ) (d : Notes) (e : x ≡ y) where
  pub taken_as : Comes (taken one s at y) r (λ s'. Enters s' y at k before d) → Comes (taken one s at x) r (λ s'. Enters s' x at k before d)
  taken_as h = rw e h

  -- a record that is no function's leaves the table
  pub taken_other : d.table.now ≡ entered y at k before → Comes (taken one s at y) r (λ s'. Holds s' d) → Comes (taken one s at x) r (λ s'. Enters s' x at k before d)
  taken_other same h = taken_as (go (taken one s at y) h)
    where
      go : (t : Turn) → Comes t r (λ s'. Holds s' d) → Comes t r (λ s'. Enters s' y at k before d)
      go (next s') m = (m.0, record { holds = m.1; table_is = same })
      go (refused z) m = m

-- First whether what came before the record is complete
module _ (s : State) (at : ℕ) (x : Rec) (P : State → Type 0) where
  pub step_open : (place : ℕ) → place ≡ s.now.place → (belongs x or finished s.now) ≡ false → Comes (step one s at x) (Err (Form place)) P
  unfolding step
  step_open place e h = comes_refused _ _ P (Form s.now.place) (pick_no _ _ _ h) (ap (λ (i : ℕ). Err (Form i)) e)

  pub step_cut : (place : ℕ) → place ≡ s.block_at → (belongs x or finished s.now) ≡ true → (leaves x and eqb s.stage in_block) ≡ true
      → Comes (step one s at x) (Err (Form place)) P
  unfolding step
  step_cut place e h k = comes_refused _ _ P (Form s.block_at) (pick_yes _ _ _ h ∙ pick_yes _ _ _ k) (ap (λ (i : ℕ). Err (Form i)) e)

  pub step_taken : (r : Result Reader Refusal) → (belongs x or finished s.now) ≡ true → (leaves x and eqb s.stage in_block) ≡ false
      → Comes (taken one s at x) r P → Comes (step one s at x) r P
  unfolding step
  step_taken r h k m = comes_as _ _ r P (pick_yes _ _ _ h ∙ pick_no _ _ _ k) m

  -- an operand goes to what is open and leaves no block
  pub step_operand : (y : Operand) (r : Result Reader Refusal) → x ≡ operand y → Comes (taken one s at x) r P → Comes (step one s at x) r P
  step_operand y r e m = step_taken r (pick_yes _ _ _ (ap belongs e)) (pick_no _ _ _ (ap leaves e)) m
