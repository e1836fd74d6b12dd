-- The numbers that the code keeps of a state, and the notes that hold its lists, before and after a record. A record changes one number or two
-- and adds to one list, so the numbers stay the state's by an equation of records, and the notes of the other lists stay as they are.
use Rattle.std.specs.Borrow.{MutBor}
use mathlib.Core.Path.{◌≡◌, refl, sym, ap, ap₂, ◌∙◌}
use mathlib.Core.Bool.{Bool, true, false, not, true≢false}
use mathlib.Core.Logic.{◌⊎◌, inl, inr}
use mathlib.Core.List.{List, [], ◌∷◌, ◌++◌}
use denote.Enum.Bare.{sameb, true_same, false_same}
use Prim.Native.Nat.{ℕ, zero, suc, ◌+◌, ◌-◌, ◌≤◌, ◌<◌}
use native.Mathlib.Omega.{arith}
use lib.Dec.{ltb, eqb}
use lib.ListN.{length, get_or, take, set, length-append, length-set}
use borrow.Author.Rules.{rules}
use borrow.Author.Tests.{ltb-true, leb-true, eqb-true, eqb-false, lt-ltb, le-ltb, eq-eqb, ne_eqb}
use Rattle.rows.specs.Row.{member_at, with_at}
use Rattle.fields.specs.Pick.{pick_yes, pick_no, ◌and◌, ◌or◌, has}
use Rattle.fields.specs.Edition.{one}
use Rattle.records.specs.Index.{listed}
use Rattle.records.specs.Outcome.{laid}
use Rattle.fields.specs.Fields.{Field}
use Rattle.fields.specs.Record.{function, u16_at, storage_in, storage_fits}
use Rattle.records.specs.Step.{Opened, nothing, State, in_storages, in_abi, after_block, opened, with_header, with_storage, with_function, with_block, with_opened, with_number}
use Rattle.records.specs.Mirror.{pending_of, stage_of, reader_of, Chained, Holds, Enters}
use Rattle.records.specs.declared.pending.Pending.{Pending}
use Rattle.records.specs.declared.reader.Stage.{Stage}
use Rattle.records.specs.declared.reader.Stage.TheVariants.{AtStart, InStorages, InAbi, InBlock, AfterBlock, AtEnd}
use Rattle.records.specs.contracts.reader.Stage.{the_type}
use Rattle.records.specs.declared.reader.Reader.{Reader}
use Rattle.records.specs.declared.notes.Notes.{Notes}
use Rattle.fields.proofs.Front.{and_both}
use Rattle.records.proofs.Numbers.{has_snoc}
use Rattle.records.proofs.Entries.{listed_at, unlisted_at, entry_many, listed_more, enters_function}
use Rattle.records.proofs.Lists.{or_last, front_snoc, row_has, row_snoc, low_snoc}

-- The stage of a number ---------------------------------------------------------------------------------------------------------------------------

unfoldable number : Stage → ℕ
number AtStart = 0
number InStorages = 1
number InAbi = 2
number InBlock = 3
number AfterBlock = 4
number AtEnd = 5

numbered : (n : ℕ) → number (stage_of n) + (n - 5) ≡ n
unfolding number
numbered zero = refl
numbered (suc zero) = refl
numbered (suc (suc zero)) = refl
numbered (suc (suc (suc zero))) = refl
numbered (suc (suc (suc (suc zero)))) = refl
numbered (suc (suc (suc (suc (suc n))))) = omega arith

stage_same : (n k : ℕ) → k < 5 → stage_of n ≡ stage_of k → n ≡ k
stage_same n k l e = omega (arith, ap number e, numbered n, numbered k)

pub stage_ended : (n : ℕ) → n ≤ 5 → stage_of n ≡ AtEnd → n ≡ 5
stage_ended n l e = omega (arith, ap number e, numbered n, numbered 5)

-- the code's test on stages is the test on their numbers
pub same_stage : (g : Stage) (n k : ℕ) → k < 5 → g ≡ stage_of n → sameb the_type g (stage_of k) ≡ eqb n k
same_stage g n k l p = go (eqb n k) refl
  where
    go : (t : Bool) → eqb n k ≡ t → sameb the_type g (stage_of k) ≡ t
    go true q = true_same the_type g (stage_of k) (p ∙ ap stage_of (eqb-true n k q))
    go false q = false_same the_type (search rules) g (stage_of k) (λ z. eqb-false n k q (stage_same n k l (sym p ∙ z)))

-- the blocks of a function begin, or the last one has its terminator
pub between : (g : Stage) (n : ℕ) → g ≡ stage_of n → (g ≡ InAbi) ⊎ (g ≡ AfterBlock) → true ≡ (eqb n in_abi or eqb n after_block)
between g n p (inl q) = sym (pick_yes _ _ _ (eq-eqb n in_abi (stage_same n in_abi (omega arith) (sym p ∙ q))))
between g n p (inr q) = or_last (eqb n in_abi) _ (eq-eqb n after_block (stage_same n after_block (omega arith) (sym p ∙ q)))

pub not_between : (g : Stage) (n : ℕ) → g ≡ stage_of n → (g ≡ InAbi → ⊥) → (g ≡ AfterBlock → ⊥) → false ≡ (eqb n in_abi or eqb n after_block)
not_between g n p a b = sym (pick_no _ _ _ (ne_eqb n in_abi (λ z. a (p ∙ ap stage_of z))) ∙ ne_eqb n after_block (λ z. b (p ∙ ap stage_of z)))

-- The numbers of a state -----------------------------------------------------------------------------------------------------------------------

not_not : (b : Bool) → not (not b) ≡ b
not_not true = refl
not_not false = refl

module _ (c : Reader) (s : State) (e : c ≡ reader_of s) where
  pub stage_as : c.stage ≡ stage_of s.stage
  stage_as = ap (λ (p : Reader). p.stage) e

  -- what a test on the stage has found
  pub stage_test : (k : ℕ) (t b : Bool) → k < 5 → t ≡ not (sameb the_type c.stage (stage_of k)) → t ≡ b → eqb s.stage k ≡ not b
  stage_test k t b l p q = sym (same_stage c.stage s.stage k l stage_as) ∙ sym (not_not _) ∙ ap not (sym p ∙ q)

  pub functions_of : c.functions ≡ length s.functions
  functions_of = ap (λ (p : Reader). p.functions) e

  pub blocks_of_lem : c.blocks ≡ length s.blocks
  blocks_of_lem = ap (λ (p : Reader). p.blocks) e

  pub units_of_lem : c.units ≡ length s.units
  units_of_lem = ap (λ (p : Reader). p.units) e

  pub named_of : c.named ≡ length s.numbers
  named_of = ap (λ (p : Reader). p.named) e

  -- and of what is open
  pub now_of : c.now ≡ pending_of s.now
  now_of = ap (λ (p : Reader). p.now) e

  pub place_of : c.now.place ≡ s.now.place
  place_of = ap (λ (p : Pending). p.place) now_of

  pub block_of_lem : c.block ≡ s.block_at
  block_of_lem = ap (λ (p : Reader). p.block) e

  pub targets_is : c.now.targets ≡ 0 → eqb s.now.targets 0 ≡ true
  targets_is q = eq-eqb _ _ (sym (ap (λ (p : Pending). p.targets) now_of) ∙ q)

  pub targets_not : (c.now.targets ≡ 0 → ⊥) → eqb s.now.targets 0 ≡ false
  targets_not q = ne_eqb _ _ (λ z. q (ap (λ (p : Pending). p.targets) now_of ∙ z))

  pub targets_more : c.now.targets < c.now.most → ltb s.now.targets s.now.most ≡ true
  targets_more q =
      let a : c.now.targets ≡ s.now.targets = ap (λ (p : Pending). p.targets) now_of in
      let b : c.now.most ≡ s.now.most = ap (λ (p : Pending). p.most) now_of in
      let l : s.now.targets < s.now.most = omega arith in
      lt-ltb _ _ l

  pub targets_full : c.now.most ≤ c.now.targets → ltb s.now.targets s.now.most ≡ false
  targets_full q =
      let a : c.now.targets ≡ s.now.targets = ap (λ (p : Pending). p.targets) now_of in
      let b : c.now.most ≡ s.now.most = ap (λ (p : Pending). p.most) now_of in
      let l : s.now.most ≤ s.now.targets = omega arith in
      le-ltb _ _ l

-- The numbers after a record -----------------------------------------------------------------------------------------------------------------------

abbrev reader : Stage → ℕ → ℕ → ℕ → ℕ → ℕ → Pending → Reader
reader stage functions blocks place units named now =
    record { stage = stage; functions = functions; blocks = blocks; block = place; units = units; named = named; now = now }

module _ (c : Reader) (s : State) (e : c ≡ reader_of s) where
  pub reader_storage : (id : ℕ) → c ≡ reader_of (with_storage id s)
  unfolding with_storage
  reader_storage id = e

  pub reader_function : (n : ℕ) (o : Pending) → o ≡ pending_of nothing
      → reader InAbi (c.functions + 1) 0 c.block c.units c.named o ≡ reader_of (with_function n s)
  unfolding with_function
  reader_function n o q =
      ap₂ (λ (p : Reader) (o : Pending). reader InAbi (p.functions + 1) 0 p.block p.units p.named o) e q
      ∙ ap (λ (k : ℕ). reader InAbi k 0 s.block_at (length s.units) (length s.numbers) (pending_of nothing)) (sym (length-append s.functions (n ∷ [])))

  pub reader_block : (at id : ℕ) (o : Pending) → o ≡ pending_of nothing
      → reader InBlock c.functions (c.blocks + 1) at c.units c.named o ≡ reader_of (with_block at id s)
  unfolding with_block
  reader_block at id o q =
      ap₂ (λ (p : Reader) (o : Pending). reader InBlock p.functions (p.blocks + 1) at p.units p.named o) e q
      ∙ ap (λ (k : ℕ). reader InBlock (length s.functions) k at (length s.units) (length s.numbers) (pending_of nothing)) (sym (length-append s.blocks (id ∷ [])))

  pub reader_opened : (stage : Stage) (n : ℕ) (x : Opened) (o : Pending) → stage ≡ stage_of n → o ≡ pending_of x
      → reader stage c.functions c.blocks c.block c.units c.named o ≡ reader_of (with_opened n x s)
  unfolding with_opened
  reader_opened stage n x o p q =
      ap₂ (λ (g : Stage) (r : Reader). reader g r.functions r.blocks r.block r.units r.named o) p e
      ∙ ap (λ (o : Pending). reader (stage_of n) (length s.functions) (length s.blocks) s.block_at (length s.units) (length s.numbers) o) q

  pub reader_header : reader InStorages c.functions c.blocks c.block c.units c.named c.now ≡ reader_of (with_header s)
  unfolding with_header with_opened
  reader_header = reader_opened InStorages in_storages s.now c.now refl (now_of c s e)

  pub reader_number : (us : List ℕ) (n units named : ℕ) → length us ≡ units → named ≡ length s.numbers + 1
      → reader c.stage c.functions c.blocks c.block units named c.now ≡ reader_of (with_number us n s)
  unfolding with_number
  reader_number us n units named u k =
      ap (λ (p : Reader). reader p.stage p.functions p.blocks p.block units named p.now) e
      ∙ ap₂ (λ (a b : ℕ). reader (stage_of s.stage) (length s.functions) (length s.blocks) s.block_at a b (pending_of s.now)) (sym u)
      (k ∙ sym (length-append s.numbers (n ∷ [])))

pub opened_as : (at : ℕ) (row : List Field) (a b least most : ℕ) (o : Pending) → a ≡ least → b ≡ most
    → o ≡ pending_of (opened at row a b) → o ≡ pending_of (opened at row least most)
opened_as at row a b least most o p q h = h ∙ ap₂ (λ (x y : ℕ). pending_of (opened at row x y)) p q

-- Holding goes on --------------------------------------------------------------------------------------------------------------------------------

module _ (s : State) (d : Notes) (h : Holds s d) where
  pub holds_opened : (stage : ℕ) (o : Opened) → Holds (with_opened stage o s) d
  unfolding with_opened
  holds_opened stage o =
      record {
        id_row = h.id_row;
        id_low = h.id_low;
        many_entries = h.many_entries;
        function_list = h.function_list;
        many_blocks = h.many_blocks;
        block_list = h.block_list;
        units_most = h.units_most;
        unit_words = h.unit_words;
        chains = h.chains;
        number_list = h.number_list;
      }

  pub holds_header : Holds (with_header s) d
  unfolding with_header with_opened
  holds_header = holds_opened in_storages s.now

  pub holds_storage : (n id : ℕ) (ids : List ℕ) → n ≡ id → n < 256 → ids ≡ with_at d.ids 0 n → Holds (with_storage id s) (record d { ids = ids })
  unfolding with_storage
  holds_storage n id ids q low e =
      let l : id < 256 = omega arith in
      record {
        id_row = e ∙ ap (with_at d.ids 0) q ∙ row_snoc d.ids s.ids id h.id_row l;
        id_low = low_snoc s.ids id h.id_low l;
        many_entries = h.many_entries;
        function_list = h.function_list;
        many_blocks = h.many_blocks;
        block_list = h.block_list;
        units_most = h.units_most;
        unit_words = h.unit_words;
        chains = h.chains;
        number_list = h.number_list;
      }

  pub holds_function : (n at k : ℕ) (table : MutBor (List ℕ)) → n < 256 → at ≤ 16384 → table.now ≡ set (set d.table.now n (at + 2)) (256 + n) k
      → Holds (with_function n s) (record d { table = table })
  unfolding with_function
  holds_function n at k table low early e =
      record {
        id_row = h.id_row;
        id_low = h.id_low;
        many_entries = ap length e ∙ entry_many d.table.now n (at + 2) k h.many_entries low;
        function_list = λ m l.
            ap (λ (t : List ℕ). listed t m) e ∙ listed_more d.table.now n (at + 2) k h.many_entries low (omega arith) m l
            ∙ ap (λ (b : Bool). b or eqb m n) (h.function_list m l) ∙ sym (has_snoc m n s.functions);
        many_blocks = h.many_blocks;
        block_list = refl;
        units_most = h.units_most;
        unit_words = h.unit_words;
        chains = h.chains;
        number_list = h.number_list;
      }

  -- the code has found that the number was not in the table
  pub enters_new : (n at k : ℕ) (table : MutBor (List ℕ)) → n < 256 → at ≤ 16384 → get_or d.table.now n 0 ≡ 65535
      → table.now ≡ set (set d.table.now n (at + 2)) (256 + n) k → Enters (with_function n s) (function n) at k d.table.now (record d { table = table })
  enters_new n at k table low early none e =
      record { holds = holds_function n at k table low early e; table_is = e ∙ enters_function d.table.now n at k (unlisted_at d.table.now n none) }

  pub holds_block : (at n k id : ℕ) (blocks : List ℕ) → n ≡ length s.blocks → k ≡ id → n < 128 → blocks ≡ set d.blocks n k
      → Holds (with_block at id s) (record d { blocks = blocks })
  unfolding with_block
  holds_block at n k id blocks q j low e =
      let room : length s.blocks < length d.blocks = omega (arith, h.many_blocks) in
      let f : take (length (s.blocks ++ (id ∷ []))) blocks ≡ s.blocks ++ (id ∷ [])
      = ap (take (length (s.blocks ++ (id ∷ [])))) (e ∙ ap₂ (set d.blocks) q j) ∙ front_snoc d.blocks s.blocks id h.block_list room in
      record {
        id_row = h.id_row;
        id_low = h.id_low;
        many_entries = h.many_entries;
        function_list = h.function_list;
        many_blocks = ap length e ∙ length-set d.blocks n k ∙ h.many_blocks;
        block_list = f;
        units_most = h.units_most;
        unit_words = h.unit_words;
        chains = h.chains;
        number_list = h.number_list;
      }

  -- a unit's number is noted, among units that the words hold
  pub holds_number : (us heads nexts : List ℕ) (words numbers : MutBor (List ℕ)) (n k : ℕ) → length us ≤ 512 → words.now ≡ laid 512 us []
      → Chained us heads nexts → n ≡ length s.numbers → n < length d.numbers.now → numbers.now ≡ set d.numbers.now n k
      → Holds (with_number us k s) (record d { heads = heads; nexts = nexts; words = words; numbers = numbers })
  unfolding with_number
  holds_number us heads nexts words numbers n k most laid chains q low e =
      let room : length s.numbers < length d.numbers.now = omega arith in
      let f : take (length (s.numbers ++ (k ∷ []))) numbers.now ≡ s.numbers ++ (k ∷ [])
      = ap (take (length (s.numbers ++ (k ∷ [])))) (e ∙ ap (λ (i : ℕ). set d.numbers.now i k) q) ∙ front_snoc d.numbers.now s.numbers k h.number_list room in
      record {
        id_row = h.id_row;
        id_low = h.id_low;
        many_entries = h.many_entries;
        function_list = h.function_list;
        many_blocks = h.many_blocks;
        block_list = h.block_list;
        units_most = most;
        unit_words = laid;
        chains = chains;
        number_list = f;
      }

  pub entry_there : (n : ℕ) → n < 256 → (get_or d.table.now n 0 ≡ 65535 → ⊥) → has n s.functions ≡ true
  entry_there n low some = sym (h.function_list n low) ∙ listed_at d.table.now n some

  pub entry_none : (n : ℕ) → n < 256 → get_or d.table.now n 0 ≡ 65535 → has n s.functions ≡ false
  entry_none n low none = sym (h.function_list n low) ∙ unlisted_at d.table.now n none

  pub declared_is : (id : ℕ) → (ltb id 256 and member_at d.ids 0 id) ≡ has id s.ids
  declared_is id = go (ltb id 256) refl
    where
      none : (t : Bool) → has id s.ids ≡ t → ltb id 256 ≡ false → false ≡ t
      none false p q = refl
      none true p q = absurd (true≢false (sym (lt-ltb id 256 (h.id_low id p)) ∙ q))

      go : (t : Bool) → ltb id 256 ≡ t → (t and member_at d.ids 0 id) ≡ has id s.ids
      go true q = pick_yes true _ _ refl ∙ row_has d.ids s.ids id h.id_row (ltb-true id 256 q)
      go false q = pick_no false _ _ refl ∙ none (has id s.ids) refl q

-- A storage that fits has an id that is in the row.
pub id_low_lem : (t : List ℕ) (n : ℕ) (r : Bool) → r ≡ storage_fits one (storage_in t) → r ≡ true → n ≡ u16_at t 1 → n < 256
unfolding storage_fits storage_in
id_low_lem t n r p q e = let l : u16_at t 1 ≤ 255 = leb-true (u16_at t 1) 255 (and_both _ _ (sym p ∙ q)).0 in omega arith
