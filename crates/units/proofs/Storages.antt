-- The storages of a row of units. Every word of a set that the program names has a number, and the row has that number's bit, so that the storages of
-- the numbers in the row are those of the words in the set.
use mathlib.Core.Path.{◌≡◌, refl, sym, ap, ◌∙◌}
use mathlib.Core.Logic.{◌⊎◌, inl, inr, ⊎_elim}
use mathlib.Core.Bool.{Bool, true, false, true≢false}
use mathlib.Core.List.{List, [], ◌∷◌, map}
use Prim.Native.Nat.{ℕ, zero, suc, ◌+◌, ◌≤◌, ◌<◌}
use native.Mathlib.Numerals.{add-one}
use native.Mathlib.Omega.{arith}
use lib.Dec.{eqb}
use lib.ListN.{length, get_or, replicate}
use borrow.Author.Tests.{eqb-true, eqb-false, eq-eqb, ltb-true, lt-ltb}
use Rattle.rows.specs.Row.{member, member_at, with_at, put, pack}
use Rattle.rows.proofs.Tests.{same_test}
use Rattle.rows.proofs.Rows.{put_whole}
use Rattle.rows.proofs.Members.{member_at_zero}
use Rattle.rows.proofs.Pack.{length_pack, member_pack, pack_ext, pack_none, pack_with_at}
use Rattle.fields.specs.Pick.{pick, ◌and◌, ◌or◌, has, All}
use Rattle.fields.specs.Edition.{one}
use Rattle.fields.specs.Record.{Abi, Operand, word_of}
use Rattle.records.specs.Units.{number_in}
use Rattle.records.specs.Check.{units, check}
use Rattle.records.specs.Outcome.{laid}
use Rattle.records.specs.Program.{Step, Block, Function, program}
use Rattle.records.specs.Place.{step, step_at}
use Rattle.fields.proofs.Front.{and_both, and_make, or_cases, or_is}
use Rattle.records.proofs.Chains.{laid_at_lem}
use Rattle.records.proofs.Numbers.{number_low, number_at}
use Rattle.records.proofs.Shape.{ids_of}
use Rattle.records.proofs.Contents.{OperandIn, AbiIn, StepIn, BlockIn, FunctionIn}
use Rattle.records.proofs.Placed.{Every, found_in}
use Rattle.records.proofs.Accepted.{accepted}
use Rattle.units.specs.Sets.{select}
use Rattle.units.specs.Uses.{units_in, units_of, is_parameter, is_result, is_outcome, reads_field, writes_field, defined, lookup, abis_by, abis_of, reads, writes, storage_of, storages_of}
use Rattle.units.specs.Rows.{listed, unit_row, storage_row}
use Rattle.units.specs.Seek.{Within, storages_below}

-- Members of lists ----------------------------------------------------------------------------------------------------------------------------

or_right : (a b : Bool) → b ≡ true → (a or b) ≡ true
unfolding pick
or_right true b e = refl
or_right false b e = e

none_in : (x : ℕ) → has x [] ≡ true → ⊥
unfolding has
none_in x h = true≢false (sym h)

here_in : (x y : ℕ) (l : List ℕ) → x ≡ y → has x (y ∷ l) ≡ true
unfolding has pick
here_in x y l e = rw (eq-eqb x y e)

later_in : (x y : ℕ) (l : List ℕ) → has x l ≡ true → has x (y ∷ l) ≡ true
unfolding has
later_in x y l h = or_right (eqb x y) (has x l) h

one_of : (x y : ℕ) (l : List ℕ) → has x (y ∷ l) ≡ true → (x ≡ y) ⊎ (has x l ≡ true)
unfolding has
one_of x y l h = ⊎_elim (λ e. inl (eqb-true x y e)) (λ e. inr e) (or_cases (eqb x y) (has x l) h)

map_in : (g : ℕ → ℕ) (x : ℕ) (l : List ℕ) → has x l ≡ true → has (g x) (map g l) ≡ true
map_in g x [] h = absurd (none_in x h)
map_in g x (y ∷ l) h = ⊎_elim (λ e. here_in (g x) (g y) (map g l) (ap g e)) (λ e. later_in (g x) (g y) (map g l) (map_in g x l e)) (one_of x y l h)

-- what a member of a mapped list comes from
record From (g : ℕ → ℕ) (i : ℕ) (l : List ℕ) : Type 0 where
  word : ℕ
  is_in : has word l ≡ true
  gives : g word ≡ i

map_from : (g : ℕ → ℕ) (i : ℕ) (l : List ℕ) → has i (map g l) ≡ true → From g i l
map_from g i [] h = absurd (none_in i h)
map_from g i (y ∷ l) h = go (one_of i (g y) (map g l) h) (map_from g i l)
  where
    go : (i ≡ g y) ⊎ (has i (map g l) ≡ true) → (has i (map g l) ≡ true → From g i l) → From g i (y ∷ l)
    go (inl e) ih = record { word = y; is_in = here_in y y l refl; gives = sym e }
    go (inr e) ih = let r = ih e in record { word = r.word; is_in = later_in r.word y l r.is_in; gives = r.gives }

-- The storages of the numbers below one -----------------------------------------------------------------------------------------------------

module _ (words row : List ℕ) where
  pub below_yes : (n : ℕ) → member row n ≡ true → storages_below words row (suc n) ≡ storage_of one (get_or words n 0) ∷ storages_below words row n
  unfolding storages_below pick
  below_yes n e = rw e

  pub below_no : (n : ℕ) → member row n ≡ false → storages_below words row (suc n) ≡ storages_below words row n
  unfolding storages_below pick
  below_no n e = rw e

  below_in : (ss : List ℕ) (k : ℕ) → ((n : ℕ) → n < k → member row n ≡ true → has (storage_of one (get_or words n 0)) ss ≡ true)
      → (i : ℕ) → has i (storages_below words row k) ≡ true → has i ss ≡ true
  unfolding storages_below pick
  below_in ss zero h i e = absurd (none_in i e)
  below_in ss (suc m) h i e = go (member row m) refl e (below_in ss m (λ n l. h n (omega arith)) i)
    where
      s : ℕ
      s = storage_of one (get_or words m 0)

      go : (t : Bool) → member row m ≡ t → has i (pick t (s ∷ storages_below words row m) (storages_below words row m)) ≡ true
          → (has i (storages_below words row m) ≡ true → has i ss ≡ true) → has i ss ≡ true
      go true p q ih = ⊎_elim (λ d. rw d (h m (omega arith) p)) ih (one_of i s (storages_below words row m) q)
      go false p q ih = ih q

  below_has : (k n : ℕ) → n < k → member row n ≡ true → has (storage_of one (get_or words n 0)) (storages_below words row k) ≡ true
  below_has zero n l e = absurd (omega arith)
  below_has (suc m) n l e = go (eqb n m) refl (below_has m n)
    where
      go : (t : Bool) → eqb n m ≡ t → (n < m → member row n ≡ true → has (storage_of one (get_or words n 0)) (storages_below words row m) ≡ true)
          → has (storage_of one (get_or words n 0)) (storages_below words row (suc m)) ≡ true
      go true p ih =
          let q : n ≡ m = eqb-true n m p in
          rw (← q, below_yes n e) (here_in _ _ _ refl)
      go false p ih = more (member row m) refl (ih (let d = eqb-false n m p in omega (arith, d)) e)
        where
          more : (t : Bool) → member row m ≡ t → has (storage_of one (get_or words n 0)) (storages_below words row m) ≡ true
              → has (storage_of one (get_or words n 0)) (storages_below words row (suc m)) ≡ true
          more true d h = rw (below_yes m d) (later_in _ _ _ h)
          more false d h = rw (below_no m d) h

-- the loop over the numbers: nothing at first, then number by number
pub storages_start : (words row after before : List ℕ) → length before ≡ 4 → after ≡ put before 0 (replicate 4 0) → after ≡ pack 4 (λ i. has i (storages_below words row 0))
unfolding storages_below has
storages_start words row after before l e = e ∙ put_whole before (replicate 4 0) l ∙ sym (pack_none 4)

pub storages_no : (words row after : List ℕ) (n : ℕ) → after ≡ pack 4 (λ i. has i (storages_below words row n)) → member_at row 0 n ≡ false
    → after ≡ pack 4 (λ i. has i (storages_below words row (n + 1)))
storages_no words row after n e h = rw (add-one n, below_no words row n (sym (member_at_zero row n) ∙ h)) e

pub storages_yes : (words row after after' : List ℕ) (n s : ℕ) → after ≡ pack 4 (λ i. has i (storages_below words row n)) → member_at row 0 n ≡ true
    → s ≡ storage_of one (get_or words n 0) → s < 256 → after' ≡ with_at after 0 s → after' ≡ pack 4 (λ i. has i (storages_below words row (n + 1)))
unfolding has pick
storages_yes words row after after' n s e h d l q =
    rw (add-one n, below_yes words row n (sym (member_at_zero row n) ∙ h), ← d)
    (q ∙ ap (λ (v : List ℕ). with_at v 0 s) e ∙ pack_with_at 4 (λ i. has i (storages_below words row n)) s l
    ∙ pack_ext 4 _ _ (λ i _. sym (or_is (eqb i s) (has i (storages_below words row n)))))

pub four : (after : List ℕ) (p : ℕ → Bool) → after ≡ pack 4 p → length after ≡ 4
four after p e = ap length e ∙ length_pack 4 p

-- The storages of a set ---------------------------------------------------------------------------------------------------------------------

module _ (us set before : List ℕ) (few : length us ≤ 512) where
  abbrev words : List ℕ
  words = laid 512 us before

  in_row_lem : (n : ℕ) → n < 512 → member (unit_row one us set) n ≡ listed us set n
  unfolding unit_row
  in_row_lem n h = member_pack 8 (listed us set) n h

  number_in_lem : (n : ℕ) → n < 512 → member (unit_row one us set) n ≡ true → (n < length us) × (has (get_or us n 0) set ≡ true)
  number_in_lem n h e = let k = and_both _ _ (sym (in_row_lem n h) ∙ e) in (ltb-true _ _ k.0, k.1)

  in_number : (word : ℕ) → has word set ≡ true → has word us ≡ true → member (unit_row one us set) (number_in word us) ≡ true
  in_number word h k =
      let l = number_low word us k in
      in_row_lem (number_in word us) (omega (arith, l)) ∙ and_make _ _ (lt-ltb _ _ l) (rw (number_at word us k) h)

  pub storages_are : Within set us → pack 4 (λ i. has i (storages_below words (unit_row one us set) 512)) ≡ storage_row one set
  unfolding storage_row storages_of
  storages_are inside = pack_ext 4 _ _ (λ i _. same_test _ _ (there i) (back i))
    where
      there : (i : ℕ) → has i (storages_below words (unit_row one us set) 512) ≡ true → has i (map (storage_of one) set) ≡ true
      there = below_in words (unit_row one us set) (map (storage_of one) set) 512
          (λ n l e. let k = number_in_lem n l e in rw (laid_at_lem 512 us before n k.0) (map_in (storage_of one) (get_or us n 0) set k.1))

      back : (i : ℕ) → has i (map (storage_of one) set) ≡ true → has i (storages_below words (unit_row one us set) 512) ≡ true
      back i h =
          let r = map_from (storage_of one) i set h in
          let k = inside r.word r.is_in in
          let l = number_low r.word us k in
          let e : storage_of one (get_or words (number_in r.word us) 0) ≡ i = ap (storage_of one) (laid_at_lem 512 us before (number_in r.word us) l ∙ number_at r.word us k) ∙ r.gives in
          rw (← e) (below_has words (unit_row one us set) 512 (number_in r.word us) (omega (arith, l)) (in_number r.word r.is_in k))

-- What a step reads and writes has numbers -----------------------------------------------------------------------------------------------------

module _ (ids us : List ℕ) where
  abis_within : (t : ℕ → Bool) (xs : List Abi) → All (AbiIn one ids us) xs → Within (units_of one t xs) us
  unfolding units_of select pick
  abis_within t [] h word e = absurd (none_in word e)
  abis_within t (x ∷ xs) h word e = go (t x.role) e (abis_within t xs h.1 word)
    where
      name : Abi → ℕ
      name a = word_of one a.shape a.storage a.offset

      go : (b : Bool) → has word (map name (pick b (x ∷ select (λ (a : Abi). t a.role) xs) (select (λ (a : Abi). t a.role) xs))) ≡ true
          → (has word (map name (select (λ (a : Abi). t a.role) xs)) ≡ true → has word us ≡ true) → has word us ≡ true
      go true q ih = ⊎_elim (λ d. rw d h.0.numbered) ih (one_of word _ _ q)
      go false q ih = ih q

  operands_within : (t : ℕ → Bool) (xs : List Operand) → All (OperandIn one ids us) xs → Within (units_in one t xs) us
  unfolding units_in select pick
  operands_within t [] h word e = absurd (none_in word e)
  operands_within t (x ∷ xs) h word e = go (t x.field and pick (eqb x.shape 0) false true) refl e (operands_within t xs h.1 word)
    where
      name : Operand → ℕ
      name o = word_of one o.shape o.storage o.offset

      test : Operand → Bool
      test o = t o.field and pick (eqb o.shape 0) false true

      numbered : (OperandIn one ids us x) → test x ≡ true → has (name x) us ≡ true
      numbered (inl p) q = let k = (and_both (t x.field) (pick (eqb x.shape 0) false true) q).1 in absurd (true≢false (sym k ∙ rw p))
      numbered (inr p) q = p.numbered

      go : (b : Bool) → test x ≡ b → has word (map name (pick b (x ∷ select test xs) (select test xs))) ≡ true
          → (has word (map name (select test xs)) ≡ true → has word us ≡ true) → has word us ≡ true
      go true p q ih = ⊎_elim (λ d. rw d (numbered h.0 p)) ih (one_of word _ _ q)
      go false p q ih = ih q

  callee_in_lem : (fs : List Function) (n : ℕ) → All (FunctionIn one ids us) fs → All (AbiIn one ids us) (abis_of fs n)
  unfolding abis_of lookup pick
  callee_in_lem [] n h = tt
  callee_in_lem (f ∷ fs) n h = go (eqb f.number n) (callee_in_lem fs n h.1)
    where
      go : (b : Bool) → All (AbiIn one ids us) (abis_by (lookup fs n)) → All (AbiIn one ids us) (abis_by (pick b (defined f) (lookup fs n)))
      go true ih = h.0.abis
      go false ih = ih

  -- of a step, with the function that it stands in
  abbrev Used : Function → Step → Type 0
  Used fn st = All (AbiIn one ids us) fn.abis × All (OperandIn one ids us) st.operands

  steps_used : (fn : Function) (xs : List Step) → All (AbiIn one ids us) fn.abis → All (StepIn one ids us) xs → All (Used fn) xs
  steps_used fn [] a h = tt
  steps_used fn (x ∷ xs) a h = ((a, h.0), steps_used fn xs a h.1)

  blocks_used : (fn : Function) (bs : List Block) → All (AbiIn one ids us) fn.abis → All (BlockIn one ids us) bs → All (λ (b : Block). All (Used fn) b.steps) bs
  blocks_used fn [] a h = tt
  blocks_used fn (b ∷ bs) a h = (steps_used fn b.steps a h.0, blocks_used fn bs a h.1)

  functions_used : (fs : List Function) → All (FunctionIn one ids us) fs → All (Every Used) fs
  functions_used [] h = tt
  functions_used (f ∷ fs) h = (blocks_used f f.blocks h.0.abis h.0.blocks, functions_used fs h.1)

pick_within : (b : Bool) (l m us : List ℕ) → Within l us → Within m us → Within (pick b l m) us
unfolding pick
pick_within true l m us p q = p
pick_within false l m us p q = q

-- An accepted file's step reads and writes units that have numbers.
module _ (f us : List ℕ) (place : ℕ) (fn : Function) (st : Step) (ok : check one f ≡ units us) (there : step_at one f place ≡ step fn st) where
  contents : All (FunctionIn one (ids_of (program one f).storages) us) (program one f).functions
  contents = (accepted one f us ok).0.contents

  used : Used (ids_of (program one f).storages) us fn st
  used = found_in (Used (ids_of (program one f).storages) us) one f us place fn st ok (functions_used (ids_of (program one f).storages) us (program one f).functions contents) there

  pub reads_within : Within (reads one (program one f) fn st) us
  unfolding reads
  reads_within =
      let ids = ids_of (program one f).storages in
      pick_within _ _ _ us (abis_within ids us is_parameter _ (callee_in_lem ids us (program one f).functions st.callee contents))
      (pick_within _ _ _ us (abis_within ids us is_result fn.abis used.0) (operands_within ids us (reads_field st) st.operands used.1))

  pub writes_within : Within (writes one (program one f) st) us
  unfolding writes
  writes_within =
      let ids = ids_of (program one f).storages in
      pick_within _ _ _ us (abis_within ids us is_outcome _ (callee_in_lem ids us (program one f).functions st.callee contents))
      (operands_within ids us (writes_field st) st.operands used.1)
