-- What a step reads and writes, from the rows that the code fills. A call and Return have no fields, so their rows are those of the ABI records; every
-- other step takes no ABI records, so its rows are those of its operands, by the flags of its fields. A callee that is not there fills nothing.
use mathlib.Core.Path.{◌≡◌, refl, sym, ap, ◌∙◌}
use mathlib.Core.Bool.{Bool, true, false, true≢false}
use mathlib.Core.List.{List, [], ◌∷◌, ◌++◌}
use Prim.Native.Nat.{ℕ, zero, suc, ◌+◌, ◌*◌, ◌/◌, ◌%◌, ◌^◌, ◌≤◌, ◌<◌}
use native.Mathlib.Omega.{arith}
use lib.Dec.{ltb, eqb}
use lib.ListN.{length, get_or, drop, replicate, drop_of_length-le}
use borrow.Author.Tests.{eqb-true, eqb-false}
use Rattle.rows.specs.Row.{put}
use Rattle.rows.proofs.Pack.{pack_ext, pack_none}
use Rattle.fields.specs.Pick.{pick, ◌and◌, has}
use Rattle.fields.specs.Edition.{one}
use Rattle.fields.specs.Fields.{Field, no_field, Y, r*, table, branch_fields, fields_of, end_fields_of, field_at}
use Rattle.fields.specs.Table.{byte_of, row_word, entry_of, above}
use Rattle.fields.specs.Record.{Abi, u8_at}
use Rattle.records.specs.Program.{Function, program, row_by, step_of}
use Rattle.fields.proofs.Front.{and_both}
use Rattle.fields.proofs.TableLaws.{row_byte, fields_short, end_fields_short}
use Rattle.records.proofs.Pendings.{row_low}
use Rattle.units.specs.Sets.{select}
use Rattle.units.specs.Uses.{is_result, units_in, units_of, Lookup, lookup, abis_by, abis_of, reads_field, writes_field, reads, writes}
use Rattle.units.specs.Rows.{unit_row}
use Rattle.units.specs.Along.{from, Stands, StandsAt, step_from, IsStep, Ready}
use Rattle.units.specs.Marks.{jotted, marks, roles_in, fields_in, wanted_by, read_in, written_in, callee_in, takes_abis, read_source, read_role, read_abis, written_abis}
use Rattle.units.specs.declared.cursor.Cursor.{Cursor}
use Rattle.units.specs.declared.head.Head.{Head}
use Rattle.units.specs.declared.uses.Roles.TheVariants.{Parameters, Results, Outcomes}
use Rattle.units.proofs.Filling.{roles_far, operands_on, step_on, operand_marks_lem, abi_marks_lem, either_way}

-- The fields of a row ----------------------------------------------------------------------------------------------------------------------------

entry_row : (row : List Field) → length row ≤ 6 → entry_of row % above ≡ row_word row
unfolding entry_of
entry_row row l = let h : row_word row < 281474976710656 = row_low 6 row l in omega arith

-- what the code takes from the table is the row of the step
pub end_row_of : (op sub e : ℕ) → e ≡ entry_of (end_fields_of op sub) → e % above ≡ row_word (row_by true op sub)
end_row_of op sub e h = ap (λ (n : ℕ). n % above) h ∙ entry_row (end_fields_of op sub) (end_fields_short op sub)

pub row_of_lem : (op sub e : ℕ) → e ≡ entry_of (fields_of op) → e % above ≡ row_word (row_by false op sub)
row_of_lem op sub e h = ap (λ (n : ℕ). n % above) h ∙ entry_row (fields_of op) (fields_short op)

-- the flags of a byte are those of its field: for every field of the table
abbrev same : Bool → Bool → Bool
same a b = pick a b (pick b false true)

same_is : (a b : Bool) → same a b ≡ true → a ≡ b
unfolding pick
same_is true b e = sym e
same_is false true e = absurd (true≢false (sym e))
same_is false false e = refl

abbrev flagged : Field → Bool
flagged x = same (eqb (byte_of x / 64 % 2) 1) x.read and same (eqb (byte_of x / 32 % 2) 1) x.written

abbrev all_flagged : List Field → Bool
all_flagged [] = true
all_flagged (x ∷ xs) = flagged x and all_flagged xs

abbrev rows_flagged : List (List Field) → Bool
rows_flagged [] = true
rows_flagged (x ∷ xs) = all_flagged x and rows_flagged xs

none_flagged : flagged no_field ≡ true
unfolding byte_of pick
none_flagged = refl

flagged_at : (row : List Field) → all_flagged row ≡ true → (i : ℕ) → flagged (get_or row i no_field) ≡ true
flagged_at [] e i = none_flagged
flagged_at (x ∷ xs) e zero = (and_both _ _ e).0
flagged_at (x ∷ xs) e (suc i) = flagged_at xs (and_both _ _ e).1 i

row_flagged : (rows : List (List Field)) → rows_flagged rows ≡ true → (i : ℕ) → all_flagged (get_or rows i []) ≡ true
row_flagged [] e i = refl
row_flagged (x ∷ xs) e zero = (and_both _ _ e).0
row_flagged (x ∷ xs) e (suc i) = row_flagged xs (and_both _ _ e).1 i

table_flagged : rows_flagged table ≡ true
unfolding table byte_of pick
table_flagged = refl

branches_flagged : rows_flagged branch_fields ≡ true
unfolding branch_fields byte_of pick
branches_flagged = refl

step_flagged : (ends : Bool) (op sub : ℕ) → all_flagged (row_by ends op sub) ≡ true
unfolding fields_of end_fields_of byte_of pick
step_flagged true op sub = go (eqb op 1) (eqb op 2) (eqb op 4)
  where
    go : (a b c : Bool) → all_flagged (pick a (get_or branch_fields sub []) (pick b (r* Y ∷ []) (pick c (fields_of 28) []))) ≡ true
    go true b c = row_flagged branch_fields branches_flagged sub
    go false true c = refl
    go false false true = row_flagged table table_flagged 28
    go false false false = refl
step_flagged false op sub = row_flagged table table_flagged op

module _ (ends : Bool) (op sub i : ℕ) where
  byte_here : row_word (row_by ends op sub) / 256 ^ i % 256 ≡ byte_of (field_at (row_by ends op sub) i)
  byte_here = row_byte (row_by ends op sub) i

  both_flags : flagged (field_at (row_by ends op sub) i) ≡ true
  both_flags = flagged_at (row_by ends op sub) (step_flagged ends op sub) i

  read_flag : read_in (row_word (row_by ends op sub)) i ≡ (field_at (row_by ends op sub) i).read
  unfolding read_in
  read_flag = ap (λ (b : ℕ). eqb (b / 64 % 2) 1) byte_here ∙ same_is _ _ (and_both _ _ both_flags).0

  written_flag : written_in (row_word (row_by ends op sub)) ends i ≡ pick ends false (field_at (row_by ends op sub) i).written
  unfolding written_in
  written_flag = ap (λ (b : ℕ). pick ends false (eqb (b / 32 % 2) 1)) byte_here ∙ ap (pick ends false) (same_is _ _ (and_both _ _ both_flags).1)

-- Marks -----------------------------------------------------------------------------------------------------------------------------------------

module _ (ns : List ℕ) where
  marks_same : (t u : ℕ → Bool) → ((x : ℕ) → t x ≡ u x) → (xs : List ℕ) (k : ℕ) (row : List ℕ) → marks t ns k xs row ≡ marks u ns k xs row
  unfolding marks
  marks_same t u h [] k row = refl
  marks_same t u h (x ∷ xs) k row = ap (λ (b : Bool). marks t ns (k + 1) xs (jotted b (get_or ns k 0) row)) (h x) ∙ marks_same t u h xs (k + 1) (jotted (u x) (get_or ns k 0) row)

  marks_none : (t : ℕ → Bool) → ((x : ℕ) → t x ≡ false) → (xs : List ℕ) (k : ℕ) (row : List ℕ) → marks t ns k xs row ≡ row
  unfolding marks jotted pick
  marks_none t h [] k row = refl
  marks_none t h (x ∷ xs) k row = rw (h x) (marks_none t h xs (k + 1) row)

  marks_far : (t : ℕ → Bool) (f row : List ℕ) (k : ℕ) → length f ≤ 65535 → marks t ns k (roles_in (drop 65535 f)) row ≡ row
  unfolding marks
  marks_far t f row k l = rw (roles_far f 65535 l)

pub no_units : (us : List ℕ) → replicate 8 0 ≡ unit_row one us []
unfolding unit_row has pick
no_units us = sym (pack_none 8) ∙ pack_ext 8 _ _ (λ n l. go (ltb n (length us)))
  where
    go : (t : Bool) → false ≡ (t and false)
    go true = refl
    go false = refl

-- A step ------------------------------------------------------------------------------------------------------------------------------------------

module _ (f us found tb : List ℕ) (ready : Ready f us found tb) (short : length f ≤ 16384) where
  callee_marks : (t : ℕ → Bool) (n : ℕ) → n < 256
      → marks t found (get_or tb (256 + n) 0) (roles_in (drop (get_or tb n 0) f)) (replicate 8 0) ≡ unit_row one us (units_of one t (abis_of (program one f).functions n))
  unfolding abis_of units_of select
  callee_marks t n low = go (eqb (get_or tb n 0) 65535) refl
    where
      go : (x : Bool) → eqb (get_or tb n 0) 65535 ≡ x
          → marks t found (get_or tb (256 + n) 0) (roles_in (drop (get_or tb n 0) f)) (replicate 8 0) ≡ unit_row one us (units_of one t (abis_by (lookup (program one f).functions n)))
      go true e =
          let far : get_or tb n 0 ≡ 65535 = eqb-true (get_or tb n 0) 65535 e in
          ap (λ (i : ℕ). marks t found (get_or tb (256 + n) 0) (roles_in (drop i f)) (replicate 8 0)) far
          ∙ marks_far found t f (replicate 8 0) (get_or tb (256 + n) 0) (omega arith) ∙ no_units us
          ∙ ap (λ (x : Lookup). unit_row one us (units_of one t (abis_by x))) (sym (ready.index.absent n low far))
      go false e =
          let p = ready.index.present n low (eqb-false (get_or tb n 0) 65535 e) in
          abi_marks_lem f us found ready.accepted ready.found_are (get_or tb n 0) (get_or tb (256 + n) 0) p.1 t
          ∙ ap (λ (x : Lookup). unit_row one us (units_of one t (abis_by x))) (sym p.0)

  fieldless : (ends : Bool) (op sub : ℕ) → row_by ends op sub ≡ [] → (xs : List ℕ) (k : ℕ) (row : List ℕ) → marks (read_in (row_word (row_by ends op sub))) found k xs row ≡ row
  fieldless ends op sub e xs k row = marks_none found _ (λ x. read_flag ends op sub x ∙ ap (λ (r : List Field). (field_at r x).read) e) xs k row

  unwritten : (ends : Bool) (op sub : ℕ) → row_by ends op sub ≡ [] → (xs : List ℕ) (k : ℕ) (row : List ℕ) → marks (written_in (row_word (row_by ends op sub)) ends) found k xs row ≡ row
  unwritten ends op sub e xs k row = marks_none found _ (λ x. written_flag ends op sub x ∙ ap (λ (r : List Field). pick ends false (field_at r x).written) e ∙ either_way ends false) xs k row

  module _ (fn : Function) (own : Cursor) (sub n at k : ℕ) (low : n < 256)
      (stands_own : StandsAt f own) (owns : fn.abis ≡ (from f own.at).abis) (stands : Stands f at k) where
    abbrev Reads : Bool → ℕ → Type 0
    Reads ends op =
        marks (read_in (row_word (row_by ends op sub))) found k (fields_in (drop at f)) (read_abis ends op f found (callee_in tb n) own (replicate 8 0))
        ≡ unit_row one us (reads one (program one f) fn (step_of ends op sub n (from f at)))

    reads_tail_call : Reads true 3
    unfolding reads read_abis takes_abis read_role read_source wanted_by pick end_fields_of
    reads_tail_call = fieldless true 3 sub refl (fields_in (drop at f)) k _ ∙ callee_marks (wanted_by Parameters) n low

    reads_return : Reads true 5
    unfolding reads read_abis takes_abis read_role read_source wanted_by pick end_fields_of
    reads_return =
        fieldless true 5 sub refl (fields_in (drop at f)) k _ ∙ abi_marks_lem f us found ready.accepted ready.found_are own.at own.k stands_own (wanted_by Results)
        ∙ ap (λ (l : List Abi). unit_row one us (units_of one is_result l)) (sym owns)

    reads_call : Reads false 27
    unfolding reads read_abis takes_abis read_role read_source wanted_by pick fields_of table
    reads_call = fieldless false 27 sub refl (fields_in (drop at f)) k _ ∙ callee_marks (wanted_by Parameters) n low

    -- neither a call nor Return
    reads_fields : (ends : Bool) (op : ℕ)
        → marks (read_in (row_word (row_by ends op sub))) found k (fields_in (drop at f)) (replicate 8 0)
        ≡ unit_row one us (units_in one (reads_field (step_of ends op sub n (from f at))) (from f at).operands)
    reads_fields ends op =
        marks_same found _ _ (read_flag ends op sub) (fields_in (drop at f)) k (replicate 8 0)
        ∙ operand_marks_lem f us found ready.accepted ready.found_are at k stands (reads_field (step_of ends op sub n (from f at)))

    reads_other_end : (op : ℕ) → eqb op 3 ≡ false → eqb op 5 ≡ false → Reads true op
    unfolding reads read_abis takes_abis pick
    reads_other_end op p q = rw (p, q) (reads_fields true op)

    reads_other : (op : ℕ) → eqb op 27 ≡ false → Reads false op
    unfolding reads read_abis takes_abis pick
    reads_other op p = rw p (reads_fields false op)

    pub reads_are : (ends : Bool) (op : ℕ) → Reads ends op
    reads_are true op = go (eqb op 3) refl (eqb op 5) refl
      where
        go : (a : Bool) → eqb op 3 ≡ a → (b : Bool) → eqb op 5 ≡ b → Reads true op
        go true p b q = rw (eqb-true op 3 p) reads_tail_call
        go false p true q = rw (eqb-true op 5 q) reads_return
        go false p false q = reads_other_end op p q
    reads_are false op = go (eqb op 27) refl
      where
        go : (a : Bool) → eqb op 27 ≡ a → Reads false op
        go true p = rw (eqb-true op 27 p) reads_call
        go false p = reads_other op p

    abbrev Writes : Bool → ℕ → Type 0
    Writes ends op =
        marks (written_in (row_word (row_by ends op sub)) ends) found k (fields_in (drop at f)) (written_abis ends op f found (callee_in tb n) (replicate 8 0))
        ≡ unit_row one us (writes one (program one f) (step_of ends op sub n (from f at)))

    writes_call : Writes false 27
    unfolding writes written_abis takes_abis wanted_by pick fields_of table
    writes_call = unwritten false 27 sub refl (fields_in (drop at f)) k _ ∙ callee_marks (wanted_by Outcomes) n low

    writes_fields : (ends : Bool) (op : ℕ)
        → marks (written_in (row_word (row_by ends op sub)) ends) found k (fields_in (drop at f)) (replicate 8 0)
        ≡ unit_row one us (units_in one (writes_field (step_of ends op sub n (from f at))) (from f at).operands)
    writes_fields ends op =
        marks_same found _ _ (written_flag ends op sub) (fields_in (drop at f)) k (replicate 8 0)
        ∙ operand_marks_lem f us found ready.accepted ready.found_are at k stands (writes_field (step_of ends op sub n (from f at)))

    writes_end : (op : ℕ) → Writes true op
    unfolding writes written_abis pick
    writes_end op = rw (either_way (takes_abis true op) (replicate {A = ℕ} 8 0)) (writes_fields true op)

    writes_other : (op : ℕ) → eqb op 27 ≡ false → Writes false op
    unfolding writes written_abis takes_abis pick
    writes_other op p = rw p (writes_fields false op)

    pub writes_are : (ends : Bool) (op : ℕ) → Writes ends op
    writes_are true op = writes_end op
    writes_are false op = go (eqb op 27) refl
      where
        go : (a : Bool) → eqb op 27 ≡ a → Writes false op
        go true p = rw (eqb-true op 27 p) writes_call
        go false p = writes_other op p

-- The code ----------------------------------------------------------------------------------------------------------------------------------------

-- a row that was cleared
pub cleared : (row : List ℕ) → length row ≡ 8 → put row 0 (replicate 8 0) ≡ replicate 8 0
unfolding put
cleared row e = ap (λ (l : List ℕ). replicate 8 0 ++ l) (drop_of_length-le row {i = 8} (omega arith))

-- LAW. The rows of an accepted file's step, from what each call of the code answers. The tail t begins with the step's record, whose head was read.
module _ (f t : List ℕ) (at : ℕ) (tail : t ≡ drop at f) (head : Head)
    (ends : head.ends ≡ eqb (u8_at t 0) 7) (op : head.op ≡ u8_at t 1) (sub : head.sub ≡ u8_at t 2) (callee : head.callee ≡ u8_at t 3) where
  step_is : step_from f at ≡ step_of head.ends head.op head.sub head.callee (from f (at + 4))
  step_is = rw (ends, op, sub, callee, tail)

  module _ (found tb : List ℕ) (k : ℕ) (own : Cursor) (short : length f ≤ 16384) (fits : at + 4 ≤ length f) (low : head.callee < 256)
      (us : List ℕ) (fn : Function) (ready : Ready f us found tb) (stands_own : StandsAt f own) (owns : fn.abis ≡ (from f own.at).abis) (here : Stands f at k) (is : IsStep f at) where
    behind_step : Stands f (at + 4) k
    behind_step = step_on f us ready.accepted at k is fits here

    pub behind_operands : (n : ℕ) → n ≡ length (fields_in (drop (at + 4) f)) → Stands f (at + 4 + 7 * n) (k + n)
    behind_operands n e = operands_on f us ready.accepted n (at + 4) k e behind_step

    pub reads_law : (r₀ r₁ r₂ r₃ : List ℕ) → length r₀ ≡ 8 → r₁ ≡ put r₀ 0 (replicate 8 0)
        → r₂ ≡ read_abis head.ends head.op f found (callee_in tb head.callee) own r₁
        → r₃ ≡ marks (read_in (row_word (row_by head.ends head.op head.sub))) found k (fields_in (drop (at + 4) f)) r₂
        → r₃ ≡ unit_row one us (reads one (program one f) fn (step_from f at))
    reads_law r₀ r₁ r₂ r₃ l a d e =
        rw (e, d, a, cleared r₀ l, step_is)
        (reads_are f us found tb ready short fn own head.sub head.callee (at + 4) k low stands_own owns behind_step head.ends head.op)

    pub writes_law : (w₀ w₁ w₂ w₃ : List ℕ) → length w₀ ≡ 8 → w₁ ≡ put w₀ 0 (replicate 8 0)
        → w₂ ≡ written_abis head.ends head.op f found (callee_in tb head.callee) w₁
        → w₃ ≡ marks (written_in (row_word (row_by head.ends head.op head.sub)) head.ends) found k (fields_in (drop (at + 4) f)) w₂
        → w₃ ≡ unit_row one us (writes one (program one f) (step_from f at))
    writes_law w₀ w₁ w₂ w₃ l a d e =
        rw (e, d, a, cleared w₀ l, step_is)
        (writes_are f us found tb ready short fn own head.sub head.callee (at + 4) k low stands_own owns behind_step head.ends head.op)
