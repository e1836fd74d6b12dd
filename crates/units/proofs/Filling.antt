-- A walk over records fills a row. The records that it meets are those gathered from its place: a record of another kind, or none, ends both. In an
-- accepted file the number beside each record is its unit's, and each unit has one number, so the row filled is that of the set of units.
use mathlib.Core.Path.{◌≡◌, refl, sym, ap, ◌∙◌}
use mathlib.Core.Logic.{inl, inr}
use mathlib.Core.Bool.{Bool, true, false, true≢false, ◌||◌}
use mathlib.Core.List.{List, [], ◌∷◌, map}
use Prim.Native.Nat.{ℕ, zero, suc, ◌+◌, ◌*◌, ◌≤◌, ◌<◌}
use native.Mathlib.Omega.{arith}
use lib.Dec.{ltb, leb, eqb}
use lib.ListN.{length, get_or, take, drop, replicate, length-drop, length-map}
use lib.Seq.{drop-drop, get_or-drop}
use borrow.Author.Tests.{ltb-true, ltb-false, leb-true, eqb-true, eqb-false, eq-eqb, ne_eqb, le-ltb, lt-ltb, le-leb, lt-leb}
use Rattle.rows.specs.Row.{with_at, pack}
use Rattle.rows.proofs.Pack.{pack_ext, pack_none, pack_with_at}
use Rattle.rows.proofs.Members.{length_with_at}
use Rattle.fields.specs.Pick.{pick, pick_yes, pick_no, ◌and◌, ◌or◌, has, All}
use Rattle.fields.specs.Edition.{one}
use Rattle.fields.specs.Record.{Abi, Operand, Rec, header, storage, function, abi, block, instruction, operand, terminator, target, end, Read, whole, fault, read, record_at, u8_at, length_of, word_of, header_at, abi_in, operand_in, instruction_at, terminator_at}
use Rattle.records.specs.Units.{number_in, no_unit}
use Rattle.records.specs.Check.{units, check, by_piece, pieces_by, pieces, records_in, records, numbers}
use Rattle.records.specs.Program.{Rest, empty, put_step, put, gather}
use Rattle.fields.proofs.Front.{read_whole, whole_read, and_both}
use Rattle.fields.proofs.ByKind.{length_one, length_none, kind_header, kind_storage, kind_function, kind_abi, kind_block, kind_instruction, kind_operand, kind_terminator, kind_target, kind_end}
use Rattle.records.proofs.Scan.{tail_some}
use Rattle.records.proofs.Contents.{OperandIn, AbiIn, rest, rest_whole}
use Rattle.records.proofs.Numbers.{number_low, number_at}
use Rattle.records.proofs.Lists.{number_of_lem}
use Rattle.records.proofs.Range.{Distinct}
use Rattle.units.specs.Sets.{select}
use Rattle.units.specs.Uses.{units_in, units_of}
use Rattle.units.specs.Rows.{listed, unit_row}
use Rattle.records.specs.Index.{brought}
use Rattle.units.specs.Along.{from, numbers_in, Stands, IsStep}
use Rattle.units.specs.Marks.{jotted, marks, roles_in, fields_in, opens_seven}
use Rattle.units.proofs.Standing.{aligned, stands_inside, units_once_lem, units_most_lem, stands_on}

-- The record at a place, by its kind ---------------------------------------------------------------------------------------------------------

abbrev pub kind_of : Rec → ℕ
kind_of (header a f w) = 0
kind_of (storage x) = 1
kind_of (function n) = 2
kind_of (abi x) = 3
kind_of (block id) = 4
kind_of (instruction op sub fn) = 5
kind_of (operand x) = 6
kind_of (terminator op sub fn) = 7
kind_of (target id) = 8
kind_of end = 9

pub kind_of_lem : (t : List ℕ) → 0 < length_of one (u8_at t 0) → kind_of (record_at one t) ≡ u8_at t 0
unfolding header_at instruction_at terminator_at
kind_of_lem t l = go (u8_at t 0) refl l
  where
    go : (k : ℕ) → u8_at t 0 ≡ k → 0 < length_of one k → kind_of (record_at one t) ≡ k
    go zero e l = ap kind_of (kind_header t e)
    go (suc zero) e l = ap kind_of (kind_storage t e)
    go (suc (suc zero)) e l = ap kind_of (kind_function t e)
    go (suc (suc (suc zero))) e l = ap kind_of (kind_abi t e)
    go (suc (suc (suc (suc zero)))) e l = ap kind_of (kind_block t e)
    go (suc (suc (suc (suc (suc zero))))) e l = ap kind_of (kind_instruction t e)
    go (suc (suc (suc (suc (suc (suc zero)))))) e l = ap kind_of (kind_operand t e)
    go (suc (suc (suc (suc (suc (suc (suc zero))))))) e l = ap kind_of (kind_terminator t e)
    go (suc (suc (suc (suc (suc (suc (suc (suc zero)))))))) e l = ap kind_of (kind_target t e)
    go (suc (suc (suc (suc (suc (suc (suc (suc (suc zero))))))))) e l = ap kind_of (kind_end t e)
    go (suc (suc (suc (suc (suc (suc (suc (suc (suc (suc k)))))))))) e l = absurd (omega (arith, length_none (suc (suc (suc (suc (suc (suc (suc (suc (suc (suc k)))))))))) (omega arith)))

-- a record of another kind has no operands, and no ABI records
module _ (r : Rest) where
  no_operands : (x : Rec) → (kind_of x ≡ 6 → ⊥) → (put x r).operands ≡ []
  unfolding put put_step
  no_operands (header a f w) n = refl
  no_operands (storage x) n = refl
  no_operands (function m) n = refl
  no_operands (abi x) n = refl
  no_operands (block id) n = refl
  no_operands (instruction op sub fn) n = refl
  no_operands (operand x) n = absurd (n refl)
  no_operands (terminator op sub fn) n = refl
  no_operands (target id) n = refl
  no_operands end n = refl

  no_abis : (x : Rec) → (kind_of x ≡ 3 → ⊥) → (put x r).abis ≡ []
  unfolding put put_step
  no_abis (header a f w) n = refl
  no_abis (storage x) n = refl
  no_abis (function m) n = refl
  no_abis (abi x) n = absurd (n refl)
  no_abis (block id) n = refl
  no_abis (instruction op sub fn) n = refl
  no_abis (operand x) n = refl
  no_abis (terminator op sub fn) n = refl
  no_abis (target id) n = refl
  no_abis end n = refl

-- where no record is whole, nothing is gathered
pub records_fault : (t : List ℕ) → read one t ≡ fault → records one t ≡ []
unfolding records records_in pieces pieces_by
records_fault t e = ap (records_in one) (go (length t) refl)
  where
    go : (n : ℕ) → length t ≡ n → pieces_by n one t ≡ []
    go zero h = refl
    go (suc n) h = tail_some t [] _ (omega arith) ∙ ap (by_piece (pieces_by n one) t) e

pub rest_fault : (t : List ℕ) → read one t ≡ fault → rest one t ≡ empty
unfolding gather
rest_fault t e = ap gather (records_fault t e)

-- The records of seven bytes -------------------------------------------------------------------------------------------------------------------

module _ (t : List ℕ) where
  module _ (kind : ℕ) (seven : length_of one kind ≡ 7) where
    seven_whole : opens_seven t kind ≡ true → (u8_at t 0 ≡ kind) × (read one t ≡ whole 7 (record_at one t))
    unfolding opens_seven
    seven_whole e =
        let h = and_both _ _ e in
        let k : u8_at t 0 ≡ kind = eqb-true _ _ h.1 in
        let l : length_of one (u8_at t 0) ≡ 7 = ap (length_of one) k ∙ seven in
        let m : 7 ≤ length t = leb-true _ _ h.0 in
        (k, whole_read one t (omega arith) (omega arith) ∙ ap (λ (n : ℕ). whole n (record_at one t)) l)

    seven_not : opens_seven t kind ≡ false → (len : ℕ) (x : Rec) → read one t ≡ whole len x → kind_of x ≡ kind → ⊥
    unfolding opens_seven pick
    seven_not e len x r q =
        let w = read_whole one t len x r in
        let k : u8_at t 0 ≡ kind = sym (kind_of_lem t (omega (arith, w.some, w.long))) ∙ ap kind_of (sym w.is) ∙ q in
        let l : len ≡ 7 = w.long ∙ ap (length_of one) k ∙ seven in
        let a : leb 7 (length t) ≡ true = le-leb 7 (length t) (omega (arith, w.fits)) in
        let b : eqb (u8_at t 0) kind ≡ true = eq-eqb _ _ k in
        true≢false (sym (rw (a, b) refl) ∙ e)

  operand_here : opens_seven t 6 ≡ true → read one t ≡ whole 7 (operand (operand_in t))
  operand_here e = let h = seven_whole 6 (length_one 6) e in h.1 ∙ ap (whole 7) (kind_operand t h.0)

  abi_here : opens_seven t 3 ≡ true → read one t ≡ whole 7 (abi (abi_in t))
  abi_here e = let h = seven_whole 3 (length_one 3) e in h.1 ∙ ap (whole 7) (kind_abi t h.0)

  fields_some : opens_seven t 6 ≡ true → fields_in t ≡ u8_at t 1 ∷ fields_in (drop 7 t)
  unfolding fields_in put operand_in
  fields_some e = rw (rest_whole one t 7 (operand (operand_in t)) (operand_here e))

  roles_some : opens_seven t 3 ≡ true → roles_in t ≡ u8_at t 1 ∷ roles_in (drop 7 t)
  unfolding roles_in put abi_in
  roles_some e = rw (rest_whole one t 7 (abi (abi_in t)) (abi_here e))

  pub fields_none : opens_seven t 6 ≡ false → fields_in t ≡ []
  unfolding fields_in
  fields_none e = go (read one t) refl
    where
      go : (rd : Read) → read one t ≡ rd → map (λ (o : Operand). o.field) (rest one t).operands ≡ []
      go fault r = ap (λ (y : Rest). map (λ (o : Operand). o.field) y.operands) (rest_fault t r)
      go (whole len x) r =
          ap (λ (y : Rest). map (λ (o : Operand). o.field) y.operands) (rest_whole one t len x r)
          ∙ ap (map (λ (o : Operand). o.field)) (no_operands (rest one (drop len t)) x (seven_not 6 (length_one 6) e len x r))

  pub roles_none : opens_seven t 3 ≡ false → roles_in t ≡ []
  unfolding roles_in
  roles_none e = go (read one t) refl
    where
      go : (rd : Read) → read one t ≡ rd → map (λ (a : Abi). a.role) (rest one t).abis ≡ []
      go fault r = ap (λ (y : Rest). map (λ (a : Abi). a.role) y.abis) (rest_fault t r)
      go (whole len x) r =
          ap (λ (y : Rest). map (λ (a : Abi). a.role) y.abis) (rest_whole one t len x r)
          ∙ ap (map (λ (a : Abi). a.role)) (no_abis (rest one (drop len t)) x (seven_not 3 (length_one 3) e len x r))

  pub fields_count : length (fields_in t) ≡ length (rest one t).operands
  unfolding fields_in
  fields_count = length-map (rest one t).operands (λ (o : Operand). o.field)

pub roles_far : (f : List ℕ) (at : ℕ) → length f ≤ at → roles_in (drop at f) ≡ []
unfolding opens_seven
roles_far f at l = roles_none (drop at f) (pick_no _ _ _ (lt-leb 7 (length (drop at f)) (simp length-drop (omega arith))))

-- A walk meets one record more, or its last is behind it.
opens_yes : (t : List ℕ) (kind : ℕ) → 7 ≤ length t → get_or t 0 0 ≡ kind → opens_seven t kind ≡ true
unfolding opens_seven u8_at
opens_yes t kind l e = pick_yes _ _ _ (le-leb 7 (length t) l) ∙ eq-eqb _ _ e

opens_no : (t : List ℕ) (kind : ℕ) → (get_or t 0 0 ≡ kind → ⊥) → opens_seven t kind ≡ false
unfolding opens_seven u8_at pick
opens_no t kind d = rw (ne_eqb _ _ d) (go (leb 7 (length t)))
  where
    go : (a : Bool) → (a and false) ≡ false
    go true = refl
    go false = refl

module _ (t : List ℕ) where
  pub roles_more : 7 ≤ length t → get_or t 0 0 ≡ 3 → roles_in t ≡ get_or t 1 0 ∷ roles_in (drop 7 t)
  unfolding u8_at
  roles_more l e = roles_some t (opens_yes t 3 l e)

  pub roles_short : length t < 7 → roles_in t ≡ []
  unfolding opens_seven
  roles_short l = roles_none t (pick_no _ _ _ (lt-leb 7 (length t) l))

  pub roles_other : (get_or t 0 0 ≡ 3 → ⊥) → roles_in t ≡ []
  roles_other d = roles_none t (opens_no t 3 d)

  pub fields_more : 7 ≤ length t → get_or t 0 0 ≡ 6 → fields_in t ≡ get_or t 1 0 ∷ fields_in (drop 7 t)
  unfolding u8_at
  fields_more l e = fields_some t (opens_yes t 6 l e)

  pub fields_short : length t < 7 → fields_in t ≡ []
  unfolding opens_seven
  fields_short l = fields_none t (pick_no _ _ _ (lt-leb 7 (length t) l))

  pub fields_other : (get_or t 0 0 ≡ 6 → ⊥) → fields_in t ≡ []
  fields_other d = fields_none t (opens_no t 6 d)

-- A place in a list of bytes -------------------------------------------------------------------------------------------------------------------

module _ (f : List ℕ) (at : ℕ) where
  pub byte_at : (i : ℕ) → u8_at (drop at f) i ≡ get_or f (at + i) 0
  unfolding u8_at
  byte_at i = get_or-drop at f i 0

  -- one record more at a place, and those behind it
  pub fields_on : opens_seven (drop at f) 6 ≡ true → fields_in (drop at f) ≡ get_or f (at + 1) 0 ∷ fields_in (drop (at + 7) f)
  fields_on e = rw (fields_some (drop at f) e, byte_at 1, drop-drop 7 at f)

-- a cursor goes on over the operands
pub operands_on : (f us : List ℕ) → check one f ≡ units us → (n at k : ℕ) → n ≡ length (fields_in (drop at f)) → Stands f at k → Stands f (at + 7 * n) (k + n)
operands_on f us ok zero at k e s = let a : at + 0 ≡ at = omega arith in let b : k + 0 ≡ k = omega arith in rw (a, b) s
operands_on f us ok (suc n) at k e s = go (opens_seven (drop at f) 6) refl (operands_on f us ok n (at + 7) (k + 1))
  where
    go : (t : Bool) → opens_seven (drop at f) 6 ≡ t → (n ≡ length (fields_in (drop (at + 7) f)) → Stands f (at + 7) (k + 1) → Stands f (at + 7 + 7 * n) (k + 1 + n))
        → Stands f (at + 7 * suc n) (k + suc n)
    go false h on = absurd (omega (arith, ap length (fields_none (drop at f) h)))
    go true h on =
        let a : at + 7 * suc n ≡ at + 7 + 7 * n = omega arith in
        let b : k + suc n ≡ k + 1 + n = omega arith in
        rw (a, b) (on (omega (arith, ap length (fields_on f at h))) (stands_on f us ok at k s 7 (operand (operand_in (drop at f))) (operand_here (drop at f) h)))

-- a cursor goes on over a step's own record
pub step_on : (f us : List ℕ) → check one f ≡ units us → (at k : ℕ) → IsStep f at → at + 4 ≤ length f → Stands f at k → Stands f (at + 4) k
unfolding instruction_at terminator_at
step_on f us ok at k i l s = go i
  where
    z : k + 0 ≡ k
    z = omega arith

    over : (kind : ℕ) → u8_at (drop at f) 0 ≡ kind → length_of one kind ≡ 4 → read one (drop at f) ≡ whole 4 (record_at one (drop at f))
    over kind e n =
        let m : length_of one (u8_at (drop at f) 0) ≡ 4 = ap (length_of one) e ∙ n in
        whole_read one (drop at f) (omega arith) (omega (arith, length-drop at f)) ∙ ap (λ (j : ℕ). whole j (record_at one (drop at f))) m

    go : IsStep f at → Stands f (at + 4) k
    go (inl e) = rw (ap brought (kind_instruction (drop at f) e), z) at (stands_on f us ok at k s 4 (record_at one (drop at f)) (over 5 e (length_one 5)))
    go (inr e) = rw (ap brought (kind_terminator (drop at f) e), z) at (stands_on f us ok at k s 4 (record_at one (drop at f)) (over 7 e (length_one 7)))

-- What the loops hold ----------------------------------------------------------------------------------------------------------------------------

pub either_way : {A : Type 0} (b : Bool) (x : A) → pick b x x ≡ x
unfolding pick
either_way true x = refl
either_way false x = refl

pub length_jotted : (wanted : Bool) (n : ℕ) (row : List ℕ) → length (jotted wanted n row) ≡ length row
unfolding jotted pick
length_jotted false n row = refl
length_jotted true n row = go (ltb n 512)
  where
    go : (t : Bool) → length (pick t (with_at row 0 n) row) ≡ length row
    go true = length_with_at row 0 n
    go false = refl

module _ (t : ℕ → Bool) (ns : List ℕ) where
  pub marks_on : (k x : ℕ) (xs ys row row' all : List ℕ) (w : Bool) → ys ≡ x ∷ xs → w ≡ t x → row' ≡ jotted w (get_or ns k 0) row → marks t ns k ys row ≡ all → marks t ns (k + 1) xs row' ≡ all
  unfolding marks
  marks_on k x xs ys row row' all w e p q h = rw (q, p) (rw e at h)

  pub marks_end : (k : ℕ) (ys row all : List ℕ) → ys ≡ [] → marks t ns k ys row ≡ all → row ≡ all
  unfolding marks
  marks_end k ys row all e h = rw e at h

-- A row of units --------------------------------------------------------------------------------------------------------------------------------

-- a tag, and the unit that stands beside it, or none
record Item : Type 0 where
  tag : ℕ
  unit : Bool
  word : ℕ

abbrev of_operand : Operand → Item
of_operand o = record { tag = o.field; unit = pick (eqb o.shape 0) false true; word = word_of one o.shape o.storage o.offset }

abbrev of_abi : Abi → Item
of_abi a = record { tag = a.role; unit = true; word = word_of one a.shape a.storage a.offset }

abbrev tags : List Item → List ℕ
tags [] = []
tags (i ∷ is) = i.tag ∷ tags is

abbrev chosen : (ℕ → Bool) → List Item → List ℕ
chosen t [] = []
chosen t (i ∷ is) = pick (t i.tag and i.unit) (i.word ∷ chosen t is) (chosen t is)

abbrev Beside : List ℕ → List ℕ → ℕ → List Item → Type 0
Beside us found k [] = Unit {0}
Beside us found k (i ∷ is) = (get_or found k 0 ≡ pick i.unit (number_in i.word us) no_unit) × (i.unit ≡ true → has i.word us ≡ true) × Beside us found (k + 1) is

module _ (us : List ℕ) (once : Distinct us) (most : length us ≤ 512) where
  same_number : (w m : ℕ) → has w us ≡ true → m < length us → eqb (get_or us m 0) w ≡ eqb m (number_in w us)
  same_number w m h l = go (eqb m (number_in w us)) refl
    where
      go : (t : Bool) → eqb m (number_in w us) ≡ t → eqb (get_or us m 0) w ≡ t
      go true e = eq-eqb (get_or us m 0) w (ap (λ (i : ℕ). get_or us i 0) (eqb-true m (number_in w us) e) ∙ number_at w us h)
      go false e = ne_eqb (get_or us m 0) w (λ q. eqb-false m (number_in w us) e (sym (number_of_lem us m once l) ∙ ap (λ (v : ℕ). number_in v us) q))

  -- one unit more in a set
  listed_more : (w : ℕ) (set : List ℕ) (m : ℕ) → has w us ≡ true → listed us (w ∷ set) m ≡ (eqb m (number_in w us) or listed us set m)
  unfolding has pick
  listed_more w set m h = go (ltb m (length us)) refl
    where
      go : (t : Bool) → ltb m (length us) ≡ t → (t and has (get_or us m 0) (w ∷ set)) ≡ (eqb m (number_in w us) or (t and has (get_or us m 0) set))
      go true e = rw (same_number w m h (ltb-true m (length us) e))
      go false e = rw (ne_eqb m (number_in w us) (λ q. absurd (omega (arith, ltb-false m (length us) e, number_low w us h))))

  shuffled : (e p l : Bool) → ((e || p) or l) ≡ (p or (e or l))
  unfolding pick
  shuffled true true l = refl
  shuffled true false l = refl
  shuffled false true l = refl
  shuffled false false l = refl

  none_listed : (p : ℕ → Bool) (m : ℕ) → p m ≡ (p m or listed us [] m)
  unfolding pick has
  none_listed p m = go (p m) (ltb m (length us))
    where
      go : (a b : Bool) → a ≡ (a or (b and false))
      go true b = refl
      go false true = refl
      go false false = refl

  module _ (t : ℕ → Bool) (found : List ℕ) where
    fill : (is : List Item) (k : ℕ) (p : ℕ → Bool) → Beside us found k is → marks t found k (tags is) (pack 8 p) ≡ pack 8 (λ (m : ℕ). p m or listed us (chosen t is) m)
    unfolding marks jotted pick
    fill [] k p b = pack_ext 8 p _ (λ m l. none_listed p m)
    fill (i ∷ is) k p b = by (t i.tag) i.unit b.0 b.1 (λ q. fill is (k + 1) q b.2)
      where
        by : (x y : Bool) → get_or found k 0 ≡ pick y (number_in i.word us) no_unit → (y ≡ true → has i.word us ≡ true)
            → ((q : ℕ → Bool) → marks t found (k + 1) (tags is) (pack 8 q) ≡ pack 8 (λ (m : ℕ). q m or listed us (chosen t is) m))
            → marks t found (k + 1) (tags is) (pick x (pick (ltb (get_or found k 0) 512) (with_at (pack 8 p) 0 (get_or found k 0)) (pack 8 p)) (pack 8 p))
            ≡ pack 8 (λ (m : ℕ). p m or listed us (pick (x and y) (i.word ∷ chosen t is) (chosen t is)) m)
        by false y e h ih = ih p
        by true false e h ih = rw (e, le-ltb 65535 512 (omega arith)) (ih p)
        by true true e h ih =
            let l : number_in i.word us < 512 = omega (arith, number_low i.word us (h refl)) in
            rw (e, lt-ltb (number_in i.word us) 512 l, pack_with_at 8 p (number_in i.word us) (omega arith))
            (ih (λ (m : ℕ). eqb m (number_in i.word us) || p m)
            ∙ pack_ext 8 _ _ (λ m n. shuffled (eqb m (number_in i.word us)) (p m) (listed us (chosen t is) m) ∙ ap (λ (z : Bool). p m or z) (sym (listed_more i.word (chosen t is) m (h refl)))))

    fill_units : (is : List Item) (k : ℕ) → Beside us found k is → marks t found k (tags is) (replicate 8 0) ≡ unit_row one us (chosen t is)
    unfolding unit_row pick
    fill_units is k b = rw (← pack_none 8) (fill is k (λ _. false) b)

-- the numbers of the records from a place on stand beside its operands, and beside its ABI records
front : (n x : ℕ) (l xs : List ℕ) → take (suc n) l ≡ x ∷ xs → (get_or l 0 0 ≡ x) × (take n (drop 1 l) ≡ xs)
front n x [] xs e = let z : ◌≡◌ {A = ℕ} 0 1 = cc in absurd (omega arith)
front n x (y ∷ l) xs e = (cc, cc)

module _ (us found ids : List ℕ) where
  here_and_on : (k n x : ℕ) (xs : List ℕ) → take (suc n) (drop k found) ≡ x ∷ xs → (get_or found k 0 ≡ x) × (take n (drop (k + 1) found) ≡ xs)
  here_and_on k n x xs e =
      let h = front n x (drop k found) xs e in
      let z : k + 0 ≡ k = omega arith in
      (ap (λ (i : ℕ). get_or found i 0) (sym z) ∙ sym (get_or-drop k found 0 0) ∙ h.0, ap (take n) (sym (drop-drop 1 k found)) ∙ h.1)

  beside_operands : (xs : List Rec) (k : ℕ) → take (length (numbers_in one us xs)) (drop k found) ≡ numbers_in one us xs → All (OperandIn one ids us) (gather xs).operands
      → Beside us found k (map of_operand (gather xs).operands)
  unfolding gather put put_step numbers_in pick
  beside_operands [] k e h = tt
  beside_operands (header a f w ∷ xs) k e h = tt
  beside_operands (storage x ∷ xs) k e h = tt
  beside_operands (function m ∷ xs) k e h = tt
  beside_operands (abi x ∷ xs) k e h = tt
  beside_operands (block id ∷ xs) k e h = tt
  beside_operands (instruction op sub fn ∷ xs) k e h = tt
  beside_operands (operand x ∷ xs) k e h = (at_first (eqb x.shape 0) on.0, known h.0, beside_operands xs (k + 1) on.1 h.1)
    where
      on : (get_or found k 0 ≡ pick (eqb x.shape 0) no_unit (number_in (word_of one x.shape x.storage x.offset) us)) × (take (length (numbers_in one us xs)) (drop (k + 1) found) ≡ numbers_in one us xs)
      on = here_and_on k (length (numbers_in one us xs)) (pick (eqb x.shape 0) no_unit (number_in (word_of one x.shape x.storage x.offset) us)) (numbers_in one us xs) e

      at_first : (t : Bool) → get_or found k 0 ≡ pick t no_unit (number_in (word_of one x.shape x.storage x.offset) us)
          → get_or found k 0 ≡ pick (pick t false true) (number_in (word_of one x.shape x.storage x.offset) us) no_unit
      at_first true q = q
      at_first false q = q

      known : OperandIn one ids us x → pick (eqb x.shape 0) false true ≡ true → has (word_of one x.shape x.storage x.offset) us ≡ true
      known (inl z) q = absurd (true≢false (sym (rw z at q)))
      known (inr z) q = z.numbered
  beside_operands (terminator op sub fn ∷ xs) k e h = tt
  beside_operands (target id ∷ xs) k e h = tt
  beside_operands (end ∷ xs) k e h = tt

  beside_abis : (xs : List Rec) (k : ℕ) → take (length (numbers_in one us xs)) (drop k found) ≡ numbers_in one us xs → All (AbiIn one ids us) (gather xs).abis
      → Beside us found k (map of_abi (gather xs).abis)
  unfolding gather put put_step numbers_in pick
  beside_abis [] k e h = tt
  beside_abis (header a f w ∷ xs) k e h = tt
  beside_abis (storage x ∷ xs) k e h = tt
  beside_abis (function m ∷ xs) k e h = tt
  beside_abis (abi x ∷ xs) k e h =
      let on = here_and_on k (length (numbers_in one us xs)) (number_in (word_of one x.shape x.storage x.offset) us) (numbers_in one us xs) e in
      (on.0, (λ _. h.0.numbered), beside_abis xs (k + 1) on.1 h.1)
  beside_abis (block id ∷ xs) k e h = tt
  beside_abis (instruction op sub fn ∷ xs) k e h = tt
  beside_abis (operand x ∷ xs) k e h = tt
  beside_abis (terminator op sub fn ∷ xs) k e h = tt
  beside_abis (target id ∷ xs) k e h = tt
  beside_abis (end ∷ xs) k e h = tt

operand_tags : (os : List Operand) → map (λ (o : Operand). o.field) os ≡ tags (map of_operand os)
operand_tags [] = refl
operand_tags (o ∷ os) = ap (λ (l : List ℕ). o.field ∷ l) (operand_tags os)

abi_tags : (xs : List Abi) → map (λ (a : Abi). a.role) xs ≡ tags (map of_abi xs)
abi_tags [] = refl
abi_tags (x ∷ xs) = ap (λ (l : List ℕ). x.role ∷ l) (abi_tags xs)

operands_chosen : (t : ℕ → Bool) (os : List Operand) → chosen t (map of_operand os) ≡ units_in one t os
unfolding units_in select pick
operands_chosen t [] = refl
operands_chosen t (o ∷ os) = go (t o.field and pick (eqb o.shape 0) false true) (operands_chosen t os)
  where
    go : (x : Bool) → chosen t (map of_operand os) ≡ units_in one t os
        → pick x (word_of one o.shape o.storage o.offset ∷ chosen t (map of_operand os)) (chosen t (map of_operand os))
        ≡ map (λ (o : Operand). word_of one o.shape o.storage o.offset) (pick x (o ∷ select (λ (o : Operand). t o.field and pick (eqb o.shape 0) false true) os) (select (λ (o : Operand). t o.field and pick (eqb o.shape 0) false true) os))
    go true e = ap (λ (l : List ℕ). word_of one o.shape o.storage o.offset ∷ l) e
    go false e = e

abis_chosen : (t : ℕ → Bool) (xs : List Abi) → chosen t (map of_abi xs) ≡ units_of one t xs
unfolding units_of select pick
abis_chosen t [] = refl
abis_chosen t (a ∷ xs) = go (t a.role) (abis_chosen t xs)
  where
    go : (x : Bool) → chosen t (map of_abi xs) ≡ units_of one t xs
        → pick (x and true) (word_of one a.shape a.storage a.offset ∷ chosen t (map of_abi xs)) (chosen t (map of_abi xs))
        ≡ map (λ (a : Abi). word_of one a.shape a.storage a.offset) (pick x (a ∷ select (λ (a : Abi). t a.role) xs) (select (λ (a : Abi). t a.role) xs))
    go true e = ap (λ (l : List ℕ). word_of one a.shape a.storage a.offset ∷ l) e
    go false e = e

-- LAW. In an accepted file the row filled from a cursor is the row of the units of the records there.
module _ (f us found : List ℕ) (ok : check one f ≡ units us) (same : take (length (numbers one f)) found ≡ numbers one f) (at k : ℕ) (s : Stands f at k) (t : ℕ → Bool) where
  pub operand_marks_lem : marks t found k (fields_in (drop at f)) (replicate 8 0) ≡ unit_row one us (units_in one t (from f at).operands)
  unfolding fields_in
  operand_marks_lem =
      let i = stands_inside f us ok at k s in
      let b = beside_operands us found i.ids (records one (drop at f)) k (aligned f us found ok same at k s) i.holds.operands in
      ap (λ (l : List ℕ). marks t found k l (replicate 8 0)) (operand_tags (from f at).operands)
      ∙ fill_units us (units_once_lem f us ok) (units_most_lem f us ok) t found (map of_operand (from f at).operands) k b
      ∙ ap (unit_row one us) (operands_chosen t (from f at).operands)

  pub abi_marks_lem : marks t found k (roles_in (drop at f)) (replicate 8 0) ≡ unit_row one us (units_of one t (from f at).abis)
  unfolding roles_in
  abi_marks_lem =
      let i = stands_inside f us ok at k s in
      let b = beside_abis us found i.ids (records one (drop at f)) k (aligned f us found ok same at k s) i.holds.abis in
      ap (λ (l : List ℕ). marks t found k l (replicate 8 0)) (abi_tags (from f at).abis)
      ∙ fill_units us (units_once_lem f us ok) (units_most_lem f us ok) t found (map of_abi (from f at).abis) k b
      ∙ ap (unit_row one us) (abis_chosen t (from f at).abis)
