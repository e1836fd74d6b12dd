-- What the loop over the records keeps: some state of the definitions stands behind the code's numbers and words, and what is left of the file comes to
-- what the whole comes to. Each way out of the loop is one law here.
use Rattle.std.specs.Prelude.{Result, Ok, Err}
use mathlib.Core.Path.{◌≡◌, refl, sym, ap, ap₂, ◌∙◌}
use mathlib.Core.Bool.{Bool, true, false, false≢true}
use mathlib.Core.Logic.{◌⊎◌, inl, inr}
use mathlib.Core.List.{List, [], ◌∷◌, ◌++◌}
use Prim.Native.Nat.{ℕ, zero, suc, ◌+◌, ◌-◌, ◌*◌, ◌≤◌, ◌<◌}
use native.Mathlib.Omega.{arith}
use native.Mathlib.Nat.{le_trans, lt_of_not-le}
use native.Mathlib.Decide.{dec_le}
use lib.Dec.{ltb, leb, eqb}
use lib.ListN.{length, get_or, take, drop, replicate, length-append, length-drop, length-replicate, drop_of_length-le}
use lib.Seq.{drop-drop}
use borrow.Author.Tests.{ltb-true, eqb-true, eq-eqb, ne_eqb, le-ltb, lt-leb}
use Rattle.rows.proofs.Pack.{pack_none}
use Rattle.fields.specs.Pick.{pick, pick_yes, pick_no, ◌and◌, has, times}
use Rattle.fields.specs.Edition.{one}
use Rattle.fields.specs.Fields.{Field, Count, lacks, missing, most, field_at}
use Rattle.fields.specs.Record.{Operand, Rec, header, storage, function, abi, block, instruction, operand, terminator, target, end, whole, fault, u8_at, length_of, lengths, header_at, instruction_at, terminator_at, record_at, present, read}
use Rattle.records.specs.Step.{State, start, Turn, next, refused, with_header, with_storage, with_function, with_block, with_opened, with_number, with_unit, opened, with_given, with_target, operand_fits, step, at_end}
use Rattle.records.specs.Check.{scan, closed, check, pieces, numbers as numbers_in}
use Rattle.records.specs.Index.{bare, brought, entered, tabled_in, tabled}
use Rattle.records.specs.Outcome.{laid}
use Rattle.records.specs.Mirror.{Rising, seen, stage_of, reader_of, Kept, Holds, Enters, Sane, Comes, Walked}
use Rattle.records.specs.declared.Refusal.{Refusal}
use Rattle.records.specs.declared.Refusal.TheVariants.{Form}
use Rattle.records.specs.declared.reader.Stage.TheVariants.{AtEnd}
use Rattle.records.specs.declared.reader.Reader.{Reader}
use Rattle.records.specs.declared.notes.Notes.{Notes}
use Rattle.fields.proofs.ByKind.{length_none}
use Rattle.fields.proofs.Front.{and_both, read_whole, whole_read}
use Rattle.records.proofs.Took.{Named, Took, stepped, unnamed, given_to}
use Rattle.records.proofs.Counts.{seen_more, rising_on}
use Rattle.fields.proofs.TableLaws.{fields_short, end_fields_short}
use Rattle.records.proofs.Range.{Sound, start_sound, kept as in_range}
use Rattle.records.proofs.Going.{Going, going_start, going_done, going_fault, going_refused, going_on}
use Rattle.records.proofs.Chains.{chained_none}
use Rattle.records.proofs.Entries.{bare_many, bare_listed, tabled_nil, tabled_whole}
use Rattle.records.proofs.Held.{named_of, stage_ended}

-- What is open stays within its bounds -----------------------------------------------------------------------------------------------------------

most_low : (c : Count) → most c ≤ 16
most_low Count.single = omega arith
most_low Count.optional = omega arith
most_low Count.star = omega arith
most_low Count.pair = omega arith
most_low Count.none = omega arith

same_open : (s s' : State) → s'.now ≡ s.now → Kept s → Kept s'
same_open s s' e k = record { rising = rw e k.rising; seen_most = rw e k.seen_most; short = rw e k.short }

-- an instruction or terminator without operands, or nothing
newly : (s : State) → s.now.given ≡ [] → length s.now.row ≤ 6 → Kept s
unfolding seen times
newly s e l = record { rising = rw e tt; seen_most = rw e (omega arith); short = l }

given_kept : (at : ℕ) (x : Operand) (s s' : State) → operand_fits s.now.row s.now.given x ≡ true → s'.now ≡ with_given x.field s.now → Rising s'.now.given → Kept s → Kept s'
unfolding operand_fits with_given
given_kept at x s s' f e r k =
    record {
      rising = r;
      seen_most = rw e (omega (arith, seen_more s.now.given x.field, ltb-true (times x.field s.now.given) (most (field_at s.now.row x.field).count) (and_both _ _ (and_both _ _ f).1).0, most_low (field_at s.now.row x.field).count));
      short = rw e k.short;
    }

pub kept_on : (s : State) (at : ℕ) (x : Rec) (s' : State) → Took one s at x s' → Kept s → Kept s'
unfolding with_header with_storage with_function with_block with_opened with_number with_unit opened with_target
kept_on s at (header a f w) s' h k = same_open s s' (rw h.2) k
kept_on s at (storage x) s' h k = same_open s s' (rw h.3) k
kept_on s at (function n) s' h k = newly s' (rw h.3) (rw h.3 (omega arith))
kept_on s at (abi x) s' h k = same_open s s' (rw h.2.is) k
kept_on s at (block id) s' h k = newly s' (rw h.3) (rw h.3 (omega arith))
kept_on s at (instruction op sub fn) s' h k = newly s' (rw h.2) (rw h.2 (fields_short op))
kept_on s at (operand x) s' h k = go h.2
  where
    r : Rising s'.now.given
    r = rising_on one s at (operand x) s' k.rising h

    go : ((eqb x.shape 0 ≡ true) × (s' ≡ unnamed (given_to x s))) ⊎ Named one x.shape x.storage x.offset (given_to x s) s' → Kept s'
    go (inl m) = given_kept at x s s' h.1 (rw m.1) r k
    go (inr m) = given_kept at x s s' h.1 (rw m.is) r k
kept_on s at (terminator op sub fn) s' h k = newly s' (rw h.2) (rw h.2 (end_fields_short op sub))
kept_on s at (target id) s' h k = rw h.1 (record { rising = k.rising; seen_most = k.seen_most; short = k.short })
kept_on s at end s' h k = newly s' (rw h.1) (rw h.1 (omega arith))

-- No stage is past the end -----------------------------------------------------------------------------------------------------------------------

stage_on : (s : State) (at : ℕ) (x : Rec) (s' : State) → Took one s at x s' → s.stage ≤ 5 → s'.stage ≤ 5
unfolding with_header with_storage with_function with_block with_opened with_number with_unit
stage_on s at (header a f w) s' h l = rw h.2 (omega arith)
stage_on s at (storage x) s' h l = rw h.3 l
stage_on s at (function n) s' h l = rw h.3 (omega arith)
stage_on s at (abi x) s' h l = rw h.2.is l
stage_on s at (block id) s' h l = rw h.3 (omega arith)
stage_on s at (instruction op sub fn) s' h l = rw h.2 (omega arith)
stage_on s at (operand x) s' h l = go h.2
  where
    go : ((eqb x.shape 0 ≡ true) × (s' ≡ unnamed (given_to x s))) ⊎ Named one x.shape x.storage x.offset (given_to x s) s' → s'.stage ≤ 5
    go (inl m) = rw m.1 l
    go (inr m) = rw m.is l
stage_on s at (terminator op sub fn) s' h l = rw h.2 (omega arith)
stage_on s at (target id) s' h l = rw h.1 l
stage_on s at end s' h l = rw h.1 (omega arith)

-- Unit numbers are noted for ABI records and operands, seven bytes each ---------------------------------------------------------------------------

length_snoc : (xs : List ℕ) (x : ℕ) → length (xs ++ (x ∷ [])) ≡ length xs + 1
length_snoc xs x = length-append xs (x ∷ [])

numbers_on : (s : State) (at : ℕ) (x : Rec) (s' : State) → Took one s at x s' → length s'.numbers ≡ length s.numbers + brought x
unfolding with_header with_storage with_function with_block with_opened with_number with_unit
numbers_on s at (header a f w) s' h = rw h.2 (omega arith)
numbers_on s at (storage x) s' h = rw h.3 (omega arith)
numbers_on s at (function n) s' h = rw h.3 (omega arith)
numbers_on s at (abi x) s' h = rw h.2.is (length_snoc s.numbers _)
numbers_on s at (block id) s' h = rw h.3 (omega arith)
numbers_on s at (instruction op sub fn) s' h = rw h.2 (omega arith)
numbers_on s at (operand x) s' h = go h.2
  where
    go : ((eqb x.shape 0 ≡ true) × (s' ≡ unnamed (given_to x s))) ⊎ Named one x.shape x.storage x.offset (given_to x s) s' → length s'.numbers ≡ length s.numbers + 1
    go (inl m) = rw m.1 (length_snoc s.numbers _)
    go (inr m) = rw m.is (length_snoc s.numbers _)
numbers_on s at (terminator op sub fn) s' h = rw h.2 (omega arith)
numbers_on s at (target id) s' h = rw h.1 (omega arith)
numbers_on s at end s' h = rw h.1 (omega arith)

pick_by : {A : Type 0} (P : A → Type 0) (t : Bool) (a b : A) → (t ≡ true → P a) → (t ≡ false → P b) → P (pick t a b)
unfolding pick
pick_by P true a b p q = p refl
pick_by P false a b p q = q refl

-- a record that names a unit has seven bytes
pub record Long (t : List ℕ) (x : Rec) : Type 0 where
  pub long : 7 * brought x ≤ length_of one (u8_at t 0)

long_at : (t : List ℕ) (c : ℕ) → eqb (u8_at t 0) c ≡ true → 7 ≤ length_of one c → 7 ≤ length_of one (u8_at t 0)
long_at t c e l = rw (eqb-true (u8_at t 0) c e) l

seven : (7 ≤ length_of one 3) × (7 ≤ length_of one 6)
unfolding length_of lengths pick
seven = (omega arith, omega arith)

pub brought_long : (t : List ℕ) → Long t (record_at one t)
unfolding record_at header_at instruction_at terminator_at
brought_long t =
    pick_by (Long t) _ _ _ (λ _. record { long = omega arith })
    λ _. pick_by (Long t) _ _ _ (λ _. record { long = omega arith })
    λ _. pick_by (Long t) _ _ _ (λ _. record { long = omega arith })
    λ _. pick_by (Long t) _ _ _ (λ e. record { long = long_at t 3 e seven.0 })
    λ _. pick_by (Long t) _ _ _ (λ _. record { long = omega arith })
    λ _. pick_by (Long t) _ _ _ (λ _. record { long = omega arith })
    λ _. pick_by (Long t) _ _ _ (λ e. record { long = long_at t 6 e seven.1 })
    λ _. pick_by (Long t) _ _ _ (λ _. record { long = omega arith })
    λ _. pick_by (Long t) _ _ _ (λ _. record { long = omega arith })
    λ _. record { long = omega arith }

no_both : (a b : Bool) → b ≡ false → (a and b) ≡ false
unfolding pick
no_both true b e = e
no_both false b e = refl

-- What the tests on a record's length say: `k` is the kind byte, `n` the length of its kind.
module _ (t : List ℕ) (k n : ℕ) (kind : k ≡ get_or t 0 0) (is : n ≡ length_of one k) where
  length_is : n ≡ length_of one (u8_at t 0)
  unfolding u8_at
  length_is = rw kind at is

  pub not_whole : (n ≡ 0) ⊎ (length t < n) → read one t ≡ fault
  unfolding read present
  not_whole h = pick_no _ _ _ (no_both (ltb 0 (length t)) _ (cut h))
    where
      cut : (n ≡ 0) ⊎ (length t < n) → (ltb 0 (length_of one (u8_at t 0)) and leb (length_of one (u8_at t 0)) (length t)) ≡ false
      cut (inl e) = pick_no _ _ _ (le-ltb 0 (length_of one (u8_at t 0)) (omega (arith, length_is)))
      cut (inr l) = no_both _ _ (lt-leb (length_of one (u8_at t 0)) (length t) (omega (arith, length_is)))

  pub no_kind : n ≡ 0 → read one t ≡ fault
  no_kind e = not_whole (inl e)

  pub no_body : length t < n → read one t ≡ fault
  no_body l = not_whole (inr l)

  pub whole_kind : (n ≡ 0 → ⊥) → n ≤ length t → read one t ≡ whole n (record_at one t)
  whole_kind e l = whole_read one t (omega (arith, length_is)) (omega (arith, length_is)) ∙ ap (λ i. whole i (record_at one t)) (sym length_is)

pub at_most : (n : ℕ) → (n ≡ 0 → ⊥) → 0 < n
at_most zero h = absurd (h refl)
at_most (suc n) h = omega arith

pub kind_low : (k n : ℕ) → n ≡ length_of one k → (n ≡ 0 → ⊥) → k < 10
kind_low k n e z = go (dec_le 10 k)
  where
    go : Dec (10 ≤ k) → k < 10
    go (yes l) = absurd (z (e ∙ length_none k l))
    go (no h) = lt_of_not-le h

-- What the loop keeps -----------------------------------------------------------------------------------------------------------------------------

pub record Reading (f : List ℕ) (c : Reader) (at : ℕ) (d : Notes) : Type 0 where
  pub state : State
  pub is : c ≡ reader_of state
  pub going : Going one (scan one start 0 f) f state at
  pub holds : Holds state d
  pub kept : Kept state
  pub sound : Sound one state
  pub staged : state.stage ≤ 5
  pub counted : 7 * length state.numbers ≤ at
  pub tabling : tabled one f ≡ tabled_in one at (length state.numbers) (pieces one (drop at f)) d.table.now

pub reading_start : (f : List ℕ) (c : Reader) (d : Notes) → c ≡ reader_of start → d.ids ≡ replicate 4 0 → length d.blocks ≡ 128 → d.words.now ≡ laid 512 [] []
    → d.heads ≡ replicate 256 0 → d.nexts ≡ replicate 512 0 → d.table.now ≡ bare → Reading f c 0 d
unfolding has tabled
reading_start f c d e i l w p q b =
    record {
      state = start;
      is = e;
      going = going_start one f;
      holds =
          record {
            id_row = i ∙ sym (pack_none 4);
            id_low = λ n h. absurd (false≢true h);
            many_entries = rw b bare_many;
            function_list = λ n h. rw b (bare_listed n h);
            many_blocks = l;
            block_list = refl;
            units_most = omega arith;
            unit_words = w;
            chains = rw (p, q) chained_none;
            number_list = refl;
          };
      kept = newly start refl (omega arith);
      sound = start_sound one;
      staged = omega arith;
      counted = omega arith;
      tabling = rw b;
    }

by_test : (t : Bool) → pick t 1 0 ≤ 1
unfolding pick
by_test true = omega arith
by_test false = omega arith

laid_full : (us : List ℕ) → length us ≤ 512 → length (laid 512 us []) ≡ 512
unfolding laid
laid_full us l = omega (arith, length-append (us ++ replicate (512 - length us) 0) (drop {A = ℕ} 512 []), length-append us (replicate (512 - length us) 0), length-replicate {A = ℕ} (512 - length us) 0, length-drop {A = ℕ} 512 [])

lacks_low : (c : Count) (n : ℕ) → lacks c n ≤ 1
unfolding pick
lacks_low Count.single n = by_test (eqb n 0)
lacks_low Count.optional n = omega arith
lacks_low Count.star n = omega arith
lacks_low Count.pair n = by_test (eqb n 1)
lacks_low Count.none n = omega arith

missing_most : (row : List Field) (k : ℕ) (given : List ℕ) → missing row k given ≤ length row
unfolding missing
missing_most [] k given = omega arith
missing_most (x ∷ xs) k given = omega (arith, lacks_low x.count (times k given), missing_most xs (suc k) given)

module _ (f : List ℕ) (c : Reader) (at : ℕ) (d : Notes) (g : Reading f c at d) where
  pub reading_sane : length f ≤ 16384 → 2341 ≤ length d.numbers.now → Sane c at d
  reading_sane l m =
      record {
        early = omega (arith, g.going.within);
        many_entries = g.holds.many_entries;
        blocks_most = rw g.is g.sound.blocks_most;
        seen_most = rw g.is g.kept.seen_most;
        lacks_most = rw g.is (le_trans (missing_most g.state.now.row 0 g.state.now.given) g.kept.short);
        named_most = rw g.is (omega (arith, g.counted, g.going.within));
        ready =
            record {
              many_words = rw g.holds.unit_words (laid_full g.state.units g.holds.units_most);
              low = g.holds.chains.low;
              units_most = rw g.is g.holds.units_most;
              room = rw g.is (omega (arith, g.counted, g.going.within));
            };
      }

  -- The ways out of the loop; only at the end does it matter what the lent words then are.
  module _ (short : length f ≤ 16384) (words found table : List ℕ) where
    answer_is : (w : Turn) → scan one start 0 f ≡ w → check one f ≡ closed (length f) w
    unfolding check
    answer_is w e = pick_no _ _ _ (le-ltb 16384 (length f) short) ∙ ap (closed (length f)) e

    pub reading_done : (at < length f → ⊥) → c.stage ≡ AtEnd → words ≡ d.words.now → found ≡ d.numbers.now → table ≡ d.table.now
        → Walked (check one f) (Ok c.units) words found (numbers_in one f) table (tabled one f)
    unfolding numbers_in
    reading_done m e u v w =
        rw (answer_is (next g.state) all, all, pick_yes (eqb g.state.stage at_end) _ _ (eq-eqb _ _ (stage_ended _ g.staged (ends ∙ e))), g.is)
        (refl, u ∙ g.holds.unit_words, ap (take (length g.state.numbers)) v ∙ g.holds.number_list, w ∙ sym entries)
      where
        all : scan one start 0 f ≡ next g.state
        all = going_done one _ f g.state at g.going (omega (arith, g.going.within))

        entries : tabled one f ≡ d.table.now
        entries = g.tabling ∙ ap (λ (t : List ℕ). tabled_in one at (length g.state.numbers) (pieces one t) d.table.now) (drop_of_length-le f {i = at} (omega (arith, g.going.within))) ∙ tabled_nil one at _ d.table.now

        ends : stage_of g.state.stage ≡ c.stage
        ends = sym (ap (λ (r : Reader). r.stage) g.is)

    pub reading_open : (at < length f → ⊥) → (c.stage ≡ AtEnd → ⊥) → Walked (check one f) (Err (Form at)) words found (numbers_in one f) table (tabled one f)
    reading_open m e = rw (answer_is (next g.state) all, pick_no (eqb g.state.stage at_end) _ _ (ne_eqb _ _ (λ q. e (ends ∙ ap stage_of q)))) (ap (λ i. Err (Form i)) end_at)
      where
        end_at : at ≡ length f
        end_at = omega (arith, g.going.within)

        all : scan one start 0 f ≡ next g.state
        all = going_done one _ f g.state at g.going end_at

        ends : c.stage ≡ stage_of g.state.stage
        ends = ap (λ (r : Reader). r.stage) g.is

    -- `t` is the tail that the code holds
    module _ (t : List ℕ) (here : t ≡ drop at f) (some : at < length f) where
      pub reading_fault : read one t ≡ fault → Walked (check one f) (Err (Form at)) words found (numbers_in one f) table (tabled one f)
      reading_fault e = rw (answer_is (refused (Form at)) (going_fault one _ f g.state at g.going t here some e))

      -- the record is whole: `r` is what the step answered, and the lent words are as it left them
      module _ (n : ℕ) (whole_here : read one t ≡ whole n (record_at one t)) (r : Result Reader Refusal) (d' : Notes)
          (comes : Comes (step one g.state at (record_at one t)) r (λ s'. Enters s' (record_at one t) at c.named d.table.now d')) where
        pub reading_refused : (x : Refusal) → r ≡ Err x → Walked (check one f) (Err x) words found (numbers_in one f) table (tabled one f)
        reading_refused x e = go (step one g.state at (record_at one t)) refl comes
          where
            go : (w : Turn) → step one g.state at (record_at one t) ≡ w → Comes w r (λ s'. Enters s' (record_at one t) at c.named d.table.now d') → Walked (check one f) (Err x) words found (numbers_in one f) table (tabled one f)
            go (next s') q h = let z : ◌≡◌ {A = ℕ} 0 1 = cc h.0 in absurd (omega arith)
            go (refused y) q h = let i : y ≡ x = cc in rw (answer_is (refused y) (going_refused one _ f g.state at g.going t here n _ y whole_here q), i)

        pub reading_on : (c' : Reader) → r ≡ Ok c' → Reading f c' (at + n) d'
        reading_on c' e = go (step one g.state at (record_at one t)) refl comes
          where
            go : (w : Turn) → step one g.state at (record_at one t) ≡ w → Comes w r (λ s'. Enters s' (record_at one t) at c.named d.table.now d') → Reading f c' (at + n) d'
            go (refused y) q h = let z : ◌≡◌ {A = ℕ} 0 1 = cc in absurd (omega arith)
            go (next s') q h =
                let took = (stepped one g.state at (record_at one t) s' q).taken in
                record {
                  state = s';
                  is = cc h.0;
                  going = going_on one _ f g.state at g.going t here n _ s' whole_here q;
                  holds = h.1.holds;
                  kept = kept_on g.state at (record_at one t) s' took g.kept;
                  sound = (in_range one g.state at (record_at one t) s' took).sound g.sound;
                  staged = stage_on g.state at (record_at one t) s' took g.staged;
                  counted = omega (arith, numbers_on g.state at (record_at one t) s' took, (brought_long t).long, (read_whole one t n _ whole_here).long, g.counted);
                  tabling =
                      g.tabling ∙ ap (λ (u : List ℕ). tabled_in one at (length g.state.numbers) (pieces one u) d.table.now) (sym here)
                      ∙ tabled_whole one at (length g.state.numbers) d.table.now t n (record_at one t) whole_here
                      ∙ ap₂ (λ (u : List ℕ) (k : ℕ). tabled_in one (at + n) k (pieces one u) (entered (record_at one t) at (length g.state.numbers) d.table.now)) (ap (drop n) here ∙ drop-drop n at f) (sym (numbers_on g.state at (record_at one t) s' took))
                      ∙ ap (tabled_in one (at + n) (length s'.numbers) (pieces one (drop (at + n) f))) (sym (h.1.table_is ∙ ap (λ (k : ℕ). entered (record_at one t) at k d.table.now) (named_of c g.state g.is)));
                }
