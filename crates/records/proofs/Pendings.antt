-- Laws of what is open, as the numbers that the code keeps: what the code makes of them is what the definitions make of the list of fields given.
-- An entry splits where the row ends, since six bytes are below the seventh; one operand more changes the count and the lacks of its own field.
use mathlib.Core.Path.{◌≡◌, sym, ◌∙◌}
use mathlib.Core.Bool.{Bool, true, false}
use mathlib.Core.List.{List, [], ◌∷◌}
use Prim.Native.Nat.{ℕ, zero, suc, ◌+◌, ◌-◌, ◌/◌, ◌%◌, ◌^◌, ◌≤◌, ◌<◌}
use native.Mathlib.Omega.{arith}
use native.Mathlib.Nat.{pow-succ', one-le-pow}
use lib.Dec.{ltb, leb, eqb}
use lib.ListN.{length, get_or}
use borrow.Author.Tests.{eq-eqb, ne_eqb}
use Rattle.fields.specs.Pick.{pick, pick_yes, pick_no, ◌and◌, times}
use Rattle.fields.specs.Fields.{Field, lacks, missing, well_formed, field_at}
use Rattle.fields.specs.Record.{Operand, u8_at, u16_at, operand_in}
use Rattle.records.specs.Step.{Opened, opened, with_given, with_target, last_field, operand_fits, finished}
use Rattle.fields.specs.Table.{byte_of, row_word, above, entry_of, most_in, lacks_in, takes_in, greatest_in}
use Rattle.records.specs.Mirror.{Rising, seen, pending_of}
use Rattle.records.specs.declared.pending.Pending.{Pending}
use Rattle.records.proofs.Counts.{count_at, last_more, seen_more, missing_more, operand_by}
use Rattle.fields.proofs.TableLaws.{byte_low, row_byte, lacks_in_lem, operand_fits_in, operand_in_lem}

-- a row of n fields is below 256 ^ n
pub row_low : (n : ℕ) (row : List Field) → length row ≤ n → row_word row < 256 ^ n
unfolding row_word
row_low n [] l = omega (arith, one-le-pow n 256 (omega arith))
row_low zero (x ∷ xs) l = absurd (omega arith)
row_low (suc n) (x ∷ xs) l = omega (arith, pow-succ' 256 n, byte_low x, row_low n xs (omega arith))

-- what the code makes of an entry
pub open_of : (at entry least most : ℕ) (row : List Field) → entry ≡ entry_of row → length row ≤ 6
    → record { place = at; row = entry % above; field = 0; seen = 0; lacks = entry / above; least = least; most = most; targets = 0 } ≡ pending_of (opened at row least most)
unfolding entry_of opened last_field seen times
open_of at entry least most row e l =
    let h : row_word row < 281474976710656 = row_low 6 row l in
    let a : entry % above ≡ row_word row = omega arith in
    let b : entry / above ≡ missing row 0 [] = omega arith in
    rw (a, b)

-- a choice between a number and 0
pub seen_most_lem : (t : Bool) (a n m : ℕ) → a ≡ pick t n 0 → n ≤ m → a ≤ m
unfolding pick
seen_most_lem true a n m e l = omega arith
seen_most_lem false a n m e l = omega arith

-- one operand more, of a field that is no lower than the last
module _ (x : Opened) (field : ℕ) (rising : Rising x.given) (low : last_field x.given ≤ field) (short : field < length x.row) where
  times_at : times field x.given ≡ pick (eqb field (last_field x.given)) (seen x.given) 0
  times_at = count_at x.given field rising low

  given_more : (b n l : ℕ) → b ≡ row_word x.row / 256 ^ field % 256 → n ≡ pick (eqb field (last_field x.given)) (seen x.given) 0
      → l ≡ missing x.row 0 x.given + lacks_in b (n + 1) - lacks_in b n
      → record { place = x.place; row = row_word x.row; field = field; seen = n + 1; lacks = l; least = x.least; most = x.most; targets = x.targets } ≡ pending_of (with_given field x)
  unfolding with_given
  given_more b n l eb en el =
      let t : n ≡ times field x.given = en ∙ sym times_at in
      let s : n + 1 ≡ suc (times field x.given) = omega arith in
      let f : b ≡ byte_of (field_at x.row field) = eb ∙ row_byte x.row field in
      let p : lacks_in b n ≡ lacks (field_at x.row field).count (times field x.given) = rw (f, t) (lacks_in_lem (field_at x.row field) _) in
      let q : lacks_in b (n + 1) ≡ lacks (field_at x.row field).count (suc (times field x.given)) = rw (f, s) (lacks_in_lem (field_at x.row field) _) in
      let m : l ≡ missing x.row 0 (field ∷ x.given) = omega (arith, missing_more x.row field x.given short) in
      rw (m, s, last_more x.given field, seen_more x.given field)

pub given_of : (o : Pending) (x : Opened) (field b n l : ℕ) → o ≡ pending_of x → Rising x.given → last_field x.given ≤ field → field < length x.row
    → b ≡ o.row / 256 ^ field % 256 → n ≡ pick (eqb field o.field) o.seen 0 → l ≡ o.lacks + lacks_in b (n + 1) - lacks_in b n
    → record { place = o.place; row = o.row; field = field; seen = n + 1; lacks = l; least = o.least; most = o.most; targets = o.targets } ≡ pending_of (with_given field x)
given_of o x field b n l e rising low short = rw e (given_more x field rising low short b n l)

pub target_of : (o : Pending) (x : Opened) → o ≡ pending_of x
    → record { place = o.place; row = o.row; field = o.field; seen = o.seen; lacks = o.lacks; least = o.least; most = o.most; targets = o.targets + 1 } ≡ pending_of (with_target x)
unfolding with_target
target_of o x e = rw e (let s : x.targets + 1 ≡ suc x.targets = omega arith in rw s)

-- an operand, judged by the numbers
pub fits_of : (o : Pending) (x : Opened) (y : Operand) (b n : ℕ) → o ≡ pending_of x → Rising x.given
    → b ≡ o.row / 256 ^ y.field % 256 → n ≡ pick (eqb y.field o.field) o.seen 0
    → (leb o.field y.field and (ltb n (most_in b) and (takes_in (b % 8) y.shape and well_formed (greatest_in (b % 8)) y.shape y.storage y.offset))) ≡ operand_fits x.row x.given y
unfolding operand_fits_in
fits_of o x y b n e rising = rw e (λ eb en. rw en (go b (eb ∙ row_byte x.row y.field)))
  where
    go : (b : ℕ) → b ≡ byte_of (field_at x.row y.field)
        → operand_fits_in b (last_field x.given) (seen x.given) y.field y.shape y.storage y.offset ≡ operand_fits x.row x.given y
    go b f = operand_in_lem x.row b (last_field x.given) (seen x.given) y f ∙ sym (operand_by x.row x.given y rising)

-- the same, of the operand at the front of a tail
pub fits_in : (o : Pending) (x : Opened) (t : List ℕ) (r : Bool) (b n id offset : ℕ) → o ≡ pending_of x → Rising x.given
    → b ≡ o.row / 256 ^ (get_or t 1 0) % 256 → n ≡ pick (eqb (get_or t 1 0) o.field) o.seen 0 → id ≡ u16_at t 3 → offset ≡ u16_at t 5
    → r ≡ (leb o.field (get_or t 1 0) and (ltb n (most_in b) and (takes_in (b % 8) (get_or t 2 0) and well_formed (greatest_in (b % 8)) (get_or t 2 0) id offset)))
    → r ≡ operand_fits x.row x.given (operand_in t)
unfolding operand_in u8_at
fits_in o x t r b n id offset e rising eb en ei ef er = er ∙ rw (ei, ef) (fits_of o x (operand_in t) b n e rising eb en)

-- finished, or not
pub finished_not : (o : Pending) (x : Opened) → o ≡ pending_of x → (o.lacks ≡ 0 → ⊥) → false ≡ finished x
unfolding finished
finished_not o x e = rw e (λ h. sym (pick_no _ _ _ (ne_eqb _ _ h)))

pub finished_of : (o : Pending) (x : Opened) → o ≡ pending_of x → o.lacks ≡ 0 → leb o.least o.targets ≡ finished x
unfolding finished
finished_of o x e = rw e (λ h. sym (pick_yes _ _ _ (eq-eqb _ _ h)))
