-- For the code that will keep numbers where the definitions keep a list: the field of the last operand, how many operands it has, and how many
-- are missing. `count_at`, `missing_more`: how they go on with one operand. Assumes nothing.
use mathlib.Core.Path.{◌≡◌, refl, ap}
use mathlib.Core.Bool.{Bool, true, false}
use mathlib.Core.List.{List, [], ◌∷◌}
use Prim.Native.Nat.{ℕ, zero, suc, ◌+◌, ◌≤◌, ◌<◌}
use native.Mathlib.Omega.{arith}
use native.Mathlib.Nat.{not-suc-le-zero}
use lib.Dec.{ltb, eqb}
use lib.ListN.{length, get_or, get_or-eq_default}
use borrow.Author.Tests.{ltb-true, ltb-false, leb-true, eqb-true, eqb-false, eq-eqb, ne_eqb}
use mathlib.Core.Logic.{◌⊎◌, inl, inr}
use Rattle.fields.specs.Pick.{pick, times}
use Rattle.fields.specs.Edition.{Edition}
use Rattle.fields.specs.Record.{Operand, Rec, header, storage, function, abi, block, instruction, operand, terminator, target, end}
use Rattle.records.specs.Mirror.{Rising, seen}
use Rattle.fields.proofs.Front.{and_both, pick_same}
use Rattle.fields.proofs.TableLaws.{operand_fits_by}
use Rattle.records.proofs.Took.{Named, Took, unnamed, given_to}
use Rattle.fields.specs.Fields.{Field, no_field, lacks, missing, most, field_at}
use Rattle.records.specs.Step.{State, with_header, with_storage, with_function, with_block, with_opened, with_number, with_unit, opened, with_given, with_target, last_field, operand_fits}

-- a field above the last one has none
above_none : (given : List ℕ) (field : ℕ) → Rising given → last_field given < field → times field given ≡ 0
unfolding times pick last_field
above_none [] field r l = refl
above_none (x ∷ xs) field r l = go (eqb field x) refl (above_none xs field r.1)
  where
    go : (t : Bool) → eqb field x ≡ t → (last_field xs < field → times field xs ≡ 0) → pick t 1 0 + times field xs ≡ 0
    go true e ih = absurd (omega (arith, eqb-true field x e))
    go false e ih = omega (arith, ih (omega (arith, r.0)))

-- so the count of an operand's field is `seen` where it is the last one, and 0 above it
pub count_at : (given : List ℕ) (field : ℕ) → Rising given → last_field given ≤ field → times field given ≡ pick (eqb field (last_field given)) (seen given) 0
unfolding pick seen
count_at given field r l = go (eqb field (last_field given)) refl
  where
    go : (t : Bool) → eqb field (last_field given) ≡ t → times field given ≡ pick t (times (last_field given) given) 0
    go true e = ap (λ i. times i given) (eqb-true field (last_field given) e)
    go false e = above_none given field r (below (eqb-false field (last_field given) e))
      where
        below : (field ≡ last_field given → ⊥) → last_field given < field
        below q = omega arith

-- after an operand of a field that is no lower: that field is the last one, and has one more
pub last_more : (given : List ℕ) (field : ℕ) → last_field (field ∷ given) ≡ field
unfolding last_field
last_more given field = refl

pub seen_more : (given : List ℕ) (field : ℕ) → seen (field ∷ given) ≡ suc (times field given)
unfolding seen last_field times pick
seen_more given field = rw (eq-eqb field field refl) (omega arith)

-- Missing operands: those of the other fields stay as they are.
missing_past : (row : List Field) (k field : ℕ) (given : List ℕ) → field < k → missing row k (field ∷ given) ≡ missing row k given
unfolding missing times pick
missing_past [] k field given l = refl
missing_past (x ∷ xs) k field given l =
    let n : eqb k field ≡ false = ne_eqb k field (λ e. absurd (omega arith)) in
    let z : 0 + times k given ≡ times k given = omega arith in
    rw (n, z, missing_past xs (suc k) field given (omega arith))

-- the field of number k + i is the i-th of a row that is numbered from k on
pub missing_at : (row : List Field) (k i : ℕ) (given : List ℕ) → i < length row
    → missing row k ((k + i) ∷ given) + lacks (get_or row i no_field).count (times (k + i) given) ≡ missing row k given + lacks (get_or row i no_field).count (suc (times (k + i) given))
unfolding missing times pick
missing_at [] k i given l = absurd (not-suc-le-zero l)
missing_at (x ∷ xs) k zero given l =
    let z : k + 0 ≡ k = omega arith in
    let s : 1 + times k given ≡ suc (times k given) = omega arith in
    rw (z, eq-eqb k k refl, s, missing_past xs (suc k) k given (omega arith)) (omega arith)
missing_at (x ∷ xs) k (suc i) given l =
    let z : k + suc i ≡ suc k + i = omega arith in
    let n : eqb k (suc k + i) ≡ false = ne_eqb k (suc k + i) (λ e. absurd (omega arith)) in
    let o : 0 + times k given ≡ times k given = omega arith in
    rw (z, n, o) (omega (arith, missing_at xs (suc k) i given (omega arith)))

-- one operand of a field: the missing ones, before and after
pub missing_more : (row : List Field) (field : ℕ) (given : List ℕ) → field < length row
    → missing row 0 (field ∷ given) + lacks (field_at row field).count (times field given) ≡ missing row 0 given + lacks (field_at row field).count (suc (times field given))
missing_more row field given l = let z : 0 + field ≡ field = omega arith in rw z at (missing_at row 0 field given l)

-- the last field and its count are all that the judgement of an operand needs
pub operand_by : (row : List Field) (given : List ℕ) (x : Operand) → Rising given → operand_fits row given x ≡ operand_fits_by row (last_field given) (seen given) x
unfolding operand_fits operand_fits_by
operand_by row given x r = pick_same _ _ _ _ _ (λ h. rw (count_at given x.field r (leb-true (last_field given) x.field h))) (λ _. refl)

-- the fields given rise, at every state that the reader comes to
pub rising_on : (ed : Edition) (s : State) (at : ℕ) (x : Rec) (s' : State) → Rising s.now.given → Took ed s at x s' → Rising s'.now.given
unfolding with_header with_storage with_function with_block with_opened with_number with_unit opened with_given with_target operand_fits
rising_on ed s at (header a f w) s' c h = rw h.2 c
rising_on ed s at (storage x) s' c h = rw h.3 c
rising_on ed s at (function n) s' c h = rw h.3 tt
rising_on ed s at (abi x) s' c h = rw h.2.is c
rising_on ed s at (block id) s' c h = rw h.3 tt
rising_on ed s at (instruction op sub fn) s' c h = rw h.2 tt
rising_on ed s at (operand x) s' c h = go h.2
  where
    l : last_field s.now.given ≤ x.field
    l = leb-true (last_field s.now.given) x.field (and_both _ _ h.1).0

    go : ((eqb x.shape 0 ≡ true) × (s' ≡ unnamed (given_to x s))) ⊎ Named ed x.shape x.storage x.offset (given_to x s) s' → Rising s'.now.given
    go (inl m) = rw m.1 (l, c)
    go (inr m) = rw m.is (l, c)
rising_on ed s at (terminator op sub fn) s' c h = rw h.2 tt
rising_on ed s at (target id) s' c h = rw h.1 c
rising_on ed s at end s' c h = rw h.1 tt

-- An operand that fits is of a field that is no lower than the last, and that the row has.
module _ (row : List Field) (given : List ℕ) (x : Operand) (e : operand_fits row given x ≡ true) where
  pub field_late : last_field given ≤ x.field
  unfolding operand_fits
  field_late = leb-true (last_field given) x.field (and_both _ _ e).0

  pub field_inside : x.field < length row
  unfolding operand_fits
  field_inside = go (ltb x.field (length row)) refl
    where
      few : ltb (times x.field given) (most (field_at row x.field).count) ≡ true
      few = (and_both _ _ (and_both _ _ e).1).0

      go : (t : Bool) → ltb x.field (length row) ≡ t → x.field < length row
      go true q = ltb-true x.field (length row) q
      go false q =
          let past : field_at row x.field ≡ no_field = get_or-eq_default row no_field (ltb-false x.field (length row) q) in
          let none : most (field_at row x.field).count ≡ 0 = ap (λ (y : Field). most y.count) past in
          let some : times x.field given < most (field_at row x.field).count = ltb-true (times x.field given) (most (field_at row x.field).count) few in
          absurd (omega arith)
