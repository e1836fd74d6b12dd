-- Laws of the table as numbers: a row's word has its fields as bytes (`row_byte`), a byte has its field's parts (`byte-..`), no row has more than six fields
-- (`fields_short`, `end_fields_short`), none is past the tables (`fields_none`, `branch_none`), and the code's constant has just their words (`entry_..`). Assumes nothing.
use mathlib.Core.Path.{◌≡◌, refl, sym, ap, ◌∙◌}
use mathlib.Core.Bool.{Bool, true, false}
use mathlib.Core.List.{List, [], ◌∷◌, ◌++◌, map}
use Prim.Native.Nat.{ℕ, zero, suc, ◌+◌, ◌*◌, ◌/◌, ◌%◌, ◌^◌, ◌≤◌, ◌<◌}
use native.Mathlib.Omega.{arith}
use native.Mathlib.Nat.{div-div-eq-div-mul, pow-succ', pow-le-pow_right, div-one, div-eq_of_lt, lt_of_lt_of_le, zero-div}
use lib.ListN.{length, get_or, get_or-eq_default, get_or-map, get_or-append}
use Rattle.std.proofs.lemmas.List.{get_or-append-add}
use lib.Pow.{pow-add}
use Rattle.fields.specs.Fields.{Class, Count, Field, no_field, D, Y, B, T, W, «V», O, single, optional, star, pair, none, r*, table, fields_of, branch_fields, end_fields_of, most, lacks, missing, takes, greatest, well_formed, field_at}
use lib.Dec.{ltb, leb, eqb}
use borrow.Author.Tests.{ltb-true, leb-true, ne_eqb}
use Rattle.fields.specs.Pick.{pick, times, ◌and◌}
use Rattle.fields.specs.Record.{Operand}
use Rattle.fields.proofs.Front.{and_both, pick_same}
use Rattle.fields.specs.Table.{class_number, count_number, bit, byte_by, byte_of, row_word, entry_of, most_in, lacks_in, takes_in, greatest_in}

class_low : (c : Class) → (0 < class_number c) × (class_number c < 8)
class_low D = (omega arith, omega arith)
class_low Y = (omega arith, omega arith)
class_low B = (omega arith, omega arith)
class_low T = (omega arith, omega arith)
class_low W = (omega arith, omega arith)
class_low «V» = (omega arith, omega arith)
class_low O = (omega arith, omega arith)

count_low : (c : Count) → count_number c < 4
count_low single = omega arith
count_low optional = omega arith
count_low star = omega arith
count_low pair = omega arith
count_low none = omega arith

bit_low : (b : Bool) → bit b < 2
bit_low true = omega arith
bit_low false = omega arith

by_low : (c : Count) (n : ℕ) → n < 128 → byte_by c n < 128
by_low single n l = l
by_low optional n l = l
by_low star n l = l
by_low pair n l = l
by_low none n l = omega arith

pub byte_low : (x : Field) → byte_of x < 128
unfolding byte_of
byte_low x = by_low x.count _ (omega (arith, class_low x.class, count_low x.count, bit_low x.written, bit_low x.read))

-- a field of the table: its byte's parts
by_some : (c : Count) (n : ℕ) → (c ≡ none → ⊥) → byte_by c n ≡ n
by_some single n h = refl
by_some optional n h = refl
by_some star n h = refl
by_some pair n h = refl
by_some none n h = absurd (h refl)

module _ (x : Field) (some : x.count ≡ none → ⊥) where
  byte_is : byte_of x ≡ class_number x.class + 8 * count_number x.count + 32 * bit x.written + 64 * bit x.read
  unfolding byte_of
  byte_is = by_some x.count _ some

  pub byte_class : byte_of x % 8 ≡ class_number x.class
  byte_class = omega (arith, byte_is, class_low x.class)

  pub byte_count : byte_of x / 8 % 4 ≡ count_number x.count
  byte_count = omega (arith, byte_is, class_low x.class, count_low x.count)

pub byte_none : byte_of no_field ≡ 0
unfolding byte_of
byte_none = refl

-- What a byte says is what its field says.
pub takes_in_lem : (c : Class) (s : ℕ) → takes_in (class_number c) s ≡ takes c s
unfolding takes_in pick
takes_in_lem D s = refl
takes_in_lem Y s = refl
takes_in_lem B s = refl
takes_in_lem T s = refl
takes_in_lem W s = refl
takes_in_lem «V» s = refl
takes_in_lem O s = refl

pub greatest_in_lem : (c : Class) → greatest_in (class_number c) ≡ greatest c
unfolding greatest_in pick
greatest_in_lem D = refl
greatest_in_lem Y = refl
greatest_in_lem B = refl
greatest_in_lem T = refl
greatest_in_lem W = refl
greatest_in_lem «V» = refl
greatest_in_lem O = refl

none_or : (c : Count) → Dec (c ≡ none)
none_or single = no (λ e. cc)
none_or optional = no (λ e. cc)
none_or star = no (λ e. cc)
none_or pair = no (λ e. cc)
none_or none = yes refl

most_at : (c : Count) → (c ≡ none → ⊥) → get_or (1 ∷ 1 ∷ 16 ∷ 2 ∷ []) (count_number c) 0 ≡ most c
most_at single h = refl
most_at optional h = refl
most_at star h = refl
most_at pair h = refl
most_at none h = absurd (h refl)

lacks_at : (c : Count) (n : ℕ) → (c ≡ none → ⊥) → pick (eqb (count_number c) 0) (pick (eqb n 0) 1 0) (pick (eqb (count_number c) 3) (pick (eqb n 1) 1 0) 0) ≡ lacks c n
unfolding pick
lacks_at single n h = refl
lacks_at optional n h = refl
lacks_at star n h = refl
lacks_at pair n h = refl
lacks_at none n h = absurd (h refl)

by_none : (c : Count) (n : ℕ) → c ≡ none → byte_by c n ≡ 0
by_none c n e = rw e

byte_zero : (x : Field) → x.count ≡ none → byte_of x ≡ 0
unfolding byte_of
byte_zero x e = by_none x.count _ e

byte_not : (x : Field) → (x.count ≡ none → ⊥) → eqb (byte_of x) 0 ≡ false
byte_not x h = ne_eqb (byte_of x) 0 (λ e. absurd (omega (arith, byte_class x h, class_low x.class)))

pub most_in_lem : (x : Field) → most_in (byte_of x) ≡ most x.count
unfolding most_in pick
most_in_lem x = go (none_or x.count)
  where
    go : Dec (x.count ≡ none) → pick (eqb (byte_of x) 0) 0 (get_or (1 ∷ 1 ∷ 16 ∷ 2 ∷ []) (byte_of x / 8 % 4) 0) ≡ most x.count
    go (yes e) = rw (byte_zero x e, e)
    go (no n) = rw (byte_not x n, byte_count x n) (most_at x.count n)

pub lacks_in_lem : (x : Field) (n : ℕ) → lacks_in (byte_of x) n ≡ lacks x.count n
unfolding lacks_in pick
lacks_in_lem x n = go (none_or x.count)
  where
    go : Dec (x.count ≡ none) → pick (eqb (byte_of x) 0) 0 (pick (eqb (byte_of x / 8 % 4) 0) (pick (eqb n 0) 1 0) (pick (eqb (byte_of x / 8 % 4) 3) (pick (eqb n 1) 1 0) 0)) ≡ lacks x.count n
    go (yes e) = rw (byte_zero x e, e)
    go (no h) = rw (byte_not x h, byte_count x h) (lacks_at x.count n h)

most_none : (c : Count) → 0 < most c → c ≡ none → ⊥
most_none c l e = let z : 0 < 0 = rw e at l in omega arith

-- An operand fits, by the last field and its count.
unfoldable pub operand_fits_by : List Field → ℕ → ℕ → Operand → Bool
operand_fits_by row last n x =
    leb last x.field
    and (ltb (pick (eqb x.field last) n 0) (most (field_at row x.field).count)
    and (takes (field_at row x.field).class x.shape
    and well_formed (greatest (field_at row x.field).class) x.shape x.storage x.offset))

-- An operand's field, shape, storage and offset, after `n` operands of the field `last`, where `b` is the byte of its field
unfoldable pub operand_fits_in : ℕ → ℕ → ℕ → ℕ → ℕ → ℕ → ℕ → Bool
operand_fits_in b last n field shape id offset =
    leb last field
    and (ltb (pick (eqb field last) n 0) (most_in b)
    and (takes_in (b % 8) shape and well_formed (greatest_in (b % 8)) shape id offset))

-- the whole judgement of an operand, by numbers
pub operand_in_lem : (row : List Field) (b last n : ℕ) (x : Operand) → b ≡ byte_of (field_at row x.field) → operand_fits_in b last n x.field x.shape x.storage x.offset ≡ operand_fits_by row last n x
unfolding operand_fits_in operand_fits_by
operand_in_lem row b last n x e =
    rw (e, most_in_lem (field_at row x.field))
    (pick_same _ _ _ _ _ (λ _. pick_same _ _ _ _ _ (λ h. inner (most_none _ (omega (arith, ltb-true (pick (eqb x.field last) n 0) (most (field_at row x.field).count) h)))) (λ _. refl)) (λ _. refl))
  where
    f : Field
    f = field_at row x.field

    inner : (f.count ≡ none → ⊥)
        → (takes_in (byte_of f % 8) x.shape and well_formed (greatest_in (byte_of f % 8)) x.shape x.storage x.offset) ≡ (takes f.class x.shape and well_formed (greatest f.class) x.shape x.storage x.offset)
    inner h = rw (byte_class f h, takes_in_lem f.class x.shape, greatest_in_lem f.class)

-- byte i of a row's word
pub row_byte : (row : List Field) (i : ℕ) → row_word row / 256 ^ i % 256 ≡ byte_of (field_at row i)
unfolding row_word
row_byte [] i = let z : 0 / 256 ^ i ≡ 0 = zero-div (256 ^ i) in rw (z, byte_none)
row_byte (x ∷ xs) zero = rw (div-one (byte_of x + 256 * row_word xs)) (omega (arith, byte_low x))
row_byte (x ∷ xs) (suc i) =
    ap (λ n. n % 256)
    (ap (λ n. (byte_of x + 256 * row_word xs) / n) (pow-succ' 256 i)
    ∙ (sym (div-div-eq-div-mul (byte_of x + 256 * row_word xs) 256 (256 ^ i)) ∙ ap (λ n. n / 256 ^ i) (omega (arith, byte_low x))))
    ∙ row_byte xs i

-- Entries ---------------------------------------------------------------------------------------------------------------------------------------

pub entry_none : entry_of [] ≡ 0
unfolding entry_of row_word missing
entry_none = refl

pub entry_switch : entry_of (r* Y ∷ []) ≡ 82
unfolding entry_of row_word byte_of missing times pick
entry_switch = refl

-- what is no operation has no row, and no branch beyond the eight has one
pub fields_none : (op : ℕ) → 30 ≤ op → fields_of op ≡ []
unfolding fields_of table
fields_none op l = get_or-eq_default table [] l

pub branch_none : (sub : ℕ) → 8 ≤ sub → get_or branch_fields sub [] ≡ []
unfolding branch_fields
branch_none sub l = get_or-eq_default branch_fields [] l

pub entry_past : (op : ℕ) → 30 ≤ op → entry_of (fields_of op) ≡ 0
entry_past op l = ap entry_of (fields_none op l) ∙ entry_none

pub branch_past : (sub : ℕ) → 8 ≤ sub → entry_of (get_or branch_fields sub []) ≡ 0
branch_past sub l = ap entry_of (branch_none sub l) ∙ entry_none

-- the entries of the constant: the operations', and behind them the branches' and Switch's
unfoldable pub behind : List ℕ
behind = map entry_of branch_fields ++ (entry_of (r* Y ∷ []) ∷ [])

unfoldable pub entries : List ℕ
entries = map entry_of table ++ behind

pub entry_op : (op : ℕ) → op < 30 → get_or entries op 0 ≡ entry_of (fields_of op)
unfolding entries table fields_of entry_of row_word missing
entry_op op l = get_or-append (map entry_of table) behind 0 op l ∙ get_or-map entry_of table op []

pub entry_branch : (sub : ℕ) → sub < 8 → get_or entries (30 + sub) 0 ≡ entry_of (get_or branch_fields sub [])
unfolding entries behind table branch_fields entry_of row_word missing
entry_branch sub l =
    get_or-append-add (map entry_of table) behind sub 0
    ∙ (get_or-append (map entry_of branch_fields) (entry_of (r* Y ∷ []) ∷ []) 0 sub l ∙ get_or-map entry_of branch_fields sub [])

-- no row has more than six fields
abbrev short : List (List Field) → Bool
short [] = true
short (x ∷ xs) = leb (length x) 6 and short xs

short_at : (rows : List (List Field)) → short rows ≡ true → (i : ℕ) → length (get_or rows i []) ≤ 6
short_at [] e i = omega arith
short_at (x ∷ xs) e zero = leb-true _ _ (and_both _ _ e).0
short_at (x ∷ xs) e (suc i) = short_at xs (and_both _ _ e).1 i

pub fields_short : (op : ℕ) → length (fields_of op) ≤ 6
unfolding fields_of table pick
fields_short op = short_at table refl op

pub end_fields_short : (op sub : ℕ) → length (end_fields_of op sub) ≤ 6
unfolding end_fields_of branch_fields pick
end_fields_short op sub = go (eqb op 1) (eqb op 2) (eqb op 4)
  where
    go : (a b c : Bool) → length (pick a (get_or branch_fields sub []) (pick b (r* Y ∷ []) (pick c (fields_of 28) []))) ≤ 6
    go true b c = short_at branch_fields refl sub
    go false true c = omega arith
    go false false true = fields_short 28
    go false false false = omega arith

-- A byte of a word ------------------------------------------------------------------------------------------------------------------------------

power : (i : ℕ) → 2 ^ (8 * i) ≡ 256 ^ i
power zero = refl
power (suc i) =
    let e : 8 * suc i ≡ 8 + 8 * i = omega arith in
    ap (λ (n : ℕ). 2 ^ n) e ∙ (pow-add 2 8 (8 * i) ∙ (ap (λ (n : ℕ). 256 * n) (power i) ∙ sym (pow-succ' 256 i)))

-- a shift by 8 × i drops i bytes
pub byte_shifted : (word i : ℕ) → word / 2 ^ (8 * i) % 256 ≡ word / 256 ^ i % 256
byte_shifted word i = ap (λ (n : ℕ). word / n % 256) (power i)

-- 64 bits are eight bytes
pub byte_past : (word i : ℕ) → word < 18446744073709551616 → 8 ≤ i → word / 256 ^ i % 256 ≡ 0
byte_past word i l h =
    let m : 256 ^ 8 ≤ 256 ^ i = pow-le-pow_right {n = 256} (omega arith) h in
    ap (λ (n : ℕ). n % 256) (div-eq_of_lt (lt_of_lt_of_le l m))
