-- Document 01, "The program file": what each record holds, how long it is, how it is read off bytes, and the range of each number in it.
use Rattle.std.specs.Prelude.{ℕ, ◌+◌, ◌*◌, Bool, true, List, [], ◌∷◌, ltb, leb, eqb, get_or, length}
use Rattle.fields.specs.Pick.{pick, ◌and◌}
use Rattle.fields.specs.Edition.{Edition}

-- A storage: id, owner, kind, length, allowed regions, whether it must be direct, fixed code with its two numbers.
pub record Storage : Type 0 where
  pub id : ℕ
  pub owner : ℕ
  pub kind : ℕ
  pub len : ℕ
  pub regions : ℕ
  pub direct : ℕ
  pub code : ℕ
  pub a : ℕ
  pub b : ℕ

-- An entry of a function's ABI: role 0 parameter, 1 result, 2 clobbered; and a unit.
pub record Abi : Type 0 where
  pub role : ℕ
  pub shape : ℕ
  pub storage : ℕ
  pub offset : ℕ

-- An operand: the number of its field, and a unit or an immediate.
pub record Operand : Type 0 where
  pub field : ℕ
  pub shape : ℕ
  pub storage : ℕ
  pub offset : ℕ

-- The records of kinds 0 to 9, in order.
pub data Rec : Type 0 where
  header : ℕ → ℕ → ℕ → Rec
  storage : Storage → Rec
  function : ℕ → Rec
  abi : Abi → Rec
  block : ℕ → Rec
  instruction : ℕ → ℕ → ℕ → Rec
  operand : Operand → Rec
  terminator : ℕ → ℕ → ℕ → Rec
  target : ℕ → Rec
  end : Rec

-- Numbers of two bytes have the low byte first.
unfoldable pub u8_at : List ℕ → ℕ → ℕ
u8_at t i = get_or t i 0

unfoldable pub u16_at : List ℕ → ℕ → ℕ
u16_at t i = get_or t i 0 + get_or t (i + 1) 0 * 256

-- The kind byte tells how long a record is: here with that byte, kinds 1 to 9; 0 for a number that is no kind.
unfoldable pub lengths : List ℕ
lengths = 0 ∷ 16 ∷ 2 ∷ 7 ∷ 3 ∷ 4 ∷ 7 ∷ 4 ∷ 3 ∷ 1 ∷ []

unfoldable pub length_of : Edition → ℕ → ℕ
length_of ed kind = pick (eqb kind ed.header) 7 (get_or lengths kind 0)

-- The record at the front of a tail, kind by kind.
unfoldable pub header_at : List ℕ → Rec
header_at t = header (u16_at t 1) (u16_at t 3) (u16_at t 5)

unfoldable pub storage_in : List ℕ → Storage
storage_in t =
    record {
      id = u16_at t 1;
      owner = u16_at t 3;
      kind = u8_at t 5;
      len = u16_at t 6;
      regions = u16_at t 8;
      direct = u8_at t 10;
      code = u8_at t 11;
      a = u16_at t 12;
      b = u16_at t 14;
    }

unfoldable pub abi_in : List ℕ → Abi
abi_in t = record { role = u8_at t 1; shape = u8_at t 2; storage = u16_at t 3; offset = u16_at t 5 }

unfoldable pub operand_in : List ℕ → Operand
operand_in t = record { field = u8_at t 1; shape = u8_at t 2; storage = u16_at t 3; offset = u16_at t 5 }

unfoldable pub instruction_at : List ℕ → Rec
instruction_at t = instruction (u8_at t 1) (u8_at t 2) (u8_at t 3)

unfoldable pub terminator_at : List ℕ → Rec
terminator_at t = terminator (u8_at t 1) (u8_at t 2) (u8_at t 3)

unfoldable pub record_at : Edition → List ℕ → Rec
record_at ed t =
    let kind = u8_at t 0 in
    pick (eqb kind ed.header) (header_at t)
    (pick (eqb kind 1) (storage (storage_in t))
    (pick (eqb kind 2) (function (u8_at t 1))
    (pick (eqb kind 3) (abi (abi_in t))
    (pick (eqb kind 4) (block (u16_at t 1))
    (pick (eqb kind 5) (instruction_at t)
    (pick (eqb kind 6) (operand (operand_in t))
    (pick (eqb kind 7) (terminator_at t)
    (pick (eqb kind 8) (target (u16_at t 1))
    end))))))))

-- What stands at the front of a tail: a whole record of a known kind, and its length, or not.
pub data Read : Type 0 where
  whole : ℕ → Rec → Read
  fault : Read

-- A kind byte is there, its kind is known, and the body is there to its end.
unfoldable pub present : Edition → List ℕ → Bool
present ed t = ltb 0 (length t) and (ltb 0 (length_of ed (u8_at t 0)) and leb (length_of ed (u8_at t 0)) (length t))

unfoldable pub read : Edition → List ℕ → Read
read ed t = pick (present ed t) (whole (length_of ed (u8_at t 0)) (record_at ed t)) fault

-- The header: 1 to 256 application bytes, the first free one at most that, at most 512 work bytes.
unfoldable pub header_fits : ℕ → ℕ → ℕ → Bool
header_fits a f w = ltb 0 a and (leb a 256 and (leb f a and leb w 512))

-- The fixed codes, in the order of PhysicalPlacement (0 is none), with the greatest a and the greatest b of each; a number that a code does not use is 0.
-- 0 none, 1 Accumulator, 2 CarryFlag, 3 ApplicationRam, 4 ApplicationBit, 5 ShadowStack, 6 ShadowStackBit,
-- 7 WorkRamBit, 8 SpecialRegister, 9 IndirectRegister, 10 WorkRam, 11 Flash, 12 XRam
unfoldable pub greatest_a : List ℕ
greatest_a = 0 ∷ 0 ∷ 0 ∷ 255 ∷ 255 ∷ 511 ∷ 511 ∷ 511 ∷ 5 ∷ 255 ∷ 511 ∷ 0 ∷ 255 ∷ []

unfoldable pub greatest_b : List ℕ
greatest_b = 0 ∷ 0 ∷ 0 ∷ 0 ∷ 7 ∷ 0 ∷ 7 ∷ 7 ∷ 0 ∷ 3 ∷ 0 ∷ 0 ∷ 255 ∷ []

unfoldable pub fixed_fits : ℕ → ℕ → ℕ → Bool
fixed_fits code a b = ltb code 13 and (leb a (get_or greatest_a code 0) and leb b (get_or greatest_b code 0))

-- The owner is a function's number, whether or not such a function stands in the file, or 65535 for the program.
unfoldable pub owner_fits : ℕ → Bool
owner_fits owner = pick (eqb owner 65535) true (ltb owner 256)

-- Kind 0 is a bit, 1 a byte, 2 bytes, 3 the carry; only bytes have a length other than 1, and it is not 0.
unfoldable pub kind_fits : ℕ → ℕ → Bool
kind_fits kind len = ltb kind 4 and pick (eqb kind 2) (ltb 0 len) (eqb len 1)

-- Nine regions, in the order of StorageRegion, a bit each; direct is a flag.
unfoldable pub storage_fits : Edition → Storage → Bool
storage_fits ed x =
    leb x.id ed.last_id
    and (owner_fits x.owner
    and (kind_fits x.kind x.len
    and (ltb x.regions 512 and (ltb x.direct 2 and fixed_fits x.code x.a x.b))))

-- Parameters and results are lanes or bits, clobbered things are objects; only a lane has an offset.
unfoldable pub abi_fits : Abi → Bool
abi_fits x =
    pick (ltb x.role 2)
    (pick (eqb x.shape 1) true (eqb x.shape 2 and eqb x.offset 0))
    (eqb x.role 2 and (eqb x.shape 3 and eqb x.offset 0))

-- A unit as one number: offset, storage above it, shape on top.
unfoldable pub word_of : Edition → ℕ → ℕ → ℕ → ℕ
word_of ed shape id offset = shape * ed.shape + id * ed.storage + offset
