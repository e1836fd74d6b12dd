-- Document 01, "The program file" (storage) and "Placement": a storage as a value, and what its kind, owner and regions let it do.
use Rattle.std.specs.Prelude.{Bool, true, false, not, ℕ, leb, eqb, Option, Some, None}
use Rattle.rows.specs.Row.{bit}
use Rattle.fields.specs.Pick.{pick, ◌and◌, ◌or◌}
use Rattle.fields.specs.Record as R
use Rattle.storages.specs.declared.Placement.{Placement}
use Rattle.storages.specs.declared.Placement.TheVariants.{Accumulator, CarryFlag, ApplicationRam, ApplicationBit, ShadowStack, ShadowStackBit, WorkRamBit, SpecialRegister, IndirectRegister, WorkRam, Flash, XRam}
use Rattle.storages.specs.declared.Storage.{Storage}
use Rattle.storages.specs.Placement.{fixed_at}

-- The four kinds by their numbers, the owner number that means the program, and the regions that placing looks for by name.
abbrev pub a_bit : ℕ
a_bit = 0

abbrev pub a_byte : ℕ
a_byte = 1

abbrev pub some_bytes : ℕ
some_bytes = 2

abbrev pub a_carry : ℕ
a_carry = 3

abbrev pub the_program : ℕ
the_program = 65535

abbrev pub carry_flag : ℕ
carry_flag = 1

abbrev pub application : ℕ
application = 2

abbrev pub shadow : ℕ
shadow = 5

abbrev pub work : ℕ
work = 6

abbrev pub flash : ℕ
flash = 7

-- A storage record as a value, with its fixed place as a choice inside it.
unfoldable pub stored : R.Storage → Storage
stored x =
    record {
      id = x.id;
      owner = x.owner;
      kind = x.kind;
      len = x.len;
      regions = x.regions;
      direct = eqb x.direct 1;
      fixed = fixed_at x.code x.a x.b;
    }

-- A storage allows a region.
unfoldable pub allows : Storage → ℕ → Bool
allows s r = bit s.regions r

abbrev pub is_free : Option Placement → Bool
is_free None = true
is_free (Some p) = false

-- Bits and carries take one bit, bytes of either kind whole bytes.
unfoldable pub is_bit : ℕ → Bool
is_bit kind = eqb kind a_bit or eqb kind a_carry

-- Who may share a slot: a storage that is not fixed, is owned by a function and is no Carry.
unfoldable pub tries : Storage → Bool
tries s = is_free s.fixed and (not (eqb s.owner the_program) and not (eqb s.kind a_carry))

-- The codes that hold one bit; those that hold a stretch of bytes.
unfoldable pub bit_code : ℕ → Bool
bit_code c = eqb c 2 or (eqb c 4 or (eqb c 6 or eqb c 7))

unfoldable pub bytes_code : ℕ → Bool
bytes_code c = eqb c 3 or (eqb c 5 or leb 10 c)

-- The codes at which a storage may be fixed: the bit codes for Bit and Carry, all others for Byte; for Bytes those of a stretch, and any code where there is
-- just one byte.
unfoldable pub kind_matches : ℕ → ℕ → ℕ → Bool
kind_matches kind n c =
    pick (is_bit kind) (bit_code c)
    (pick (eqb kind a_byte) (not (bit_code c))
    (eqb n 1 or bytes_code c))

-- XRam holds one byte only.
abbrev pub alone : ℕ → Placement → Bool
alone n Accumulator = true
alone n CarryFlag = true
alone n (ApplicationRam o) = true
alone n (ApplicationBit o b) = true
alone n (ShadowStack o) = true
alone n (ShadowStackBit o b) = true
alone n (WorkRamBit o b) = true
alone n (SpecialRegister k) = true
alone n (IndirectRegister k r) = true
alone n (WorkRam o) = true
alone n Flash = true
alone n (XRam k o) = eqb n 1
