-- Document 01, "The program file" (fixed codes) and "Placement" (results): the twelve placements by their codes, with the numbers a and b of each, and the
-- regions in which they lie.
use Rattle.std.specs.Prelude.{ℕ, eqb, Option, Some, None}
use Rattle.fields.specs.Pick.{pick}
use Rattle.storages.specs.declared.Placement.{Placement}
use Rattle.storages.specs.declared.Placement.TheVariants.{Accumulator, CarryFlag, ApplicationRam, ApplicationBit, ShadowStack, ShadowStackBit, WorkRamBit, SpecialRegister, IndirectRegister, WorkRam, Flash, XRam}

-- Codes 1 to 12, in the order of PhysicalPlacement.
abbrev pub code_of : Placement → ℕ
code_of Accumulator = 1
code_of CarryFlag = 2
code_of (ApplicationRam o) = 3
code_of (ApplicationBit o b) = 4
code_of (ShadowStack o) = 5
code_of (ShadowStackBit o b) = 6
code_of (WorkRamBit o b) = 7
code_of (SpecialRegister n) = 8
code_of (IndirectRegister k r) = 9
code_of (WorkRam o) = 10
code_of Flash = 11
code_of (XRam k o) = 12

-- The first number of a placement: an offset, a register or a bank; 0 where it has none.
abbrev pub a_of : Placement → ℕ
a_of Accumulator = 0
a_of CarryFlag = 0
a_of (ApplicationRam o) = o
a_of (ApplicationBit o b) = o
a_of (ShadowStack o) = o
a_of (ShadowStackBit o b) = o
a_of (WorkRamBit o b) = o
a_of (SpecialRegister n) = n
a_of (IndirectRegister k r) = k
a_of (WorkRam o) = o
a_of Flash = 0
a_of (XRam k o) = k

-- The second: a bit, a register in its bank, or an offset in its bank; 0 where it has none.
abbrev pub b_of : Placement → ℕ
b_of Accumulator = 0
b_of CarryFlag = 0
b_of (ApplicationRam o) = 0
b_of (ApplicationBit o b) = b
b_of (ShadowStack o) = 0
b_of (ShadowStackBit o b) = b
b_of (WorkRamBit o b) = b
b_of (SpecialRegister n) = 0
b_of (IndirectRegister k r) = r
b_of (WorkRam o) = 0
b_of Flash = 0
b_of (XRam k o) = o

-- What a storage record's fixed code and its two numbers say; code 0 fixes nothing, and an accepted file has no code above 12.
unfoldable pub fixed_at : ℕ → ℕ → ℕ → Option Placement
fixed_at code a b =
    pick (eqb code 1) (Some Accumulator)
    (pick (eqb code 2) (Some CarryFlag)
    (pick (eqb code 3) (Some (ApplicationRam a))
    (pick (eqb code 4) (Some (ApplicationBit a b))
    (pick (eqb code 5) (Some (ShadowStack a))
    (pick (eqb code 6) (Some (ShadowStackBit a b))
    (pick (eqb code 7) (Some (WorkRamBit a b))
    (pick (eqb code 8) (Some (SpecialRegister a))
    (pick (eqb code 9) (Some (IndirectRegister a b))
    (pick (eqb code 10) (Some (WorkRam a))
    (pick (eqb code 11) (Some Flash)
    (pick (eqb code 12) (Some (XRam a b))
    None)))))))))))

-- The region of a placement, by its number in StorageRegion: the bit of the mask that allows it.
abbrev pub region_of : Placement → ℕ
region_of Accumulator = 0
region_of CarryFlag = 1
region_of (ApplicationRam o) = 2
region_of (ApplicationBit o b) = 2
region_of (ShadowStack o) = 5
region_of (ShadowStackBit o b) = 5
region_of (WorkRamBit o b) = 6
region_of (SpecialRegister n) = 3
region_of (IndirectRegister k r) = 4
region_of (WorkRam o) = 6
region_of Flash = 7
region_of (XRam k o) = 8
