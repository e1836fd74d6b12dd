-- Document 01, "Placement": the room that a placement takes in memory, and the bits that a placed storage touches. A bit code touches its bit only.
use Rattle.std.specs.Prelude.{Bool, true, false, ◌&&◌, ℕ, ◌+◌, ltb, leb, eqb}
use Rattle.storages.specs.declared.Placement.{Placement}
use Rattle.storages.specs.declared.Placement.TheVariants.{Accumulator, CarryFlag, ApplicationRam, ApplicationBit, ShadowStack, ShadowStackBit, WorkRamBit, SpecialRegister, IndirectRegister, WorkRam, Flash, XRam}
use Rattle.storages.specs.declared.Storage.{Storage}
use Rattle.storages.specs.declared.Space.{Space}
use Rattle.storages.specs.declared.Space.TheVariants.{App, Work}
use Rattle.storages.specs.declared.Room.{Room}
use Rattle.storages.specs.declared.Room.TheVariants.{Nowhere, Bytes, OneBit}

-- Shadow and work places lie in one space. What is no RAM takes no room.
abbrev pub room : ℕ → Placement → Room
room n Accumulator = Nowhere
room n CarryFlag = Nowhere
room n (ApplicationRam o) = Bytes App o n
room n (ApplicationBit o b) = OneBit App o b
room n (ShadowStack o) = Bytes Work o n
room n (ShadowStackBit o b) = OneBit Work o b
room n (WorkRamBit o b) = OneBit Work o b
room n (SpecialRegister k) = Nowhere
room n (IndirectRegister k r) = Nowhere
room n (WorkRam o) = Bytes Work o n
room n Flash = Nowhere
room n (XRam k o) = Nowhere

abbrev pub same : Space → Space → Bool
same App App = true
same App Work = false
same Work App = false
same Work Work = true

-- Bit k of byte i of a space lies in a room.
unfoldable pub within : Room → Space → ℕ → ℕ → Bool
within Nowhere sp i k = false
within (Bytes q o n) sp i k = same q sp && (leb o i && (ltb i (o + n) && ltb k 8))
within (OneBit q o b) sp i k = same q sp && (eqb i o && eqb k b)

-- A storage at a placement touches bit k of byte i of a space.
unfoldable pub touches : Storage → Placement → Space → ℕ → ℕ → Bool
touches s p sp i k = within (room s.len p) sp i k
