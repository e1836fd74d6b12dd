-- Document 01, "Placement": slots. A slot has an owner, a kind and a length, and the placement that its members share.
use Rattle.std.specs.Prelude.{◌≡◌, Bool, true, false, not, List, ℕ, zero, suc, ◌+◌, ◌<◌, eqb, ltb, length, get_or, Option, Some, None}
use Rattle.rows.specs.Row.{bit, member_at}
use Rattle.fields.specs.Pick.{pick, ◌and◌, ◌or◌}
use Rattle.storages.specs.declared.Placement.{Placement}
use Rattle.storages.specs.declared.Placement.TheVariants.{Flash}
use Rattle.storages.specs.declared.Storage.{Storage}
use Rattle.storages.specs.Placement.{region_of}
use Rattle.storages.specs.Storage.{a_carry, the_program, application, allows}
use Rattle.slots.specs.declared.Slot.{Slot}

-- What stands where no slot is.
abbrev pub no_slot : Slot
no_slot = record { owner = the_program; kind = a_carry; len = 0; placement = Flash }

-- A slot suits a storage of its owner, kind and length, if it lies in a region that the storage allows, and in application RAM if the storage must be direct.
unfoldable pub suits : Storage → Slot → Bool
suits s t =
    eqb t.owner s.owner
    and (eqb t.kind s.kind
    and (eqb t.len s.len
    and (allows s (region_of t.placement) and (not s.direct or eqb (region_of t.placement) application))))

-- A slot passes that suits the storage and whose number stands in both rows.
unfoldable pub passes : Storage → List ℕ → List ℕ → ℕ → Slot → Bool
passes s free chosen i t = suits s t and (member_at free 0 i and member_at chosen 0 i)

-- Of n slots the number of the first that passes a test of its number and itself, or `found` where none does: the walk goes down, and the last word stands.
unfoldable pub first_of : (ℕ → Slot → Bool) → List Slot → ℕ → ℕ → ℕ
first_of p ts zero found = found
first_of p ts (suc i) found = first_of p ts i (pick (p i (get_or ts i no_slot)) i found)

-- The same as an answer: None where none passes.
unfoldable pub first_passing : (ℕ → Slot → Bool) → List Slot → ℕ → Option ℕ
first_passing p ts n = pick (ltb (first_of p ts n n) n) (Some (first_of p ts n n)) None

-- Of the numbers from `word` on a word marks some, number word + b by its bit b; a list's first slot has the number `base`. Of the slots whose bits lie below
-- bit b none that is marked suits a storage.
abbrev pub NoneMarked : Storage → List Slot → ℕ → ℕ → ℕ → ℕ → Type 0
NoneMarked s ts base word marks b =
    (j i : ℕ) → j < b → bit marks j ≡ true → base + i ≡ word + j → i < length ts → suits s (get_or ts i no_slot) ≡ false

-- The answer names the first that the word marks and that suits; or none of all 64 does.
abbrev pub FirstMarked : Storage → List Slot → ℕ → ℕ → ℕ → Option ℕ → Type 0
FirstMarked s ts base word marks None = NoneMarked s ts base word marks 64
FirstMarked s ts base word marks (Some i) =
    (b : ℕ) × (base + i ≡ word + b) × (b < 64) × (i < length ts) × (bit marks b ≡ true) × (suits s (get_or ts i no_slot) ≡ true) × NoneMarked s ts base word marks b

-- The slot that a storage opens at a placement.
abbrev pub opened : Storage → Placement → Slot
opened s p = record { owner = s.owner; kind = s.kind; len = s.len; placement = p }
