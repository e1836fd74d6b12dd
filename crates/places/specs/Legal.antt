-- What is promised of a placing (mission, demand 3): of one storage at its placement, and of two that touch a common bit.
use Rattle.std.specs.Prelude.{◌≡◌, Bool, not, List, [], ◌∷◌, ℕ, ◌+◌, ◌≤◌, ◌<◌, T, eqb, Option, Some, None}
use Rattle.fields.specs.Pick.{pick, ◌and◌, ◌or◌, All}
use Rattle.storages.specs.declared.Placement.{Placement}
use Rattle.storages.specs.declared.Storage.{Storage}
use Rattle.storages.specs.declared.Space.{Space}
use Rattle.storages.specs.declared.Space.TheVariants.{App, Work}
use Rattle.storages.specs.declared.Room.{Room}
use Rattle.storages.specs.declared.Room.TheVariants.{Nowhere, Bytes, OneBit}
use Rattle.storages.specs.Placement.{code_of, region_of}
use Rattle.storages.specs.Storage.{a_carry, the_program, allows, is_bit, kind_matches}
use Rattle.storages.specs.Room.{room, within, touches}
use Rattle.places.specs.Place.{Given, Placed}

-- An unfixed storage sits as RAM of the right form, as Flash if it holds bytes, or as CarryFlag if it is Carry: the codes for its kind.
unfoldable pub right_form : ℕ → ℕ → Bool
right_form kind c =
    pick (is_bit kind)
    ((eqb c 4 or (eqb c 6 or eqb c 7)) or (eqb kind a_carry and eqb c 2))
    ((eqb c 3 or eqb c 5) or (eqb c 10 or eqb c 11))

-- An unfixed storage sits in an allowed region in the right form; a fixed one at its fixed place, and kinds match.
abbrev pub LegalBy : Storage → Placement → Option Placement → Type 0
LegalBy s p None = T (allows s (region_of p)) × T (right_form s.kind (code_of p))
LegalBy s p (Some q) = (p ≡ q) × T (kind_matches s.kind s.len (code_of p))

abbrev pub Legal : Storage → Placement → Type 0
Legal s p = LegalBy s p s.fixed

-- A room lies inside A or W, and its bit is one of eight.
abbrev pub size_of : Space → ℕ → ℕ → ℕ
size_of App a w = a
size_of Work a w = w

abbrev pub Inside : ℕ → ℕ → Room → Type 0
Inside a w Nowhere = Unit {0}
Inside a w (Bytes sp o n) = o + n ≤ size_of sp a w
Inside a w (OneBit sp o k) = (o < size_of sp a w) × (k < 8)

-- No bit of it lies in application RAM below F.
abbrev pub OffLow : ℕ → Room → Type 0
OffLow f r = (i k : ℕ) → T (within r App i k) → f ≤ i

-- Its bit is one of a byte's: an accepted file fixes no other.
abbrev pub Small : Room → Type 0
Small Nowhere = Unit {0}
Small (Bytes sp o n) = Unit {0}
Small (OneBit sp o k) = k < 8

abbrev pub FixedSmall : ℕ → Option Placement → Type 0
FixedSmall n None = Unit {0}
FixedSmall n (Some p) = Small (room n p)

-- What two storages must be to touch a common bit: s is the earlier one in the file, t the later.
pub record Sharing (g : Given) (s t : Storage) : Type 0 where
  pub free_s : s.fixed ≡ None
  pub free_t : t.fixed ≡ None
  pub owners : s.owner ≡ t.owner
  pub owned : ¬ (t.owner ≡ the_program)
  pub kinds : s.kind ≡ t.kind
  pub lengths : s.len ≡ t.len
  pub carry : ¬ (t.kind ≡ a_carry)
  pub apart : T (not (g.meets t.id s.id))

abbrev pub MayShare : Given → Placed → Placed → Type 0
MayShare g x y = (sp : Space) (i k : ℕ) → T (touches x.what x.spot sp i k) → T (touches y.what y.spot sp i k) → Sharing g x.what y.what

-- Of each two in a list, the earlier first.
abbrev pub Pairs : {A : Type 0} → (A → A → Type 0) → List A → Type 0
Pairs R [] = Unit {0}
Pairs R (x ∷ xs) = All (R x) xs × Pairs R xs

-- One storage at its place, for the header's A, F and W.
pub record Fine (a f w : ℕ) (x : Placed) : Type 0 where
  pub legal : Legal x.what x.spot
  pub inside : Inside a w (room x.what.len x.spot)
  pub off : OffLow f (room x.what.len x.spot)
