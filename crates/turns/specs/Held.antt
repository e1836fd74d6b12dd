-- What the placer holds while it goes through the storages, against the state that `places` defines: maps and slots as they are, of each placed storage its id,
-- its slot's number and a link to the one before it of the same key, and the result records so far.
use Rattle.std.specs.Prelude.{◌≡◌, Bool, true, false, List, [], ◌∷◌, map, ℕ, zero, suc, ◌+◌, ◌*◌, ◌%◌, ◌≤◌, ◌<◌, min, max, eqb, length, take, drop, get_or, set, Option, Some, None, Result, Ok, Err}
use Rattle.rows.specs.Row.{member_at}
use Rattle.rows.specs.Links.{Linked}
use Rattle.fields.specs.Pick.{pick, ◌and◌, ◌or◌, All}
use Rattle.records.specs.Outcome.{laid}
use Rattle.storages.specs.declared.Storage.{Storage}
use Rattle.slots.specs.declared.Slot.{Slot}
use Rattle.slots.specs.Slots.{opened}
use Rattle.places.specs.Place as P
use Rattle.storages.specs.declared.Placement.{Placement}
use Rattle.records.specs.declared.Refusal.{Refusal}

-- A storage that is in no slot has the number 256, which is no slot's.
abbrev pub slot_number : Option ℕ → ℕ
slot_number None = 256
slot_number (Some k) = k

abbrev pub in_slot : ℕ → Option ℕ → Bool
in_slot k None = false
in_slot k (Some j) = eqb j k

-- The ids of the storages in slot k, in file order.
unfoldable pub ids_in : ℕ → List P.Placed → List ℕ
ids_in k [] = []
ids_in k (y ∷ ys) = pick (in_slot k y.slot) (y.what.id ∷ ids_in k ys) (ids_in k ys)

abbrev pub SlotBelow : ℕ → Option ℕ → Type 0
SlotBelow n None = Unit {0}
SlotBelow n (Some k) = k < n

-- The members of a slot are the storages that carry its number, at least the one that opened it, and no storage carries a number that is no slot's.
pub record Numbered (x : P.State) : Type 0 where
  pub members : (k : ℕ) → k < length x.slots → (get_or x.slots k P.no_opened).members ≡ ids_in k x.placed
  pub filled : (k : ℕ) → k < length x.slots → 0 < length (get_or x.slots k P.no_opened).members
  pub numbers : All (λ (y : P.Placed). SlotBelow (length x.slots) y.slot) x.placed

-- Owner, kind and length make a key. There are so few keys that there is an entry for each.
unfoldable pub key_by : ℕ → ℕ → ℕ → ℕ
key_by owner kind len = (owner + kind * 64 + len * 8) % 256

abbrev pub key_of : Storage → ℕ
key_of s = key_by s.owner s.kind s.len

abbrev pub slot_key : Slot → ℕ
slot_key t = key_by t.owner t.kind t.len

-- A storage in a slot has the slot's key.
abbrev pub Keyed : List P.Opened → P.Placed → Option ℕ → Type 0
Keyed ts y None = Unit {0}
Keyed ts y (Some k) = key_of y.what ≡ slot_key (get_or ts k P.no_opened).slot

-- Graph and copies in their rows tell what placing is given, for ids below 256.
pub record Tells (g : P.Given) (graph copies : List ℕ) : Type 0 where
  pub meeting : (i j : ℕ) → i < 256 → j < 256 → member_at graph (i * 4) j ≡ g.meets i j
  pub copying : (i j : ℕ) → i < 256 → j < 256 → member_at copies (i * 4) j ≡ g.copies i j

-- The keys of the placed storages, in file order.
abbrev pub keys_of : List P.Placed → List ℕ
keys_of ys = map (λ (y : P.Placed). key_of y.what) ys

-- The first i placed storages are linked by their keys: `kin` has the entries of the storages, and from 256 on those of the keys.
abbrev pub KinLinked : List ℕ → List ℕ → ℕ → Type 0
KinLinked keys kin i = Linked keys (drop 256 kin) kin i

-- The links with the i-th storage, of key b: it leads to the one that was the last, and is the last itself.
abbrev pub linked_at : List ℕ → ℕ → ℕ → List ℕ
linked_at kin i b = set (set kin i (get_or kin (256 + b) 0)) (256 + b) (i + 1)

-- Of the first n placed storages, one has the key b, is in slot k and passes a test of its id.
unfoldable pub any_in : (ℕ → Bool) → ℕ → ℕ → List ℕ → List ℕ → List ℕ → ℕ → Bool
any_in p b k ids keys numbers zero = false
any_in p b k ids keys numbers (suc n) =
    (eqb (get_or keys n 0) b and (eqb (get_or numbers n 0) k and p (get_or ids n 0))) or any_in p b k ids keys numbers n

-- The rows of slots, once the placed storages of a key are gone through: with a member; with one that storage `id` meets; with a copy partner of it.
pub record Marked (graph copies : List ℕ) (id b : ℕ) (ids keys numbers : List ℕ) (n : ℕ) (seen barred partners : List ℕ) : Type 0 where
  pub seen_are : (k : ℕ) → k < 256 → member_at seen 0 k ≡ any_in (λ j. true) b k ids keys numbers n
  pub barred_are : (k : ℕ) → k < 256 → member_at barred 0 k ≡ any_in (λ j. member_at graph (id * 4) j) b k ids keys numbers n
  pub partners_are : (k : ℕ) → k < 256 → member_at partners 0 k ≡ any_in (λ j. member_at copies (min id j * 4) (max id j)) b k ids keys numbers n
  pub seen_four : length seen ≡ 4
  pub barred_four : length barred ≡ 4
  pub partners_four : length partners ≡ 4

-- The first n slots of the list, and of the i storages placed so far the ids, links and slot numbers, stand for a state's slots and members.
pub record Kept (x : P.State) (list : List Slot) (n : ℕ) (ids kin numbers : List ℕ) (i : ℕ) : Type 0 where
  pub many : n ≡ length x.slots
  pub slots_are : take n list ≡ map (λ (t : P.Opened). t.slot) x.slots
  pub count : i ≡ length x.placed
  pub ids_are : take i ids ≡ map (λ (y : P.Placed). y.what.id) x.placed
  pub linked : KinLinked (keys_of x.placed) kin i
  pub numbers_are : take i numbers ≡ map (λ (y : P.Placed). slot_number y.slot) x.placed
  pub numbered : Numbered x
  pub keyed : All (λ (y : P.Placed). Keyed x.slots y y.slot) x.placed
  pub low : (j : ℕ) → j < i → get_or ids j 0 < 256
  pub few : n ≤ i

-- With the maps and the result records so far, the placer's words stand for the whole state.
pub record Held (x : P.State) (app wrk : List ℕ) (list : List Slot) (n : ℕ) (ids kin numbers out : List ℕ) (i : ℕ) : Type 0 where
  pub app_is : app ≡ x.maps.app
  pub wrk_is : wrk ≡ x.maps.wrk
  pub kept : Kept x list n ids kin numbers i
  pub out_is : out ≡ laid 2048 (P.records_of x.placed) []

-- The list of slots after a storage, and how many they are: with the one that it opened, if it did.
abbrev pub list_after : List Slot → ℕ → Storage → Result (Option Placement) Refusal → List Slot
list_after list n s (Ok None) = list
list_after list n s (Ok (Some p)) = set list n (opened s p)
list_after list n s (Err r) = list

abbrev pub count_after : ℕ → Result (Option Placement) Refusal → ℕ
count_after n (Ok None) = n
count_after n (Ok (Some p)) = n + 1
count_after n (Err r) = n

-- What the placing of one storage leaves: the state that its step comes to, or the step's refusal.
abbrev pub TurnedBy : P.Outcome → Result (Option Placement) Refusal → List ℕ → List ℕ → List Slot → ℕ → List ℕ → List ℕ → List ℕ → List ℕ → ℕ → Type 0
TurnedBy o (Ok None) app wrk list n ids kin numbers out i = (y : P.State) × (o ≡ P.done y) × Held y app wrk list n ids kin numbers out i
TurnedBy o (Ok (Some p)) app wrk list n ids kin numbers out i = (y : P.State) × (o ≡ P.done y) × Held y app wrk list n ids kin numbers out i
TurnedBy o (Err r) app wrk list n ids kin numbers out i = o ≡ P.refused r
