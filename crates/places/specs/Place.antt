-- Document 01, "Placement": storages are placed in file order, each in the first slot that it may join or at a place of its own; the first refusal stands.
use Rattle.std.specs.Prelude.{Bool, not, List, [], ◌∷◌, ◌++◌, ℕ, ◌/◌, ◌%◌, min, max, ltb, eqb, length, get_or, set, Option, Some, None, Result, Ok, Err}
use Rattle.fields.specs.Pick.{pick, ◌and◌, ◌or◌}
use Rattle.records.specs.declared.Refusal.{Refusal}
use Rattle.records.specs.declared.Refusal.TheVariants.{ApplicationFull, WorkFull, NoPlace, BadFixed, Conflict, Misfit}
use Rattle.storages.specs.declared.Placement.{Placement}
use Rattle.storages.specs.declared.Placement.TheVariants.{CarryFlag, ApplicationRam, ApplicationBit, ShadowStack, ShadowStackBit, WorkRamBit, WorkRam, Flash}
use Rattle.storages.specs.declared.Storage.{Storage}
use Rattle.storages.specs.Placement.{code_of, a_of, b_of}
use Rattle.storages.specs.Storage.{a_carry, carry_flag, application, shadow, work, flash, allows, is_bit, tries, kind_matches, alone}
use Rattle.storages.specs.Room.{room}
use Rattle.units.specs.Sets.{any}
use Rattle.maps.specs.Maps.{later, first_window, high_bit}
use Rattle.slots.specs.declared.Slot.{Slot}
use Rattle.slots.specs.Slots.{no_slot, suits, opened}
use Rattle.places.specs.Memory.{Maps, fresh, clear_room, reserve}

-- What placing is given besides the storages: which storages interfere, which ordered pairs are copies (smaller id first), and the bytes of application RAM
-- that the search for a bit looks through, lo to hi - 1 (today all of them: 0 and A).
pub record Given : Type 0 where
  pub meets : ℕ → ℕ → Bool
  pub copies : ℕ → ℕ → Bool
  pub lo : ℕ
  pub hi : ℕ

-- ---- Slots

-- A slot with its members, the ids of the storages that lie there.
pub record Opened : Type 0 where
  pub slot : Slot
  pub members : List ℕ

abbrev pub no_opened : Opened
no_opened = record { slot = no_slot; members = [] }

-- A slot fits a storage that it suits and that interferes with no member.
unfoldable pub fits : Given → Storage → Opened → Bool
fits g s t = suits s t.slot and not (any (g.meets s.id) t.members)

-- A copy pair joins the storage to a member; pairs are kept with the smaller id first.
unfoldable pub partners : Given → Storage → Opened → Bool
partners g s t = any (λ m. g.copies (min s.id m) (max s.id m)) t.members

abbrev pub fits_copied : Given → Storage → Opened → Bool
fits_copied g s t = fits g s t and partners g s t

-- The number of the first slot that passes a test.
unfoldable pub first_slot : (Opened → Bool) → List Opened → Option ℕ
first_slot p [] = None
first_slot p (t ∷ ts) = let rest = later (first_slot p ts) in pick (p t) (Some 0) rest

abbrev pub or_else : Option ℕ → Option ℕ → Option ℕ
or_else None y = y
or_else (Some k) y = Some k

-- Of the slots that fit, in opening order, the first that holds a copy partner; where none does, the first.
unfoldable pub slot_for : Given → Storage → List Opened → Option ℕ
slot_for g s ts =
    let first = first_slot (fits g s) ts in
    let found = or_else (first_slot (fits_copied g s) ts) first in
    pick (tries s) found None

abbrev pub joined : ℕ → Opened → Opened
joined i t = record { slot = t.slot; members = t.members ++ (i ∷ []) }

-- ---- Fixed placements

-- 11 where the kind does not match the code, then 12 where the room is not free or holds one byte only.
unfoldable pub choose_fixed : Storage → Placement → Maps → Result Placement Refusal
choose_fixed s p m =
    pick (kind_matches s.kind s.len (code_of p))
    (pick (clear_room m (room s.len p) and alone s.len p) (Ok p) (Err (Conflict s.id)))
    (Err (BadFixed s.id))

-- ---- Unfixed placements

-- A found bit over 7 and a found work offset over 511 fit no placement: 13. No search finds one (crates/allocator/proofs/Refusals.antt).
unfoldable pub fitted : ℕ → ℕ → ℕ → Placement → Result Placement Refusal
fitted id o k p = pick (ltb 7 k) (Err (Misfit id)) (pick (ltb 511 o) (Err (Misfit id)) (Ok p))

-- What is found in the work map is named a shadow place where shadow is allowed, else a work place. Nothing found is 9, with value 1 for a bit.
abbrev pub name_bit : Storage → Option (ℕ × ℕ) → Result Placement Refusal
name_bit s None = Err (WorkFull 1)
name_bit s (Some (o, k)) = fitted s.id o k (pick (allows s shadow) (ShadowStackBit o k) (WorkRamBit o k))

abbrev pub name_bytes : Storage → Option ℕ → Result Placement Refusal
name_bytes s None = Err (WorkFull s.len)
name_bytes s (Some o) = fitted s.id o 0 (pick (allows s shadow) (ShadowStack o) (WorkRam o))

-- After application RAM a bit tries the work map, where shadow or work is allowed; where neither is, no region is left: 10.
unfoldable pub work_bit : Storage → List ℕ → Result Placement Refusal
work_bit s wrk =
    let found = name_bit s (high_bit 0 (length wrk) wrk) in
    pick (allows s shadow or allows s work) found (Err (NoPlace s.id))

abbrev pub app_bit : Storage → Option (ℕ × ℕ) → List ℕ → Result Placement Refusal
app_bit s None wrk = work_bit s wrk
app_bit s (Some (o, k)) wrk = fitted s.id 0 k (ApplicationBit o k)

-- A bit takes application RAM first, where that is allowed and has a clear bit. Whether it must be direct makes no difference.
unfoldable pub choose_bit : Given → Storage → Maps → Result Placement Refusal
choose_bit g s m =
    let found = app_bit s (high_bit g.lo g.hi m.app) m.wrk in
    let rest = work_bit s m.wrk in
    pick (allows s application) found rest

-- After application RAM bytes take Flash, where allowed, then the first clear window of the work map, under the same conditions and names as a bit.
unfoldable pub work_bytes : Storage → List ℕ → Result Placement Refusal
work_bytes s wrk =
    let found = name_bytes s (first_window s.len wrk) in
    pick (allows s flash) (Ok Flash) (pick (allows s shadow or allows s work) found (Err (NoPlace s.id)))

-- Bytes that must be direct and find no window in application RAM are refused with 8; others try on.
abbrev pub app_bytes : Storage → Option ℕ → List ℕ → Result Placement Refusal
app_bytes s (Some o) wrk = Ok (ApplicationRam o)
app_bytes s None wrk = let rest = work_bytes s wrk in pick s.direct (Err (ApplicationFull s.len)) rest

-- Bytes take the first clear window of application RAM, where that is allowed.
unfoldable pub choose_bytes : Storage → Maps → Result Placement Refusal
choose_bytes s m =
    let found = app_bytes s (first_window s.len m.app) m.wrk in
    let rest = work_bytes s m.wrk in
    pick (allows s application) found rest

-- An unfixed Carry sits in the carry flag where that is allowed, and takes no room; else it is placed as a bit.
unfoldable pub choose_free : Given → Storage → Maps → Result Placement Refusal
choose_free g s m =
    let b = choose_bit g s m in
    let c = choose_bytes s m in
    pick (eqb s.kind a_carry and allows s carry_flag) (Ok CarryFlag) (pick (is_bit s.kind) b c)

abbrev pub choose_by : Given → Storage → Maps → Option Placement → Result Placement Refusal
choose_by g s m None = choose_free g s m
choose_by g s m (Some p) = choose_fixed s p m

unfoldable pub choose : Given → Storage → Maps → Result Placement Refusal
choose g s m = choose_by g s m s.fixed

-- ---- Placing all

-- A storage, where it was placed, and the number of the slot that it is a member of.
pub record Placed : Type 0 where
  pub what : Storage
  pub spot : Placement
  pub slot : Option ℕ

-- The maps, the slots in opening order, and the storages placed so far, in file order.
pub record State : Type 0 where
  pub maps : Maps
  pub slots : List Opened
  pub placed : List Placed

-- What placing comes to: every storage placed, or the first refusal.
pub data Outcome : Type 0 where
  done : State → Outcome
  refused : Refusal → Outcome

abbrev pub placed_at : Storage → Placement → Option ℕ → List Placed → List Placed
placed_at s p n xs = xs ++ (record { what = s; spot = p; slot = n } ∷ [])

-- A storage that joins no slot takes a place of its own, whose room is reserved; one that looked for a slot opens one there. A refusal stands as it is.
abbrev pub take_room : Storage → State → Result Placement Refusal → Outcome
take_room s x (Err r) = refused r
take_room s x (Ok p) =
    done (record {
      maps = reserve (room s.len p) x.maps;
      slots = pick (tries s) (x.slots ++ (record { slot = opened s p; members = s.id ∷ [] } ∷ [])) x.slots;
      placed = placed_at s p (pick (tries s) (Some (length x.slots)) None) x.placed;
    })

-- Slot k takes the storage in; nothing is reserved anew.
abbrev pub join_slot : Storage → State → ℕ → State
join_slot s x k =
    let t : Opened = get_or x.slots k no_opened in
    record { maps = x.maps; slots = set x.slots k (joined s.id t); placed = placed_at s t.slot.placement (Some k) x.placed }

abbrev pub step_by : Given → Storage → State → Option ℕ → Outcome
step_by g s x (Some k) = done (join_slot s x k)
step_by g s x None = take_room s x (choose g s x.maps)

-- One storage.
unfoldable pub step : Given → Storage → State → Outcome
step g s x = step_by g s x (slot_for g s x.slots)

abbrev pub and_then : Outcome → (State → Outcome) → Outcome
and_then (done x) f = f x
and_then (refused r) f = refused r

-- All storages in file order; the first refusal stands.
unfoldable pub place_from : Given → List Storage → State → Outcome
place_from g [] x = done x
place_from g (s ∷ ss) x = and_then (step g s x) (λ y. place_from g ss y)

-- The state before the first storage, for the header's numbers A, F and W.
abbrev pub start : ℕ → ℕ → ℕ → State
start a f w = record { maps = fresh a f w; slots = []; placed = [] }

unfoldable pub place : Given → ℕ → ℕ → ℕ → List Storage → Outcome
place g a f w ss = place_from g ss (start a f w)

-- ---- Results

-- Kind 10, then id, code, a and b, low byte first: eight bytes for each storage, in file order.
abbrev pub u16 : ℕ → List ℕ
u16 n = n % 256 ∷ n / 256 % 256 ∷ []

abbrev pub record_at : ℕ → Placement → List ℕ
record_at id p = 10 ∷ u16 id ++ (code_of p ∷ u16 (a_of p) ++ u16 (b_of p))

abbrev pub record_of : Placed → List ℕ
record_of y = record_at y.what.id y.spot

unfoldable pub records_of : List Placed → List ℕ
records_of [] = []
records_of (y ∷ ys) = record_of y ++ records_of ys
