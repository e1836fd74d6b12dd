-- What a loop over the storages needs of one turn. Placing the rest comes to what placing all comes to, since a step hands its state on; and a step adds one
-- placed storage and at most one slot, keeps the maps' lengths, and clears no byte.
use Rattle.std.specs.Prelude.{Option, Some, None, Result, Ok, Err}
use mathlib.Core.Path.{◌≡◌, refl, sym, ap, ◌∙◌}
use mathlib.Core.Bool.{Bool, true, false}
use mathlib.Core.List.{List, [], ◌∷◌, ◌++◌, append-nil, append_assoc}
use Prim.Native.Nat.{ℕ, ◌+◌, ◌*◌, ◌≤◌}
use native.Mathlib.Omega.{arith}
use lib.ListN.{length, length-append, length-set}
use Rattle.fields.specs.Pick.{pick, All}
use Rattle.records.specs.declared.Refusal.{Refusal}
use Rattle.storages.specs.declared.Storage.{Storage}
use Rattle.storages.specs.declared.Space.TheVariants.{App, Work}
use Rattle.storages.specs.Storage.{tries}
use Rattle.storages.specs.Room.{room}
use Rattle.slots.specs.Slots.{opened}
use Rattle.places.specs.declared.memory.Floor.{Floor}
use Rattle.places.specs.Memory.{Solid}
use Rattle.places.specs.Place.{Given, Opened, joined, slot_for, choose, Placed, State, Outcome, done, refused, placed_at, take_room, join_slot, step_by, step, and_then, place_from, record_of, records_of}
use Rattle.turns.proofs.Joining.{slot_at}
use Rattle.places.proofs.Rooms.{reserve_clear, reserve_length}
use Rattle.storages.specs.declared.Placement.{Placement}

-- What holds of the state that comes out; a refusal promises nothing.
abbrev pub After : (State → Type 0) → Outcome → Type 0
After P (done x) = P x
After P (refused r) = Unit {0}

-- A step either takes room or joins a slot: what both keep, a step keeps.
pub step_cases : (P : State → Type 0) (g : Given) (s : Storage) (x : State) → ((c : Result Placement Refusal) → After P (take_room s x c)) → ((k : ℕ) → P (join_slot s x k)) → After P (step g s x)
unfolding step
step_cases P g s x taken joins = go (slot_for g s x.slots)
  where
    go : (r : Option ℕ) → After P (step_by g s x r)
    go (Some k) = joins k
    go None = taken (choose g s x.maps)

-- What each storage's step keeps, placing keeps.
pub steps_keep : (P : State → Type 0) (Q : Storage → Type 0) (g : Given) → ((s : Storage) (x : State) → Q s → P x → After P (step g s x))
    → (ss : List Storage) → All Q ss → (x : State) → P x → After P (place_from g ss x)
unfolding place_from
steps_keep P Q g keeps [] q x h = h
steps_keep P Q g keeps (s ∷ ss) q x h = go (step g s x) (keeps s x q.0 h) (λ y. steps_keep P Q g keeps ss q.1 y)
  where
    go : (r : Outcome) → After P r → ((y : State) → P y → After P (place_from g ss y)) → After P (and_then r (λ y. place_from g ss y))
    go (done y) i f = f y i
    go (refused r) i f = tt

-- ---- The loop

pub place_next : (g : Given) (s : Storage) (ss : List Storage) (x y : State) → step g s x ≡ done y → place_from g (s ∷ ss) x ≡ place_from g ss y
unfolding place_from
place_next g s ss x y e = ap (λ (r : Outcome). and_then r (λ z. place_from g ss z)) e

pub place_refused : (g : Given) (s : Storage) (ss : List Storage) (x : State) (r : Refusal) → step g s x ≡ refused r → place_from g (s ∷ ss) x ≡ refused r
unfolding place_from
place_refused g s ss x r e = ap (λ (o : Outcome). and_then o (λ z. place_from g ss z)) e

-- ---- How much a step adds

one_more : (x : State) (y : Placed) → length (x.placed ++ (y ∷ [])) ≡ length x.placed + 1
one_more x y = length-append x.placed (y ∷ [])

-- No more slots than placed storages: for 256 storages 256 slots are enough.
abbrev pub Few : State → Type 0
Few x = length x.slots ≤ length x.placed

pub step_few : (g : Given) (s : Storage) (x : State) → Few x → After Few (step g s x)
unfolding pick
step_few g s x h = step_cases Few g s x taken joins
  where
    taken : (c : Result Placement Refusal) → After Few (take_room s x c)
    taken (Err r) = tt
    taken (Ok p) = go (tries s)
      where
        it : Opened
        it = record { slot = opened s p; members = s.id ∷ [] }

        go : (t : Bool) → length (pick t (x.slots ++ (it ∷ [])) x.slots) ≤ length (placed_at s p (pick t (Some (length x.slots)) None) x.placed)
        go true = omega (arith, one_more x (record { what = s; spot = p; slot = Some (length x.slots) }), length-append x.slots (it ∷ []))
        go false = omega (arith, one_more x (record { what = s; spot = p; slot = None }))

    joins : (k : ℕ) → Few (join_slot s x k)
    joins k = omega (arith, one_more x (record { what = s; spot = (slot_at x.slots k).slot.placement; slot = Some k }), length-set x.slots k (joined s.id (slot_at x.slots k)))

-- The maps stay as long as they are.
abbrev pub Sizes : ℕ → ℕ → State → Type 0
Sizes a w x = (length x.maps.app ≡ a) × (length x.maps.wrk ≡ w)

pub step_sizes : (g : Given) (a w : ℕ) (s : Storage) (x : State) → Sizes a w x → After (Sizes a w) (step g s x)
step_sizes g a w s x h = step_cases (Sizes a w) g s x taken (λ k. h)
  where
    taken : (c : Result Placement Refusal) → After (Sizes a w) (take_room s x c)
    taken (Err r) = tt
    taken (Ok p) = (reserve_length x.maps (room s.len p) App ∙ h.0, reserve_length x.maps (room s.len p) Work ∙ h.1)

-- What is taken stays taken, so that a floor stays one.
abbrev pub Over : Floor → State → Type 0
Over f x = Solid f x.maps.app x.maps.wrk

pub step_over : (g : Given) (f : Floor) (s : Storage) (x : State) → Over f x → After (Over f) (step g s x)
step_over g f s x h = step_cases (Over f) g s x taken (λ k. h)
  where
    taken : (c : Result Placement Refusal) → After (Over f) (take_room s x c)
    taken (Err r) = tt
    taken (Ok p) =
        (λ j l e. h.0 j l (reserve_clear x.maps (room s.len p) App j e), λ j l e. h.1 j l (reserve_clear x.maps (room s.len p) Work j e))

-- ---- Results

-- Eight bytes for each storage.
pub records_length : (ys : List Placed) → length (records_of ys) ≡ 8 * length ys
unfolding records_of
records_length [] = refl
records_length (y ∷ ys) = omega (arith, records_length ys)

pub records_snoc : (ys : List Placed) (y : Placed) → records_of (ys ++ (y ∷ [])) ≡ records_of ys ++ record_of y
unfolding records_of
records_snoc [] y = append-nil (record_of y)
records_snoc (z ∷ ys) y = ap (λ (r : List ℕ). record_of z ++ r) (records_snoc ys y) ∙ sym (append_assoc (record_of z) (records_of ys) (record_of y))
