-- The members of a slot are the storages that carry its number, in file order: a storage that joins or opens a slot is put at the end of both lists, and
-- every other slot keeps its members. So code may keep the number with each storage and no lists of members.
use Rattle.std.specs.Prelude.{Option, Some, None, Result, Ok, Err}
use mathlib.Core.Path.{◌≡◌, refl, sym, ap, ◌∙◌}
use mathlib.Core.Bool.{Bool, true, false}
use mathlib.Core.List.{List, [], ◌∷◌, ◌++◌, append-nil}
use Prim.Native.Nat.{ℕ, ◌+◌, ◌≤◌, ◌<◌}
use native.Mathlib.Omega.{arith}
use native.Mathlib.Nat.{not-suc-le-zero}
use native.Mathlib.Decide.{ℕ_discrete, dec_lt}
use lib.ListN.{length, set, length-set, length-append, get_or-append}
use lib.Seq.{get_or-set_same, get_or-set_other, get_or-append_seam}
use borrow.Author.Tests.{eq-eqb, ne_eqb}
use Rattle.fields.specs.Pick.{pick, ◌and◌, ◌or◌, All}
use Rattle.storages.specs.declared.Placement.{Placement}
use Rattle.storages.specs.declared.Storage.{Storage}
use Rattle.storages.specs.Storage.{tries}
use Rattle.storages.specs.Room.{room}
use Rattle.units.specs.Sets.{any}
use Rattle.slots.specs.Slots.{opened}
use Rattle.places.specs.Memory.{Maps, reserve}
use Rattle.places.specs.Place.{Given, Opened, no_opened, joined, slot_for, choose, Placed, State, placed_at, take_room, join_slot, step_by, step, start}
use Rattle.turns.specs.Held.{in_slot, ids_in, SlotBelow, Numbered, key_of, slot_key, Keyed}
use Rattle.places.proofs.Tests.{all_snoc, all_map, all_map₂}
use Rattle.turns.proofs.Joining.{slot_at, SlotFor, slot_for_lem}
use Rattle.turns.proofs.Turns.{After}
use Rattle.records.specs.declared.Refusal.{Refusal}

-- ---- The list of one slot

ids_snoc : (j : ℕ) (ys : List Placed) (y : Placed) → ids_in j (ys ++ (y ∷ [])) ≡ ids_in j ys ++ pick (in_slot j y.slot) (y.what.id ∷ []) []
unfolding ids_in pick
ids_snoc j [] y = refl
ids_snoc j (z ∷ ys) y = go (in_slot j z.slot) (ids_snoc j ys y)
  where
    go : (b : Bool) → ids_in j (ys ++ (y ∷ [])) ≡ ids_in j ys ++ pick (in_slot j y.slot) (y.what.id ∷ []) []
        → pick b (z.what.id ∷ ids_in j (ys ++ (y ∷ []))) (ids_in j (ys ++ (y ∷ []))) ≡ pick b (z.what.id ∷ ids_in j ys) (ids_in j ys) ++ pick (in_slot j y.slot) (y.what.id ∷ []) []
    go true ih = ap {B = List ℕ} (λ r. z.what.id ∷ r) ih
    go false ih = ih

ids_other : (j : ℕ) (ys : List Placed) (y : Placed) → in_slot j y.slot ≡ false → ids_in j (ys ++ (y ∷ [])) ≡ ids_in j ys
unfolding pick
ids_other j ys y e = ids_snoc j ys y ∙ ap {B = List ℕ} (λ b. ids_in j ys ++ pick b (y.what.id ∷ []) []) e ∙ append-nil (ids_in j ys)

ids_same : (j : ℕ) (ys : List Placed) (y : Placed) → in_slot j y.slot ≡ true → ids_in j (ys ++ (y ∷ [])) ≡ ids_in j ys ++ (y.what.id ∷ [])
unfolding pick
ids_same j ys y e = ids_snoc j ys y ∙ ap {B = List ℕ} (λ b. ids_in j ys ++ pick b (y.what.id ∷ []) []) e

-- A slot that is not there yet has none.
ids_none : (n : ℕ) (ys : List Placed) → All (λ y. SlotBelow n y.slot) ys → ids_in n ys ≡ []
unfolding ids_in pick
ids_none n [] h = refl
ids_none n (y ∷ ys) h = go y.slot h.0 (ids_none n ys h.1)
  where
    go : (r : Option ℕ) → SlotBelow n r → ids_in n ys ≡ [] → pick (in_slot n r) (y.what.id ∷ ids_in n ys) (ids_in n ys) ≡ []
    go None l e = e
    go (Some k) l e = ap {B = List ℕ} (λ b. pick b (y.what.id ∷ ids_in n ys) (ids_in n ys)) (ne_eqb k n (omega arith)) ∙ e

-- A test over the members of a slot is one over the storages placed so far.
pub any_ids : (p : ℕ → Bool) (j : ℕ) (ys : List Placed) → any p (ids_in j ys) ≡ any (λ y. in_slot j y.slot and p y.what.id) ys
unfolding any ids_in pick
any_ids p j [] = refl
any_ids p j (y ∷ ys) = go (in_slot j y.slot) (any_ids p j ys)
  where
    go : (b : Bool) → any p (ids_in j ys) ≡ any (λ z. in_slot j z.slot and p z.what.id) ys
        → any p (pick b (y.what.id ∷ ids_in j ys) (ids_in j ys)) ≡ ((b and p y.what.id) or any (λ z. in_slot j z.slot and p z.what.id) ys)
    go true ih = ap (λ (c : Bool). p y.what.id or c) ih
    go false ih = ih

-- ---- One storage more

below_more : (n m : ℕ) → n ≤ m → (y : Placed) → SlotBelow n y.slot → SlotBelow m y.slot
below_more n m l y = go y.slot
  where
    go : (r : Option ℕ) → SlotBelow n r → SlotBelow m r
    go None h = tt
    go (Some k) h = omega arith

abbrev pub AllKeyed : List Opened → List Placed → Type 0
AllKeyed ts ys = All (λ (y : Placed). Keyed ts y y.slot) ys

-- A storage keeps its slot's key where the slots keep theirs.
keyed_still : (ts us : List Opened) → ((k : ℕ) → k < length ts → slot_key (slot_at us k).slot ≡ slot_key (slot_at ts k).slot) → (y : Placed) → SlotBelow (length ts) y.slot
    → Keyed ts y y.slot → Keyed us y y.slot
keyed_still ts us e y = go y.slot
  where
    go : (r : Option ℕ) → SlotBelow (length ts) r → Keyed ts y r → Keyed us y r
    go None l h = tt
    go (Some k) l h = h ∙ sym (e k l)

module _ (s : Storage) (x : State) (h : Numbered x) where
  -- Numbers that lie below the count of slots stay below it when slots are added.
  numbers_snoc : (n : ℕ) (y : Placed) → length x.slots ≤ n → SlotBelow n y.slot → All (λ z. SlotBelow n z.slot) (x.placed ++ (y ∷ []))
  numbers_snoc n y l b =
      all_snoc (λ z. SlotBelow n z.slot) x.placed y
      (all_map (λ z. SlotBelow (length x.slots) z.slot) (λ z. SlotBelow n z.slot) x.placed (below_more (length x.slots) n l) h.numbers) b

  keyed_snoc : (us : List Opened) (y : Placed) → ((k : ℕ) → k < length x.slots → slot_key (slot_at us k).slot ≡ slot_key (slot_at x.slots k).slot) → Keyed us y y.slot
      → AllKeyed x.slots x.placed → AllKeyed us (x.placed ++ (y ∷ []))
  keyed_snoc us y e b o =
      all_snoc (λ z. Keyed us z z.slot) x.placed y
      (all_map₂ (λ z. SlotBelow (length x.slots) z.slot) (λ z. Keyed x.slots z z.slot) (λ z. Keyed us z z.slot) x.placed (keyed_still x.slots us e) h.numbers o) b

  module _ (k : ℕ) (l : k < length x.slots) where
    abbrev after : List Opened
    after = set x.slots k (joined s.id (slot_at x.slots k))

    abbrev member : Placed
    member = record { what = s; spot = (slot_at x.slots k).slot.placement; slot = Some k }

    joins_members : (j : ℕ) → j < length x.slots → (slot_at after j).members ≡ ids_in j (x.placed ++ (member ∷ []))
    joins_members j b = go (ℕ_discrete j k)
      where
        go : Dec (j ≡ k) → (slot_at after j).members ≡ ids_in j (x.placed ++ (member ∷ []))
        go (yes e) =
            rw (e, get_or-set_same x.slots k (joined s.id (slot_at x.slots k)) no_opened l)
            (ap {B = List ℕ} (λ r. r ++ (s.id ∷ [])) (h.members k l) ∙ sym (ids_same k x.placed member (eq-eqb k k refl)))
        go (no e) =
            rw (get_or-set_other x.slots k j (joined s.id (slot_at x.slots k)) no_opened e)
            (h.members j b ∙ sym (ids_other j x.placed member (ne_eqb k j (λ q. e (sym q)))))

    joins_filled : (j : ℕ) → j < length x.slots → 0 < length (slot_at after j).members
    joins_filled j b = go (ℕ_discrete j k)
      where
        go : Dec (j ≡ k) → 0 < length (slot_at after j).members
        go (yes e) = rw (e, get_or-set_same x.slots k (joined s.id (slot_at x.slots k)) no_opened l) (omega (arith, length-append (slot_at x.slots k).members (s.id ∷ [])))
        go (no e) = rw (get_or-set_other x.slots k j (joined s.id (slot_at x.slots k)) no_opened e) (h.filled j b)

    pub join_numbered : Numbered (join_slot s x k)
    join_numbered = let same : length after ≡ length x.slots = length-set x.slots k (joined s.id (slot_at x.slots k)) in
        record {
          members = λ j b. joins_members j (omega arith);
          filled = λ j b. joins_filled j (omega arith);
          numbers = numbers_snoc (length after) member (omega arith) (omega arith);
        }

    -- A slot that is joined keeps its key, and so does every other.
    after_key : (j : ℕ) → slot_key (slot_at after j).slot ≡ slot_key (slot_at x.slots j).slot
    after_key j = go (ℕ_discrete j k)
      where
        go : Dec (j ≡ k) → slot_key (slot_at after j).slot ≡ slot_key (slot_at x.slots j).slot
        go (yes e) = rw (e, get_or-set_same x.slots k (joined s.id (slot_at x.slots k)) no_opened l) refl
        go (no e) = rw (get_or-set_other x.slots k j (joined s.id (slot_at x.slots k)) no_opened e) refl

    pub join_keyed : slot_key (slot_at x.slots k).slot ≡ key_of s → AllKeyed x.slots x.placed → AllKeyed after (x.placed ++ (member ∷ []))
    join_keyed e = keyed_snoc after member (λ j b. after_key j) (sym e ∙ sym (after_key k))

  module _ (p : Placement) where
    abbrev own : Opened
    own = record { slot = opened s p; members = s.id ∷ [] }

    abbrev first : Placed
    first = record { what = s; spot = p; slot = Some (length x.slots) }

    opens_members : (j : ℕ) → j < length x.slots + 1 → (slot_at (x.slots ++ (own ∷ [])) j).members ≡ ids_in j (x.placed ++ (first ∷ []))
    opens_members j b = go (dec_lt j (length x.slots))
      where
        go : Dec (j < length x.slots) → (slot_at (x.slots ++ (own ∷ [])) j).members ≡ ids_in j (x.placed ++ (first ∷ []))
        go (yes l) =
            rw (get_or-append x.slots (own ∷ []) no_opened j l)
            (h.members j l ∙ sym (ids_other j x.placed first (ne_eqb (length x.slots) j (omega arith))))
        go (no l) = let e : j ≡ length x.slots = omega arith in
            rw (e, get_or-append_seam x.slots own [] no_opened)
            (sym (ids_same (length x.slots) x.placed first (eq-eqb (length x.slots) (length x.slots) refl)
            ∙ ap {B = List ℕ} (λ r. r ++ (s.id ∷ [])) (ids_none (length x.slots) x.placed h.numbers)))

    opens_filled : (j : ℕ) → j < length x.slots + 1 → 0 < length (slot_at (x.slots ++ (own ∷ [])) j).members
    opens_filled j b = go (dec_lt j (length x.slots))
      where
        go : Dec (j < length x.slots) → 0 < length (slot_at (x.slots ++ (own ∷ [])) j).members
        go (yes l) = rw (get_or-append x.slots (own ∷ []) no_opened j l) (h.filled j l)
        go (no l) = let e : j ≡ length x.slots = omega arith in rw (e, get_or-append_seam x.slots own [] no_opened) (omega arith)

    pub take_numbered : (m : Maps) (t : Bool)
        → Numbered (record { maps = m; slots = pick t (x.slots ++ (own ∷ [])) x.slots; placed = placed_at s p (pick t (Some (length x.slots)) None) x.placed })
    unfolding pick
    take_numbered m false =
        record {
          members = λ j l. h.members j l ∙ sym (ids_other j x.placed (record { what = s; spot = p; slot = None }) refl);
          filled = h.filled;
          numbers = numbers_snoc (length x.slots) (record { what = s; spot = p; slot = None }) (omega arith) tt;
        }
    take_numbered m true = let more : length (x.slots ++ (own ∷ [])) ≡ length x.slots + 1 = length-append x.slots (own ∷ []) in
        record {
          members = λ j b. opens_members j (omega arith);
          filled = λ j b. opens_filled j (omega arith);
          numbers = numbers_snoc (length (x.slots ++ (own ∷ []))) first (omega arith) (omega arith);
        }

    pub take_keyed : (t : Bool) → AllKeyed x.slots x.placed
        → AllKeyed (pick t (x.slots ++ (own ∷ [])) x.slots) (placed_at s p (pick t (Some (length x.slots)) None) x.placed)
    unfolding pick
    take_keyed false = keyed_snoc x.slots (record { what = s; spot = p; slot = None }) (λ j b. refl) tt
    take_keyed true =
        keyed_snoc (x.slots ++ (own ∷ [])) first (λ j b. ap (λ (t : Opened). slot_key t.slot) (get_or-append x.slots (own ∷ []) no_opened j b))
        (sym (ap (λ (t : Opened). slot_key t.slot) (get_or-append_seam x.slots own [] no_opened)))

-- ---- A step, and the start

pub step_numbered : (g : Given) (s : Storage) (x : State) → Numbered x → After Numbered (step g s x)
unfolding step
step_numbered g s x h = by (slot_for g s x.slots) (slot_for_lem g s x.slots)
  where
    taken : (c : Result Placement Refusal) → After Numbered (take_room s x c)
    taken (Err r) = tt
    taken (Ok p) = take_numbered s x h p (reserve (room s.len p) x.maps) (tries s)

    by : (r : Option ℕ) → SlotFor g s x.slots r → After Numbered (step_by g s x r)
    by (Some k) q = join_numbered s x h k q.1
    by None q = taken (choose g s x.maps)

pub start_numbered : (a f w : ℕ) → Numbered (start a f w)
start_numbered a f w = record { members = λ j l. absurd (not-suc-le-zero l); filled = λ j l. absurd (not-suc-le-zero l); numbers = tt }
