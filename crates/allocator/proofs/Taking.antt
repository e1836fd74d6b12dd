-- A storage that takes room of its own keeps what every state keeps, and so does a step, and placing. The chosen room is clear and the maps cover all that is
-- placed, so the newcomer shares no bit with anything; and what it takes is covered afterwards.
use Rattle.std.specs.Prelude.{Option, Some, None, Result, Ok, Err}
use mathlib.Core.Path.{◌≡◌, refl, sym, ◌∙◌, subst}
use mathlib.Core.Bool.{Bool, true, false}
use mathlib.Core.List.{List, [], ◌∷◌, ◌++◌}
use Prim.Native.Nat.{ℕ, ◌<◌, ◌≤◌}
use native.Mathlib.Omega.{arith}
use native.Mathlib.Decide.{dec_lt}
use lib.Dec.{T, eqb, eqb_refl}
use lib.ListN.{length, length-append, get_or-append}
use lib.Seq.{get_or-append_seam}
use Rattle.rows.proofs.Tests.{T_yes}
use Rattle.fields.specs.Pick.{pick, All}
use Rattle.storages.specs.declared.Placement.{Placement}
use Rattle.storages.specs.declared.Storage.{Storage}
use Rattle.storages.specs.declared.Space.TheVariants.{App, Work}
use Rattle.storages.specs.declared.Room.{Room}
use Rattle.storages.specs.Placement.{code_of}
use Rattle.storages.specs.Storage.{tries}
use Rattle.storages.specs.Room.{room, touches}
use Rattle.slots.specs.Slots.{opened}
use Rattle.places.specs.Memory.{Maps, reserve}
use Rattle.places.specs.Place.{Given, Opened, no_opened, slot_for, choose, Placed, State, placed_at, take_room, step_by, step, place_from}
use Rattle.places.specs.Legal.{right_form, LegalBy, Inside, OffLow, FixedSmall, MayShare, Pairs, Fine}
use Rattle.places.proofs.Tests.{any_last, all_snoc, all_map, all_map₂, pairs_snoc}
use Rattle.places.proofs.Rooms.{held, small_bit, clear_inside, clear_free, reserve_keeps, reserve_takes, reserve_length}
use Rattle.turns.proofs.Joining.{slot_at, SlotFor, slot_for_lem, Tries, tries_out, fits_out}
use Rattle.turns.proofs.Turns.{After, steps_keep}
use Rattle.places.proofs.Choosing.{Good, Sits, choose_sits}
use Rattle.allocator.proofs.Keeping.{room_of, slot_room, Covers, Disjoint, Member, Known, KnownIn, SlotFine, Keeps, join_keeps}
use Rattle.records.specs.declared.Refusal.{Refusal}

module _ (g : Given) (a f w : ℕ) (s : Storage) (x : State) (h : Keeps g a f w x) (p : Placement) (num : Option ℕ) (c : Sits g s x.maps s.fixed p) where
  abbrev mine : Room
  mine = room s.len p

  abbrev after : Maps
  after = reserve mine x.maps

  abbrev new : Placed
  new = record { what = s; spot = p; slot = num }

  not_mine : (r : Room) → Covers x.maps r → Disjoint r mine
  not_mine r q sp i k t u = clear_free x.maps mine sp i k c.0 u (q sp i k t)

  still : (r : Room) → Covers x.maps r → Covers after r
  still r q sp i k t = reserve_keeps x.maps mine sp i k c.0 (q sp i k t)

  taken : Covers after mine
  taken sp i k t = reserve_takes x.maps mine sp i k c.0 t

  mine_off : OffLow f mine
  mine_off i k t = go (dec_lt i f)
    where
      go : Dec (i < f) → f ≤ i
      go (yes l) = absurd (clear_free x.maps mine App i k c.0 t (h.low i k l (small_bit mine c.1 App i k t)))
      go (no l) = omega arith

  mine_inside : Inside a w mine
  mine_inside = clear_inside x.maps mine a w h.app_size h.wrk_size c.0 c.1

  app_still : length after.app ≡ a
  app_still = reserve_length x.maps mine App ∙ h.app_size

  wrk_still : length after.wrk ≡ w
  wrk_still = reserve_length x.maps mine Work ∙ h.wrk_size

  low_still : (i k : ℕ) → i < f → k < 8 → T (held after App i k)
  low_still i k l b = reserve_keeps x.maps mine App i k c.0 (h.low i k l b)

  covered_all : All (λ y. Covers after (room_of y)) (x.placed ++ (new ∷ []))
  covered_all =
      all_snoc (λ y. Covers after (room_of y)) x.placed new
      (all_map (λ y. Covers x.maps (room_of y)) (λ y. Covers after (room_of y)) x.placed (λ y. still (room_of y)) h.covered) taken

  sharing_all : Pairs (MayShare g) (x.placed ++ (new ∷ []))
  unfolding touches
  sharing_all =
      pairs_snoc (MayShare g) x.placed new h.sharing
      (all_map (λ y. Covers x.maps (room_of y)) (λ y. MayShare g y new) x.placed (λ y q sp i k t u. absurd (not_mine (room_of y) q sp i k t u)) h.covered)

  fine_all : All (Fine a f w) (x.placed ++ (new ∷ []))
  fine_all = all_snoc (Fine a f w) x.placed new h.fine (record { legal = c.2; inside = mine_inside; off = mine_off })

  slots_know : KnownIn x.slots new
  slots_know j l sp i k t u = absurd (not_mine (slot_room (slot_at x.slots j)) (h.slot_covered j l) sp i k u t)

  -- ---- With the slots as they were

  single_keeps : Keeps g a f w (record { maps = after; slots = x.slots; placed = placed_at s p num x.placed })
  single_keeps =
      record {
        app_size = app_still;
        wrk_size = wrk_still;
        low = low_still;
        covered = covered_all;
        slot_covered = λ j l. still (slot_room (slot_at x.slots j)) (h.slot_covered j l);
        slots_apart = h.slots_apart;
        slot_fine = h.slot_fine;
        known = all_snoc (KnownIn x.slots) x.placed new h.known slots_know;
        sharing = sharing_all;
        fine = fine_all;
      }

  -- ---- With a slot opened

  module _ (tr : Tries s) where
    abbrev own : Opened
    own = record { slot = opened s p; members = s.id ∷ [] }

    abbrev more : List Opened
    more = x.slots ++ (own ∷ [])

    slot_snoc : (P : Opened → Type 0) (j : ℕ) → j < length more → (j < length x.slots → P (slot_at x.slots j)) → (j ≡ length x.slots → P own) → P (slot_at more j)
    slot_snoc P j l old fresh = go (dec_lt j (length x.slots))
      where
        go : Dec (j < length x.slots) → P (slot_at more j)
        go (yes b) = rw (get_or-append x.slots (own ∷ []) no_opened j b) (old b)
        go (no b) = let e : j ≡ length x.slots = omega (arith, length-append x.slots (own ∷ [])) in
            subst (λ (i : ℕ). P (slot_at more i)) (sym e) (rw (get_or-append_seam x.slots own [] no_opened) (fresh e))

    old_off : (j : ℕ) → j < length x.slots → Disjoint (slot_room (slot_at x.slots j)) mine
    old_off j l = not_mine (slot_room (slot_at x.slots j)) (h.slot_covered j l)

    apart_all_lem : (i j : ℕ) → i < length more → j < length more → ¬ (i ≡ j) → Disjoint (slot_room (slot_at more i)) (slot_room (slot_at more j))
    apart_all_lem i j li lj n =
        slot_snoc (λ t. Disjoint (slot_room t) (slot_room (slot_at more j))) i li
        (λ oi. slot_snoc (λ t. Disjoint (slot_room (slot_at x.slots i)) (slot_room t)) j lj (λ oj. h.slots_apart i j oi oj n) (λ _. old_off i oi))
        (λ ei. slot_snoc (λ t. Disjoint mine (slot_room t)) j lj (λ oj sp u k t v. old_off j oj sp u k v t) (λ ej. absurd (n (ei ∙ sym ej))))

    own_form : T (right_form s.kind (code_of p))
    own_form = (subst (LegalBy s p) tr.free c.2).1

    old_knows : (y : Placed) → Covers x.maps (room_of y) → KnownIn x.slots y → KnownIn more y
    old_knows y cv kn j l = slot_snoc (Known y) j l (kn j) (λ _ sp i k t u. absurd (not_mine (room_of y) cv sp i k t u))

    new_knows : KnownIn more new
    new_knows j l = slot_snoc (Known new) j l (slots_know j) (λ _ sp i k t u. member)
      where
        member : Member new own
        member = record { free = tr.free; owners = refl; kinds = refl; lengths = refl; listed = any_last (eqb s.id) [] s.id (eqb_refl s.id) }

    opened_keeps : Keeps g a f w (record { maps = after; slots = more; placed = placed_at s p num x.placed })
    opened_keeps =
        record {
          app_size = app_still;
          wrk_size = wrk_still;
          low = low_still;
          covered = covered_all;
          slot_covered = λ j l. slot_snoc (λ t. Covers after (slot_room t)) j l (λ b. still (slot_room (slot_at x.slots j)) (h.slot_covered j b)) (λ _. taken);
          slots_apart = apart_all_lem;
          slot_fine = λ j l. slot_snoc (SlotFine a f w) j l (λ b. h.slot_fine j b) (λ _. record { form = own_form; inside = mine_inside; off = mine_off });
          known = all_snoc (KnownIn more) x.placed new
              (all_map₂ (λ y. Covers x.maps (room_of y)) (KnownIn x.slots) (KnownIn more) x.placed old_knows h.covered h.known) new_knows;
          sharing = sharing_all;
          fine = fine_all;
        }

-- ---- A step, and placing

pub step_keeps : (g : Given) (a f w : ℕ) (s : Storage) (x : State) → g.hi ≤ a → FixedSmall s.len s.fixed → Keeps g a f w x → After (Keeps g a f w) (step g s x)
unfolding step pick
step_keeps g a f w s x l b h = by (slot_for g s x.slots) (slot_for_lem g s x.slots)
  where
    takes : (r : Result Placement Refusal) → Good (Sits g s x.maps s.fixed) r → After (Keeps g a f w) (take_room s x r)
    takes (Err r) c = tt
    takes (Ok p) c = go (tries s) refl
      where
        own : Opened
        own = record { slot = opened s p; members = s.id ∷ [] }

        go : (t : Bool) → tries s ≡ t
            → Keeps g a f w (record { maps = reserve (room s.len p) x.maps; slots = pick t (x.slots ++ (own ∷ [])) x.slots; placed = placed_at s p (pick t (Some (length x.slots)) None) x.placed })
        go true e = opened_keeps g a f w s x h p (Some (length x.slots)) c (tries_out s (T_yes e))
        go false e = single_keeps g a f w s x h p None c

    by : (r : Option ℕ) → SlotFor g s x.slots r → After (Keeps g a f w) (step_by g s x r)
    by (Some k) q = join_keeps g a f w s x h k q.1 (tries_out s q.0) (fits_out g s (slot_at x.slots k) q.2)
    by None q = takes (choose g s x.maps) (choose_sits g s x.maps (omega (arith, h.app_size)) b)

pub place_keeps : (g : Given) (a f w : ℕ) (ss : List Storage) (x : State) → g.hi ≤ a → All (λ s. FixedSmall s.len s.fixed) ss → Keeps g a f w x → After (Keeps g a f w) (place_from g ss x)
place_keeps g a f w ss x l b h = steps_keep (Keeps g a f w) (λ s. FixedSmall s.len s.fixed) g (λ s y. step_keeps g a f w s y l) ss b x h
