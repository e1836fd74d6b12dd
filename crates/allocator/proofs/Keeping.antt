-- What every state of placing keeps, and that a storage which joins a slot keeps it. A slot's room is covered by the maps and shares no bit with another
-- slot's, and whoever touches it is a member: so a newcomer that fits shares bits with members alone, and interferes with none of them.
use Rattle.std.specs.Prelude.{Some, None}
use mathlib.Core.Path.{◌≡◌, sym, ◌∙◌, subst}
use mathlib.Core.List.{List, [], ◌∷◌}
use Prim.Native.Nat.{ℕ, ◌<◌, ◌≤◌}
use native.Mathlib.Omega.{arith}
use native.Mathlib.Nat.{not-suc-le-zero}
use native.Mathlib.Decide.{ℕ_discrete}
use lib.Dec.{T, eqb, eqb_refl, not_T}
use lib.ListN.{length, set, length-set}
use lib.Seq.{get_or-set_same, get_or-set_other}
use Rattle.fields.specs.Pick.{All}
use Rattle.storages.specs.declared.Storage.{Storage}
use Rattle.storages.specs.declared.Space.{Space}
use Rattle.storages.specs.declared.Space.TheVariants.{App}
use Rattle.storages.specs.declared.Room.{Room}
use Rattle.storages.specs.Placement.{code_of}
use Rattle.storages.specs.Room.{room, within, touches}
use Rattle.units.specs.Sets.{any}
use Rattle.places.specs.Memory.{Maps}
use Rattle.places.specs.Place.{Given, Opened, no_opened, joined, Placed, State, join_slot, start}
use Rattle.places.specs.Legal.{right_form, LegalBy, Legal, Inside, OffLow, MayShare, Pairs, Fine}
use Rattle.places.proofs.Tests.{any_left, any_last, any_none, all_snoc, all_map, pairs_snoc}
use Rattle.places.proofs.Rooms.{held, fresh_app, fresh_wrk, fresh_low}
use Rattle.turns.proofs.Joining.{slot_at, Tries, Fits}

abbrev pub room_of : Placed → Room
room_of y = room y.what.len y.spot

abbrev pub slot_room : Opened → Room
slot_room t = room t.slot.len t.slot.placement

-- Every bit of a room is taken in the maps.
abbrev pub Covers : Maps → Room → Type 0
Covers m r = (sp : Space) (i k : ℕ) → T (within r sp i k) → T (held m sp i k)

abbrev pub Disjoint : Room → Room → Type 0
Disjoint r q = (sp : Space) (i k : ℕ) → T (within r sp i k) → T (within q sp i k) → ⊥

pub record Member (y : Placed) (t : Opened) : Type 0 where
  pub free : y.what.fixed ≡ None
  pub owners : y.what.owner ≡ t.slot.owner
  pub kinds : y.what.kind ≡ t.slot.kind
  pub lengths : y.what.len ≡ t.slot.len
  pub listed : T (any (eqb y.what.id) t.members)

-- A placed storage that touches a bit of a slot is its member.
abbrev pub Known : Placed → Opened → Type 0
Known y t = (sp : Space) (i k : ℕ) → T (within (room_of y) sp i k) → T (within (slot_room t) sp i k) → Member y t

abbrev pub KnownIn : List Opened → Placed → Type 0
KnownIn ts y = (j : ℕ) → j < length ts → Known y (slot_at ts j)

pub record SlotFine (a f w : ℕ) (t : Opened) : Type 0 where
  pub form : T (right_form t.slot.kind (code_of t.slot.placement))
  pub inside : Inside a w (slot_room t)
  pub off : OffLow f (slot_room t)

pub record Keeps (g : Given) (a f w : ℕ) (x : State) : Type 0 where
  pub app_size : length x.maps.app ≡ a
  pub wrk_size : length x.maps.wrk ≡ w
  -- The maps hold at least the low bytes, the placed storages and the slots.
  pub low : (i k : ℕ) → i < f → k < 8 → T (held x.maps App i k)
  pub covered : All (λ y. Covers x.maps (room_of y)) x.placed
  pub slot_covered : (j : ℕ) → j < length x.slots → Covers x.maps (slot_room (slot_at x.slots j))
  -- Slots share no bit and are sound, and whoever touches one is a member.
  pub slots_apart : (i j : ℕ) → i < length x.slots → j < length x.slots → ¬ (i ≡ j) → Disjoint (slot_room (slot_at x.slots i)) (slot_room (slot_at x.slots j))
  pub slot_fine : (j : ℕ) → j < length x.slots → SlotFine a f w (slot_at x.slots j)
  pub known : All (KnownIn x.slots) x.placed
  -- What is promised of two storages and of one.
  pub sharing : Pairs (MayShare g) x.placed
  pub fine : All (Fine a f w) x.placed

pub start_keeps : (g : Given) (a f w : ℕ) → f ≤ a → Keeps g a f w (start a f w)
start_keeps g a f w l =
    record {
      app_size = fresh_app a f w l;
      wrk_size = fresh_wrk a f w;
      low = fresh_low a f w;
      covered = tt;
      slot_covered = λ j b. absurd (not-suc-le-zero b);
      slots_apart = λ i j b. absurd (not-suc-le-zero b);
      slot_fine = λ j b. absurd (not-suc-le-zero b);
      known = tt;
      sharing = tt;
      fine = tt;
    }

-- ---- A storage joins a slot

module _ (g : Given) (a f w : ℕ) (s : Storage) (x : State) (h : Keeps g a f w x) (k : ℕ) (d : k < length x.slots) (tr : Tries s) (ft : Fits g s (slot_at x.slots k)) where
  abbrev here : Opened
  here = slot_at x.slots k

  abbrev after : List Opened
  after = set x.slots k (joined s.id here)

  abbrev new : Placed
  new = record { what = s; spot = here.slot.placement; slot = Some k }

  -- The storage takes the slot's room, since it has the slot's length.
  same_room : (P : Room → Type 0) → P (slot_room here) → P (room_of new)
  same_room P p = subst (λ (n : ℕ). P (room n here.slot.placement)) ft.lengths p

  in_slot_lem : (sp : Space) (i b : ℕ) → T (within (room_of new) sp i b) → T (within (slot_room here) sp i b)
  in_slot_lem sp i b = same_room (λ r. T (within r sp i b) → T (within (slot_room here) sp i b)) (λ t. t)

  slot_set : (P : Opened → Type 0) (j : ℕ) → (j ≡ k → P (joined s.id here)) → (¬ (j ≡ k) → P (slot_at x.slots j)) → P (slot_at after j)
  slot_set P j p q = go (ℕ_discrete j k)
    where
      go : Dec (j ≡ k) → P (slot_at after j)
      go (yes e) = rw (e, get_or-set_same x.slots k (joined s.id here) no_opened d) (p e)
      go (no e) = rw (get_or-set_other x.slots k j (joined s.id here) no_opened e) (q e)

  -- A slot changes in its members only.
  slot_still : (P : Opened → Type 0) → (P here → P (joined s.id here)) → (j : ℕ) → P (slot_at x.slots j) → P (slot_at after j)
  slot_still P keep j p = slot_set P j (λ e. keep (subst (λ (i : ℕ). P (slot_at x.slots i)) e p)) (λ _. p)

  bound : (j : ℕ) → j < length after → j < length x.slots
  bound j l = omega (arith, length-set x.slots k (joined s.id here))

  fine_joined : SlotFine a f w here → SlotFine a f w (joined s.id here)
  fine_joined p = record { form = p.form; inside = p.inside; off = p.off }

  member_joined : (y : Placed) → Member y here → Member y (joined s.id here)
  member_joined y m =
      record {
        free = m.free;
        owners = m.owners;
        kinds = m.kinds;
        lengths = m.lengths;
        listed = any_left (eqb y.what.id) here.members (s.id ∷ []) m.listed;
      }

  old_known : (y : Placed) → KnownIn x.slots y → KnownIn after y
  old_known y p j l = slot_still (Known y) (λ q sp i b t u. member_joined y (q sp i b t u)) j (p j (bound j l))

  new_known : KnownIn after new
  new_known j l =
      slot_set (Known new) j (λ e sp i b t u. member)
      (λ n sp i b t u. absurd (h.slots_apart k j d (bound j l) (λ e. n (sym e)) sp i b (in_slot_lem sp i b t) u))
    where
      member : Member new (joined s.id here)
      member =
          record {
            free = tr.free;
            owners = sym ft.owners;
            kinds = sym ft.kinds;
            lengths = sym ft.lengths;
            listed = any_last (eqb s.id) here.members s.id (eqb_refl s.id);
          }

  shares : (y : Placed) → KnownIn x.slots y → MayShare g y new
  unfolding touches
  shares y p sp i b t u = let m = p k d sp i b t (in_slot_lem sp i b u) in
      record {
        free_s = m.free;
        free_t = tr.free;
        owners = m.owners ∙ ft.owners;
        owned = tr.owned;
        kinds = m.kinds ∙ ft.kinds;
        lengths = m.lengths ∙ ft.lengths;
        carry = tr.plain;
        apart = not_T (g.meets s.id y.what.id) (any_none (g.meets s.id) here.members y.what.id m.listed ft.alone);
      }

  joins_legal : Legal s here.slot.placement
  joins_legal =
      subst (LegalBy s here.slot.placement) (sym tr.free)
      (ft.region, subst (λ (n : ℕ). T (right_form n (code_of here.slot.placement))) ft.kinds (h.slot_fine k d).form)

  pub join_keeps : Keeps g a f w (join_slot s x k)
  join_keeps =
      record {
        app_size = h.app_size;
        wrk_size = h.wrk_size;
        low = h.low;
        covered = all_snoc (λ y. Covers x.maps (room_of y)) x.placed new h.covered (same_room (Covers x.maps) (h.slot_covered k d));
        slot_covered = λ j l. slot_still (λ t. Covers x.maps (slot_room t)) (λ p. p) j (h.slot_covered j (bound j l));
        slots_apart = λ i j p q n.
            slot_still (λ t. Disjoint (slot_room t) (slot_room (slot_at after j))) (λ v. v) i
            (slot_still (λ t. Disjoint (slot_room (slot_at x.slots i)) (slot_room t)) (λ v. v) j (h.slots_apart i j (bound i p) (bound j q) n));
        slot_fine = λ j l. slot_still (SlotFine a f w) fine_joined j (h.slot_fine j (bound j l));
        known = all_snoc (KnownIn after) x.placed new (all_map (KnownIn x.slots) (KnownIn after) x.placed old_known h.known) new_known;
        sharing = pairs_snoc (MayShare g) x.placed new h.sharing (all_map (KnownIn x.slots) (λ y. MayShare g y new) x.placed shares h.known);
        fine = all_snoc (Fine a f w) x.placed new h.fine
            (record { legal = joins_legal; inside = same_room (Inside a w) (h.slot_fine k d).inside; off = same_room (OffLow f) (h.slot_fine k d).off });
      }
