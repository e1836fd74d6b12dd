-- A storage that tries joins a slot that fits, since the search passes the slots in turn and stops at the first that passes its test. What `tries` and
-- `fits` test is taken apart here: each is a chain of tests, and all of them passed.
use Rattle.std.specs.Prelude.{Option, Some, None}
use mathlib.Core.Path.{◌≡◌, refl, ap}
use mathlib.Core.Bool.{Bool, true, false, not}
use mathlib.Core.List.{List, [], ◌∷◌}
use Prim.Native.Nat.{ℕ, zero, suc, ◌<◌}
use native.Mathlib.Omega.{arith}
use native.Mathlib.Nat.{not-suc-le-zero, le_of_suc-le-suc}
use native.Mathlib.Decide.{dec_lt}
use lib.Dec.{T, eqb, eqb→eq, T_not}
use lib.ListN.{length, get_or}
use borrow.Author.Tests.{eq-eqb}
use Rattle.rows.proofs.Tests.{T_yes, T_no}
use Rattle.fields.specs.Pick.{pick}
use Rattle.storages.specs.declared.Storage.{Storage}
use Rattle.storages.specs.Placement.{region_of}
use Rattle.storages.specs.Storage.{a_carry, the_program, allows, is_free, tries}
use Rattle.units.specs.Sets.{any}
use Rattle.maps.specs.Maps.{later}
use Rattle.slots.specs.declared.Slot.{Slot}
use Rattle.slots.specs.Slots.{suits}
use Rattle.places.specs.Place.{Given, Opened, no_opened, fits, partners, fits_copied, first_slot, or_else, slot_for}
use Rattle.turns.specs.Held.{key_of, slot_key}
use Rattle.places.proofs.Tests.{and_l, and_r}
use Rattle.storages.specs.declared.Placement.{Placement}

abbrev pub slot_at : List Opened → ℕ → Opened
slot_at ts j = get_or ts j no_opened

-- ---- The search

-- No slot before n passes.
abbrev pub NonePass : (Opened → Bool) → List Opened → ℕ → Type 0
NonePass p ts n = (j : ℕ) → j < n → T (p (slot_at ts j)) → ⊥

-- What the search answers: a slot that passes, and no earlier one does; or none does.
abbrev pub FirstSlot : (Opened → Bool) → List Opened → Option ℕ → Type 0
FirstSlot p ts (Some k) = (k < length ts) × T (p (slot_at ts k)) × NonePass p ts k
FirstSlot p ts None = NonePass p ts (length ts)

pub first_slot_lem : (p : Opened → Bool) (ts : List Opened) → FirstSlot p ts (first_slot p ts)
unfolding first_slot pick
first_slot_lem p [] = λ j l. absurd (not-suc-le-zero l)
first_slot_lem p (t ∷ ts) = go (p t) refl (first_slot p ts) (first_slot_lem p ts)
  where
    before : (n : ℕ) → p t ≡ false → NonePass p ts n → NonePass p (t ∷ ts) (suc n)
    before n e h zero l x = T_no e x
    before n e h (suc j) l x = h j (le_of_suc-le-suc l) x

    go : (c : Bool) → p t ≡ c → (r : Option ℕ) → FirstSlot p ts r → FirstSlot p (t ∷ ts) (pick c (Some 0) (later r))
    go true e r h = (omega arith, T_yes e, λ j l. absurd (not-suc-le-zero l))
    go false e (Some k) h = (omega (arith, h.0), h.1, before k e h.2)
    go false e None h = before (length ts) e h

-- No other answer has these properties: for code whose search shows them.
pub slot_only : (p : Opened → Bool) (ts : List Opened) (r : Option ℕ) → FirstSlot p ts r → r ≡ first_slot p ts
slot_only p ts r h = go r h (first_slot p ts) (first_slot_lem p ts)
  where
    go : (r : Option ℕ) → FirstSlot p ts r → (q : Option ℕ) → FirstSlot p ts q → r ≡ q
    go None h None f = refl
    go None h (Some k) f = absurd (h k f.0 f.1)
    go (Some i) h None f = absurd (f i h.0 h.1)
    go (Some i) h (Some k) f = split (dec_lt i k) (dec_lt k i)
      where
        split : Dec (i < k) → Dec (k < i) → Some i ≡ Some k
        split (yes x) _ = absurd (f.2 i x h.1)
        split (no x) (yes y) = absurd (h.2 k y f.1)
        split (no x) (no y) = let e : i ≡ k = omega arith in ap Some e

-- ---- The slot that is joined

abbrev pub SlotFor : Given → Storage → List Opened → Option ℕ → Type 0
SlotFor g s ts (Some k) = T (tries s) × (k < length ts) × T (fits g s (slot_at ts k))
SlotFor g s ts None = Unit {0}

pub slot_for_lem : (g : Given) (s : Storage) (ts : List Opened) → SlotFor g s ts (slot_for g s ts)
unfolding slot_for pick
slot_for_lem g s ts = go (tries s) refl (first_slot (fits_copied g s) ts) (first_slot_lem (fits_copied g s) ts) (first_slot (fits g s) ts) (first_slot_lem (fits g s) ts)
  where
    go : (b : Bool) → tries s ≡ b → (r : Option ℕ) → FirstSlot (fits_copied g s) ts r → (q : Option ℕ) → FirstSlot (fits g s) ts q → SlotFor g s ts (pick b (or_else r q) None)
    go false e r h q k = tt
    go true e (Some i) h q k = (T_yes e, h.0, and_l (fits g s (slot_at ts i)) (partners g s (slot_at ts i)) h.1)
    go true e None h (Some i) k = (T_yes e, k.0, k.1)
    go true e None h None k = tt

-- ---- Who tries, and what fits

is_free_lem : (x : Option Placement) → T (is_free x) → x ≡ None
is_free_lem None t = refl
is_free_lem (Some _) t = elim t [ ]

not_eq : (i j : ℕ) → T (not (eqb i j)) → ¬ (i ≡ j)
not_eq i j t e = T_not (eqb i j) t (T_yes (eq-eqb i j e))

pub record Tries (s : Storage) : Type 0 where
  pub free : s.fixed ≡ None
  pub owned : ¬ (s.owner ≡ the_program)
  pub plain : ¬ (s.kind ≡ a_carry)

pub tries_out : (s : Storage) → T (tries s) → Tries s
unfolding tries
tries_out s t = let u = and_r (is_free s.fixed) _ t in
    record {
      free = is_free_lem s.fixed (and_l (is_free s.fixed) _ t);
      owned = not_eq s.owner the_program (and_l (not (eqb s.owner the_program)) _ u);
      plain = not_eq s.kind a_carry (and_r (not (eqb s.owner the_program)) _ u);
    }

pub record Fits (g : Given) (s : Storage) (t : Opened) : Type 0 where
  pub owners : t.slot.owner ≡ s.owner
  pub kinds : t.slot.kind ≡ s.kind
  pub lengths : t.slot.len ≡ s.len
  pub region : T (allows s (region_of t.slot.placement))
  pub alone : T (any (g.meets s.id) t.members) → ⊥

pub fits_out : (g : Given) (s : Storage) (t : Opened) → T (fits g s t) → Fits g s t
unfolding fits suits
fits_out g s t h =
    let a = and_l (suits s t.slot) _ h in
    let b = and_r (eqb t.slot.owner s.owner) _ a in
    let c = and_r (eqb t.slot.kind s.kind) _ b in
    let d = and_r (eqb t.slot.len s.len) _ c in
    record {
      owners = eqb→eq t.slot.owner s.owner (and_l (eqb t.slot.owner s.owner) _ a);
      kinds = eqb→eq t.slot.kind s.kind (and_l (eqb t.slot.kind s.kind) _ b);
      lengths = eqb→eq t.slot.len s.len (and_l (eqb t.slot.len s.len) _ c);
      region = and_l (allows s (region_of t.slot.placement)) _ d;
      alone = T_not (any (g.meets s.id) t.members) (and_r (suits s t.slot) _ h);
    }

-- A slot that suits a storage has its key, since it has its owner, kind and length.
pub suits_key : (s : Storage) (t : Slot) → T (suits s t) → slot_key t ≡ key_of s
unfolding suits
suits_key s t a =
    let b = and_r (eqb t.owner s.owner) _ a in
    let c = and_r (eqb t.kind s.kind) _ b in
    rw (eqb→eq t.owner s.owner (and_l _ _ a), eqb→eq t.kind s.kind (and_l _ _ b), eqb→eq t.len s.len (and_l _ _ c)) refl
