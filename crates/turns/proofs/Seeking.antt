-- The slot that code finds is the slot that the storage joins. A slot that suits the storage has members of its key only, and at least one; its number is left
-- where none meets the storage, and stands in the row of partners where one is its copy; so the walk tests what `fits` tests, slot by slot.
use Rattle.std.specs.Prelude.{Option, Some, None}
use mathlib.Core.Path.{◌≡◌, refl, sym, ap, ap₂, ◌∙◌}
use mathlib.Core.Bool.{Bool, true, false, not, ◌&&◌}
use mathlib.Core.List.{List, [], ◌∷◌, map}
use Prim.Native.Nat.{ℕ, zero, suc, ◌≤◌, ◌<◌, min, max}
use native.Mathlib.Omega.{arith}
use lib.Dec.{eqb}
use lib.ListN.{length, take, get_or}
use lib.Seq.{get_or-take}
use borrow.Author.Tests.{eq-eqb, ne_eqb, eqb-true}
use Rattle.rows.specs.Row.{member, member_at, less, row, put, less_row}
use Rattle.rows.proofs.Tests.{T_true, T_yes, T_false}
use Rattle.rows.proofs.Rows.{row_whole, length_zip, put_whole}
use Rattle.rows.proofs.Members.{member_at_zero, member_less}
use Rattle.fields.specs.Pick.{pick, pick_yes, ◌and◌, ◌or◌, All}
use Rattle.storages.specs.declared.Storage.{Storage}
use Rattle.storages.specs.Storage.{tries}
use Rattle.units.specs.Sets.{any}
use Rattle.slots.specs.declared.Slot.{Slot}
use Rattle.slots.specs.Slots.{no_slot, suits, passes, first_passing}
use Rattle.slots.proofs.Laws.{and_false, passing_is, passing_none}
use Rattle.places.specs.Place.{Given, Opened, fits, partners, fits_copied, first_slot, or_else, slot_for, Placed, State}
use Rattle.turns.specs.Held.{slot_number, in_slot, key_of, slot_key, Keyed, Tells, keys_of, any_in, Marked, Kept}
use Rattle.turns.proofs.Joining.{slot_at, FirstSlot, first_slot_lem, suits_key}
use Rattle.turns.proofs.Numbering.{any_ids}
use Rattle.turns.proofs.Noting.{slot_there}

-- ---- A test over the placed storages, by their ids, keys and numbers

-- Only the first n ids and numbers count, and only what the test says of these ids.
module _ (p q : ℕ → Bool) (b k : ℕ) (keys ids numbers ids' numbers' : List ℕ) where
  any_in_same : (n : ℕ)
      → ((j : ℕ) → j < n
      → (eqb (get_or numbers j 0) k and p (get_or ids j 0)) ≡ (eqb (get_or numbers' j 0) k and q (get_or ids' j 0)))
      → any_in p b k ids keys numbers n ≡ any_in q b k ids' keys numbers' n
  unfolding any_in
  any_in_same zero same = refl
  any_in_same (suc n) same = rw (same n (omega arith), any_in_same n (λ j l. same j (omega arith)))

or_swap : (a b c : Bool) → (a or (b or c)) ≡ (b or (a or c))
unfolding pick
or_swap true true c = refl
or_swap true false c = refl
or_swap false b c = refl

-- The walk ends at the first storage, where a test over a list begins.
module _ (p : ℕ → Bool) (b k id key number : ℕ) (ids keys numbers : List ℕ) where
  any_in_cons : (n : ℕ)
      → any_in p b k (id ∷ ids) (key ∷ keys) (number ∷ numbers) (suc n) ≡ ((eqb key b and (eqb number k and p id)) or any_in p b k ids keys numbers n)
  unfolding any_in
  any_in_cons zero = refl
  any_in_cons (suc n) =
      ap (λ (t : Bool). (eqb (get_or keys n 0) b and (eqb (get_or numbers n 0) k and p (get_or ids n 0))) or t) (any_in_cons n)
      ∙ or_swap (eqb (get_or keys n 0) b and (eqb (get_or numbers n 0) k and p (get_or ids n 0))) (eqb key b and (eqb number k and p id)) (any_in p b k ids keys numbers n)

-- The number of a storage that is in no slot is not k.
number_is : (k : ℕ) → k < 256 → (r : Option ℕ) → eqb (slot_number r) k ≡ in_slot k r
number_is k l None = ne_eqb 256 k (omega arith)
number_is k l (Some j) = refl

-- A slot of this key has storages of this key only, so that a test of the key leaves none of them out.
module _ (p : ℕ → Bool) (ts : List Opened) (key k : ℕ) (own : slot_key (slot_at ts k).slot ≡ key) where
  own_only : (y : Placed) (b : Bool) (r : Option ℕ) → Keyed ts y r → (eqb (key_of y.what) key and (in_slot k r and b)) ≡ (in_slot k r and b)
  unfolding pick
  own_only y b None h = and_false (eqb (key_of y.what) key)
  own_only y b (Some j) h = go (eqb j k) refl
    where
      go : (t : Bool) → eqb j k ≡ t → (eqb (key_of y.what) key and (t and b)) ≡ (t and b)
      go false e = and_false (eqb (key_of y.what) key)
      go true e =
          let same = h ∙ ap (λ (n : ℕ). slot_key (slot_at ts n).slot) (eqb-true j k e) ∙ own in
          pick_yes (eqb (key_of y.what) key) b false (eq-eqb (key_of y.what) key same)

  any_in_map : k < 256 → (ys : List Placed) → All (λ (y : Placed). Keyed ts y y.slot) ys
      → any_in p key k (map (λ (y : Placed). y.what.id) ys) (keys_of ys) (map (λ (y : Placed). slot_number y.slot) ys) (length ys)
      ≡ any (λ y. in_slot k y.slot and p y.what.id) ys
  unfolding any_in any
  any_in_map l [] h = refl
  any_in_map l (y ∷ ys) h =
      any_in_cons p key k y.what.id (key_of y.what) (slot_number y.slot) (map (λ (z : Placed). z.what.id) ys) (keys_of ys)
      (map (λ (z : Placed). slot_number z.slot) ys) (length ys)
      ∙ rw (number_is k l y.slot, own_only y (p y.what.id) y.slot h.0, any_in_map l ys h.1)

module _ (x : State) (list : List Slot) (n : ℕ) (ids kin numbers : List ℕ) (i : ℕ) (kept : Kept x list n ids kin numbers i) where
  -- Over the ids, keys and numbers, a test is one over the members of a slot of the key.
  any_members : (p q : ℕ → Bool) (key k : ℕ) → ((j : ℕ) → j < 256 → p j ≡ q j) → k < length x.slots → k < 256 → slot_key (slot_at x.slots k).slot ≡ key
      → any_in p key k ids (keys_of x.placed) numbers i ≡ any q (slot_at x.slots k).members
  any_members p q key k same b l own =
      any_in_same p q key k (keys_of x.placed) ids numbers (take i ids) (take i numbers) i each
      ∙ rw (kept.ids_are, kept.numbers_are, kept.count) (any_in_map q x.slots key k own l x.placed kept.keyed)
      ∙ sym (any_ids q k x.placed) ∙ sym (ap (any q) (kept.numbered.members k b))
    where
      each : (j : ℕ) → j < i
          → (eqb (get_or numbers j 0) k and p (get_or ids j 0)) ≡ (eqb (get_or (take i numbers) j 0) k and q (get_or (take i ids) j 0))
      each j h = rw (get_or-take i numbers j 0 h, get_or-take i ids j 0 h, same (get_or ids j 0) (kept.low j h))

-- ---- The first slot that passes

first_of_slots : (p : ℕ → Slot → Bool) (q : Opened → Bool) (list : List Slot) (ts : List Opened) (n : ℕ) → n ≡ length ts
    → ((k : ℕ) → k < n → p k (get_or list k no_slot) ≡ q (slot_at ts k)) → first_passing p list n ≡ first_slot q ts
first_of_slots p q list ts n e same = go (first_slot q ts) (first_slot_lem q ts)
  where
    go : (r : Option ℕ) → FirstSlot q ts r → first_passing p list n ≡ r
    go None none = passing_none p list n (λ j l. same j l ∙ T_false (q (slot_at ts j)) (none j (omega arith)))
    go (Some k) h =
        let l : k < n = omega (arith, h.0) in
        passing_is p list n k l (same k l ∙ T_true (q (slot_at ts k)) h.1) (λ j b. same j (omega arith) ∙ T_false (q (slot_at ts j)) (h.2 j b))

and_and : (a b c : Bool) → (a and (b and c)) ≡ ((a and b) and c)
unfolding pick
and_and true b c = refl
and_and false b c = refl

and_self : (a : Bool) → (a and a) ≡ a
unfolding pick
and_self true = refl
and_self false = refl

-- A test that comes second matters only where the first holds.
and_where : (a b c : Bool) → (a ≡ true → b ≡ c) → (a and b) ≡ (a and c)
unfolding pick
and_where true b c h = h refl
and_where false b c h = refl

-- What is left of a row, once another's numbers are taken out.
left_is : (seen barred free : List ℕ) → length seen ≡ 4 → length barred ≡ 4 → free ≡ put seen 0 (less_row (row seen 0 4) (row barred 0 4))
    → (k : ℕ) → member_at free 0 k ≡ (member_at seen 0 k && not (member_at barred 0 k))
left_is seen barred free ls lb e k =
    let same : length seen ≡ length barred = omega arith in
    let left : free ≡ less_row seen barred =
    e ∙ ap₂ (λ (a b : List ℕ). put seen 0 (less_row a b)) (row_whole seen 4 (omega arith)) (row_whole barred 4 (omega arith))
    ∙ put_whole seen (less_row seen barred) (sym (length_zip less seen barred same)) in
    member_at_zero free k ∙ ap (λ (r : List ℕ). member r k) left ∙ member_less seen barred k same
    ∙ ap₂ (λ (a b : Bool). a && not b) (sym (member_at_zero seen k)) (sym (member_at_zero barred k))

any_some : (l : List ℕ) → 0 < length l → any (λ j. true) l ≡ true
unfolding any pick
any_some [] h = absurd (omega arith)
any_some (j ∷ l) h = refl

-- ---- The slot that is joined

module _ (g : Given) (s : Storage) (x : State) (list : List Slot) (n : ℕ) (ids kin numbers : List ℕ) (i : ℕ) (graph copies : List ℕ) (tells : Tells g graph copies)
    (kept : Kept x list n ids kin numbers i) where
  module _ (seen barred partnered free : List ℕ) (key : ℕ) (is : key ≡ key_of s) (marked : Marked graph copies s.id key ids (keys_of x.placed) numbers i seen barred partnered)
      (left : free ≡ put seen 0 (less_row (row seen 0 4) (row barred 0 4))) (own : s.id < 256) (most : n ≤ 256) where
    key_there : (k : ℕ) → suits s (slot_at x.slots k).slot ≡ true → slot_key (slot_at x.slots k).slot ≡ key
    key_there k e = suits_key s (slot_at x.slots k).slot (T_yes e) ∙ sym is

    -- A slot that suits the storage is seen, by the storage that opened it; so it is left where no member meets the storage.
    free_is : (k : ℕ) → k < n → suits s (slot_at x.slots k).slot ≡ true
        → member_at free 0 k ≡ not (any (g.meets s.id) (slot_at x.slots k).members)
    free_is k l e =
        let h : k < 256 = omega arith in
        let b : k < length x.slots = omega (arith, kept.many) in
        left_is seen barred free marked.seen_four marked.barred_four left k
        ∙ ap₂ (λ (a c : Bool). a && not c)
        (marked.seen_are k h ∙ any_members x list n ids kin numbers i kept _ (λ j. true) key k (λ j c. refl) b h (key_there k e)
        ∙ any_some _ (kept.numbered.filled k b))
        (marked.barred_are k h
        ∙ any_members x list n ids kin numbers i kept _ (g.meets s.id) key k (λ j c. tells.meeting s.id j own c) b h (key_there k e))

    partners_is : (k : ℕ) → k < n → suits s (slot_at x.slots k).slot ≡ true → member_at partnered 0 k ≡ partners g s (slot_at x.slots k)
    unfolding partners
    partners_is k l e =
        let h : k < 256 = omega arith in
        let b : k < length x.slots = omega (arith, kept.many) in
        marked.partners_are k h
        ∙ any_members x list n ids kin numbers i kept _ (λ m. g.copies (min s.id m) (max s.id m)) key k
        (λ j c. tells.copying (min s.id j) (max s.id j) (omega arith) (omega arith)) b h (key_there k e)

    passes_fits : (k : ℕ) → k < n → passes s free free k (get_or list k no_slot) ≡ fits g s (slot_at x.slots k)
    unfolding passes fits
    passes_fits k l = rw (slot_there x list n ids kin numbers i kept k l, and_self) (and_where _ _ _ (free_is k l))

    passes_copied : (k : ℕ) → k < n → passes s free partnered k (get_or list k no_slot) ≡ fits_copied g s (slot_at x.slots k)
    unfolding passes fits
    passes_copied k l =
        rw (slot_there x list n ids kin numbers i kept k l)
        (and_where _ _ _ (λ e. ap₂ (λ (a b : Bool). a and b) (free_is k l e) (partners_is k l e)) ∙ and_and _ _ _)

    copied_found : first_passing (passes s free partnered) list n ≡ first_slot (fits_copied g s) x.slots
    copied_found = first_of_slots _ (fits_copied g s) list x.slots n kept.many passes_copied

    fitting_found : first_passing (passes s free free) list n ≡ first_slot (fits g s) x.slots
    fitting_found = first_of_slots _ (fits g s) list x.slots n kept.many passes_fits

    -- A slot with a copy partner was found.
    pub seek_copied : (k : ℕ) → tries s ≡ true → Some k ≡ first_passing (passes s free partnered) list n → Some k ≡ slot_for g s x.slots
    unfolding slot_for pick
    seek_copied k t e = rw t (ap (λ (r : Option ℕ). or_else r (first_slot (fits g s) x.slots)) (e ∙ copied_found))

    -- None was found: the first that fits is taken.
    pub seek_fitting : (r : Option ℕ) → tries s ≡ true → None ≡ first_passing (passes s free partnered) list n → r ≡ first_passing (passes s free free) list n
        → r ≡ slot_for g s x.slots
    unfolding slot_for pick
    seek_fitting r t e f = rw t (f ∙ fitting_found ∙ ap (λ (o : Option ℕ). or_else o (first_slot (fits g s) x.slots)) (e ∙ copied_found))

  -- A storage that shares nothing joins no slot.
  pub seek_none : tries s ≡ false → None ≡ slot_for g s x.slots
  unfolding slot_for pick
  seek_none t = rw t refl
