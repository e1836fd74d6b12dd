-- The walk over the storage records of a file. The storages still ahead, placed from the state that the words stand for, come to what all of them come to from
-- the start; a turn takes the record at the front, and at the end none is ahead.
use Rattle.std.specs.Prelude.{Option, Some, None, Result, Ok, Err}
use mathlib.Core.Path.{◌≡◌, refl, sym, ap, ◌∙◌, subst}
use mathlib.Core.Bool.{Bool, true, false}
use mathlib.Core.List.{List, [], ◌∷◌, map}
use Prim.Native.Nat.{ℕ, zero, suc, ◌+◌, ◌*◌, ◌≤◌, ◌<◌}
use native.Mathlib.Omega.{arith}
use native.Mathlib.Nat.{not-suc-le-zero}
use lib.ListN.{length, drop, set, replicate}
use lib.Seq.{drop-drop}
use Rattle.rows.specs.Row.{member_at}
use Rattle.fields.specs.Pick.{pick_yes, pick_no, All}
use Rattle.fields.specs.Edition.{one}
use Rattle.records.specs.Outcome.{laid}
use Rattle.fields.specs.Record as R
use Rattle.records.specs.declared.Refusal.{Refusal}
use Rattle.storages.specs.declared.Placement.{Placement}
use Rattle.storages.specs.declared.Storage.{Storage}
use Rattle.storages.specs.Storage.{stored}
use Rattle.storages.specs.File.{opens_storage, storages_by, declared}
use Rattle.storages.proofs.Declared.{opens_inside, opened as opened_at}
use Rattle.slots.specs.declared.Slot.{Slot}
use Rattle.slots.specs.Slots.{opened}
use Rattle.places.specs.Legal.{FixedSmall}
use Rattle.places.specs.Place.{Given, State, Outcome, done, refused, step, place_from, records_of}
use Rattle.turns.specs.Held.{Tells, Held, list_after, count_after, TurnedBy}
use Rattle.allocator.specs.All.{Allocates, Fit}
use Rattle.turns.proofs.Turns.{place_next, place_refused}
use Rattle.turns.proofs.Linking.{linked_none}
use Rattle.allocator.proofs.Fitting.{fits_small}

-- Nothing is placed yet in these maps.
abbrev pub begun : List ℕ → List ℕ → State
begun app wrk = record { maps = record { app = app; wrk = wrk }; slots = []; placed = [] }

-- What is given, as the words themselves tell it.
abbrev told : List ℕ → List ℕ → ℕ → Given
told graph copies hi = record { meets = λ i j. member_at graph (i * 4) j; copies = λ i j. member_at copies (i * 4) j; lo = 0; hi = hi }

told_tells : (graph copies : List ℕ) (hi : ℕ) → Tells (told graph copies hi) graph copies
told_tells graph copies hi = record { meeting = λ i j a b. refl; copying = λ i j a b. refl }

-- The loop's invariant: the maps keep their lengths, every record ahead fits and there is an entry for it, and placing
-- comes to the same from here.
pub record Going (file graph copies app₀ wrk₀ app wrk : List ℕ) (list : List Slot) (n : ℕ) (ids kin numbers out : List ℕ) (at i : ℕ) : Type 0 where
  pub inside : at ≤ length file
  pub app_long : length app ≡ length app₀
  pub wrk_long : length wrk ≡ length wrk₀
  pub fuel : ℕ
  pub enough : length file ≤ at + fuel
  pub fits : All (λ x. R.storage_fits one x ≡ true) (storages_by fuel (drop at file))
  pub few : i + length (storages_by fuel (drop at file)) ≤ 256
  pub held : (g : Given) → Tells g graph copies → g.lo ≡ 0 → g.hi ≡ length app₀
      → (x : State) × Held x app wrk list n ids kin numbers out i
      × (place_from g (map stored (storages_by fuel (drop at file))) x ≡ place_from g (map stored (declared file)) (begun app₀ wrk₀))

-- ---- The start

module _ (file graph copies app wrk : List ℕ) (list : List Slot) (ids kin numbers out : List ℕ) where
  begun_held : kin ≡ replicate 512 0 → out ≡ laid 2048 [] [] → Held (begun app wrk) app wrk list 0 ids kin numbers out 0
  unfolding records_of
  begun_held clear e = record {
    app_is = refl;
    wrk_is = refl;
    kept = record {
      many = refl;
      slots_are = refl;
      count = refl;
      ids_are = refl;
      linked = linked_none kin clear;
      numbers_are = refl;
      numbered = record { members = λ j l. absurd (not-suc-le-zero l); filled = λ j l. absurd (not-suc-le-zero l); numbers = tt };
      keyed = tt;
      low = λ j l. absurd (not-suc-le-zero l);
      few = omega arith;
    };
    out_is = e;
  }

  pub going_start : 7 ≤ length file → Fit file → kin ≡ replicate 512 0 → out ≡ laid 2048 [] []
      → Going file graph copies app wrk app wrk list 0 ids kin numbers out 7 0
  unfolding declared
  going_start h fit clear e = record {
    inside = h;
    app_long = refl;
    wrk_long = refl;
    fuel = length file;
    enough = omega arith;
    fits = fit.each;
    few = omega (arith, fit.most);
    held = λ g t lo hi. (begun app wrk, begun_held clear e, refl);
  }

-- ---- The slots after a turn

-- The storage was placed.
abbrev Went : Result (Option Placement) Refusal → Type 0
Went (Ok None) = Unit {0}
Went (Ok (Some p)) = Unit {0}
Went (Err r) = ⊥

module _ (list : List Slot) (n : ℕ) (z : Storage) (v : Result (Option Placement) Refusal) (list' : List Slot) (n' : ℕ) where
  abbrev pub Follows : Type 0
  Follows = Went v × (list' ≡ list_after list n z v) × (n' ≡ count_after n v)

  pub placed_follows : v ≡ Ok None → list' ≡ list → n' ≡ n → Follows
  placed_follows e q m = (subst Went (sym e) tt, q ∙ sym (ap (list_after list n z) e), m ∙ sym (ap (count_after n) e))

  pub opened_follows : (p : Placement) → v ≡ Ok (Some p) → list' ≡ set list n (opened z p) → n' ≡ n + 1 → Follows
  opened_follows p e q m = (subst Went (sym e) tt, q ∙ sym (ap (list_after list n z) e), m ∙ sym (ap (count_after n) e))

-- ---- The record at the front

-- Of the storages ahead the one at the front is taken.
front_cons : (file : List ℕ) (at fuel : ℕ) → at ≤ length file → length file ≤ at + fuel → opens_storage (drop at file) ≡ true
    → (k : ℕ) × (length file ≤ at + 16 + k) × (storages_by fuel (drop at file) ≡ R.storage_in (drop at file) ∷ storages_by k (drop (at + 16) file))
unfolding storages_by
front_cons file at zero h e o = absurd (omega (arith, opens_inside file at h o))
front_cons file at (suc k) h e o =
    (k, omega arith, pick_yes (opens_storage (drop at file)) _ _ o ∙ ap (λ (t : List ℕ). R.storage_in (drop at file) ∷ storages_by k t) (drop-drop 16 at file))

module _ {file graph copies app₀ wrk₀ app wrk : List ℕ} {list : List Slot} {n : ℕ} {ids kin numbers out : List ℕ} {at i : ℕ}
    (s : Going file graph copies app₀ wrk₀ app wrk list n ids kin numbers out at i) where
  -- The words stand for a state, since they tell what is given themselves.
  pub going_held : (x : State) × Held x app wrk list n ids kin numbers out i
  going_held = let h = s.held (told graph copies (length app₀)) (told_tells graph copies (length app₀)) refl refl in (h.0, h.1)

  module _ (t : List ℕ) (z : Storage) (et : t ≡ drop at file) (ez : z ≡ stored (R.storage_in t)) (o : opens_storage (drop at file) ≡ true) where
    front_is : z ≡ stored (R.storage_in (drop at file))
    front_is = ez ∙ ap (λ (u : List ℕ). stored (R.storage_in u)) et

    pub front_fits : (i < 256) × (z.id < 256) × FixedSmall z.len z.fixed
    front_fits =
        let k = front_cons file at s.fuel s.inside s.enough o in
        let f = fits_small (R.storage_in (drop at file)) (subst (All (λ x. R.storage_fits one x ≡ true)) k.2 s.fits).0 in
        let low : z.id < 256 = subst (λ (y : Storage). y.id < 256) (sym front_is) f.0 in
        let small : FixedSmall z.len z.fixed = subst (λ (y : Storage). FixedSmall y.len y.fixed) (sym front_is) f.1 in
        (omega (arith, s.few, ap length k.2), low, small)

    -- A slot more finds room, for no more are open than storages were placed.
    pub front_few : n < 256
    front_few = omega (arith, front_fits.0, going_held.1.kept.few)

    module _ (v : Result (Option Placement) Refusal) (app' wrk' ids' kin' numbers' out' : List ℕ)
        (turn : (g : Given) (x : State) → Tells g graph copies → g.lo ≡ 0 → g.hi ≡ length app → Held x app wrk list n ids kin numbers out i
        → TurnedBy (step g z x) v app' wrk' (list_after list n z v) (count_after n v) ids' kin' numbers' out' (i + 1)) where
      pub going_refused : (r : Refusal) → v ≡ Err r → (g : Given) → Tells g graph copies → g.lo ≡ 0 → g.hi ≡ length app₀
          → place_from g (map stored (declared file)) (begun app₀ wrk₀) ≡ refused r
      going_refused r e g t lo hi =
          let k = front_cons file at s.fuel s.inside s.enough o in
          let h = s.held g t lo hi in
          let q = subst (λ (u : Result (Option Placement) Refusal). TurnedBy (step g z h.0) u app' wrk' (list_after list n z u) (count_after n u) ids' kin' numbers' out' (i + 1)) e (turn g h.0 t lo (hi ∙ sym s.app_long) h.1) in
          sym h.2 ∙ ap (λ (ss : List R.Storage). place_from g (map stored ss) h.0) k.2
          ∙ place_refused g (stored (R.storage_in (drop at file))) _ h.0 r (ap (λ (y : Storage). step g y h.0) (sym front_is) ∙ q)

      -- A storage that was placed leaves a state, and the slots that follow stand for that state's.
      leaves : (list' : List Slot) (n' : ℕ) → Follows list n z v list' n' → (u : Outcome) → TurnedBy u v app' wrk' (list_after list n z v) (count_after n v) ids' kin' numbers' out' (i + 1)
          → (y : State) × (u ≡ done y) × Held y app' wrk' list' n' ids' kin' numbers' out' (i + 1)
      leaves list' n' f u d = go v f.0 (rw (f.1, f.2) d)
        where
          go : (w : Result (Option Placement) Refusal) → Went w → TurnedBy u w app' wrk' list' n' ids' kin' numbers' out' (i + 1)
              → (y : State) × (u ≡ done y) × Held y app' wrk' list' n' ids' kin' numbers' out' (i + 1)
          go (Ok None) k e = e
          go (Ok (Some p)) k e = e
          go (Err _) k e = elim k [ ]

      pub going_on : (list' : List Slot) (n' i' : ℕ) → Follows list n z v list' n' → i' ≡ i + 1 → length app' ≡ length app → length wrk' ≡ length wrk
          → Going file graph copies app₀ wrk₀ app' wrk' list' n' ids' kin' numbers' out' (at + 16) i'
      going_on list' n' i' f ei la lw =
          let k = front_cons file at s.fuel s.inside s.enough o in
          rw ei (record {
            inside = opens_inside file at s.inside o;
            app_long = la ∙ s.app_long;
            wrk_long = lw ∙ s.wrk_long;
            fuel = k.0;
            enough = k.1;
            fits = (subst (All (λ x. R.storage_fits one x ≡ true)) k.2 s.fits).1;
            few = omega (arith, s.few, ap length k.2);
            held = λ g t l r.
                let h = s.held g t l r in
                let q = leaves list' n' f (step g z h.0) (turn g h.0 t l (r ∙ sym s.app_long) h.1) in
                let same : place_from g (map stored (storages_by k.0 (drop (at + 16) file))) q.0 ≡ place_from g (map stored (declared file)) (begun app₀ wrk₀) =
                sym (place_next g (stored (R.storage_in (drop at file))) _ h.0 q.0 (ap (λ (y : Storage). step g y h.0) (sym front_is) ∙ q.1))
                ∙ sym (ap (λ (ss : List R.Storage). place_from g (map stored ss) h.0) k.2) ∙ h.2 in
                (q.0, q.2, same);
          })

  -- ---- The end

  pub going_end : opens_storage (drop at file) ≡ false → (g : Given) → Tells g graph copies → g.lo ≡ 0 → g.hi ≡ length app₀
      → Allocates (place_from g (map stored (declared file)) (begun app₀ wrk₀)) (Ok (record { placed = i; slots = n })) out
  unfolding storages_by place_from
  going_end o g t lo hi = let h = s.held g t lo hi in
      (h.0, sym h.2 ∙ none h.0 s.fuel, h.1.kept.count, h.1.kept.many, h.1.out_is)
    where
      none : (x : State) (k : ℕ) → place_from g (map stored (storages_by k (drop at file))) x ≡ done x
      none x zero = refl
      none x (suc k) = ap (λ (ss : List R.Storage). place_from g (map stored ss) x) (pick_no (opens_storage (drop at file)) _ _ o)

-- Where the code finds a storage at the front of the rest, there is room for one slot more.
pub room_left : {file graph copies app₀ wrk₀ app wrk : List ℕ} {list : List Slot} {n : ℕ} {ids kin numbers out : List ℕ} {at i : ℕ}
    → Going file graph copies app₀ wrk₀ app wrk list n ids kin numbers out at i → (t u : List ℕ) (r : Bool) (z : Storage)
    → t ≡ drop at file → r ≡ opens_storage t → r ≡ true → u ≡ drop at file → z ≡ stored (R.storage_in u) → n < 256
room_left {file = file} {at = at} s t u r z et er e eu ez = front_few s u z eu ez (opened_at file t at r true et er e)
