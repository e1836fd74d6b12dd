-- What each refusal of placing means, and that the first one stands: each way through the choice ends in a refusal only where the searches before it failed,
-- and nothing is placed behind a refusal. No search finds what fits no placement, so that 13 never arises.
use Rattle.std.specs.Prelude.{Option, Some, None, Result, Ok, Err}
use mathlib.Core.Path.{◌≡◌, refl, ap, ◌∙◌, subst}
use mathlib.Core.Logic.{◌⊎◌, inl, inr}
use mathlib.Core.Bool.{not}
use mathlib.Core.List.{List, [], ◌∷◌, ◌++◌}
use Prim.Native.Nat.{ℕ, ◌≤◌}
use native.Mathlib.Omega.{arith}
use lib.Dec.{T, eqb, T_not}
use lib.ListN.{length}
use Rattle.fields.specs.Pick.{◌and◌, ◌or◌}
use Rattle.records.specs.declared.Refusal.{Refusal}
use Rattle.records.specs.declared.Refusal.TheVariants.{Short, Form, Repeated, Undeclared, Limit, Absent, ApplicationFull, WorkFull, NoPlace, BadFixed, Conflict, Misfit}
use Rattle.storages.specs.declared.Placement.{Placement}
use Rattle.storages.specs.declared.Storage.{Storage}
use Rattle.storages.specs.Placement.{code_of}
use Rattle.storages.specs.Storage.{a_carry, carry_flag, application, shadow, work, flash, allows, is_bit, kind_matches, alone}
use Rattle.storages.specs.Room.{room}
use Rattle.maps.specs.Maps.{first_window, high_bit}
use Rattle.maps.proofs.Laws.{FirstWindow, first_window_lem, HighBit, high_bit_lem}
use Rattle.places.specs.Memory.{Maps, clear_room}
use Rattle.places.specs.Place.{Given, slot_for, choose_fixed, name_bit, name_bytes, work_bit, app_bit, choose_bit, work_bytes, app_bytes, choose_bytes, choose_free, choose_by, choose, State, Outcome, done, refused, take_room, step_by, step, and_then, place_from, start, place}
use Rattle.places.proofs.Rooms.{fresh_wrk}
use Rattle.turns.proofs.Turns.{After, Sizes, step_sizes}
use Rattle.places.proofs.Choosing.{Bad, by_pick, found_low, bad_fitted}

-- What 8 to 12 mean, each of its value. No other refusal arises.
abbrev pub Reasons : (ℕ → Type 0) → (ℕ → Type 0) → (ℕ → Type 0) → (ℕ → Type 0) → (ℕ → Type 0) → Refusal → Type 0
Reasons app wrk none bad conflict Short = ⊥
Reasons app wrk none bad conflict (Form n) = ⊥
Reasons app wrk none bad conflict (Repeated n) = ⊥
Reasons app wrk none bad conflict (Undeclared n) = ⊥
Reasons app wrk none bad conflict (Limit n) = ⊥
Reasons app wrk none bad conflict (Absent n) = ⊥
Reasons app wrk none bad conflict (ApplicationFull n) = app n
Reasons app wrk none bad conflict (WorkFull n) = wrk n
Reasons app wrk none bad conflict (NoPlace n) = none n
Reasons app wrk none bad conflict (BadFixed n) = bad n
Reasons app wrk none bad conflict (Conflict n) = conflict n
Reasons app wrk none bad conflict (Misfit n) = ⊥

abbrev never : ℕ → Type 0
never n = ⊥

module _ (g : Given) (s : Storage) (m : Maps) where
  -- The search of application RAM for a bit failed, where it is allowed; the same for bytes.
  abbrev pub NoAppBit : Type 0
  NoAppBit = T (allows s application) → HighBit g.lo g.hi m.app None

  abbrev pub NoAppBytes : Type 0
  NoAppBytes = T (allows s application) → FirstWindow s.len m.app None

  -- A bit is refused with 9 and value 1 where shadow or work is allowed and every byte of the work map is full; with 10 where neither is allowed.
  abbrev pub BitWhy : Refusal → Type 0
  BitWhy =
      Reasons never (λ n. (n ≡ 1) × T (allows s shadow or allows s work) × HighBit 0 (length m.wrk) m.wrk None × NoAppBit)
      (λ i. (i ≡ s.id) × T (not (allows s shadow or allows s work)) × NoAppBit) never never

  -- Bytes are refused with 8 where they must be direct and application RAM has no clear window; with 9 and 10 as a bit is, where Flash is not allowed. The
  -- value of 8 and 9 is their length.
  abbrev pub BytesWhy : Refusal → Type 0
  BytesWhy =
      Reasons (λ n. (n ≡ s.len) × T (allows s application) × T s.direct × FirstWindow s.len m.app None)
      (λ n. (n ≡ s.len) × T (not (allows s flash)) × T (allows s shadow or allows s work) × FirstWindow s.len m.wrk None × NoAppBytes)
      (λ i. (i ≡ s.id) × T (not (allows s flash)) × T (not (allows s shadow or allows s work)) × NoAppBytes) never never

  -- A fixed place is refused with 11 where the kind does not match; with 12 where its room is not clear or the place holds one byte only.
  abbrev pub FixedWhy : Placement → Refusal → Type 0
  FixedWhy q =
      Reasons never never never (λ i. (i ≡ s.id) × T (not (kind_matches s.kind s.len (code_of q))))
      (λ i. (i ≡ s.id) × T (kind_matches s.kind s.len (code_of q)) × T (not (clear_room m (room s.len q) and alone s.len q)))

  abbrev pub WhyBy : Option Placement → Refusal → Type 0
  WhyBy None r = (T (is_bit s.kind) × BitWhy r) ⊎ (T (not (is_bit s.kind)) × BytesWhy r)
  WhyBy (Some q) r = FixedWhy q r

  abbrev pub Why : Refusal → Type 0
  Why r = WhyBy s.fixed r

  no_reason : (id : ℕ) (x : Option Placement) → WhyBy x (Misfit id) → ⊥
  no_reason id None (inl h) = h.1
  no_reason id None (inr h) = h.1
  no_reason id (Some q) h = h

  -- ---- A choice that is refused, for a work map of at most 512 bytes, as a file's W is

  module _ (w : length m.wrk ≤ 512) where
    work_bit_lem : NoAppBit → Bad BitWhy (work_bit s m.wrk)
    unfolding work_bit
    work_bit_lem full =
        by_pick (Bad BitWhy) (allows s shadow or allows s work) _ _
        (λ t. go t (high_bit 0 (length m.wrk) m.wrk) (high_bit_lem 0 (length m.wrk) m.wrk)) (λ t. (refl, t, full))
      where
        go : T (allows s shadow or allows s work) → (r : Option (ℕ × ℕ)) → HighBit 0 (length m.wrk) m.wrk r → Bad BitWhy (name_bit s r)
        go t None h = (refl, t, h, full)
        go t (Some (o, k)) h = bad_fitted BitWhy s.id o k _ (omega (arith, h.1)) (found_low 0 (length m.wrk) m.wrk o k h)

    choose_bit_lem : Bad BitWhy (choose_bit g s m)
    unfolding choose_bit
    choose_bit_lem =
        by_pick (Bad BitWhy) (allows s application) _ _ (λ _. go (high_bit g.lo g.hi m.app) (high_bit_lem g.lo g.hi m.app))
        (λ n. work_bit_lem (λ t. absurd (T_not (allows s application) n t)))
      where
        go : (r : Option (ℕ × ℕ)) → HighBit g.lo g.hi m.app r → Bad BitWhy (app_bit s r m.wrk)
        go None h = work_bit_lem (λ _. h)
        go (Some (o, k)) h = bad_fitted BitWhy s.id 0 k _ (omega arith) (found_low g.lo g.hi m.app o k h)

    work_bytes_lem : NoAppBytes → Bad BytesWhy (work_bytes s m.wrk)
    unfolding work_bytes
    work_bytes_lem full =
        by_pick (Bad BytesWhy) (allows s flash) _ _ (λ _. tt)
        (λ n. by_pick (Bad BytesWhy) (allows s shadow or allows s work) _ _ (λ t. go n t (first_window s.len m.wrk) (first_window_lem s.len m.wrk)) (λ t. (refl, n, t, full)))
      where
        go : T (not (allows s flash)) → T (allows s shadow or allows s work) → (r : Option ℕ) → FirstWindow s.len m.wrk r → Bad BytesWhy (name_bytes s r)
        go n t None h = (refl, n, t, h, full)
        go n t (Some o) h = bad_fitted BytesWhy s.id o 0 _ (omega (arith, h.3)) (omega arith)

    choose_bytes_lem : Bad BytesWhy (choose_bytes s m)
    unfolding choose_bytes
    choose_bytes_lem =
        by_pick (Bad BytesWhy) (allows s application) _ _ (λ t. go t (first_window s.len m.app) (first_window_lem s.len m.app))
        (λ n. work_bytes_lem (λ t. absurd (T_not (allows s application) n t)))
      where
        go : T (allows s application) → (r : Option ℕ) → FirstWindow s.len m.app r → Bad BytesWhy (app_bytes s r m.wrk)
        go t (Some o) h = tt
        go t None h = by_pick (Bad BytesWhy) s.direct _ _ (λ d. (refl, t, d, h)) (λ _. work_bytes_lem (λ _. h))

    bad_map : (P Q : Refusal → Type 0) → ((r : Refusal) → P r → Q r) → (c : Result Placement Refusal) → Bad P c → Bad Q c
    bad_map P Q f (Ok p) h = tt
    bad_map P Q f (Err r) h = f r h

    choose_by_lem : (x : Option Placement) → Bad (WhyBy x) (choose_by g s m x)
    unfolding choose_free choose_fixed
    choose_by_lem None =
        by_pick (Bad (WhyBy None)) (eqb s.kind a_carry and allows s carry_flag) _ _ (λ _. tt)
        (λ _. by_pick (Bad (WhyBy None)) (is_bit s.kind) _ _ (λ b. bad_map BitWhy (WhyBy None) (λ r h. inl (b, h)) (choose_bit g s m) choose_bit_lem)
        (λ b. bad_map BytesWhy (WhyBy None) (λ r h. inr (b, h)) (choose_bytes s m) choose_bytes_lem))
    choose_by_lem (Some q) =
        by_pick (Bad (FixedWhy q)) (kind_matches s.kind s.len (code_of q)) _ _
        (λ k. by_pick (Bad (FixedWhy q)) (clear_room m (room s.len q) and alone s.len q) _ _ (λ _. tt) (λ c. (refl, k, c))) (λ k. (refl, k))

    pub choose_why : Bad Why (choose g s m)
    unfolding choose
    choose_why = choose_by_lem s.fixed

-- ---- The first refusal stands

-- The storages before it were placed, and it is the next one's.
pub record FirstRefused (g : Given) (ss : List Storage) (x : State) (r : Refusal) : Type 0 where
  pub before : List Storage
  pub it : Storage
  pub rest : List Storage
  pub then : State
  pub split : ss ≡ before ++ it ∷ rest
  pub placed : place_from g before x ≡ done then
  pub why : Why g it then.maps r

done_not : {x : State} {r : Refusal} → done x ≡ refused r → ⊥
done_not e = subst Is e tt
  where
    Is : Outcome → Type 0
    Is (done x) = Unit {0}
    Is (refused r) = ⊥

abbrev refusal_of : Refusal → Outcome → Refusal
refusal_of d (done x) = d
refusal_of d (refused r) = r

step_why : (g : Given) (s : Storage) (x : State) (r : Refusal) → length x.maps.wrk ≤ 512 → step g s x ≡ refused r → Why g s x.maps r
unfolding step
step_why g s x r w = by (slot_for g s x.slots)
  where
    taken : (c : Result Placement Refusal) → Bad (Why g s x.maps) c → take_room s x c ≡ refused r → Why g s x.maps r
    taken (Ok p) h e = absurd (done_not e)
    taken (Err q) h e = subst (Why g s x.maps) (ap (refusal_of r) e) h

    by : (k : Option ℕ) → step_by g s x k ≡ refused r → Why g s x.maps r
    by (Some k) e = absurd (done_not e)
    by None e = taken (choose g s x.maps) (choose_why g s x.maps w) e

pub first_refused : (g : Given) (ss : List Storage) (x : State) (r : Refusal) → length x.maps.wrk ≤ 512 → place_from g ss x ≡ refused r → FirstRefused g ss x r
unfolding place_from
first_refused g [] x r w e = absurd (done_not e)
first_refused g (s ∷ ss) x r w e = go (step g s x) refl (step_sizes g (length x.maps.app) (length x.maps.wrk) s x (refl, refl)) (λ y v q. first_refused g ss y r v q) e
  where
    go : (c : Outcome) → step g s x ≡ c → After (Sizes (length x.maps.app) (length x.maps.wrk)) c
        → ((y : State) → length y.maps.wrk ≤ 512 → place_from g ss y ≡ refused r → FirstRefused g ss y r)
        → and_then c (λ y. place_from g ss y) ≡ refused r → FirstRefused g (s ∷ ss) x r
    go (refused q) c z ih e = record { before = []; it = s; rest = ss; then = x; split = refl; placed = refl; why = step_why g s x r w (c ∙ e) }
    go (done y) c z ih e = let h = ih y (omega (arith, z.1)) e in
        record {
          before = s ∷ h.before;
          it = h.it;
          rest = h.rest;
          then = h.then;
          split = ap {B = List Storage} (λ l. s ∷ l) h.split;
          placed = ap (λ (o : Outcome). and_then o (λ z. place_from g h.before z)) c ∙ h.placed;
          why = h.why;
        }

pub never_misfit : (g : Given) (a f w : ℕ) (ss : List Storage) (id : ℕ) → w ≤ 512 → ¬ (place g a f w ss ≡ refused (Misfit id))
unfolding place
never_misfit g a f w ss id l e =
    let h = first_refused g ss (start a f w) (Misfit id) (omega (arith, fresh_wrk a f w)) e in
    no_reason g h.it h.then.maps id h.it.fixed h.why
