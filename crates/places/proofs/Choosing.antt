-- Where a storage that joins no slot goes. A fixed place is tested to be clear and a found one is clear by the search that finds it, so every chosen room is
-- clear, inside its map and legal. A search finds no bit over 7, and no offset past its map.
use Rattle.std.specs.Prelude.{Option, Some, None, Result, Ok, Err}
use mathlib.Core.Path.{◌≡◌, refl, sym, ◌∙◌, subst}
use mathlib.Core.Logic.{◌⊎◌, inl, inr}
use mathlib.Core.Bool.{Bool, true, false, not}
use mathlib.Core.List.{List}
use Prim.Native.Nat.{ℕ, ◌≤◌, ◌<◌}
use native.Mathlib.Omega.{arith, P}
use lib.Dec.{T, eqb, ltb}
use lib.ListN.{length, get_or}
use borrow.Author.Tests.{le-ltb}
use Rattle.rows.proofs.Tests.{T_yes, T_no}
use Rattle.fields.specs.Pick.{pick, pick_no, ◌and◌, ◌or◌}
use Rattle.records.specs.declared.Refusal.{Refusal}
use Rattle.storages.specs.declared.Placement.{Placement}
use Rattle.storages.specs.declared.Placement.TheVariants.{CarryFlag, ApplicationBit, ShadowStack, ShadowStackBit, WorkRamBit, WorkRam}
use Rattle.storages.specs.declared.Storage.{Storage}
use Rattle.storages.specs.declared.Space.{Space}
use Rattle.storages.specs.declared.Space.TheVariants.{App, Work}
use Rattle.storages.specs.declared.Room.TheVariants.{Bytes, OneBit}
use Rattle.storages.specs.Placement.{code_of}
use Rattle.storages.specs.Storage.{a_bit, a_carry, carry_flag, application, shadow, work, flash, allows, is_bit, kind_matches, alone}
use Rattle.storages.specs.Room.{room}
use Rattle.maps.specs.Maps.{first_window, FoundIn, high_bit, BitIn}
use Rattle.maps.proofs.Laws.{FirstWindow, first_window_lem, clear_out, clear_bytes_in, clear_bit_in, LowClear, low_clear_lem, HighBit, high_bit_lem}
use Rattle.places.specs.Memory.{Maps, map_of, clear_room}
use Rattle.places.specs.Place.{Given, choose_fixed, fitted, name_bit, name_bytes, work_bit, app_bit, choose_bit, work_bytes, app_bytes, choose_bytes, choose_free, choose_by, choose}
use Rattle.places.specs.Legal.{right_form, LegalBy, Inside, Small, FixedSmall}
use Rattle.places.proofs.Tests.{and_l, and_r, and_in, or_cases, or_r}
use Rattle.places.proofs.Rooms.{clear_inside}

-- What holds of a placement that is chosen, or of a refusal; the other case promises nothing.
abbrev pub Good : (Placement → Type 0) → Result Placement Refusal → Type 0
Good P (Ok p) = P p
Good P (Err r) = Unit {0}

abbrev pub Bad : (Refusal → Type 0) → Result Placement Refusal → Type 0
Bad P (Ok p) = Unit {0}
Bad P (Err r) = P r

pub good_map : (P Q : Placement → Type 0) → ((p : Placement) → P p → Q p) → (c : Result Placement Refusal) → Good P c → Good Q c
good_map P Q f (Ok p) h = f p h
good_map P Q f (Err r) h = tt

-- What holds of both choices holds of the choice.
pub by_pick : (P : Result Placement Refusal → Type 0) (b : Bool) (x y : Result Placement Refusal) → (T b → P x) → (T (not b) → P y) → P (pick b x y)
unfolding pick
by_pick P true x y f g = f tt
by_pick P false x y f g = g tt

good_fitted : (P : Placement → Type 0) (id o k : ℕ) (p : Placement) → P p → Good P (fitted id o k p)
unfolding fitted
good_fitted P id o k p h = by_pick (Good P) (ltb 7 k) _ _ (λ _. tt) (λ _. by_pick (Good P) (ltb 511 o) _ _ (λ _. tt) (λ _. h))

-- ---- What is chosen

module _ (g : Given) (s : Storage) (m : Maps) where
  -- The room is clear and has a bit of a byte, and the place is legal.
  abbrev pub Sits : Option Placement → Placement → Type 0
  Sits x p = T (clear_room m (room s.len p)) × Small (room s.len p) × LegalBy s p x

  bit_clear : (sp : Space) (lo hi o k : ℕ) → hi ≤ length (map_of sp m) → HighBit lo hi (map_of sp m) (Some (o, k)) → T (clear_room m (OneBit sp o k)) × (k < 8)
  unfolding clear_room
  bit_clear sp lo hi o k l h =
      let c : LowClear (get_or (map_of sp m) o 0) (Some k) = subst (LowClear (get_or (map_of sp m) o 0)) h.2 (low_clear_lem (get_or (map_of sp m) o 0)) in
      (clear_bit_in o k (map_of sp m) (omega (arith, h.1)) c.1, c.0)

  window_clear : (sp : Space) (n o : ℕ) → FirstWindow n (map_of sp m) (Some o) → T (clear_room m (Bytes sp o n))
  unfolding clear_room
  window_clear sp n o h = clear_bytes_in o n (map_of sp m) h.0 (clear_out n o (map_of sp m) h.1)

  form_bit : (c : ℕ) → T (is_bit s.kind) → T ((eqb c 4 or (eqb c 6 or eqb c 7)) or (eqb s.kind a_carry and eqb c 2)) → T (right_form s.kind c)
  unfolding right_form pick
  form_bit c b t = go (is_bit s.kind) b
    where
      go : (y : Bool) → T y → T (pick y ((eqb c 4 or (eqb c 6 or eqb c 7)) or (eqb s.kind a_carry and eqb c 2)) ((eqb c 3 or eqb c 5) or (eqb c 10 or eqb c 11)))
      go true y = t
      go false y = elim y [ ]

  form_bytes : (c : ℕ) → T (not (is_bit s.kind)) → T ((eqb c 3 or eqb c 5) or (eqb c 10 or eqb c 11)) → T (right_form s.kind c)
  unfolding right_form pick
  form_bytes c b t = go (is_bit s.kind) b
    where
      go : (y : Bool) → T (not y) → T (pick y ((eqb c 4 or (eqb c 6 or eqb c 7)) or (eqb s.kind a_carry and eqb c 2)) ((eqb c 3 or eqb c 5) or (eqb c 10 or eqb c 11)))
      go false y = t
      go true y = elim y [ ]

  -- What is found in the work map is named by the first of shadow and work that is allowed.
  named : (P : Placement → Type 0) (p q : Placement) → T (allows s shadow or allows s work) → (T (allows s shadow) → P p) → (T (allows s work) → P q) → P (pick (allows s shadow) p q)
  unfolding pick
  named P p q t f h = go (allows s shadow) refl (or_cases (allows s shadow) (allows s work) t)
    where
      go : (b : Bool) → allows s shadow ≡ b → T (allows s shadow) ⊎ T (allows s work) → P (pick b p q)
      go true e u = f (T_yes e)
      go false e (inl u) = absurd (T_no e u)
      go false e (inr u) = h u

  work_bit_lem : T (is_bit s.kind) → Good (Sits None) (work_bit s m.wrk)
  unfolding work_bit pick
  work_bit_lem b =
      by_pick (Good (Sits None)) (allows s shadow or allows s work) _ _
      (λ t. go t (high_bit 0 (length m.wrk) m.wrk) (high_bit_lem 0 (length m.wrk) m.wrk)) (λ _. tt)
    where
      go : T (allows s shadow or allows s work) → (r : Option (ℕ × ℕ)) → HighBit 0 (length m.wrk) m.wrk r → Good (Sits None) (name_bit s r)
      go t None h = tt
      go t (Some (o, k)) h = let c = bit_clear Work 0 (length m.wrk) o k (omega arith) h in
          good_fitted (Sits None) s.id o k _
          (named (Sits None) (ShadowStackBit o k) (WorkRamBit o k) t (λ u. (c.0, c.1, (u, form_bit 6 b tt))) (λ u. (c.0, c.1, (u, form_bit 7 b tt))))

  choose_bit_lem : g.hi ≤ length m.app → T (is_bit s.kind) → Good (Sits None) (choose_bit g s m)
  unfolding choose_bit clear_room pick
  choose_bit_lem l b =
      by_pick (Good (Sits None)) (allows s application) _ _ (λ t. go t (high_bit g.lo g.hi m.app) (high_bit_lem g.lo g.hi m.app)) (λ _. work_bit_lem b)
    where
      go : T (allows s application) → (r : Option (ℕ × ℕ)) → HighBit g.lo g.hi m.app r → Good (Sits None) (app_bit s r m.wrk)
      go t None h = work_bit_lem b
      go t (Some (o, k)) h = let c = bit_clear App g.lo g.hi o k l h in
          good_fitted (Sits None) s.id 0 k (ApplicationBit o k) (c.0, c.1, (t, form_bit 4 b tt))

  work_bytes_lem : T (not (is_bit s.kind)) → Good (Sits None) (work_bytes s m.wrk)
  unfolding work_bytes clear_room pick
  work_bytes_lem b =
      by_pick (Good (Sits None)) (allows s flash) _ _ (λ t. (tt, tt, (t, form_bytes 11 b tt)))
      (λ _. by_pick (Good (Sits None)) (allows s shadow or allows s work) _ _ (λ t. go t (first_window s.len m.wrk) (first_window_lem s.len m.wrk)) (λ _. tt))
    where
      go : T (allows s shadow or allows s work) → (r : Option ℕ) → FirstWindow s.len m.wrk r → Good (Sits None) (name_bytes s r)
      go t None h = tt
      go t (Some o) h = let c = window_clear Work s.len o h in
          good_fitted (Sits None) s.id o 0 _
          (named (Sits None) (ShadowStack o) (WorkRam o) t (λ u. (c, tt, (u, form_bytes 5 b tt))) (λ u. (c, tt, (u, form_bytes 10 b tt))))

  choose_bytes_lem : T (not (is_bit s.kind)) → Good (Sits None) (choose_bytes s m)
  unfolding choose_bytes clear_room pick
  choose_bytes_lem b =
      by_pick (Good (Sits None)) (allows s application) _ _ (λ t. go t (first_window s.len m.app) (first_window_lem s.len m.app)) (λ _. work_bytes_lem b)
    where
      go : T (allows s application) → (r : Option ℕ) → FirstWindow s.len m.app r → Good (Sits None) (app_bytes s r m.wrk)
      go t (Some o) h = (window_clear App s.len o h, tt, (t, form_bytes 3 b tt))
      go t None h = by_pick (Good (Sits None)) s.direct _ _ (λ _. tt) (λ _. work_bytes_lem b)

  choose_free_lem : g.hi ≤ length m.app → Good (Sits None) (choose_free g s m)
  unfolding choose_free clear_room is_bit
  choose_free_lem l =
      by_pick (Good (Sits None)) (eqb s.kind a_carry and allows s carry_flag) _ _ flag
      (λ _. by_pick (Good (Sits None)) (is_bit s.kind) _ _ (choose_bit_lem l) choose_bytes_lem)
    where
      flag : T (eqb s.kind a_carry and allows s carry_flag) → Sits None CarryFlag
      flag t = let c = and_l (eqb s.kind a_carry) (allows s carry_flag) t in
          let form = or_r (eqb 2 4 or (eqb 2 6 or eqb 2 7)) (eqb s.kind a_carry and eqb 2 2) (and_in (eqb s.kind a_carry) (eqb 2 2) c tt) in
          (tt, tt, (and_r (eqb s.kind a_carry) (allows s carry_flag) t, form_bit 2 (or_r (eqb s.kind a_bit) (eqb s.kind a_carry) c) form))

  choose_fixed_lem : (q : Placement) → Small (room s.len q) → Good (Sits (Some q)) (choose_fixed s q m)
  unfolding choose_fixed
  choose_fixed_lem q b =
      by_pick (Good (Sits (Some q))) (kind_matches s.kind s.len (code_of q)) _ _
      (λ t. by_pick (Good (Sits (Some q))) (clear_room m (room s.len q) and alone s.len q) _ _
      (λ c. (and_l (clear_room m (room s.len q)) (alone s.len q) c, b, (refl, t))) (λ _. tt)) (λ _. tt)

  pub choose_sits : g.hi ≤ length m.app → FixedSmall s.len s.fixed → Good (Sits s.fixed) (choose g s m)
  unfolding choose
  choose_sits l b = go s.fixed b
    where
      go : (x : Option Placement) → FixedSmall s.len x → Good (Sits x) (choose_by g s m x)
      go None b = choose_free_lem l
      go (Some q) b = choose_fixed_lem q b

  pub choose_inside : g.hi ≤ length m.app → FixedSmall s.len s.fixed → Good (λ p. Inside (length m.app) (length m.wrk) (room s.len p)) (choose g s m)
  choose_inside l b =
      good_map (Sits s.fixed) (λ p. Inside (length m.app) (length m.wrk) (room s.len p))
      (λ p h. clear_inside m (room s.len p) (length m.app) (length m.wrk) refl refl h.0 h.1) (choose g s m) (choose_sits l b)

-- ---- What is found fits a placement

pub found_low : (lo hi : ℕ) (l : List ℕ) (o k : ℕ) → HighBit lo hi l (Some (o, k)) → k < 8
found_low lo hi l o k h = let c : LowClear (get_or l o 0) (Some k) = subst (LowClear (get_or l o 0)) h.2 (low_clear_lem (get_or l o 0)) in c.0

pub fitted_spot : (id o k : ℕ) (p : Placement) → o < 512 → k < 8 → fitted id o k p ≡ Ok p
unfolding fitted
fitted_spot id o k p h l = pick_no (ltb 7 k) _ _ (le-ltb 7 k (omega arith)) ∙ pick_no (ltb 511 o) _ _ (le-ltb 511 o (omega arith))

pub bad_fitted : (P : Refusal → Type 0) (id o k : ℕ) (p : Placement) → o < 512 → k < 8 → Bad P (fitted id o k p)
bad_fitted P id o k p h l = subst (Bad P) (sym (fitted_spot id o k p h l)) tt

-- What lies below a map's length lies below a greater number.
pub found_below : (m n : ℕ) (r : Option ℕ) → m ≤ n → FoundIn m r → FoundIn n r
found_below m n None l h = tt
found_below m n (Some o) l h = omega arith

pub bit_below : (m n : ℕ) (r : Option (ℕ × ℕ)) → m ≤ n → BitIn m r → BitIn n r
bit_below m n None l h = tt
bit_below m n (Some (o, k)) l h = (omega (arith, h.0), h.1)
