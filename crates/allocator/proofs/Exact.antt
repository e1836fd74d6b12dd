-- The maps hold nothing but the low bytes and what the placed storages touch: a step that takes room takes the bits of that room and no other, and one that
-- joins a slot takes none. So a search that fails fails for want of room.
use Rattle.std.specs.Prelude.{Option, Some, None, Result, Ok, Err}
use mathlib.Core.Path.{◌≡◌, sym, ap, ◌∙◌, subst}
use mathlib.Core.Logic.{◌⊎◌, inl, inr}
use mathlib.Core.Bool.{Bool, false}
use mathlib.Core.List.{List, [], ◌∷◌, ◌++◌}
use Prim.Native.Nat.{ℕ, zero, suc, ◌+◌, ◌-◌, ◌^◌, ◌≤◌, ◌<◌}
use native.Mathlib.Omega.{arith}
use native.Mathlib.Nat.{not-suc-le-zero, le_of_suc-le-suc, pow-suc}
use native.Mathlib.Decide.{dec_lt}
use lib.Dec.{T}
use lib.ListN.{length, get_or, replicate}
use Rattle.rows.specs.Row.{bit}
use Rattle.rows.proofs.Tests.{T_yes, T_no, T_false}
use Rattle.rows.proofs.Digit.{bit_eq, bit_zero, word_ext}
use Rattle.rows.proofs.Members.{get_or_none}
use Rattle.fields.specs.Pick.{pick, All}
use Rattle.storages.specs.declared.Storage.{Storage}
use Rattle.storages.specs.declared.Space.{Space}
use Rattle.storages.specs.declared.Space.TheVariants.{App, Work}
use Rattle.storages.specs.Storage.{tries}
use Rattle.storages.specs.Room.{room, within, touches}
use Rattle.units.specs.Sets.{any}
use Rattle.maps.proofs.Laws.{FirstWindow, clear_in, LowClear, low_clear_lem, HighBit}
use Rattle.places.specs.Memory.{Maps, map_of, fresh}
use Rattle.places.specs.Place.{Given, slot_for, choose, Placed, State, Outcome, done, refused, take_room, step_by, step, start, place}
use Rattle.places.specs.Legal.{FixedSmall}
use Rattle.places.proofs.Tests.{or_cases, any_left, any_last}
use Rattle.places.proofs.Rooms.{held, reserve_only}
use Rattle.turns.proofs.Turns.{After, steps_keep}
use Rattle.places.proofs.Choosing.{Good, Sits, choose_sits}
use Rattle.allocator.proofs.Keeping.{room_of, Covers, Keeps, start_keeps}
use Rattle.allocator.proofs.Taking.{step_keeps}
use Rattle.storages.specs.declared.Placement.{Placement}
use Rattle.records.specs.declared.Refusal.{Refusal}

-- Some placed storage touches the bit.
unfoldable pub touched : List Placed → Space → ℕ → ℕ → Bool
touched ys sp i k = any (λ y. touches y.what y.spot sp i k) ys

-- A byte of application RAM below F.
abbrev pub Low : ℕ → Space → ℕ → Type 0
Low f App i = i < f
Low f Work i = ⊥

abbrev pub Taken : ℕ → List Placed → Space → ℕ → ℕ → Type 0
Taken f ys sp i k = Low f sp i ⊎ T (touched ys sp i k)

-- What the maps hold is low or touched.
abbrev pub Exact : ℕ → State → Type 0
Exact f x = (sp : Space) (i k : ℕ) → T (held x.maps sp i k) → Taken f x.placed sp i k

-- ---- The start

above : (f n i : ℕ) → f ≤ i → get_or {A = ℕ} (replicate f 255 ++ replicate n 0) i 0 ≡ 0
above zero n i l = get_or_none n i
above (suc f) n zero l = absurd (not-suc-le-zero l)
above (suc f) n (suc i) l = above f n i (le_of_suc-le-suc l)

pub start_exact : (a f w : ℕ) → Exact f (start a f w)
unfolding fresh held
start_exact a f w Work i k t = absurd (T_no (ap (λ (b : ℕ). bit b k) (get_or_none w i) ∙ bit_zero k) t)
start_exact a f w App i k t = go (dec_lt i f)
  where
    go : Dec (i < f) → Taken f [] App i k
    go (yes l) = inl l
    go (no l) = absurd (T_no (ap (λ (b : ℕ). bit b k) (above f (a - f) i (omega arith)) ∙ bit_zero k) t)

-- ---- A step

wider : (f : ℕ) (ys : List Placed) (y : Placed) (sp : Space) (i k : ℕ) → Taken f ys sp i k → Taken f (ys ++ (y ∷ [])) sp i k
unfolding touched
wider f ys y sp i k (inl l) = inl l
wider f ys y sp i k (inr t) = inr (any_left (λ z. touches z.what z.spot sp i k) ys (y ∷ []) t)

its_own : (f : ℕ) (ys : List Placed) (y : Placed) (sp : Space) (i k : ℕ) → T (within (room_of y) sp i k) → Taken f (ys ++ (y ∷ [])) sp i k
unfolding touched touches
its_own f ys y sp i k t = inr (any_last (λ z. touches z.what z.spot sp i k) ys y t)

pub step_exact : (g : Given) (a f w : ℕ) (s : Storage) (x : State) → g.hi ≤ a → FixedSmall s.len s.fixed → Keeps g a f w x → Exact f x → After (Exact f) (step g s x)
unfolding step
step_exact g a f w s x l b h e = by (slot_for g s x.slots)
  where
    takes : (r : Result Placement Refusal) → Good (Sits g s x.maps s.fixed) r → After (Exact f) (take_room s x r)
    takes (Err r) c = tt
    takes (Ok p) c = λ sp i k t. go sp i k (reserve_only x.maps (room s.len p) sp i k c.0 t)
      where
        new : Placed
        new = record { what = s; spot = p; slot = pick (tries s) (Some (length x.slots)) None }

        go : (sp : Space) (i k : ℕ) → T (held x.maps sp i k) ⊎ T (within (room s.len p) sp i k) → Taken f (x.placed ++ (new ∷ [])) sp i k
        go sp i k (inl u) = wider f x.placed new sp i k (e sp i k u)
        go sp i k (inr u) = its_own f x.placed new sp i k u

    by : (r : Option ℕ) → After (Exact f) (step_by g s x r)
    by (Some k) = λ sp i n t. wider f x.placed _ sp i n (e sp i n t)
    by None = takes (choose g s x.maps) (choose_sits g s x.maps (omega (arith, h.app_size)) b)

-- ---- The maps are exact

covered_held : (m : Maps) (ys : List Placed) → All (λ y. Covers m (room_of y)) ys → (sp : Space) (i k : ℕ) → T (touched ys sp i k) → T (held m sp i k)
unfolding touched touches any
covered_held m (y ∷ ys) c sp i k t = go (or_cases (within (room_of y) sp i k) (touched ys sp i k) t) (covered_held m ys c.1 sp i k)
  where
    go : T (within (room_of y) sp i k) ⊎ T (touched ys sp i k) → (T (touched ys sp i k) → T (held m sp i k)) → T (held m sp i k)
    go (inl u) ih = c.0 sp i k u
    go (inr u) ih = ih u
covered_held m [] c sp i k t = elim t [ ]

-- The other way round: what is low or touched is held.
pub taken_held : (g : Given) (a f w : ℕ) (x : State) → Keeps g a f w x → (sp : Space) (i k : ℕ) → k < 8 → Taken f x.placed sp i k → T (held x.maps sp i k)
taken_held g a f w x h App i k l (inl b) = h.low i k b l
taken_held g a f w x h Work i k l (inl b) = absurd b
taken_held g a f w x h sp i k l (inr t) = covered_held x.maps x.placed h.covered sp i k t

pub place_exact : (g : Given) (a f w : ℕ) (ss : List Storage) (x : State) → f ≤ a → g.hi ≤ a → All (λ s. FixedSmall s.len s.fixed) ss
    → place g a f w ss ≡ done x → Keeps g a f w x × Exact f x
unfolding place
place_exact g a f w ss x l m b e =
    subst (After Both) e (steps_keep Both (λ s. FixedSmall s.len s.fixed) g both ss b (start a f w) (start_keeps g a f w l, start_exact a f w))
  where
    Both : State → Type 0
    Both y = Keeps g a f w y × Exact f y

    join : (r : Outcome) → After (Keeps g a f w) r → After (Exact f) r → After Both r
    join (done y) p q = (p, q)
    join (refused r) p q = tt

    both : (s : Storage) (y : State) → FixedSmall s.len s.fixed → Both y → After Both (step g s y)
    both s y c h = join (step g s y) (step_keeps g a f w s y m c h.0) (step_exact g a f w s y m c h.0 h.1)

-- ---- A search that fails

lt_pow : (n : ℕ) → n < 2 ^ n
lt_pow zero = omega arith
lt_pow (suc n) = omega (arith, lt_pow n, pow-suc 2 n)

-- A number without bits is 0.
no_bits : (b : ℕ) → ((k : ℕ) → bit b k ≡ false) → b ≡ 0
no_bits b h = word_ext b b 0 (lt_pow b) (omega (arith, lt_pow b)) (λ k _. bit_eq b 0 k (h k ∙ sym (bit_zero k)))

-- No window of n bytes is free of low bytes and of touched bits.
pub no_window_free : (f n : ℕ) (x : State) (sp : Space) → Exact f x → FirstWindow n (map_of sp x.maps) None
    → (o : ℕ) → o < length (map_of sp x.maps) → o + n ≤ length (map_of sp x.maps)
    → ((i k : ℕ) → o ≤ i → i < o + n → Taken f x.placed sp i k → ⊥) → ⊥
unfolding held
no_window_free f n x sp e none o l b free =
    none o l (clear_in n o (map_of sp x.maps) b (λ j p. no_bits _ (λ k. T_false _ (λ t. free (o + j) k (omega arith) (omega arith) (e sp (o + j) k t)))))

-- Each bit of a range without a clear bit is low or touched.
pub no_bit_free : (f lo hi : ℕ) (x : State) (sp : Space) → Exact f x → HighBit lo hi (map_of sp x.maps) None
    → (i k : ℕ) → lo ≤ i → i < hi → k < 8 → Taken f x.placed sp i k
unfolding held
no_bit_free f lo hi x sp e h i k l b c =
    let full : LowClear (get_or (map_of sp x.maps) i 0) None = subst (LowClear (get_or (map_of sp x.maps) i 0)) (h i l b) (low_clear_lem (get_or (map_of sp x.maps) i 0)) in
    e sp i k (T_yes (full k c))
