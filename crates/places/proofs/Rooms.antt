-- Rooms in the two maps. A clear room holds no taken bit, and taking it takes its bits and no other, since the laws of one map (maps) say so of the map
-- that the room lies in, and the other map stays.
use mathlib.Core.Path.{◌≡◌, refl, sym, ap, ◌∙◌, subst}
use mathlib.Core.Logic.{◌⊎◌, inl, inr}
use mathlib.Core.Bool.{Bool, false}
use mathlib.Core.List.{List}
use Prim.Native.Nat.{ℕ, ◌+◌, ◌-◌, ◌≤◌, ◌<◌}
use native.Mathlib.Omega.{arith}
use lib.Dec.{T, eqb, ltb, leb, eqb→eq, ltb→lt, lt→ltb, leb→le, le→leb}
use lib.ListN.{length, get_or, replicate, length-append, length-replicate, get_or-append, get_or-replicate}
use borrow.Author.Tests.{eq-eqb, lt-ltb}
use Rattle.rows.specs.Row.{bit}
use Rattle.rows.proofs.Tests.{T_yes, T_no, and_l, and_r, and_in}
use Rattle.rows.proofs.Digit.{bit_zero}
use Rattle.storages.specs.declared.Space.{Space}
use Rattle.storages.specs.declared.Space.TheVariants.{App, Work}
use Rattle.storages.specs.declared.Room.{Room}
use Rattle.storages.specs.declared.Room.TheVariants.{Nowhere, Bytes, OneBit}
use Rattle.storages.specs.Room.{same, within}
use Rattle.maps.specs.Maps.{fill, set_bit}
use Rattle.maps.proofs.Laws.{clear_bytes_out, clear_bit_out, fill_length, fill_clear, fill_keep, fill_has, fill_only, bit_full, set_bit_length, set_bit_keep, set_bit_has, set_bit_only, set_bit_clear}
use Rattle.places.specs.declared.memory.Floor.{Floor}
use Rattle.places.specs.Memory.{Maps, map_of, put_map, fresh, clear_room, reserve, Solid}
use Rattle.places.specs.Legal.{size_of, Inside, Small}

-- Bit k of byte i of a space is taken.
unfoldable pub held : Maps → Space → ℕ → ℕ → Bool
held m sp i k = bit (get_or (map_of sp m) i 0) k

-- ---- The two maps, by space

same_eq : (q sp : Space) → T (same q sp) → q ≡ sp
same_eq App App t = refl
same_eq Work Work t = refl
same_eq App Work t = elim t [ ]
same_eq Work App t = elim t [ ]

map_same : (sp : Space) (x : List ℕ) (m : Maps) → map_of sp (put_map sp x m) ≡ x
map_same App x m = refl
map_same Work x m = refl

map_cases : (P : List ℕ → Type 0) (q sp : Space) (x : List ℕ) (m : Maps) → (T (same q sp) → q ≡ sp → P x) → P (map_of sp m) → P (map_of sp (put_map q x m))
map_cases P App App x m f g = f tt refl
map_cases P App Work x m f g = g
map_cases P Work App x m f g = g
map_cases P Work Work x m f g = f tt refl

map_length : (sp : Space) (m : Maps) (a w : ℕ) → length m.app ≡ a → length m.wrk ≡ w → length (map_of sp m) ≡ size_of sp a w
map_length App m a w p q = p
map_length Work m a w p q = q

-- ---- The bits of a room

pub in_nowhere : (sp : Space) (i k : ℕ) → T (within Nowhere sp i k) → ⊥
unfolding within
in_nowhere sp i k t = t

pub in_bytes : (q sp : Space) (o n i k : ℕ) → T (within (Bytes q o n) sp i k) → (q ≡ sp) × (o ≤ i) × (i < o + n) × (k < 8)
unfolding within
in_bytes q sp o n i k t = let u = and_r (same q sp) _ t in let v = and_r (leb o i) _ u in
    (same_eq q sp (and_l (same q sp) _ t), leb→le o i (and_l (leb o i) _ u), ltb→lt i (o + n) (and_l (ltb i (o + n)) _ v), ltb→lt k 8 (and_r (ltb i (o + n)) _ v))

pub in_bit : (q sp : Space) (o b i k : ℕ) → T (within (OneBit q o b) sp i k) → (q ≡ sp) × (i ≡ o) × (k ≡ b)
unfolding within
in_bit q sp o b i k t = let u = and_r (same q sp) _ t in
    (same_eq q sp (and_l (same q sp) _ t), eqb→eq i o (and_l (eqb i o) _ u), eqb→eq k b (and_r (eqb i o) _ u))

pub bytes_in_lem : (q sp : Space) (o n i k : ℕ) → T (same q sp) → o ≤ i → i < o + n → k < 8 → T (within (Bytes q o n) sp i k)
unfolding within
bytes_in_lem q sp o n i k s a b c = and_in (same q sp) _ s (and_in (leb o i) _ (le→leb o i a) (and_in (ltb i (o + n)) _ (lt→ltb i (o + n) b) (lt→ltb k 8 c)))

pub bit_in : (q sp : Space) (o b i k : ℕ) → T (same q sp) → i ≡ o → k ≡ b → T (within (OneBit q o b) sp i k)
unfolding within
bit_in q sp o b i k s e f = and_in (same q sp) _ s (and_in (eqb i o) _ (T_yes (eq-eqb i o e)) (T_yes (eq-eqb k b f)))

pub small_bit : (r : Room) → Small r → (sp : Space) (i k : ℕ) → T (within r sp i k) → k < 8
small_bit Nowhere b sp i k t = absurd (in_nowhere sp i k t)
small_bit (Bytes q o n) b sp i k t = (in_bytes q sp o n i k t).3
small_bit (OneBit q o v) b sp i k t = omega (arith, (in_bit q sp o v i k t).2)

-- ---- Clear rooms

pub clear_inside : (m : Maps) (r : Room) (a w : ℕ) → length m.app ≡ a → length m.wrk ≡ w → T (clear_room m r) → Small r → Inside a w r
unfolding clear_room
clear_inside m Nowhere a w p q c s = tt
clear_inside m (Bytes sp o n) a w p q c s = rw (← map_length sp m a w p q) (clear_bytes_out o n (map_of sp m) c).0
clear_inside m (OneBit sp o k) a w p q c s = (rw (← map_length sp m a w p q) (clear_bit_out o k (map_of sp m) c).0, s)

pub clear_free : (m : Maps) (r : Room) (sp : Space) (i k : ℕ) → T (clear_room m r) → T (within r sp i k) → T (held m sp i k) → ⊥
unfolding clear_room held
clear_free m Nowhere sp i k c t h = in_nowhere sp i k t
clear_free m (Bytes q o n) sp i k c t h = let y = in_bytes q sp o n i k t in
    T_no (zero_at y) (subst (λ (z : Space). T (bit (get_or (map_of z m) i 0) k)) (sym y.0) h)
  where
    zero_at : (q ≡ sp) × (o ≤ i) × (i < o + n) × (k < 8) → bit (get_or (map_of q m) i 0) k ≡ false
    zero_at y = let e : i ≡ o + (i - o) = omega (arith, y.1) in
        ap (λ (x : ℕ). bit (get_or (map_of q m) x 0) k) e
        ∙ ap (λ (x : ℕ). bit x k) ((clear_bytes_out o n (map_of q m) c).1 (i - o) (omega (arith, y.1, y.2))) ∙ bit_zero k
clear_free m (OneBit q o b) sp i k c t h = let y = in_bit q sp o b i k t in
    T_no (clear_bit_out o b (map_of q m) c).1
    (subst (λ (x : ℕ). T (bit (get_or (map_of q m) x 0) b)) y.1
    (subst (λ (x : ℕ). T (bit (get_or (map_of q m) i 0) x)) y.2 (subst (λ (z : Space). T (bit (get_or (map_of z m) i 0) k)) (sym y.0) h)))

-- ---- Taken rooms

pub reserve_keeps : (m : Maps) (r : Room) (sp : Space) (i k : ℕ) → T (clear_room m r) → T (held m sp i k) → T (held (reserve r m) sp i k)
unfolding reserve held clear_room
reserve_keeps m Nowhere sp i k c h = h
reserve_keeps m (Bytes q o n) sp i k c h =
    map_cases (λ x. T (bit (get_or x i 0) k)) q sp (fill o n (map_of q m)) m
    (λ _ e. fill_keep o n (map_of q m) i k (clear_bytes_out o n (map_of q m) c).1 (subst (λ (z : Space). T (bit (get_or (map_of z m) i 0) k)) (sym e) h)) h
reserve_keeps m (OneBit q o b) sp i k c h =
    map_cases (λ x. T (bit (get_or x i 0) k)) q sp (set_bit o b (map_of q m)) m
    (λ _ e. set_bit_keep o b (map_of q m) i k (clear_bit_out o b (map_of q m) c).0 (subst (λ (z : Space). T (bit (get_or (map_of z m) i 0) k)) (sym e) h)) h

pub reserve_takes : (m : Maps) (r : Room) (sp : Space) (i k : ℕ) → T (clear_room m r) → T (within r sp i k) → T (held (reserve r m) sp i k)
unfolding reserve held clear_room
reserve_takes m Nowhere sp i k c t = absurd (in_nowhere sp i k t)
reserve_takes m (Bytes q o n) sp i k c t = let y = in_bytes q sp o n i k t in
    subst (λ (z : Space). T (bit (get_or (map_of z (put_map q (fill o n (map_of q m)) m)) i 0) k)) y.0
    (rw (map_same q (fill o n (map_of q m)) m) (fill_has o n (map_of q m) i k (clear_bytes_out o n (map_of q m) c).0 y.1 y.2 y.3))
reserve_takes m (OneBit q o b) sp i k c t = let y = in_bit q sp o b i k t in
    subst (λ (z : Space). T (bit (get_or (map_of z (put_map q (set_bit o b (map_of q m)) m)) i 0) k)) y.0
    (rw (map_same q (set_bit o b (map_of q m)) m, y.1, y.2) (set_bit_has o b (map_of q m) (clear_bit_out o b (map_of q m) c).0))

pub reserve_only : (m : Maps) (r : Room) (sp : Space) (i k : ℕ) → T (clear_room m r) → T (held (reserve r m) sp i k) → T (held m sp i k) ⊎ T (within r sp i k)
unfolding reserve held clear_room
reserve_only m Nowhere sp i k c = λ h. inl h
reserve_only m (Bytes q o n) sp i k c =
    map_cases (λ x. T (bit (get_or x i 0) k) → T (bit (get_or (map_of sp m) i 0) k) ⊎ T (within (Bytes q o n) sp i k)) q sp (fill o n (map_of q m)) m there (λ h. inl h)
  where
    there : T (same q sp) → q ≡ sp → T (bit (get_or (fill o n (map_of q m)) i 0) k) → T (bit (get_or (map_of sp m) i 0) k) ⊎ T (within (Bytes q o n) sp i k)
    there s e h = or (fill_only o n (map_of q m) i k (clear_bytes_out o n (map_of q m) c).0 h)
      where
        or : T (bit (get_or (map_of q m) i 0) k) ⊎ ((o ≤ i) × (i < o + n) × (k < 8)) → T (bit (get_or (map_of sp m) i 0) k) ⊎ T (within (Bytes q o n) sp i k)
        or (inl x) = inl (subst (λ (z : Space). T (bit (get_or (map_of z m) i 0) k)) e x)
        or (inr x) = inr (bytes_in_lem q sp o n i k s x.0 x.1 x.2)
reserve_only m (OneBit q o b) sp i k c =
    map_cases (λ x. T (bit (get_or x i 0) k) → T (bit (get_or (map_of sp m) i 0) k) ⊎ T (within (OneBit q o b) sp i k)) q sp (set_bit o b (map_of q m)) m there (λ h. inl h)
  where
    there : T (same q sp) → q ≡ sp → T (bit (get_or (set_bit o b (map_of q m)) i 0) k) → T (bit (get_or (map_of sp m) i 0) k) ⊎ T (within (OneBit q o b) sp i k)
    there s e h = or (set_bit_only o b (map_of q m) i k (clear_bit_out o b (map_of q m) c).0 h)
      where
        or : T (bit (get_or (map_of q m) i 0) k) ⊎ ((i ≡ o) × (k ≡ b)) → T (bit (get_or (map_of sp m) i 0) k) ⊎ T (within (OneBit q o b) sp i k)
        or (inl x) = inl (subst (λ (z : Space). T (bit (get_or (map_of z m) i 0) k)) e x)
        or (inr x) = inr (bit_in q sp o b i k s x.0 x.1)

-- A byte that is clear afterwards was clear before: what is taken stays taken.
pub reserve_clear : (m : Maps) (r : Room) (sp : Space) (i : ℕ) → get_or (map_of sp (reserve r m)) i 0 ≡ 0 → get_or (map_of sp m) i 0 ≡ 0
unfolding reserve
reserve_clear m Nowhere sp i = λ h. h
reserve_clear m (Bytes q o n) sp i =
    map_cases (λ x. get_or x i 0 ≡ 0 → get_or (map_of sp m) i 0 ≡ 0) q sp (fill o n (map_of q m)) m
    (λ _ e h. subst (λ (z : Space). get_or (map_of z m) i 0 ≡ 0) e (fill_clear o n (map_of q m) i h)) (λ h. h)
reserve_clear m (OneBit q o b) sp i =
    map_cases (λ x. get_or x i 0 ≡ 0 → get_or (map_of sp m) i 0 ≡ 0) q sp (set_bit o b (map_of q m)) m
    (λ _ e h. subst (λ (z : Space). get_or (map_of z m) i 0 ≡ 0) e (set_bit_clear o b (map_of q m) i h)) (λ h. h)

-- So no byte below a floor becomes clear.
pub reserve_solid : (f : Floor) (m : Maps) (r : Room) (app wrk : List ℕ) → record { app = app; wrk = wrk } ≡ reserve r m → Solid f m.app m.wrk → Solid f app wrk
reserve_solid f m r app wrk e h =
    subst (λ (x : Maps). Solid f x.app x.wrk) (sym e) (λ j l z. h.0 j l (reserve_clear m r App j z), λ j l z. h.1 j l (reserve_clear m r Work j z))

-- Maps stay as long as they were.
pub reserve_length : (m : Maps) (r : Room) (sp : Space) → length (map_of sp (reserve r m)) ≡ length (map_of sp m)
unfolding reserve
reserve_length m Nowhere sp = refl
reserve_length m (Bytes q o n) sp =
    map_cases (λ x. length x ≡ length (map_of sp m)) q sp (fill o n (map_of q m)) m
    (λ _ e. fill_length o n (map_of q m) ∙ ap (λ (z : Space). length (map_of z m)) e) refl
reserve_length m (OneBit q o b) sp =
    map_cases (λ x. length x ≡ length (map_of sp m)) q sp (set_bit o b (map_of q m)) m
    (λ _ e. set_bit_length o b (map_of q m) ∙ ap (λ (z : Space). length (map_of z m)) e) refl

-- ---- The maps at the start

pub fresh_app : (a f w : ℕ) → f ≤ a → length (fresh a f w).app ≡ a
unfolding fresh
fresh_app a f w l = omega (arith, length-append {A = ℕ} (replicate f 255) (replicate (a - f) 0), length-replicate {A = ℕ} f 255, length-replicate {A = ℕ} (a - f) 0)

pub fresh_wrk : (a f w : ℕ) → length (fresh a f w).wrk ≡ w
unfolding fresh
fresh_wrk a f w = length-replicate w 0

-- The bytes below F are full.
pub fresh_low : (a f w i k : ℕ) → i < f → k < 8 → T (held (fresh a f w) App i k)
unfolding fresh held
fresh_low a f w i k l h =
    rw (get_or-append {A = ℕ} (replicate f 255) (replicate (a - f) 0) 0 i (omega (arith, length-replicate {A = ℕ} f 255)), get_or-replicate {A = ℕ} f i 255 0 l)
    (T_yes (bit_full k ∙ lt-ltb k 8 h))
