-- The walk over a lent list by the marks of its slots. Bits are visited from the lowest, and a slot that does not suit loses its bit: so a marked slot
-- below the lowest bit that is left does not suit, and the first that suits is found. Word after word that is the first of the list.
use Rattle.std.proofs.Common.{◌≡◌, ◌≢◌, ℕ, zero, suc, ◌+◌, ◌-◌, ◌*◌, ◌^◌, ◌%◌, ◌≤◌, ◌<◌, Bool, true, false, List, min, length, get_or, Some, None, refl, sym, ap, ap₂, ◌∙◌, arith}
use mathlib.Core.Logic.{◌⊎◌, inl, inr}
use native.Mathlib.Decide.{ℕ_discrete}
use Rattle.std.specs.Int.{bit_at, w64, bit_not, trailing_zeros}
use Rattle.std.specs.Int.RustNames.{bit_and}
use Rattle.std.proofs.lemmas.Nat.{and_le_l}
use Rattle.std.proofs.lemmas.Nat.Bits.{bit_at-zero, bit_at_and, bit_at-lt, bit_at_clear_same, bit_at_clear_other, bit_at-trailing_zeros}
use lib.Dec.{eqb}
use borrow.Author.Tests.{eqb-true, eq-eqb}
use Rattle.rows.specs.Row.{digit, bit, member_at}
use Rattle.fields.specs.Pick.{pick, pick_yes, pick_no, ◌and◌}
use Rattle.rows.proofs.Rows.{lt_or_ge}
use Rattle.storages.specs.declared.Storage.{Storage}
use Rattle.slots.specs.declared.Slot.{Slot}
use Rattle.slots.specs.Slots.{no_slot, suits, passes, first_passing, NoneMarked, FirstMarked}
use Rattle.slots.proofs.Laws.{inside_same, and_false, passing_is, passing_none}

-- A bit by std's word for it.
bit_set : (n i : ℕ) → bit n i ≡ true → bit_at n i ≡ 1
unfolding bit digit
bit_set n i e = eqb-true _ _ e

set_bit : (n i : ℕ) → bit_at n i ≡ 1 → bit n i ≡ true
unfolding bit digit
set_bit n i e = eq-eqb _ _ e

same_bit : (m n i : ℕ) → bit_at m i ≡ bit_at n i → bit m i ≡ bit n i
unfolding bit digit
same_bit m n i e = ap (λ (d : ℕ). eqb d 1) e

-- What is left of a word's marks: each is one of them, and a marked slot whose bit is gone does not suit.
pub record Walked (s : Storage) (ts : List Slot) (base word marks left : ℕ) : Type 0 where
  pub marked : (j : ℕ) → bit left j ≡ true → bit marks j ≡ true
  pub gone : (j i : ℕ) → j < 64 → bit marks j ≡ true → base + i ≡ word + j → i < length ts → (bit left j ≡ true) ⊎ (suits s (get_or ts i no_slot) ≡ false)

pub walk_start : (s : Storage) (ts : List Slot) (base word marks : ℕ) → Walked s ts base word marks marks
walk_start s ts base word marks = record { marked = λ j e. e; gone = λ j i h e q l. inl e }

module _ {s : Storage} {ts : List Slot} {base word marks left : ℕ} (v : Walked s ts base word marks left) where
  -- No bit is left.
  pub walk_end : left ≡ 0 → NoneMarked s ts base word marks 64
  walk_end z j i h e q l = go (v.gone j i h e q l)
    where
      go : (bit left j ≡ true) ⊎ (suits s (get_or ts i no_slot) ≡ false) → suits s (get_or ts i no_slot) ≡ false
      go (inl b) = let one = bit_set left j b in absurd (omega (arith, one, ap (λ (n : ℕ). bit_at n j) z, bit_at-zero j))
      go (inr f) = f

  module _ (t : ℕ) (is : t ≡ trailing_zeros w64 left) (some : 0 < left) (fits : left < 2 ^ 64) where
    lowest : (t < 64) × (bit_at left t ≡ 1) × ((i : ℕ) → i < t → bit_at left i ≡ 0)
    lowest = rw is (bit_at-trailing_zeros w64 left some fits)

    pub low : t < 64
    low = lowest.0

    -- Below the lowest bit that is left nothing suits.
    below : NoneMarked s ts base word marks t
    below j i h e q l = go (v.gone j i (omega (arith, low)) e q l)
      where
        go : (bit left j ≡ true) ⊎ (suits s (get_or ts i no_slot) ≡ false) → suits s (get_or ts i no_slot) ≡ false
        go (inl b) = absurd (omega (arith, bit_set left j b, lowest.2 j h))
        go (inr f) = f

    pub walk_past : (k : ℕ) → base + k ≡ word + t → length ts ≤ k → NoneMarked s ts base word marks 64
    walk_past k p past j i h e q l = below j i (omega arith) e q l

    pub walk_found : (k : ℕ) (d : Slot) (r : Bool) → base + k ≡ word + t → k < length ts → r ≡ suits s (get_or ts k d) → r ≡ true → FirstMarked s ts base word marks (Some k)
    walk_found k d r p l e y =
        (t, p, low, l, v.marked t (set_bit left t lowest.1), ap (suits s) (inside_same ts k no_slot d l) ∙ sym e ∙ y, below)

    module _ (left' : ℕ) (cleared : left' ≡ bit_and left (bit_not w64 (1 * 2 ^ t % 2 ^ 64))) where
      clear_here : bit_at left' t ≡ 0
      clear_here = rw cleared (bit_at_clear_same w64 left t low)

      clear_other : (i : ℕ) → i < 64 → i ≢ t → bit_at left' i ≡ bit_at left i
      clear_other i h n = rw cleared (bit_at_clear_other w64 left t low i h n)

      pub walk_smaller : left' < left
      walk_smaller = go (lt_or_ge left' left)
        where
          go : (left' < left) ⊎ (left ≤ left') → left' < left
          go (inl h) = h
          go (inr h) =
              let same : left' ≡ left = omega (arith, cleared, and_le_l left (bit_not w64 (1 * 2 ^ t % 2 ^ 64))) in
              absurd (omega (arith, lowest.1, clear_here, ap (λ (m : ℕ). bit_at m t) same))

      -- No slot of the bit suits: it goes.
      drop : ((i : ℕ) → base + i ≡ word + t → i < length ts → suits s (get_or ts i no_slot) ≡ false) → Walked s ts base word marks left'
      drop no_suit =
          record {
            marked = λ j b. v.marked j (set_bit left j (omega (arith, bit_set left' j b, bit_at-lt left j, ap (λ (m : ℕ). bit_at m j) cleared, bit_at_and left (bit_not w64 (1 * 2 ^ t % 2 ^ 64)) j)));
            gone = λ j i h b q l. go j i h b q l (ℕ_discrete j t);
          }
        where
          go : (j i : ℕ) → j < 64 → bit marks j ≡ true → base + i ≡ word + j → i < length ts → Dec (j ≡ t) → (bit left' j ≡ true) ⊎ (suits s (get_or ts i no_slot) ≡ false)
          go j i h b q l (yes z) = inr (no_suit i (omega arith) l)
          go j i h b q l (no z) = still (v.gone j i h b q l)
            where
              still : (bit left j ≡ true) ⊎ (suits s (get_or ts i no_slot) ≡ false) → (bit left' j ≡ true) ⊎ (suits s (get_or ts i no_slot) ≡ false)
              still (inl y) = inl (same_bit left' left j (clear_other j h z) ∙ y)
              still (inr f) = inr f

      pub walk_next : (k : ℕ) (d : Slot) (r : Bool) → base + k ≡ word + t → k < length ts → r ≡ suits s (get_or ts k d) → r ≡ false → Walked s ts base word marks left'
      walk_next k d r p l e n = drop (λ i q h. ap (λ (m : ℕ). suits s (get_or ts m no_slot)) (omega arith) ∙ ap (suits s) (inside_same ts k no_slot d l) ∙ sym e ∙ n)

      -- The bit stands for a number below that of the list's first slot.
      pub walk_under : word + t < base → Walked s ts base word marks left'
      walk_under u = drop (λ i q h. absurd (omega arith))

-- ---- Word after word

-- A bit of both words.
both : (x y : ℕ) → x < 2 → y < 2 → eqb (min x y) 1 ≡ (eqb x 1 and eqb y 1)
unfolding pick
both zero zero h l = refl
both zero (suc zero) h l = refl
both (suc zero) zero h l = refl
both (suc zero) (suc zero) h l = refl
both (suc (suc x)) y h l = absurd (omega arith)
both zero (suc (suc y)) h l = absurd (omega arith)
both (suc zero) (suc (suc y)) h l = absurd (omega arith)

bit_both : (a b i : ℕ) → bit (bit_and a b) i ≡ (bit a i and bit b i)
unfolding bit digit
bit_both a b i = ap (λ (d : ℕ). eqb d 1) (bit_at_and a b i) ∙ both (bit_at a i) (bit_at b i) (bit_at-lt a i) (bit_at-lt b i)

-- Number 64 * w + i of a row is bit i of word w.
member_bit_at : (row : List ℕ) (w i : ℕ) → i < 64 → member_at row 0 (w * 64 + i) ≡ bit (get_or row w 0) i
unfolding member_at
member_bit_at row w i h = ap₂ (λ (j b : ℕ). bit (get_or row j 0) b) (omega arith) (omega arith)

module _ (s : Storage) (free chosen : List ℕ) (ts : List Slot) (base : ℕ) where
  abbrev fits_in : ℕ → Slot → Bool
  fits_in i = passes s free chosen (base + i)

  -- Of the slots whose number is below m none passes.
  abbrev pub Missed : ℕ → Type 0
  Missed m = (i : ℕ) → base + i < m → i < length ts → fits_in i (get_or ts i no_slot) ≡ false

  module _ (w marks : ℕ) (is : marks ≡ bit_and (get_or free w 0) (get_or chosen w 0)) where
    -- A slot passes that suits and that the word marks.
    passes_marked : (i b : ℕ) (t : Slot) → b < 64 → base + i ≡ w * 64 + b → fits_in i t ≡ (suits s t and bit marks b)
    unfolding passes
    passes_marked i b t h q =
        ap (λ (n : ℕ). suits s t and (member_at free 0 n and member_at chosen 0 n)) q
        ∙ ap₂ (λ (x y : Bool). suits s t and (x and y)) (member_bit_at free w b h) (member_bit_at chosen w b h)
        ∙ ap (λ (x : Bool). suits s t and x) (sym (bit_both (get_or free w 0) (get_or chosen w 0) b) ∙ ap (λ (m : ℕ). bit m b) (sym is))

    -- Below bit b of the word none passes.
    word_missed : (b : ℕ) → b ≤ 64 → Missed (w * 64) → NoneMarked s ts base (w * 64) marks b → Missed (w * 64 + b)
    unfolding pick
    word_missed b few missed none i h l = go (lt_or_ge (base + i) (w * 64))
      where
        at : (j : ℕ) → j < b → base + i ≡ w * 64 + j → (t : Bool) → bit marks j ≡ t → fits_in i (get_or ts i no_slot) ≡ false
        at j h q true e = passes_marked i j _ (omega arith) q ∙ pick_no _ _ _ (none j i h e q l)
        at j h q false e =
            passes_marked i j _ (omega arith) q ∙ ap (λ (t : Bool). suits s (get_or ts i no_slot) and t) e ∙ and_false (suits s (get_or ts i no_slot))

        go : (base + i < w * 64) ⊎ (w * 64 ≤ base + i) → fits_in i (get_or ts i no_slot) ≡ false
        go (inl a) = missed i a l
        go (inr a) = at (base + i - w * 64) (omega arith) (omega arith) (bit marks (base + i - w * 64)) refl

    -- The word marks one that suits: it is the first that passes.
    pub word_hit : (k : ℕ) → Missed (w * 64) → FirstMarked s ts base (w * 64) marks (Some k) → Some k ≡ first_passing fits_in ts (length ts)
    word_hit k missed (b, q, low, l, m, y, none) =
        sym (passing_is fits_in ts (length ts) k l (passes_marked k b _ low q ∙ pick_yes _ _ _ y ∙ m)
        (λ j h. word_missed b (omega arith) missed none j (omega arith) (omega arith)))

    -- It marks none that suits.
    pub word_past : Missed (w * 64) → FirstMarked s ts base (w * 64) marks None → Missed ((w + 1) * 64)
    word_past missed none i h l = word_missed 64 (omega arith) missed none i (omega arith) l

    -- It marks none at all.
    pub word_unmarked : Missed (w * 64) → marks ≡ 0 → Missed ((w + 1) * 64)
    word_unmarked missed z = word_past missed (λ j i h e q l. absurd (omega (arith, bit_set marks j e, ap (λ (n : ℕ). bit_at n j) z, bit_at-zero j)))

  -- All words are gone through.
  pub words_past : (w : ℕ) → 4 ≤ w → base + length ts ≤ 256 → Missed (w * 64) → None ≡ first_passing fits_in ts (length ts)
  words_past w all few missed = sym (passing_none fits_in ts (length ts) (λ i h. missed i (omega arith) h))
