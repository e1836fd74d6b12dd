-- Laws of the maps. A search gives what is first, or there is none, since each step looks at one offset and hands on the rest;
-- and taking sets the bits that it names and no other, since it writes those bytes alone. Assumes nothing.
use Rattle.std.specs.Prelude.{Option, Some, None}
use Rattle.std.specs.List.{list_all}
use mathlib.Core.Path.{◌≡◌, refl, sym, ap, ◌∙◌, subst}
use mathlib.Core.Logic.{◌⊎◌, inl, inr}
use mathlib.Core.Bool.{Bool, true, false, not, ◌&&◌, ◌||◌}
use mathlib.Core.List.{List, [], ◌∷◌, ◌++◌}
use Prim.Native.Nat.{ℕ, zero, suc, ◌+◌, ◌-◌, ◌*◌, ◌/◌, ◌^◌, ◌≤◌, ◌<◌}
use native.Mathlib.Omega.{arith}
use native.Mathlib.Nat.{not-suc-le-zero, le_of_suc-le-suc}
use native.Mathlib.Decide.{ℕ_discrete, dec_le, dec_lt}
use lib.Dec.{T, eqb, ltb, leb, leb-suc-suc}
use lib.Bits.{bit_or}
use lib.ListN.{length, get_or, set, take, drop, replicate, length-set, length-drop, get_or-eq_default}
use lib.Seq.{get_or-set_same, get_or-set_other, get_or-drop}
use borrow.Author.Tests.{eqb-true, eq-eqb, ltb-true, ltb-false, lt-ltb, le-ltb, leb-true, le-leb}
use Rattle.rows.specs.Row.{bit}
use Rattle.rows.proofs.Digit.{digit_low, digit_suc, bit_of_or, bit_zero, bit_pow_same, bit_pow_other}
use Rattle.fields.specs.Pick.{pick}
use Rattle.maps.specs.Maps.{TakenBelow, NextClear, clears, later, first_window, low_from, low_clear, or_below, high_bit, clear_bytes, clear_bit, fill, set_bit}

-- ---- Windows

-- The n bytes from o on are clear. Past its end a map reads as clear, so that whoever says this says too that they lie inside.
abbrev pub Clear : List ℕ → ℕ → ℕ → Type 0
Clear m n o = (k : ℕ) → k < n → get_or m (o + k) 0 ≡ 0

pub clears_out : (n : ℕ) (m : List ℕ) → T (clears n m) → (n ≤ length m) × ((k : ℕ) → k < n → get_or m k 0 ≡ 0)
unfolding clears
clears_out zero m h = (omega arith, λ k l. absurd (not-suc-le-zero l))
clears_out (suc n) (b ∷ m) h = go (eqb b 0) refl (λ t. clears_out n m t) h
  where
    at : b ≡ 0 → ((k : ℕ) → k < n → get_or m k 0 ≡ 0) → (k : ℕ) → k < suc n → get_or (b ∷ m) k 0 ≡ 0
    at e ih zero l = e
    at e ih (suc k) l = ih k (le_of_suc-le-suc l)

    go : (c : Bool) → eqb b 0 ≡ c → (T (clears n m) → (n ≤ length m) × ((k : ℕ) → k < n → get_or m k 0 ≡ 0))
        → T (c && clears n m) → (suc n ≤ length (b ∷ m)) × ((k : ℕ) → k < suc n → get_or (b ∷ m) k 0 ≡ 0)
    go true e ih t = (omega (arith, (ih t).0), at (eqb-true b 0 e) (ih t).1)
    go false e ih t = elim t [ ]
clears_out (suc n) [] h = elim h [ ]

pub clears_in : (n : ℕ) (m : List ℕ) → n ≤ length m → ((k : ℕ) → k < n → get_or m k 0 ≡ 0) → T (clears n m)
unfolding clears
clears_in zero m l h = tt
clears_in (suc n) [] l h = absurd (not-suc-le-zero l)
clears_in (suc n) (b ∷ m) l h =
    rw (eq-eqb b 0 (h 0 (omega arith))) (clears_in n m (le_of_suc-le-suc l) (λ k j. h (suc k) (omega arith)))

-- The same at an offset.
pub clear_out : (n o : ℕ) (m : List ℕ) → T (clears n (drop o m)) → Clear m n o
clear_out n o m h k l = sym (get_or-drop o m k 0) ∙ (clears_out n (drop o m) h).1 k l

pub clear_in : (n o : ℕ) (m : List ℕ) → o + n ≤ length m → Clear m n o → T (clears n (drop o m))
clear_in n o m l h = clears_in n (drop o m) (omega (arith, length-drop o m)) (λ k j. get_or-drop o m k 0 ∙ h k j)

-- No window before o is clear.
abbrev pub NoneBefore : ℕ → List ℕ → ℕ → Type 0
NoneBefore n m o = (j : ℕ) → j < o → T (clears n (drop j m)) → ⊥

-- A window that is clear begins with a clear byte, so that none begins among taken ones.
clear_first : (n o : ℕ) (m : List ℕ) → 0 < n → T (clears n (drop o m)) → get_or m o 0 ≡ 0
clear_first n o m z t = let e : o + 0 ≡ o = omega arith in rw e at (clear_out n o m t 0 z)

pub none_taken : (n o : ℕ) (m : List ℕ) → 0 < n → TakenBelow m o → NoneBefore n m o
none_taken n o m z h j i t = h j i (clear_first n j m z t)

-- What is taken lies inside; and the next clear byte is one more below which all is taken.
pub taken_inside : (m : List ℕ) (o : ℕ) → TakenBelow m o → o ≤ length m
taken_inside m o h = go (dec_le o (length m))
  where
    go : Dec (o ≤ length m) → o ≤ length m
    go (yes x) = x
    go (no x) = absurd (h (length m) (omega arith) (get_or-eq_default m 0 (omega arith)))

pub taken_next : (m : List ℕ) (o r : ℕ) → TakenBelow m o → NextClear m o r → TakenBelow m r
taken_next m o r h q j l e = go (dec_lt j o)
  where
    go : Dec (j < o) → ⊥
    go (yes x) = h j x e
    go (no x) = q.taken j l (omega arith) e

-- A byte that is not clear lies in each window from o to o + k, so that the search goes on behind it.
pub none_behind : (n o k : ℕ) (m : List ℕ) → NoneBefore n m o → k < n → (get_or m (o + k) 0 ≡ 0 → ⊥) → NoneBefore n m (o + k + 1)
none_behind n o k m h l b j i t = go (dec_lt j o)
  where
    go : Dec (j < o) → ⊥
    go (yes x) = h j x t
    go (no x) = let e : j + (o + k - j) ≡ o + k = omega arith in
        b (subst (λ (y : ℕ). get_or m y 0 ≡ 0) e (clear_out n j m t (o + k - j) (omega arith)))

-- No window begins at a byte that is not clear, so that the search goes on at the next clear one.
pub none_until : (n o r : ℕ) (m : List ℕ) → 0 < n → NoneBefore n m o → NextClear m o r → NoneBefore n m r
none_until n o r m z h q j i t = go (dec_lt j o)
  where
    go : Dec (j < o) → ⊥
    go (yes x) = h j x t
    go (no x) = q.taken j i (omega arith) (clear_first n j m z t)

-- A map that ends inside the window at o ends inside each later one.
pub none_short : (n o : ℕ) (m : List ℕ) → NoneBefore n m o → length m < o + n → NoneBefore n m (length m)
none_short n o m h l j i t = go (dec_lt j o)
  where
    go : Dec (j < o) → ⊥
    go (yes x) = h j x t
    go (no x) = omega (arith, (clears_out n (drop j m) t).0, length-drop j m)

-- What the search answers: a window that lies inside and is clear, and no earlier one is; or none is.
abbrev pub FirstWindow : ℕ → List ℕ → Option ℕ → Type 0
FirstWindow n m (Some o) = (o + n ≤ length m) × T (clears n (drop o m)) × NoneBefore n m o × (o < length m)
FirstWindow n m None = NoneBefore n m (length m)

pub first_window_lem : (n : ℕ) (m : List ℕ) → FirstWindow n m (first_window n m)
unfolding first_window pick
first_window_lem n [] = λ j l. absurd (not-suc-le-zero l)
first_window_lem n (b ∷ m) = go (clears n (b ∷ m)) refl (first_window n m) (first_window_lem n m)
  where
    before : (o : ℕ) → clears n (b ∷ m) ≡ false → NoneBefore n m o → NoneBefore n (b ∷ m) (suc o)
    before o e h zero l t = subst T e t
    before o e h (suc j) l t = h j (le_of_suc-le-suc l) t

    go : (c : Bool) → clears n (b ∷ m) ≡ c → (r : Option ℕ) → FirstWindow n m r → FirstWindow n (b ∷ m) (pick c (Some 0) (later r))
    go true e r h = let t : T (clears n (b ∷ m)) = subst T (sym e) tt in
        (omega (arith, (clears_out n (b ∷ m) t).0), t, (λ j l. absurd (not-suc-le-zero l)), omega arith)
    go false e (Some o) h = (omega (arith, h.0), h.1, before o e h.2, omega (arith, h.3))
    go false e None h = before (length m) e h

-- No other answer has these properties: for code whose search shows them.
pub window_only : (n : ℕ) (m : List ℕ) (r : Option ℕ) → FirstWindow n m r → r ≡ first_window n m
window_only n m r h = go r h (first_window n m) (first_window_lem n m)
  where
    go : (r : Option ℕ) → FirstWindow n m r → (s : Option ℕ) → FirstWindow n m s → r ≡ s
    go None h None f = refl
    go None h (Some p) f = absurd (h p f.3 f.1)
    go (Some o) h None f = absurd (f o h.3 h.1)
    go (Some o) h (Some p) f = split (dec_lt o p) (dec_lt p o)
      where
        split : Dec (o < p) → Dec (p < o) → Some o ≡ Some p
        split (yes x) _ = absurd (f.2 o x h.1)
        split (no x) (yes y) = absurd (h.2 p y f.1)
        split (no x) (no y) = let e : o ≡ p = omega arith in ap Some e

-- ---- Clear rooms

pub clear_bytes_out : (o n : ℕ) (m : List ℕ) → T (clear_bytes o n m) → (o + n ≤ length m) × Clear m n o
unfolding clear_bytes
clear_bytes_out o n m h = go (leb (o + n) (length m)) refl h
  where
    go : (c : Bool) → leb (o + n) (length m) ≡ c → T (c && clears n (drop o m)) → (o + n ≤ length m) × Clear m n o
    go true e t = (leb-true (o + n) (length m) e, clear_out n o m t)
    go false e t = elim t [ ]

pub clear_bytes_in : (o n : ℕ) (m : List ℕ) → o + n ≤ length m → Clear m n o → T (clear_bytes o n m)
unfolding clear_bytes
clear_bytes_in o n m l c = rw (le-leb (o + n) (length m) l) (clear_in n o m l c)

-- The test itself, for code that asks each byte of the part.
pub clears_all : (n : ℕ) (m : List ℕ) → n ≤ length m → clears n m ≡ list_all (λ b. eqb b 0) (take n m)
unfolding clears
clears_all zero m l = refl
clears_all (suc n) [] l = absurd (not-suc-le-zero l)
clears_all (suc n) (b ∷ m) l = ap (λ (t : Bool). eqb b 0 && t) (clears_all n m (le_of_suc-le-suc l))

pub clear_bytes_all : (o n : ℕ) (m : List ℕ) → o + n ≤ length m → list_all (λ b. eqb b 0) (take n (drop o m)) ≡ clear_bytes o n m
unfolding clear_bytes
clear_bytes_all o n m l = rw (le-leb (o + n) (length m) l) (sym (clears_all n (drop o m) (omega (arith, length-drop o m))))

pub clear_bit_out : (o k : ℕ) (m : List ℕ) → T (clear_bit o k m) → (o < length m) × (bit (get_or m o 0) k ≡ false)
unfolding clear_bit
clear_bit_out o k m h = go (ltb o (length m)) refl (bit (get_or m o 0) k) refl h
  where
    go : (c : Bool) → ltb o (length m) ≡ c → (d : Bool) → bit (get_or m o 0) k ≡ d → T (c && not d) → (o < length m) × (bit (get_or m o 0) k ≡ false)
    go true e false f t = (ltb-true o (length m) e, f)
    go true e true f t = elim t [ ]
    go false e d f t = elim t [ ]

pub clear_bit_in : (o k : ℕ) (m : List ℕ) → o < length m → bit (get_or m o 0) k ≡ false → T (clear_bit o k m)
unfolding clear_bit
clear_bit_in o k m l e = rw (lt-ltb o (length m) l, e) tt

-- ---- The lowest clear bit

abbrev LowFrom : ℕ → ℕ → ℕ → Option ℕ → Type 0
LowFrom n k b (Some j) = (k ≤ j) × (j < k + n) × (bit b j ≡ false) × ((i : ℕ) → k ≤ i → i < j → bit b i ≡ true)
LowFrom n k b None = (i : ℕ) → k ≤ i → i < k + n → bit b i ≡ true

low_from_lem : (n k b : ℕ) → LowFrom n k b (low_from n k b)
unfolding low_from pick
low_from_lem zero k b = λ i p q. absurd (omega arith)
low_from_lem (suc n) k b = go (bit b k) refl (low_from n (suc k) b) (low_from_lem n (suc k) b)
  where
    first : bit b k ≡ true → (i : ℕ) → k ≤ i → (suc k ≤ i → bit b i ≡ true) → bit b i ≡ true
    first e i l f = split (ℕ_discrete i k)
      where
        split : Dec (i ≡ k) → bit b i ≡ true
        split (yes p) = subst (λ (j : ℕ). bit b j ≡ true) (sym p) e
        split (no p) = f (omega arith)

    go : (c : Bool) → bit b k ≡ c → (r : Option ℕ) → LowFrom n (suc k) b r → LowFrom (suc n) k b (pick c r (Some k))
    go false e r h = (omega arith, omega arith, e, λ i p q. absurd (omega arith))
    go true e (Some j) h = (omega (arith, h.0), omega (arith, h.1), h.2, λ i p q. first e i p (λ l. h.3 i l q))
    go true e None h = λ i p q. first e i p (λ l. h i l (omega arith))

-- k is the lowest clear bit of a byte; or its eight bits are set.
abbrev pub LowClear : ℕ → Option ℕ → Type 0
LowClear b (Some k) = (k < 8) × (bit b k ≡ false) × ((i : ℕ) → i < k → bit b i ≡ true)
LowClear b None = (i : ℕ) → i < 8 → bit b i ≡ true

pub low_clear_lem : (b : ℕ) → LowClear b (low_clear b)
unfolding low_clear
low_clear_lem b = go (low_from 8 0 b) (low_from_lem 8 0 b)
  where
    go : (r : Option ℕ) → LowFrom 8 0 b r → LowClear b r
    go (Some k) h = (omega (arith, h.1), h.2, λ i l. h.3 i (omega arith) l)
    go None h = λ i l. h i (omega arith) (omega arith)

-- ---- The search down

-- The highest byte of the range that is not full, and its lowest clear bit; or every byte of the range is full.
abbrev pub HighBit : ℕ → ℕ → List ℕ → Option (ℕ × ℕ) → Type 0
HighBit lo hi m (Some (o, k)) = (lo ≤ o) × (o < hi) × (low_clear (get_or m o 0) ≡ Some k) × ((j : ℕ) → o < j → j < hi → low_clear (get_or m j 0) ≡ None)
HighBit lo hi m None = (j : ℕ) → lo ≤ j → j < hi → low_clear (get_or m j 0) ≡ None

pub high_bit_lem : (lo hi : ℕ) (m : List ℕ) → HighBit lo hi m (high_bit lo hi m)
unfolding high_bit pick
high_bit_lem lo zero m = λ j p q. absurd (not-suc-le-zero q)
high_bit_lem lo (suc i) m = go (ltb i lo) refl (low_clear (get_or m i 0)) refl (high_bit lo i m) (high_bit_lem lo i m)
  where
    last : low_clear (get_or m i 0) ≡ None → (j : ℕ) → j < suc i → (j < i → low_clear (get_or m j 0) ≡ None) → low_clear (get_or m j 0) ≡ None
    last e j l f = split (ℕ_discrete j i)
      where
        split : Dec (j ≡ i) → low_clear (get_or m j 0) ≡ None
        split (yes p) = subst (λ (n : ℕ). low_clear (get_or m n 0) ≡ None) (sym p) e
        split (no p) = f (omega arith)

    go : (c : Bool) → ltb i lo ≡ c → (r : Option ℕ) → low_clear (get_or m i 0) ≡ r → (d : Option (ℕ × ℕ)) → HighBit lo i m d → HighBit lo (suc i) m (pick c None (or_below i r d))
    go true e r q d h = λ j l k. absurd (omega (arith, ltb-true i lo e))
    go false e (Some k) q d h = (ltb-false i lo e, omega arith, q, λ j l u. absurd (omega arith))
    go false e None q (Some (o, k)) h = (h.0, omega (arith, h.1), h.2, λ j l u. last q j u (λ v. h.3 j l v))
    go false e None q None h = λ j l u. last q j u (λ v. h j l v)

-- The whole search comes to what is left of it: a full byte is passed, the first that is not full answers, and below lo none is left.
high_step : (lo i : ℕ) (m : List ℕ) → lo < i → high_bit lo i m ≡ or_below (i - 1) (low_clear (get_or m (i - 1) 0)) (high_bit lo (i - 1) m)
unfolding high_bit pick
high_step lo zero m l = absurd (not-suc-le-zero l)
high_step lo (suc i) m l = let e : suc i - 1 ≡ i = omega arith in rw (e, le-ltb i lo (le_of_suc-le-suc l))

pub high_pass : (lo i : ℕ) (m : List ℕ) → lo < i → low_clear (get_or m (i - 1) 0) ≡ None → high_bit lo i m ≡ high_bit lo (i - 1) m
high_pass lo i m l e = high_step lo i m l ∙ ap (λ (r : Option ℕ). or_below (i - 1) r (high_bit lo (i - 1) m)) e

pub high_hit : (lo i k : ℕ) (m : List ℕ) → lo < i → low_clear (get_or m (i - 1) 0) ≡ Some k → high_bit lo i m ≡ Some (i - 1, k)
high_hit lo i k m l e = high_step lo i m l ∙ ap (λ (r : Option ℕ). or_below (i - 1) r (high_bit lo (i - 1) m)) e

pub high_end : (lo hi : ℕ) (m : List ℕ) → hi ≤ lo → high_bit lo hi m ≡ None
unfolding high_bit pick
high_end lo zero m l = refl
high_end lo (suc i) m l = rw (lt-ltb i lo l)

-- ---- Taken bytes

pub fill_length : (o n : ℕ) (m : List ℕ) → length (fill o n m) ≡ length m
unfolding fill
fill_length zero zero [] = refl
fill_length zero (suc n) [] = refl
fill_length (suc o) n [] = refl
fill_length zero zero (b ∷ m) = refl
fill_length zero (suc n) (b ∷ m) = ap suc (fill_length zero n m)
fill_length (suc o) n (b ∷ m) = ap suc (fill_length o n m)

pub fill_in : (o n : ℕ) (m : List ℕ) (i : ℕ) → o ≤ i → i < o + n → i < length m → get_or (fill o n m) i 0 ≡ 255
unfolding fill
fill_in o n [] i p q l = absurd (not-suc-le-zero l)
fill_in zero zero (b ∷ m) i p q l = absurd (omega arith)
fill_in zero (suc n) (b ∷ m) zero p q l = refl
fill_in zero (suc n) (b ∷ m) (suc i) p q l = fill_in zero n m i (omega arith) (omega arith) (le_of_suc-le-suc l)
fill_in (suc o) n (b ∷ m) zero p q l = absurd (omega arith)
fill_in (suc o) n (b ∷ m) (suc i) p q l = fill_in o n m i (omega arith) (omega arith) (le_of_suc-le-suc l)

pub fill_out : (o n : ℕ) (m : List ℕ) (i : ℕ) → (o ≤ i → i < o + n → ⊥) → get_or (fill o n m) i 0 ≡ get_or m i 0
unfolding fill
fill_out zero zero [] i h = refl
fill_out zero (suc n) [] i h = refl
fill_out (suc o) n [] i h = refl
fill_out zero zero (b ∷ m) i h = refl
fill_out zero (suc n) (b ∷ m) zero h = absurd (h (omega arith) (omega arith))
fill_out zero (suc n) (b ∷ m) (suc i) h = fill_out zero n m i (λ p q. h (omega arith) (omega arith))
fill_out (suc o) n (b ∷ m) zero h = refl
fill_out (suc o) n (b ∷ m) (suc i) h = fill_out o n m i (λ p q. h (omega arith) (omega arith))

-- What std's `fill` of a part writes.
pub fill_part : (o n : ℕ) (m : List ℕ) → o + n ≤ length m → take o m ++ (replicate n 255 ++ drop n (drop o m)) ≡ fill o n m
unfolding fill
fill_part zero zero [] l = refl
fill_part zero zero (b ∷ m) l = refl
fill_part zero (suc n) [] l = absurd (omega arith)
fill_part zero (suc n) (b ∷ m) l = ap {B = List ℕ} (λ r. 255 ∷ r) (fill_part zero n m (omega arith))
fill_part (suc o) n [] l = absurd (omega arith)
fill_part (suc o) n (b ∷ m) l = ap {B = List ℕ} (λ r. b ∷ r) (fill_part o n m (omega arith))

-- ---- Bits of taken bytes

-- n ones in a row have the bits below n, so that a full byte has the bits 0 to 7.
abbrev ones : ℕ → ℕ
ones zero = 0
ones (suc n) = ones n * 2 + 1

bit_ones : (n u : ℕ) → bit (ones n) u ≡ ltb u n
unfolding bit
bit_ones zero u = bit_zero u ∙ sym (le-ltb u 0 (omega arith))
bit_ones (suc n) zero = eq-eqb _ 1 (digit_low (ones n * 2 + 1) ∙ omega arith) ∙ sym (lt-ltb 0 (suc n) (omega arith))
bit_ones (suc n) (suc u) =
    let half : (ones n * 2 + 1) / 2 ≡ ones n = omega arith in
    ap (λ (d : ℕ). eqb d 1) (digit_suc (ones n * 2 + 1) u) ∙ ap (λ (w : ℕ). bit w u) half ∙ bit_ones n u ∙ sym (leb-suc-suc (suc u) n)

pub bit_full : (u : ℕ) → bit 255 u ≡ ltb u 8
bit_full u = bit_ones 8 u

-- A byte of a window, or not.
abbrev In : ℕ → ℕ → ℕ → Type 0
In o n i = (o ≤ i) × (i < o + n)

window? : (o n i : ℕ) → Dec (o ≤ i) → Dec (i < o + n) → In o n i ⊎ (o ≤ i → i < o + n → ⊥)
window? o n i (yes p) (yes q) = inl (p, q)
window? o n i (no p) _ = inr (λ x y. p x)
window? o n i (yes p) (no q) = inr (λ x y. q y)

-- A byte that is clear afterwards was clear before.
pub fill_clear : (o n : ℕ) (m : List ℕ) (i : ℕ) → get_or (fill o n m) i 0 ≡ 0 → get_or m i 0 ≡ 0
fill_clear o n m i h = go (window? o n i (dec_le o i) (dec_lt i (o + n))) (dec_lt i (length m))
  where
    go : In o n i ⊎ (o ≤ i → i < o + n → ⊥) → Dec (i < length m) → get_or m i 0 ≡ 0
    go (inl x) (yes l) = absurd (omega (arith, h, fill_in o n m i x.0 x.1 l))
    go (inl x) (no l) = get_or-eq_default m 0 (omega arith)
    go (inr x) l = sym (fill_out o n m i x) ∙ h

pub fill_keep : (o n : ℕ) (m : List ℕ) (i k : ℕ) → Clear m n o → T (bit (get_or m i 0) k) → T (bit (get_or (fill o n m) i 0) k)
fill_keep o n m i k c h = go (window? o n i (dec_le o i) (dec_lt i (o + n)))
  where
    go : In o n i ⊎ (o ≤ i → i < o + n → ⊥) → T (bit (get_or (fill o n m) i 0) k)
    go (inl x) = absurd (subst T no_bit h)
      where
        no_bit : bit (get_or m i 0) k ≡ false
        no_bit = let e : i ≡ o + (i - o) = omega (arith, x.0) in
            ap (λ (y : ℕ). bit (get_or m y 0) k) e ∙ ap (λ (y : ℕ). bit y k) (c (i - o) (omega (arith, x.0, x.1))) ∙ bit_zero k
    go (inr x) = rw (fill_out o n m i x) h

pub fill_has : (o n : ℕ) (m : List ℕ) (i k : ℕ) → o + n ≤ length m → o ≤ i → i < o + n → k < 8 → T (bit (get_or (fill o n m) i 0) k)
fill_has o n m i k l p q h = rw (fill_in o n m i p q (omega arith), bit_full k, lt-ltb k 8 h) tt

pub fill_only : (o n : ℕ) (m : List ℕ) (i k : ℕ) → o + n ≤ length m → T (bit (get_or (fill o n m) i 0) k) → T (bit (get_or m i 0) k) ⊎ ((o ≤ i) × (i < o + n) × (k < 8))
fill_only o n m i k l h = go (window? o n i (dec_le o i) (dec_lt i (o + n)))
  where
    low : (c : Bool) → ltb k 8 ≡ c → T c → k < 8
    low true e t = ltb-true k 8 e
    low false e t = elim t [ ]

    go : In o n i ⊎ (o ≤ i → i < o + n → ⊥) → T (bit (get_or m i 0) k) ⊎ ((o ≤ i) × (i < o + n) × (k < 8))
    go (inl x) = inr (x.0, x.1, low (ltb k 8) refl (rw (fill_in o n m i x.0 x.1 (omega (arith, x.1)), bit_full k) at h))
    go (inr x) = inl (rw (fill_out o n m i x) at h)

-- ---- A taken bit

pub set_bit_length : (o k : ℕ) (m : List ℕ) → length (set_bit o k m) ≡ length m
unfolding set_bit
set_bit_length o k m = length-set m o (bit_or (get_or m o 0) (2 ^ k))

bit_keep : (b k u : ℕ) → T (bit b u) → T (bit (bit_or b (2 ^ k)) u)
bit_keep b k u h = rw (bit_of_or b (2 ^ k) u) (go (bit b u) h)
  where
    go : (c : Bool) → T c → T (c || bit (2 ^ k) u)
    go true t = tt
    go false t = elim t [ ]

bit_same : (b k : ℕ) → T (bit (bit_or b (2 ^ k)) k)
bit_same b k = rw (bit_of_or b (2 ^ k) k, bit_pow_same k) (go (bit b k))
  where
    go : (c : Bool) → T (c || true)
    go true = tt
    go false = tt

bit_only : (b k u : ℕ) → T (bit (bit_or b (2 ^ k)) u) → T (bit b u) ⊎ (u ≡ k)
bit_only b k u h = go (ℕ_discrete u k)
  where
    left : (c : Bool) → T (c || false) → T c
    left true t = tt
    left false t = elim t [ ]

    go : Dec (u ≡ k) → T (bit b u) ⊎ (u ≡ k)
    go (yes e) = inr e
    go (no e) = inl (left (bit b u) (rw (bit_of_or b (2 ^ k) u, bit_pow_other k u e) at h))

pub set_bit_keep : (o b : ℕ) (m : List ℕ) (i k : ℕ) → o < length m → T (bit (get_or m i 0) k) → T (bit (get_or (set_bit o b m) i 0) k)
unfolding set_bit
set_bit_keep o b m i k l h = go (ℕ_discrete i o)
  where
    go : Dec (i ≡ o) → T (bit (get_or (set m o (bit_or (get_or m o 0) (2 ^ b))) i 0) k)
    go (yes e) = rw (e, get_or-set_same m o (bit_or (get_or m o 0) (2 ^ b)) 0 l) (bit_keep (get_or m o 0) b k (subst (λ (x : ℕ). T (bit (get_or m x 0) k)) e h))
    go (no e) = rw (get_or-set_other m o i (bit_or (get_or m o 0) (2 ^ b)) 0 e) h

pub set_bit_has : (o b : ℕ) (m : List ℕ) → o < length m → T (bit (get_or (set_bit o b m) o 0) b)
unfolding set_bit
set_bit_has o b m l = rw (get_or-set_same m o (bit_or (get_or m o 0) (2 ^ b)) 0 l) (bit_same (get_or m o 0) b)

pub set_bit_only : (o b : ℕ) (m : List ℕ) (i k : ℕ) → o < length m → T (bit (get_or (set_bit o b m) i 0) k) → T (bit (get_or m i 0) k) ⊎ ((i ≡ o) × (k ≡ b))
unfolding set_bit
set_bit_only o b m i k l h = go (ℕ_discrete i o)
  where
    go : Dec (i ≡ o) → T (bit (get_or m i 0) k) ⊎ ((i ≡ o) × (k ≡ b))
    go (yes e) = or (bit_only (get_or m o 0) b k (rw (e, get_or-set_same m o (bit_or (get_or m o 0) (2 ^ b)) 0 l) at h))
      where
        or : T (bit (get_or m o 0) k) ⊎ (k ≡ b) → T (bit (get_or m i 0) k) ⊎ ((i ≡ o) × (k ≡ b))
        or (inl x) = inl (subst (λ (x : ℕ). T (bit (get_or m x 0) k)) (sym e) x)
        or (inr x) = inr (e, x)
    go (no e) = inl (rw (get_or-set_other m o i (bit_or (get_or m o 0) (2 ^ b)) 0 e) at h)

pub set_bit_clear : (o b : ℕ) (m : List ℕ) (i : ℕ) → get_or (set_bit o b m) i 0 ≡ 0 → get_or m i 0 ≡ 0
unfolding set_bit
set_bit_clear o b m i h = go (ℕ_discrete i o) (dec_lt i (length m))
  where
    byte : ℕ
    byte = bit_or (get_or m o 0) (2 ^ b)

    go : Dec (i ≡ o) → Dec (i < length m) → get_or m i 0 ≡ 0
    go (yes e) (yes l) =
        let none : byte ≡ 0 = sym (get_or-set_same m o byte 0 (omega arith)) ∙ subst (λ (x : ℕ). get_or (set m o byte) x 0 ≡ 0) e h in
        absurd (subst T (ap (λ (x : ℕ). bit x b) none ∙ bit_zero b) (bit_same (get_or m o 0) b))
    go (yes e) (no l) = get_or-eq_default m 0 (omega arith)
    go (no e) l = sym (get_or-set_other m o i byte 0 e) ∙ h
