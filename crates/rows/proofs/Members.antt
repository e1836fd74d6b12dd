-- Rows as sets, for any number of words. A number is one bit of one word, so each operation's law is the law of that bit;
-- a store changes one word, and of it one bit; and rows of 64-bit words that have the same members have the same bits.
use mathlib.Core.Path.{◌≡◌, refl, sym, ap, ◌∙◌}
use mathlib.Core.Bool.{Bool, true, false, not, ◌&&◌, ◌||◌, or-true, or-false}
use mathlib.Core.Logic.{◌⊎◌, inl, inr, ⊎_elim}
use mathlib.Core.List.{List, ◌∷◌}
use Prim.Native.Nat.{ℕ, suc, ◌+◌, ◌-◌, ◌*◌, ◌/◌, ◌%◌, ◌^◌, ◌≤◌, ◌<◌}
use native.Mathlib.Nat.{zero-add}
use native.Mathlib.Omega.{arith}
use lib.ListN.{length, drop, get_or, set, replicate, get_or-replicate, length-replicate, length-set, get_or-eq_default}
use lib.Seq.{get_or-set_same, get_or-set_other, set_out, take-set-lt, drop-set-add, ext_get_or}
use lib.Pow.{pow-lt}
use lib.Bits.{bit_or, or_lt}
use lib.Dec.{eqb, lit<}
use borrow.Author.Tests.{eqb-true, eqb-false}
use Rattle.rows.specs.Row.{Apart, Words, bit, less, member, member_at, with, with_at, row, put, or_row, less_row}
use Rattle.rows.proofs.Digit.{bit_of_or, bit_less, bit_eq, bit_zero, bit_pow_same, bit_pow_other, word_ext, less_lt}
use Rattle.rows.proofs.Rows.{lt_or_ge, get_or_row, get_or_row_past, length_row, row_set_other, get_d_zip, get_or_put_in, get_or_put_out, strides_apart}

-- ---- a number and its bit

-- Number 64 * j + i is bit i of word j.
pub member_bit : (r : List ℕ) (j i : ℕ) → i < 64 → member r (64 * j + i) ≡ bit (get_or r j 0) i
unfolding member
member_bit r j i h =
    let p : (64 * j + i) / 64 ≡ j = omega arith in
    let q : (64 * j + i) % 64 ≡ i = omega arith in
    rw (p, q)

-- The first word has the numbers below 64, and the other words have the rest.
module _ (x : ℕ) (r : List ℕ) (n : ℕ) where
  pub member_head : n < 64 → member (x ∷ r) n ≡ bit x n
  unfolding member
  member_head h =
      let p : n / 64 ≡ 0 = omega arith in
      let q : n % 64 ≡ n = omega arith in
      rw (p, q)

  pub member_tail : 64 ≤ n → member (x ∷ r) n ≡ member r (n - 64)
  unfolding member
  member_tail h =
      let p : n / 64 ≡ suc ((n - 64) / 64) = omega arith in
      let q : n % 64 ≡ (n - 64) % 64 = omega arith in
      rw (p, q)

-- Past its words a row has no members.
pub member_past : (r : List ℕ) (n : ℕ) → 64 * length r ≤ n → member r n ≡ false
unfolding member
member_past r n h =
    let k : length r ≤ n / 64 = omega arith in
    rw (get_or-eq_default r 0 k) (bit_zero (n % 64))

-- ---- the row at base of a longer list

-- A list is its own row at 0.
module _ (r : List ℕ) (n : ℕ) where
  pub member_at_zero : member_at r 0 n ≡ member r n
  unfolding member_at member
  member_at_zero = rw zero-add

  pub with_at_zero : with_at r 0 n ≡ with r n
  unfolding with_at with
  with_at_zero = rw zero-add

pub member_row : (ws : List ℕ) (b w n : ℕ) → n < 64 * w → member (row ws b w) n ≡ member_at ws b n
unfolding member member_at
member_row ws b w n h = ap (λ (x : ℕ). bit x (n % 64)) (get_or_row ws b w (n / 64) (omega arith))

pub row_with : (ws : List ℕ) (b w n : ℕ) → n < 64 * w → row (with_at ws b n) b w ≡ with (row ws b w) n
unfolding with_at with row
row_with ws b w n h =
    let k : n / 64 < w = omega arith in
    rw (drop-set-add, take-set-lt w (drop b ws) (n / 64) _ k, get_or_row ws b w (n / 64) k)

module _ (ws : List ℕ) (b n : ℕ) where
  pub length_with_at : length (with_at ws b n) ≡ length ws
  unfolding with_at
  length_with_at = length-set ws _ _

-- A row that the changed one does not meet stays.
pub row_with_other : (ws : List ℕ) (b w n b' w' : ℕ) → n < 64 * w → Apart b w b' w' → row (with_at ws b n) b' w' ≡ row ws b' w'
unfolding with_at
row_with_other ws b w n b' w' h a = row_set_other ws _ _ b' w' (⊎_elim (λ p. inl (omega arith)) (λ p. inr (omega arith)) a)

-- ---- membership after one insertion

module _ (r : List ℕ) (n : ℕ) where
  pub length_with : length (with r n) ≡ length r
  unfolding with
  length_with = length-set r _ _

module _ (w k : ℕ) where
  bit_with_same : bit (bit_or w (2 ^ k)) k ≡ true
  bit_with_same = rw (bit_of_or, bit_pow_same) (or-true (bit w k))

  bit_with_other : (i : ℕ) → (i ≡ k → ⊥) → bit (bit_or w (2 ^ k)) i ≡ bit w i
  bit_with_other i h = rw (bit_of_or, bit_pow_other k i h) (or-false (bit w i))

-- Two numbers are equal by word and bit, so if they differ, then in one of them.
word_or_bit : (m n : ℕ) → (m ≡ n → ⊥) → (m / 64 ≡ n / 64 → ⊥) ⊎ ((m / 64 ≡ n / 64) × (m % 64 ≡ n % 64 → ⊥))
word_or_bit m n h = go (eqb (m / 64) (n / 64)) refl
  where
    go : (t : Bool) → eqb (m / 64) (n / 64) ≡ t → (m / 64 ≡ n / 64 → ⊥) ⊎ ((m / 64 ≡ n / 64) × (m % 64 ≡ n % 64 → ⊥))
    go true e = let q : m / 64 ≡ n / 64 = eqb-true _ _ e in inr (q, λ z. h (omega arith))
    go false e = inl (eqb-false _ _ e)

-- A store of v for the word of n, where v has the bits of the old word but for n's.
module _ (r : List ℕ) (n v : ℕ) where
  member_set_same : n < 64 * length r → member (set r (n / 64) v) n ≡ bit v (n % 64)
  unfolding member
  member_set_same h = ap (λ (x : ℕ). bit x (n % 64)) (get_or-set_same r (n / 64) v 0 (omega arith))

  member_set_other : (m : ℕ) → n < 64 * length r → (m ≡ n → ⊥)
      → ((i : ℕ) → (i ≡ n % 64 → ⊥) → bit v i ≡ bit (get_or r (n / 64) 0) i) → member (set r (n / 64) v) m ≡ member r m
  unfolding member
  member_set_other m h d k =
      ⊎_elim
      (λ (p : m / 64 ≡ n / 64 → ⊥). ap (λ (x : ℕ). bit x (m % 64)) (get_or-set_other r (n / 64) (m / 64) v 0 p))
      (λ (p : (m / 64 ≡ n / 64) × (m % 64 ≡ n % 64 → ⊥)).
      ap (λ (j : ℕ). bit (get_or (set r (n / 64) v) j 0) (m % 64)) p.0
      ∙ ap (λ (x : ℕ). bit x (m % 64)) (get_or-set_same r (n / 64) v 0 (omega arith))
      ∙ k (m % 64) p.1 ∙ ap (λ (j : ℕ). bit (get_or r j 0) (m % 64)) (sym p.0))
      (word_or_bit m n d)

module _ (r : List ℕ) (n : ℕ) (h : n < 64 * length r) where
  pub member_with_same : member (with r n) n ≡ true
  unfolding with
  member_with_same = member_set_same r n _ h ∙ bit_with_same (get_or r (n / 64) 0) (n % 64)

  pub member_with_other : (m : ℕ) → (m ≡ n → ⊥) → member (with r n) m ≡ member r m
  unfolding with
  member_with_other m d = member_set_other r n _ m h d (bit_with_other (get_or r (n / 64) 0) (n % 64))

  pub member_with : (m : ℕ) → member (with r n) m ≡ (eqb m n || member r m)
  member_with m = go (eqb m n) refl
    where
      go : (t : Bool) → eqb m n ≡ t → member (with r n) m ≡ (t || member r m)
      go true e = rw (eqb-true m n e) member_with_same
      go false e = member_with_other m (eqb-false m n e)

-- ---- membership after an operation on two rows

pub member_or : (a b : List ℕ) (n : ℕ) → length a ≡ length b → member (or_row a b) n ≡ (member a n || member b n)
unfolding member
member_or a b n e = rw (get_d_zip bit_or a b (n / 64) refl e) (bit_of_or _ _ (n % 64))

pub member_less : (a b : List ℕ) (n : ℕ) → length a ≡ length b → member (less_row a b) n ≡ (member a n && not (member b n))
unfolding member
member_less a b n e = rw (get_d_zip less a b (n / 64) refl e) (bit_less _ _ (n % 64))

-- The empty row.
pub get_or_none : (w j : ℕ) → get_or {A = ℕ} (replicate w 0) j 0 ≡ 0
get_or_none w j =
    ⊎_elim
    (λ (h : j < w). get_or-replicate w j 0 0 h)
    (λ (h : w ≤ j). get_or-eq_default (replicate w 0) 0 (rw length-replicate h))
    (lt_or_ge j w)

pub member_none : (w n : ℕ) → member (replicate w 0) n ≡ false
unfolding member
member_none w n = rw (get_or_none w (n / 64)) (bit_zero (n % 64))

-- ---- rows stay rows of 64-bit words

pub words_none : (w : ℕ) → Words (replicate w 0)
words_none w j = rw (get_or_none w j) (lit< tt)

pub words_row : (ws : List ℕ) (b n : ℕ) → Words ws → Words (row ws b n)
words_row ws b n h j =
    ⊎_elim
    (λ (k : j < n). rw (get_or_row ws b n j k) (h (b + j)))
    (λ (k : n ≤ j). rw (get_or_row_past ws b n j k) (lit< tt))
    (lt_or_ge j n)

pub words_set : (r : List ℕ) (i v : ℕ) → Words r → v < 2 ^ 64 → Words (set r i v)
words_set r i v h k j = go (eqb j i) refl
  where
    go : (t : Bool) → eqb j i ≡ t → get_or (set r i v) j 0 < 2 ^ 64
    go true e =
        rw (eqb-true j i e)
        (⊎_elim
        (λ (g : i < length r). rw (get_or-set_same r i v 0 g) k)
        (λ (g : length r ≤ i). rw (set_out r i v g) (h i))
        (lt_or_ge i (length r)))
    go false e = rw (get_or-set_other r i j v 0 (eqb-false j i e)) (h j)

mask_lt : (n : ℕ) → 2 ^ (n % 64) < 2 ^ 64
mask_lt n = pow-lt {i = n % 64} {j = 64} (omega arith)

pub words_with : (r : List ℕ) (n : ℕ) → Words r → Words (with r n)
unfolding with
words_with r n h = words_set r (n / 64) _ h (or_lt 64 _ _ (h (n / 64)) (mask_lt n))

module _ (a b : List ℕ) (e : length a ≡ length b) (wa : Words a) (wb : Words b) where
  pub words_or : Words (or_row a b)
  words_or j = rw (get_d_zip bit_or a b j refl e) (or_lt 64 _ _ (wa j) (wb j))

  pub words_less : Words (less_row a b)
  words_less j = rw (get_d_zip less a b j refl e) (less_lt 64 _ _ (wa j) (wb j))

module _ (d : List ℕ) (at : ℕ) (s : List ℕ) (hd : at + length s ≤ length d) where
  pub words_put : Words d → Words s → Words (put d at s)
  words_put wd ws j =
      ⊎_elim
      (λ (k : j < at). rw (get_or_put_out d at s hd j (inl k)) (wd j))
      (λ (k : at ≤ j). ⊎_elim
      (λ (l : j < at + length s).
      let e : at + (j - at) ≡ j = omega arith in
      let g : get_or (put d at s) j 0 ≡ get_or s (j - at) 0 = ap (λ (x : ℕ). get_or (put d at s) x 0) (sym e) ∙ get_or_put_in d at s hd (j - at) (omega arith) in
      rw g (ws (j - at)))
      (λ (l : at + length s ≤ j). rw (get_or_put_out d at s hd j (inr l)) (wd j))
      (lt_or_ge j (at + length s)))
      (lt_or_ge j at)

-- ---- a row is its members

pub rows_ext : (a b : List ℕ) → length a ≡ length b → Words a → Words b
    → ((n : ℕ) → n < 64 * length a → member a n ≡ member b n) → a ≡ b
rows_ext a b e wa wb h =
    ext_get_or 0 a b e (λ j g. word_ext 64 (get_or a j 0) (get_or b j 0) (wa j) (wb j)
    (λ i k. bit_eq (get_or a j 0) (get_or b j 0) i (sym (member_bit a j i k) ∙ h (64 * j + i) (omega arith) ∙ member_bit b j i k)))

-- ---- a table of rows, each w words wide: one insertion, read in any row

pub table_with : (ws : List ℕ) (w i n i' m : ℕ) → n < 64 * w → m < 64 * w → i * w + w ≤ length ws
    → member_at (with_at ws (i * w) n) (i' * w) m ≡ ((eqb i' i && eqb m n) || member_at ws (i' * w) m)
table_with ws w i n i' m hn hm fit = go (eqb i' i) refl
  where
    len : length (row ws (i * w) w) ≡ w
    len = length_row ws (i * w) w fit

    go : (t : Bool) → eqb i' i ≡ t → member_at (with_at ws (i * w) n) (i' * w) m ≡ ((t && eqb m n) || member_at ws (i' * w) m)
    go true e = rw (eqb-true i' i e)
        (sym (member_row (with_at ws (i * w) n) (i * w) w m hm) ∙ ap (λ (l : List ℕ). member l m) (row_with ws (i * w) w n hn)
        ∙ member_with (row ws (i * w) w) n (rw len hn) m ∙ ap (λ (t : Bool). eqb m n || t) (member_row ws (i * w) w m hm))
    go false e =
        sym (member_row (with_at ws (i * w) n) (i' * w) w m hm)
        ∙ ap (λ (l : List ℕ). member l m) (row_with_other ws (i * w) w n (i' * w) w hn (strides_apart w i i' (λ q. eqb-false i' i e (sym q))))
        ∙ member_row ws (i' * w) w m hm
