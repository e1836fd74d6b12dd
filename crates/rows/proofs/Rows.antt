-- Rows as lists of words, for any number of words. A row is a stretch of a longer list, so two rows are equal
-- where they have equal words, and a store or a written row changes no word outside its own stretch.
use mathlib.Core.Path.{◌≡◌, refl, sym, ap, ap₂, ◌∙◌}
use mathlib.Core.Bool.{Bool, true, false}
use mathlib.Core.Logic.{◌⊎◌, inl, inr, ⊎_elim}
use mathlib.Core.List.{List, [], ◌∷◌, ◌++◌, append-nil}
use Prim.Native.Nat.{ℕ, zero, suc, ◌+◌, ◌-◌, ◌*◌, ◌≤◌, ◌<◌}
use native.Mathlib.Nat.{le_refl, le_trans, le_of_eq, suc-mul, mul-le-mul_right}
use native.Mathlib.Omega.{arith}
use lib.ListN.{take-append-drop, drop_of_length-le, length, take, drop, get_or, set, length-take, length-drop, length-set, get_or-append, get_or-eq_default}
use lib.Seq.{take_all, take-add, get_or-take, get_or-drop, get_or-set_other, get_or-append-add, ext_get_or, take-length, length-take-le, paste, length_paste_head, length-paste}
use lib.Dec.{ltb}
use borrow.Author.Tests.{ltb-true, ltb-false}
use Rattle.std.specs.List.{between}
use Rattle.std.proofs.lemmas.Bool.{false_from_ne_true}
use Rattle.std.proofs.lemmas.Slice.{put_mid-paste}
use Rattle.std.proofs.lemmas.Slice.Eq.{bytes_eq-Decides}
use borrow.Rule.Slice.PartMut.{put_mid}
use Rattle.rows.specs.Row.{Apart, row, put, zip, same_row}

pub lt_or_ge : (a b : ℕ) → (a < b) ⊎ (b ≤ a)
lt_or_ge a b = go (ltb a b) refl
  where
    go : (t : Bool) → ltb a b ≡ t → (a < b) ⊎ (b ≤ a)
    go true e = inl (ltb-true a b e)
    go false e = inr (ltb-false a b e)

-- ---- a row inside a longer list

pub get_or_row : (ws : List ℕ) (b n i : ℕ) → i < n → get_or (row ws b n) i 0 ≡ get_or ws (b + i) 0
unfolding row
get_or_row ws b n i h = rw (get_or-take, get_or-drop)

pub length_row : (ws : List ℕ) (b n : ℕ) → b + n ≤ length ws → length (row ws b n) ≡ n
unfolding row
length_row ws b n h = simp (length-take, length-drop) (omega arith)

-- The part of a slice that `&ws[b..b + n]` names.
pub part_row : (ws : List ℕ) (b n : ℕ) → between b (b + n) ws ≡ row ws b n
unfolding row
part_row ws b n = ap (λ (m : ℕ). take m (drop b ws)) (omega arith)

pub length_row_le : (ws : List ℕ) (b n : ℕ) → length (row ws b n) ≤ n
unfolding row
length_row_le ws b n = simp (length-take, length-drop) (omega arith)

pub get_or_row_past : (ws : List ℕ) (b n i : ℕ) → n ≤ i → get_or (row ws b n) i 0 ≡ 0
get_or_row_past ws b n i h = get_or-eq_default (row ws b n) 0 (omega (arith, length_row_le ws b n))

-- Rows of two lists of one length are equal by their words.
pub row_ext : (x y : List ℕ) (b n : ℕ) → length x ≡ length y → ((i : ℕ) → i < n → get_or x (b + i) 0 ≡ get_or y (b + i) 0) → row x b n ≡ row y b n
unfolding row
row_ext x y b n e h = ext_get_or 0 (row x b n) (row y b n) (simp (length-take, length-drop, e))
    (λ i g. let k : i < n = omega (arith, length_row_le x b n) in get_or_row x b n i k ∙ h i k ∙ sym (get_or_row y b n i k))

-- Two rows by their words, wherever they stand.
module _ (x y : List ℕ) (a b n : ℕ) where
  pub row_same : a + n ≤ length x → b + n ≤ length y → ((i : ℕ) → i < n → get_or x (a + i) 0 ≡ get_or y (b + i) 0) → row x a n ≡ row y b n
  row_same hx hy h = ext_get_or 0 (row x a n) (row y b n) (length_row x a n hx ∙ sym (length_row y b n hy))
      (λ i g. let k : i < n = omega (arith, length_row_le x a n) in get_or_row x a n i k ∙ h i k ∙ sym (get_or_row y b n i k))

  pub row_word_lem : row x a n ≡ row y b n → (i : ℕ) → i < n → get_or x (a + i) 0 ≡ get_or y (b + i) 0
  row_word_lem e i k = sym (get_or_row x a n i k) ∙ ap (λ (l : List ℕ). get_or l i 0) e ∙ get_or_row y b n i k

-- A store outside a row leaves it.
pub row_set_other : (ws : List ℕ) (j v b w : ℕ) → (j < b) ⊎ (b + w ≤ j) → row (set ws j v) b w ≡ row ws b w
row_set_other ws j v b w h =
    row_ext (set ws j v) ws b w (length-set ws j v) (λ i g. get_or-set_other ws j (b + i) v 0 (λ e. ⊎_elim (λ p. omega arith) (λ p. omega arith) h))

-- A list that is one row.
pub row_whole : (l : List ℕ) (n : ℕ) → length l ≤ n → row l 0 n ≡ l
unfolding row
row_whole l n h = take_all n l h

-- ---- an operation word by word

pub length_zip : (f : ℕ → ℕ → ℕ) (a b : List ℕ) → length a ≡ length b → length (zip f a b) ≡ length a
unfolding zip
length_zip f [] b e = refl
length_zip f (x ∷ a) [] e = sym e
length_zip f (x ∷ a) (y ∷ b) e = ap suc (length_zip f a b (omega arith))

pub get_d_zip : (f : ℕ → ℕ → ℕ) (a b : List ℕ) (i : ℕ) → f 0 0 ≡ 0 → length a ≡ length b → get_or (zip f a b) i 0 ≡ f (get_or a i 0) (get_or b i 0)
unfolding zip
get_d_zip f [] [] i z e = sym z
get_d_zip f [] (y ∷ b) i z e = absurd (omega arith)
get_d_zip f (x ∷ a) [] i z e = absurd (omega arith)
get_d_zip f (x ∷ a) (y ∷ b) zero z e = refl
get_d_zip f (x ∷ a) (y ∷ b) (suc i) z e = get_d_zip f a b i z (omega arith)

-- ---- a row written over a stretch of a list, one word a turn. `paste d at s n` of lib.Seq: d with the first n words of s from at on

module _ (d : List ℕ) (at : ℕ) (s : List ℕ) (n : ℕ) (hd : at + n ≤ length d) (hs : n ≤ length s) where
  pub get_or_paste_before : (j : ℕ) → j < at → get_or (paste d at s n) j 0 ≡ get_or d j 0
  get_or_paste_before j h =
      get_or-append (take at d ++ take n s) (drop (at + n) d) 0 j (omega (arith, length_paste_head d at s n (omega arith) hs))
      ∙ get_or-append (take at d) (take n s) 0 j (simp length-take (omega arith)) ∙ get_or-take at d j 0 h

  pub get_or_paste_in : (j : ℕ) → j < n → get_or (paste d at s n) (at + j) 0 ≡ get_or s j 0
  get_or_paste_in j h =
      get_or-append (take at d ++ take n s) (drop (at + n) d) 0 (at + j) (omega (arith, length_paste_head d at s n (omega arith) hs))
      ∙ ap (λ (k : ℕ). get_or (take at d ++ take n s) (k + j) 0) (sym (length-take-le at d (omega arith)))
      ∙ get_or-append-add (take at d) (take n s) j 0 ∙ get_or-take n s j 0 h

  pub get_or_paste_after : (j : ℕ) → at + n ≤ j → get_or (paste d at s n) j 0 ≡ get_or d j 0
  get_or_paste_after j h =
      let l : length (take at d ++ take n s) ≡ at + n = length_paste_head d at s n (omega arith) hs in
      let k : length (take at d ++ take n s) + (j - (at + n)) ≡ j = omega arith in
      ap (λ (x : ℕ). get_or (paste d at s n) x 0) (sym k)
      ∙ get_or-append-add (take at d ++ take n s) (drop (at + n) d) (j - (at + n)) 0
      ∙ get_or-drop (at + n) d (j - (at + n)) 0 ∙ ap (λ (x : ℕ). get_or d x 0) (omega arith)

pub paste_put : (d : List ℕ) (at : ℕ) (s : List ℕ) (n : ℕ) → length s ≡ n → paste d at s n ≡ put d at s
unfolding put
paste_put d at s n e = rw (← e, take-length)

-- What a write to a stretch of a slice leaves.
pub put_mid_put : (a k : ℕ) (ws ys r : List ℕ) → ys ≡ r → length r ≡ k → put_mid a k ws ys ≡ put ws a r
put_mid_put a k ws ys r e l = put_mid-paste a k ws ys r k e refl (sym l) ∙ paste_put ws a r k l

-- The part holds a part of another list, word by word.
pub put_mid_row : (ws F ys : List ℕ) (to b n k : ℕ) → b + n ≤ length F → k ≡ n → length ys ≡ n
    → ((i : ℕ) → i < n → get_or ys i 0 ≡ get_or (between b (b + n) F) i 0) → put_mid to k ws ys ≡ put ws to (row F b n)
put_mid_row ws F ys to b n k hf kn l h =
    let m : length (row F b n) ≡ n = length_row F b n hf in
    put_mid_put to k ws ys _
    (ext_get_or 0 ys _ (l ∙ sym m) (λ i g. h i (omega arith) ∙ ap (λ (x : List ℕ). get_or x i 0) (part_row F b n)))
    (m ∙ sym kn)

-- The part holds what an operation makes, word by word, of what was there and a part of another list.
pub put_mid_zip : (f : ℕ → ℕ → ℕ) → f 0 0 ≡ 0 → (ws F ys : List ℕ) (to b n k : ℕ) → to + n ≤ length ws → b + n ≤ length F → k ≡ n → length ys ≡ length (between to (to + n) ws)
    → ((i : ℕ) → i < length (between to (to + n) ws) → get_or ys i 0 ≡ f (get_or (between to (to + n) ws) i 0) (get_or (between b (b + n) F) i 0))
    → put_mid to k ws ys ≡ put ws to (zip f (row ws to n) (row F b n))
put_mid_zip f z ws F ys to b n k ht hf kn l h =
    let e : length (row ws to n) ≡ length (row F b n) = length_row ws to n ht ∙ sym (length_row F b n hf) in
    let m : length (zip f (row ws to n) (row F b n)) ≡ n = length_zip f _ _ e ∙ length_row ws to n ht in
    let p : length (between to (to + n) ws) ≡ n = ap length (part_row ws to n) ∙ length_row ws to n ht in
    put_mid_put to k ws ys _
    (ext_get_or 0 ys _ (l ∙ p ∙ sym m) (λ i g. h i (omega arith) ∙ ap₂ (λ (x y : List ℕ). f (get_or x i 0) (get_or y i 0)) (part_row ws to n) (part_row F b n) ∙ sym (get_d_zip f _ _ i z e)))
    (m ∙ sym kn)

-- ---- a list after a row is written: its words, the row itself, and every other row

module _ (d : List ℕ) (at : ℕ) (s : List ℕ) (hd : at + length s ≤ length d) where
  pub length_put : length (put d at s) ≡ length d
  length_put = ap length (sym (paste_put d at s _ refl)) ∙ length-paste d at s (length s) hd (le_refl (length s))

  pub get_or_put_in : (j : ℕ) → j < length s → get_or (put d at s) (at + j) 0 ≡ get_or s j 0
  get_or_put_in j h =
      ap (λ (l : List ℕ). get_or l (at + j) 0) (sym (paste_put d at s _ refl)) ∙ get_or_paste_in d at s (length s) hd (le_refl (length s)) j h

  pub get_or_put_out : (j : ℕ) → (j < at) ⊎ (at + length s ≤ j) → get_or (put d at s) j 0 ≡ get_or d j 0
  get_or_put_out j h =
      ap (λ (l : List ℕ). get_or l j 0) (sym (paste_put d at s _ refl))
      ∙ ⊎_elim (get_or_paste_before d at s (length s) hd (le_refl (length s)) j) (get_or_paste_after d at s (length s) hd (le_refl (length s)) j) h

  pub row_put_same : row (put d at s) at (length s) ≡ s
  row_put_same =
      let l : length (row (put d at s) at (length s)) ≡ length s = length_row (put d at s) at (length s) (rw length_put hd) in
      ext_get_or 0 (row (put d at s) at (length s)) s l
      (λ i g. let k : i < length s = omega arith in get_or_row (put d at s) at (length s) i k ∙ get_or_put_in i k)

  pub row_put_other : (b m : ℕ) → Apart at (length s) b m → row (put d at s) b m ≡ row d b m
  row_put_other b m a = row_ext (put d at s) d b m length_put
      (λ i g. get_or_put_out (b + i) (⊎_elim (λ p. inr (omega arith)) (λ p. inl (omega arith)) a))

-- A row that fills the whole list.
pub put_whole : (d s : List ℕ) → length d ≡ length s → put d 0 s ≡ s
unfolding put
put_whole d s e = let z : length d ≤ 0 + length s = omega arith in rw (drop_of_length-le d z) (append-nil s)

-- Writing what stands there changes nothing.
pub put_row : (ws : List ℕ) (b n : ℕ) → b + n ≤ length ws → put ws b (row ws b n) ≡ ws
unfolding put row
put_row ws b n h =
    let e : length (row ws b n) ≡ n = length_row ws b n h in
    rw e (ap (λ (l : List ℕ). l ++ drop (b + n) ws) (sym (take-add b n ws)) ∙ take-append-drop (b + n) ws)

-- ---- the test of equal rows says so

pub same_refl : (a : List ℕ) → same_row a a ≡ true
unfolding same_row
same_refl a = (bytes_eq-Decides a a).1 refl

pub same_true : (a b : List ℕ) → same_row a b ≡ true → a ≡ b
unfolding same_row
same_true a b = (bytes_eq-Decides a b).0

pub same_false : (a b : List ℕ) → (a ≡ b → ⊥) → same_row a b ≡ false
same_false a b d = false_from_ne_true (same_row a b) (λ e. d (same_true a b e))

-- The parts that `&x[a..a + n]` and `&y[b..b + n]` name differ at a word, or nowhere.
module _ (x y : List ℕ) (a b n : ℕ) where
  pub parts_differ : (i : ℕ) → (get_or (between a (a + n) x) i 0 ≡ get_or (between b (b + n) y) i 0 → ⊥) → false ≡ same_row (row x a n) (row y b n)
  parts_differ i h =
      sym (same_false _ _ (λ e. h (ap (λ (l : List ℕ). get_or l i 0) (part_row x a n ∙ e ∙ sym (part_row y b n)))))

  pub parts_agree : a + n ≤ length x → b + n ≤ length y
      → ((i : ℕ) → i < length (between a (a + n) x) → get_or (between a (a + n) x) i 0 ≡ get_or (between b (b + n) y) i 0) → true ≡ same_row (row x a n) (row y b n)
  parts_agree hx hy h =
      let l : length (between a (a + n) x) ≡ length (between b (b + n) y) = rw (part_row x a n, part_row y b n) (length_row x a n hx ∙ sym (length_row y b n hy)) in
      let e : row x a n ≡ row y b n = sym (part_row x a n) ∙ ext_get_or 0 _ _ l h ∙ part_row y b n in
      rw e (sym (same_refl _))

-- ---- rows one after the other, each w words wide: row i at i * w

pub strides : (w i j : ℕ) → i < j → i * w + w ≤ j * w
strides w i j h = le_trans (le_of_eq (sym (suc-mul i w))) (mul-le-mul_right w h)

pub strides_apart : (w i j : ℕ) → (i ≡ j → ⊥) → Apart (i * w) w (j * w) w
strides_apart w i j d = ⊎_elim (λ (h : i < j). inl (strides w i j h)) (λ (h : j ≤ i). inr (strides w j i (omega arith))) (lt_or_ge i j)
