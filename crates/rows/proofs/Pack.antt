-- The row of a set given by a test. Bit i of each word is the test's answer there, so its members are the set's;
-- a row of 64-bit words with these members is that row, and every other law is this one with the members of an operation.
use mathlib.Core.Path.{◌≡◌, refl, sym, ap, ap₂, ◌∙◌}
use mathlib.Core.Bool.{Bool, false, not, ◌&&◌, ◌||◌}
use mathlib.Core.Logic.{⊎_elim}
use mathlib.Core.List.{List}
use Prim.Native.Nat.{ℕ, zero, suc, ◌+◌, ◌-◌, ◌*◌, ◌≤◌, ◌<◌}
use native.Mathlib.Omega.{arith}
use lib.ListN.{length, replicate, length-replicate}
use lib.Bits.{bit_or}
use lib.Dec.{eqb, lit<}
use Rattle.rows.specs.Row.{Words, less, member, member_at, with, with_at, or_row, less_row, pack}
use Rattle.rows.proofs.Digit.{word_lt, bit_word}
use Rattle.rows.proofs.Rows.{lt_or_ge, length_zip}
use Rattle.rows.proofs.Members.{length_with, member_head, member_tail, member_at_zero, with_at_zero, member_with, member_or, member_less, member_none, words_none, words_with, words_or, words_less, rows_ext}

pub length_pack : (w : ℕ) (p : ℕ → Bool) → length (pack w p) ≡ w
unfolding pack
length_pack zero p = refl
length_pack (suc w) p = ap suc (length_pack w (λ (n : ℕ). p (64 + n)))

pub pack_words : (w : ℕ) (p : ℕ → Bool) → Words (pack w p)
unfolding pack
pack_words zero p i = lit< tt
pack_words (suc w) p zero = word_lt 64 p
pack_words (suc w) p (suc i) = pack_words w (λ (n : ℕ). p (64 + n)) i

pub member_pack : (w : ℕ) (p : ℕ → Bool) (n : ℕ) → n < 64 * w → member (pack w p) n ≡ p n
unfolding pack
member_pack zero p n h = absurd (omega arith)
member_pack (suc w) p n h =
    ⊎_elim
    (λ (k : n < 64). member_head _ _ n k ∙ bit_word 64 p n k)
    (λ (k : 64 ≤ n).
    let e : 64 + (n - 64) ≡ n = omega arith in
    member_tail _ _ n k ∙ member_pack w (λ (m : ℕ). p (64 + m)) (n - 64) (omega arith) ∙ ap p e)
    (lt_or_ge n 64)

pub member_at_pack : (w : ℕ) (p : ℕ → Bool) (n : ℕ) → n < 64 * w → member_at (pack w p) 0 n ≡ p n
member_at_pack w p n h = member_at_zero (pack w p) n ∙ member_pack w p n h

-- ---- a row with the set's members is the set's row

pub pack_unique : (r : List ℕ) (w : ℕ) (p : ℕ → Bool) → length r ≡ w → Words r
    → ((n : ℕ) → n < 64 * w → member r n ≡ p n) → r ≡ pack w p
pack_unique r w p e wr h =
    rows_ext r (pack w p) (e ∙ sym (length_pack w p)) wr (pack_words w p)
    (λ n g. let k : n < 64 * w = omega arith in h n k ∙ sym (member_pack w p n k))

pub pack_ext : (w : ℕ) (p q : ℕ → Bool) → ((n : ℕ) → n < 64 * w → p n ≡ q n) → pack w p ≡ pack w q
pack_ext w p q h = pack_unique (pack w p) w q (length_pack w p) (pack_words w p) (λ n k. member_pack w p n k ∙ h n k)

pub pack_none : (w : ℕ) → pack w (λ (n : ℕ). false) ≡ replicate w 0
pack_none w = sym (pack_unique (replicate w 0) w (λ (n : ℕ). false) (length-replicate w 0) (words_none w) (λ n k. member_none w n))

-- ---- the operations on the rows of sets

module _ (w : ℕ) (p : ℕ → Bool) (n : ℕ) where
  pub pack_with : n < 64 * w → with (pack w p) n ≡ pack w (λ (m : ℕ). eqb m n || p m)
  pack_with h =
      pack_unique (with (pack w p) n) w (λ (m : ℕ). eqb m n || p m)
      (length_with (pack w p) n ∙ length_pack w p) (words_with (pack w p) n (pack_words w p))
      (λ m k. member_with (pack w p) n (rw (length_pack w p) h) m ∙ ap (λ (t : Bool). eqb m n || t) (member_pack w p m k))

  pub pack_with_at : n < 64 * w → with_at (pack w p) 0 n ≡ pack w (λ (m : ℕ). eqb m n || p m)
  pack_with_at h = with_at_zero (pack w p) n ∙ pack_with h

module _ (w : ℕ) (p q : ℕ → Bool) where
  same_length : length (pack w p) ≡ length (pack w q)
  same_length = length_pack w p ∙ sym (length_pack w q)

  pub pack_or : or_row (pack w p) (pack w q) ≡ pack w (λ (n : ℕ). p n || q n)
  pack_or =
      pack_unique (or_row (pack w p) (pack w q)) w (λ (n : ℕ). p n || q n)
      (length_zip bit_or _ _ same_length ∙ length_pack w p) (words_or _ _ same_length (pack_words w p) (pack_words w q))
      (λ n k. member_or _ _ n same_length ∙ ap₂ (λ (s t : Bool). s || t) (member_pack w p n k) (member_pack w q n k))

  pub pack_less : less_row (pack w p) (pack w q) ≡ pack w (λ (n : ℕ). p n && not (q n))
  pack_less =
      pack_unique (less_row (pack w p) (pack w q)) w (λ (n : ℕ). p n && not (q n))
      (length_zip less _ _ same_length ∙ length_pack w p) (words_less _ _ same_length (pack_words w p) (pack_words w q))
      (λ n k. member_less _ _ n same_length ∙ ap₂ (λ (s t : Bool). s && not t) (member_pack w p n k) (member_pack w q n k))
