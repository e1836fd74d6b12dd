-- The bits of one word, for any width. Each operation works digit by digit, from the lowest up,
-- so a law of one bit is a law of two digits, which four cases settle; and a word is its bits by halving.
use mathlib.Core.Path.{◌≡◌, refl, sym, ap, ◌∙◌}
use mathlib.Core.Bool.{Bool, true, false, not, ◌&&◌, ◌||◌, false≢true}
use Prim.Native.Nat.{ℕ, zero, suc, ◌+◌, ◌*◌, ◌/◌, ◌%◌, ◌^◌, ◌<◌, min, max, suc-le-suc}
use native.Mathlib.Nat.{mod-lt, zero-lt-suc, pow-suc, div-one, zero-div, not-suc-le-zero, le_of_suc-le-suc, one-mul}
use native.Mathlib.Numerals.{one-add}
use native.Mathlib.Omega.{arith}
use lib.Arith.{digits_mod, lt-one}
use lib.Pow.{shl-shr, shl_exact, shr-shr}
use lib.Bits.{bit_or, bit_and, bit_xor, differ, or_step, and_step, xor_step, or_shr, and_shr, xor_shr, and_lt, xor_lt}
use lib.Dec.{eqb, lit<}
use Rattle.rows.specs.Row.{digit, bit, less, as_digit, word}

pub digit_lt : (w i : ℕ) → digit w i < 2
unfolding digit
digit_lt w i = mod-lt (w / 2 ^ i) (zero-lt-suc 1)

pub digit_low : (w : ℕ) → digit w 0 ≡ w % 2
unfolding digit
digit_low w = ap (λ (x : ℕ). x % 2) (div-one w)

pub digit_suc : (w i : ℕ) → digit w (suc i) ≡ digit (w / 2) i
unfolding digit
digit_suc w i = sym (ap (λ (x : ℕ). x % 2) (shr-shr w 1 i ∙ ap (λ (x : ℕ). w / 2 ^ x) (one-add i)))

-- What a u64 `1 << k` holds.
pub shifted_one : (k : ℕ) → k < 64 → (1 * 2 ^ k) % 2 ^ 64 ≡ 2 ^ k
shifted_one k h = shl_exact 1 k 64 (omega arith) (omega arith) ∙ one-mul (2 ^ k)

-- ---- operations on two digits

digit_two : (P : ℕ → ℕ → Type 0) → P 0 0 → P 0 1 → P 1 0 → P 1 1 → (x y : ℕ) → x < 2 → y < 2 → P x y
digit_two P a b c d zero zero hx hy = a
digit_two P a b c d zero (suc zero) hx hy = b
digit_two P a b c d (suc zero) zero hx hy = c
digit_two P a b c d (suc zero) (suc zero) hx hy = d
digit_two P a b c d (suc (suc x)) y hx hy = absurd (not-suc-le-zero (le_of_suc-le-suc (le_of_suc-le-suc hx)))
digit_two P a b c d zero (suc (suc y)) hx hy = absurd (not-suc-le-zero (le_of_suc-le-suc (le_of_suc-le-suc hy)))
digit_two P a b c d (suc zero) (suc (suc y)) hx hy = absurd (not-suc-le-zero (le_of_suc-le-suc (le_of_suc-le-suc hy)))

-- One law for or, and, xor: an operation that works digit by digit.
module _ (op f : ℕ → ℕ → ℕ)
    (shr : (a b k : ℕ) → op a b / 2 ^ k ≡ op (a / 2 ^ k) (b / 2 ^ k))
    (step : (a b : ℕ) → op a b ≡ op (a / 2) (b / 2) * 2 + f (a % 2) (b % 2))
    (small : (x y : ℕ) → x < 2 → y < 2 → f x y < 2) where
  digit_op : (a b i : ℕ) → digit (op a b) i ≡ f (digit a i) (digit b i)
  unfolding digit
  digit_op a b i =
      ap (λ (x : ℕ). x % 2) (shr a b i ∙ step (a / 2 ^ i) (b / 2 ^ i)) ∙ digits_mod _ (small _ _ (digit_lt a i) (digit_lt b i))

pub digit_or : (a b i : ℕ) → digit (bit_or a b) i ≡ max (digit a i) (digit b i)
digit_or = digit_op bit_or max or_shr or_step
    (digit_two (λ (x y : ℕ). max x y < 2) (lit< tt) (lit< tt) (lit< tt) (lit< tt))

pub digit_and : (a b i : ℕ) → digit (bit_and a b) i ≡ min (digit a i) (digit b i)
digit_and = digit_op bit_and min and_shr and_step
    (digit_two (λ (x y : ℕ). min x y < 2) (lit< tt) (lit< tt) (lit< tt) (lit< tt))

pub digit_xor : (a b i : ℕ) → digit (bit_xor a b) i ≡ differ (digit a i) (digit b i)
digit_xor = digit_op bit_xor differ xor_shr xor_step
    (digit_two (λ (x y : ℕ). differ x y < 2) (lit< tt) (lit< tt) (lit< tt) (lit< tt))

pub digit_less : (a b i : ℕ) → digit (less a b) i ≡ differ (digit a i) (min (digit a i) (digit b i))
digit_less a b i = digit_xor a (bit_and a b) i ∙ ap (differ (digit a i)) (digit_and a b i)

-- ---- the word with bit k alone

pub digit_zero : (i : ℕ) → digit 0 i ≡ 0
unfolding digit
digit_zero i = ap (λ (x : ℕ). x % 2) (zero-div (2 ^ i))

pub digit_pow_same : (k : ℕ) → digit (2 ^ k) k ≡ 1
unfolding digit
digit_pow_same k = ap (λ (x : ℕ). x % 2) (ap (λ (x : ℕ). x / 2 ^ k) (sym (one-mul (2 ^ k))) ∙ shl-shr 1 k)

pub digit_pow_other : (k i : ℕ) → (i ≡ k → ⊥) → digit (2 ^ k) i ≡ 0
digit_pow_other zero zero h = absurd (h refl)
digit_pow_other zero (suc i) h = digit_suc 1 i ∙ digit_zero i
digit_pow_other (suc k) zero h = let p : 2 ^ suc k ≡ 2 ^ k * 2 = pow-suc 2 k in digit_low _ ∙ omega arith
digit_pow_other (suc k) (suc i) h =
    let p : 2 ^ suc k ≡ 2 ^ k * 2 = pow-suc 2 k in
    let e : 2 ^ suc k / 2 ≡ 2 ^ k = omega arith in
    digit_suc _ i ∙ ap (λ (x : ℕ). digit x i) e ∙ digit_pow_other k i (λ q. h (ap suc q))

-- ---- as Bools

pub bit_of_or : (a b i : ℕ) → bit (bit_or a b) i ≡ (bit a i || bit b i)
unfolding bit
bit_of_or a b i =
    ap (λ (x : ℕ). eqb x 1) (digit_or a b i)
    ∙ digit_two (λ (x y : ℕ). eqb (max x y) 1 ≡ (eqb x 1 || eqb y 1)) refl refl refl refl _ _ (digit_lt a i) (digit_lt b i)

pub bit_less : (a b i : ℕ) → bit (less a b) i ≡ (bit a i && not (bit b i))
unfolding bit
bit_less a b i =
    ap (λ (x : ℕ). eqb x 1) (digit_less a b i)
    ∙ digit_two (λ (x y : ℕ). eqb (differ x (min x y)) 1 ≡ (eqb x 1 && not (eqb y 1))) refl refl refl refl _ _ (digit_lt a i) (digit_lt b i)

pub bit_zero : (i : ℕ) → bit 0 i ≡ false
unfolding bit
bit_zero i = ap (λ (x : ℕ). eqb x 1) (digit_zero i)

pub bit_pow_same : (k : ℕ) → bit (2 ^ k) k ≡ true
unfolding bit
bit_pow_same k = ap (λ (x : ℕ). eqb x 1) (digit_pow_same k)

pub bit_pow_other : (k i : ℕ) → (i ≡ k → ⊥) → bit (2 ^ k) i ≡ false
unfolding bit
bit_pow_other k i h = ap (λ (x : ℕ). eqb x 1) (digit_pow_other k i h)

-- Equal tests, equal digits.
pub bit_eq : (a b i : ℕ) → bit a i ≡ bit b i → digit a i ≡ digit b i
unfolding bit
bit_eq a b i = digit_two (λ (x y : ℕ). eqb x 1 ≡ eqb y 1 → x ≡ y)
    (λ e. refl) (λ e. absurd (false≢true e)) (λ e. absurd (false≢true (sym e))) (λ e. refl) _ _ (digit_lt a i) (digit_lt b i)

-- ---- a word is its bits

halves : {a b : ℕ} → a / 2 ≡ b / 2 → a % 2 ≡ b % 2 → a ≡ b
halves p q = omega arith

pub half_lt : {a : ℕ} (k : ℕ) → a < 2 ^ suc k → a / 2 < 2 ^ k
half_lt {a} k h = let p : 2 ^ suc k ≡ 2 ^ k * 2 = pow-suc 2 k in omega arith

pub word_ext : (k a b : ℕ) → a < 2 ^ k → b < 2 ^ k → ((i : ℕ) → i < k → digit a i ≡ digit b i) → a ≡ b
word_ext zero a b ha hb h = lt-one ha ∙ sym (lt-one hb)
word_ext (suc k) a b ha hb h =
    halves (word_ext k (a / 2) (b / 2) (half_lt k ha) (half_lt k hb)
    (λ i g. sym (digit_suc a i) ∙ h (suc i) (suc-le-suc g) ∙ digit_suc b i))
    (sym (digit_low a) ∙ h 0 (omega arith) ∙ digit_low b)

-- Taking bits away keeps the bound.
pub less_lt : (k a b : ℕ) → a < 2 ^ k → b < 2 ^ k → less a b < 2 ^ k
less_lt k a b ha hb = xor_lt k a (bit_and a b) ha (and_lt k a b ha hb)

-- ---- the word made of a test

as_digit_lt : (t : Bool) → as_digit t < 2
unfolding as_digit
as_digit_lt true = lit< tt
as_digit_lt false = lit< tt

as_digit_one : (t : Bool) → eqb (as_digit t) 1 ≡ t
unfolding as_digit
as_digit_one true = refl
as_digit_one false = refl

pub word_lt : (k : ℕ) (p : ℕ → Bool) → word k p < 2 ^ k
unfolding word
word_lt zero p = lit< tt
word_lt (suc k) p = omega (arith, pow-suc 2 k, as_digit_lt (p 0), word_lt k (λ (i : ℕ). p (suc i)))

pub bit_word : (k : ℕ) (p : ℕ → Bool) (i : ℕ) → i < k → bit (word k p) i ≡ p i
unfolding word bit
bit_word zero p i h = absurd (not-suc-le-zero h)
bit_word (suc k) p zero h =
    let e : (as_digit (p 0) + 2 * word k (λ (i : ℕ). p (suc i))) % 2 ≡ as_digit (p 0) = omega (arith, as_digit_lt (p 0)) in
    ap (λ (x : ℕ). eqb x 1) (digit_low _ ∙ e) ∙ as_digit_one (p 0)
bit_word (suc k) p (suc i) h =
    let e : (as_digit (p 0) + 2 * word k (λ (i : ℕ). p (suc i))) / 2 ≡ word k (λ (i : ℕ). p (suc i)) = omega (arith, as_digit_lt (p 0)) in
    ap (λ (x : ℕ). eqb x 1) (digit_suc _ i ∙ ap (λ (x : ℕ). digit x i) e)
    ∙ bit_word k (λ (i : ℕ). p (suc i)) i (le_of_suc-le-suc h)
