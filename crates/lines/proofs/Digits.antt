-- The law of what `decimal` names: the fewest digits that hold a number of 64 bits are its text, and they are at most twenty.
-- Two counts that are both the fewest are equal, and `width_by` is such a count, since it grows by one for each division by ten.
use Prim.Native.Nat.{ℕ, zero, suc, ◌-◌, ◌/◌, ◌^◌, ◌≤◌, ◌<◌}
use native.Mathlib.Nat.{le_antisymm, le_of_suc-le-suc, lt_of_not-le, pow-le-pow_right, pow-suc, pow-zero}
use native.Mathlib.Omega.{arith}
use mathlib.Core.Bool.{Bool, true, false, cond}
use mathlib.Core.Path.{◌≡◌, refl, ap, subst}
use borrow.Author.Tests.{ltb-true, ltb-false}
use lib.Dec.{ltb}
use Rattle.io.specs.Digits.{last_digits, IsDigitCount}
use Rattle.lines.specs.Text.{width_by, decimal}

over : (n k most : ℕ) → IsDigitCount 10 1 n k → 1 ≤ most → n < 10 ^ most → most < k → ⊥
over n k most fewest some holds more =
    let p : 10 ^ (k - 1) ≤ n = fewest.2 (omega arith) in
    let r : most ≤ k - 1 = omega arith in
    let q : 10 ^ most ≤ 10 ^ (k - 1) = pow-le-pow_right (omega arith) r in
    omega arith

-- Where `most` digits hold a number, the fewest are no more.
pub fewest_at_most : (n k most : ℕ) → IsDigitCount 10 1 n k → 1 ≤ most → n < 10 ^ most → k ≤ most
fewest_at_most n k most fewest some holds = le_of_suc-le-suc (lt_of_not-le (over n k most fewest some holds))

fewest_unique : (n k j : ℕ) → IsDigitCount 10 1 n k → IsDigitCount 10 1 n j → k ≡ j
fewest_unique n k j f g = le_antisymm (fewest_at_most n k j f g.0 g.1) (fewest_at_most n j k g f.0 f.1)

one_digit : (n : ℕ) → n < 10 → IsDigitCount 10 1 n 1
one_digit n small = (omega arith, omega arith, λ h. omega arith)

lower : (n j : ℕ) → 10 ≤ n → IsDigitCount 10 1 (n / 10) (suc j) → 10 ^ j ≤ n / 10
lower n zero big f = omega (arith, pow-zero 10)
lower n (suc j) big f =
    let e : suc (suc j) - 1 ≡ suc j = omega arith in
    subst (λ (i : ℕ). 10 ^ i ≤ n / 10) e (f.2 (omega arith))

-- One digit more than the tenth of a number takes.
one_more : (n k : ℕ) → 10 ≤ n → IsDigitCount 10 1 (n / 10) k → IsDigitCount 10 1 n (suc k)
one_more n zero big f = omega arith
one_more n (suc j) big f =
    let e : suc j ≡ suc (suc j) - 1 = omega arith in
    let p : 10 ^ suc j ≤ n = omega (arith, pow-suc 10 j, lower n j big f) in
    let q : n < 10 ^ suc (suc j) = omega (arith, pow-suc 10 (suc j), f.1) in
    (omega arith, q, λ h. subst (λ (i : ℕ). 10 ^ i ≤ n) e p)

by_test : (n k : ℕ) (t : Bool) → ltb n 10 ≡ t → (10 ≤ n → IsDigitCount 10 1 (n / 10) k) → IsDigitCount 10 1 n (cond t 1 (suc k))
by_test n k true e f = one_digit n (ltb-true n 10 e)
by_test n k false e f = let big : 10 ≤ n = ltb-false n 10 e in one_more n k big (f big)

width_fewest : (more n : ℕ) → n < 10 ^ suc more → IsDigitCount 10 1 n (width_by more n)
width_fewest zero n small = one_digit n (omega (arith, pow-suc 10 0, pow-zero 10))
width_fewest (suc more) n small =
    by_test n (width_by more (n / 10)) (ltb n 10) refl
    (λ big. width_fewest more (n / 10) (omega (arith, pow-suc 10 (suc more))))

-- Twenty digits hold a number of 64 bits.
pub at_most_twenty : (n k : ℕ) → n < 2 ^ 64 → IsDigitCount 10 1 n k → k ≤ 20
at_most_twenty n k small fewest = fewest_at_most n k 20 fewest (omega arith) (omega arith)

-- The fewest digits that hold a number are its text.
pub fewest_decimal : (n k : ℕ) → n < 2 ^ 64 → IsDigitCount 10 1 n k → last_digits 10 k n ≡ decimal n
unfolding decimal
fewest_decimal n k small fewest =
    let wide : n < 10 ^ 20 = omega arith in
    ap (λ (i : ℕ). last_digits 10 i n) (fewest_unique n k (width_by 19 n) fewest (width_fewest 19 n wide))
