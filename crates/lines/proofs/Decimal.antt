-- The decimal text of a number is that of std: both put the last digit behind the text of the tenth, and a number below ten is one digit.
-- Std's law of texts that grow so asks for nothing else, and twenty digits hold a number of 64 bits.
use Rattle.std.proofs.Common.{◌≡◌, ℕ, zero, suc, ◌+◌, ◌%◌, ◌/◌, ◌^◌, ◌<◌, ◌≤◌, List, [], ◌∷◌, ◌++◌, arith, mod-eq_of_lt, lt-ltb, le-ltb, sym}
use Rattle.std.specs.Fmt as std
use Rattle.std.proofs.lemmas.Fmt.{decimal_from_appends, length-decimal-le}
use Rattle.io.specs.Digits.{last_digits, hex_digit_ascii}
use Rattle.lines.specs.Text.{width_by, decimal}

-- The text of a number of at most so many digits.
text : ℕ → ℕ → List ℕ
text zero n = []
text (suc more) n = last_digits 10 (width_by more n) n

digit : (n : ℕ) → n < 10 → hex_digit_ascii n ≡ 48 + n
digit n small = rw (lt-ltb n 10 small)

one : (more n : ℕ) → n < 10 → text (suc more) n ≡ (48 + n) ∷ []
unfolding text
one zero n small = rw (mod-eq_of_lt small, digit n small)
one (suc more) n small = rw (lt-ltb n 10 small, mod-eq_of_lt small, digit n small)

more_digits : (more n : ℕ) → 10 ≤ n → text (suc more) n ≡ text more (n / 10) ++ ((48 + n % 10) ∷ [])
unfolding text
more_digits zero n big = rw (digit (n % 10) (omega arith))
more_digits (suc more) n big = rw (le-ltb n 10 big, digit (n % 10) (omega arith))

-- What std writes of a number of 64 bits.
pub std_decimal : (n : ℕ) → n < 2 ^ 64 → std.decimal n ≡ decimal n
unfolding text decimal
std_decimal n fits =
    sym (decimal_from_appends text (record { one = one; more = more_digits }) 20 n fits (length-decimal-le 20 n (omega arith) (omega arith) fits))
