-- Sets of numbers as rows of 64-bit words, for any number of words.
-- The rule is document 01's, section "Refusal numbers", last paragraph: in a row, number n is bit n mod 64 of word n div 64.
use Rattle.std.specs.Prelude.{Bool, true, false, ◌⊎◌, List, [], ◌∷◌, ◌++◌, ℕ, zero, suc, ◌+◌, ◌*◌, ◌/◌, ◌%◌, ◌^◌, ◌≤◌, ◌<◌, get_or, take, drop, length, set, eqb}
use Rattle.std.specs.Cmp.Lexicographic.{pointwise}
use Rattle.std.specs.Int.Bits.{bit_or, bit_and, bit_xor}

-- Bit i of the word w, as 0 or 1.
unfoldable pub digit : ℕ → ℕ → ℕ
digit w i = w / 2 ^ i % 2

-- Is bit i of the word w set?
unfoldable pub bit : ℕ → ℕ → Bool
unfolding digit
bit w i = eqb (digit w i) 1

-- Every word of the row fits 64 bits. Past the row's end `get_or` gives 0, which fits.
abbrev pub Words : List ℕ → Type 0
Words r = (i : ℕ) → get_or r i 0 < 2 ^ 64

-- Is the number n in the row r?
unfoldable pub member : List ℕ → ℕ → Bool
member r n = bit (get_or r (n / 64) 0) (n % 64)

-- The bits of a that are not in b.
abbrev pub less : ℕ → ℕ → ℕ
less a b = bit_xor a (bit_and a b)

-- The row r with the number n put in.
unfoldable pub with : List ℕ → ℕ → List ℕ
with r n = set r (n / 64) (bit_or (get_or r (n / 64) 0) (2 ^ (n % 64)))

-- Is the number n in the row that starts at word base of ws, however many words that row has?
unfoldable pub member_at : List ℕ → ℕ → ℕ → Bool
member_at ws base n = bit (get_or ws (base + n / 64) 0) (n % 64)

-- The words ws with the number n put into the row at base.
unfoldable pub with_at : List ℕ → ℕ → ℕ → List ℕ
with_at ws base n = set ws (base + n / 64) (bit_or (get_or ws (base + n / 64) 0) (2 ^ (n % 64)))

-- The row of n words that starts at word base of ws.
unfoldable pub row : List ℕ → ℕ → ℕ → List ℕ
row ws base n = take n (drop base ws)

-- The words ws with the row r written over those from base on.
unfoldable pub put : List ℕ → ℕ → List ℕ → List ℕ
put ws base r = take base ws ++ r ++ drop (base + length r) ws

-- An operation on two rows, word by word.
unfoldable pub zip : (ℕ → ℕ → ℕ) → List ℕ → List ℕ → List ℕ
zip f [] b = []
zip f (x ∷ a) [] = []
zip f (x ∷ a) (y ∷ b) = f x y ∷ zip f a b

-- The union of two rows.
abbrev pub or_row : List ℕ → List ℕ → List ℕ
or_row = zip bit_or

-- What of the first row is not in the second.
abbrev pub less_row : List ℕ → List ℕ → List ℕ
less_row = zip less

-- Are two rows the same words?
unfoldable pub same_row : List ℕ → List ℕ → Bool
same_row = pointwise eqb

-- Two stretches of words, n from a on and m from b on, do not meet.
abbrev pub Apart : ℕ → ℕ → ℕ → ℕ → Type 0
Apart a n b m = (a + n ≤ b) ⊎ (b + m ≤ a)

-- A test as a bit: 1 where it holds, else 0.
unfoldable pub as_digit : Bool → ℕ
as_digit true = 1
as_digit false = 0

-- The word of k bits whose bit i is set where p i holds.
unfoldable pub word : ℕ → (ℕ → Bool) → ℕ
word zero p = 0
word (suc k) p = as_digit (p 0) + 2 * word k (λ (i : ℕ). p (suc i))

-- The row of w words that holds exactly the numbers n below 64 * w for which p n holds.
unfoldable pub pack : ℕ → (ℕ → Bool) → List ℕ
pack zero p = []
pack (suc w) p = word 64 p ∷ pack w (λ (n : ℕ). p (64 + n))
