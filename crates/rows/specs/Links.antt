-- Numbers linked by their keys. The numbers 0, 1, 2 and so on have keys below 256. For each key the entry of `lasts` leads to the last number of that key,
-- and the entry of a number in `befores` leads to the one before it of its own key, both plus 1; 0 ends a chain.
use Rattle.std.specs.Prelude.{◌≡◌, cond, List, ℕ, zero, suc, ◌<◌, eqb, get_or}

-- 1 + the last number below n that has the key b; 0 where none has.
unfoldable pub last_of : ℕ → List ℕ → ℕ → ℕ
last_of b keys zero = 0
last_of b keys (suc n) = cond (eqb (get_or keys n 0) b) (suc n) (last_of b keys n)

-- The first n numbers are linked.
pub record Linked (keys lasts befores : List ℕ) (n : ℕ) : Type 0 where
  pub last_is : (b : ℕ) → b < 256 → get_or lasts b 0 ≡ last_of b keys n
  pub before_is : (i : ℕ) → i < n → get_or befores i 0 ≡ last_of (get_or keys i 0) keys i
