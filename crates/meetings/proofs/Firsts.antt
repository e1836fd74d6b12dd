-- The first number of a row at or above another: the rest of its own word, then whole words, then the lowest bit of the first that is not 0. A walk
-- that goes from each such number to the next sees the row's numbers in order, each once.
use mathlib.Core.Path.{◌≡◌, refl, sym, ap, subst, ◌∙◌}
use mathlib.Core.Bool.{Bool, true, false, false≢true}
use mathlib.Core.Logic.{⊎_elim}
use mathlib.Core.List.{List, [], ◌∷◌}
use Prim.Native.Nat.{ℕ, zero, suc, ◌+◌, ◌-◌, ◌*◌, ◌/◌, ◌%◌, ◌^◌, ◌≤◌, ◌<◌}
use native.Mathlib.Nat.{not-suc-le-zero, lt_of_lt_of_le, mod-lt, zero-lt-suc}
use native.Mathlib.Omega.{arith}
use lib.Arith.{lt-one}
use lib.Pow.{shr_lt, shr-shr, pow_mono}
use lib.Count.{count_trailing_zeros, under}
use lib.Dec.{eqb}
use lib.ListN.{length, get_or}
use Rattle.rows.specs.Row.{Words, digit, bit, member}
use Rattle.rows.proofs.Digit.{digit_low, digit_suc, bit_zero, half_lt}
use Rattle.rows.proofs.Rows.{lt_or_ge}
use Rattle.fields.specs.Pick.{pick, pick_yes, pick_no}
use Rattle.meetings.specs.Members.{Lowest, Filled, First, members_from, ahead, members}

-- ---- the lowest bit of a word

bit_low : (w : ℕ) → bit w 0 ≡ eqb (w % 2) 1
unfolding bit
bit_low w = ap (λ (x : ℕ). eqb x 1) (digit_low w)

bit_suc : (w i : ℕ) → bit w (suc i) ≡ bit (w / 2) i
unfolding bit
bit_suc w i = ap (λ (x : ℕ). eqb x 1) (digit_suc w i)

abbrev LowBit : ℕ → ℕ → ℕ → Type 0
LowBit k n t = (t < k) × (bit n t ≡ true) × ((i : ℕ) → i < t → bit n i ≡ false)

pub low_bit : (k n : ℕ) → 0 < n → n < 2 ^ k → LowBit k n (count_trailing_zeros k n)
unfolding count_trailing_zeros
low_bit zero n p h = absurd (omega (arith, lt-one h))
low_bit (suc k) n p h = go (n % 2) refl (low_bit k (n / 2))
  where
    go : (d : ℕ) → n % 2 ≡ d → (0 < n / 2 → n / 2 < 2 ^ k → LowBit k (n / 2) (count_trailing_zeros k (n / 2))) → LowBit (suc k) n (under d (count_trailing_zeros k (n / 2)))
    go zero e ih =
        let r = ih (omega arith) (half_lt k h) in
        (omega (arith, r.0), bit_suc n _ ∙ r.1, below r.2)
      where
        below : ((i : ℕ) → i < count_trailing_zeros k (n / 2) → bit (n / 2) i ≡ false) → (i : ℕ) → i < suc (count_trailing_zeros k (n / 2)) → bit n i ≡ false
        below q zero l = bit_low n ∙ ap (λ (x : ℕ). eqb x 1) e
        below q (suc i) l = bit_suc n i ∙ q i (omega arith)
    go (suc d) e ih =
        let o : n % 2 ≡ 1 = omega (arith, mod-lt n (zero-lt-suc 1)) in
        (zero-lt-suc k, bit_low n ∙ ap (λ (x : ℕ). eqb x 1) o, λ i l. absurd (not-suc-le-zero l))

pub lowest : (n : ℕ) → 0 < n → n < 2 ^ 64 → Lowest n (count_trailing_zeros 64 n)
lowest n p h = let r = low_bit 64 n p h in record { small = r.0; there = r.1; none = r.2 }

-- ---- bits of a word shifted down, and past its end

bit_shifted : (w s i : ℕ) → bit (w / 2 ^ s) i ≡ bit w (s + i)
unfolding bit digit
bit_shifted w s i = ap (λ (x : ℕ). eqb (x % 2) 1) (shr-shr w s i)

bit_past : (w i : ℕ) → w < 2 ^ 64 → 64 ≤ i → bit w i ≡ false
unfolding bit digit
bit_past w i h l =
    let z : 0 + i ≡ i = omega arith in
    let g : w < 2 ^ (0 + i) = rw z (lt_of_lt_of_le h (pow_mono l)) in
    ap (λ (x : ℕ). eqb (x % 2) 1) (lt-one (shr_lt 0 i g))

-- ---- words passed one by one

pub none_more : (r : List ℕ) (from at : ℕ) → ((k : ℕ) → from ≤ k → k < at → get_or r k 0 ≡ 0) → get_or r at 0 ≡ 0
    → (k : ℕ) → from ≤ k → k < at + 1 → get_or r k 0 ≡ 0
none_more r from at h z k a b =
    ⊎_elim (h k a) (λ (g : at ≤ k). let e : k ≡ at = omega arith in ap (λ (x : ℕ). get_or r x 0) e ∙ z) (lt_or_ge k at)

-- ---- the first number

module _ (r : List ℕ) (from : ℕ) (inside : from / 64 < length r) where
  -- in the word of `from` itself
  pub first_here : (t : ℕ) → Words r → Lowest (get_or r (from / 64) 0 / 2 ^ (from % 64)) t → First r from (from + t)
  unfolding member
  first_here t ws l = record {
    low = omega arith;
    high = omega (arith, room);
    none = λ k a b. at k (omega (arith, room)) ∙ here k a (omega (arith, room)) ∙ l.none (k - from) (omega arith);
    there = λ h. at (from + t) (omega (arith, room)) ∙ here (from + t) (omega arith) (omega (arith, room)) ∙ ap (bit (get_or r (from / 64) 0 / 2 ^ (from % 64))) (omega arith) ∙ l.there;
  }
    where
      room : from % 64 + t < 64
      room = ⊎_elim (λ h. h) (λ h. absurd (false≢true (sym (bit_past (get_or r (from / 64) 0) (from % 64 + t) (ws (from / 64)) h) ∙ sym (bit_shifted _ (from % 64) t) ∙ l.there))) (lt_or_ge (from % 64 + t) 64)

      at : (k : ℕ) → k / 64 ≡ from / 64 → member r k ≡ bit (get_or r (from / 64) 0) (k % 64)
      at k e = ap (λ (x : ℕ). bit (get_or r x 0) (k % 64)) e

      here : (k : ℕ) → from ≤ k → k / 64 ≡ from / 64 → bit (get_or r (from / 64) 0) (k % 64) ≡ bit (get_or r (from / 64) 0 / 2 ^ (from % 64)) (k - from)
      here k a e =
          let q : k % 64 ≡ from % 64 + (k - from) = omega arith in
          ap (bit (get_or r (from / 64) 0)) q ∙ sym (bit_shifted (get_or r (from / 64) 0) (from % 64) (k - from))

  -- in a later word
  module _ (next : ℕ) (empty : get_or r (from / 64) 0 / 2 ^ (from % 64) ≡ 0) (f : Filled r (from / 64 + 1) next) where
    passed : (k : ℕ) → from ≤ k → k < next * 64 → member r k ≡ false
    unfolding member
    passed k a b = ⊎_elim
        (λ (h : k / 64 < from / 64 + 1).
        let e : k / 64 ≡ from / 64 = omega arith in
        let q : k % 64 ≡ from % 64 + (k - from) = omega arith in
        ap (λ (x : ℕ). bit (get_or r x 0) (k % 64)) e ∙ ap (bit (get_or r (from / 64) 0)) q ∙ sym (bit_shifted (get_or r (from / 64) 0) (from % 64) (k - from))
        ∙ ap (λ (x : ℕ). bit x (k - from)) empty ∙ bit_zero (k - from))
        (λ (h : from / 64 + 1 ≤ k / 64). ap (λ (x : ℕ). bit x (k % 64)) (f.none (k / 64) h (omega arith)) ∙ bit_zero (k % 64))
        (lt_or_ge (k / 64) (from / 64 + 1))

    pub first_none : length r ≤ next → First r from (next * 64)
    first_none h = record {
      low = omega (arith, f.low);
      high = omega (arith, f.high);
      none = passed;
      there = λ l. absurd (omega arith);
    }

    pub first_later : (t : ℕ) → next < length r → Lowest (get_or r next 0) t → First r from (next * 64 + t)
    unfolding member
    first_later t h l = record {
      low = omega (arith, f.low, l.small);
      high = omega (arith, l.small);
      none = λ k a b. ⊎_elim (passed k a) (λ (g : next * 64 ≤ k). at k (omega (arith, l.small)) ∙ l.none (k % 64) (omega (arith, l.small))) (lt_or_ge k (next * 64));
      there = λ g. at (next * 64 + t) (omega (arith, l.small)) ∙ ap (bit (get_or r next 0)) (omega (arith, l.small)) ∙ l.there;
    }
      where
        at : (k : ℕ) → k / 64 ≡ next → member r k ≡ bit (get_or r next 0) (k % 64)
        at k e = ap (λ (x : ℕ). bit (get_or r x 0) (k % 64)) e

-- Past the row's words there is none.
pub first_past : (r : List ℕ) (from : ℕ) → from ≤ 64 * length r → length r ≤ from / 64 → First r from from
first_past r from h l = record { low = omega arith; high = h; none = λ k a b. absurd (omega arith); there = λ g. absurd (omega arith) }

-- ---- a walk

skips : (r : List ℕ) (n d k : ℕ) → ((i : ℕ) → n ≤ i → i < n + d → member r i ≡ false) → members_from r n (d + k) ≡ members_from r (n + d) k
unfolding members_from
skips r n zero k h = let a : 0 + k ≡ k = omega arith in let b : n ≡ n + 0 = omega arith in ap (members_from r n) a ∙ ap (λ (x : ℕ). members_from r x k) b
skips r n (suc d) k h =
    let a : suc d + k ≡ suc (d + k) = omega arith in
    let b : suc n + d ≡ n + suc d = omega arith in
    ap (members_from r n) a ∙ pick_no (member r n) _ _ (h n (omega arith) (omega arith)) ∙ skips r (suc n) d k (λ i p q. h i (omega arith) (omega arith))
    ∙ ap (λ (x : ℕ). members_from r x k) b

pub ahead_past : (r : List ℕ) (from to : ℕ) → from ≤ to → to ≤ 64 * length r → ((k : ℕ) → from ≤ k → k < to → member r k ≡ false) → ahead r from ≡ ahead r to
unfolding ahead
ahead_past r from to l h none =
    let a : 64 * length r - from ≡ (to - from) + (64 * length r - to) = omega arith in
    let b : from + (to - from) ≡ to = omega arith in
    ap (members_from r from) a
    ∙ skips r from (to - from) (64 * length r - to) (λ i p q. none i p (omega arith))
    ∙ ap (λ (x : ℕ). members_from r x (64 * length r - to)) b

module _ {r : List ℕ} {from found : ℕ} (f : First r from found) where
  pub first_ahead : ahead r from ≡ ahead r found
  first_ahead = ahead_past r from found f.low f.high f.none

  pub first_cons : found < 64 * length r → ahead r found ≡ found ∷ ahead r (found + 1)
  unfolding ahead members_from
  first_cons h =
      let a : 64 * length r - found ≡ suc (64 * length r - (found + 1)) = omega arith in
      let b : suc found ≡ found + 1 = omega arith in
      ap (members_from r found) a ∙ pick_yes (member r found) _ _ (f.there h) ∙ ap (λ (x : ℕ). found ∷ members_from r x (64 * length r - (found + 1))) b

pub ahead_end : (r : List ℕ) (n : ℕ) → 64 * length r ≤ n → ahead r n ≡ []
unfolding ahead members_from
ahead_end r n h = let a : 64 * length r - n ≡ 0 = omega arith in ap (members_from r n) a

-- A member is below the row's end.
members_below : (r : List ℕ) (n k v : ℕ) (l : List ℕ) → members_from r n k ≡ v ∷ l → v < n + k
unfolding members_from pick
members_below r n zero v l e = cc
members_below r n (suc k) v l e = go (member r n) e (members_below r (suc n) k v l)
  where
    go : (b : Bool) → pick b (n ∷ members_from r (suc n) k) (members_from r (suc n) k) ≡ v ∷ l → (members_from r (suc n) k ≡ v ∷ l → v < suc n + k) → v < n + suc k
    go true e ih = let q : n ≡ v = cc in omega arith
    go false e ih = omega (arith, ih e)

pub ahead_below : (r : List ℕ) (n v : ℕ) (l : List ℕ) → n ≤ 64 * length r → ahead r n ≡ v ∷ l → v < 64 * length r
unfolding ahead
ahead_below r n v l h e = omega (arith, members_below r n (64 * length r - n) v l e)

-- A row whose words are all 0 holds no number.
pub no_members : (r : List ℕ) (n : ℕ) → Filled r 0 n → length r ≤ n → members r ≡ []
unfolding member
no_members r n f h =
    ahead_past r 0 (64 * length r) (omega arith) (omega arith)
    (λ k a b. ap (λ (x : ℕ). bit x (k % 64)) (f.none (k / 64) (omega arith) (omega arith)) ∙ bit_zero (k % 64))
    ∙ ahead_end r (64 * length r) (omega arith)

-- ---- a word in hand: what is left of word n from number v on, shifted down

module _ (r : List ℕ) (n v left : ℕ) (low : n * 64 ≤ v) (inside : n < length r) (ws : Words r) (rest : left ≡ get_or r n 0 / 2 ^ (v - n * 64)) where
  bit_left : (i : ℕ) → bit left i ≡ bit (get_or r n 0) (v - n * 64 + i)
  bit_left i = ap (λ (x : ℕ). bit x i) rest ∙ bit_shifted (get_or r n 0) (v - n * 64) i

  pub word_room : (t : ℕ) → Lowest left t → v + t < n * 64 + 64
  word_room t l =
      ⊎_elim (λ (h : v - n * 64 + t < 64). omega arith)
      (λ (h : 64 ≤ v - n * 64 + t). absurd (false≢true (sym (bit_past (get_or r n 0) (v - n * 64 + t) (ws n) h) ∙ sym (bit_left t) ∙ l.there)))
      (lt_or_ge (v - n * 64 + t) 64)

  pub word_next : (t : ℕ) → Lowest left t → ahead r v ≡ (v + t) ∷ ahead r (v + t + 1)
  word_next t l =
      let g = word_room t l in
      let a : n ≡ v / 64 = omega arith in
      let b : v - n * 64 ≡ v % 64 = omega arith in
      let e : left ≡ get_or r (v / 64) 0 / 2 ^ (v % 64) = rest ∙ ap (λ (x : ℕ). get_or r n 0 / 2 ^ x) b ∙ ap (λ (x : ℕ). get_or r x 0 / 2 ^ (v % 64)) a in
      let f = first_here r v (omega arith) t ws (subst (λ (x : ℕ). Lowest x t) e l) in
      first_ahead f ∙ first_cons f (omega arith)

  pub word_rest : (t : ℕ) → left / 2 ^ t / 2 ^ 1 ≡ get_or r n 0 / 2 ^ (v + (t + 1) - n * 64)
  word_rest t =
      let e : v - n * 64 + t + 1 ≡ v + (t + 1) - n * 64 = omega arith in
      ap (λ (x : ℕ). x / 2 ^ t / 2 ^ 1) rest ∙ ap (λ (x : ℕ). x / 2 ^ 1) (shr-shr (get_or r n 0) (v - n * 64) t) ∙ shr-shr (get_or r n 0) (v - n * 64 + t) 1
      ∙ ap (λ (x : ℕ). get_or r n 0 / 2 ^ x) e

  pub word_done : left ≡ 0 → v ≤ n * 64 + 64 → ahead r v ≡ ahead r (n * 64 + 64)
  unfolding member
  word_done z h = ahead_past r v (n * 64 + 64) h (omega arith) (λ k a b.
      let p : k / 64 ≡ n = omega arith in
      let q : k % 64 ≡ v - n * 64 + (k - v) = omega arith in
      ap (λ (x : ℕ). bit (get_or r x 0) (k % 64)) p ∙ ap (bit (get_or r n 0)) q ∙ sym (bit_left (k - v)) ∙ ap (λ (x : ℕ). bit x (k - v)) z ∙ bit_zero (k - v))
