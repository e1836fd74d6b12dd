-- Laws of the reader's lists, for code that keeps them as bit rows and arrays: one member more, and the number of a unit. Each holds by the list's
-- elements from the front: a member stands in one of them, and a unit's number is the place of the first that is its word.
use Rattle.std.specs.Prelude.{Option, Some, None}
use mathlib.Core.Path.{◌≡◌, refl, sym, ap, ◌∙◌}
use mathlib.Core.Bool.{Bool, true, false, true≢false, or_comm}
use mathlib.Core.Logic.{◌⊎◌, inl, inr}
use mathlib.Core.List.{List, [], ◌∷◌, ◌++◌}
use Prim.Native.Nat.{ℕ, ◌+◌, ◌/◌, ◌≤◌, ◌<◌, zero, suc}
use native.Mathlib.Omega.{arith}
use native.Mathlib.Numerals.{add-one}
use lib.Dec.{eqb}
use lib.ListN.{length, get_or, take, set, length-append}
use lib.Seq.{take-suc, take-suc-set}
use borrow.Author.Tests.{eqb-true, eq-eqb, ne_eqb}
use Rattle.fields.specs.Pick.{pick, pick_yes, pick_no, ◌or◌, has}
use Rattle.records.specs.Units.{number_in}
use Rattle.fields.proofs.Front.{or_cases, or_is}
use Rattle.records.proofs.Range.{Distinct}
use Rattle.records.proofs.Numbers.{has_snoc, at_has}
use Rattle.rows.specs.Row.{member_at, with_at, pack}
use Rattle.rows.proofs.Pack.{member_at_pack, pack_with_at, pack_ext}

-- a new unit gets the next number
pub number_snoc : (word : ℕ) (us : List ℕ) → has word us ≡ false → number_in word (us ++ (word ∷ [])) ≡ length us
unfolding number_in has pick
number_snoc word [] h = rw (eq-eqb word word refl)
number_snoc word (u ∷ us) h = go (eqb word u) h (number_snoc word us)
  where
    go : (t : Bool) → (t or has word us) ≡ false → (has word us ≡ false → number_in word (us ++ (word ∷ [])) ≡ length us) → pick t 0 (suc (number_in word (us ++ (word ∷ [])))) ≡ suc (length us)
    go true h ih = absurd (true≢false h)
    go false h ih = ap suc (ih h)

-- The unit in place n has number n.
pub number_of_lem : (us : List ℕ) (n : ℕ) → Distinct us → n < length us → number_in (get_or us n 0) us ≡ n
unfolding number_in pick
number_of_lem [] n d l = absurd (omega arith)
number_of_lem (u ∷ us) zero d l = rw (eq-eqb u u refl)
number_of_lem (u ∷ us) (suc n) d l = go (eqb (get_or us n 0) u) refl (number_of_lem us n d.1 (omega arith))
  where
    go : (t : Bool) → eqb (get_or us n 0) u ≡ t → number_in (get_or us n 0) us ≡ n → pick t 0 (suc (number_in (get_or us n 0) us)) ≡ suc n
    go true e h = absurd (true≢false (sym (rw (eqb-true (get_or us n 0) u e) at (at_has us n (omega arith))) ∙ d.0))
    go false e h = ap suc h

-- A list that stands at the front of a longer one, after one element more -----------------------------------------------------------------------

pub front_snoc : (l xs : List ℕ) (k : ℕ) → take (length xs) l ≡ xs → length xs < length l → take (length (xs ++ (k ∷ []))) (set l (length xs) k) ≡ xs ++ (k ∷ [])
front_snoc l xs k e h =
    let n : length (xs ++ (k ∷ [])) ≡ suc (length xs) = length-append xs (k ∷ []) ∙ add-one (length xs) in
    rw n (take-suc-set l (length xs) k h ∙ ap (λ (ys : List ℕ). ys ++ (k ∷ [])) e)

-- the members among the first i + 1 elements
pub has_more : (x : ℕ) (l : List ℕ) (i : ℕ) → i < length l → has x (take (i + 1) l) ≡ (has x (take i l) or eqb x (get_or l i 0))
has_more x l i h = rw (add-one, take-suc l i 0) (has_snoc x (get_or l i 0) (take i l))

-- A list as a row of four words -------------------------------------------------------------------------------------------------------------------

module _ (row xs : List ℕ) (x : ℕ) (e : row ≡ pack 4 (λ (n : ℕ). has n xs)) (low : x < 256) where
  pub row_has : member_at row 0 x ≡ has x xs
  row_has = ap (λ (l : List ℕ). member_at l 0 x) e ∙ member_at_pack 4 (λ (n : ℕ). has n xs) x (omega arith)

  pub row_snoc : with_at row 0 x ≡ pack 4 (λ (n : ℕ). has n (xs ++ (x ∷ [])))
  row_snoc =
      ap (λ (l : List ℕ). with_at l 0 x) e ∙ pack_with_at 4 (λ (n : ℕ). has n xs) x (omega arith)
      ∙ pack_ext 4 _ _ (λ n k. or_comm (eqb n x) (has n xs) ∙ sym (or_is (has n xs) (eqb n x)) ∙ sym (has_snoc n x xs))

-- and the members stay low
pub low_snoc : (xs : List ℕ) (x : ℕ) → ((n : ℕ) → has n xs ≡ true → n < 256) → x < 256 → (n : ℕ) → has n (xs ++ (x ∷ [])) ≡ true → n < 256
low_snoc xs x low h n m = go (or_cases (has n xs) (eqb n x) (sym (has_snoc n x xs) ∙ m))
  where
    go : (has n xs ≡ true) ⊎ (eqb n x ≡ true) → n < 256
    go (inl p) = low n p
    go (inr p) = omega (arith, eqb-true n x p)

-- A look through a list: whether a number stands among the first i elements, and what one element more says ------------------------------------

pub or_last : (a b : Bool) → b ≡ true → true ≡ (a or b)
unfolding pick
or_last true b h = refl
or_last false b h = sym h

pub or_first : (a b : Bool) → b ≡ false → a ≡ (a or b)
unfolding pick
or_first true b h = refl
or_first false b h = sym h

module _ (x : ℕ) (l : List ℕ) (i : ℕ) (inside : i < length l) where
  pub look_hit : get_or l i 0 ≡ x → true ≡ has x (take (i + 1) l)
  look_hit e = or_last (has x (take i l)) (eqb x (get_or l i 0)) (eq-eqb x (get_or l i 0) (sym e)) ∙ sym (has_more x l i inside)

  pub look_miss : (hit : Bool) → hit ≡ has x (take i l) → (get_or l i 0 ≡ x → ⊥) → hit ≡ has x (take (i + 1) l)
  look_miss hit h n = h ∙ or_first (has x (take i l)) (eqb x (get_or l i 0)) (ne_eqb x (get_or l i 0) (λ e. n (sym e))) ∙ sym (has_more x l i inside)

-- Membership as the code asks for it: of a row of words, and among the first blocks
module _ (row xs : List ℕ) (held : row ≡ pack 4 (λ (n : ℕ). has n xs)) where
  pub row_answer : (n m : ℕ) (r b : Bool) → n ≡ m → n < 256 → r ≡ member_at row 0 n → r ≡ b → has m xs ≡ b
  row_answer n m r b p low q k = ap (λ (i : ℕ). has i xs) (sym p) ∙ sym (row_has row xs n held low) ∙ sym q ∙ k

pub row_word_lem : (n l : ℕ) → n < 256 → l ≡ 4 → 0 + n / 64 < l
row_word_lem n l h e = omega arith

pub front_answer : (l xs : List ℕ) (n id m : ℕ) (r b : Bool) → take (length xs) l ≡ xs → n ≡ length xs → id ≡ m → r ≡ has id (take n l) → r ≡ b → has m xs ≡ b
front_answer l xs n id m r b held p q k j =
    ap (λ (i : ℕ). has i xs) (sym q) ∙ ap (has id) (sym held) ∙ ap (λ (i : ℕ). has id (take i l)) (sym p) ∙ sym k ∙ j

-- what a look among the units says
module _ (us : List ℕ) (word : ℕ) (found : Option ℕ) (e : found ≡ pick (has word us) (Some (number_in word us)) None) where
  pub found_known : (n : ℕ) → found ≡ Some n → has word us ≡ true
  found_known n l = go (has word us) refl
    where
      go : (t : Bool) → has word us ≡ t → t ≡ true
      go true q = refl
      go false q = let none : Some n ≡ None = sym l ∙ e ∙ pick_no _ _ _ q in cc none

  pub found_number : (n : ℕ) → found ≡ Some n → n ≡ number_in word us
  found_number n l = let some : Some n ≡ Some (number_in word us) = sym l ∙ e ∙ pick_yes _ _ _ (found_known n l) in cc some

  pub found_none : found ≡ None → has word us ≡ false
  found_none l = go (has word us) refl
    where
      go : (t : Bool) → has word us ≡ t → t ≡ false
      go false q = refl
      go true q = let none : Some (number_in word us) ≡ None = sym (pick_yes _ _ _ q) ∙ sym e ∙ l in cc none

pub units_more : (us : List ℕ) (word n : ℕ) → n ≡ length us → length (us ++ (word ∷ [])) ≡ n + 1
units_more us word n e = length-append us (word ∷ []) ∙ ap (λ (k : ℕ). k + 1) (sym e)

pub units_room : (us : List ℕ) (word n : ℕ) → n ≡ length us → n < 512 → length (us ++ (word ∷ [])) ≤ 512
units_room us word n e l = let m : length (us ++ (word ∷ [])) ≡ n + 1 = units_more us word n e in omega arith
