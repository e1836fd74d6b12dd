-- Rows of words and sets of units. Bit n of a row is the set's answer for the n-th unit, so an operation on rows is the row of the operation on sets, by
-- what each of them holds; a unit has one number and a number one unit, so that a row's bit is the set's answer.
use mathlib.Core.Path.{◌≡◌, refl, sym, ap, ap₂, ◌∙◌}
use mathlib.Core.Bool.{Bool, true, false, not, ◌&&◌, ◌||◌, and-or_distrib_left}
use mathlib.Core.List.{List, ◌∷◌, ◌++◌}
use Prim.Native.Nat.{ℕ, ◌*◌, ◌≤◌, ◌<◌}
use native.Mathlib.Omega.{arith}
use native.Mathlib.Decide.{dec_lt}
use borrow.Author.Tests.{lt-ltb, le-ltb, ne_eqb}
use lib.Dec.{ltb, eqb, eqb→eq}
use lib.ListN.{length, get_or}
use Rattle.rows.specs.Row.{Words, member, member_at, with_at, or_row, less_row}
use Rattle.rows.proofs.Tests.{antisym}
use Rattle.rows.proofs.Pack.{length_pack, member_at_pack, pack_unique, pack_ext, pack_with_at, pack_or, pack_less}
use Rattle.fields.specs.Pick.{◌and◌, has}
use Rattle.fields.specs.Edition.{Edition}
use Rattle.records.specs.Units.{number_in}
use Rattle.fields.proofs.Front.{and_is}
use Rattle.records.proofs.Range.{Distinct}
use Rattle.records.proofs.Numbers.{number_low, number_at}
use Rattle.records.proofs.Lists.{number_of_lem}
use Rattle.units.specs.Sets.{less}
use Rattle.units.specs.Rows.{listed, unit_row}
use Rattle.liveness.proofs.SetLaws.{eqb_yes, has_cons, has_append, has_less}

pub listed_is : (us set : List ℕ) (n : ℕ) → listed us set n ≡ (ltb n (length us) && has (get_or us n 0) set)
listed_is us set n = and_is (ltb n (length us)) (has (get_or us n 0) set)

and_less : (t a b : Bool) → ((t && a) && not (t && b)) ≡ (t && (a && not b))
and_less true a b = refl
and_less false a b = refl

module _ (ed : Edition) (us : List ℕ) where
  pub row_length : (a : List ℕ) → length (unit_row ed us a) ≡ ed.unit_words
  unfolding unit_row
  row_length a = length_pack ed.unit_words (listed us a)

  -- Equal sets have one row.
  pub row_same : (a b : List ℕ) → ((u : ℕ) → has u a ≡ has u b) → unit_row ed us a ≡ unit_row ed us b
  unfolding unit_row
  row_same a b e = pack_ext ed.unit_words (listed us a) (listed us b) (λ n _. ap (λ x. ltb n (length us) and x) (e (get_or us n 0)))

  -- A row that has a set's members is the set's row.
  pub row_unique : (r a : List ℕ) → length r ≡ ed.unit_words → Words r → ((n : ℕ) → n < 64 * ed.unit_words → member r n ≡ listed us a n) → r ≡ unit_row ed us a
  unfolding unit_row
  row_unique r a l w h = pack_unique r ed.unit_words (listed us a) l w h

  pub row_or : (a b : List ℕ) → or_row (unit_row ed us a) (unit_row ed us b) ≡ unit_row ed us (a ++ b)
  unfolding unit_row
  row_or a b = pack_or ed.unit_words (listed us a) (listed us b) ∙ pack_ext ed.unit_words (λ n. listed us a n || listed us b n) (listed us (a ++ b)) (λ n _. one n)
    where
      one : (n : ℕ) → (listed us a n || listed us b n) ≡ listed us (a ++ b) n
      one n =
          let t = ltb n (length us) in
          let u = get_or us n 0 in
          ap₂ (λ x y. x || y) (listed_is us a n) (listed_is us b n)
          ∙ (sym (and-or_distrib_left t (has u a) (has u b)) ∙ (ap (λ x. t && x) (sym (has_append u a b)) ∙ sym (listed_is us (a ++ b) n)))

  pub row_less : (a b : List ℕ) → less_row (unit_row ed us a) (unit_row ed us b) ≡ unit_row ed us (less a b)
  unfolding unit_row
  row_less a b = pack_less ed.unit_words (listed us a) (listed us b) ∙ pack_ext ed.unit_words (λ n. listed us a n && not (listed us b n)) (listed us (less a b)) (λ n _. one n)
    where
      one : (n : ℕ) → (listed us a n && not (listed us b n)) ≡ listed us (less a b) n
      one n =
          let t = ltb n (length us) in
          let u = get_or us n 0 in
          ap₂ (λ x y. x && not y) (listed_is us a n) (listed_is us b n)
          ∙ (and_less t (has u a) (has u b) ∙ (ap (λ x. t && x) (sym (has_less u a b)) ∙ sym (listed_is us (less a b) n)))

  -- The answer for a unit of the file stands at its number.
  pub listed_number : (a : List ℕ) (w : ℕ) → has w us ≡ true → listed us a (number_in w us) ≡ has w a
  listed_number a w q = listed_is us a (number_in w us) ∙ ap₂ (λ t u. t && has u a) (lt-ltb (number_in w us) (length us) (number_low w us q)) (number_at w us q)

  module _ (fits : length us ≤ 64 * ed.unit_words) where
    pub row_has : (a : List ℕ) (w : ℕ) → has w us ≡ true → member_at (unit_row ed us a) 0 (number_in w us) ≡ has w a
    unfolding unit_row
    row_has a w q = member_at_pack ed.unit_words (listed us a) (number_in w us) (omega (arith, number_low w us q)) ∙ listed_number a w q

    -- A unit put in by its number.
    pub row_with : (a : List ℕ) (w : ℕ) → Distinct us → has w us ≡ true → with_at (unit_row ed us a) 0 (number_in w us) ≡ unit_row ed us (w ∷ a)
    unfolding unit_row
    row_with a w once q =
        pack_with_at ed.unit_words (listed us a) (number_in w us) (omega (arith, low)) ∙ pack_ext ed.unit_words (λ m. eqb m (number_in w us) || listed us a m) (listed us (w ∷ a)) (λ m _. go m (dec_lt m (length us)))
      where
        low : number_in w us < length us
        low = number_low w us q

        same : (m : ℕ) → m < length us → eqb m (number_in w us) ≡ eqb (get_or us m 0) w
        same m l =
            antisym (eqb m (number_in w us)) (eqb (get_or us m 0) w)
            (λ h. eqb_yes (get_or us m 0) w (ap (λ n. get_or us n 0) (eqb→eq m (number_in w us) h) ∙ number_at w us q))
            (λ h. eqb_yes m (number_in w us) (sym (number_of_lem us m once l) ∙ ap (λ x. number_in x us) (eqb→eq (get_or us m 0) w h)))

        go : (m : ℕ) → Dec (m < length us) → (eqb m (number_in w us) || listed us a m) ≡ listed us (w ∷ a) m
        go m (yes l) =
            ap₂ (λ x y. x || y) (same m l) (listed_is us a m ∙ ap (λ t. t && has (get_or us m 0) a) (lt-ltb m (length us) l))
            ∙ (sym (has_cons (get_or us m 0) w a) ∙ (ap (λ t. t && has (get_or us m 0) (w ∷ a)) (sym (lt-ltb m (length us) l)) ∙ sym (listed_is us (w ∷ a) m)))
        go m (no l) =
            ap₂ (λ x y. x || y) (ne_eqb m (number_in w us) (λ e. absurd (omega (arith, low)))) (listed_is us a m ∙ ap (λ t. t && has (get_or us m 0) a) (le-ltb m (length us) (omega arith)))
            ∙ (ap (λ t. t && has (get_or us m 0) (w ∷ a)) (sym (le-ltb m (length us) (omega arith))) ∙ sym (listed_is us (w ∷ a) m))
