-- Numbers for ids. A search from the front has passed i ids where the number is i and the number among the rest, so that where the id stands at i the
-- number is i, and at the end it is that of the ids.
use mathlib.Core.Path.{◌≡◌, sym, ap, ◌∙◌}
use mathlib.Core.List.{List}
use Prim.Native.Nat.{ℕ, suc, ◌+◌, ◌≤◌, ◌<◌}
use native.Mathlib.Numerals.{add-one}
use native.Mathlib.Omega.{arith}
use borrow.Author.Tests.{eq-eqb, ne_eqb}
use lib.ListN.{length, get_or, drop, drop_of_length-le}
use lib.Seq.{drop-cons}
use Rattle.fields.specs.Pick.{pick_yes, pick_no}
use Rattle.records.specs.Units.{number_in}

module _ (ids : List ℕ) (id i : ℕ) (s : number_in id ids ≡ i + number_in id (drop i ids)) where
  pub searched_found : i < length ids → get_or ids i 0 ≡ id → i ≡ number_in id ids
  unfolding number_in
  searched_found h e =
      let z : number_in id (drop i ids) ≡ 0 = ap (number_in id) (drop-cons ids i 0 h) ∙ pick_yes _ _ _ (eq-eqb id (get_or ids i 0) (sym e)) in
      omega arith

  pub searched_on : i < length ids → (get_or ids i 0 ≡ id → ⊥) → number_in id ids ≡ i + 1 + number_in id (drop (i + 1) ids)
  unfolding number_in
  searched_on h n =
      let z : number_in id (drop i ids) ≡ suc (number_in id (drop (suc i) ids)) = ap (number_in id) (drop-cons ids i 0 h) ∙ pick_no _ _ _ (ne_eqb id (get_or ids i 0) (λ e. n (sym e))) in
      rw add-one (omega arith)

  pub searched_none : length ids ≤ i → i ≤ length ids → length ids ≡ number_in id ids
  unfolding number_in
  searched_none h l =
      let z : number_in id (drop i ids) ≡ 0 = ap (number_in id) (drop_of_length-le ids h) in
      omega arith
