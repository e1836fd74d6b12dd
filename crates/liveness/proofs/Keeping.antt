-- Where the rows of a step stand. Those of a kept step have a place of their own and all others the place behind them, so that writing the rows of one
-- step leaves those of every kept step before it.
use mathlib.Core.Path.{◌≡◌, sym, ap, ◌∙◌}
use mathlib.Core.Logic.{◌⊎◌, inl, inr}
use mathlib.Core.List.{List, ◌++◌, append_assoc}
use Prim.Native.Nat.{ℕ, ◌+◌, ◌*◌, ◌-◌, ◌≤◌, ◌<◌}
use native.Mathlib.Omega.{arith}
use borrow.Author.Tests.{lt-ltb, le-ltb}
use lib.Dec.{ltb}
use lib.ListN.{length, take, drop}
use lib.Seq.{drop-drop}
use Rattle.rows.specs.Row.{row, put}
use Rattle.rows.proofs.Rows.{lt_or_ge, row_put_same, row_put_other}
use Rattle.fields.specs.Pick.{pick_yes, pick_no}
use Rattle.passes.specs.Passes.{width}
use Rattle.liveness.specs.Survey.{row_for}
use Rattle.liveness.specs.Walks.{KeptRows}

pub row_for_kept : (s : ℕ) → s < 64 → row_for s ≡ s * 8
unfolding row_for
row_for_kept s h = pick_yes (ltb s 64) (s * 8) (64 * 8) (lt-ltb s 64 h)

pub row_for_late : (s : ℕ) → 64 ≤ s → row_for s ≡ 512
unfolding row_for
row_for_late s h = pick_no (ltb s 64) (s * 8) (64 * 8) (le-ltb s 64 h)

-- the rows of an earlier step that is kept end before it
row_for_far : (s j : ℕ) → j < s → j < 64 → j * 8 + 8 ≤ row_for s
row_for_far s j h m = go (lt_or_ge s 64)
  where
    go : (s < 64) ⊎ (64 ≤ s) → j * 8 + 8 ≤ row_for s
    go (inl l) = omega (arith, row_for_kept s l)
    go (inr l) = omega (arith, row_for_late s l)

-- a list with a row lent from it back in its place, as the code has it
abbrev pub laid_at : List ℕ → ℕ → List ℕ → List ℕ
laid_at l c r = take c l ++ (r ++ drop (c + 8 - c) (drop c l))

pub lent_eight : (c : ℕ) → c + 8 - c ≡ 8
lent_eight c = omega arith

module _ (l r : List ℕ) (c s : ℕ) (is : c ≡ row_for s) (room : c + 8 ≤ length l) (n : length r ≡ c + 8 - c) where
  laid_put : laid_at l c r ≡ put l c r
  unfolding put
  laid_put =
      let e : c + (c + 8 - c) ≡ c + length r = omega arith in
      ap (λ (x : List ℕ). take c l ++ (r ++ x)) (drop-drop (c + 8 - c) c l ∙ ap (λ (i : ℕ). drop i l) e) ∙ sym (append_assoc (take c l) r (drop (c + length r) l))

  pub rows_stay : KeptRows s l (laid_at l c r)
  rows_stay j h m = ap (λ (x : List ℕ). row x (j * width) width) laid_put ∙ row_put_other l c r (omega arith) (j * width) width (inr (omega (arith, row_for_far s j h m)))

  pub rows_there : row (laid_at l c r) c width ≡ r
  rows_there =
      let k : length r ≡ 8 = n ∙ lent_eight c in
      let h = row_put_same l c r (omega arith) in
      ap (λ (x : List ℕ). row x c width) laid_put ∙ (rw k at h)

  pub rows_own : s < 64 → row (laid_at l c r) (s * width) width ≡ r
  rows_own m = let e : s * 8 ≡ c = omega (arith, row_for_kept s m) in rw e rows_there
