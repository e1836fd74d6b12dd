-- The rows of a relation hold its pairs: row i stands at word 4 i, and a packed row holds just the numbers that it was packed from. So the buffers of the
-- analysis tell placing which storages interfere and which are copies.
use mathlib.Core.Path.{◌≡◌, sym, ap, ap₂, ◌∙◌}
use mathlib.Core.Bool.{Bool}
use mathlib.Core.List.{List, ◌++◌}
use Prim.Native.Nat.{ℕ, zero, suc, ◌+◌, ◌-◌, ◌*◌, ◌≤◌, ◌<◌}
use native.Mathlib.Omega.{arith}
use native.Mathlib.Nat.{not-suc-le-zero, le_of_suc-le-suc}
use lib.ListN.{length, take, drop}
use lib.Seq.{drop-append-add, take-append_seam}
use Rattle.rows.specs.Row.{pack, member, member_at, row}
use Rattle.rows.proofs.Members.{member_row}
use Rattle.rows.proofs.Pack.{length_pack, member_pack}
use Rattle.fields.specs.Edition.{one}
use Rattle.records.specs.Program.{Program}
use Rattle.graph.specs.Graph.{interferes, copied}
use Rattle.graph.specs.Graphs.{relation_rows}
use Rattle.turns.specs.Held.{Tells}
use Rattle.allocator.specs.Placing.{given}

module _ (r : ℕ → ℕ → Bool) where
  drop_rows : (n k i : ℕ) → i ≤ n → drop (i * 4) (relation_rows one r k n) ≡ relation_rows one r (k + i) (n - i)
  unfolding relation_rows
  drop_rows n k zero h =
      let a : k ≡ k + 0 = omega arith in
      let b : n ≡ n - 0 = omega arith in
      ap₂ (λ (a b : ℕ). relation_rows one r a b) a b
  drop_rows zero k (suc i) h = absurd (not-suc-le-zero h)
  drop_rows (suc n) k (suc i) h =
      let four : suc i * 4 ≡ length (pack 4 (r k)) + i * 4 = omega (arith, length_pack 4 (r k)) in
      let from : suc k + i ≡ k + suc i = omega arith in
      let left : n - i ≡ suc n - suc i = omega arith in
      ap (λ (m : ℕ). drop m (pack 4 (r k) ++ relation_rows one r (suc k) n)) four
      ∙ drop-append-add (pack 4 (r k)) (relation_rows one r (suc k) n) (i * 4)
      ∙ drop_rows n (suc k) i (le_of_suc-le-suc h)
      ∙ ap₂ (λ (a b : ℕ). relation_rows one r a b) from left

  row_packed : (i n : ℕ) → take 4 (relation_rows one r i (suc n)) ≡ pack 4 (r i)
  unfolding relation_rows
  row_packed i n =
      ap (λ (m : ℕ). take m (pack 4 (r i) ++ relation_rows one r (suc i) n)) (sym (length_pack 4 (r i)))
      ∙ take-append_seam (pack 4 (r i)) (relation_rows one r (suc i) n)

  pub relation_holds : (i j : ℕ) → i < 256 → j < 256 → member_at (relation_rows one r 0 256) (i * 4) j ≡ r i j
  unfolding row
  relation_holds i j hi hj =
      let from : 0 + i ≡ i = omega arith in
      let left : 256 - i ≡ suc (255 - i) = omega arith in
      sym (member_row (relation_rows one r 0 256) (i * 4) 4 j hj)
      ∙ ap (λ (l : List ℕ). member (take 4 l) j) (drop_rows 256 0 i (omega arith) ∙ ap₂ (λ (a b : ℕ). relation_rows one r a b) from left)
      ∙ ap (λ (l : List ℕ). member l j) (row_packed i (255 - i))
      ∙ member_pack 4 (r i) j hj

pub tells : (p : Program) (graph copies : List ℕ) → graph ≡ relation_rows one (interferes one p) 0 256 → copies ≡ relation_rows one (copied one p) 0 256
    → Tells (given one p) graph copies
tells p graph copies g c = record {
  meeting = λ i j hi hj. ap (λ (l : List ℕ). member_at l (i * 4) j) g ∙ relation_holds (interferes one p) i j hi hj;
  copying = λ i j hi hj. ap (λ (l : List ℕ). member_at l (i * 4) j) c ∙ relation_holds (copied one p) i j hi hj;
}
