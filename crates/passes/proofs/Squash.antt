-- For code that keeps of each block one row of units read before they are written and one row of units written: its passes are the passes over the steps.
-- A block's steps come to one step that reads and writes these rows, so a visit, a sweep and a pass are the same, and so is what is settled.
use mathlib.Core.Path.{◌≡◌, refl, sym, ap, ◌∙◌, fun_ext}
use mathlib.Core.Bool.{not, ◌&&◌, or_comm}
use mathlib.Core.List.{List, [], ◌∷◌, map}
use Prim.Native.Nat.{ℕ, zero, suc, ◌≤◌, ◌<◌}
use native.Mathlib.Omega.{arith}
use native.Mathlib.Nat.{not-suc-le-zero}
use lib.ListN.{length, get_or, length-map}
use Rattle.passes.specs.Live as L
use Rattle.passes.proofs.Transfer as M

-- a block whose one step reads what the block reads before writing it, and writes what the block writes
abbrev pub one_step : L.Block → L.Block
one_step b = record { steps = record { reads = M.gen b.steps; writes = M.kill b.steps } ∷ []; targets = b.targets }

abbrev pub squash : List L.Block → List L.Block
squash f = map one_step f

pub get_d_map : {A B : Type 0} (g : A → B) (l : List A) (k : ℕ) (a : A) (b : B) → k < length l → get_or (map g l) k b ≡ g (get_or l k a)
get_d_map g [] k a b h = absurd (not-suc-le-zero h)
get_d_map g (x ∷ l) zero a b h = refl
get_d_map g (x ∷ l) (suc k) a b h = get_d_map g l k a b (omega arith)

module _ (f : List L.Block) where
  squash_before : (ss : List L.Step) (o : L.Row) → L.backwards (record { reads = M.gen ss; writes = M.kill ss } ∷ []) o ≡ L.backwards ss o
  unfolding L.backwards
  squash_before ss o = fun_ext (λ u. or_comm (o u && not (M.kill ss u)) (M.gen ss u) ∙ sym (M.one_step_lem ss o u))

  squash_visit : (k : ℕ) (s : L.State) → k < length f → L.visit (squash f) k s ≡ L.visit f k s
  unfolding L.visit
  squash_visit k s h = rw (get_d_map one_step f k L.no_block L.no_block h, length-map f one_step) (ap (λ (r : L.Row). record { ins = L.put k r s.ins; outs = L.put k o s.outs }) (squash_before (L.block f k).steps o))
    where
      o : L.Row
      o = L.union (length f) s.ins (L.block f k).targets

  squash_sweep : (n : ℕ) (s : L.State) → n ≤ length f → L.sweep (squash f) n s ≡ L.sweep f n s
  unfolding L.sweep
  squash_sweep zero s h = refl
  squash_sweep (suc n) s h = ap (L.sweep (squash f) n) (squash_visit n s (omega arith)) ∙ squash_sweep n (L.visit f n s) (omega arith)

  pub squash_pass : (s : L.State) → L.pass (squash f) s ≡ L.pass f s
  unfolding L.pass
  squash_pass s = ap (λ n. L.sweep (squash f) n s) (length-map f one_step) ∙ squash_sweep (length f) s (omega arith)

  pub squash_after : (n : ℕ) → L.after (squash f) n ≡ L.after f n
  unfolding L.after
  squash_after zero = refl
  squash_after (suc n) = ap (L.pass (squash f)) (squash_after n) ∙ squash_pass (L.after f n)

  -- What is settled for the rows of a block is settled for its steps.
  pub squash_settled : (count : ℕ) (s : L.State) → L.Settled (squash f) count s → L.Settled f count s
  squash_settled count s r = record {
    changed = r.changed;
    counts = r.counts;
    state = r.state ∙ squash_after r.changed;
    first = λ k l e. r.first k l (squash_after (suc k) ∙ (e ∙ sym (squash_after k)));
    last = sym (squash_after (suc r.changed)) ∙ (r.last ∙ squash_after r.changed);
  }
