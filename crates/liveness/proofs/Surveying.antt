-- The survey from its start to its end: a function of an accepted file has at most 128 blocks, each with a step, so the walk reads all of them; what it
-- noted is what the definitions say of each block.
use mathlib.Core.Path.{◌≡◌, refl, ◌∙◌}
use mathlib.Core.Bool.{Bool, true, false}
use mathlib.Core.List.{List, [], ◌++◌, Memᴰ}
use Prim.Native.Nat.{ℕ, ◌+◌, ◌≤◌, ◌<◌}
use native.Mathlib.Omega.{arith}
use lib.ListN.{length, get_or, take, drop, set, length-set, length-append, length-drop, get_or-append}
use lib.Seq.{get_or-set_same}
use Rattle.fields.specs.Edition.{one}
use Rattle.records.specs.Units.{number_in}
use Rattle.records.specs.Program.{Step, Function, program}
use Rattle.records.proofs.Shape.{BlocksFit}
use Rattle.records.proofs.Formed.{Closes, last, front, BlockFormed, FunctionFormed}
use Rattle.records.proofs.Accepted.{accepted}
use Rattle.units.specs.Along.{from, StandsAt, Ready}
use Rattle.passes.specs.Passes.{Given}
use Rattle.liveness.specs.Survey.{Surveyed}
use Rattle.liveness.specs.Walks.{FunctionHere, Stopped, Came, BlockNext, Asked, Sized, Grown, Growing}
use Rattle.units.specs.declared.cursor.Cursor.{Cursor}
use Rattle.liveness.specs.declared.survey.Findings.{Findings}
use Rattle.liveness.specs.declared.survey.Walk.{Walk}
use Rattle.liveness.proofs.SetLaws.{mem_at}
use Rattle.liveness.proofs.UseLaws.{all_mem}
use Rattle.liveness.proofs.Counting.{tallied_start, counted_start, surveyed_all}

-- A list whose front was written, as the code has it.
abbrev pub fronted : List ℕ → List ℕ → ℕ → List ℕ
fronted l r n = r ++ drop n l

module _ (l r : List ℕ) (n : ℕ) (low : n ≤ length l) (long : length r ≡ n) where
  pub fronted_length : length (fronted l r n) ≡ length l
  fronted_length = omega (arith, length-append r (drop n l), length-drop n l)

  pub fronted_front : (i : ℕ) → i < n → get_or (fronted l r n) i 0 ≡ get_or r i 0
  fronted_front i h = get_or-append r (drop n l) 0 i (omega arith)

-- A block has its terminator at least.
closes_some : {ss : List Step} → Closes ss → ss ≡ [] → ⊥
closes_some (last {x} e) q = let z : ◌≡◌ {A = ℕ} 0 1 = cc in omega arith
closes_some (front {x} {xs} e c) q = let z : ◌≡◌ {A = ℕ} 0 1 = cc in omega arith

module _ (f us found table : List ℕ) (fn : Function) (own : Cursor) (ready : Ready f us found table) (m : Memᴰ fn (program one f).functions) where
  pub blocks_most_lem : length fn.blocks ≤ 128
  blocks_most_lem = (all_mem (BlocksFit one) (program one f).functions (accepted one f us ready.accepted).0.blocks m).most

  pub asked_of_lem : StandsAt f own → fn.abis ≡ (from f own.at).abis → Asked f us found table fn own
  asked_of_lem s e =
      record {
        ready = ready;
        stands = s;
        abis = e;
        full = λ k l.
            closes_some
            (all_mem BlockFormed fn.blocks (all_mem FunctionFormed (program one f).functions (accepted one f us ready.accepted).0.formed m).blocks
            (mem_at fn.blocks k (record { id = 0; steps = [] }) l)).closes;
      }

module _ (f found table : List ℕ) (own : Cursor) (findings : Findings) (ids : List ℕ) where
  -- no target and no step comes before the first block
  abbrev pub begun : Findings
  begun = record findings { starts = set findings.starts 0 0; firsts = set findings.firsts 0 0 }

  pub growing_start : (c : Cursor) → Sized findings → Came f true own.at own.k c.at c.k → Stopped f true c.at
      → Growing f found table own begun ids 0 (record { at = c.at; k = c.k; steps = 0; targets = 0 })
  growing_start c z came stop =
      record {
        within = (came.sound, omega arith, omega arith);
        targets_low = omega arith;
        steps_low = omega arith;
        few = omega arith;
        sized = (z.0, z.1, simp length-set z.2, simp length-set z.3, z.4, z.5);
        tallied = tallied_start (set findings.starts 0 0) (set findings.firsts 0 0) c.at c.k (get_or-set_same findings.starts 0 0 0 (omega (arith, z.2))) (get_or-set_same findings.firsts 0 0 0 (omega (arith, z.3)));
        counted = λ us fn a e. counted_start f us fn own.at begun ids c.at c.k e (came.stands us a.ready.accepted a.stands) came.sought stop;
      }

  module _ (b : ℕ) (w : Walk) (g : Growing f found table own findings ids b w) where
    pub growing_on : (findings' : Findings) (ids' : List ℕ) (r : Walk) → b < 128 → length f ≤ 16384
        → Grown f found table own findings ids b w findings' ids' r
        → Growing f found table own findings' ids' (b + 1) r
    growing_on findings' ids' r few lf n =
        record {
          within = n.within;
          targets_low = omega (arith, n.within.2, n.fits);
          steps_low = omega (arith, n.within.1, n.fits);
          few = omega arith;
          sized = n.sized;
          tallied = n.tallied;
          counted = λ us fn a e. n.counted us fn a (g.counted us fn a e);
        }

    pub growing_given : (targets' : List ℕ) → length targets' ≡ length findings.steps.targets → Given findings.gens findings.kills targets' findings.starts b
    growing_given targets' e =
        let z = g.sized in
        record { few = g.few; gens_len = z.0; kills_len = z.1; starts_len = omega (arith, z.2); within = λ k h. omega (arith, z.4, g.tallied.starts_low k h, g.targets_low) }

    pub growing_done : (targets' : List ℕ) (after : Cursor) (there : Bool) → there ≡ false → BlockNext f w.at b there → length targets' ≡ length findings.steps.targets → length ids ≡ 128
        → ((i : ℕ) → i < w.targets → get_or targets' i 0 ≡ number_in (get_or findings.steps.targets i 0) (take b ids))
        → Came f false w.at w.k after.at after.k → Stopped f false after.at
        → (us : List ℕ) (fn : Function) → Ready f us found table → StandsAt f own → Memᴰ fn (program one f).functions
        → fn.abis ≡ (from f own.at).abis → fn.blocks ≡ (from f own.at).blocks
        → Surveyed f us fn (record findings { steps = record findings.steps { targets = targets' } }) b × StandsAt f after × ((from f after.at).functions ≡ (from f own.at).functions)
        × ((FunctionHere f after.at → ⊥) → (from f after.at).functions ≡ [])
    growing_done targets' after there left next e li numbered came stop us fn ready s m abis blocks =
        let a = asked_of_lem f us found table fn own ready m s abis in
        let z = g.sized in
        let c = g.counted us fn a blocks in (
          surveyed_all f us fn own.at findings ids b w c (blocks_most_lem f us found table fn own ready m) (next.no left) targets' g.tallied (omega (arith, g.targets_low)) (omega (arith, g.steps_low)) z.0 z.1 z.4 (e ∙ z.4) z.2 z.5 li numbered,
          came.stands us ready.accepted c.stands,
          came.sought.function ∙ c.functions,
          stop.function refl,
        )
