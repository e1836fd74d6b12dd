-- The three counts that `place` answers are small: every storage is placed once, a slot opens only with a storage, and a function settles within its blocks and two
-- passes. So no count is cut where an answer gives it a few bits. Assumes nothing.
use mathlib.Core.Path.{◌≡◌, subst, ap, ◌∙◌, sym}
use mathlib.Core.List.{List, [], ◌∷◌, map}
use Prim.Native.Nat.{ℕ, ◌*◌, ◌≤◌}
use native.Mathlib.Omega.{arith}
use lib.ListN.{length, length-map}
use Rattle.fields.specs.Pick.{All}
use Rattle.fields.specs.Edition.{one}
use Rattle.records.specs.Check.{units, check}
use Rattle.records.specs.Program.{Function, Program, program}
use Rattle.records.proofs.Accepted.{accepted}
use Rattle.records.proofs.Shape.{BlocksFit}
use Rattle.storages.specs.declared.Storage.{Storage}
use Rattle.storages.specs.Storage.{stored}
use Rattle.liveness.specs.Settle.{liveness}
use Rattle.liveness.proofs.SettleLaws.{liveness_within}
use Rattle.graph.specs.Graph.{sum, passes}
use Rattle.places.specs.Place.{State, start, place, done}
use Rattle.allocator.specs.Placing.{given, placing}
use Rattle.turns.proofs.Turns.{After, Few, step_few, steps_keep}
use Rattle.allocator.proofs.Promise.{sound}

anything : (ss : List Storage) → All (λ s. Unit {0}) ss
anything [] = tt
anything (s ∷ ss) = (tt, anything ss)

passes_sum : (p : Program) (fs : List Function) → All (BlocksFit one) fs → sum (map (λ f. (liveness one p f).passes) fs) ≤ length fs * 130
unfolding sum
passes_sum p [] h = omega arith
passes_sum p (f ∷ fs) h = omega (arith, liveness_within one p f, h.0.most, passes_sum p fs h.1)

module _ (f us : List ℕ) (taken : check one f ≡ units us) where
  abbrev p : Program
  p = program one f

  -- At most 64 functions of at most 130 passes.
  pub passes_most : passes one p ≤ 8320
  unfolding passes
  passes_most = let good = (accepted one f us taken).0 in omega (arith, good.functions_most, passes_sum p p.functions good.blocks)

  module _ (x : State) (places : placing one p ≡ done x) where
    pub placed_all : length x.placed ≡ length p.storages
    placed_all = sym (length-map x.placed _) ∙ ap length (sound f us taken x places).whole ∙ length-map p.storages stored

    pub placed_most : length x.placed ≤ 256
    placed_most = omega (arith, placed_all, (accepted one f us taken).0.storages_most)

    few : After Few (placing one p)
    unfolding placing place
    few =
        let ss = map stored p.storages in
        steps_keep Few (λ s. Unit {0}) (given one p) (λ s y q h. step_few (given one p) s y h) ss (anything ss) (start p.application p.first p.work) (omega arith)

    pub slots_most : length x.slots ≤ 256
    slots_most = let k : Few x = subst (After Few) places few in omega (arith, k, placed_most)
