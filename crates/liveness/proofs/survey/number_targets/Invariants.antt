-- The loop's invariant: the entries so far are numbers and the others as they were.
-- A number is at most the count of ids, so it fits.
use mathlib.Core.Path.{◌≡◌}
use Prim.Native.Nat.{ℕ, ◌≤◌, ◌<◌}
use lib.ListN.{get_or}
use Rattle.records.specs.Units.{number_in}
use Rattle.liveness.proofs.survey.number_targets.Given as goal

abbrev pub invariant-loop-target : goal.invariant-loop-target
invariant-loop-target l =
    ((i : ℕ) → i < l.target-index → get_or l.target-items i 0 ≡ number_in (get_or l.initial.target-items i 0) l.ids)
    × ((i : ℕ) → l.target-index ≤ i → get_or l.target-items i 0 ≡ get_or l.initial.target-items i 0)
