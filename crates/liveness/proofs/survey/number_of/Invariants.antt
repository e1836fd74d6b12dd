-- The loop's invariant: the number is i and the number among the ids from there on.
-- Where the id stands at i the latter is 0, and at the end too.
use mathlib.Core.Path.{◌≡◌}
use Prim.Native.Nat.{◌+◌}
use lib.ListN.{drop}
use Rattle.records.specs.Units.{number_in}
use Rattle.liveness.proofs.survey.number_of.Given as goal

abbrev pub invariant-loop-i : goal.invariant-loop-i
invariant-loop-i l = number_in l.id l.ids ≡ l.i + number_in l.id (drop l.i l.ids)
