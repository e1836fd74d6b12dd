-- The loop's invariant: the search has come from its cursor to the place.
-- The measure is what is left of the file.
use Prim.Native.Nat.{◌-◌}
use lib.ListN.{length}
use Rattle.liveness.specs.Walks.{Came}
use Rattle.liveness.proofs.survey.seek.Given as goal

abbrev pub invariant-loop-len : goal.invariant-loop-len
invariant-loop-len l = Came l.file l.blocks l.initial.at l.initial.k l.at l.k

abbrev pub decreases-loop-len : goal.decreases-loop-len
decreases-loop-len l = length l.file - l.at
