-- `hold_all` meets its contract. The invariant: the records still ahead make of the graph now what all of them make of it at the start.
-- Assumes nothing.
use Prim.Native.Nat.{◌-◌}
use lib.ListN.{length}
use Rattle.meetings.specs.Closing.{own_pair}
use Rattle.meetings.proofs.Closes.{Storing}
use Rattle.meetings.proofs.close.hold_all.Given as goal

abbrev pub invariant-loop-graph : goal.invariant-loop-graph
invariant-loop-graph l = Storing (own_pair l.id l.owner) l.file l.initial.graph l.graph l.at

abbrev pub decreases-loop-graph : goal.decreases-loop-graph
decreases-loop-graph l = length l.file - l.at
