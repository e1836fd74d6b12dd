-- `close` meets its contract. The invariant: the storages still to come make of the graph now what all of them make of it at the start.
-- Assumes nothing.
use Rattle.meetings.proofs.Closes.{Closing}
use Rattle.meetings.proofs.close.close.Given as goal

abbrev pub invariant-loop-i : goal.invariant-loop-i
invariant-loop-i l = Closing l.meets l.words l.n l.initial.graph l.graph l.i
