-- `unit_rows` meets its contract. The invariant: the units still to come make of the rows now what all of them make of the rows at the start.
-- Assumes nothing.
use Rattle.meetings.proofs.Walks.{Entering}
use Rattle.meetings.proofs.meet.unit_rows.Given as goal

abbrev pub invariant-loop-n : goal.invariant-loop-n
invariant-loop-n l = Entering l.words l.count l.initial.rows l.rows l.n
