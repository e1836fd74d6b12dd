-- `spare` meets its contract. The invariant: the read units still to come make of the row now what all of them make of it at the start.
-- Assumes nothing.
use Rattle.meetings.specs.Meeting.{less_rows}
use Rattle.meetings.specs.Members.{members}
use Rattle.meetings.specs.Visits.{left}
use Rattle.meetings.proofs.Walks.{Visiting}
use Rattle.meetings.proofs.meet.spare.Given as goal

abbrev pub invariant-loop-v : goal.invariant-loop-v
invariant-loop-v l = Visiting (less_rows l.units) l.words (members l.reads) (left l.v-iterator) l.initial.x l.x
