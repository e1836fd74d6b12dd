-- `pour` meets its contract. The invariant: the written units still to come make of the buffer now what all of them make of it at the start.
-- Assumes nothing.
use Rattle.meetings.specs.Meeting.{poured}
use Rattle.meetings.specs.Members.{members}
use Rattle.meetings.specs.Visits.{left}
use Rattle.meetings.proofs.Walks.{Visiting}
use Rattle.meetings.proofs.meet.pour.Given as goal

abbrev pub invariant-loop-w : goal.invariant-loop-w
invariant-loop-w l = Visiting (poured l.x) l.words (members l.writes) (left l.w-iterator) l.initial.meets l.meets
