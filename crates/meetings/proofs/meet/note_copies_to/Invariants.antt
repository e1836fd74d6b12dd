-- `note_copies_to` meets its contract. The invariant: the read units still to come make of the pairs now what all of them make of those at the start.
-- Assumes nothing.
use mathlib.Core.List.{List}
use Prim.Native.Nat.{ℕ}
use Rattle.meetings.specs.Meeting.{paired, pairs_to}
use Rattle.meetings.specs.Members.{members}
use Rattle.meetings.specs.Visits.{left}
use Rattle.meetings.proofs.Walks.{Visiting}
use Rattle.meetings.proofs.meet.note_copies_to.Given as goal

abbrev pub invariant-loop-v : goal.invariant-loop-v
invariant-loop-v l = Visiting (λ (js : List ℕ). paired 4 (pairs_to l.i js)) l.words (members l.reads) (left l.v-iterator) l.initial.copies l.copies
