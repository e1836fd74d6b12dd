-- `note_addressed` meets its contract. The invariant: the read units still to come make of the row now what all of them make of it at the start.
-- Assumes nothing.
use mathlib.Core.List.{List, map}
use Prim.Native.Nat.{ℕ}
use Rattle.meetings.specs.Meeting.{paired}
use Rattle.meetings.specs.Members.{members}
use Rattle.meetings.specs.Visits.{left}
use Rattle.meetings.proofs.Walks.{Visiting}
use Rattle.meetings.proofs.meet.note_addressed.Given as goal

abbrev pub invariant-loop-v : goal.invariant-loop-v
invariant-loop-v l = Visiting (λ (is : List ℕ). paired 4 (map (λ (j : ℕ). (0, j)) is)) l.words (members l.reads) (left l.v-iterator) l.initial.addressed l.addressed
