-- `note_copies` meets its contract. The invariant: the written units still to come make of the pairs now what all of them make of those at the start.
-- Assumes nothing.
use mathlib.Core.List.{List}
use Prim.Native.Nat.{ℕ}
use Rattle.meetings.specs.Meeting.{storages_at, paired, copy_pairs}
use Rattle.meetings.specs.Members.{members}
use Rattle.meetings.specs.Visits.{left}
use Rattle.meetings.proofs.Walks.{Visiting}
use Rattle.meetings.proofs.meet.note_copies.Given as goal

abbrev pub invariant-loop-w : goal.invariant-loop-w
invariant-loop-w l = Visiting (λ (is : List ℕ). paired 4 (copy_pairs is (storages_at l.words (members l.reads)))) l.words (members l.writes) (left l.w-iterator) l.initial.copies l.copies
