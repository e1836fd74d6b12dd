-- The loop's invariant is `Seeking`: the walk stands in the word's bucket, and the word is not at `next` or above.
-- The measure is `next`, since each link leads to a lower unit. Assumes nothing.
use Rattle.records.proofs.Chains.{Seeking}
use Rattle.records.proofs.notes.Notes.find.Given as goal

abbrev pub invariant-loop-next : goal.invariant-loop-next
invariant-loop-next l = Seeking l.self.words.now l.self.heads l.self.nexts l.word l.next

abbrev pub decreases-loop-next : goal.decreases-loop-next
decreases-loop-next l = l.next
