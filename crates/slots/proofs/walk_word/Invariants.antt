-- `slots::walk_word` visits the marks of a word from the lowest bit up: a marked slot whose bit is gone does not suit.
-- Each turn clears a bit, so that the word gets smaller.
use Rattle.slots.proofs.Walking.{Walked}
use Rattle.slots.proofs.walk_word.Given as goal

abbrev pub invariant-loop-left : goal.invariant-loop-left
invariant-loop-left l = Walked l.s l.slots l.base l.word l.marks l.left

abbrev pub decreases-loop-left : goal.decreases-loop-left
decreases-loop-left l = l.left
