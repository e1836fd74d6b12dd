-- The loop's invariant is `Seeking`: the walk stands in the word's bucket, and the word is not at `next` or above.
-- The measure is `next`, since each link leads to a lower unit. Assumes nothing.
use native.Mathlib.Omega.{arith}
use Rattle.records.proofs.Chains.{seek_start, seek_on}
use Rattle.records.proofs.notes.Notes.find.Goals as goal

pub loop-next-init : goal.loop-next-init
loop-next-init c = search seek_start

pub loop-next-preserved : goal.loop-next-preserved
loop-next-preserved c = seek_on _ _ _ _ _ c.loop-next.invariant (λ h. omega arith) (λ h. omega arith)
