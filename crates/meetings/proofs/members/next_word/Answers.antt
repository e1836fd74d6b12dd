-- `next_word` meets its contract. The invariant: every word passed is 0, so the first that is not stops the walk.
-- Assumes nothing.
use native.Mathlib.Omega.{arith}
use Rattle.meetings.proofs.Firsts.{none_more}
use Rattle.meetings.proofs.members.next_word.Goals as goal

pub returns-then-row-at-ne0 : goal.returns-then-row-at-ne0
returns-then-row-at-ne0 c =
    let l = c.loop-at in
    record { low = l.invariant.0; high = omega arith; none = l.invariant.1; there = λ h. omega arith }

pub loop-at-preserved : goal.loop-at-preserved
loop-at-preserved c =
    let l = c.loop-at in
    (omega arith, none_more c.args.row.now _ _ l.invariant.1 (omega arith))

pub returns : goal.returns
returns c =
    let l = c.loop-at in
    record { low = omega arith; high = omega arith; none = λ k a b. l.invariant.1 k a (omega arith); there = λ h. absurd (omega arith) }
