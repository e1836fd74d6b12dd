-- `slots::walk_word` meets its contract. The lowest mark that is left is the first that may suit; past the list's end none is left, and what does not
-- suit, or stands for a number below the list's first, loses its mark.
use Rattle.std.proofs.Common.{refl, arith}
use Rattle.std.specs.Int.{w64, trailing_zeros}
use Rattle.slots.proofs.Walking.{walk_end, walk_past, walk_found, walk_smaller, walk_next, walk_under}
use Rattle.slots.proofs.walk_word.Goals as goal
use Rattle.slots.proofs.walk_word.Goals.{then-base-k+else-slots-i+else-suits_storage, else-base-k}

pub returns-then-slots-i : goal.returns-then-slots-i
returns-then-slots-i c = walk_past c.loop-left.invariant _ refl (omega arith) (omega arith) _ (omega arith) c.if-slots-i.true

pub returns-then-suits_storage : goal.returns-then-suits_storage
returns-then-suits_storage c = walk_found c.loop-left.invariant _ refl (omega arith) (omega arith) _ _ _ (omega arith) c.if-slots-i.false c.suits_storage.ensures c.if-suits_storage.true

pub loop-left-smaller : goal.loop-left-smaller
loop-left-smaller c = walk_smaller c.loop-left.invariant (trailing_zeros w64 c.loop-left.left) refl (omega arith) (omega arith) _ refl

pub loop-left-preserved : goal.loop-left-preserved
loop-left-preserved c =
    elim c.if-base-k.branch [
      | then-base-k+else-slots-i+else-suits_storage w ↦ walk_next c.loop-left.invariant (trailing_zeros w64 c.loop-left.left) refl (omega arith) (omega arith) _ refl _ _ _ (omega arith) w.if-slots-i.false w.suits_storage.ensures w.if-suits_storage.false
      | else-base-k w ↦ walk_under c.loop-left.invariant (trailing_zeros w64 c.loop-left.left) refl (omega arith) (omega arith) _ refl (omega arith)
    ]

pub returns : goal.returns
returns c = walk_end c.loop-left.invariant (omega arith)
