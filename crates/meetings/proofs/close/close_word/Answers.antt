-- `close_word` meets its contract. The invariant: what is left of the word is that of its bits which are still ahead, and the units still ahead make of the
-- graph now what those from the word's start on make of it at the start. Assumes nothing.
use native.Mathlib.Omega.{arith}
use Rattle.meetings.proofs.Walks.{word_start, word_fits, word_on, word_end}
use Rattle.meetings.proofs.Closes.{link_next}
use Rattle.meetings.proofs.close.close_word.Goals as goal

pub loop-left-init : goal.loop-left-init
loop-left-init c = word_start _ _ _ _ _ _ (omega arith) (λ j. omega (arith, c.type_inv.row j)) (omega arith)

pub overflow_add-v : goal.overflow_add-v
overflow_add-v c = omega (arith, word_fits _ _ _ _ _ _ (omega arith) (λ j. omega (arith, c.type_inv.row j)) c.loop-left.invariant _ c.low_bit-t.ensures)

pub offset_bounds-words-v : goal.offset_bounds-words-v
offset_bounds-words-v c = omega (arith, word_fits _ _ _ _ _ _ (omega arith) (λ j. omega (arith, c.type_inv.row j)) c.loop-left.invariant _ c.low_bit-t.ensures)

pub bounds-words-v : goal.bounds-words-v
bounds-words-v c = omega (arith, word_fits _ _ _ _ _ _ (omega arith) (λ j. omega (arith, c.type_inv.row j)) c.loop-left.invariant _ c.low_bit-t.ensures)

pub overflow_shr-left : goal.overflow_shr-left
overflow_shr-left c = omega (arith, c.low_bit-t.ensures.small)

pub overflow_add-v-in-loop-left : goal.overflow_add-v-in-loop-left
overflow_add-v-in-loop-left c = omega (arith, word_fits _ _ _ _ _ _ (omega arith) (λ j. omega (arith, c.type_inv.row j)) c.loop-left.invariant _ c.low_bit-t.ensures)

pub overflow_add-v-in-loop-left-2 : goal.overflow_add-v-in-loop-left-2
overflow_add-v-in-loop-left-2 c = omega (arith, word_fits _ _ _ _ _ _ (omega arith) (λ j. omega (arith, c.type_inv.row j)) c.loop-left.invariant _ c.low_bit-t.ensures)

pub loop-left-smaller : goal.loop-left-smaller
loop-left-smaller c = omega (arith, word_fits _ _ _ _ _ _ (omega arith) (λ j. omega (arith, c.type_inv.row j)) c.loop-left.invariant _ c.low_bit-t.ensures)

pub loop-left-preserved : goal.loop-left-preserved
loop-left-preserved c =
    word_on _ _ _ _ _ _ (omega arith) (λ j. omega (arith, c.type_inv.row j)) c.loop-left.invariant _ _ _ c.low_bit-t.ensures (omega arith)
    c.storage_of.ensures.0 (link_next _ _ _ _ c.link.ensures)

pub returns : goal.returns
returns c = word_end _ _ _ _ _ _ (omega arith) (λ j. omega (arith, c.type_inv.row j)) c.loop-left.invariant c.loop-left-test.false
