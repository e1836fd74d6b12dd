-- `next_member` meets its contract. What is left of the word of `from`, shifted down, has the number as its lowest bit; where it is 0, the number stands in
-- the first later word that is not 0; and where there is none, the row is passed. Assumes nothing.
use native.Mathlib.Omega.{arith}
use Rattle.meetings.proofs.Firsts.{first_past, first_here, first_none, first_later}
use Rattle.meetings.proofs.members.next_member.Goals as goal

pub returns-then-row-at : goal.returns-then-row-at
returns-then-row-at c = first_past _ _ (omega arith) c.if-row-at.true

pub returns-then-w-ne0 : goal.returns-then-w-ne0
returns-then-w-ne0 c =
    first_here _ _ c.if-row-at.false _ (λ i. omega (arith, c.type_inv.row i)) c.low_bit.ensures

pub returns-then-row-next : goal.returns-then-row-next
returns-then-row-next c =
    first_none _ _ c.if-row-at.false _ c.if-w-ne0.false c.next_word-next.ensures c.if-row-next.true

pub low_bit-requires-2 : goal.low_bit-requires-2
low_bit-requires-2 c = c.next_word-next.ensures.there c.if-row-next.false

pub returns : goal.returns
returns c =
    first_later _ _ c.if-row-at.false _ c.if-w-ne0.false c.next_word-next.ensures _ c.if-row-next.false c.low_bit-2.ensures
