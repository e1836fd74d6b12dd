-- `rows::same_row` meets its contract. The invariant: the words passed are equal,
-- so one unequal word tells the rows apart, and a loop that ends has compared them all. Assumes nothing.
use Rattle.std.proofs.Common.{arith}
use Rattle.rows.proofs.Rows.{parts_differ, parts_agree}
use Rattle.rows.proofs.same_row.Goals as goal

pub returns-then-w-other : goal.returns-then-w-other
returns-then-w-other c = parts_differ _ _ _ _ c.args.n c.loop-i.i c.if-w-other.true

pub returns : goal.returns
returns c =
    parts_agree _ _ _ _ c.args.n c.requires.0 c.requires.1 (λ i h. c.loop-i.invariant i (omega arith))
