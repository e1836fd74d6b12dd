-- `rows::copy_row` meets its contract. The invariant: the words up to i are those of the other row, so after the last turn all are,
-- and a write to a part of a slice is a row written over it. Assumes nothing.
use Rattle.std.proofs.Common.{arith}
use Rattle.rows.proofs.Rows.{put_mid_row}
use Rattle.rows.proofs.copy_row.Goals as goal

pub returns : goal.returns
returns c = put_mid_row _ _ _ _ _ _ _ c.requires.1 (omega arith) (omega arith) (λ i h. c.loop-i.invariant i (omega arith))
