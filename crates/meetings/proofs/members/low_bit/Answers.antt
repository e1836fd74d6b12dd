-- `low_bit` meets its contract. The zeros below the lowest set bit are counted, so the count is that bit's place.
-- Assumes nothing.
use native.Mathlib.Omega.{arith}
use lib.Count.{trailing_le}
use Rattle.meetings.proofs.Firsts.{lowest}
use Rattle.meetings.proofs.members.low_bit.Goals as goal

pub overflow_cast-result : goal.overflow_cast-result
overflow_cast-result c = omega (arith, trailing_le 64 c.args.w)

pub returns : goal.returns
returns c = lowest c.args.w c.requires (omega arith)
