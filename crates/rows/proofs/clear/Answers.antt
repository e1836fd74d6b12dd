-- `rows::clear` meets its contract. `fill` leaves n zeros in the part that it is given,
-- and a write to a part of a slice is a row written over it. Assumes nothing.
use Rattle.std.proofs.Common.{rules, arith}
use Rattle.std.proofs.Math.ListN.{length-replicate}
use Rattle.rows.proofs.Rows.{put_mid_put}
use Rattle.rows.proofs.clear.Goals as goal

pub returns : goal.returns
returns c = put_mid_put _ _ _ _ _ (search rules) (simp length-replicate (omega arith))
