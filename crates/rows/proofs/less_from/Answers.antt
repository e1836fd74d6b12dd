-- `rows::less_from` meets its contract. The invariant: the words up to i are those of the difference, and those from i on are as they were,
-- so each word is read before its own turn writes it. Assumes nothing.
use Rattle.std.proofs.Common.{refl, arith}
use Rattle.rows.specs.Row.{less}
use Rattle.rows.proofs.Rows.{put_mid_zip}
use Rattle.rows.proofs.less_from.Goals as goal

pub returns : goal.returns
returns c =
    put_mid_zip less refl _ _ _ _ _ _ _ c.requires.0 c.requires.1 (omega arith) c.loop-i.auto.w-items (λ i h. c.loop-i.invariant.done i (omega arith))
