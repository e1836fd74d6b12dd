-- `move_live` meets its contract: what is written is taken out, what is read put in.
-- Assumes nothing.
use native.Mathlib.Omega.{arith}
use Rattle.graph.proofs.Stepping.{moved}
use Rattle.graph.proofs.walk.move_live.Goals as goal

pub returns : goal.returns
returns c =
    moved _ _ _ _ _ (omega arith) (omega arith) (omega arith) c.less_from.ensures c.union_from.ensures
