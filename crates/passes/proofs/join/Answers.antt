-- `passes::join` meets its contract. Where t is a block, union_from writes the union over the whole of `out`, which is as wide as a row;
-- where it is none, `out` stays as it is. Assumes nothing.
use native.Mathlib.Omega.{arith}
use Rattle.passes.proofs.Passing.{joined_there, joined_missing}
use Rattle.passes.proofs.join.Goals as goal

pub returns-then-t-count : goal.returns-then-t-count
returns-then-t-count c =
    joined_there _ _ c.requires.1 c.requires.2 _ _ c.requires.0 (omega arith) _ c.union_from.ensures

pub returns-else-t-count : goal.returns-else-t-count
returns-else-t-count c = joined_missing _ _ c.requires.1 c.requires.2 _ _ (omega arith)
