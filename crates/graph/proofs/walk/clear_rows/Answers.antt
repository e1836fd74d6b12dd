-- The rows hold nothing for the blocks from `blocks` on, so that clearing those below clears all (`rows_blank`).
-- Assumes nothing.
use native.Mathlib.Omega.{arith}
use Rattle.graph.proofs.Walked.{rows_blank}
use Rattle.graph.proofs.walk.clear_rows.Goals as goal

pub returns : goal.returns
returns c =
    let p = c.requires in
    rows_blank _ _ _ _ p.0 p.1 c.clear.ensures c.clear-2.ensures
    (omega (arith, p.0.len)) (omega (arith, p.0.len))
