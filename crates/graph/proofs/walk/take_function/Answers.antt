-- `take_function` meets its contract: the survey's rows settle to the live sets, and the blocks are noted from them.
-- The function stands in an accepted file, so that every place the survey noted lies in it. Assumes nothing.
use Rattle.graph.proofs.Blocking.{owner_ordered, function_taken}
use Rattle.graph.proofs.walk.take_function.Goals as goal

pub take_blocks-requires : goal.take_blocks-requires
take_blocks-requires c =
    let p = c.requires in
    let s = c.survey-s.ensures in
    (p.0, s.given.few, owner_ordered _ _ _ _ _ s.surveyed p.1 s.sized.5, c.settle-passes.ensures.held.len)

pub returns : goal.returns
returns c =
    let s = c.survey-s.ensures in
    let e = c.blocks-2.ensures in
    function_taken _ _ _ _ _ _ _ _ _ s.given s.sound s.surveyed (rw (← e.0, ← e.1, ← e.2, ← e.3, ← e.4) c.settle-passes.ensures) c.take_blocks.ensures
