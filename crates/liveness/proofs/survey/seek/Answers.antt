-- The loop's invariant: the search has come from its cursor to the place.
-- The measure is what is left of the file.
use Rattle.liveness.proofs.Onward.{came_on}
use Rattle.liveness.proofs.survey.seek.Goals as goal

pub loop-len-preserved : goal.loop-len-preserved
loop-len-preserved c = came_on _ _ _ _ _ _ _ _ c.loop-len.invariant c.in-Some.ensures c.brings-k.ensures
