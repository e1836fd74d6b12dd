-- The survey leaves what the passes ask for; what they settle is the function's live sets, by the law from rows to sets.
-- Assumes nothing.
use Rattle.liveness.proofs.Solving.{live_of_file}
use Rattle.liveness.proofs.passes_of.Goals as goal

pub blocks-requires : goal.blocks-requires
blocks-requires c = c.survey-s.ensures.given

pub returns : goal.returns
returns c =
    λ us fn ready s m a b. live_of_file _ us _ _ fn _ _ _ _ ready m (c.survey-s.ensures.surveyed us fn ready s m a b).0
    (let e = c.blocks-2.ensures in rw (← e.0, ← e.1, ← e.2, ← e.3, ← e.4) c.settle.ensures)
