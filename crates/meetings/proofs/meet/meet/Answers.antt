-- `meet` meets its contract: what the step wants is poured into the rows of the storages that it writes.
-- Assumes nothing.
use Rattle.meetings.proofs.Walks.{met_by}
use Rattle.meetings.proofs.meet.meet.Goals as goal

pub returns : goal.returns
returns c =
    met_by _ _ _ _ _ _ _ _ _ c.want_of.ensures c.pour.ensures
