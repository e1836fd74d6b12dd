-- `want_of` meets its contract: the flag says whether the source is spared.
-- Assumes nothing.
use Rattle.meetings.proofs.Walks.{want_copy, want_plain}
use Rattle.meetings.proofs.meet.want_of.Goals as goal

pub returns-then-copying : goal.returns-then-copying
returns-then-copying c =
    want_copy _ _ _ _ _ _ c.want.ensures _ c.if-copying.true c.spare.ensures

pub returns-else-copying : goal.returns-else-copying
returns-else-copying c = want_plain _ _ _ _ _ _ c.want.ensures c.if-copying.false
