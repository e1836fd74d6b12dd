-- `hold_at` meets its contract: the two numbers are the id and the owner of the record.
-- Assumes nothing.
use borrow.Author.Rules.{rules}
use Rattle.meetings.proofs.Closes.{own_pairs_lem}
use Rattle.meetings.proofs.close.hold_at.Goals as goal

pub returns : goal.returns
returns c =
    own_pairs_lem _ _ _ (search rules) c.u16_at-2.ensures _ _ _ _ c.hold_one.ensures
