-- `hold_pair` meets its contract: the two numbers are the id and the owner of the record.
-- Assumes nothing.
use borrow.Author.Rules.{rules}
use Rattle.meetings.proofs.Closes.{own_pair_lem}
use Rattle.meetings.proofs.close.hold_pair.Goals as goal

pub returns : goal.returns
returns c =
    own_pair_lem _ _ _ (search rules) c.u16_at-2.ensures _ _ _ _ c.link_owned.ensures
