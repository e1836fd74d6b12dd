-- `link_owned` meets its contract: the two tests are those of the pair, in its order.
-- Assumes nothing.
use borrow.Author.Tests.{eq-eqb, ne_eqb, lt-ltb, le-ltb}
use Rattle.fields.proofs.Front.{and_make}
use Rattle.meetings.proofs.Closes.{neither, not_second, linked_no, linked_yes}
use Rattle.meetings.proofs.close.link_owned.Goals as goal
use Rattle.meetings.proofs.close.link_owned.Goals.{else-other_owner-owner-via-then-other_owner-owner+else-other-lt256, else-other_owner-owner-via-else-other_owner-owner}

pub returns-then-other-lt256 : goal.returns-then-other-lt256
returns-then-other-lt256 c = linked_yes _ _ _ _ (and_make _ _ (eq-eqb _ _ c.if-other_owner-owner.true) (lt-ltb _ _ c.if-other-lt256.true)) c.link.ensures

pub returns-else-other_owner-owner : goal.returns-else-other_owner-owner
returns-else-other_owner-owner c =
    elim c.else-other_owner-owner.branch [
      | else-other_owner-owner-via-then-other_owner-owner+else-other-lt256 w ↦ linked_no _ _ _ (not_second _ _ (eq-eqb _ _ w.if-other_owner-owner.true) (le-ltb _ _ w.if-other-lt256.false))
      | else-other_owner-owner-via-else-other_owner-owner w ↦ linked_no _ _ _ (neither _ _ (ne_eqb _ _ w.if-other_owner-owner.false))
    ]
