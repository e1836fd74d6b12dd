-- `hold_one` meets its contract: the two tests are those of the definition, in its order.
-- Assumes nothing.
use mathlib.Core.Path.{sym, ◌∙◌}
use borrow.Author.Tests.{lt-ltb, le-ltb}
use Rattle.fields.proofs.Front.{and_make}
use Rattle.meetings.proofs.Closes.{neither, not_second, linked_no, linked_yes}
use Rattle.meetings.proofs.close.hold_one.Goals as goal
use Rattle.meetings.proofs.close.hold_one.Goals.{else-id-lt256-via-then-id-lt256+else-has, else-id-lt256-via-else-id-lt256}

pub returns-then-has : goal.returns-then-has
returns-then-has c = linked_yes _ _ _ _ (and_make _ _ (lt-ltb _ _ c.if-id-lt256.true) (sym c.has.ensures ∙ c.if-has.true)) c.hold_all.ensures

pub returns-else-id-lt256 : goal.returns-else-id-lt256
returns-else-id-lt256 c =
    elim c.else-id-lt256.branch [
      | else-id-lt256-via-then-id-lt256+else-has w ↦ linked_no _ _ _ (not_second _ _ (lt-ltb _ _ w.if-id-lt256.true) (sym w.has.ensures ∙ w.if-has.false))
      | else-id-lt256-via-else-id-lt256 w ↦ linked_no _ _ _ (neither _ _ (le-ltb _ _ w.if-id-lt256.false))
    ]
