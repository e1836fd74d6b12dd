-- `link` meets its contract: two ids put each into the row of the other, one id puts nothing.
-- Assumes nothing.
use Rattle.meetings.proofs.Closes.{link_same, link_both}
use Rattle.meetings.proofs.close.link.Goals as goal

pub returns-then-i-j : goal.returns-then-i-j
returns-then-i-j c = link_same _ _ _ c.if-i-j.true

pub returns : goal.returns
returns c =
    link_both _ _ _ _ _ c.if-i-j.false c.insert.ensures c.insert-2.ensures
