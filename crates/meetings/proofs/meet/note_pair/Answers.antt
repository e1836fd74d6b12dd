-- `note_pair` meets its contract: the test says which id is the smaller and which the greater.
-- Assumes nothing.
use Rattle.meetings.proofs.Walks.{note_first, note_second}
use Rattle.meetings.proofs.meet.note_pair.Goals as goal

pub returns-then-i-j : goal.returns-then-i-j
returns-then-i-j c = note_first _ _ _ _ c.if-i-j.true c.insert.ensures

pub returns-else-i-j : goal.returns-else-i-j
returns-else-i-j c = note_second _ _ _ _ c.if-i-j.false c.insert-else-i-j.ensures
