-- What the iterator over a row's members has left: the members from its next place on.
use Rattle.std.specs.Prelude.{List, ℕ}
use Rattle.meetings.specs.Members.{ahead}
use Rattle.meetings.specs.declared.members.Members.{Members}

abbrev pub left : Members → List ℕ
left s = ahead s.row.now s.next
