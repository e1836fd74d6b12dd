-- `note_address` meets its contract: the test chooses as the contract chooses.
-- Assumes nothing.
use Rattle.fields.specs.Pick.{pick_yes, pick_no}
use borrow.Author.Tests.{lt-ltb, le-ltb, eq-eqb, ne_eqb}
use Rattle.graph.proofs.walk.note_address.Goals as goal

pub returns-then-op-eq16 : goal.returns-then-op-eq16
returns-then-op-eq16 c = search (pick_yes, pick_no, lt-ltb, le-ltb, eq-eqb, ne_eqb)

pub returns-else-op-eq16 : goal.returns-else-op-eq16
returns-else-op-eq16 c = search (pick_yes, pick_no, lt-ltb, le-ltb, eq-eqb, ne_eqb)
