-- `note_pairs` meets its contract: the test chooses as the contract chooses.
-- Assumes nothing.
use Rattle.fields.specs.Pick.{pick_yes, pick_no}
use borrow.Author.Tests.{lt-ltb, le-ltb, eq-eqb, ne_eqb}
use Rattle.graph.proofs.walk.note_pairs.Goals as goal

pub returns-then-op-lt2 : goal.returns-then-op-lt2
returns-then-op-lt2 c = search (pick_yes, pick_no, lt-ltb, le-ltb, eq-eqb, ne_eqb)

pub returns-else-op-lt2 : goal.returns-else-op-lt2
returns-else-op-lt2 c = search (pick_yes, pick_no, lt-ltb, le-ltb, eq-eqb, ne_eqb)
