-- `close_row` meets its contract. The invariant: the units of the words still to come make of the graph now what all of them make of it at the start. An
-- empty row has no unit, so there the graph stays. Assumes nothing.
use mathlib.Core.Path.{refl}
use native.Mathlib.Omega.{arith}
use Rattle.units.specs.Sets.{each}
use Rattle.meetings.specs.Closing.{linked, apart_all}
use Rattle.meetings.proofs.Walks.{row_start, row_on, row_end}
use Rattle.meetings.proofs.Closes.{link_none}
use Rattle.meetings.proofs.close.close_row.Goals as goal

pub returns-then-next_word-eq8 : goal.returns-then-next_word-eq8
returns-then-next_word-eq8 c = link_none _ _ _ _ _ c.next_word.ensures (omega arith)

pub loop-n-init : goal.loop-n-init
loop-n-init c = row_start _ _ _ _ _ (omega arith)

pub loop-n-preserved : goal.loop-n-preserved
loop-n-preserved c =
    row_on _ _ _ _ _ c.loop-n.invariant _ c.loop-n-test.true (omega arith) c.close_word.ensures

pub returns : goal.returns
unfolding linked apart_all each
returns c = row_end _ _ _ _ _ c.loop-n.invariant (omega arith) c.loop-n-test.false refl
