-- `spare` meets its contract. The invariant: the read units still to come make of the row now what all of them make of it at the start.
-- Assumes nothing.
use mathlib.Core.Path.{refl}
use native.Mathlib.Omega.{arith}
use Rattle.meetings.specs.Meeting.{less_rows}
use Rattle.meetings.proofs.Walks.{left_all, left_below, visit_start, visit_on, visit_end, less_next}
use Rattle.meetings.proofs.meet.spare.Goals as goal

pub bounds-words-v : goal.bounds-words-v
bounds-words-v c = omega (arith, left_below c.loop-v.v-iterator _ _ c.in-Some.ensures.steps)

pub offset_bounds-words-v : goal.offset_bounds-words-v
offset_bounds-words-v c = omega (arith, left_below c.loop-v.v-iterator _ _ c.in-Some.ensures.steps)

pub loop-v-init : goal.loop-v-init
loop-v-init c = visit_start _ _ _ _ _ (left_all _ _ _ c.into_iter-v-iterator.ensures.into_iter_gives c.of-v-items.ensures)

pub loop-v-preserved : goal.loop-v-preserved
loop-v-preserved c = visit_on _ _ _ _ c.loop-v.invariant _ _ _ _ c.in-Some.ensures.steps c.storage_of.ensures.0 (less_next _ _ _ _ (omega arith) (omega arith) c.less_from.ensures)

pub returns : goal.returns
unfolding less_rows
returns c = visit_end _ _ _ _ c.loop-v.invariant c.in-None.ensures.steps.0 refl
