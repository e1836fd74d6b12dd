-- `pour` meets its contract. The invariant: the written units still to come make of the buffer now what all of them make of it at the start.
-- Assumes nothing.
use mathlib.Core.Path.{refl}
use native.Mathlib.Omega.{arith}
use Rattle.meetings.specs.Meeting.{poured}
use Rattle.meetings.proofs.Walks.{left_all, left_below, visit_start, visit_on, visit_end, pour_next}
use Rattle.meetings.proofs.meet.pour.Goals as goal

pub bounds-words-w : goal.bounds-words-w
bounds-words-w c = omega (arith, left_below c.loop-w.w-iterator _ _ c.in-Some.ensures.steps)

pub offset_bounds-words-w : goal.offset_bounds-words-w
offset_bounds-words-w c = omega (arith, left_below c.loop-w.w-iterator _ _ c.in-Some.ensures.steps)

pub loop-w-init : goal.loop-w-init
loop-w-init c = visit_start _ _ _ _ _ (left_all _ _ _ c.into_iter-w-iterator.ensures.into_iter_gives c.of-w-items.ensures)

pub loop-w-preserved : goal.loop-w-preserved
loop-w-preserved c = visit_on _ _ _ _ c.loop-w.invariant _ _ _ _ c.in-Some.ensures.steps c.storage_of.ensures.0 (pour_next _ _ _ _ (omega arith) c.union_from.ensures)

pub returns : goal.returns
unfolding poured
returns c = visit_end _ _ _ _ c.loop-w.invariant c.in-None.ensures.steps.0 refl
