-- `note_copies_to` meets its contract. The invariant: the read units still to come make of the pairs now what all of them make of those at the start.
-- Assumes nothing.
use mathlib.Core.Path.{refl}
use native.Mathlib.Omega.{arith}
use Rattle.meetings.specs.Meeting.{paired, pairs_to}
use Rattle.meetings.proofs.Walks.{left_all, left_below, visit_start, visit_on, visit_end, pair_next}
use Rattle.meetings.proofs.meet.note_copies_to.Goals as goal

pub bounds-words-v : goal.bounds-words-v
bounds-words-v c = omega (arith, left_below c.loop-v.v-iterator _ _ c.in-Some.ensures.steps)

pub offset_bounds-words-v : goal.offset_bounds-words-v
offset_bounds-words-v c = omega (arith, left_below c.loop-v.v-iterator _ _ c.in-Some.ensures.steps)

pub loop-v-init : goal.loop-v-init
loop-v-init c = visit_start _ _ _ _ _ (left_all _ _ _ c.into_iter-v-iterator.ensures.into_iter_gives c.of-v-items.ensures)

pub loop-v-preserved : goal.loop-v-preserved
loop-v-preserved c = visit_on _ _ _ _ c.loop-v.invariant _ _ _ _ c.in-Some.ensures.steps c.storage_of.ensures.0 (pair_next _ _ _ _ c.note_pair.ensures)

pub returns : goal.returns
unfolding paired pairs_to
returns c = visit_end _ _ _ _ c.loop-v.invariant c.in-None.ensures.steps.0 refl
