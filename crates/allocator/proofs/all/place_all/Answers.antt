-- `place_all` meets its contract. The invariant: the storages still ahead, placed from the state that the words stand for, come to what all of them come to
-- from the start. Each turn takes one record; at the end none is ahead.
use Rattle.std.specs.Prelude.{Ok}
use mathlib.Core.Path.{sym, ap, ◌∙◌}
use native.Mathlib.Omega.{arith}
use lib.ListN.{length}
use Rattle.std.proofs.lemmas.Result.{err_from_is_err_and}
use Rattle.storages.proofs.Declared.{opened, opens_inside}
use Rattle.slots.specs.declared.Slots.{Slots}
use Rattle.allocator.proofs.Answering.{laid_none}
use Rattle.allocator.proofs.Going.{going_start, Follows, placed_follows, opened_follows, going_held, front_fits, room_left, going_refused, going_on, going_end}
use Rattle.allocator.proofs.all.place_all.Goals as goal
use Rattle.allocator.proofs.all.place_all.Goals.{in-Some, in_default}

pub loop-s-init : goal.loop-s-init
loop-s-init c =
    let p = c.requires in
    rw (c.new-slots.ensures.1, p.begun.2) (going_start _ _ _ _ _ _ _ _ _ _ p.fit.0 p.fit.1 p.begun.0 (p.begun.1 ∙ sym (laid_none 2048)))

pub storage_at-s-requires : goal.storage_at-s-requires
storage_at-s-requires c =
    let f = c.args.file.now in
    let q = opened f _ c.loop-s.at _ _ c.tail_of.ensures.0 c.opens_storage.ensures c.loop-s-test.true in
    let g = opens_inside f c.loop-s.at c.loop-s.invariant.inside q in
    omega (arith, c.tail_of-in-loop-s.ensures.1)

pub place_one-requires : goal.place_one-requires
place_one-requires c =
    let f = c.args.file.now in
    let q = opened f _ c.loop-s.at _ _ c.tail_of.ensures.0 c.opens_storage.ensures c.loop-s-test.true in
    let v = c.loop-s.invariant in
    let w = front_fits v _ _ c.tail_of-in-loop-s.ensures.0 c.storage_at-s.ensures q in
    record {
      room = w.0;
      own = (w.1, w.2);
      held = rw (c.raise.ensures.0, c.raise.ensures.1) (going_held v);
    }

-- Where a storage opens a slot there is room for one more.
pub open-requires : goal.open-requires
open-requires c =
    room_left c.loop-s.invariant _ _ _ _ c.tail_of.ensures.0 c.opens_storage.ensures c.loop-s-test.true c.tail_of-in-loop-s.ensures.0 c.storage_at-s.ensures

pub returns-in_err-opened : goal.returns-in_err-opened
returns-in_err-opened c =
    let f = c.args.file.now in
    let q = opened f _ c.loop-s.at _ _ c.tail_of.ensures.0 c.opens_storage.ensures c.loop-s-test.true in
    let turned = rw (c.raise.ensures.0, c.raise.ensures.1) at c.place_one.ensures.turned in
    let e = err_from_is_err_and c.from_residual.result c.from_residual.ensures.1 in
    λ g t lo hi. rw (e.1, e.2) (going_refused c.loop-s.invariant _ _ c.tail_of-in-loop-s.ensures.0 c.storage_at-s.ensures q _ _ _ _ _ _ _ turned _ c.in_err-opened.was g t lo hi)

pub overflow_add-at : goal.overflow_add-at
overflow_add-at c =
    let f = c.args.file.now in
    let q = opened f _ c.loop-s.at _ _ c.tail_of.ensures.0 c.opens_storage.ensures c.loop-s-test.true in
    let g = opens_inside f c.loop-s.at c.loop-s.invariant.inside q in
    omega (arith, c.well_formed.0)

pub loop-s-smaller : goal.loop-s-smaller
loop-s-smaller c =
    let f = c.args.file.now in
    let q = opened f _ c.loop-s.at _ _ c.tail_of.ensures.0 c.opens_storage.ensures c.loop-s-test.true in
    let g = opens_inside f c.loop-s.at c.loop-s.invariant.inside q in
    omega arith

pub loop-s-preserved : goal.loop-s-preserved
loop-s-preserved c =
    let f = c.args.file.now in
    let q = opened f _ c.loop-s.at _ _ c.tail_of.ensures.0 c.opens_storage.ensures c.loop-s-test.true in
    let turned = rw (c.raise.ensures.0, c.raise.ensures.1) at c.place_one.ensures.turned in
    let was = c.loop-s.slots in
    let now = c.match-opened.slots in
    let v = c.place_one.result in
    let s = c.storage_at-s.result in
    let follows : Follows was.list was.count s v now.list now.count =
    elim c.match-opened.branch [
      | in-Some w ↦
          opened_follows was.list was.count s v now.list now.count _ (c.in_ok-opened.was ∙ ap Ok w.in-Some.is) (ap (λ (t : Slots). t.list) w.slots-is ∙ w.open.ensures.0)
          (ap (λ (t : Slots). t.count) w.slots-is ∙ w.open.ensures.1)
      | in_default w ↦
          placed_follows was.list was.count s v now.list now.count (c.in_ok-opened.was ∙ ap Ok w.in_default.is) (ap (λ (t : Slots). t.list) w.slots-is)
          (ap (λ (t : Slots). t.count) w.slots-is)
    ] in
    going_on c.loop-s.invariant _ _ c.tail_of-in-loop-s.ensures.0 c.storage_at-s.ensures q v _ _ _ _ _ _ turned now.list now.count _ follows
    c.in_ok-opened.ensures.noted (c.place_one.ensures.kept.0 ∙ ap length c.raise.ensures.0) (c.place_one.ensures.kept.1 ∙ ap length c.raise.ensures.1)

pub returns : goal.returns
returns c =
    let f = c.args.file.now in
    rw c.len.ensures.0 (going_end c.loop-s.invariant (opened f _ c.loop-s.at _ _ c.tail_of.ensures.0 c.opens_storage.ensures c.loop-s-test.false))
