-- `hold_all` meets its contract. The invariant: the records still ahead make of the graph now what all of them make of it at the start.
-- Assumes nothing.
use native.Mathlib.Omega.{arith}
use Rattle.storages.proofs.Declared.{opened, opens_inside}
use Rattle.meetings.proofs.Closes.{store_start, store_on, store_end}
use Rattle.meetings.proofs.close.hold_all.Goals as goal

pub loop-graph-init : goal.loop-graph-init
loop-graph-init c = store_start _ _ _ (omega arith) (omega arith)

pub hold_pair-requires : goal.hold_pair-requires
hold_pair-requires c =
    let f = c.args.file.now in
    let q = opened f _ c.loop-graph.at _ _ c.tail_of.ensures.0 c.opens_storage.ensures c.loop-graph-test.true in
    let g = opens_inside f c.loop-graph.at c.loop-graph.invariant.inside q in
    (omega (arith, c.tail_of-in-loop-graph.ensures.1), omega arith, omega arith)

pub overflow_add-at : goal.overflow_add-at
overflow_add-at c =
    let f = c.args.file.now in
    let q = opened f _ c.loop-graph.at _ _ c.tail_of.ensures.0 c.opens_storage.ensures c.loop-graph-test.true in
    let g = opens_inside f c.loop-graph.at c.loop-graph.invariant.inside q in
    omega arith

pub loop-graph-smaller : goal.loop-graph-smaller
loop-graph-smaller c =
    let f = c.args.file.now in
    let q = opened f _ c.loop-graph.at _ _ c.tail_of.ensures.0 c.opens_storage.ensures c.loop-graph-test.true in
    let g = opens_inside f c.loop-graph.at c.loop-graph.invariant.inside q in
    omega arith

pub loop-graph-preserved : goal.loop-graph-preserved
loop-graph-preserved c =
    let f = c.args.file.now in
    let q = opened f _ c.loop-graph.at _ _ c.tail_of.ensures.0 c.opens_storage.ensures c.loop-graph-test.true in
    store_on _ _ _ c.loop-graph.invariant _ _ c.tail_of-in-loop-graph.ensures.0 q (omega arith) c.hold_pair.ensures

pub returns : goal.returns
returns c =
    let f = c.args.file.now in
    store_end _ _ _ c.loop-graph.invariant (opened f _ c.loop-graph.at _ _ c.tail_of.ensures.0 c.opens_storage.ensures c.loop-graph-test.false)
