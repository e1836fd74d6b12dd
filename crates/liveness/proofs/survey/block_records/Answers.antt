-- The loop's invariant: the records so far are passed.
-- The measure is what is left of the file. Assumes nothing.
use native.Mathlib.Omega.{arith}
use Rattle.liveness.proofs.Taking.{walked_none, walked_on}
use Rattle.liveness.proofs.survey.block_records.Goals as goal

pub loop-kind-init : goal.loop-kind-init
loop-kind-init c =
    let p = c.requires in
    (p.0, walked_none _ _ _ _ _ _ _ _ p.1 p.2)

pub take_record-w-requires : goal.take_record-w-requires
take_record-w-requires c = let i = c.loop-kind.invariant in (i.0, i.1.within, c.in-Some.ensures, i.1.more_targets)

pub loop-kind-smaller : goal.loop-kind-smaller
loop-kind-smaller c = omega (arith, c.take_record-w.ensures.on, c.take_record-w.ensures.fits)

pub loop-kind-preserved : goal.loop-kind-preserved
loop-kind-preserved c =
    let i = c.loop-kind.invariant in
    (i.0, walked_on _ _ _ _ _ _ _ _ _ _ _ _ i.1 _ _ _ _ c.take_record-w.ensures)

pub returns : goal.returns
returns c = (c.loop-kind.invariant.1, c.in_default.ensures)
