-- The loop's invariant: so many blocks are read, as the definitions say of each, and the walk stands before the others. At its end all blocks are read.
-- The measure is what is left of the file. Assumes nothing.
use borrow.Author.Rules.{rules}
use native.Mathlib.Omega.{arith}
use mathlib.Core.Path.{ap, ◌∙◌}
use Prim.Native.Nat.{ℕ, ◌≤◌}
use lib.ListN.{length, take}
use lib.Seq.{length-take-le, get_or-take}
use Rattle.records.specs.Units.{number_in}
use Rattle.liveness.proofs.Surveying.{fronted_length, fronted_front, growing_start, growing_on, growing_given, growing_done}
use Rattle.liveness.proofs.survey.survey.Goals as goal

pub loop-own-init : goal.loop-own-init
loop-own-init c =
    let p = c.requires in
    (p, growing_start _ _ _ _ c.args.findings.now _ _ (search rules, search rules, search rules, search rules, search rules, search rules) c.seek-c.ensures.0 c.seek-c.ensures.1)

pub take_block-w-requires : goal.take_block-w-requires
take_block-w-requires c =
    let i = c.loop-own.invariant in
    let y = c.at_block.ensures.yes c.loop-own-test.true in
    (i.0, i.1.within, y.1, y.0, i.1.tallied)

pub overflow_add-b : goal.overflow_add-b
overflow_add-b c = omega (arith, c.loop-own.invariant.1.few)

pub loop-own-smaller : goal.loop-own-smaller
loop-own-smaller c = omega (arith, c.take_block-w.ensures.on, c.take_block-w.ensures.fits)

pub loop-own-preserved : goal.loop-own-preserved
loop-own-preserved c =
    let i = c.loop-own.invariant in
    let y = c.at_block.ensures.yes c.loop-own-test.true in
    (i.0, growing_on _ _ _ _ _ _ _ _ i.1 _ _ _ y.0 c.args.source.short c.take_block-w.ensures)

pub number_targets-requires : goal.number_targets-requires
number_targets-requires c = omega (arith, length-take-le c.loop-own.b c.loop-own.ids (omega (arith, c.loop-own.invariant.1.few)), c.loop-own.invariant.1.few)

pub seek-after-requires : goal.seek-after-requires
seek-after-requires c = (c.args.source.short, c.loop-own.invariant.1.within.0)

pub slice_bounds-number_targets-end-2 : goal.slice_bounds-number_targets-end-2
slice_bounds-number_targets-end-2 c = omega (arith, c.loop-own.invariant.1.targets_low, c.loop-own.invariant.1.sized.4)

pub returns : goal.returns
returns c =
    let i = c.loop-own.invariant in
    let z = i.1.sized in
    let low : c.loop-own.w.targets ≤ length c.loop-own.findings.steps.targets = omega (arith, i.1.targets_low, z.4) in
    let e = fronted_length c.loop-own.findings.steps.targets c.number_targets.new.targets c.loop-own.w.targets low (search rules) in
    record {
      given = growing_given _ _ _ _ _ _ _ _ i.1 _ e;
      sized = (z.0, z.1, z.2, z.3, e ∙ z.4, z.5);
      sound = c.seek-after.ensures.0.sound;
      surveyed = growing_done _ _ _ _ _ _ _ _ i.1 _ _ _ c.loop-own-test.false c.at_block.ensures e (search rules)
          (λ j h. fronted_front c.loop-own.findings.steps.targets c.number_targets.new.targets c.loop-own.w.targets low (search rules) j h ∙ (c.number_targets.ensures j (omega (arith, length-take-le c.loop-own.w.targets c.loop-own.findings.steps.targets low)) ∙ ap (λ (x : ℕ). number_in x (take c.loop-own.b c.loop-own.ids)) (get_or-take c.loop-own.w.targets c.loop-own.findings.steps.targets j 0 h)))
          c.seek-after.ensures.0 c.seek-after.ensures.1;
    }
