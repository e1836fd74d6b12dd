-- `take_functions` meets its contract. The invariant: the functions before the cursor are noted, in file order, and the rows hold nothing for the blocks
-- that the last of them does not have; each turn leaves one function less to come. The file is accepted, so that a function's record is followed by its own records.
use native.Mathlib.Omega.{arith}
use Prim.Native.Nat.{ℕ}
use mathlib.Core.Path.{sym, ap, subst}
use mathlib.Core.List.{List}
use Rattle.units.specs.declared.cursor.Cursor.{Cursor}
use Rattle.passes.specs.Passes.{Held}
use Rattle.passes.proofs.Passing.{blank_held}
use Rattle.graph.proofs.Walked.{blank_length, walked_none, next_owner, next_room, walked_more, next_less, walked_all}
use Rattle.graph.proofs.walk.take_functions.Goals as goal

pub loop-file-init : goal.loop-file-init
loop-file-init c =
    let p = c.requires in
    let s = c.seek-c.ensures in
    (s.0.sound, blank_length _ _ p.0, λ us g. walked_none _ us g _ _ _ s.0 s.1 p.0 p.1, subst (λ (l : List ℕ). Held l 0) (sym p.0) (blank_held 0), omega arith)

pub behind-requires : goal.behind-requires
behind-requires c =
    let y = c.at_function.ensures.yes c.loop-file-test.true in
    omega (arith, y.1, c.args.basis.source.short)

pub take_function-went-requires : goal.take_function-went-requires
take_function-went-requires c =
    let l = c.loop-file in
    let p = c.requires in
    let y = c.at_function.ensures.yes c.loop-file-test.true in
    let h = c.behind.ensures in
    let at-is = ap (λ (x : Cursor). x.at) h in
    let k-is = ap (λ (x : Cursor). x.k) h in
    (omega (arith, l.invariant.0, at-is, k-is), next_owner _ _ p.2.1 l.c _ _ _ _ (l.invariant.2 p.2.0 p.2.1) y at-is k-is, c.clear_rows.ensures)

pub overflow_add-passes : goal.overflow_add-passes
overflow_add-passes c =
    let l = c.loop-file in
    let p = c.requires in
    let y = c.at_function.ensures.yes c.loop-file-test.true in
    let h = c.behind.ensures in
    omega (arith, next_room _ _ p.2.1 l.c _ _ _ _ (l.invariant.2 p.2.0 p.2.1) y (ap (λ (x : Cursor). x.at) h) (ap (λ (x : Cursor). x.k) h) c.args.basis.source.short, c.take_function-went.ensures.few)

pub loop-file-smaller : goal.loop-file-smaller
loop-file-smaller c =
    let l = c.loop-file in
    let p = c.requires in
    let y = c.at_function.ensures.yes c.loop-file-test.true in
    let h = c.behind.ensures in
    next_less _ _ p.2.1 l.c _ _ _ _ (l.invariant.2 p.2.0 p.2.1) y (ap (λ (x : Cursor). x.at) h) (ap (λ (x : Cursor). x.k) h) _ _ _ _ _ c.take_function-went.ensures

pub loop-file-preserved : goal.loop-file-preserved
loop-file-preserved c =
    let l = c.loop-file in
    let y = c.at_function.ensures.yes c.loop-file-test.true in
    let h = c.behind.ensures in
    let t = c.take_function-went.ensures in (
      t.sound,
      t.held.len,
      λ us g. walked_more _ us g l.c _ _ _ _ (l.invariant.2 us g) y (ap (λ (x : Cursor). x.at) h) (ap (λ (x : Cursor). x.k) h) _ _ _ _ _ t,
      t.held,
      t.fewer,
    )

pub shape_of-rows : goal.shape_of-rows
shape_of-rows c = omega (arith, c.loop-file.invariant.1, blank_length _ _ c.requires.0)

pub returns : goal.returns
returns c =
    λ us g. walked_all _ us g _ _ _ _ (c.loop-file.invariant.2 us g) (c.at_function.ensures.no c.loop-file-test.false)
