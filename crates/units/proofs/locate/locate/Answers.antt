-- What the definition finds from the front on is what it finds from the cursor on (`Going`), in the function behind the last function record.
-- The measure is what is left of the file.
use Rattle.std.specs.Prelude.{Option}
use mathlib.Core.Path.{◌≡◌, refl}
use mathlib.Core.List.{List}
use Prim.Native.Nat.{ℕ, ◌+◌, ◌≤◌}
use lib.ListN.{length}
use native.Mathlib.Omega.{arith}
use Rattle.fields.specs.Edition.{one}
use Rattle.records.specs.Check.{units, check}
use Rattle.units.specs.Along.{SoundBoth, Locates}
use Rattle.units.specs.declared.locate.Site.{Site}
use Rattle.units.proofs.Finding.{going_start, going_none, going_away, going_here, going_on, going_into, told_here, long, brought_room, step_room}
use Rattle.units.proofs.locate.locate.Goals as goal

pub loop-len-init : goal.loop-len-init
loop-len-init c = record {
  inside = omega arith;
  own_sound = omega arith;
  sound = omega arith;
  going = λ us ok. going_start _ us _ ok;
}

pub returns-then-here-place : goal.returns-then-here-place
returns-then-here-place c =
    let l = c.loop-len in
    let i = l.invariant in
    let w = rw c.tail_of.ensures.0 at c.in-Some.ensures.whole in
    let n = long c.args.file.now c.args.place l.own l.here.at l.here.k _ c.in-Some.len refl w.0 w.1 w.2 in
    told_here c.args.file.now _ _ _ _
    (λ (o : Option Site). SoundBoth c.args.file.now o × ((us : List ℕ) → check one c.args.file.now ≡ units us → Locates c.args.file.now c.args.place o))
    c.begins_step.ensures c.then_some.ensures
    (λ kind. (
      (i.own_sound, i.sound, step_room _ _ _ l.here.at n kind (omega (arith, c.in-Some.ensures.whole.1, c.tail_of.ensures.1))),
      λ us ok. going_here _ _ _ _ _ _ _ refl w.0 w.1 w.2 (i.going us ok) c.if-here-place.true kind,
    ))
    (λ a b. (tt, λ us ok. going_away _ _ _ _ _ _ _ refl w.0 w.1 w.2 (i.going us ok) c.if-here-place.true a b))

pub overflow_add-here-in-Some : goal.overflow_add-here-in-Some
overflow_add-here-in-Some c =
    let w = rw c.tail_of.ensures.0 at c.in-Some.ensures.whole in
    let n = long c.args.file.now c.args.place c.loop-len.own c.loop-len.here.at c.loop-len.here.k _ c.in-Some.len refl w.0 w.1 w.2 in
    omega (arith, brought_room _ _ _ c.brings.ensures n, w.1, c.tail_of.ensures.1, c.requires)

pub loop-len-preserved-then-kind-eq2 : goal.loop-len-preserved-then-kind-eq2
loop-len-preserved-then-kind-eq2 c =
    let l = c.loop-len in
    let w = rw c.tail_of.ensures.0 at c.in-Some.ensures.whole in
    let n = long c.args.file.now c.args.place l.own l.here.at l.here.k _ c.in-Some.len refl w.0 w.1 w.2 in
    let room = brought_room _ _ _ c.brings.ensures n in
    let inside : l.here.at + c.in-Some.len ≤ length c.args.file.now = omega (arith, c.in-Some.ensures.whole.1, c.tail_of.ensures.1) in record {
      inside = inside;
      own_sound = omega arith;
      sound = omega arith;
      going = λ us ok. going_into _ _ _ _ _ _ _ refl w.0 w.1 w.2 (l.invariant.going us ok) us ok c.if-here-place.false _ c.brings.ensures c.if-kind-eq2.true;
    }

pub loop-len-preserved : goal.loop-len-preserved
loop-len-preserved c =
    let l = c.loop-len in
    let w = rw c.tail_of.ensures.0 at c.in-Some.ensures.whole in
    let n = long c.args.file.now c.args.place l.own l.here.at l.here.k _ c.in-Some.len refl w.0 w.1 w.2 in
    let room = brought_room _ _ _ c.brings.ensures n in record {
      inside = omega (arith, c.in-Some.ensures.whole.1, c.tail_of.ensures.1);
      own_sound = l.invariant.own_sound;
      sound = omega arith;
      going = λ us ok. going_on _ _ _ _ _ _ _ refl w.0 w.1 w.2 (l.invariant.going us ok) us ok c.if-here-place.false _ c.brings.ensures c.if-kind-eq2.false;
    }

pub returns : goal.returns
returns c =
    let cut = rw c.tail_of.ensures.0 at c.in_default.ensures.cut in
    (tt, λ us ok. going_none _ _ _ _ _ (cut.0 refl) (c.loop-len.invariant.going us ok))
