-- Some state of the definitions stands behind the code's numbers and words all along (`Reading`), so that each way out answers as the definitions do.
-- The measure is what is left of the file.
use denote.Enum.Bare.{same_true, same_false}
use mathlib.Core.Path.{refl, sym, ◌∙◌}
use Rattle.fields.specs.Record.{u8_at}
use Rattle.records.specs.contracts.reader.Stage.{the_type}
use borrow.Author.Rules.{rules}
use mathlib.Core.List.{[]}
use native.Mathlib.Omega.{arith}
use Rattle.std.proofs.lemmas.Result.{err_from_is_err_and}
use Rattle.records.proofs.Reading.{reading_start, reading_sane, kind_low, not_whole, whole_kind, reading_fault, reading_refused, reading_on, reading_done, reading_open}
use Rattle.records.proofs.walk.walk.Goals as goal

pub loop-at-init : goal.loop-at-init
loop-at-init c =
    record {
      within = search rules;
      short = search rules;
      lent = search rules;
      numbers = search rules;
      reading = reading_start _ _ _ c.start_reading-c.ensures refl (search rules) c.requires.1 refl refl c.requires.3;
    }

pub returns-in_default : goal.returns-in_default
unfolding u8_at
returns-in_default c =
    let l = c.loop-at.invariant in
    reading_fault _ _ _ _ l.reading l.short _ _ _ _ c.tail_of-tail.ensures.0 c.loop-at-test.true (not_whole _ _ _ refl refl (c.in_default.ensures.cut.0 refl))

pub step_on-requires : goal.step_on-requires
unfolding u8_at
step_on-requires c =
    let l = c.loop-at.invariant in
    let w = c.in-Some.ensures.whole in
    (omega (arith, w.1, w.2), kind_low _ _ w.2 (λ z. omega (arith, w.0)), reading_sane _ _ _ _ l.reading l.short l.numbers)

pub returns-in_err-c : goal.returns-in_err-c
unfolding u8_at
returns-in_err-c c =
    let l = c.loop-at.invariant in
    let w = c.in-Some.ensures.whole in
    let p = err_from_is_err_and c.from_residual.result c.from_residual.ensures.1 in
    rw (p.1, p.2) (reading_refused _ _ _ _ l.reading l.short _ _ _ _ c.tail_of-tail.ensures.0 c.loop-at-test.true _ (whole_kind _ _ _ refl w.2 (λ z. omega (arith, w.0)) w.1) _ _
    (c.step_on.ensures.comes l.reading.state l.reading.is l.reading.kept refl l.reading.holds) _ c.in_err-c.was)

pub loop-at-preserved : goal.loop-at-preserved
unfolding u8_at
loop-at-preserved c =
    let l = c.loop-at.invariant in
    let w = c.in-Some.ensures.whole in
    record {
      within = omega (arith, w.1, c.tail_of-tail.ensures.1);
      short = l.short;
      lent = search rules;
      numbers = omega (arith, l.numbers, c.step_on.ensures.lent.many_numbers);
      reading =
          reading_on _ _ _ _ l.reading l.short [] [] [] _ c.tail_of-tail.ensures.0 c.loop-at-test.true _ (whole_kind _ _ _ refl w.2 (λ z. omega (arith, w.0)) w.1) _ _
          (c.step_on.ensures.comes l.reading.state l.reading.is l.reading.kept refl l.reading.holds) _ c.in_ok-c.was;
    }

pub returns-then-eq : goal.returns-then-eq
returns-then-eq c =
    let l = c.loop-at.invariant in
    reading_done _ _ _ _ l.reading l.short _ _ _ (λ h. omega (arith, c.loop-at-test.false)) (same_true the_type (search rules) _ _ (sym c.eq.ensures ∙ c.if-eq.true))
    (search rules) (search rules) (search rules)

pub returns : goal.returns
returns c =
    let l = c.loop-at.invariant in
    reading_open _ _ _ _ l.reading l.short _ _ _ (λ h. omega (arith, c.loop-at-test.false)) (same_false the_type _ _ (sym c.eq.ensures ∙ c.if-eq.false))
