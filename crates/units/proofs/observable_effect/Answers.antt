-- A short buffer is refused untouched; else the step at the place tells its effect, and a refusal is handed on.
-- The first 512 words are lent on, and what lies past them stays.
use borrow.Author.Rules.{rules}
use mathlib.Core.List.{[]}
use native.Mathlib.Omega.{arith}
use Rattle.std.proofs.lemmas.Result.{err_from_is_err_and}
use Rattle.units.proofs.Asking.{tells_short, tells_here, tells_refused, reached, sought_refused}
use Rattle.units.proofs.observable_effect.Goals as goal

pub returns-then-units-lt512 : goal.returns-then-units-lt512
returns-then-units-lt512 c = tells_short _ _ _ c.if-units-lt512.true

pub tail_of-requires : goal.tail_of-requires
tail_of-requires c = omega (arith, (reached _ _ _ _ _ _ c.find_step.ensures _ c.in_ok-site.was).sound.2)

pub has_effect-requires : goal.has_effect-requires
has_effect-requires c =
    let h = reached _ _ _ _ _ _ c.find_step.ensures _ c.in_ok-site.was in
    omega (arith, h.sound.2, c.tail_of.ensures.1)

pub returns : goal.returns
returns c =
    let h = reached _ _ _ _ _ _ c.find_step.ensures _ c.in_ok-site.was in
    tells_here _ _ _ (search rules) _ _ _ _ _ _ h c.tail_of.ensures.0 c.has_effect.ensures

pub returns-in_err-site : goal.returns-in_err-site
returns-in_err-site c =
    let p = err_from_is_err_and c.from_residual.result c.from_residual.ensures.1 in
    let h = sought_refused _ _ _ _ _ _ c.find_step.ensures _ c.in_err-site.was in
    rw (p.1, p.2) (tells_refused _ _ _ (search rules) _ [] [] _ h.0 h.1)
