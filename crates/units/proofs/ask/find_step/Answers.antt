-- An accepted file has the step that `locate` finds; where it finds none, the words are cleared, as they are where the file is refused.
-- An accepted file is short enough for the search.
use borrow.Author.Rules.{rules}
use native.Mathlib.Omega.{arith}
use lib.ListN.{length}
use Rattle.std.proofs.lemmas.Result.{err_from_is_err_and}
use Rattle.units.proofs.Asking.{numbered_units, seeks_here, seeks_absent, seeks_refused}
use Rattle.units.proofs.ask.find_step.Goals as goal

pub locate-requires : goal.locate-requires
locate-requires c =
    (numbered_units c.args.file.now 0 _ _ _ _ c.number_units.ensures (λ i. omega (arith, c.type_inv.file i)) _ c.in_ok-number_units.was).short

pub returns-in-Some : goal.returns-in-Some
returns-in-Some c =
    seeks_here c.args.file.now _ _ _ _ _ c.number_units.ensures (λ i. omega (arith, c.type_inv.file i)) _ c.in_ok-number_units.was _ c.locate.ensures.0 c.locate.ensures.1 _ c.in-Some.is

pub returns-in-None : goal.returns-in-None
returns-in-None c =
    let u = c.number_units in
    seeks_absent c.args.file.now _ _ _ _ _ u.ensures (λ i. omega (arith, c.type_inv.file i)) _ c.in_ok-number_units.was _ c.locate.ensures.0 c.locate.ensures.1 _ (length u.new.words) c.in-None.is c.clear.ensures (search rules)

pub returns-in_err-number_units : goal.returns-in_err-number_units
returns-in_err-number_units c =
    let p = err_from_is_err_and c.from_residual.result c.from_residual.ensures.1 in
    rw (p.1, p.2) (seeks_refused _ _ _ _ _ _ c.number_units.ensures _ c.in_err-number_units.was)
