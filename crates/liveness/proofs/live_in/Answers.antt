-- A refusal of the file leaves its cleared words beside a cleared buffer; units are handed on, and their file is no longer than it may be.
-- Assumes nothing.
use native.Mathlib.Omega.{arith}
use Rattle.std.proofs.lemmas.Result.{err_from_is_err_and}
use Rattle.units.proofs.Asking.{numbered_units}
use Rattle.liveness.proofs.Answering.{blank_of, lived_refused, lived_done}
use borrow.Author.Rules.{rules}
use Rattle.liveness.proofs.live_in.Goals as goal

pub invariant_of-source : goal.invariant_of-source
invariant_of-source c =
    let a = numbered_units c.args.file.now 0 _ _ _ _ c.number_units.ensures (λ i. omega (arith, c.type_inv.file i)) _ c.in_ok-number_units.was in
    record { short = a.short; enough = search rules; sane = a.sane }

pub live_of-requires : goal.live_of-requires
live_of-requires c = (search rules, blank_of _ _ c.requires.1 c.clear.ensures)

pub returns-in_err-number_units : goal.returns-in_err-number_units
returns-in_err-number_units c =
    let p = err_from_is_err_and c.from_residual.result c.from_residual.ensures.1 in
    rw (p.1, p.2) (lived_refused _ _ _ _ _ _ c.number_units.ensures _ _ c.in_err-number_units.was (blank_of _ _ c.requires.1 c.clear.ensures))

pub returns : goal.returns
returns c =
    let a = numbered_units c.args.file.now c.args.number _ _ _ _ c.number_units.ensures (λ i. omega (arith, c.type_inv.file i)) _ c.in_ok-number_units.was in
    lived_done _ _ _ _ _ a _ _ _ (λ us ready w. c.live_of.ensures us (λ i. omega (arith, c.type_inv.file i)) ready w)
