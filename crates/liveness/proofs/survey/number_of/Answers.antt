-- The loop's invariant: the number is i and the number among the ids from there on.
-- Where the id stands at i the latter is 0, and at the end too.
use native.Mathlib.Omega.{arith}
use Rattle.liveness.proofs.Finding.{searched_found, searched_on, searched_none}
use Rattle.liveness.proofs.survey.number_of.Goals as goal

pub loop-i-init : goal.loop-i-init
loop-i-init c = omega arith

pub returns-then-other-id : goal.returns-then-other-id
returns-then-other-id c = (omega arith, searched_found _ _ _ c.loop-i.invariant (omega arith) c.if-other-id.true)

pub loop-i-preserved : goal.loop-i-preserved
loop-i-preserved c = searched_on _ _ _ c.loop-i.invariant (omega arith) c.if-other-id.false

pub returns : goal.returns
returns c = (omega arith, searched_none _ _ c.loop-i.i c.loop-i.invariant (omega arith) (omega arith))
