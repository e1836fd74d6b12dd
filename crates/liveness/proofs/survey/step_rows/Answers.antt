-- The words are the step's rows and those that it joins to the rows before it, and the cursor behind its operands has the same to come.
-- Each call gives one equation of words. Assumes nothing.
use Rattle.liveness.proofs.Gathering.{step_joined}
use borrow.Author.Rules.{rules}
use Rattle.liveness.proofs.survey.step_rows.Goals as goal

pub returns-clause-joined : goal.returns-clause-joined
returns-clause-joined c us fn ss =
    step_joined _ us _ _ fn _ _ _ ss _ _ _ _ _ _ _ _ _ (search rules) (search rules) (search rules) c.uses_at-next.ensures.uses c.uses_at-next.ensures.behind
    c.copy_row.ensures c.less_from.ensures c.union_from.ensures c.union_from-2.ensures
