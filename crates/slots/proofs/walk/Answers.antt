-- `slots::walk` meets its contract. A word that marks a slot which suits names the first that passes; behind a word that marks none, or no slot that
-- suits, none has passed.
use Rattle.std.proofs.Common.{refl, sym, ◌∙◌, arith}
use Rattle.std.proofs.lemmas.Bool.{not-false}
use borrow.Author.Tests.{eqb-true}
use Rattle.slots.proofs.Walking.{word_hit, word_past, word_unmarked, words_past}
use Rattle.slots.proofs.walk.Goals as goal
use Rattle.slots.proofs.walk.Goals.{then-any_marked+in_default, else-any_marked}

pub returns-in-Some : goal.returns-in-Some
returns-in-Some c = word_hit c.args.s _ _ _ _ c.loop-w.w _ refl c.in-Some.i c.loop-w.invariant c.in-Some.ensures

pub loop-w-preserved : goal.loop-w-preserved
loop-w-preserved c =
    elim c.if-any_marked.branch [
      | then-any_marked+in_default w ↦ word_past c.args.s _ _ _ _ c.loop-w.w _ refl c.loop-w.invariant w.in_default.ensures
      | else-any_marked w ↦ word_unmarked c.args.s _ _ _ _ c.loop-w.w _ refl c.loop-w.invariant (eqb-true _ _ (not-false _ (sym c.any_marked.ensures ∙ w.if-any_marked.false)))
    ]

pub returns : goal.returns
returns c = words_past c.args.s _ _ _ _ _ (omega arith) (omega arith) c.loop-w.invariant
