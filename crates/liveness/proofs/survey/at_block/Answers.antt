-- Each refusal has met the number of blocks, the end of the file, or another kind; the last answer is the test of the kind itself.
-- Assumes nothing.
use mathlib.Core.Path.{sym}
use mathlib.Core.Logic.{inl, inr}
use mathlib.Core.Bool.{true≢false}
use native.Mathlib.Omega.{arith}
use borrow.Author.Tests.{eqb-true, eqb-false}
use Rattle.liveness.proofs.survey.at_block.Goals as goal

pub returns-then-b-ge-BLOCKS : goal.returns-then-b-ge-BLOCKS
returns-then-b-ge-BLOCKS c = record { yes = λ e. absurd (true≢false (sym e)); no = λ _. inl c.if-b-ge-BLOCKS.true }

pub returns-then-file-at : goal.returns-then-file-at
returns-then-file-at c = record { yes = λ e. absurd (true≢false (sym e)); no = λ _. inr (λ h. absurd (omega (arith, c.if-file-at.true, h.1))) }

pub returns-then-file-at-lt3 : goal.returns-then-file-at-lt3
returns-then-file-at-lt3 c = record { yes = λ e. absurd (true≢false (sym e)); no = λ _. inr (λ h. absurd (omega (arith, c.if-file-at-lt3.true, c.if-file-at.false, h.1))) }

pub returns : goal.returns
returns c = record { yes = λ e. (c.if-b-ge-BLOCKS.false, (eqb-true _ 4 e, omega (arith, c.if-file-at-lt3.false, c.if-file-at.false))); no = λ e. inr (λ h. eqb-false _ 4 e h.0) }
