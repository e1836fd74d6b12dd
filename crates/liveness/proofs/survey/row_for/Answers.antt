-- A kept step has a row of its own, and every other one the row behind them. Each way out is one of the two.
-- Assumes nothing.
use mathlib.Core.Path.{sym}
use native.Mathlib.Omega.{arith}
use Rattle.liveness.proofs.Keeping.{row_for_kept, row_for_late}
use Rattle.liveness.proofs.survey.row_for.Goals as goal

pub returns-then-s-lt-KEPT : goal.returns-then-s-lt-KEPT
returns-then-s-lt-KEPT c = (sym (row_for_kept _ c.if-s-lt-KEPT.true), omega (arith, c.if-s-lt-KEPT.true))

pub returns-else-s-lt-KEPT : goal.returns-else-s-lt-KEPT
returns-else-s-lt-KEPT c = (sym (row_for_late _ c.if-s-lt-KEPT.false), omega arith)
