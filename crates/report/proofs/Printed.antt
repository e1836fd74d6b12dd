-- The text of a placing by the outcome of `place`.
-- The outcome is one record of the answer and the buffers, so its text is that of the answer and the result in it.
use Rattle.std.specs.Prelude.{Result, Ok, Err}
use mathlib.Core.List.{List}
use mathlib.Core.Path.{◌≡◌}
use Prim.Native.Nat.{ℕ}
use lib.ListN.{replicate}
use Rattle.lines.specs.Text.{Follows}
use Rattle.lines.specs.Placed.{placed_text, refused_text}
use Rattle.lines.specs.declared.placing.Setting.{Setting}
use Rattle.allocator.specs.Placing.{Places}
use Rattle.allocator.specs.declared.Placing.{Placing}
use Rattle.records.specs.declared.Refusal.{Refusal}
use Rattle.report.specs.Printed.{placing_text}

module _ {before last : List ℕ} (setting : Setting) (f units : List ℕ) (r : Result Placing Refusal) (units' live' graph' copies' result' : List ℕ)
    (places : Places f units (replicate 2048 0) (replicate 1024 0) (replicate 1024 0) (replicate 2048 0) r units' live' graph' copies' result') where
  pub done_text : (p : Placing)
      → r ≡ Ok p → Follows before (placed_text setting p.placed p.slots p.passes result') last → Follows before (placing_text setting f units) last
  unfolding placing_text
  done_text p e text = rw (← places) (rw e text)

  pub refused_text_lem : (refusal : Refusal)
      → r ≡ Err refusal → Follows before (refused_text setting refusal) last → Follows before (placing_text setting f units) last
  unfolding placing_text
  refused_text_lem refusal e text = rw (← places) (rw e text)
