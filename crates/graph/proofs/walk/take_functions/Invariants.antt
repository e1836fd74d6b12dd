-- `take_functions` meets its contract. The invariant: the functions before the cursor are noted, in file order, and the rows hold nothing for the blocks
-- that the last of them does not have; each turn leaves one function less to come. The file is accepted, so that a function's record is followed by its own records.
use Prim.Native.Nat.{ℕ, ◌≤◌}
use mathlib.Core.Path.{◌≡◌}
use mathlib.Core.List.{List}
use lib.ListN.{length}
use Rattle.units.specs.Along.{from, Sound}
use Rattle.passes.specs.Passes.{Held}
use Rattle.graph.specs.Walking.{Granted, Walked}
use Rattle.graph.proofs.walk.take_functions.Given as goal

abbrev pub invariant-loop-file : goal.invariant-loop-file
invariant-loop-file l = Sound l.c × (length l.rows ≡ 2048) × ((us : List ℕ) → Granted l.basis us → Walked l.file us l.c l.passes l.rows l.sketch) × Held l.rows l.blocks × (l.blocks ≤ 128)

abbrev pub decreases-loop-file : goal.decreases-loop-file
decreases-loop-file l = length (from l.file l.c.at).functions
