-- `maps::next_clear` meets its contract. The invariant: no byte passed is clear,
-- so that the one at which the loop stops is the first, or the map ends there. Assumes nothing.
use mathlib.Core.Path.{◌≡◌}
use Prim.Native.Nat.{ℕ, ◌≤◌, ◌<◌}
use lib.ListN.{get_or}
use Rattle.maps.proofs.next_clear.Given as goal

abbrev pub invariant-loop-o : goal.invariant-loop-o
invariant-loop-o l = (j : ℕ) → j < l.o → l.from ≤ j → get_or l.map j 0 ≡ 0 → ⊥
