-- `maps::high_bit` meets its contract. The invariant: the whole search comes to what is left of it below i,
-- since each byte passed is full. Assumes nothing.
use mathlib.Core.Path.{◌≡◌}
use Rattle.maps.specs.Maps.{high_bit}
use Rattle.maps.proofs.high_bit.Given as goal

abbrev pub invariant-loop-i : goal.invariant-loop-i
invariant-loop-i l = high_bit l.lo l.hi l.map ≡ high_bit l.lo l.i l.map
