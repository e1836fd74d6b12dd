-- `maps::next_clear` meets its contract. The invariant: no byte passed is clear,
-- so that the one at which the loop stops is the first, or the map ends there. Assumes nothing.
use mathlib.Core.Path.{◌≡◌}
use native.Mathlib.Omega.{arith}
use lib.ListN.{length}
use Rattle.maps.proofs.next_clear.Goals as goal

pub returns : goal.returns
returns c =
    let e : c.loop-o.o ≡ length c.args.map.now = omega arith in
    record { behind = omega arith; inside = omega arith; taken = rw e at c.loop-o.invariant; clear = λ l. absurd (omega arith) }
