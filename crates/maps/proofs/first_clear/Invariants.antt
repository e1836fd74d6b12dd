-- `maps::first_clear` meets its contract. The inner loop has seen k clear bytes: a byte behind them that is not clear lies in each window from o to o + k,
-- none begins before the next clear byte, and a map that ends there is too short for each later one. Before o, where at first all is taken, no window is clear. Assumes nothing.
use Prim.Native.Nat.{◌+◌, ◌-◌, ◌≤◌}
use lib.ListN.{length}
use Rattle.maps.proofs.Laws.{Clear, NoneBefore}
use Rattle.maps.proofs.first_clear.Given as goal

abbrev pub invariant-loop-k : goal.invariant-loop-k
invariant-loop-k l = (l.k ≤ l.n) × (l.o + l.k ≤ length l.map) × Clear l.map l.k l.o

abbrev pub decreases-loop-k : goal.decreases-loop-k
decreases-loop-k l = l.n - l.k

abbrev pub invariant-search : goal.invariant-search
invariant-search l = NoneBefore l.n l.map l.o

abbrev pub decreases-search : goal.decreases-search
decreases-search l = length l.map - l.o
