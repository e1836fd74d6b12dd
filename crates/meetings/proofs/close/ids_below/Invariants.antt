-- `ids_below` meets its contract. The invariant: the number so far is above the ids of the storages of all units gone through.
-- Assumes nothing.
use Prim.Native.Nat.{◌≤◌}
use Rattle.meetings.specs.Closing.{Above}
use Rattle.meetings.proofs.close.ids_below.Given as goal

abbrev pub invariant-loop-n : goal.invariant-loop-n
invariant-loop-n l = (l.n ≤ l.count) × (l.top ≤ 256) × Above l.words l.n l.top
