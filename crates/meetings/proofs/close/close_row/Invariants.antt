-- `close_row` meets its contract. The invariant: the units of the words still to come make of the graph now what all of them make of it at the start. An
-- empty row has no unit, so there the graph stays. Assumes nothing.
use mathlib.Core.List.{List}
use Prim.Native.Nat.{ℕ}
use Rattle.meetings.specs.Closing.{linked, apart_all}
use Rattle.meetings.proofs.Walks.{Rowing}
use Rattle.meetings.proofs.close.close_row.Given as goal

abbrev pub invariant-loop-n : goal.invariant-loop-n
invariant-loop-n l = Rowing (λ (js : List ℕ). linked (apart_all l.i js)) l.words l.row 1024 l.initial.graph l.graph l.n
