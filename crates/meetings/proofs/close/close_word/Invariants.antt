-- `close_word` meets its contract. The invariant: what is left of the word is that of its bits which are still ahead, and the units still ahead make of the
-- graph now what those from the word's start on make of it at the start. Assumes nothing.
use mathlib.Core.List.{List}
use Prim.Native.Nat.{ℕ, ◌-◌}
use Rattle.meetings.specs.Closing.{linked, apart_all}
use Rattle.meetings.proofs.Walks.{Wording}
use Rattle.meetings.proofs.close.close_word.Given as goal

abbrev pub invariant-loop-left : goal.invariant-loop-left
invariant-loop-left l = Wording (λ (js : List ℕ). linked (apart_all l.i js)) l.words l.row 1024 l.n l.initial.graph l.graph l.v l.left

abbrev pub decreases-loop-left : goal.decreases-loop-left
decreases-loop-left l = 512 - l.v
