-- `rows::copy_row` meets its contract. The invariant: the words up to i are those of the other row, so after the last turn all are,
-- and a write to a part of a slice is a row written over it. Assumes nothing.
use Rattle.std.proofs.Common.{◌≡◌, ℕ, ◌<◌, get_or}
use Rattle.rows.proofs.copy_row.Given as goal

abbrev pub invariant-loop-i : goal.invariant-loop-i
invariant-loop-i l = (k : ℕ) → k < l.i → get_or l.w-items k 0 ≡ get_or l.other k 0
