-- `rows::same_row` meets its contract. The invariant: the words passed are equal,
-- so one unequal word tells the rows apart, and a loop that ends has compared them all. Assumes nothing.
use Rattle.std.proofs.Common.{◌≡◌, ℕ, ◌<◌, get_or}
use Rattle.rows.proofs.same_row.Given as goal

abbrev pub invariant-loop-i : goal.invariant-loop-i
invariant-loop-i l = (k : ℕ) → k < l.i → get_or l.w-items k 0 ≡ get_or l.other k 0
