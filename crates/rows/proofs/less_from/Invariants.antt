-- `rows::less_from` meets its contract. The invariant: the words up to i are those of the difference, and those from i on are as they were,
-- so each word is read before its own turn writes it. Assumes nothing.
use Rattle.std.proofs.Common.{◌≡◌, ℕ, ◌≤◌, ◌<◌, get_or}
use Rattle.rows.specs.Row.{less}
use Rattle.rows.proofs.less_from.Given as goal

abbrev pub invariant-loop-i : goal.invariant-loop-i
invariant-loop-i l = record {
  done : (k : ℕ) → k < l.i → get_or l.w-items k 0 ≡ less (get_or l.initial.w-items k 0) (get_or l.other k 0);
  left : (k : ℕ) → l.i ≤ k → get_or l.w-items k 0 ≡ get_or l.initial.w-items k 0;
}
