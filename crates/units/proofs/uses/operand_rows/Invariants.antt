-- What is left to mark, onto the rows so far, comes to what the contract says; so does the number of operands met with that of those left.
-- The measure is what is left of the tail.
use Rattle.std.proofs.Common.{◌≡◌, ◌+◌, ◌*◌, ◌≤◌, length}
use Rattle.units.specs.Marks.{marks, fields_in, read_in, written_in}
use Rattle.units.proofs.uses.operand_rows.Given as goal

abbrev pub invariant-loop-rest : goal.invariant-loop-rest
invariant-loop-rest l = record {
  read_wide : length l.reads ≡ 8;
  written_wide : length l.writes ≡ 8;
  onward : l.fn.k ≤ l.n;
  paced : 7 * l.n + length l.rest ≡ 7 * l.fn.k + length l.fn.tail;
  counted : l.n + length (fields_in l.rest) ≡ l.fn.k + length (fields_in l.fn.tail);
  read : marks (read_in l.fields) l.source.numbers.now l.n (fields_in l.rest) l.reads
      ≡ marks (read_in l.fields) l.source.numbers.now l.fn.k (fields_in l.fn.tail) l.initial.reads;
  written : marks (written_in l.fields l.head.ends) l.source.numbers.now l.n (fields_in l.rest) l.writes
      ≡ marks (written_in l.fields l.head.ends) l.source.numbers.now l.fn.k (fields_in l.fn.tail) l.initial.writes;
}

abbrev pub decreases-loop-rest : goal.decreases-loop-rest
decreases-loop-rest l = length l.rest
