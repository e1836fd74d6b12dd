-- What is left to mark, onto the row so far, comes to what the contract says.
-- The measure is what is left of the tail.
use Rattle.std.proofs.Common.{◌≡◌, length}
use Rattle.units.specs.Marks.{marks, wanted_by, roles_in, Behind}
use Rattle.units.proofs.uses.abi_row.Given as goal

abbrev pub invariant-loop-rest : goal.invariant-loop-rest
invariant-loop-rest l = record {
  wide : length l.row ≡ 8;
  behind : Behind l.n l.rest;
  marked : marks (wanted_by l.which) l.source.numbers.now l.n (roles_in l.rest) l.row ≡ marks (wanted_by l.which) l.source.numbers.now l.fn.k (roles_in l.fn.tail) l.initial.row;
}

abbrev pub decreases-loop-rest : goal.decreases-loop-rest
decreases-loop-rest l = length l.rest
