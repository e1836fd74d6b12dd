-- Some state of the definitions stands behind the code's numbers and words all along (`Reading`), so that each way out answers as the definitions do.
-- The measure is what is left of the file.
use Prim.Native.Nat.{◌≤◌, ◌-◌}
use lib.ListN.{length}
use Rattle.records.specs.Mirror.{Lent}
use Rattle.records.proofs.Reading.{Reading}
use Rattle.records.proofs.walk.walk.Given as goal

abbrev pub invariant-loop-at : goal.invariant-loop-at
invariant-loop-at l = record {
  within : l.at ≤ length l.file;
  short : length l.file ≤ 16384;
  lent : Lent l.initial.notes l.notes;
  numbers : 2341 ≤ length l.notes.numbers.now;
  reading : Reading l.file l.c l.at l.notes;
}

abbrev pub decreases-loop-at : goal.decreases-loop-at
decreases-loop-at l = length l.file - l.at
