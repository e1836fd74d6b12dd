-- The loop's invariant: the records so far are passed.
-- The measure is what is left of the file. Assumes nothing.
use Prim.Native.Nat.{◌-◌}
use lib.ListN.{length}
use Rattle.units.specs.Along.{Sound}
use Rattle.liveness.specs.Walks.{Walked}
use Rattle.liveness.proofs.survey.block_records.Given as goal

abbrev pub invariant-loop-kind : goal.invariant-loop-kind
invariant-loop-kind l = Sound l.own
    × Walked l.source.file.now l.source.numbers.now l.source.table.now l.own l.initial.born l.initial.dead l.initial.notes l.begin l.born l.dead l.notes l.w

abbrev pub decreases-loop-kind : goal.decreases-loop-kind
decreases-loop-kind l = length l.source.file.now - l.w.at
