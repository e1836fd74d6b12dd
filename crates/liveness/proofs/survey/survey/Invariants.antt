-- The loop's invariant: so many blocks are read, as the definitions say of each, and the walk stands before the others. At its end all blocks are read.
-- The measure is what is left of the file. Assumes nothing.
use Prim.Native.Nat.{◌-◌}
use lib.ListN.{length}
use Rattle.units.specs.Along.{Sound}
use Rattle.liveness.specs.Walks.{Growing}
use Rattle.liveness.proofs.survey.survey.Given as goal

abbrev pub invariant-loop-own : goal.invariant-loop-own
invariant-loop-own l = Sound l.own × Growing l.source.file.now l.source.numbers.now l.source.table.now l.own l.findings l.ids l.b l.w

abbrev pub decreases-loop-own : goal.decreases-loop-own
decreases-loop-own l = length l.source.file.now - l.w.at
