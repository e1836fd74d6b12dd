-- `hit` says whether the id stands among the blocks so far.
-- A block more says so of one more.
use mathlib.Core.Path.{◌≡◌}
use lib.ListN.{take}
use Rattle.fields.specs.Pick.{has}
use Rattle.records.proofs.step.among.Given as goal

abbrev pub invariant-loop-block : goal.invariant-loop-block
invariant-loop-block l = l.hit ≡ has l.id (take l.block-index l.blocks)
