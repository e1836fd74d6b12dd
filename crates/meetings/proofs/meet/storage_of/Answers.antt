-- `storage_of` meets its contract: the word without its shape, and of that what stands above the offset, is the storage, by definition.
-- Assumes nothing.
use mathlib.Core.Path.{refl}
use native.Mathlib.Omega.{arith}
use Rattle.units.specs.Uses.{storage_of}
use Rattle.meetings.proofs.meet.storage_of.Goals as goal

pub returns : goal.returns
unfolding storage_of
returns c = (refl, omega arith)
