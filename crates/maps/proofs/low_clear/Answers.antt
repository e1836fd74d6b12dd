-- `maps::low_clear` meets its contract. The zeros below the lowest one of the turned byte are the ones below its lowest clear bit,
-- which the computed tests say of each byte that is not full. Assumes nothing.
use native.Mathlib.Omega.{arith}
use Rattle.maps.proofs.Bytes.{low_machine, low_small}
use Rattle.maps.proofs.low_clear.Goals as goal

pub overflow_cast-result : goal.overflow_cast-result
overflow_cast-result c = omega (arith, low_small c.args.b c.requires)

pub returns : goal.returns
returns c = (low_machine c.args.b c.requires, low_small c.args.b c.requires)
