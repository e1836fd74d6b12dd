-- `rows::mask` meets its contract. A u64 shift keeps the low 64 bits of the product,
-- and 2 ^ k with k below 64 has no others. Assumes nothing.
use Rattle.rows.proofs.Digit.{shifted_one}
use Rattle.rows.proofs.mask.Goals as goal

pub returns : goal.returns
returns c = shifted_one c.args.k c.requires
