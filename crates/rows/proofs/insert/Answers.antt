-- `rows::insert` meets its contract. The one store is the one of the definition,
-- once the mask is known to be 2 ^ (n mod 64). Assumes nothing.
use Rattle.rows.specs.Row.{with_at}
use Rattle.rows.proofs.insert.Goals as goal

pub returns : goal.returns
unfolding with_at
returns c = rw c.mask.ensures
