-- `rows::has` meets its contract. The code shifts, halves and compares exactly as the definition of a bit does,
-- so the result is equal to it as soon as the definitions are opened. Assumes nothing.
use mathlib.Core.Path.{refl}
use Rattle.rows.specs.Row.{member_at, bit, digit}
use Rattle.rows.proofs.has.Goals as goal

pub returns : goal.returns
unfolding member_at bit digit
returns c = refl
