-- The two entries are those of the definition, and a sane table has them in proportion.
-- An entry fits sixteen bits, so it fits a place.
use mathlib.Core.Path.{refl}
use native.Mathlib.Omega.{arith}
use Rattle.units.proofs.uses.callee_at.Goals as goal

pub returns : goal.returns
returns c = (refl, c.args.source.sane.sound c.args.n (omega arith))
