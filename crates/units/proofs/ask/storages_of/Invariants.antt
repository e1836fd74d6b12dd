-- The row holds the storages of the numbers passed so far, so that at the end it holds those of all 512.
-- A number whose bit is not set adds none.
use Rattle.std.proofs.Common.{◌≡◌}
use Rattle.rows.specs.Row.{pack}
use Rattle.fields.specs.Pick.{has}
use Rattle.units.specs.Seek.{storages_below}
use Rattle.units.proofs.ask.storages_of.Given as goal

abbrev pub invariant-loop-n : goal.invariant-loop-n
invariant-loop-n l = l.row ≡ pack 4 (λ i. has i (storages_below l.words l.units l.n))
