-- The first half of the table is filled with what is no place, and the second with 0.
-- The two halves are the bare table.
use Rattle.std.proofs.lemmas.Grind.{common_steps}
use mathlib.Core.Path.{◌≡◌, ap₂}
use mathlib.Core.List.{◌++◌}
use lib.ListN.{replicate}
use native.Mathlib.Omega.{arith}
use Rattle.records.specs.Index.{bare}
use Rattle.records.proofs.index.blank.Goals as goal

pub returns : goal.returns
unfolding bare
returns c =
    let places : c.fill.new.self ≡ replicate 256 65535 = grind (arith, common_steps, c.fill.ensures.clones) in
    let counts : c.fill-2.new.self ≡ replicate 256 0 = grind (arith, common_steps, c.fill-2.ensures.clones) in
    ap₂ (◌++◌) places counts
