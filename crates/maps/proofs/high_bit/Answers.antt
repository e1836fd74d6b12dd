-- `maps::high_bit` meets its contract. The invariant: the whole search comes to what is left of it below i,
-- since each byte passed is full. Assumes nothing.
use mathlib.Core.Path.{sym, ap, ◌∙◌}
use native.Mathlib.Omega.{arith}
use Rattle.maps.specs.Maps.{low_clear}
use Rattle.maps.proofs.Laws.{high_pass, high_hit, high_end}
use Rattle.maps.proofs.Bytes.{low_full}
use Rattle.maps.proofs.high_bit.Goals as goal

pub returns-then-map-i : goal.returns-then-map-i
returns-then-map-i c =
    let found = c.low_clear.ensures in
    (sym (c.loop-i.invariant ∙ high_hit _ _ _ _ c.loop-i-test.true found.0), (omega arith, found.1))

pub loop-i-preserved : goal.loop-i-preserved
loop-i-preserved c = c.loop-i.invariant ∙ high_pass _ _ _ c.loop-i-test.true (ap low_clear c.if-map-i.false ∙ low_full)

pub returns : goal.returns
returns c = (sym (c.loop-i.invariant ∙ high_end _ _ _ c.loop-i-test.false), tt)
