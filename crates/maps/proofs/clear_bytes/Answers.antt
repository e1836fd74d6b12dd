-- `maps::clear_bytes` meets its contract: `all` answers the definition's test of the part,
-- and a part that passes the end is not clear. Assumes nothing.
use mathlib.Core.Path.{◌≡◌, ◌∙◌}
use Prim.Native.Nat.{◌+◌, ◌-◌}
use native.Mathlib.Omega.{arith}
use lib.Dec.{eqb}
use lib.ListN.{take, drop}
use borrow.Author.Rules.{rules}
use Rattle.std.proofs.Common.{tests}
use Rattle.std.proofs.lemmas.Iterator.{YieldsList-from_slice}
use Rattle.std.proofs.lemmas.Iterator.Search.{all_from_yields_List}
use borrow.Author.Tests.{lt-leb}
use Rattle.maps.specs.Maps.{clear_bytes}
use Rattle.maps.proofs.Laws.{clear_bytes_all}
use Rattle.maps.proofs.clear_bytes.Goals as goal

pub returns-then-offset-n : goal.returns-then-offset-n
returns-then-offset-n c =
    let a = c.args in
    let n : a.offset + a.n - a.offset ≡ a.n = omega arith in
    let all = all_from_yields_List (λ b. eqb b 0) _ _ c.all.result c.all.ensures.ran (YieldsList-from_slice (take (a.offset + a.n - a.offset) (drop a.offset a.map.now)) cc) (λ x b q k. search (rules, tests)) in
    all ∙ rw n (clear_bytes_all _ _ _ c.if-offset-n.true)

pub returns-else-offset-n : goal.returns-else-offset-n
unfolding clear_bytes
returns-else-offset-n c = rw (lt-leb _ _ c.if-offset-n.false)
