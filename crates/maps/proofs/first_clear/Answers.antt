-- `maps::first_clear` meets its contract. The inner loop has seen k clear bytes: a byte behind them that is not clear lies in each window from o to o + k,
-- none begins before the next clear byte, and a map that ends there is too short for each later one. Before o, where at first all is taken, no window is clear. Assumes nothing.
use Rattle.std.specs.Prelude.{Some, None}
use mathlib.Core.Path.{sym, subst}
use Prim.Native.Nat.{◌+◌, ◌≤◌, ◌<◌}
use native.Mathlib.Omega.{arith}
use borrow.Author.Count.{below_none, below_more}
use lib.ListN.{length}
use Rattle.maps.proofs.Laws.{Clear, NoneBefore, clear_in, none_taken, none_behind, none_until, none_short, window_only}
use Rattle.maps.proofs.first_clear.Goals as goal
use Rattle.maps.proofs.first_clear.Goals.{then-n-eq0, else-n-eq0}

pub search-init : goal.search-init
search-init c =
    elim c.if-n-eq0.branch [
      | then-n-eq0 w ↦ λ j l t. absurd (omega (arith, w.o-is))
      | else-n-eq0 w ↦ subst (NoneBefore c.args.n c.args.map.now) (sym w.o-is) (none_taken _ _ _ (omega (arith, w.if-n-eq0.false)) c.requires)
    ]

pub loop-k-init : goal.loop-k-init
loop-k-init c = (omega arith, omega arith, below_none _)

pub loop-k-preserved : goal.loop-k-preserved
loop-k-preserved c = (omega arith, omega arith, below_more _ _ c.loop-k.invariant.2 c.if-map-o-ne0.false)

pub search-smaller : goal.search-smaller
search-smaller c = omega (arith, c.next_clear-o.ensures.behind)

pub search-preserved : goal.search-preserved
search-preserved c =
    none_until _ _ _ _ (omega arith) (none_behind _ _ _ _ c.search.invariant (omega arith) c.if-map-o-ne0.true) c.next_clear-o.ensures

pub returns-then-map-o : goal.returns-then-map-o
returns-then-map-o c = (window_only _ _ None (λ j l. c.search.invariant j (omega arith)), tt)

pub returns-then-k-n : goal.returns-then-k-n
returns-then-k-n c =
    let a = c.args in
    let o = c.search.o in
    let clear : Clear a.map.now a.n o = λ j l. c.loop-k.invariant.2 j (omega arith) in
    let fits : o + a.n ≤ length a.map.now = omega arith in
    let inside : o < length a.map.now = omega arith in
    (window_only _ _ (Some o) (fits, clear_in _ _ _ fits clear, c.search.invariant, inside), inside)

pub returns-then-map-o-2 : goal.returns-then-map-o-2
returns-then-map-o-2 c = (window_only _ _ None (none_short _ _ _ c.search.invariant (omega arith)), tt)
