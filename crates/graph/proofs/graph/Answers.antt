-- A short buffer is refused untouched; else the needed words are lent on, and what lies past them stays.
-- Each test on a length is one law.
use lib.Seq.{length-take-le}
use Rattle.graph.proofs.Drawing.{graphs_short_units, graphs_short_live, graphs_short_graph, graphs_short_copies, graphs_all}
use borrow.Author.Rules.{rules}
use Rattle.graph.proofs.graph.Goals as goal
use Rattle.graph.proofs.graph.Goals.{then-units-lt512-via-then-units-lt512, then-units-lt512-via-else-units-lt512+then-live-lt2048, then-units-lt512-via-else-units-lt512+else-live-lt2048+then-graph-lt1024, then-units-lt512-via-else-units-lt512+else-live-lt2048+else-graph-lt1024+then-copies-lt1024}

pub returns-then-units-lt512 : goal.returns-then-units-lt512
returns-then-units-lt512 c =
    elim c.then-units-lt512.branch [
      | then-units-lt512-via-then-units-lt512 w ↦ graphs_short_units _ _ _ _ _ w.if-units-lt512.true
      | then-units-lt512-via-else-units-lt512+then-live-lt2048 w ↦ graphs_short_live _ _ _ _ _ w.if-units-lt512.false w.if-live-lt2048.true
      | then-units-lt512-via-else-units-lt512+else-live-lt2048+then-graph-lt1024 w ↦ graphs_short_graph _ _ _ _ _ w.if-units-lt512.false w.if-live-lt2048.false w.if-graph-lt1024.true
      | then-units-lt512-via-else-units-lt512+else-live-lt2048+else-graph-lt1024+then-copies-lt1024 w ↦ graphs_short_copies _ _ _ _ _ w.if-units-lt512.false w.if-live-lt2048.false w.if-graph-lt1024.false w.if-copies-lt1024.true
    ]

pub slice_bounds-graph_in-end-2 : goal.slice_bounds-graph_in-end-2
slice_bounds-graph_in-end-2 c = search (rules, length-take-le)

pub slice_bounds-graph_in-end-4 : goal.slice_bounds-graph_in-end-4
slice_bounds-graph_in-end-4 c = search (rules, length-take-le)

pub slice_bounds-graph_in-end-6 : goal.slice_bounds-graph_in-end-6
slice_bounds-graph_in-end-6 c = search (rules, length-take-le)

pub slice_bounds-graph_in-end-8 : goal.slice_bounds-graph_in-end-8
slice_bounds-graph_in-end-8 c = search (rules, length-take-le)

pub graph_in-requires : goal.graph_in-requires
graph_in-requires c = (length-take-le 512 c.args.units.now (search rules), length-take-le 2048 c.args.live.now (search rules), length-take-le 1024 c.args.graph.now (search rules), length-take-le 1024 c.args.copies.now (search rules))

pub returns : goal.returns
returns c =
    graphs_all _ _ _ _ _ _ _ _ _ _ c.if-units-lt512.false c.if-live-lt2048.false c.if-graph-lt1024.false c.if-copies-lt1024.false c.graph_in.ensures
