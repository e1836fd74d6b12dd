-- A short buffer is refused untouched; else the needed words are lent on, and what lies past them stays.
-- Each test on a length is one law.
use Rattle.graph.proofs.Drawing.{graphs_short_units, graphs_short_live, graphs_short_graph, graphs_short_copies}
use Rattle.allocator.proofs.Answering.{short_analysis, short_result, places_all}
use Rattle.allocator.proofs.place.Goals as goal

pub returns-then-units-lt512 : goal.returns-then-units-lt512
returns-then-units-lt512 c = short_analysis _ _ _ _ _ _ (graphs_short_units _ _ _ _ _ c.if-units-lt512.true)

pub returns-then-live-lt2048 : goal.returns-then-live-lt2048
returns-then-live-lt2048 c = short_analysis _ _ _ _ _ _ (graphs_short_live _ _ _ _ _ c.if-units-lt512.false c.if-live-lt2048.true)

pub returns-then-graph-lt1024 : goal.returns-then-graph-lt1024
returns-then-graph-lt1024 c = short_analysis _ _ _ _ _ _ (graphs_short_graph _ _ _ _ _ c.if-units-lt512.false c.if-live-lt2048.false c.if-graph-lt1024.true)

pub returns-then-copies-lt1024 : goal.returns-then-copies-lt1024
returns-then-copies-lt1024 c =
    short_analysis _ _ _ _ _ _ (graphs_short_copies _ _ _ _ _ c.if-units-lt512.false c.if-live-lt2048.false c.if-graph-lt1024.false c.if-copies-lt1024.true)

pub returns-then-out-lt2048 : goal.returns-then-out-lt2048
returns-then-out-lt2048 c = short_result _ _ _ _ _ _ c.if-out-lt2048.true

pub returns : goal.returns
returns c =
    places_all _ _ _ _ _ _ c.if-units-lt512.false c.if-live-lt2048.false c.if-graph-lt1024.false c.if-copies-lt1024.false c.if-out-lt2048.false
    _ _ _ _ _ _ c.place_in.ensures
