-- `graph_of` meets its contract: the walk notes every step of the program, and the graph is closed from what was noted.
-- The file is accepted, so that its functions and their records are all there. Assumes nothing.
use borrow.Author.Rules.{rules}
use native.Mathlib.Omega.{arith}
use Rattle.graph.proofs.Walked.{blank_length}
use Rattle.graph.proofs.Whole.{granted_all, whole_all}
use Rattle.graph.proofs.walk.graph_of.Goals as goal

pub take_functions-passes-requires : goal.take_functions-passes-requires
take_functions-passes-requires c = let p = c.requires in (p.3, c.new-sketch.ensures, (p.6.0, granted_all _ _ _ p.6.1 c.unit_rows.ensures))

pub close-requires : goal.close-requires
close-requires c = (search rules, c.requires.1, c.ids_below-n.ensures.0, blank_length _ _ c.requires.4)

pub hold-requires : goal.hold-requires
hold-requires c = let p = c.requires in (p.0, search rules, omega (arith, blank_length _ _ p.4))

pub copy_from_slice-requires : goal.copy_from_slice-requires
copy_from_slice-requires c = omega (arith, blank_length _ _ c.requires.5)

pub returns : goal.returns
returns c =
    λ us k. whole_all _ us _ _ _ _ _ _ _ _ _ _ _ k (c.take_functions-passes.ensures us (granted_all _ us _ k c.unit_rows.ensures)) c.requires.4 _ c.ids_below-n.ensures c.close.ensures c.hold.ensures (search rules)
