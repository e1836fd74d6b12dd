-- A refusal of the analysis stays, with its cleared buffers; what the analysis gives is placed.
-- Assumes nothing.
use Rattle.std.proofs.lemmas.Result.{err_from_is_err_and}
use Rattle.allocator.proofs.Answering.{after_refusal, after_passes, after_placing}
use borrow.Author.Rules.{rules}
use Rattle.allocator.proofs.place_in.Goals as goal

pub place_on-requires : goal.place_on-requires
place_on-requires c =
    let p = c.requires in
    (search rules, search rules, search rules, search rules, search rules, after_passes _ _ _ _ _ p.0 p.1 p.2 p.3 _ _ _ _ _ c.graph.ensures _ c.in_ok-passes.was)

pub returns-in_err-passes : goal.returns-in_err-passes
returns-in_err-passes c =
    let p = c.requires in
    let q = err_from_is_err_and c.from_residual.result c.from_residual.ensures.1 in
    rw (q.1, q.2) (after_refusal _ _ _ _ _ p.0 p.1 p.2 p.3 _ _ _ _ _ c.graph.ensures _ _ c.in_err-passes.was)

pub returns : goal.returns
returns c =
    let p = c.requires in
    after_placing _ _ _ _ _ p.0 p.1 p.2 p.3 _ _ _ _ _ c.graph.ensures _ _ _ _ _ _ _ _ c.in_ok-passes.was c.place_on.ensures
