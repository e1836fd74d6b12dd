-- `take_one` meets its contract: the row is copied, and the block's steps are noted from it.
-- Assumes nothing.
use borrow.Author.Rules.{rules}
use Rattle.graph.proofs.Blocking.{one_taken}
use Rattle.graph.proofs.walk.take_one.Goals as goal

pub returns : goal.returns
returns c =
    let p = c.requires in
    one_taken _ _ c.args.findings.now c.args.b c.args.rows.now _ _ _ _ _ p.1 p.3 (search rules) c.copy_row.ensures c.take_block.ensures
