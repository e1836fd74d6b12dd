-- `passes::visit` meets its contract. Each call writes what its contract says, and the two stored rows stand apart,
-- so the buffer is `visited` and each call of store_row compares its row with the old one. Assumes nothing.
use mathlib.Core.Path.{refl}
use Rattle.passes.specs.Passes.{blank}
use Rattle.passes.proofs.Passing.{visit_words, visit_flag}
use Rattle.passes.proofs.visit.Goals as goal

pub returns : goal.returns
unfolding blank
returns c =
    let given = c.args.blocks.now.given in (
      visit_words _ _ _ _ _ given _ c.requires.0 _ c.requires.1 _ _ _ _ _ _ _ _ refl c.gather.ensures c.store_row-out_moved.ensures c.less_from.ensures c.union_from.ensures c.store_row-in_moved.ensures,
      visit_flag _ _ _ _ _ given _ c.requires.0 _ c.requires.1 _ _ _ _ _ _ _ _ refl c.gather.ensures c.store_row-out_moved.ensures c.less_from.ensures c.union_from.ensures c.store_row-in_moved.ensures,
    )
