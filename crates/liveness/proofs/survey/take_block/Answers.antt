-- The block's records come to one block more, by what each call leaves: the rows are copied, and the marks behind the block are where it ends.
-- Its number is below 128, so its row and its marks are there. Assumes nothing.
use native.Mathlib.Omega.{arith}
use Rattle.liveness.proofs.Taking.{grown_on}
use borrow.Author.Rules.{rules}
use Rattle.liveness.proofs.survey.take_block.Goals as goal

pub block_records-end-requires : goal.block_records-end-requires
block_records-end-requires c =
    let p = c.requires in
    (p.0, (omega (arith, p.1.0), omega (arith, p.1.1), omega (arith, p.1.2)), p.2.1)

pub overflow_cast-findings : goal.overflow_cast-findings
overflow_cast-findings c =
    omega (arith, c.args.source.short, c.block_records-end.ensures.0.within.1, c.block_records-end.ensures.0.within.2, c.block_records-end.ensures.0.fits)

pub seek-next-requires : goal.seek-next-requires
seek-next-requires c = (c.args.source.short, c.block_records-end.ensures.0.within.0)

pub returns : goal.returns
returns c =
    let p = c.requires in
    let u = c.block_records-end.ensures in
    grown_on _ _ _ _ _ _ _ _ p.1 p.2 p.3 c.args.source.short (search rules) (search rules) (search rules) (search rules) (search rules) (search rules) (search rules) p.4 _ _ _ _ _ _ _ _ u.0 u.1 (search rules) (search rules) c.copy_row.ensures c.copy_row-2.ensures c.u16_at.ensures c.seek-next.ensures.0 c.seek-next.ensures.1
