-- The table's entry holds the row of the step below the count of its operands.
-- So its remainder is that row's word.
use Rattle.units.proofs.Using.{end_row_of, row_of_lem}
use Rattle.units.proofs.uses.fields_of.Goals as goal

pub returns-then-head : goal.returns-then-head
returns-then-head c = rw c.if-head.true (end_row_of _ _ _ c.end_entry_of.ensures)

pub returns : goal.returns
returns c = rw c.if-head.false (row_of_lem _ c.args.head.sub _ c.entry_of.ensures)
