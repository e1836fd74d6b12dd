-- The constant has the entries of all rows, an operation's at its number; what is no operation has none.
-- Assumes nothing.
use mathlib.Core.Path.{sym}
use native.Mathlib.Omega.{arith}
use Rattle.fields.specs.Pick.{pick, times}
use Rattle.fields.specs.Fields.{table, branch_fields, missing}
use Rattle.fields.specs.Table.{byte_of, row_word, entry_of}
use Rattle.fields.proofs.TableLaws.{behind, entries, entry_op, entry_past}
use Rattle.fields.proofs.table.entry_of.Goals as goal

pub returns-in-0-to-29 : goal.returns-in-0-to-29
unfolding pick times table branch_fields missing byte_of row_word entry_of behind entries
returns-in-0-to-29 c = entry_op c.args.op (omega arith)

pub returns-in_default : goal.returns-in_default
returns-in_default c = sym (entry_past c.args.op (omega arith))
