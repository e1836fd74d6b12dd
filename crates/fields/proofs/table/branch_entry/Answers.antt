-- The constant has the entries of all rows, a branch's behind those of the operations; what is no branch has none.
-- Assumes nothing.
use mathlib.Core.Path.{sym}
use native.Mathlib.Omega.{arith}
use Rattle.fields.specs.Pick.{pick, times}
use Rattle.fields.specs.Fields.{table, branch_fields, missing}
use Rattle.fields.specs.Table.{byte_of, row_word, entry_of}
use Rattle.fields.proofs.TableLaws.{behind, entries, entry_branch, branch_past}
use Rattle.fields.proofs.table.branch_entry.Goals as goal

pub returns-in-0-to-7 : goal.returns-in-0-to-7
unfolding pick times table branch_fields missing byte_of row_word entry_of behind entries
returns-in-0-to-7 c = entry_branch c.args.sub (omega arith)

pub returns-in_default : goal.returns-in_default
returns-in_default c = sym (branch_past c.args.sub (omega arith))
