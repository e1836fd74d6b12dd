-- A field has at most 16 operands, so one more fits a byte.
-- The numbers of its callees are those of the list with one field more (`given_of`), as the check finds.
use native.Mathlib.Omega.{arith}
use Rattle.records.proofs.Pendings.{seen_most_lem}
use Rattle.records.proofs.pending.with_given.Goals as goal

pub overflow_add-result : goal.overflow_add-result
overflow_add-result c = omega (arith, seen_most_lem _ _ _ 16 c.seen_in-n.ensures c.requires.0)

pub lacks_after-requires : goal.lacks_after-requires
lacks_after-requires c = (c.requires.1, seen_most_lem _ _ _ 16 c.seen_in-n.ensures c.requires.0)
