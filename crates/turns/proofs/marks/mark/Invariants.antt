-- `mark` follows the links of a key: what the rows tell, together with the storages that the links still lead to, is what all come to.
-- Each link leads down.
use mathlib.Core.List.{List}
use Prim.Native.Nat.{ℕ, ◌≤◌}
use Rattle.turns.specs.Held.{KinLinked}
use Rattle.turns.proofs.Marking.{Left}
use Rattle.turns.proofs.marks.mark.Given as goal

abbrev pub invariant-loop-next : goal.invariant-loop-next
invariant-loop-next l = record {
  within : l.next ≤ l.ledger.count;
  left : (keys : List ℕ) → KinLinked keys l.ledger.kin l.ledger.count
      → Left l.relations.graph.now l.relations.copies.now l.id l.key l.ledger.ids keys l.ledger.numbers l.ledger.count l.next l.marks.seen l.marks.barred l.marks.partners;
}

abbrev pub decreases-loop-next : goal.decreases-loop-next
decreases-loop-next l = l.next
