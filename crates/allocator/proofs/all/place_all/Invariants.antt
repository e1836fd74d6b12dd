-- `place_all` meets its contract. The invariant: the storages still ahead, placed from the state that the words stand for, come to what all of them come to
-- from the start. Each turn takes one record; at the end none is ahead.
use Prim.Native.Nat.{◌-◌}
use lib.ListN.{length}
use Rattle.allocator.proofs.Going.{Going}
use Rattle.allocator.proofs.all.place_all.Given as goal

abbrev pub invariant-loop-s : goal.invariant-loop-s
invariant-loop-s l =
    Going l.file l.relations.graph.now l.relations.copies.now l.initial.memory.app.now l.initial.memory.work.now l.memory.app.now l.memory.work.now l.slots.list l.slots.count l.ledger.ids l.ledger.kin l.ledger.numbers l.ledger.records l.at l.ledger.count

abbrev pub decreases-loop-s : goal.decreases-loop-s
decreases-loop-s l = length l.file - l.at
