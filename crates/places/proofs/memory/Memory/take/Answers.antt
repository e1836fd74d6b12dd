-- The maps keep their lengths, and a byte that is clear after a room is taken was clear before.
-- So a floor with no clear byte below it is one afterwards.
use Rattle.places.proofs.Rooms.{reserve_solid}
use borrow.Author.Rules.{rules}
use Rattle.places.proofs.memory.Memory.take.Goals as goal

pub invariant_of-self : goal.invariant_of-self
invariant_of-self c = record {
  app_short = search rules;
  work_short = search rules;
  solid = reserve_solid _ _ _ _ _ c.take_room.ensures c.args.self.now.solid;
}
