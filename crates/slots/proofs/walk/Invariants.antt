-- `slots::walk` goes through the words of the rows in order: of the slots of those before word w none passes.
use Rattle.std.proofs.Common.{◌*◌}
use Rattle.slots.proofs.Walking.{Missed}
use Rattle.slots.proofs.walk.Given as goal

abbrev pub invariant-loop-w : goal.invariant-loop-w
invariant-loop-w l = Missed l.s l.free l.chosen l.slots l.base (l.w * 64)
