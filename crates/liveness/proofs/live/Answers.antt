-- A short buffer is refused untouched; else the needed words are lent on, and what lies past them stays.
-- Assumes nothing.
use lib.Seq.{length-take-le}
use Rattle.liveness.proofs.Answering.{lives_short_units, lives_short_live, lives_all}
use borrow.Author.Rules.{rules}
use Rattle.liveness.proofs.live.Goals as goal
use Rattle.liveness.proofs.live.Goals.{then-units-lt512-via-then-units-lt512, then-units-lt512-via-else-units-lt512+then-live-lt2048}

pub returns-then-units-lt512 : goal.returns-then-units-lt512
returns-then-units-lt512 c =
    elim c.then-units-lt512.branch [
      | then-units-lt512-via-then-units-lt512 w ↦ lives_short_units _ _ _ _ w.if-units-lt512.true
      | then-units-lt512-via-else-units-lt512+then-live-lt2048 w ↦ lives_short_live _ _ _ _ w.if-units-lt512.false w.if-live-lt2048.true
    ]

pub slice_bounds-live_in-end-2 : goal.slice_bounds-live_in-end-2
slice_bounds-live_in-end-2 c = search (rules, length-take-le)

pub slice_bounds-live_in-end-4 : goal.slice_bounds-live_in-end-4
slice_bounds-live_in-end-4 c = search (rules, length-take-le)

pub live_in-requires : goal.live_in-requires
live_in-requires c = (length-take-le 512 c.args.units.now (search rules), length-take-le 2048 c.args.live.now (search rules))

pub returns : goal.returns
returns c = lives_all _ _ _ _ _ _ _ c.if-units-lt512.false c.if-live-lt2048.false c.live_in.ensures
