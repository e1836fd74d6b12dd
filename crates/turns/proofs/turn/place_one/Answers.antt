-- `place_one` meets its contract. The slot that is found is that of the step, and the storage joins it; where none is found the step finds none, and what
-- the storage takes of its own is the step's answer.
use mathlib.Core.Path.{◌≡◌}
use native.Mathlib.Omega.{arith}
use lib.ListN.{length}
use borrow.Author.Rules.{rules}
use Rattle.places.specs.Place.{join_slot}
use Rattle.turns.proofs.Noting.{joined_held}
use Rattle.turns.proofs.Turning.{joins, joins_key, stands_alone}
use Rattle.turns.proofs.turn.place_one.Goals as goal

pub slot_for-requires : goal.slot_for-requires
slot_for-requires c =
    let k = c.requires.held.1.kept in
    record { own = c.requires.own.0; few = omega arith; low = k.low; linked = (_, k.linked) }

pub returns-in-Some-clause-turned : goal.returns-in-Some-clause-turned
returns-in-Some-clause-turned c =
    let l = c.args.ledger.now in
    let li : length l.ids ≡ 256 = search rules in
    let lk : length l.kin ≡ 512 = search rules in
    let ln : length l.numbers ≡ 256 = search rules in
    let n = c.note.ensures in
    λ g x t lo hi h.
    let found = c.in-Some.ensures.joined g x t h.kept in (
      join_slot c.args.s x c.in-Some.k,
      joins g c.args.s x _ found,
      joined_held c.args.s x _ _ _ _ _ _ _ _ _ h li lk ln c.requires.room c.requires.own.0 _ _ _ _ _ _
          n.ids n.kin n.numbers n.records c.in-Some.ensures.below (joins_key g c.args.s x _ found) c.placement.ensures,
    )

pub returns-clause-turned : goal.returns-clause-turned
returns-clause-turned c =
    λ g x t lo hi h. rw (stands_alone g c.args.s x (c.in_default.ensures.joined g x t h.kept)) (c.take_own.ensures.turned g x lo hi h)
