-- `take_own` meets its contract. What is chosen from the words is what the state's maps give, and it lies inside them; what is then noted stands for the
-- state that the storage's placing comes to.
use Rattle.std.specs.Prelude.{Ok}
use mathlib.Core.Path.{◌≡◌, sym, ap, ◌∙◌, subst}
use Prim.Native.Nat.{ℕ}
use native.Mathlib.Omega.{arith}
use lib.ListN.{length}
use borrow.Author.Rules.{rules}
use Rattle.std.proofs.lemmas.Result.{err_from_is_err_and}
use Rattle.fields.specs.Pick.{pick}
use Rattle.storages.specs.Storage.{tries}
use Rattle.places.specs.Legal.{Inside}
use Rattle.places.specs.Place.{take_room}
use Rattle.turns.proofs.Noting.{number_low, taken_turned}
use Rattle.turns.proofs.Turning.{chosen_inside, chosen_is}
use Rattle.turns.proofs.turn.take_own.Goals as goal

pub take-requires : goal.take-requires
take-requires c =
    subst (Inside _ _) (sym c.room_of.ensures) (chosen_inside c.args.s _ _ _ c.in_ok-p.p c.requires.own.1 c.choose.ensures c.in_ok-p.was)

pub note-requires : goal.note-requires
note-requires c = (c.requires.room, number_low _ _ _ (omega arith) c.number_for.ensures)

pub returns-in_err-p-clause-turned : goal.returns-in_err-p-clause-turned
returns-in_err-p-clause-turned c =
    let q = err_from_is_err_and c.from_residual.result c.from_residual.ensures.1 in
    λ g x lo hi h. rw (q.1, q.2) (ap (take_room c.args.s x) (chosen_is c.args.s _ _ g x _ _ h.app_is h.wrk_is (c.choose.ensures g lo hi) c.in_err-p.was))

pub returns-clause-turned : goal.returns-clause-turned
returns-clause-turned c =
    let l = c.args.ledger.now in
    let li : length l.ids ≡ 256 = search rules in
    let lk : length l.kin ≡ 512 = search rules in
    let ln : length l.numbers ≡ 256 = search rules in
    let n = c.note.ensures in
    λ g x lo hi h.
    taken_turned c.args.s x _ _ _ _ _ _ _ _ _ h li lk ln c.requires.room c.requires.own.0 _ _ _ _ _ c.in_ok-p.p
    n.ids n.kin n.numbers n.records _ _ _ c.args.slots.now.long (c.number_for.ensures ∙ ap (λ (n : ℕ). pick (tries c.args.s) n 256) c.len.ensures.0)
    c.room_of.ensures c.take.ensures.taken _ _
    (ap (take_room c.args.s x) (chosen_is c.args.s _ _ g x _ _ h.app_is h.wrk_is (c.choose.ensures g lo hi) c.in_ok-p.was)) (ap Ok c.opens.ensures)

pub returns-clause-kept : goal.returns-clause-kept
returns-clause-kept c = c.take.ensures.kept
