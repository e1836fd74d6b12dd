-- The first member ahead is given, and those behind it are left; where there is none, none is left.
-- Fewer are left than were.
use native.Mathlib.Omega.{arith}
use borrow.Author.Rules.{rules}
use mathlib.Core.Path.{ap, ◌∙◌}
use lib.ListN.{length}
use Prim.Native.Nat.{ℕ}
use Rattle.meetings.proofs.Firsts.{first_ahead, first_cons, ahead_end}
use Rattle.meetings.proofs.members.MembersIterator.next.Goals as goal

pub returns-then-member-eq512-clause-steps : goal.returns-then-member-eq512-clause-steps
returns-then-member-eq512-clause-steps c =
    let r = c.args.self.now.row.now in
    (first_ahead c.next_member-member.ensures ∙ ahead_end r c.next_member-member.result (omega (arith, c.args.self.now.eight)), ahead_end r 512 (omega (arith, c.args.self.now.eight)))

pub returns-clause-steps : goal.returns-clause-steps
returns-clause-steps c =
    let f = c.next_member-member.ensures in
    first_ahead f ∙ first_cons f (omega (arith, f.high, c.args.self.now.eight))

pub returns-clause-goes : goal.returns-clause-goes
returns-clause-goes c =
    let f = c.next_member-member.ensures in
    let e = first_ahead f ∙ first_cons f (omega (arith, f.high, c.args.self.now.eight)) in
    record { on = λ _. (search rules, search rules, omega (arith, ap (length {A = ℕ}) e)); keeps = search rules; rests = search rules }
