-- What is left to mark, onto the row so far, comes to what the contract says.
-- The measure is what is left of the tail.
use mathlib.Core.Path.{◌≡◌, ap, ◌∙◌}
use native.Mathlib.Omega.{arith}
use lib.ListN.{length, get_or}
use borrow.Author.Rules.{rules}
use Rattle.units.specs.Marks.{wanted_by}
use Rattle.units.proofs.Filling.{roles_more, roles_short, roles_other, length_jotted, marks_on, marks_end}
use Rattle.units.proofs.uses.abi_row.Goals as goal

pub loop-rest-preserved : goal.loop-rest-preserved
loop-rest-preserved c =
    let l = c.loop-rest in
    let t = l.rest.now in
    let first : get_or t 0 0 ≡ 3 = search rules in record {
      wide = ap length c.note.ensures ∙ length_jotted _ _ _ ∙ l.invariant.wide;
      behind = omega arith;
      marked = rw c.tail_of-rest.ensures.0
          (marks_on (wanted_by c.args.which) c.args.source.numbers.now l.n _ _ _ _ _ _ _ (roles_more t c.in-3.len_at_least first) c.want.ensures c.note.ensures l.invariant.marked);
    }

pub returns-in_default : goal.returns-in_default
returns-in_default c = marks_end _ _ _ _ _ _ (roles_short _ c.in_default.len_below) c.loop-rest.invariant.marked

pub returns-in_default-2 : goal.returns-in_default-2
returns-in_default-2 c = marks_end _ _ _ _ _ _ (roles_other _ (search rules)) c.loop-rest.invariant.marked
