-- What is left to mark, onto the rows so far, comes to what the contract says; so does the number of operands met with that of those left.
-- The measure is what is left of the tail.
use mathlib.Core.Path.{◌≡◌, refl, ap, ◌∙◌}
use mathlib.Core.List.{[], ◌∷◌}
use native.Mathlib.Omega.{arith}
use lib.ListN.{length, get_or, drop}
use borrow.Author.Rules.{rules}
use Rattle.units.specs.Marks.{fields_in, read_in, written_in}
use Rattle.units.proofs.Filling.{fields_more, fields_short, fields_other, length_jotted, marks_on, marks_end}
use Rattle.units.proofs.uses.operand_rows.Goals as goal
use Rattle.units.proofs.uses.operand_rows.Goals.{in_default, in_default-2}

pub loop-rest-preserved : goal.loop-rest-preserved
loop-rest-preserved c =
    let l = c.loop-rest in
    let t = l.rest.now in
    let o = c.note_operand.ensures in
    let first : get_or t 0 0 ≡ 6 = search rules in
    let more : fields_in t ≡ get_or t 1 0 ∷ fields_in (drop 7 t) = fields_more t c.in-6.len_at_least first in
    let rest = c.tail_of-rest.ensures.0 in record {
      read_wide = ap length o.0 ∙ length_jotted _ _ _ ∙ l.invariant.read_wide;
      written_wide = ap length o.1 ∙ length_jotted _ _ _ ∙ l.invariant.written_wide;
      onward = omega arith;
      paced = omega (arith, l.invariant.paced, c.tail_of-rest.ensures.1);
      counted = rw rest (omega (arith, ap length more, l.invariant.counted));
      read = rw rest (marks_on (read_in c.fields_of-fields.result) c.args.source.numbers.now l.n _ _ _ _ _ _ _ more refl o.0 l.invariant.read);
      written = rw rest (marks_on (written_in c.fields_of-fields.result c.args.head.ends) c.args.source.numbers.now l.n _ _ _ _ _ _ _ more refl o.1 l.invariant.written);
    }

pub returns : goal.returns
returns c =
    let l = c.loop-rest in
    let t = l.rest.now in
    let none : fields_in t ≡ [] = elim c.if-rest-lt7.branch [
      | in_default w ↦ fields_short t w.in_default.len_below
      | in_default-2 w ↦ fields_other t (search rules)
    ] in
    let word = c.fields_of-fields.ensures in record {
      count = omega (arith, ap length none, l.invariant.counted);
      fits = omega (arith, l.invariant.paced, l.invariant.counted, ap length none);
      reads = marks_end _ _ _ _ _ _ none (rw word at l.invariant.read);
      writes = marks_end _ _ _ _ _ _ none (rw word at l.invariant.written);
    }
