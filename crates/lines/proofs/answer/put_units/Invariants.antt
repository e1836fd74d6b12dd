-- The lines of the units passed stand behind the first one, and each takes at most 75 bytes.
use Rattle.std.proofs.Common.{◌≡◌, ◌+◌, ◌*◌, ◌≤◌, ◌++◌, min, take}
use Rattle.arrayvec.specs.ArrayVec.{array_vec_len}
use Rattle.lines.specs.Text.{head_text, unit_lines}
use Rattle.lines.proofs.answer.put_units.Given as goal

abbrev pub invariant-loop-number : goal.invariant-loop-number
invariant-loop-number g l = record {
  first : l.unit-items ≡ take (min l.count 512) l.units;
  ends : array_vec_len l.page ≤ array_vec_len l.fn.page + (27 + 75 * l.number);
  text : l.page.items ≡ l.fn.page.items ++ (head_text l.count ++ unit_lines l.number l.units);
}
