-- The lines of the storages passed stand on the page, and each takes at most 92 bytes.
use Rattle.std.proofs.Common.{◌≡◌, ◌+◌, ◌*◌, ◌≤◌, ◌++◌}
use Rattle.arrayvec.specs.ArrayVec.{array_vec_len}
use Rattle.lines.specs.Placed.{place_lines}
use Rattle.lines.proofs.placing.put_places.Given as goal

abbrev pub invariant-loop-i : goal.invariant-loop-i
invariant-loop-i g l = record {
  ends : array_vec_len l.page ≤ array_vec_len l.fn.page + 92 * l.i;
  text : l.page.items ≡ l.fn.page.items ++ place_lines l.setting l.i l.bytes;
}
