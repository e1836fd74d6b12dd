-- `report::page::write_out` ends with its turns, and the writer grew by what stands in front of `done` in the text.
use Rattle.std.proofs.Common.{◌≤◌, length, take}
use Rattle.std.specs.Io.KnownBytes.{Appends}
use Rattle.report.proofs.page.write_out.Given as goal

abbrev pub invariant-writes : goal.invariant-writes
invariant-writes g l = record {
  within : l.done ≤ length l.text;
  written : Appends (g.W.Write.contents l.fn.out) (g.W.Write.contents l.out) (take l.done l.text);
}
