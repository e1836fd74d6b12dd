-- `report::page::write_out` ends with its turns, and the writer grew by what stands in front of `done` in the text.
-- A write that took n bytes took them from `done` on, so they stand behind that front.
use Rattle.std.proofs.Common.{◌≡◌, ◌-◌, ◌≤◌, arith, length, take, drop, take-add, subst}
use Rattle.std.proofs.lemmas.List.{take-take, length-take}
use Rattle.std.specs.Io.KnownBytes.{Appends}
use Rattle.std.proofs.KnownBytes.{Appends-kept, Appends-trans}
use Rattle.report.proofs.page.write_out.Goals as goal
use Rattle.report.proofs.page.write_out.Goals.{in-Ok, in-Err+else-ne}

pub writes-preserved : goal.writes-preserved
writes-preserved g c =
    let inv = c.writes.invariant in
    let text = c.args.text.now in
    let done = c.writes.done in
    let left = length text - done in
    elim c.match-write.branch [
      | in-Ok w ↦
          let n = w.in-Ok.n in
          let fits : n ≤ left = omega (arith, w.in-Ok.ensures.bound, length-take left (drop done text)) in
          let same : take n (take left (drop done text)) ≡ take n (drop done text) = take-take n left (drop done text) fits in
          let both = Appends-trans _ _ _ _ _ inv.written (subst (Appends _ _) same w.in-Ok.ensures.bytes) in
          rw (w.done-is, take-add done n text) record { within = omega (arith, fits); written = both }
      | in-Err+else-ne w ↦ rw w.done-is record { within = inv.within; written = Appends-kept _ _ _ _ inv.written w.in-Err.ensures.bytes }
    ]
