-- Each call fills its part of the rows, and the laws of `Using` say what they come to in an accepted file.
-- The cursor behind the operands is the step's own, on by as many operands as the walk over them met.
use mathlib.Core.Path.{◌≡◌, ap, ◌∙◌}
use mathlib.Core.List.{List}
use Prim.Native.Nat.{ℕ, ◌+◌, ◌<◌}
use native.Mathlib.Omega.{arith}
use lib.ListN.{length, drop}
use lib.Seq.{drop-drop}
use Rattle.units.specs.Marks.{fields_in}
use Rattle.units.proofs.Filling.{fields_count}
use Rattle.units.proofs.Using.{behind_operands, reads_law, writes_law}
use Rattle.units.proofs.numbered.Numbered.uses_at.Goals as goal

pub returns : goal.returns
returns c =
    let f = c.args.self.file.now in
    let site = c.args.site in
    let t = c.tail_of-tail.ensures in
    let q = c.tail_of-operands.ensures in
    let h = c.head_of-head.ensures in
    let s = c.args.self.short in
    let a = c.abi_rows.ensures in
    let o = c.operand_rows-count.ensures in
    let operands : c.tail_of-operands.result.now ≡ drop (site.here.at + 4) f = q.0 ∙ ap (drop 4) t.0 ∙ drop-drop 4 site.here.at f in
    let count = o.count ∙ ap (λ (l : List ℕ). length (fields_in l)) operands in
    let low : c.head_of-head.result.callee < 256 = omega (arith, c.head_of-head.type_inv) in record {
      sound = (omega (arith, c.requires.site.1), omega arith, omega (arith, o.fits, q.1, t.1));
      behind = omega (arith, count, fields_count (drop (site.here.at + 4) f));
      uses = λ us fn ready owns same here is. (
        reads_law f _ site.here.at t.0 _ h.ends h.op h.sub h.callee _ _ site.here.k site.own s c.requires.site.2 low us fn ready owns same here is _ _ _ _ c.requires.rows.0 c.clear.ensures a.reads (rw operands at o.reads),
        writes_law f _ site.here.at t.0 _ h.ends h.op h.sub h.callee _ _ site.here.k site.own s c.requires.site.2 low us fn ready owns same here is _ _ _ _ c.requires.rows.1 c.clear-2.ensures a.writes (rw operands at o.writes),
        behind_operands f _ site.here.at t.0 _ h.ends h.op h.sub h.callee _ _ site.here.k site.own s c.requires.site.2 low us fn ready owns same here is _ count,
      );
    }
