-- A refusal of the file leaves its cleared words beside cleared buffers; units are handed on to the walk, which asks for cleared rows.
-- What the walk leaves is what the one outcome names.
use Prim.Native.Nat.{ℕ, ◌<◌}
use native.Mathlib.Omega.{arith}
use lib.ListN.{get_or}
use Rattle.std.proofs.lemmas.Result.{err_from_is_err_and}
use Rattle.graph.proofs.Drawing.{blank_of, drawn_refused, counted_of, counted_sane, counted_short, counted_header, counted_most, drawn_done}
use borrow.Author.Rules.{rules}
use Rattle.graph.proofs.graph_in.Goals as goal

pub invariant_of-source : goal.invariant_of-source
invariant_of-source c =
    let bytes : (i : ℕ) → get_or c.args.file.now i 0 < 256 = λ i. omega (arith, c.type_inv.file i) in
    let h = c.number_units.ensures in
    let e = c.in_ok-n.was in
    record { short = counted_short _ _ _ _ _ h bytes _ e; enough = search rules; sane = counted_sane _ _ _ _ _ h bytes _ e }

pub graph_of-requires : goal.graph_of-requires
graph_of-requires c =
    let bytes : (i : ℕ) → get_or c.args.file.now i 0 < 256 = λ i. omega (arith, c.type_inv.file i) in
    let h = c.number_units.ensures in
    let e = c.in_ok-n.was in (
      counted_header _ _ _ _ _ h bytes _ e,
      search rules,
      counted_most _ _ _ _ _ h bytes _ e,
      blank_of 2048 _ _ c.requires.1 c.clear.ensures,
      blank_of 1024 _ _ c.requires.2 c.clear-2.ensures,
      blank_of 1024 _ _ c.requires.3 c.clear-3.ensures,
      counted_of _ _ _ _ _ h bytes _ e,
    )

pub returns-in_err-n : goal.returns-in_err-n
returns-in_err-n c =
    let p = err_from_is_err_and c.from_residual.result c.from_residual.ensures.1 in
    rw (p.1, p.2) (drawn_refused _ _ _ _ _ c.number_units.ensures _ _ _ _ c.in_err-n.was
    (blank_of 2048 _ _ c.requires.1 c.clear.ensures) (blank_of 1024 _ _ c.requires.2 c.clear-2.ensures) (blank_of 1024 _ _ c.requires.3 c.clear-3.ensures))

pub returns : goal.returns
returns c =
    let bytes : (i : ℕ) → get_or c.args.file.now i 0 < 256 = λ i. omega (arith, c.type_inv.file i) in
    drawn_done _ _ _ _ _ c.number_units.ensures bytes _ c.in_ok-n.was _ _ _ _ c.graph_of.ensures
