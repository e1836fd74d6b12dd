-- The pairs of the code are the two lists of the definition side by side, and the tests are its tests, in its order.
-- Assumes nothing.
use mathlib.Core.Path.{◌≡◌}
use Prim.Native.Nat.{ℕ, ◌<◌, ◌≤◌}
use native.Mathlib.Omega.{arith}
use lib.ListN.{get_or}
use Rattle.std.specs.List.{zip}
use Rattle.std.proofs.lemmas.Slice.Zip.{get_or-zip}
use Rattle.fields.specs.Pick.{tests}
use Rattle.fields.specs.Record.{fixed_fits, greatest_a, greatest_b}
use Rattle.fields.proofs.ranges.fixed_fits.Goals as goal

pair_at : (code : ℕ) → code < 13 → get_or (zip greatest_a greatest_b) code (0, 0) ≡ (get_or greatest_a code 0, get_or greatest_b code 0)
unfolding greatest_a greatest_b
pair_at code l = get_or-zip greatest_a greatest_b code (0, 0) l l

pub returns-then-a-greatest_a : goal.returns-then-a-greatest_a
unfolding fixed_fits greatest_a greatest_b
returns-then-a-greatest_a c =
    let e = pair_at c.args.code (omega arith) in
    let l = rw e at c.if-a-greatest_a.true in
    rw e (search tests)

pub returns-else-a-greatest_a : goal.returns-else-a-greatest_a
unfolding fixed_fits greatest_a greatest_b
returns-else-a-greatest_a c =
    let e = pair_at c.args.code (omega arith) in
    let l = rw e at c.if-a-greatest_a.false in
    rw e (search tests)

pub returns-in_default : goal.returns-in_default
unfolding fixed_fits
returns-in_default c = let l : 13 ≤ c.args.code = omega arith in search tests
