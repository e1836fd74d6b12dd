-- The number of `place_file` holds its three counts whole, since an accepted file has at most 256 storages, as many slots, and 8,320 passes: each
-- remainder leaves its count as it is. Assumes nothing.
use Rattle.std.specs.Prelude.{Ok}
use mathlib.Core.Path.{◌≡◌}
use mathlib.Core.List.{List}
use Prim.Native.Nat.{ℕ, ◌+◌, ◌*◌, ◌<◌}
use native.Mathlib.Nat.{mod-eq_of_lt}
use native.Mathlib.Omega.{arith}
use lib.ListN.{length}
use Rattle.fields.specs.Edition.{one}
use Rattle.records.specs.Check.{units, check}
use Rattle.records.specs.Program.{program}
use Rattle.graph.specs.Graph.{passes}
use Rattle.places.specs.Place.{State, done}
use Rattle.allocator.specs.Placing.{placing}
use Rattle.allocator.proofs.Counts.{passes_most, placed_most, slots_most}
use Rattle.entry.specs.Answer.{placed_of}

packs : (a b c : ℕ) → a < 512 → b < 512 → c < 16384 → placed_of (Ok (record { placed = a; slots = b; passes = c })) ≡ c * 262144 + b * 512 + a
packs a b c l m n = rw (mod-eq_of_lt l, mod-eq_of_lt m, mod-eq_of_lt n)

pub counts_whole : (f us : List ℕ) → check one f ≡ units us → (x : State) → placing one (program one f) ≡ done x
    → placed_of (Ok (record { placed = length x.placed; slots = length x.slots; passes = passes one (program one f) }))
    ≡ passes one (program one f) * 262144 + length x.slots * 512 + length x.placed
counts_whole f us taken x places =
    packs _ _ _ (omega (arith, placed_most f us taken x places)) (omega (arith, slots_most f us taken x places)) (omega (arith, passes_most f us taken))
