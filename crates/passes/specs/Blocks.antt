-- What Passes says of four lists and a number of blocks, said of the blocks that they are.
use Rattle.std.specs.Prelude.{Bool, List, ℕ}
use Rattle.passes.specs.Passes as P
use Rattle.passes.specs.declared.blocks.Blocks.{Blocks}

abbrev pub targets_in : Blocks → ℕ → List ℕ
targets_in b k = P.targets_of b.targets.now b.starts.now k

abbrev pub visited_in : Blocks → ℕ → List ℕ → List ℕ
visited_in b k live = P.visited b.gens.now b.kills.now b.targets.now b.starts.now b.count k live

abbrev pub TrackedIn : Blocks → Bool → List ℕ → List Bool → ℕ → Type 0
TrackedIn b first live moved k = P.Tracked b.gens.now b.kills.now b.targets.now b.starts.now b.count first live moved k

abbrev pub PassedIn : Blocks → List ℕ → List ℕ → Bool → Type 0
PassedIn b before live changed = P.Passed b.gens.now b.kills.now b.targets.now b.starts.now b.count before live changed

abbrev pub SolvedIn : Blocks → ℕ → List ℕ → Type 0
SolvedIn b passes live = P.Solved b.gens.now b.kills.now b.targets.now b.starts.now b.count passes live
