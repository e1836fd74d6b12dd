-- The graph in its buffer: what the rows of meetings and the addressed storages come to. Document 01, "Liveness and interference". Row i of the graph
-- stands at 4 i. The laws of proofs/Closing.antt say that this is the graph of specs/Graph.antt.
use Rattle.std.specs.Prelude.{List, [], ◌∷◌, ◌++◌, ℕ, zero, suc, ◌*◌, ◌<◌, eqb, ltb}
use Rattle.rows.specs.Row.{member_at, with_at, row}
use Rattle.fields.specs.Pick.{pick, ◌and◌}
use Rattle.fields.specs.Record.{Storage}
use Rattle.storages.specs.File.{declared}
use Rattle.units.specs.Sets.{each}
use Rattle.meetings.specs.Members.{members}
use Rattle.meetings.specs.Meeting.{storage_at, storages_at}

-- Each pair both ways.
unfoldable pub linked : List (ℕ × ℕ) → List ℕ → List ℕ
linked [] graph = graph
linked (p ∷ ps) graph = linked ps (with_at (with_at graph (p.0 * 4) p.1) (p.1 * 4) p.0)

-- The pair of two storages; of one there is none.
unfoldable pub apart : ℕ → ℕ → List (ℕ × ℕ)
apart i j = pick (eqb i j) [] ((i, j) ∷ [])

-- Storage i with the storages of some units.
unfoldable pub apart_all : ℕ → List ℕ → List (ℕ × ℕ)
apart_all i is = each (apart i) is

-- Each storage with the storages of the units that it meets: n storages, from id i on.
unfoldable pub meet_pairs : List ℕ → List ℕ → ℕ → ℕ → List (ℕ × ℕ)
meet_pairs meets words i zero = []
meet_pairs meets words i (suc n) = apart_all i (storages_at words (members (row meets (i * 8) 8))) ++ meet_pairs meets words (suc i) n

-- The first n storages.
unfoldable pub closed : List ℕ → List ℕ → ℕ → List ℕ → List ℕ
closed meets words n graph = linked (meet_pairs meets words 0 n) graph

-- All units that are numbered are of storages below n.
pub record Above (words : List ℕ) (count n : ℕ) : Type 0 where
  pub below : (k : ℕ) → k < count → storage_at words k < n

-- An addressed storage with one more of its owner. An id past the last is left out; an accepted file has none.
unfoldable pub own_pair : ℕ → ℕ → Storage → List (ℕ × ℕ)
own_pair id owner t = pick (eqb t.owner owner and ltb t.id 256) (apart id t.id) []

unfoldable pub own_pairs : List ℕ → List Storage → Storage → List (ℕ × ℕ)
own_pairs addressed all s = pick (ltb s.id 256 and member_at addressed 0 s.id) (each (own_pair s.id s.owner) all) []

unfoldable pub hold_pairs : List ℕ → List Storage → List (ℕ × ℕ)
hold_pairs addressed all = each (own_pairs addressed all) all

unfoldable pub held_by : List ℕ → List ℕ → List ℕ → List ℕ
held_by file addressed graph = linked (hold_pairs addressed (declared file)) graph
