-- What the buffers hold once some steps are noted, in units and storages. A walk over a program keeps these, one step at a time: proofs/Meeting.antt.
use Rattle.std.specs.Prelude.{◌≡◌, Bool, true, not, ◌&&◌, ℕ, ◌*◌, ◌≤◌, ◌<◌, ltb, length, get_or, replicate}
use mathlib.Core.List.{List, [], ◌∷◌, ◌++◌, Memᴰ}
use Rattle.rows.specs.Row.{Words, member_at}
use Rattle.fields.specs.Pick.{has}
use Rattle.fields.specs.Edition.{Edition, one}
use Rattle.records.specs.Outcome.{laid}
use Rattle.records.specs.Program.{Program}
use Rattle.units.specs.Sets.{any, each}
use Rattle.units.specs.Uses.{is_instruction}
use Rattle.liveness.specs.Flow.{Use, Flow, flows}
use Rattle.liveness.specs.Settle.{before, settled_by}
use Rattle.graph.specs.Graph.{has_pair, in_storage, spared, copies_at}
use Rattle.meetings.specs.Meeting.{unit_rows}

-- A step with what is live after it; those of some steps, of which `out` is live at the end; of blocks, given with their live-outs; of a function; of a program.
abbrev pub Stop : Type 0
Stop = Use × List ℕ

unfoldable pub stops_in : List Use → List ℕ → List Stop
stops_in [] out = []
stops_in (s ∷ ss) out = (s, before ss out) ∷ stops_in ss out

unfoldable pub stops_from : List Flow → List (List ℕ) → List Stop
stops_from [] outs = []
stops_from (b ∷ bs) [] = []
stops_from (b ∷ bs) (o ∷ os) = stops_in b.uses o ++ stops_from bs os

unfoldable pub stops_of : List Flow → List Stop
stops_of fs = stops_from fs (settled_by fs).sets.outs

unfoldable pub stops : Edition → Program → List Stop
stops e p = each (λ f. stops_of (flows e p f)) p.functions

-- The units of a file, and their words in a buffer of 512.
pub record Numbered (us words : List ℕ) : Type 0 where
  pub few : length us ≤ 512
  pub words_are : words ≡ laid 512 us []

-- Every word of a set is a unit of the file.
abbrev pub Within : List ℕ → List ℕ → Type 0
Within us set = (u : ℕ) → has u set ≡ true → has u us ≡ true

-- The rows of the units of each storage.
abbrev pub UnitRows : List ℕ → List ℕ → List ℕ → Type 0
UnitRows us words units = units ≡ unit_rows words (length us) (replicate 2048 0)

-- A step wants unit number n: it reads the unit or the unit is live after it, and it does not spare it.
unfoldable pub wants : List ℕ → Use → List ℕ → ℕ → Bool
wants us s live n = ltb n (length us) && (has (get_or us n 0) (s.reads ++ live) && not (spared one s (get_or us n 0)))

-- Row i of the meetings holds the units that are wanted where one of these steps writes a unit of storage i.
pub record Gathered (us : List ℕ) (ps : List Stop) (meets : List ℕ) : Type 0 where
  pub len : length meets ≡ 2048
  pub known : (p : Stop) → Memᴰ p ps → Within us (p.0.reads ++ p.1)
  pub written : (p : Stop) → Memᴰ p ps → Within us p.0.writes
  pub holds : (i n : ℕ) → n < 512 → member_at meets (i * 8) n ≡ any (λ (p : Stop). in_storage one p.0.writes i && wants us p.0 p.1 n) ps

-- The pairs of the copies among these steps.
pub record Paired (ss : List Use) (copies : List ℕ) : Type 0 where
  pub len : length copies ≡ 1024
  pub words : Words copies
  pub holds : (i j : ℕ) → j < 256 → member_at copies (i * 4) j ≡ any (λ (s : Use). has_pair (copies_at one s) i j) ss

-- The storages whose address one of these steps takes.
pub record Addressed (ss : List Use) (row : List ℕ) : Type 0 where
  pub len : length row ≡ 4
  pub holds : (i : ℕ) → i < 256 → member_at row 0 i ≡ any (λ (s : Use). is_instruction 16 s.step && in_storage one s.reads i) ss
