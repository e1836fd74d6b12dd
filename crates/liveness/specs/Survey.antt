-- What the survey of a function leaves for the passes and for the graph: of each block a row of units read before they are written, one of units
-- written, its targets as block numbers, and where its steps begin. No public contract cites it.
use Rattle.std.specs.Prelude.{◌≡◌, List, [], ◌∷◌, ◌++◌, ℕ, ◌+◌, ◌*◌, ◌≤◌, ◌<◌, ltb, length, get_or, replicate}
use Rattle.rows.specs.Row.{row}
use Rattle.fields.specs.Pick.{pick}
use Rattle.fields.specs.Edition.{one}
use Rattle.records.specs.Program.{Step, Block, Function, program}
use Rattle.units.specs.Sets.{less}
use Rattle.units.specs.Rows.{unit_row}
use Rattle.units.specs.Along.{Stands, IsStep, step_from}
use Rattle.passes.specs.Passes.{width, targets_of, Given}
use Rattle.liveness.specs.Flow.{Use, use_of, flows}
use Rattle.liveness.specs.Settle.{flow_at}
use Rattle.liveness.specs.declared.survey.Findings.{Findings}

-- Nothing is found yet: all is 0.
pub record Blank (findings : Findings) : Type 0 where
  pub gens : findings.gens ≡ replicate 1024 0
  pub kills : findings.kills ≡ replicate 1024 0
  pub starts : findings.starts ≡ replicate 129 0
  pub firsts : findings.firsts ≡ replicate 129 0
  pub targets : findings.steps.targets ≡ replicate 5462 0
  pub places : findings.steps.places ≡ replicate 4097 0
  pub counts : findings.steps.counts ≡ replicate 4097 0
  pub reads : findings.steps.reads ≡ replicate 520 0
  pub writes : findings.steps.writes ≡ replicate 520 0

-- The units that some steps read before they write them; the units that they write.
unfoldable pub read_first : List Use → List ℕ
read_first [] = []
read_first (s ∷ ss) = s.reads ++ less (read_first ss) s.writes

unfoldable pub written : List Use → List ℕ
written [] = []
written (s ∷ ss) = s.writes ++ written ss

abbrev pub block_at : Function → ℕ → Block
block_at fn k = get_or fn.blocks k (record { id = 0; steps = [] })

-- Steps begin at the places from entry i on, one after another; `counts` has how many unit numbers come before each.
abbrev pub BeginAt : List ℕ → List ℕ → List ℕ → ℕ → List Step → Type 0
BeginAt f places counts i [] = Unit {0}
BeginAt f places counts i (s ∷ ss) =
    (Stands f (get_or places i 0) (get_or counts i 0) × IsStep f (get_or places i 0) × (step_from f (get_or places i 0) ≡ s) × (7 * get_or counts i 0 ≤ get_or places i 0) × (get_or places i 0 + 4 ≤ length f))
    × BeginAt f places counts (i + 1) ss

-- The rows of the first 64 steps of a function are kept, for each a row of units that it reads and one of those that it writes: step number i has
-- them at 8 i. The rows of every other step stand behind them, those of the last one that was asked.
unfoldable pub row_for : ℕ → ℕ
row_for i = pick (ltb i 64) (i * width) (64 * width)

abbrev pub RowsAt : List ℕ → List ℕ → Function → List ℕ → List ℕ → ℕ → List Step → Type 0
RowsAt f us fn reads writes i [] = Unit {0}
RowsAt f us fn reads writes i (s ∷ ss) =
    (i < 64 → (row reads (i * width) width ≡ unit_row one us (use_of one (program one f) fn s).reads) × (row writes (i * width) width ≡ unit_row one us (use_of one (program one f) fn s).writes))
    × RowsAt f us fn reads writes (i + 1) ss

pub record Surveyed (f us : List ℕ) (fn : Function) (findings : Findings) (count : ℕ) : Type 0 where
  pub given : Given findings.gens findings.kills findings.steps.targets findings.starts count
  pub blocks : count ≡ length fn.blocks
  pub reading : (k : ℕ) → k < count → row findings.gens (k * width) width ≡ unit_row one us (read_first (flow_at (flows one (program one f) fn) k).uses)
  pub writing : (k : ℕ) → k < count → row findings.kills (k * width) width ≡ unit_row one us (written (flow_at (flows one (program one f) fn) k).uses)
  pub going : (k : ℕ) → k < count → targets_of findings.steps.targets findings.starts k ≡ (flow_at (flows one (program one f) fn) k).targets
  pub steps : (k : ℕ) → k < count → BeginAt f findings.steps.places findings.steps.counts (get_or findings.firsts k 0) (block_at fn k).steps
  pub rows : (k : ℕ) → k < count → RowsAt f us fn findings.steps.reads findings.steps.writes (get_or findings.firsts k 0) (block_at fn k).steps
  pub ends : (k : ℕ) → k < count → get_or findings.firsts (k + 1) 0 ≡ get_or findings.firsts k 0 + length (block_at fn k).steps
  pub many : (k : ℕ) → k ≤ count → get_or findings.firsts k 0 ≤ length findings.steps.places
