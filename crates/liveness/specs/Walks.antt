-- What the survey's walk has read of a function, record by record: of a block that is partly read, of one that is wholly read, and of the blocks
-- so far. Contracts of the functions inside the survey cite it; no public contract does.
use Rattle.std.specs.Prelude.{◌≡◌, ◌⊎◌, Bool, true, false, List, [], ◌++◌, map, ℕ, ◌+◌, ◌*◌, ◌≤◌, ◌<◌, length, get_or, drop}
use Rattle.rows.specs.Row.{row}
use Rattle.fields.specs.Edition.{one}
use Rattle.fields.specs.Record.{length_of}
use Rattle.records.specs.Check.{units, check}
use Rattle.records.specs.Program.{Step, Block, Function, program}
use Rattle.units.specs.Rows.{unit_row}
use Rattle.units.specs.Along.{from, Stands, StandsAt, Ready, brought_by}
use Rattle.passes.specs.Passes.{width, part, targets_of}
use Rattle.liveness.specs.Flow.{Use, use_of, last_targets}
use Rattle.liveness.specs.Survey.{read_first, written, block_at, BeginAt, RowsAt}
use Rattle.units.specs.declared.cursor.Cursor.{Cursor}
use Rattle.liveness.specs.declared.survey.Steps.{Steps}
use Rattle.liveness.specs.declared.survey.Findings.{Findings}
use Rattle.liveness.specs.declared.survey.Walk.{Walk}

-- The first n entries stay.
abbrev pub Kept : ℕ → List ℕ → List ℕ → Type 0
Kept n old new = (i : ℕ) → i < n → get_or new i 0 ≡ get_or old i 0

-- The rows of the first n steps stay, of those steps whose rows are kept.
abbrev pub KeptRows : ℕ → List ℕ → List ℕ → Type 0
KeptRows n old new = (j : ℕ) → j < n → j < 64 → row new (j * width) width ≡ row old (j * width) width

-- A whole block record, and a whole function record, at a place.
abbrev pub BlockHere : List ℕ → ℕ → Type 0
BlockHere f at = (get_or f at 0 ≡ 4) × (at + 3 ≤ length f)

abbrev pub FunctionHere : List ℕ → ℕ → Type 0
FunctionHere f at = (get_or f at 0 ≡ 2) × (at + 2 ≤ length f)

-- Where a search stops: at a block or the end of the function's blocks; or at a function or after the last.
pub record Stopped (f : List ℕ) (blocks : Bool) (at : ℕ) : Type 0 where
  pub block : blocks ≡ true → (BlockHere f at → ⊥) → (from f at).blocks ≡ []
  pub function : blocks ≡ false → (FunctionHere f at → ⊥) → (from f at).functions ≡ []

-- Functions, and blocks where they are asked for, are the same from two places on.
pub record Sought (f : List ℕ) (blocks : Bool) (at to : ℕ) : Type 0 where
  pub block : blocks ≡ true → (from f to).blocks ≡ (from f at).blocks
  pub function : (from f to).functions ≡ (from f at).functions

-- By a record's kind: whether a search goes on over it.
pub record Stops (kind : ℕ) (blocks stop : Bool) : Type 0 where
  pub on : stop ≡ false → (kind < 9) × (kind ≡ 2 → ⊥) × (blocks ≡ true → (3 ≤ kind) × (kind ≡ 4 → ⊥))
  pub halt : stop ≡ true → (kind ≡ 2) ⊎ ((9 ≤ kind) ⊎ ((blocks ≡ true) × ((kind < 2) ⊎ (kind ≡ 4))))

-- How far it is to the next record, where a search goes on over the one that stands there.
pub record Paced (f : List ℕ) (blocks : Bool) (at len : ℕ) : Type 0 where
  pub some : 0 < len
  pub long : len ≡ length_of one (get_or f at 0)
  pub fits : at + len ≤ length f
  pub brings : 7 * brought_by (get_or f at 0) ≤ len
  pub sought : Sought f blocks at (at + len)

-- Whether a block record stands there, where b blocks are read.
pub record BlockNext (f : List ℕ) (at b : ℕ) (there : Bool) : Type 0 where
  pub yes : there ≡ true → (b < 128) × BlockHere f at
  pub no : there ≡ false → (128 ≤ b) ⊎ (BlockHere f at → ⊥)

-- The search has come from one place to another, with the unit numbers before each.
pub record Came (f : List ℕ) (blocks : Bool) (a n at k : ℕ) : Type 0 where
  pub sound : 7 * k ≤ at
  pub on : a ≤ at
  pub within : a ≤ length f → at ≤ length f
  pub sought : Sought f blocks a at
  pub stands : (us : List ℕ) → check one f ≡ units us → Stands f a n → Stands f at k

-- A record of a block stands there: a step, an operand or a target.
pub record Inner (f : List ℕ) (at kind : ℕ) : Type 0 where
  pub low : 5 ≤ kind
  pub high : kind ≤ 8
  pub is : get_or f at 0 ≡ kind
  pub fits : at + length_of one kind ≤ length f

-- No step and no target goes on there.
abbrev pub Outer : List ℕ → ℕ → Type 0
Outer f at = ((from f at).steps ≡ []) × ((from f at).targets ≡ [])

-- Two places with the same steps, targets, blocks and functions to come.
pub record Same (f : List ℕ) (at to : ℕ) : Type 0 where
  pub steps : (from f to).steps ≡ (from f at).steps
  pub targets : (from f to).targets ≡ (from f at).targets
  pub blocks : (from f to).blocks ≡ (from f at).blocks
  pub functions : (from f to).functions ≡ (from f at).functions

-- The walk's numbers fit before its place, whatever the file.
abbrev pub Within : Walk → Type 0
Within w = (7 * w.k ≤ w.at) × (4 * w.steps ≤ w.at) × (3 * w.targets ≤ w.at)

-- An accepted file and a function whose records begin at a cursor; every block of it has a step.
pub record Asked (f us found table : List ℕ) (fn : Function) (own : Cursor) : Type 0 where
  pub ready : Ready f us found table
  pub stands : StandsAt f own
  pub abis : fn.abis ≡ (from f own.at).abis
  pub full : (k : ℕ) → k < length fn.blocks → (block_at fn k).steps ≡ [] → ⊥

-- What a function's steps read and write.
abbrev pub uses_of : List ℕ → Function → List Step → List Use
uses_of f fn ss = map (use_of one (program one f) fn) ss

-- A block whose records begin at `start` is read up to the walk's place: `done` are the steps so far, their places and rows stand from entry s on, and
-- the targets of the last of them from entry t on.
pub record InBlock (f us : List ℕ) (fn : Function) (start s t : ℕ) (born dead : List ℕ) (notes : Steps) (w : Walk) : Type 0 where
  pub done : List Step
  pub splits : (from f start).steps ≡ done ++ (from f w.at).steps
  pub stands : Stands f w.at w.k
  pub many : w.steps ≡ s + length done
  pub begun : BeginAt f notes.places notes.counts s done
  pub rows : RowsAt f us fn notes.reads notes.writes s done
  pub reading : born ≡ unit_row one us (read_first (uses_of f fn done))
  pub writing : dead ≡ unit_row one us (written (uses_of f fn done))
  pub going : last_targets [] (from f start).steps ≡ last_targets (part notes.targets t w.targets ++ (from f w.at).targets) (from f w.at).steps
  pub blocks : (from f w.at).blocks ≡ (from f start).blocks
  pub functions : (from f w.at).functions ≡ (from f start).functions

-- The whole block is read.
pub record BlockRead (f us : List ℕ) (fn : Function) (start s t : ℕ) (born dead : List ℕ) (notes : Steps) (w : Walk) : Type 0 where
  pub stands : Stands f w.at w.k
  pub many : w.steps ≡ s + length (from f start).steps
  pub begun : BeginAt f notes.places notes.counts s (from f start).steps
  pub rows : RowsAt f us fn notes.reads notes.writes s (from f start).steps
  pub reading : born ≡ unit_row one us (read_first (uses_of f fn (from f start).steps))
  pub writing : dead ≡ unit_row one us (written (uses_of f fn (from f start).steps))
  pub going : part notes.targets t w.targets ≡ last_targets [] (from f start).steps
  pub blocks : (from f w.at).blocks ≡ (from f start).blocks
  pub functions : (from f w.at).functions ≡ (from f start).functions

-- The arrays keep their lengths.
abbrev pub Alike : Steps → Steps → Type 0
Alike old new = (length new.targets ≡ length old.targets) × (length new.places ≡ length old.places)

-- What one record of a block adds: the buffers and the walk before it, and after it.
pub record Taken (f found table : List ℕ) (own : Cursor) (first : ℕ) (born dead : List ℕ) (notes : Steps) (w : Walk) (born' dead' : List ℕ) (notes' : Steps) (r : Walk) : Type 0 where
  pub within : Within r
  pub on : w.at < r.at
  pub fits : r.at ≤ length f
  pub more_steps : w.steps ≤ r.steps
  pub more_targets : first ≤ r.targets
  pub alike : Alike notes notes'
  pub kept_targets : Kept first notes.targets notes'.targets
  pub kept_reads : KeptRows w.steps notes.reads notes'.reads
  pub kept_writes : KeptRows w.steps notes.writes notes'.writes
  pub kept_places : Kept w.steps notes.places notes'.places
  pub kept_counts : Kept w.steps notes.counts notes'.counts
  pub carries : (us : List ℕ) (fn : Function) (start s : ℕ) → Asked f us found table fn own → InBlock f us fn start s first born dead notes w
      → InBlock f us fn start s first born' dead' notes' r

-- What the records of a block add, from its first on.
pub record Walked (f found table : List ℕ) (own : Cursor) (born dead : List ℕ) (notes : Steps) (w : Walk) (born' dead' : List ℕ) (notes' : Steps) (r : Walk) : Type 0 where
  pub within : Within r
  pub on : w.at ≤ r.at
  pub fits : r.at ≤ length f
  pub more_steps : w.steps ≤ r.steps
  pub more_targets : w.targets ≤ r.targets
  pub alike : Alike notes notes'
  pub kept_targets : Kept w.targets notes.targets notes'.targets
  pub kept_reads : KeptRows w.steps notes.reads notes'.reads
  pub kept_writes : KeptRows w.steps notes.writes notes'.writes
  pub kept_places : Kept w.steps notes.places notes'.places
  pub kept_counts : Kept w.steps notes.counts notes'.counts
  pub carries : (us : List ℕ) (fn : Function) → Asked f us found table fn own → InBlock f us fn w.at w.steps w.targets born dead notes w
      → InBlock f us fn w.at w.steps w.targets born' dead' notes' r

-- What the buffers hold of block k; its targets are ids still.
pub record BlockDone (f us : List ℕ) (fn : Function) (findings : Findings) (ids : List ℕ) (k : ℕ) (b : Block) : Type 0 where
  pub reading : row findings.gens (k * width) width ≡ unit_row one us (read_first (uses_of f fn b.steps))
  pub writing : row findings.kills (k * width) width ≡ unit_row one us (written (uses_of f fn b.steps))
  pub going : targets_of findings.steps.targets findings.starts k ≡ last_targets [] b.steps
  pub steps : BeginAt f findings.steps.places findings.steps.counts (get_or findings.firsts k 0) b.steps
  pub rows : RowsAt f us fn findings.steps.reads findings.steps.writes (get_or findings.firsts k 0) b.steps
  pub ends : get_or findings.firsts (k + 1) 0 ≡ get_or findings.firsts k 0 + length b.steps
  pub id : get_or ids k 0 ≡ b.id

-- So many targets and steps are noted before block b, and no earlier block has more before it.
pub record Tallied (starts firsts : List ℕ) (b : ℕ) (w : Walk) : Type 0 where
  pub start : get_or starts b 0 ≡ w.targets
  pub first : get_or firsts b 0 ≡ w.steps
  pub starts_low : (j : ℕ) → j ≤ b → get_or starts j 0 ≤ w.targets
  pub firsts_low : (j : ℕ) → j ≤ b → get_or firsts j 0 ≤ w.steps

-- b blocks are read, and the walk stands before the others.
pub record Counted (f us : List ℕ) (fn : Function) (own : ℕ) (findings : Findings) (ids : List ℕ) (b : ℕ) (w : Walk) : Type 0 where
  pub few : b ≤ length fn.blocks
  pub left : drop b fn.blocks ≡ (from f w.at).blocks
  pub stands : Stands f w.at w.k
  pub functions : (from f w.at).functions ≡ (from f own).functions
  pub stop : (BlockHere f w.at → ⊥) → (from f w.at).blocks ≡ []
  pub done : (j : ℕ) → j < b → BlockDone f us fn findings ids j (block_at fn j)

-- The lengths of the arrays by which a block is found again.
abbrev pub Sized : Findings → Type 0
Sized findings =
    (length findings.gens ≡ 1024) × (length findings.kills ≡ 1024) × (length findings.starts ≡ 129) × (length findings.firsts ≡ 129)
    × (length findings.steps.targets ≡ 5462) × (length findings.steps.places ≡ 4097)

-- What one block adds: the buffers and the walk before it, and after it.
pub record Grown (f found table : List ℕ) (own : Cursor) (findings : Findings) (ids : List ℕ) (b : ℕ) (w : Walk)
    (findings' : Findings) (ids' : List ℕ) (r : Walk) : Type 0 where
  pub within : Within r
  pub on : w.at < r.at
  pub fits : r.at ≤ length f
  pub sized : Sized findings'
  pub tallied : Tallied findings'.starts findings'.firsts (b + 1) r
  pub counted : (us : List ℕ) (fn : Function) → Asked f us found table fn own → Counted f us fn own.at findings ids b w
      → Counted f us fn own.at findings' ids' (b + 1) r

-- The blocks so far, of a function whose records begin at a cursor.
pub record Growing (f found table : List ℕ) (own : Cursor) (findings : Findings) (ids : List ℕ) (b : ℕ) (w : Walk) : Type 0 where
  pub within : Within w
  pub targets_low : w.targets ≤ 5461
  pub steps_low : w.steps ≤ 4096
  pub few : b ≤ 128
  pub sized : Sized findings
  pub tallied : Tallied findings.starts findings.firsts b w
  pub counted : (us : List ℕ) (fn : Function) → Asked f us found table fn own → fn.blocks ≡ (from f own.at).blocks
      → Counted f us fn own.at findings ids b w

-- The cursor behind the record of a function, by the table of functions.
pub record Owned (table : List ℕ) (number : ℕ) (r : Cursor) : Type 0 where
  pub sound : 7 * r.k ≤ r.at
  pub far : 256 ≤ number → r.at ≡ 65535
  pub near : number < 256 → (r.at ≡ get_or table number 0) × (r.k ≡ get_or table (256 + number) 0)
