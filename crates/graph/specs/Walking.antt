-- What the walk over a program's steps leaves in the buffers: after a step, after the steps of a block from the last to the first, after the blocks of a
-- function. Contracts of the functions inside the walk cite it; no public contract does.
use Rattle.std.specs.Prelude.{◌≡◌, Bool, true, false, ℕ, ◌+◌, ◌*◌, ◌≤◌, ◌<◌, eqb, length, get_or, take}
use mathlib.Core.List.{List, [], ◌∷◌, ◌++◌, map, Memᴰ}
use Rattle.rows.specs.Row.{row}
use Rattle.fields.specs.Pick.{pick}
use Rattle.fields.specs.Edition.{one}
use Rattle.records.specs.Outcome.{laid}
use Rattle.records.specs.Program.{Step, Function, program}
use Rattle.units.specs.Sets.{less, each}
use Rattle.units.specs.Rows.{unit_row}
use Rattle.units.specs.Along.{from, step_from, IsStep, StandsAt, Sound, Ready}
use Rattle.units.specs.declared.cursor.Cursor.{Cursor}
use Rattle.units.specs.declared.locate.Site.{Site}
use Rattle.passes.specs.Passes.{blank, Held}
use Rattle.liveness.specs.Sets.{join}
use Rattle.liveness.specs.Flow.{Use, use_of, flows}
use Rattle.liveness.specs.Settle.{before, settled_by, liveness}
use Rattle.liveness.specs.Lives.{live_words}
use Rattle.liveness.specs.Walks.{FunctionHere}
use Rattle.liveness.specs.Survey.{block_at, BeginAt, RowsAt}
use Rattle.liveness.specs.declared.survey.Steps.{Steps}
use Rattle.liveness.specs.declared.survey.Findings.{Findings}
use Rattle.graph.specs.declared.basis.Basis.{Basis}
use Rattle.graph.specs.declared.sketch.Sketch.{Sketch}
use Rattle.graph.specs.Graph.{sum, interferes, copied, passes as passes_of}
use Rattle.graph.specs.Graphs.{relation_rows, last_live}
use Rattle.graph.specs.Gathered.{Stop, stops_in, stops_from, stops_of, stops, Numbered, Within, UnitRows, Gathered, Paired, Addressed}

-- The operation of an instruction; 255, which is none, for a terminator.
unfoldable pub operation_at : List ℕ → ℕ → ℕ
operation_at f at = pick (eqb (get_or f at 0) 5) (get_or f (at + 1) 0) 255

-- What is live before a step, of what is live after it.
abbrev pub across : Use → List ℕ → List ℕ
across s out = join s.reads (less out s.writes)

-- The steps of some stops.
abbrev pub uses_at : List Stop → List Use
uses_at ps = map (λ (p : Stop). p.0) ps

-- What the sketch holds once these steps are noted.
pub record Noted (us : List ℕ) (ps : List Stop) (sketch : Sketch) : Type 0 where
  pub gathered : Gathered us ps sketch.meets
  pub paired : Paired (uses_at ps) sketch.copies
  pub taken : Addressed (uses_at ps) sketch.addressed

-- The file that steps are noted of.
abbrev pub file : Basis → List ℕ
file basis = basis.source.file.now

-- An accepted file, a function whose records begin at a cursor, the unit words and the rows of each storage's units.
pub record Told (basis : Basis) (us : List ℕ) (fn : Function) (own : Cursor) : Type 0 where
  pub ready : Ready (file basis) us basis.source.numbers.now basis.source.table.now
  pub stands : StandsAt (file basis) own
  pub abis : fn.abis ≡ (from (file basis) own.at).abis
  pub numbered : Numbered us basis.words.now
  pub rows : UnitRows us basis.words.now basis.units.now

abbrev pub use_at : List ℕ → Function → Step → Use
use_at f fn s = use_of one (program one f) fn s

-- What a step reads and writes are units of the file.
abbrev pub Fits : List ℕ → Use → Type 0
Fits us s = Within us s.reads × Within us s.writes

-- Step number i is noted, and the live row goes over it.
pub record StepTaken (basis : Basis) (site : Site) (i : ℕ) (steps : Steps) (live : List ℕ) (sketch : Sketch) (live' : List ℕ) (sketch' : Sketch) : Type 0 where
  pub noted : (us : List ℕ) (fn : Function) (out : List ℕ) (ps : List Stop) → Told basis us fn site.own → StandsAt (file basis) site.here → IsStep (file basis) site.here.at
      → RowsAt (file basis) us fn steps.reads steps.writes i (step_from (file basis) site.here.at ∷ []) → Fits us (use_at (file basis) fn (step_from (file basis) site.here.at)) → Within us out
      → live ≡ unit_row one us out → Noted us ps sketch
      → Noted us ((use_at (file basis) fn (step_from (file basis) site.here.at), out) ∷ ps) sketch'
      × (live' ≡ unit_row one us (across (use_at (file basis) fn (step_from (file basis) site.here.at)) out))

-- The steps whose places stand from entry i up to entry `last` are noted, the last first.
pub record BlockTaken (basis : Basis) (own : Cursor) (steps : Steps) (last i : ℕ) (live : List ℕ) (sketch : Sketch) (live' : List ℕ) (sketch' : Sketch) : Type 0 where
  pub upto : i ≤ last
  pub noted : (us : List ℕ) (fn : Function) (ss : List Step) (out : List ℕ) (ps : List Stop) → Told basis us fn own
      → BeginAt (file basis) steps.places steps.counts i ss → RowsAt (file basis) us fn steps.reads steps.writes i ss → last ≡ i + length ss
      → ((s : Step) → Memᴰ s ss → Fits us (use_at (file basis) fn s)) → Within us out → live ≡ unit_row one us out → Noted us ps sketch
      → Noted us (stops_in (map (use_at (file basis) fn) ss) out ++ ps) sketch' × (live' ≡ unit_row one us (before (map (use_at (file basis) fn) ss) out))

-- The entries from one up to another are steps that lie in the file.
abbrev pub Safe : List ℕ → List ℕ → List ℕ → ℕ → ℕ → Type 0
Safe f places counts first last = (i : ℕ) → first ≤ i → i < last → (7 * get_or counts i 0 ≤ get_or places i 0) × (get_or places i 0 + 4 ≤ length f)

-- Block number b is noted: its steps come after those that were noted before.
pub record OneTaken (basis : Basis) (own : Cursor) (findings : Findings) (b : ℕ) (rows : List ℕ) (sketch sketch' : Sketch) : Type 0 where
  pub noted : (us : List ℕ) (fn : Function) (ss : List Step) (out : List ℕ) (ps : List Stop) → Told basis us fn own
      → BeginAt (file basis) findings.steps.places findings.steps.counts (get_or findings.firsts b 0) ss
      → RowsAt (file basis) us fn findings.steps.reads findings.steps.writes (get_or findings.firsts b 0) ss → get_or findings.firsts (b + 1) 0 ≡ get_or findings.firsts b 0 + length ss
      → ((s : Step) → Memᴰ s ss → Fits us (use_at (file basis) fn s)) → Within us out → row rows (1024 + b * 8) 8 ≡ unit_row one us out → Noted us ps sketch
      → Noted us (ps ++ stops_in (map (use_at (file basis) fn) ss) out) sketch'

-- The entries of each block are steps that lie in the file.
abbrev pub Ordered : List ℕ → Findings → ℕ → Type 0
Ordered f findings b =
    (get_or findings.firsts b 0 ≤ get_or findings.firsts (b + 1) 0) × (get_or findings.firsts (b + 1) 0 ≤ 4097)
    × Safe f findings.steps.places findings.steps.counts (get_or findings.firsts b 0) (get_or findings.firsts (b + 1) 0)

-- Where the steps of a function's blocks begin, with the rows of those that are kept, and what is live at the end of each.
pub record Begun (f us : List ℕ) (fn : Function) (findings : Findings) (rows : List ℕ) (count : ℕ) : Type 0 where
  pub member : Memᴰ fn (program one f).functions
  pub blocks : count ≡ length fn.blocks
  pub steps : (k : ℕ) → k < count → BeginAt f findings.steps.places findings.steps.counts (get_or findings.firsts k 0) (block_at fn k).steps
  pub kept : (k : ℕ) → k < count → RowsAt f us fn findings.steps.reads findings.steps.writes (get_or findings.firsts k 0) (block_at fn k).steps
  pub ends : (k : ℕ) → k < count → get_or findings.firsts (k + 1) 0 ≡ get_or findings.firsts k 0 + length (block_at fn k).steps
  pub outs : (k : ℕ) → k < count → row rows (1024 + k * 8) 8 ≡ unit_row one us (get_or (settled_by (flows one (program one f) fn)).sets.outs k [])

abbrev pub stops_upto : List ℕ → Function → ℕ → List Stop
stops_upto f fn b = stops_from (take b (flows one (program one f) fn)) (settled_by (flows one (program one f) fn)).sets.outs

-- The blocks below b are noted, in file order.
pub record BlocksTaken (basis : Basis) (own : Cursor) (findings : Findings) (count : ℕ) (rows : List ℕ) (b : ℕ) (sketch sketch' : Sketch) : Type 0 where
  pub noted : (us : List ℕ) (fn : Function) (ps : List Stop) → Told basis us fn own → Begun (file basis) us fn findings rows count
      → Noted us ps sketch → Noted us (ps ++ stops_upto (file basis) fn b) sketch'

-- A function of an accepted file, whose records begin at a cursor.
pub record Owner (basis : Basis) (own : Cursor) : Type 0 where
  pub us : List ℕ
  pub fn : Function
  pub ready : Ready (file basis) us basis.source.numbers.now basis.source.table.now
  pub stands : StandsAt (file basis) own
  pub member : Memᴰ fn (program one (file basis)).functions
  pub abis : fn.abis ≡ (from (file basis) own.at).abis
  pub blocks : fn.blocks ≡ (from (file basis) own.at).blocks

-- What follows a function's records: the next function, or the end.
abbrev pub Follows : List ℕ → ℕ → Cursor → Type 0
Follows f at after = StandsAt f after × ((from f after.at).functions ≡ (from f at).functions) × ((FunctionHere f after.at → ⊥) → (from f after.at).functions ≡ [])

-- One function is noted.
pub record FunctionTaken (basis : Basis) (own : Cursor) (sketch : Sketch) (rows' : List ℕ) (sketch' : Sketch) (passes blocks : ℕ) (after : Cursor) : Type 0 where
  pub few : passes ≤ 130
  pub fewer : blocks ≤ 128
  pub held : Held rows' blocks
  pub sound : Sound after
  pub noted : (us : List ℕ) (fn : Function) (ps : List Stop) → Told basis us fn own → Memᴰ fn (program one (file basis)).functions
      → fn.blocks ≡ (from (file basis) own.at).blocks → Noted us ps sketch
      → Noted us (ps ++ stops_of (flows one (program one (file basis)) fn)) sketch' × (passes ≡ (liveness one (program one (file basis)) fn).passes)
      × (rows' ≡ live_words one us (liveness one (program one (file basis)) fn).sets) × Follows (file basis) own.at after

-- An accepted file, its units, their words and the rows of each storage's units.
pub record Granted (basis : Basis) (us : List ℕ) : Type 0 where
  pub ready : Ready (file basis) us basis.source.numbers.now basis.source.table.now
  pub numbered : Numbered us basis.words.now
  pub rows : UnitRows us basis.words.now basis.units.now

-- Nothing is noted yet.
pub record Fresh (sketch : Sketch) : Type 0 where
  pub meets : sketch.meets ≡ blank 2048
  pub copies : sketch.copies ≡ blank 1024
  pub addressed : sketch.addressed ≡ blank 4

-- Whether a function record stands there.
pub record FunctionNext (f : List ℕ) (at : ℕ) (there : Bool) : Type 0 where
  pub yes : there ≡ true → FunctionHere f at
  pub no : there ≡ false → FunctionHere f at → ⊥

abbrev pub stops_by : List ℕ → List Function → List Stop
stops_by f fs = each (λ fn. stops_of (flows one (program one f) fn)) fs

abbrev pub passes_by : List ℕ → List Function → ℕ
passes_by f fs = sum (map (λ fn. (liveness one (program one f) fn).passes) fs)

-- The functions before a cursor are noted, in file order, and the words are those of the last of them.
pub record Walked (f us : List ℕ) (c : Cursor) (passes : ℕ) (rows : List ℕ) (sketch : Sketch) : Type 0 where
  pub done : List Function
  pub splits : (program one f).functions ≡ done ++ (from f c.at).functions
  pub stands : StandsAt f c
  pub last : (FunctionHere f c.at → ⊥) → (from f c.at).functions ≡ []
  pub noted : Noted us (stops_by f done) sketch
  pub sums : passes ≡ passes_by f done
  pub few : passes ≤ 130 * length done
  pub live : rows ≡ last_live one us (program one f) done

-- All functions are noted.
pub record AllTaken (f us : List ℕ) (passes : ℕ) (rows : List ℕ) (sketch : Sketch) : Type 0 where
  pub noted : Noted us (stops one (program one f)) sketch
  pub sums : passes ≡ passes_of one (program one f)
  pub live : rows ≡ last_live one us (program one f) (program one f).functions

-- An accepted file whose units are numbered.
pub record Counted (f us found table words : List ℕ) (count : ℕ) : Type 0 where
  pub ready : Ready f us found table
  pub words_are : words ≡ laid 512 us []
  pub many : count ≡ length us

-- What the whole walk leaves.
pub record Whole (f us : List ℕ) (passes : ℕ) (rows graph copies : List ℕ) : Type 0 where
  pub sums : passes ≡ passes_of one (program one f)
  pub live : rows ≡ last_live one us (program one f) (program one f).functions
  pub graph_is : graph ≡ relation_rows one (interferes one (program one f)) 0 256
  pub copies_are : copies ≡ relation_rows one (copied one (program one f)) 0 256
