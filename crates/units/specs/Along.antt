-- How the code's cursors stand for places in a file. Contracts of the functions inside this crate and of the walks above it cite it; no public
-- contract does.
use Rattle.std.specs.Prelude.{◌≡◌, ◌⊎◌, List, [], ◌∷◌, ◌++◌, ℕ, ◌+◌, ◌*◌, ◌≤◌, ◌<◌, eqb, length, get_or, take, drop, Option, Some, None}
use Rattle.fields.specs.Pick.{pick}
use Rattle.fields.specs.Edition.{Edition, one}
use Rattle.fields.specs.Record.{Rec, header, storage, function, abi, block, instruction, operand, terminator, target, end, u8_at, word_of}
use Rattle.records.specs.Units.{number_in, no_unit}
use Rattle.records.specs.Check.{units, check, pieces, records_in, records, numbers}
use Rattle.records.specs.Program.{Step, Function, Rest, step_of, function_of, gather, program}
use Rattle.records.specs.Place.{step, nowhere, step_at}
use Rattle.units.specs.Uses.{lookup, defined, missing}
use Rattle.units.specs.declared.cursor.Cursor.{Cursor}
use Rattle.units.specs.declared.locate.Site.{Site}

-- What is gathered from the records from a place on.
abbrev pub from : List ℕ → ℕ → Rest
from f at = gather (records one (drop at f))

-- The unit numbers that records bring: one for each ABI record and each operand.
abbrev pub bringing : Edition → List ℕ → Rec → List ℕ → List ℕ
bringing ed us (header a f w) ns = ns
bringing ed us (storage x) ns = ns
bringing ed us (function n) ns = ns
bringing ed us (abi x) ns = number_in (word_of ed x.shape x.storage x.offset) us ∷ ns
bringing ed us (block id) ns = ns
bringing ed us (instruction op sub fn) ns = ns
bringing ed us (operand x) ns = pick (eqb x.shape 0) no_unit (number_in (word_of ed x.shape x.storage x.offset) us) ∷ ns
bringing ed us (terminator op sub fn) ns = ns
bringing ed us (target id) ns = ns
bringing ed us end ns = ns

unfoldable pub numbers_in : Edition → List ℕ → List Rec → List ℕ
numbers_in ed us [] = []
numbers_in ed us (x ∷ xs) = bringing ed us x (numbers_in ed us xs)

unfoldable pub bytes_in : List (List ℕ) → ℕ
bytes_in [] = 0
bytes_in (p ∷ ps) = length p + bytes_in ps

-- A record begins at this place, and so many unit numbers come before it.
pub record Stands (f : List ℕ) (at k : ℕ) : Type 0 where
  pub before : List (List ℕ)
  pub after : List (List ℕ)
  pub splits : pieces one f ≡ before ++ after
  pub place : at ≡ bytes_in before
  pub number : k ≡ length (numbers_in one [] (records_in one before))

abbrev pub StandsAt : List ℕ → Cursor → Type 0
StandsAt f c = Stands f c.at c.k

-- A cursor whose unit numbers fit before its place, whatever the file: the code's indexes are safe by it.
abbrev pub Sound : Cursor → Type 0
Sound c = 7 * c.k ≤ c.at

-- The function of number n whose record ends at a place; the step whose record begins at one.
abbrev pub function_from : List ℕ → ℕ → ℕ → Function
function_from f n at = function_of n (from f at)

abbrev pub step_from : List ℕ → ℕ → Step
step_from f at = step_of (eqb (u8_at (drop at f) 0) 7) (u8_at (drop at f) 1) (u8_at (drop at f) 2) (u8_at (drop at f) 3) (from f (at + 4))

-- A step's record begins there: kind 5 or 7.
abbrev pub IsStep : List ℕ → ℕ → Type 0
IsStep f at = (u8_at (drop at f) 0 ≡ 5) ⊎ (u8_at (drop at f) 0 ≡ 7)

-- A table of functions tells of each number whether the program has such a function, where its records begin, and how many unit numbers come before.
pub record Indexed (f table : List ℕ) : Type 0 where
  pub absent : (n : ℕ) → n < 256 → get_or table n 0 ≡ 65535 → lookup (program one f).functions n ≡ missing
  pub present : (n : ℕ) → n < 256 → (get_or table n 0 ≡ 65535 → ⊥)
      → (lookup (program one f).functions n ≡ defined (function_from f n (get_or table n 0))) × Stands f (get_or table n 0) (get_or table (256 + n) 0)

-- What the code relies on of a table, whatever the file.
pub record Sane (table : List ℕ) : Type 0 where
  pub many : length table ≡ 512
  pub sound : (n : ℕ) → n < 256 → 7 * get_or table (256 + n) 0 ≤ get_or table n 0

-- An accepted file, its units, the unit numbers beside them, and its table of functions.
pub record Ready (f us found table : List ℕ) : Type 0 where
  pub accepted : check one f ≡ units us
  pub found_are : take (length (numbers one f)) found ≡ numbers one f
  pub index : Indexed f table

-- What the search for the step at a place answers.
abbrev pub Locates : List ℕ → ℕ → Option Site → Type 0
Locates f place (Some s) =
    (n : ℕ) × (step_at one f place ≡ step (function_from f n s.own.at) (step_from f place)) × StandsAt f s.own × StandsAt f s.here × (s.here.at ≡ place) × IsStep f place
Locates f place None = step_at one f place ≡ nowhere

-- Both cursors of a site are sound, and the head of the step's record lies within the file.
abbrev pub SoundSite : List ℕ → Site → Type 0
SoundSite f s = Sound s.own × Sound s.here × (s.here.at + 4 ≤ length f)

abbrev pub SoundBoth : List ℕ → Option Site → Type 0
SoundBoth f (Some s) = SoundSite f s
SoundBoth f None = Unit {0}

-- How many unit numbers a record brings, by its kind byte.
abbrev pub brought_by : ℕ → ℕ
brought_by kind = pick (eqb kind 3) 1 (pick (eqb kind 6) 1 0)
