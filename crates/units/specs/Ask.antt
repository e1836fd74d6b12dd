-- Document 01, "What moves" (queries) and "Refusal numbers": each query at a place as one outcome, the answer and the lent words for every input.
use Rattle.std.specs.Prelude.{◌≡◌, Bool, true, false, List, [], ◌++◌, ℕ, ltb, length, drop, Result, Ok, Err}
use Rattle.fields.specs.Pick.{pick, ◌or◌}
use Rattle.fields.specs.Edition.{Edition, one}
use Rattle.records.specs.Check.{Answer, units, refusal, check}
use Rattle.records.specs.Outcome.{laid}
use Rattle.records.specs.Program.{Step, Function, Program, program}
use Rattle.records.specs.Place.{Found, step, nowhere, step_at}
use Rattle.records.specs.declared.Refusal.TheVariants.{Short, Absent}
use Rattle.units.specs.Uses.{reads, writes, effect}
use Rattle.units.specs.Rows.{unit_row, storage_row}
use Rattle.records.specs.declared.Refusal.{Refusal}

-- The answer, and the two buffers afterwards.
pub record Asked : Type 0 where
  pub answer : Result (Unit {0}) Refusal
  pub units : List ℕ
  pub row : List ℕ

-- What a query says of a step: a row, given the program, the units, the step and the function that it stands in.
abbrev pub Query : Type 0
Query = Edition → Program → List ℕ → Function → Step → List ℕ

abbrev pub read_row : Query
read_row ed p us f s = unit_row ed us (reads ed p f s)

abbrev pub write_row : Query
write_row ed p us f s = unit_row ed us (writes ed p s)

abbrev pub storage_read_row : Query
storage_read_row ed p us f s = storage_row ed (reads ed p f s)

abbrev pub storage_write_row : Query
storage_write_row ed p us f s = storage_row ed (writes ed p s)

-- The same by what is asked for: what the step writes, or what it reads.
abbrev pub row_of : Bool → Query
row_of true = write_row
row_of false = read_row

abbrev pub storage_row_of : Bool → Query
storage_row_of true = storage_write_row
storage_row_of false = storage_read_row

-- A refusal other than 1 leaves the row as found and the needed words of the units 0.
abbrev pub asked_by : Query → Edition → List ℕ → ℕ → List ℕ → List ℕ → List ℕ → Found → Asked
asked_by q ed f place us before row (step fn s) =
    record { answer = Ok tt; units = laid ed.units us before; row = q ed (program ed f) us fn s ++ drop (length (q ed (program ed f) us fn s)) row }
asked_by q ed f place us before row nowhere = record { answer = Err (Absent place); units = laid ed.units [] before; row = row }

abbrev pub asked_of : Query → Edition → List ℕ → ℕ → List ℕ → List ℕ → Answer → Asked
asked_of q ed f place before row (units us) = asked_by q ed f place us before row (step_at ed f place)
asked_of q ed f place before row (refusal x) = record { answer = Err x; units = laid ed.units [] before; row = row }

-- Refusal 1 where either buffer is too short; `width` is the words that the row needs.
unfoldable pub asked : Query → Edition → ℕ → List ℕ → ℕ → List ℕ → List ℕ → Asked
asked q ed width f place before row =
    pick (ltb (length before) ed.units or ltb (length row) width) (record { answer = Err Short; units = before; row = row })
    (asked_of q ed f place before row (check ed f))

-- The contract of a set query.
abbrev pub Asks : Query → ℕ → List ℕ → ℕ → List ℕ → List ℕ → Result (Unit {0}) Refusal → List ℕ → List ℕ → Type 0
Asks q width f place before row r units' row' = record { answer = r; units = units'; row = row' } ≡ asked q one width f place before row

-- The observable effect: yes, no, or a refusal, and the units.
pub record Told : Type 0 where
  pub answer : Result Bool Refusal
  pub units : List ℕ

abbrev pub told_by : Edition → ℕ → List ℕ → List ℕ → Found → Told
told_by ed place us before (step fn s) = record { answer = Ok (effect s); units = laid ed.units us before }
told_by ed place us before nowhere = record { answer = Err (Absent place); units = laid ed.units [] before }

abbrev pub told_of : Edition → List ℕ → ℕ → List ℕ → Answer → Told
told_of ed f place before (units us) = told_by ed place us before (step_at ed f place)
told_of ed f place before (refusal x) = record { answer = Err x; units = laid ed.units [] before }

unfoldable pub told : Edition → List ℕ → ℕ → List ℕ → Told
told ed f place before =
    pick (ltb (length before) ed.units) (record { answer = Err Short; units = before })
    (told_of ed f place before (check ed f))

abbrev pub Tells : List ℕ → ℕ → List ℕ → Result Bool Refusal → List ℕ → Type 0
Tells f place before r units' = record { answer = r; units = units' } ≡ told one f place before
