-- Document 01, "Refusal numbers" (buffers) and "What the contracts must decide": the public operation check as one outcome, the answer and what
-- the lent words then are, for every file and every buffer.
use Rattle.std.specs.Prelude.{◌≡◌, ℕ, ◌-◌, List, [], ◌++◌, ltb, length, take, drop, replicate, Result, Ok, Err}
use Rattle.fields.specs.Pick.{pick}
use Rattle.fields.specs.Edition.{Edition, one}
use Rattle.records.specs.Check.{Answer, units, refusal, check, numbers}
use Rattle.records.specs.Index.{tabled}
use Rattle.records.specs.declared.Refusal.TheVariants.{Short}
use Rattle.records.specs.declared.Refusal.{Refusal}

pub record Outcome : Type 0 where
  pub answer : Result ℕ Refusal
  pub words : List ℕ

-- A buffer afterwards: its needed part, filled up with zeros, and past it what stood there.
unfoldable pub laid : ℕ → List ℕ → List ℕ → List ℕ
laid n us before = us ++ replicate (n - length us) 0 ++ drop n before

-- An accepted file leaves its unit words; a refusal of the file clears the needed words.
abbrev pub outcome_by : Edition → List ℕ → Answer → Outcome
outcome_by ed before (units us) = record { answer = Ok (length us); words = laid ed.units us before }
outcome_by ed before (refusal x) = record { answer = Err x; words = laid ed.units [] before }

-- A buffer that is too short is refused before anything else, and nothing is written.
unfoldable pub outcome : Edition → List ℕ → List ℕ → Outcome
outcome ed f before =
    pick (ltb (length before) ed.units) (record { answer = Err Short; words = before })
    (outcome_by ed before (check ed f))

-- What the contract of check says of a file, a buffer, the answer and the buffer afterwards.
abbrev pub Checks : List ℕ → List ℕ → Result ℕ Refusal → List ℕ → Type 0
Checks f before r words = record { answer = r; words = words } ≡ outcome one f before

-- The same of a buffer of just the needed words; and of an accepted file, the unit number of each ABI record and operand in a second one, and the
-- table of functions in a third.
abbrev pub Numbers : List ℕ → Result ℕ Refusal → List ℕ → List ℕ → List ℕ → Type 0
Numbers f r words found table =
    (record { answer = r; words = words } ≡ outcome_by one [] (check one f))
    × ((us : List ℕ) → check one f ≡ units us → (take (length (numbers one f)) found ≡ numbers one f) × (table ≡ tabled one f))
