-- Document 01, "What moves" (live sets of one function) and "Refusal numbers" (buffers): the public operation live as one outcome, the answer and the
-- lent words for every input.
use Rattle.std.specs.Prelude.{◌≡◌, List, [], ◌++◌, ℕ, zero, suc, ◌+◌, ltb, length, get_or, drop, Result, Ok, Err}
use Rattle.fields.specs.Pick.{pick, ◌or◌}
use Rattle.fields.specs.Edition.{Edition, one}
use Rattle.records.specs.Check.{Answer, units, refusal, check}
use Rattle.records.specs.Outcome.{laid}
use Rattle.records.specs.Program.{program}
use Rattle.records.specs.declared.Refusal.TheVariants.{Short, Absent}
use Rattle.units.specs.Uses.{Lookup, defined, missing, lookup}
use Rattle.units.specs.Rows.{unit_row}
use Rattle.liveness.specs.Settle.{Sets, liveness}
use Rattle.records.specs.declared.Refusal.{Refusal}

-- The rows of n sets, from number k on; a set that is not there is empty.
unfoldable pub rows_from : Edition → List ℕ → List (List ℕ) → ℕ → ℕ → List ℕ
rows_from ed us sets k zero = []
rows_from ed us sets k (suc n) = unit_row ed us (get_or sets k []) ++ rows_from ed us sets (suc k) n

-- Live-in of every block, then live-out of every block.
unfoldable pub live_words : Edition → List ℕ → Sets → List ℕ
live_words ed us c = rows_from ed us c.ins 0 ed.blocks ++ rows_from ed us c.outs 0 ed.blocks

pub record Outcome : Type 0 where
  pub answer : Result ℕ Refusal
  pub units : List ℕ
  pub live : List ℕ

-- The words that the live sets need.
abbrev pub needed : Edition → ℕ
needed ed = ed.live_out + ed.live_out

abbrev pub lived_by : Edition → List ℕ → ℕ → List ℕ → List ℕ → List ℕ → Lookup → Outcome
lived_by ed f number us before live (defined fn) =
    record {
      answer = Ok (liveness ed (program ed f) fn).passes;
      units = laid ed.units us before;
      live = live_words ed us (liveness ed (program ed f) fn).sets ++ drop (needed ed) live;
    }
lived_by ed f number us before live missing =
    record { answer = Err (Absent number); units = laid ed.units [] before; live = laid (needed ed) [] live }

abbrev pub lived_of : Edition → List ℕ → ℕ → List ℕ → List ℕ → Answer → Outcome
lived_of ed f number before live (units us) = lived_by ed f number us before live (lookup (program ed f).functions number)
lived_of ed f number before live (refusal x) = record { answer = Err x; units = laid ed.units [] before; live = laid (needed ed) [] live }

-- Refusal 1 where either buffer is too short; nothing is written then.
unfoldable pub lived : Edition → List ℕ → ℕ → List ℕ → List ℕ → Outcome
lived ed f number before live =
    pick (ltb (length before) ed.units or ltb (length live) (needed ed)) (record { answer = Err Short; units = before; live = live })
    (lived_of ed f number before live (check ed f))

-- The same of buffers of just the needed words.
abbrev pub LivesIn : List ℕ → ℕ → Result ℕ Refusal → List ℕ → List ℕ → Type 0
LivesIn f number r units' live' = record { answer = r; units = units'; live = live' } ≡ lived_of one f number [] [] (check one f)

-- The contract of live.
abbrev pub Lives : List ℕ → ℕ → List ℕ → List ℕ → Result ℕ Refusal → List ℕ → List ℕ → Type 0
Lives f number before live r units' live' = record { answer = r; units = units'; live = live' } ≡ lived one f number before live
