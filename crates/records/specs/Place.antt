-- Document 01, "Refusal numbers" (6): the instruction or terminator at a place, with the function that it stands in.
use Rattle.std.specs.Prelude.{ℕ, ◌+◌, true, false, List, [], ◌∷◌, eqb, length}
use Rattle.fields.specs.Pick.{pick}
use Rattle.fields.specs.Edition.{Edition}
use Rattle.fields.specs.Record.{Rec, header, storage, function, abi, block, instruction, operand, terminator, target, end, record_at}
use Rattle.records.specs.Check.{pieces, records_in}
use Rattle.records.specs.Program.{Step, Function, Rest, step_of, function_of, gather}

-- A step, with the function that it stands in; or there is none at that place.
pub data Found : Type 0 where
  step : Function → Step → Found
  nowhere : Found

-- before the first function
abbrev pub no_function : Function
no_function = record { number = 0; abis = []; blocks = [] }

-- the function that the records after this one stand in; `r` is what is gathered from them
abbrev pub within : Function → Rec → Rest → Function
within f (header a b w) r = f
within f (storage x) r = f
within f (function n) r = function_of n r
within f (abi x) r = f
within f (block id) r = f
within f (instruction op sub fn) r = f
within f (operand x) r = f
within f (terminator op sub fn) r = f
within f (target id) r = f
within f end r = f

-- what starts with this record
abbrev pub starts_with : Function → Rec → Rest → Found
starts_with f (header a b w) r = nowhere
starts_with f (storage x) r = nowhere
starts_with f (function n) r = nowhere
starts_with f (abi x) r = nowhere
starts_with f (block id) r = nowhere
starts_with f (instruction op sub fn) r = step f (step_of false op sub fn r)
starts_with f (operand x) r = nowhere
starts_with f (terminator op sub fn) r = step f (step_of true op sub fn r)
starts_with f (target id) r = nowhere
starts_with f end r = nowhere

-- Piece by piece, from a place on: at the place asked, what starts there; else on.
unfoldable pub find_in : Edition → ℕ → ℕ → Function → List (List ℕ) → Found
find_in ed asked at f [] = nowhere
find_in ed asked at f (p ∷ ps) =
    let r = gather (records_in ed ps) in
    let on = find_in ed asked (at + length p) (within f (record_at ed p) r) ps in
    pick (eqb at asked) (starts_with f (record_at ed p) r) on

unfoldable pub step_at : Edition → List ℕ → ℕ → Found
step_at ed f asked = find_in ed asked 0 no_function (pieces ed f)
