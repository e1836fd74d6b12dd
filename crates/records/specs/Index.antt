-- The table of functions of a file, as its records from the front enter it: entry n is the place right after the record of function n, entry 256 + n
-- how many unit numbers come before it; 65535 where there is no such function.
use Rattle.std.specs.Prelude.{ℕ, ◌+◌, Bool, true, false, List, [], ◌∷◌, ◌++◌, eqb, length, get_or, set, replicate}
use Rattle.fields.specs.Pick.{pick}
use Rattle.fields.specs.Edition.{Edition}
use Rattle.fields.specs.Record.{Rec, header, storage, function, abi, block, instruction, operand, terminator, target, end, record_at}
use Rattle.records.specs.Check.{pieces}

-- The table before any record.
unfoldable pub bare : List ℕ
bare = replicate 256 65535 ++ replicate 256 0

-- A function of this number is in the table.
unfoldable pub listed : List ℕ → ℕ → Bool
listed table n = pick (eqb (get_or table n 0) 65535) false true

-- How many unit numbers a record brings.
abbrev pub brought : Rec → ℕ
brought (header a f w) = 0
brought (storage x) = 0
brought (function n) = 0
brought (abi x) = 1
brought (block id) = 0
brought (instruction op sub fn) = 0
brought (operand x) = 1
brought (terminator op sub fn) = 0
brought (target id) = 0
brought end = 0

-- The table after the record at a place, with so many unit numbers before it: a function's number is entered, unless it is there.
abbrev pub entered : Rec → ℕ → ℕ → List ℕ → List ℕ
entered (header a f w) at k table = table
entered (storage x) at k table = table
entered (function n) at k table = pick (listed table n) table (set (set table n (at + 2)) (256 + n) k)
entered (abi x) at k table = table
entered (block id) at k table = table
entered (instruction op sub fn) at k table = table
entered (operand x) at k table = table
entered (terminator op sub fn) at k table = table
entered (target id) at k table = table
entered end at k table = table

-- The table after pieces, one a record, that begin at a place and have so many unit numbers before them.
unfoldable pub tabled_in : Edition → ℕ → ℕ → List (List ℕ) → List ℕ → List ℕ
tabled_in ed at k [] table = table
tabled_in ed at k (p ∷ ps) table = tabled_in ed (at + length p) (k + brought (record_at ed p)) ps (entered (record_at ed p) at k table)

unfoldable pub tabled : Edition → List ℕ → List ℕ
tabled ed f = tabled_in ed 0 0 (pieces ed f) bare
