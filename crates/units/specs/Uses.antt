-- Document 01, "The program file" (fields) and "Liveness and interference" (calls, Return): what an instruction or a terminator reads and writes. A
-- unit is its word, and a set of units a list of words.
use Rattle.std.specs.Prelude.{Bool, true, false, List, [], ◌∷◌, map, ℕ, ◌/◌, ◌%◌, leb, eqb}
use Rattle.fields.specs.Pick.{pick, ◌and◌, ◌or◌}
use Rattle.fields.specs.Edition.{Edition}
use Rattle.fields.specs.Record.{Abi, Operand, word_of}
use Rattle.fields.specs.Fields.{field_at}
use Rattle.records.specs.Program.{Step, Function, Program, row_of}
use Rattle.units.specs.Sets.{select}

-- Instruction number n; terminator number n.
abbrev pub is_instruction : ℕ → Step → Bool
is_instruction n s = pick s.ends false (eqb s.op n)

abbrev pub is_end : ℕ → Step → Bool
is_end n s = pick s.ends (eqb s.op n) false

-- The table says which fields a step reads and which it writes. A terminator writes nothing.
abbrev pub reads_field : Step → ℕ → Bool
reads_field s field = (field_at (row_of s) field).read

abbrev pub writes_field : Step → ℕ → Bool
writes_field s field = pick s.ends false (field_at (row_of s) field).written

-- The units of the operands in the fields that pass a test; an immediate is none.
unfoldable pub units_in : Edition → (ℕ → Bool) → List Operand → List ℕ
units_in ed t os =
    map (λ (o : Operand). word_of ed o.shape o.storage o.offset) (select (λ (o : Operand). t o.field and pick (eqb o.shape 0) false true) os)

-- The units of the ABI records whose role passes a test.
unfoldable pub units_of : Edition → (ℕ → Bool) → List Abi → List ℕ
units_of ed t xs = map (λ (a : Abi). word_of ed a.shape a.storage a.offset) (select (λ (a : Abi). t a.role) xs)

-- Role 0 is a parameter, 1 a result, 2 a clobbered object.
abbrev pub is_parameter : ℕ → Bool
is_parameter role = eqb role 0

abbrev pub is_result : ℕ → Bool
is_result role = eqb role 1

abbrev pub is_outcome : ℕ → Bool
is_outcome role = pick (eqb role 0) false true

-- The function of a number, the first of it; or there is none.
pub data Lookup : Type 0 where
  defined : Function → Lookup
  missing : Lookup

unfoldable pub lookup : List Function → ℕ → Lookup
lookup [] n = missing
lookup (f ∷ fs) n = pick (eqb f.number n) (defined f) (lookup fs n)

-- The ABI records of the function of a number; none where it is not declared, so that a call of it reads and writes nothing.
abbrev pub abis_by : Lookup → List Abi
abis_by (defined f) = f.abis
abis_by missing = []

unfoldable pub abis_of : List Function → ℕ → List Abi
abis_of fs n = abis_by (lookup fs n)

-- Call and TailCall read the callee's parameters, and Return the results of the function that it stands in; every other step reads its read fields.
unfoldable pub reads : Edition → Program → Function → Step → List ℕ
reads ed p f s =
    pick (is_instruction 27 s or is_end 3 s) (units_of ed is_parameter (abis_of p.functions s.callee))
    (pick (is_end 5 s) (units_of ed is_result f.abis)
    (units_in ed (reads_field s) s.operands))

-- Call writes what the callee gives back and what it clobbers; every other step writes its written fields. A clobbered object is a unit of its own,
-- and so no lane or bit of its storage.
unfoldable pub writes : Edition → Program → Step → List ℕ
writes ed p s =
    pick (is_instruction 27 s) (units_of ed is_outcome (abis_of p.functions s.callee))
    (units_in ed (writes_field s) s.operands)

-- The storage of a unit.
unfoldable pub storage_of : Edition → ℕ → ℕ
storage_of ed word = word % ed.shape / ed.storage

unfoldable pub storages_of : Edition → List ℕ → List ℕ
storages_of ed us = map (storage_of ed) us

-- Document 01, "What moves": steps that may not be dropped though nothing reads what they write. No terminator is one.
unfoldable pub effect : Step → Bool
effect s =
    pick s.ends false
    (eqb s.op 10
    or ((leb 12 s.op and leb s.op 15)
    or ((leb 27 s.op and leb s.op 29)
    or (eqb s.op 26 and (leb 1 s.sub and leb s.sub 4)))))
