-- Rows as a walk over records fills them: what the loops of this crate do, for every file. Contracts of its inner functions cite it.
use Rattle.std.specs.Prelude.{Bool, false, List, [], ◌∷◌, map, ℕ, ◌+◌, ◌*◌, ◌-◌, ◌/◌, ◌%◌, ◌^◌, ◌≤◌, ltb, leb, eqb, length, get_or, drop}
use Rattle.rows.specs.Row.{with_at}
use Rattle.fields.specs.Pick.{pick, ◌and◌, ◌or◌}
use Rattle.fields.specs.Edition.{one}
use Rattle.fields.specs.Record.{Abi, Operand, u8_at}
use Rattle.records.specs.Check.{records}
use Rattle.fields.specs.Table.{row_word}
use Rattle.records.specs.Program.{gather, row_by}
use Rattle.units.specs.Uses.{is_parameter, is_result, is_outcome}
use Rattle.units.specs.declared.cursor.Cursor.{Cursor}
use Rattle.units.specs.declared.head.Head.{Head}
use Rattle.units.specs.declared.uses.Roles.{Roles}
use Rattle.units.specs.declared.uses.Roles.TheVariants.{Parameters, Results, Outcomes}

-- A unit's number goes into a row where it is wanted; a number past the last is no unit's.
unfoldable pub jotted : Bool → ℕ → List ℕ → List ℕ
jotted wanted n row = pick wanted (pick (ltb n 512) (with_at row 0 n) row) row

-- The numbers from k on, one beside each tag: those whose tag is wanted.
unfoldable pub marks : (ℕ → Bool) → List ℕ → ℕ → List ℕ → List ℕ → List ℕ
marks t ns k [] row = row
marks t ns k (x ∷ xs) row = marks t ns (k + 1) xs (jotted (t x) (get_or ns k 0) row)

-- A tail that a file may have behind k unit numbers, each of which took seven bytes: the code's indexes are safe by it.
abbrev pub Behind : ℕ → List ℕ → Type 0
Behind k t = length t ≤ 16384 - 7 * k

-- The roles of the ABI records at the front of a tail, and the fields of the operands there.
unfoldable pub roles_in : List ℕ → List ℕ
roles_in t = map (λ (a : Abi). a.role) (gather (records one t)).abis

unfoldable pub fields_in : List ℕ → List ℕ
fields_in t = map (λ (o : Operand). o.field) (gather (records one t)).operands

-- A whole record of seven bytes and of this kind stands at the front of a tail.
unfoldable pub opens_seven : List ℕ → ℕ → Bool
opens_seven t kind = leb 7 (length t) and eqb (u8_at t 0) kind

-- The roles that are wanted: parameters, results, or all but parameters.
unfoldable pub wanted_by : Roles → ℕ → Bool
wanted_by Parameters role = is_parameter role
wanted_by Results role = is_result role
wanted_by Outcomes role = is_outcome role

-- The flags of a field, by a row's word.
unfoldable pub read_in : ℕ → ℕ → Bool
read_in fields field = eqb (fields / 256 ^ field % 256 / 64 % 2) 1

unfoldable pub written_in : ℕ → Bool → ℕ → Bool
written_in fields ends field = pick ends false (eqb (fields / 256 ^ field % 256 / 32 % 2) 1)

-- The cursor behind the record of a function, by the table of functions.
abbrev pub callee_in : List ℕ → ℕ → Cursor
callee_in table n = record { at = get_or table n 0; k = get_or table (256 + n) 0 }

-- The steps that take ABI records: TailCall, Return, Call.
unfoldable pub takes_abis : Bool → ℕ → Bool
takes_abis ends op = pick ends (eqb op 3 or eqb op 5) (eqb op 27)

-- Whose such a step reads, and which: Return the results of its own function, a call the callee's parameters.
unfoldable pub read_source : Bool → ℕ → Cursor → Cursor → Cursor
read_source ends op callee own = pick ends (pick (eqb op 5) own callee) callee

unfoldable pub read_role : Bool → ℕ → Roles
read_role ends op = pick ends (pick (eqb op 5) Results Parameters) Parameters

-- A row with the units of the ABI records that stand at a cursor and are wanted.
abbrev pub abi_marks : Roles → List ℕ → List ℕ → Cursor → List ℕ → List ℕ
abi_marks which f ns c row = marks (wanted_by which) ns c.k (roles_in (drop c.at f)) row

-- The row's word of a step, by the head of its record.
abbrev pub fields_word : Head → ℕ
fields_word head = row_word (row_by head.ends head.op head.sub)

-- A row with the units of the ABI records that a step reads, and one with those that it writes: Call alone writes, what its callee leaves and clobbers.
unfoldable pub read_abis : Bool → ℕ → List ℕ → List ℕ → Cursor → Cursor → List ℕ → List ℕ
read_abis ends op f ns callee own row = pick (takes_abis ends op) (abi_marks (read_role ends op) f ns (read_source ends op callee own) row) row

unfoldable pub written_abis : Bool → ℕ → List ℕ → List ℕ → Cursor → List ℕ → List ℕ
written_abis ends op f ns callee row = pick (takes_abis ends op) (pick ends row (abi_marks Outcomes f ns callee row)) row
