-- Document 01, "The program file" (order of records) and "Refusal numbers" (order of tests at a record): the reader's state, and one record on.
use Rattle.std.specs.Prelude.{ℕ, suc, Bool, true, false, List, [], ◌∷◌, ◌++◌, ltb, leb, eqb, get_or, length}
use Rattle.fields.specs.Pick.{pick, ◌and◌, ◌or◌, has, times}
use Rattle.fields.specs.Edition.{Edition}
use Rattle.fields.specs.Fields.{Field, fields_of, end_fields_of, least_targets, most_targets, instruction_fits, terminator_fits, most, missing, takes, greatest, well_formed, field_at}
use Rattle.fields.specs.Record.{Operand, Rec, header, storage, function, abi, block, instruction, operand, terminator, target, end, header_fits, storage_fits, abi_fits, word_of}
use Rattle.records.specs.Units.{number_in, noted, no_unit}
use Rattle.records.specs.declared.Refusal.{Refusal}
use Rattle.records.specs.declared.Refusal.TheVariants.{Form, Repeated, Undeclared, Limit}

-- The instruction or terminator that operands and targets go to: its place, its fields, the field of each of its operands so far (the last one
-- first), how many targets it takes at least and at most, and how many it has. Where none is open, there is no field and no target to fill.
pub record Opened : Type 0 where
  pub place : ℕ
  pub row : List Field
  pub given : List ℕ
  pub least : ℕ
  pub most : ℕ
  pub targets : ℕ

abbrev pub nothing : Opened
nothing = record { place = 0; row = []; given = []; least = 0; most = 0; targets = 0 }

-- How far the order of records has come.
abbrev pub at_start : ℕ
at_start = 0

abbrev pub in_storages : ℕ
in_storages = 1

abbrev pub in_abi : ℕ
in_abi = 2

abbrev pub in_block : ℕ
in_block = 3

abbrev pub after_block : ℕ
after_block = 4

abbrev pub at_end : ℕ
at_end = 5

-- The lists are in file order: ids of the storages, numbers of the functions, ids of this function's blocks, words of the units, and the
-- unit number of each ABI record and operand.
pub record State : Type 0 where
  pub stage : ℕ
  pub ids : List ℕ
  pub functions : List ℕ
  pub blocks : List ℕ
  pub block_at : ℕ
  pub units : List ℕ
  pub numbers : List ℕ
  pub now : Opened

abbrev pub start : State
start = record { stage = at_start; ids = []; functions = []; blocks = []; block_at = 0; units = []; numbers = []; now = nothing }

-- Go on from a state, or refuse.
pub data Turn : Type 0 where
  next : State → Turn
  refused : Refusal → Turn

-- A test that must be met, and one that must not.
abbrev pub need : Bool → Refusal → Turn → Turn
need t x k = pick t k (refused x)

abbrev pub bar : Bool → Refusal → Turn → Turn
bar t x k = pick t (refused x) k

-- The states after a record of each kind ---------------------------------------------------------------------------------------------------

unfoldable pub with_header : State → State
with_header s =
    record { stage = in_storages; ids = s.ids; functions = s.functions; blocks = s.blocks; block_at = s.block_at; units = s.units; numbers = s.numbers; now = s.now }

unfoldable pub with_storage : ℕ → State → State
with_storage id s =
    record { stage = s.stage; ids = s.ids ++ (id ∷ []); functions = s.functions; blocks = s.blocks; block_at = s.block_at; units = s.units; numbers = s.numbers; now = s.now }

unfoldable pub with_function : ℕ → State → State
with_function n s =
    record { stage = in_abi; ids = s.ids; functions = s.functions ++ (n ∷ []); blocks = []; block_at = s.block_at; units = s.units; numbers = s.numbers; now = nothing }

unfoldable pub with_block : ℕ → ℕ → State → State
with_block at id s =
    record { stage = in_block; ids = s.ids; functions = s.functions; blocks = s.blocks ++ (id ∷ []); block_at = at; units = s.units; numbers = s.numbers; now = nothing }

unfoldable pub with_opened : ℕ → Opened → State → State
with_opened stage o s =
    record { stage = stage; ids = s.ids; functions = s.functions; blocks = s.blocks; block_at = s.block_at; units = s.units; numbers = s.numbers; now = o }

unfoldable pub with_number : List ℕ → ℕ → State → State
with_number us n s =
    record { stage = s.stage; ids = s.ids; functions = s.functions; blocks = s.blocks; block_at = s.block_at; units = us; numbers = s.numbers ++ (n ∷ []); now = s.now }

unfoldable pub opened : ℕ → List Field → ℕ → ℕ → Opened
opened at row least most = record { place = at; row = row; given = []; least = least; most = most; targets = 0 }

unfoldable pub with_given : ℕ → Opened → Opened
with_given field o = record { place = o.place; row = o.row; given = field ∷ o.given; least = o.least; most = o.most; targets = o.targets }

unfoldable pub with_target : Opened → Opened
with_target o = record { place = o.place; row = o.row; given = o.given; least = o.least; most = o.most; targets = suc o.targets }

-- A unit's word gets its number.
unfoldable pub with_unit : ℕ → State → State
with_unit word s = with_number (noted word s.units) (number_in word (noted word s.units)) s

-- What a record must meet --------------------------------------------------------------------------------------------------------------------

-- Finished: no field lacks an operand, and no target is missing.
unfoldable pub finished : Opened → Bool
finished o = eqb (missing o.row 0 o.given) 0 and leb o.least o.targets

-- An operand or a target goes to what is open; any other record finds it finished.
abbrev pub belongs : Rec → Bool
belongs (header a f w) = false
belongs (storage x) = false
belongs (function n) = false
belongs (abi x) = false
belongs (block id) = false
belongs (instruction op sub fn) = false
belongs (operand x) = true
belongs (terminator op sub fn) = false
belongs (target id) = true
belongs end = false

-- Kinds 2, 4 and 9 leave the block behind.
abbrev pub leaves : Rec → Bool
leaves (header a f w) = false
leaves (storage x) = false
leaves (function n) = true
leaves (abi x) = false
leaves (block id) = true
leaves (instruction op sub fn) = false
leaves (operand x) = false
leaves (terminator op sub fn) = false
leaves (target id) = false
leaves end = true

-- Order: header; storages; functions, each of ABI records and then blocks, each block of instructions with operands and one terminator with
-- operands and then targets; end.
abbrev pub follows : Rec → State → Bool
follows (header a f w) s = eqb s.stage at_start
follows (storage x) s = eqb s.stage in_storages
follows (function n) s = eqb s.stage in_storages or (eqb s.stage in_abi or eqb s.stage after_block)
follows (abi x) s = eqb s.stage in_abi
follows (block id) s = eqb s.stage in_abi or eqb s.stage after_block
follows (instruction op sub fn) s = eqb s.stage in_block
follows (operand x) s = eqb s.now.targets 0
follows (terminator op sub fn) s = eqb s.stage in_block
follows (target id) s = ltb s.now.targets s.now.most
follows end s = eqb s.stage in_abi or eqb s.stage after_block

-- The field of the last operand, 0 where there is none.
unfoldable pub last_field : List ℕ → ℕ
last_field given = get_or given 0 0

-- Operands come field by field, no field has more than it takes, and the shape is one of the class's.
unfoldable pub operand_fits : List Field → List ℕ → Operand → Bool
operand_fits row given x =
    leb (last_field given) x.field
    and (ltb (times x.field given) (most (field_at row x.field).count)
    and (takes (field_at row x.field).class x.shape
    and well_formed (greatest (field_at row x.field).class) x.shape x.storage x.offset))

-- Fields: each number of the record is in its range.
abbrev pub fits : Edition → Rec → Opened → Bool
fits ed (header a f w) o = header_fits a f w
fits ed (storage x) o = storage_fits ed x
fits ed (function n) o = true
fits ed (abi x) o = abi_fits x
fits ed (block id) o = true
fits ed (instruction op sub fn) o = instruction_fits op sub fn
fits ed (operand x) o = operand_fits o.row o.given x
fits ed (terminator op sub fn) o = terminator_fits op sub fn
fits ed (target id) o = true
fits ed end o = true

-- The unit of the record at a place: its storage is declared (4), and its word has a number or there is room for one more (5).
unfoldable pub word_step : Edition → ℕ → ℕ → State → Turn
word_step ed at word s =
    need (has word s.units or ltb (length s.units) ed.units) (Limit at)
    (next (with_unit word s))

unfoldable pub unit_step : Edition → ℕ → ℕ → ℕ → ℕ → State → Turn
unit_step ed at shape id offset s = need (has id s.ids) (Undeclared at) (word_step ed at (word_of ed shape id offset) s)

-- An immediate is no unit and names no storage.
unfoldable pub operand_step : Edition → ℕ → Operand → State → Turn
operand_step ed at x s =
    pick (eqb x.shape 0) (next (with_number s.units no_unit s)) (unit_step ed at x.shape x.storage x.offset s)

-- What is left to judge of a record in order and in range: 4, then 3, then 5; and the state after it.
unfoldable pub admit : Edition → State → ℕ → Rec → Turn
admit ed s at (header a f w) = next (with_header s)
admit ed s at (storage x) = bar (has x.id s.ids) (Repeated at) (next (with_storage x.id s))
admit ed s at (function n) =
    bar (has n s.functions) (Repeated at)
    (need (ltb (length s.functions) ed.functions) (Limit at)
    (next (with_function n s)))
admit ed s at (abi x) = unit_step ed at x.shape x.storage x.offset s
admit ed s at (block id) =
    bar (has id s.blocks) (Repeated at)
    (need (ltb (length s.blocks) ed.blocks) (Limit at)
    (next (with_block at id s)))
admit ed s at (instruction op sub fn) = next (with_opened in_block (opened at (fields_of op) 0 0) s)
admit ed s at (operand x) = operand_step ed at x (with_opened s.stage (with_given x.field s.now) s)
admit ed s at (terminator op sub fn) = next (with_opened after_block (opened at (end_fields_of op sub) (least_targets op) (most_targets op)) s)
admit ed s at (target id) = next (with_opened s.stage (with_target s.now) s)
admit ed s at end = next (with_opened at_end nothing s)

-- Order and fields (2 at the record), then 4, 3 and 5.
unfoldable pub take : Edition → State → ℕ → Rec → Turn
take ed s at x =
    need (follows x s) (Form at)
    (need (fits ed x s.now) (Form at)
    (admit ed s at x))

-- The tests at a record: what is open is finished (else 2 at its own place), the block has its terminator (else 2 at the block's place), and then
-- the record's own.
unfoldable pub step : Edition → State → ℕ → Rec → Turn
step ed s at x =
    need (belongs x or finished s.now) (Form s.now.place)
    (bar (leaves x and eqb s.stage in_block) (Form s.block_at)
    (take ed s at x))
