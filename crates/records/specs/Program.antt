-- Document 01, "The program file": the program as a value, read off the records of a file top down: what follows a record, up to the next one of its own rank, belongs to it.
-- Code that walks the records forward meets it one constructor at a time: `gather (x ∷ xs)` is `put x (gather xs)`.
use Rattle.std.specs.Prelude.{ℕ, Bool, true, false, List, [], ◌∷◌}
use Rattle.fields.specs.Edition.{Edition}
use Rattle.fields.specs.Fields.{Field, fields_of, end_fields_of, least_targets, most_targets, instruction_fits, terminator_fits}
use Rattle.fields.specs.Record.{Storage, Abi, Operand, Rec, header, storage, function, abi, block, instruction, operand, terminator, target, end}
use Rattle.records.specs.Check.{records}

-- an instruction, or a terminator (`ends`); only the latter has targets
pub record Step : Type 0 where
  pub ends : Bool
  pub op : ℕ
  pub sub : ℕ
  pub callee : ℕ
  pub operands : List Operand
  pub targets : List ℕ

-- its fields, and how many targets it takes at least and at most
abbrev pub row_by : Bool → ℕ → ℕ → List Field
row_by true op sub = end_fields_of op sub
row_by false op sub = fields_of op

abbrev pub row_of : Step → List Field
row_of x = row_by x.ends x.op x.sub

abbrev pub least_by : Bool → ℕ → ℕ
least_by true op = least_targets op
least_by false op = 0

abbrev pub most_by : Bool → ℕ → ℕ
most_by true op = most_targets op
most_by false op = 0

-- its numbers fit
abbrev pub numbers_fit : Bool → ℕ → ℕ → ℕ → Bool
numbers_fit true op sub fn = terminator_fits op sub fn
numbers_fit false op sub fn = instruction_fits op sub fn

-- instructions, and last the terminator
pub record Block : Type 0 where
  pub id : ℕ
  pub steps : List Step

pub record Function : Type 0 where
  pub number : ℕ
  pub abis : List Abi
  pub blocks : List Block

pub record Program : Type 0 where
  pub application : ℕ
  pub first : ℕ
  pub work : ℕ
  pub storages : List Storage
  pub functions : List Function

-- What stands from some record on, by rank. A part of a rank is what comes before the next record of that rank or a higher one.
pub record Rest : Type 0 where
  pub operands : List Operand
  pub targets : List ℕ
  pub steps : List Step
  pub blocks : List Block
  pub abis : List Abi
  pub functions : List Function
  pub storages : List Storage
  pub application : ℕ
  pub first : ℕ
  pub work : ℕ

abbrev pub empty : Rest
empty = record { operands = []; targets = []; steps = []; blocks = []; abis = []; functions = []; storages = []; application = 0; first = 0; work = 0 }

abbrev pub step_of : Bool → ℕ → ℕ → ℕ → Rest → Step
step_of ends op sub fn r = record { ends = ends; op = op; sub = sub; callee = fn; operands = r.operands; targets = r.targets }

abbrev pub block_of : ℕ → Rest → Block
block_of id r = record { id = id; steps = r.steps }

abbrev pub function_of : ℕ → Rest → Function
function_of n r = record { number = n; abis = r.abis; blocks = r.blocks }

-- a step, an instruction or a terminator, in front
unfoldable pub put_step : Step → Rest → Rest
put_step x r = record { operands = []; targets = []; steps = x ∷ r.steps; blocks = r.blocks; abis = []; functions = r.functions; storages = []; application = 0; first = 0; work = 0 }

unfoldable pub put : Rec → Rest → Rest
put (header a f w) r = record { operands = []; targets = []; steps = []; blocks = []; abis = []; functions = r.functions; storages = r.storages; application = a; first = f; work = w }
put (storage x) r = record { operands = []; targets = []; steps = []; blocks = []; abis = []; functions = r.functions; storages = x ∷ r.storages; application = 0; first = 0; work = 0 }
put (function n) r = record { operands = []; targets = []; steps = []; blocks = []; abis = []; functions = function_of n r ∷ r.functions; storages = []; application = 0; first = 0; work = 0 }
put (abi x) r = record { operands = []; targets = []; steps = []; blocks = r.blocks; abis = x ∷ r.abis; functions = r.functions; storages = []; application = 0; first = 0; work = 0 }
put (block id) r = record { operands = []; targets = []; steps = []; blocks = block_of id r ∷ r.blocks; abis = []; functions = r.functions; storages = []; application = 0; first = 0; work = 0 }
put (instruction op sub fn) r = put_step (step_of false op sub fn r) r
put (operand x) r = record { operands = x ∷ r.operands; targets = r.targets; steps = r.steps; blocks = r.blocks; abis = []; functions = r.functions; storages = []; application = 0; first = 0; work = 0 }
put (terminator op sub fn) r = put_step (step_of true op sub fn r) r
put (target id) r = record { operands = []; targets = id ∷ r.targets; steps = r.steps; blocks = r.blocks; abis = []; functions = r.functions; storages = []; application = 0; first = 0; work = 0 }
put end r = empty

unfoldable pub gather : List Rec → Rest
gather [] = empty
gather (x ∷ xs) = put x (gather xs)

abbrev pub program_in : Rest → Program
program_in r = record { application = r.application; first = r.first; work = r.work; storages = r.storages; functions = r.functions }

-- the program of a byte list that check accepts
unfoldable pub program : Edition → List ℕ → Program
program ed f = program_in (gather (records ed f))
