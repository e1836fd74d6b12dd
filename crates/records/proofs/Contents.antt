-- The program, along a walk: `rest`, what is gathered from a tail, one record at a time; `gather_in`: its storages are declared and its units numbered.
-- Assumes nothing.
use mathlib.Core.Path.{◌≡◌}
use mathlib.Core.Logic.{◌⊎◌}
use mathlib.Core.Bool.{true}
use mathlib.Core.List.{List, [], ◌∷◌}
use Prim.Native.Nat.{ℕ}
use lib.Dec.{eqb}
use lib.ListN.{drop}
use Rattle.fields.specs.Pick.{has, All}
use Rattle.fields.specs.Edition.{Edition}
use Rattle.fields.specs.Record.{Storage, Abi, Operand, Rec, header, storage, function, abi, block, instruction, operand, terminator, target, end, whole, read}
use Rattle.records.specs.Check.{records}
use Rattle.records.specs.Program.{Step, Block, Function, Rest, empty, put_step, put, gather}
use Rattle.records.proofs.Scan.{records_nil, records_whole}
use Rattle.records.proofs.Range.{Numbered, InRange}

-- The walk along the program -----------------------------------------------------------------------------------------------------------------

module _ (ed : Edition) where
  -- what is gathered from a tail
  abbrev pub rest : List ℕ → Rest
  rest t = gather (records ed t)

  pub rest_nil : rest [] ≡ empty
  unfolding gather
  rest_nil = rw (records_nil ed)

  pub rest_whole : (t : List ℕ) (len : ℕ) (x : Rec) → read ed t ≡ whole len x → rest t ≡ put x (rest (drop len t))
  unfolding gather
  rest_whole t len x e = rw (records_whole ed t len x e)

  -- Storages and units of the program --------------------------------------------------------------------------------------------------------

  module _ (ids us : List ℕ) where
    abbrev pub OperandIn : Operand → Type 0
    OperandIn x = (eqb x.shape 0 ≡ true) ⊎ Numbered ed ids us x.shape x.storage x.offset

    abbrev pub AbiIn : Abi → Type 0
    AbiIn x = Numbered ed ids us x.shape x.storage x.offset

    abbrev pub StorageIn : Storage → Type 0
    StorageIn x = has x.id ids ≡ true

    abbrev pub StepIn : Step → Type 0
    StepIn x = All OperandIn x.operands

    abbrev pub BlockIn : Block → Type 0
    BlockIn b = All StepIn b.steps

    pub record FunctionIn (f : Function) : Type 0 where
      pub abis : All AbiIn f.abis
      pub blocks : All BlockIn f.blocks

    pub record RestIn (r : Rest) : Type 0 where
      pub operands : All OperandIn r.operands
      pub steps : All StepIn r.steps
      pub blocks : All BlockIn r.blocks
      pub abis : All AbiIn r.abis
      pub functions : All FunctionIn r.functions
      pub storages : All StorageIn r.storages

    put_in : (x : Rec) (r : Rest) → InRange ed ids us x → RestIn r → RestIn (put x r)
    unfolding put put_step
    put_in (header a f w) r h k = record { operands = tt; steps = tt; blocks = tt; abis = tt; functions = k.functions; storages = k.storages }
    put_in (storage x) r h k = record { operands = tt; steps = tt; blocks = tt; abis = tt; functions = k.functions; storages = (h, k.storages) }
    put_in (function n) r h k =
        record { operands = tt; steps = tt; blocks = tt; abis = tt; functions = (record { abis = k.abis; blocks = k.blocks }, k.functions); storages = tt }
    put_in (abi x) r h k = record { operands = tt; steps = tt; blocks = k.blocks; abis = (h, k.abis); functions = k.functions; storages = tt }
    put_in (block id) r h k = record { operands = tt; steps = tt; blocks = (k.steps, k.blocks); abis = tt; functions = k.functions; storages = tt }
    put_in (instruction op sub fn) r h k = record { operands = tt; steps = (k.operands, k.steps); blocks = k.blocks; abis = tt; functions = k.functions; storages = tt }
    put_in (operand x) r h k = record { operands = (h, k.operands); steps = k.steps; blocks = k.blocks; abis = tt; functions = k.functions; storages = tt }
    put_in (terminator op sub fn) r h k = record { operands = tt; steps = (k.operands, k.steps); blocks = k.blocks; abis = tt; functions = k.functions; storages = tt }
    put_in (target id) r h k = record { operands = tt; steps = k.steps; blocks = k.blocks; abis = tt; functions = k.functions; storages = tt }
    put_in end r h k = record { operands = tt; steps = tt; blocks = tt; abis = tt; functions = tt; storages = tt }

    pub gather_in : (xs : List Rec) → All (InRange ed ids us) xs → RestIn (gather xs)
    unfolding gather
    gather_in [] h = record { operands = tt; steps = tt; blocks = tt; abis = tt; functions = tt; storages = tt }
    gather_in (x ∷ xs) h = put_in x (gather xs) h.0 (gather_in xs h.1)
