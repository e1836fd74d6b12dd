-- Document 01, "The program file": the fields of the operations and of the terminators, by number, and what each field takes.
use Rattle.std.specs.Prelude.{ℕ, suc, ◌+◌, Bool, true, false, List, [], ◌∷◌, ltb, leb, eqb, get_or}
use Rattle.fields.specs.Pick.{pick, ◌and◌, ◌or◌, times}

-- The classes of fields: D a byte lane; Y a lane or a number; B a bit; T a bit or the constant 0 or 1; W a lane or a bit; V lane, bit or number; O a whole object.
pub data Class : Type 0 where
  D Y B T W «V» O : Class

-- How many operands a field takes: exactly one; at most one; up to 16; none or two. And no field at all.
pub data Count : Type 0 where
  single optional star pair none : Count

-- What a field takes, and whether the operation writes it, reads it, or both.
pub record Field : Type 0 where
  pub class : Class
  pub count : Count
  pub written : Bool
  pub read : Bool

-- written: one, optional, star
abbrev pub w : Class → Field
w c = record { class = c; count = single; written = true; read = false }

abbrev pub w? : Class → Field
w? c = record { class = c; count = optional; written = true; read = false }

abbrev pub w* : Class → Field
w* c = record { class = c; count = star; written = true; read = false }

-- read: one, optional, star, none or two
abbrev pub r : Class → Field
r c = record { class = c; count = single; written = false; read = true }

abbrev pub r? : Class → Field
r? c = record { class = c; count = optional; written = false; read = true }

abbrev pub r* : Class → Field
r* c = record { class = c; count = star; written = false; read = true }

abbrev pub r² : Class → Field
r² c = record { class = c; count = pair; written = false; read = true }

-- written and also read
abbrev pub wr : Class → Field
wr c = record { class = c; count = single; written = true; read = true }

abbrev pub no_field : Field
no_field = record { class = O; count = none; written = false; read = false }

-- The field of a number, none past the row.
abbrev pub field_at : List Field → ℕ → Field
field_at row field = get_or row field no_field

-- The fields of each operation; those that it writes stand first.
unfoldable pub table : List (List Field)
table =
    (w D ∷ r Y ∷ [])  -- 0 CopyByte
    ∷ (w B ∷ r T ∷ [])  -- 1 CopyBit
    ∷ (w B ∷ [])  -- 2 SetBit
    ∷ (w B ∷ [])  -- 3 ClearBit
    ∷ (wr B ∷ [])  -- 4 ToggleBit, also read
    ∷ (w D ∷ r Y ∷ [])  -- 5 ByteUnary
    ∷ (w D ∷ r Y ∷ r Y ∷ [])  -- 6 ByteBinary
    ∷ (w D ∷ w? B ∷ r Y ∷ r Y ∷ r? B ∷ [])  -- 7 Add
    ∷ (w D ∷ w? B ∷ r Y ∷ r Y ∷ r? B ∷ [])  -- 8 Subtract
    ∷ (w D ∷ w D ∷ w D ∷ r Y ∷ r Y ∷ r Y ∷ [])  -- 9 Multiply
    ∷ (w D ∷ w D ∷ w D ∷ r Y ∷ r Y ∷ r Y ∷ [])  -- 10 Divide
    ∷ (w D ∷ w? B ∷ r Y ∷ r? B ∷ [])  -- 11 Rotate
    ∷ (w D ∷ r* Y ∷ [])  -- 12 LoadIndirect
    ∷ (r* Y ∷ r Y ∷ [])  -- 13 StoreIndirect
    ∷ (r Y ∷ [])  -- 14 Push
    ∷ (w D ∷ [])  -- 15 Pop
    ∷ (w D ∷ w D ∷ r O ∷ [])  -- 16 AddressOf
    ∷ (w D ∷ w D ∷ [])  -- 17 FunctionAddress
    ∷ (w* D ∷ r* Y ∷ r* Y ∷ [])  -- 18 ShiftBytes
    ∷ (w B ∷ r* Y ∷ r* Y ∷ [])  -- 19 CompareBytes
    ∷ (w D ∷ r T ∷ r Y ∷ r Y ∷ [])  -- 20 SelectByte
    ∷ (w B ∷ r T ∷ r T ∷ r T ∷ [])  -- 21 SelectBit
    ∷ (w D ∷ r T ∷ [])  -- 22 BitToByte
    ∷ (w B ∷ r Y ∷ [])  -- 23 ByteToBit
    ∷ (w* D ∷ r* Y ∷ [])  -- 24 SignExtend
    ∷ (w* D ∷ r* Y ∷ [])  -- 25 IntegerUnaryBytes
    ∷ (w* D ∷ r* Y ∷ r* Y ∷ [])  -- 26 IntegerBinaryBytes
    ∷ []  -- 27 Call
    ∷ (w* W ∷ w* O ∷ r² Y ∷ r* W ∷ [])  -- 28 CallIndirect
    ∷ (w* W ∷ r* «V» ∷ [])  -- 29 Intrinsic
    ∷ []

unfoldable pub fields_of : ℕ → List Field
fields_of op = get_or table op []

-- A branch reads one bit, one byte or two bytes, by its condition (sub).
unfoldable pub branch_fields : List (List Field)
branch_fields =
    (r B ∷ []) ∷ (r B ∷ []) ∷ (r Y ∷ []) ∷ (r Y ∷ []) ∷ (r B ∷ []) ∷ (r B ∷ []) ∷ (r Y ∷ r Y ∷ []) ∷ (r Y ∷ r Y ∷ []) ∷ []

-- The terminators: 0 Jump, 1 Branch, 2 Switch, 3 TailCall, 4 TailCallIndirect (the fields of operation 28), 5 Return, 6 Trap, 7 Unreachable.
unfoldable pub end_fields_of : ℕ → ℕ → List Field
end_fields_of op sub =
    pick (eqb op 1) (get_or branch_fields sub [])
    (pick (eqb op 2) (r* Y ∷ [])
    (pick (eqb op 4) (fields_of 28) []))

-- A jump has one target, a branch two, a switch one to 256, the others none: the least number and the greatest.
unfoldable pub least_targets : ℕ → ℕ
least_targets op = get_or (1 ∷ 2 ∷ 1 ∷ []) op 0

unfoldable pub most_targets : ℕ → ℕ
most_targets op = get_or (1 ∷ 2 ∷ 256 ∷ []) op 0

-- Sub tells the kind of operation 26 (nine of them) and of a branch (eight), function names a callee in 17, 27 and TailCall: elsewhere both are 0.
unfoldable pub instruction_fits : ℕ → ℕ → ℕ → Bool
instruction_fits op sub function =
    ltb op 30 and (pick (eqb op 26) (ltb sub 9) (eqb sub 0) and (eqb op 17 or (eqb op 27 or eqb function 0)))

unfoldable pub terminator_fits : ℕ → ℕ → ℕ → Bool
terminator_fits op sub function = ltb op 8 and (pick (eqb op 1) (ltb sub 8) (eqb sub 0) and (eqb op 3 or eqb function 0))

-- How many operands a field takes at most, and how many it lacks when it has n: a single one lacks its operand, a pair the second of its two.
abbrev pub most : Count → ℕ
most single = 1
most optional = 1
most star = 16
most pair = 2
most none = 0

abbrev pub lacks : Count → ℕ → ℕ
lacks single n = pick (eqb n 0) 1 0
lacks optional n = 0
lacks star n = 0
lacks pair n = pick (eqb n 1) 1 0
lacks none n = 0

-- Of the fields of a row, numbered from k on, how many lack an operand; `given` has the field of each operand that is there.
unfoldable pub missing : List Field → ℕ → List ℕ → ℕ
missing [] k given = 0
missing (x ∷ xs) k given = lacks x.count (times k given) + missing xs (suc k) given

-- Shape 0 is an immediate, 1 a byte lane, 2 a bit, 3 an object: those that a class takes.
abbrev pub takes : Class → ℕ → Bool
takes D s = eqb s 1
takes Y s = eqb s 0 or eqb s 1
takes B s = eqb s 2
takes T s = eqb s 0 or eqb s 2
takes W s = eqb s 1 or eqb s 2
takes «V» s = eqb s 0 or (eqb s 1 or eqb s 2)
takes O s = eqb s 3

-- The greatest immediate: a byte's, or 1 in the class that wants a bit.
abbrev pub greatest : Class → ℕ
greatest D = 255
greatest Y = 255
greatest B = 255
greatest T = 1
greatest W = 255
greatest «V» = 255
greatest O = 255

-- An immediate has storage 0 and its value for offset; a bit and an object have offset 0; a lane has any.
unfoldable pub well_formed : ℕ → ℕ → ℕ → ℕ → Bool
well_formed top shape storage offset =
    pick (eqb shape 0) (eqb storage 0 and leb offset top) (pick (eqb shape 1) true (eqb offset 0))
