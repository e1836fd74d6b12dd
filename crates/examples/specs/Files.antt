-- The files of the examples, byte for byte.
use Rattle.std.specs.Prelude.{ℕ, zero, suc, List, [], ◌∷◌, ◌++◌}

-- Application bytes, those of them that are reserved, and work bytes.
unfoldable pub sizes : ℕ → ℕ → ℕ → List ℕ
sizes a f w = 0 ∷ a ∷ 0 ∷ f ∷ 0 ∷ w ∷ 0 ∷ []

-- 32 application bytes of which 16 are reserved, 8 work bytes.
unfoldable pub header : List ℕ
header = sizes 32 16 8

-- A storage of length 1: id, owner, kind, regions, direct, fixed code with its two numbers. Both bytes of the owner are alike: 0 is function 0, 255 the program.
unfoldable pub declaring : ℕ → ℕ → ℕ → ℕ → ℕ → ℕ → ℕ → ℕ → List ℕ
declaring id owner kind regions direct code a b =
    1 ∷ id ∷ 0 ∷ owner ∷ owner ∷ kind ∷ 1 ∷ 0 ∷ regions ∷ 0 ∷ direct ∷ code ∷ a ∷ 0 ∷ b ∷ 0 ∷ []

-- A storage of function 0, by id and kind, that may go to the regions of a mask.
unfoldable pub storage : ℕ → ℕ → ℕ → List ℕ
storage id kind regions = declaring id 0 kind regions 0 0 0 0

-- A byte of function 0 that must be direct.
unfoldable pub direct_byte : ℕ → ℕ → List ℕ
direct_byte id regions = declaring id 0 1 regions 1 0 0 0

-- A storage of function 0, by id and kind, that is fixed at a code with its two numbers.
unfoldable pub fixed : ℕ → ℕ → ℕ → ℕ → ℕ → List ℕ
fixed id kind code a b = declaring id 0 kind 0 0 code a b

-- Bits 0 to n - 1 of the program, which may go to application RAM only, in front of what follows.
unfoldable pub bits : ℕ → List ℕ → List ℕ
bits zero rest = rest
bits (suc n) rest = bits n (declaring n 255 0 4 0 0 0 0 ++ rest)

-- Function 0 with one block, of id 0, and a CopyByte in it that wants two operands.
unfoldable pub copying : List ℕ
copying = 2 ∷ 0 ∷ 4 ∷ 0 ∷ 0 ∷ 5 ∷ 0 ∷ 0 ∷ 0 ∷ []

-- An operand: lane 0 of a storage; an immediate.
unfoldable pub lane : ℕ → ℕ → List ℕ
lane field id = 6 ∷ field ∷ 1 ∷ id ∷ 0 ∷ 0 ∷ 0 ∷ []

unfoldable pub immediate : ℕ → ℕ → List ℕ
immediate field n = 6 ∷ field ∷ 0 ∷ 0 ∷ 0 ∷ n ∷ 0 ∷ []

-- Return, and the end of the file.
unfoldable pub return : List ℕ
return = 7 ∷ 5 ∷ 0 ∷ 0 ∷ 9 ∷ []

-- Document 01, "Worked run": 101 bytes.
unfoldable pub worked : List ℕ
worked =
    header ++ storage 0 1 4 ++ storage 1 1 4 ++ storage 2 0 68
    ++ copying ++ lane 0 0 ++ immediate 1 5
    ++ (5 ∷ 0 ∷ 0 ∷ 0 ∷ []) ++ lane 0 1 ++ lane 1 0
    ++ return

-- The second operand of the copy is missing.
unfoldable pub unfinished : List ℕ
unfinished = header ++ storage 0 1 4 ++ copying ++ lane 0 0 ++ return

-- Id 7 is declared twice.
unfoldable pub twice : List ℕ
twice = header ++ storage 7 1 4 ++ storage 7 0 4 ++ copying ++ lane 0 7 ++ immediate 1 5 ++ return

-- No storage has id 3.
unfoldable pub unknown : List ℕ
unknown = header ++ storage 0 1 4 ++ copying ++ lane 0 3 ++ immediate 1 5 ++ return

-- Functions n - 1 down to 0, all of them empty.
unfoldable pub functions : ℕ → List ℕ
functions zero = []
functions (suc n) = 2 ∷ n ∷ functions n

unfoldable pub crowded : List ℕ
crowded = header ++ functions 65 ++ (9 ∷ [])

-- One function, 0, that has no block, and the end of the file.
unfoldable pub idle : List ℕ
idle = 2 ∷ 0 ∷ 9 ∷ []

unfoldable pub no_blocks : List ℕ
no_blocks = header ++ idle

-- The one block, of id 5, of function 0 pushes lane 0 of storage 0 and jumps to the block of an id.
unfoldable pub jumping : ℕ → List ℕ
jumping id = header ++ storage 0 1 4 ++ (2 ∷ 0 ∷ 4 ∷ 5 ∷ 0 ∷ 5 ∷ 14 ∷ 0 ∷ 0 ∷ []) ++ lane 0 0 ++ (7 ∷ 0 ∷ 0 ∷ 0 ∷ 8 ∷ id ∷ 0 ∷ 9 ∷ [])

-- Function 0 pops lane 0 of storage 1, calls function 1, pushes lane 0 of storage 0 and traps. Function 1 clobbers storage 0 and has no block.
unfoldable pub clobbering : List ℕ
clobbering =
    header ++ storage 0 1 4 ++ storage 1 1 4
    ++ (2 ∷ 0 ∷ 4 ∷ 0 ∷ 0 ∷ 5 ∷ 15 ∷ 0 ∷ 0 ∷ []) ++ lane 0 1
    ++ (5 ∷ 27 ∷ 0 ∷ 1 ∷ 5 ∷ 14 ∷ 0 ∷ 0 ∷ []) ++ lane 0 0 ++ (7 ∷ 6 ∷ 0 ∷ 0 ∷ [])
    ++ (2 ∷ 1 ∷ 3 ∷ 2 ∷ 3 ∷ 0 ∷ 0 ∷ 0 ∷ 0 ∷ 9 ∷ [])

-- All application bytes are reserved, and storage 7 wants one of them.
unfoldable pub all_reserved : List ℕ
all_reserved = sizes 16 16 0 ++ direct_byte 7 4 ++ idle

-- One application byte, and n bits of the program that want it.
unfoldable pub bits_in_byte : ℕ → List ℕ
bits_in_byte n = sizes 1 0 0 ++ bits n idle

-- Byte 3 fixed at shadow byte 0, and byte 4 at work byte 0.
unfoldable pub shadowed : List ℕ
shadowed = sizes 16 0 8 ++ fixed 3 1 5 0 0 ++ fixed 4 1 10 0 0 ++ idle

-- A storage of a kind, with id 5, fixed at bit 3 of application byte 2.
unfoldable pub at_bit : ℕ → List ℕ
at_bit kind = sizes 16 0 0 ++ fixed 5 kind 4 2 3 ++ idle

-- Byte 9 must be direct and allows work RAM only.
unfoldable pub work_only : List ℕ
work_only = sizes 16 0 4 ++ direct_byte 9 64 ++ idle

-- There are no work bytes, and byte 6 may go to work RAM only.
unfoldable pub no_work : List ℕ
no_work = sizes 16 0 0 ++ storage 6 1 64 ++ idle
