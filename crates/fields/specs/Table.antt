-- The table of fields as numbers, as the code holds it: a row is a word, a field is a byte, class + 8 × count + 32 if written + 64 if read; 0 is no field.
use Rattle.std.specs.Prelude.{ℕ, ◌+◌, ◌*◌, ◌/◌, ◌%◌, Bool, true, false, List, [], ◌∷◌, eqb, get_or}
use Rattle.fields.specs.Pick.{pick, ◌or◌}
use Rattle.fields.specs.Fields.{Class, Count, Field, D, Y, B, T, W, «V», O, single, optional, star, pair, none, missing}

abbrev pub class_number : Class → ℕ
class_number D = 1
class_number Y = 2
class_number B = 3
class_number T = 4
class_number W = 5
class_number «V» = 6
class_number O = 7

abbrev pub count_number : Count → ℕ
count_number single = 0
count_number optional = 1
count_number star = 2
count_number pair = 3
count_number none = 0

abbrev pub bit : Bool → ℕ
bit true = 1
bit false = 0

abbrev pub byte_by : Count → ℕ → ℕ
byte_by single n = n
byte_by optional n = n
byte_by star n = n
byte_by pair n = n
byte_by none n = 0

unfoldable pub byte_of : Field → ℕ
byte_of x = byte_by x.count (class_number x.class + 8 * count_number x.count + 32 * bit x.written + 64 * bit x.read)

-- The first field is the lowest byte.
unfoldable pub row_word : List Field → ℕ
row_word [] = 0
row_word (x ∷ xs) = byte_of x + 256 * row_word xs

-- An entry of the constant: the row, and in the highest byte how many operands it must have.
abbrev pub above : ℕ
above = 72057594037927936

unfoldable pub entry_of : List Field → ℕ
entry_of row = row_word row + missing row 0 [] * above

-- What a byte says: how many operands at most; whether so many lack one; which shapes a class takes; its greatest immediate.
unfoldable pub most_in : ℕ → ℕ
most_in b = pick (eqb b 0) 0 (get_or (1 ∷ 1 ∷ 16 ∷ 2 ∷ []) (b / 8 % 4) 0)

unfoldable pub lacks_in : ℕ → ℕ → ℕ
lacks_in b n = pick (eqb b 0) 0 (pick (eqb (b / 8 % 4) 0) (pick (eqb n 0) 1 0) (pick (eqb (b / 8 % 4) 3) (pick (eqb n 1) 1 0) 0))

unfoldable pub takes_in : ℕ → ℕ → Bool
takes_in class s =
    pick (eqb class 1) (eqb s 1)
    (pick (eqb class 2) (eqb s 0 or eqb s 1)
    (pick (eqb class 3) (eqb s 2)
    (pick (eqb class 4) (eqb s 0 or eqb s 2)
    (pick (eqb class 5) (eqb s 1 or eqb s 2)
    (pick (eqb class 6) (eqb s 0 or (eqb s 1 or eqb s 2))
    (eqb s 3))))))

unfoldable pub greatest_in : ℕ → ℕ
greatest_in class = pick (eqb class 4) 1 255
