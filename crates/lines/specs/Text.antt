-- The first lines of a report, as lists of bytes: the text of a number, of a unit, of all units and of a refusal (docs/DECISIONS.md, "Programs").
use Rattle.std.specs.Prelude.{ℕ, zero, suc, ◌/◌, ◌%◌, min, cond, ◌≡◌, List, [], ◌∷◌, ◌++◌, ltb, eqb, get_or, Result, Ok, Err}
use Rattle.io.specs.Digits.{last_digits}
use Rattle.records.specs.Refusal.{number_of, value_of}
use Rattle.records.specs.declared.Refusal.{Refusal}

-- One text follows another: `after` is `before` with `text` behind it.
pub record Follows (before text after : List ℕ) : Type 0 where
  pub same : after ≡ before ++ text

-- How many digits a number has in decimal, where at most `more` follow the first.
abbrev pub width_by : ℕ → ℕ → ℕ
width_by zero n = 1
width_by (suc more) n = cond (ltb n 10) 1 (suc (width_by more (n / 10)))

-- A number in decimal, without zeros in front. Twenty digits hold every number of 64 bits.
unfoldable pub decimal : ℕ → List ℕ
decimal n = last_digits 10 (width_by 19 n) n

-- The words that stand in a line: " ", the end of a line, "unit ", "units ", "refused ", " lane ", " bit " and " object ".
abbrev pub space : List ℕ
space = 32 ∷ []

abbrev pub newline : List ℕ
newline = 10 ∷ []

abbrev pub unit_word : List ℕ
unit_word = 117 ∷ 110 ∷ 105 ∷ 116 ∷ 32 ∷ []

abbrev pub units_word : List ℕ
units_word = 117 ∷ 110 ∷ 105 ∷ 116 ∷ 115 ∷ 32 ∷ []

abbrev pub refused_word : List ℕ
refused_word = 114 ∷ 101 ∷ 102 ∷ 117 ∷ 115 ∷ 101 ∷ 100 ∷ 32 ∷ []

abbrev pub lane : List ℕ
lane = 32 ∷ 108 ∷ 97 ∷ 110 ∷ 101 ∷ 32 ∷ []

abbrev pub bit : List ℕ
bit = 32 ∷ 98 ∷ 105 ∷ 116 ∷ 32 ∷ []

abbrev pub object : List ℕ
object = 32 ∷ 111 ∷ 98 ∷ 106 ∷ 101 ∷ 99 ∷ 116 ∷ 32 ∷ []

-- The shape of a unit between two spaces: " lane ", " bit " or " object ".
unfoldable pub shape_text : ℕ → List ℕ
shape_text shape = cond (eqb shape 1) lane (cond (eqb shape 2) bit object)

-- One unit from its number and its word: "unit ", the number, the shape, the storage and the offset.
unfoldable pub unit_line : ℕ → ℕ → List ℕ
unit_line number unit =
    unit_word
    ++ decimal number
    ++ shape_text (unit / 16777216)
    ++ decimal (unit / 65536 % 256)
    ++ space
    ++ decimal (unit % 65536)
    ++ newline

-- The lines of the first n units, in the order of their numbers.
abbrev pub unit_lines : ℕ → List ℕ → List ℕ
unit_lines zero units = []
unit_lines (suc n) units = unit_lines n units ++ unit_line n (get_or units n 0)

-- The count of the units on a line of its own.
unfoldable pub head_text : ℕ → List ℕ
head_text count = units_word ++ decimal count ++ newline

-- That line, and a line for each unit, of which there are at most 512.
abbrev pub units_text : ℕ → List ℕ → List ℕ
units_text count units = head_text count ++ unit_lines (min count 512) units

-- "refused ", then the refusal's number and its value.
unfoldable pub refusal_text : Refusal → List ℕ
refusal_text r =
    refused_word
    ++ decimal (number_of r)
    ++ space
    ++ decimal (value_of r)
    ++ newline

-- The whole text for an answer of `check` and the unit words that it left.
abbrev pub answer_text : Result ℕ Refusal → List ℕ → List ℕ
answer_text (Ok count) units = units_text count units
answer_text (Err r) units = refusal_text r
