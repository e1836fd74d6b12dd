-- Document 01, "The program file" (units): units are numbered by first appearance in ABI records and operands.
use Rattle.std.specs.Prelude.{ℕ, suc, List, [], ◌∷◌, ◌++◌, eqb}
use Rattle.fields.specs.Pick.{pick, has}

-- The number of a unit is the first place of its word among the units; where it is not there, the number of units.
unfoldable pub number_in : ℕ → List ℕ → ℕ
number_in word [] = 0
number_in word (u ∷ us) = pick (eqb word u) 0 (suc (number_in word us))

-- The units with one more, unless it is there.
unfoldable pub noted : ℕ → List ℕ → List ℕ
noted word us = pick (has word us) us (us ++ (word ∷ []))

-- What stands for a number where a record names no unit.
abbrev pub no_unit : ℕ
no_unit = 65535
