-- Document 01, "Refusal numbers": the number and the value of each refusal.
use Rattle.std.specs.Prelude.{ℕ}
use Rattle.records.specs.declared.Refusal.{Refusal}
use Rattle.records.specs.declared.Refusal.TheVariants.{Short, Form, Repeated, Undeclared, Limit, Absent, ApplicationFull, WorkFull, NoPlace, BadFixed, Conflict, Misfit}

-- Number 7 is not used.
abbrev pub number_of : Refusal → ℕ
number_of Short = 1
number_of (Form at) = 2
number_of (Repeated at) = 3
number_of (Undeclared at) = 4
number_of (Limit n) = 5
number_of (Absent n) = 6
number_of (ApplicationFull n) = 8
number_of (WorkFull n) = 9
number_of (NoPlace id) = 10
number_of (BadFixed id) = 11
number_of (Conflict id) = 12
number_of (Misfit id) = 13

-- A place in the file, a length, a count of bytes, the number asked, or a storage's id.
abbrev pub value_of : Refusal → ℕ
value_of Short = 0
value_of (Form at) = at
value_of (Repeated at) = at
value_of (Undeclared at) = at
value_of (Limit n) = n
value_of (Absent n) = n
value_of (ApplicationFull n) = n
value_of (WorkFull n) = n
value_of (NoPlace id) = id
value_of (BadFixed id) = id
value_of (Conflict id) = id
value_of (Misfit id) = id
