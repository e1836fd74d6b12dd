-- Document 01, "The program file" and "Refusal numbers": the whole file, record by record from the front.
use Rattle.std.specs.Prelude.{ℕ, zero, suc, ◌+◌, List, [], ◌∷◌, ltb, eqb, length, take as take_n, drop}
use Rattle.fields.specs.Pick.{pick}
use Rattle.fields.specs.Edition.{Edition}
use Rattle.fields.specs.Record.{Rec, Read, whole, fault, read, record_at}
use Rattle.records.specs.Step.{State, start, Turn, next, refused, step, at_end}
use Rattle.records.specs.declared.Refusal.{Refusal}
use Rattle.records.specs.declared.Refusal.TheVariants.{Form, Limit}

-- By whether a tail is empty.
unfoldable pub at_tail : {A : Type 0} → List ℕ → A → A → A
at_tail [] a b = a
at_tail (x ∷ t) a b = b

abbrev Go : Type 0
Go = State → ℕ → List ℕ → Turn

-- After a record: on with the rest of the tail, or refused.
abbrev pub by_turn : Go → ℕ → List ℕ → Turn → Turn
by_turn go at t (next s) = go s at t
by_turn go at t (refused x) = refused x

abbrev pub by_read : Go → Edition → State → ℕ → List ℕ → Read → Turn
by_read go ed s at t (whole len x) = by_turn go (at + len) (drop len t) (step ed s at x)
by_read go ed s at t fault = refused (Form at)

-- The records of a tail that begins at a place, up to the tail's end. Every record takes a byte at least, so that a fuel of its length lasts.
unfoldable pub scan_by : ℕ → Edition → State → ℕ → List ℕ → Turn
scan_by zero ed s at t = at_tail t (next s) (refused (Form at))
scan_by (suc k) ed s at t = at_tail t (next s) (by_read (scan_by k ed) ed s at t (read ed t))

unfoldable pub scan : Edition → State → ℕ → List ℕ → Turn
scan ed s at t = scan_by (length t) ed s at t

-- The answer: the unit words (their number is the unit count), or a refusal.
pub data Answer : Type 0 where
  units : List ℕ → Answer
  refusal : Refusal → Answer

-- The file must stop right after the end record. Where the bytes run out before it, the kind byte that is missing is looked for at the file's length.
abbrev pub closed : ℕ → Turn → Answer
closed n (next s) = pick (eqb s.stage at_end) (units s.units) (refusal (Form n))
closed n (refused x) = refusal x

-- The length of the file is judged before any record. A lent buffer's length comes earlier still (Outcome.antt).
unfoldable pub check : Edition → List ℕ → Answer
check ed f = pick (ltb ed.bytes (length f)) (refusal (Limit ed.bytes)) (closed (length f) (scan ed start 0 f))

-- The unit number of each ABI record and operand of an accepted file, in file order.
abbrev pub numbers_after : Turn → List ℕ
numbers_after (next s) = s.numbers
numbers_after (refused x) = []

unfoldable pub numbers : Edition → List ℕ → List ℕ
numbers ed f = numbers_after (scan ed start 0 f)

-- The records and their bytes: a tail cut into pieces, one a record, up to where there is none.
abbrev pub by_piece : (List ℕ → List (List ℕ)) → List ℕ → Read → List (List ℕ)
by_piece go t (whole len x) = take_n len t ∷ go (drop len t)
by_piece go t fault = []

unfoldable pub pieces_by : ℕ → Edition → List ℕ → List (List ℕ)
pieces_by zero ed t = []
pieces_by (suc k) ed t = at_tail t [] (by_piece (pieces_by k ed) t (read ed t))

unfoldable pub pieces : Edition → List ℕ → List (List ℕ)
pieces ed f = pieces_by (length f) ed f

unfoldable pub records_in : Edition → List (List ℕ) → List Rec
records_in ed [] = []
records_in ed (p ∷ ps) = record_at ed p ∷ records_in ed ps

unfoldable pub records : Edition → List ℕ → List Rec
records ed f = records_in ed (pieces ed f)

-- Where each piece's kind byte stands, from a place on.
unfoldable pub places_in : ℕ → List (List ℕ) → List ℕ
places_in at [] = []
places_in at (p ∷ ps) = at ∷ places_in (at + length p) ps

unfoldable pub places : Edition → List ℕ → List ℕ
places ed f = places_in 0 (pieces ed f)
