-- What is noted at the steps of a program, in buffers of rows: which units each storage meets, which storages are copied, whose address is taken. Document
-- 01, "Liveness and interference". Row i of a buffer stands at i times the row's words. The laws of proofs/Meeting.antt say what this means for units.
use Rattle.std.specs.Prelude.{Bool, List, [], ◌∷◌, map, ℕ, zero, suc, ◌*◌, min, max, get_or}
use Rattle.rows.specs.Row.{with_at, row, put, or_row, less_row}
use Rattle.fields.specs.Pick.{pick}
use Rattle.fields.specs.Edition.{one}
use Rattle.units.specs.Sets.{each}
use Rattle.units.specs.Uses.{storage_of}
use Rattle.meetings.specs.Members.{members}

-- The storage of unit number n, of which `words` holds the words; of several.
abbrev pub storage_at : List ℕ → ℕ → ℕ
storage_at words n = storage_of one (get_or words n 0)

unfoldable pub storages_at : List ℕ → List ℕ → List ℕ
storages_at words ns = map (storage_at words) ns

-- Each pair (i, n) puts number n into row i, of rows of w words.
unfoldable pub paired : ℕ → List (ℕ × ℕ) → List ℕ → List ℕ
paired w [] ws = ws
paired w (p ∷ ps) ws = paired w ps (with_at ws (p.0 * w) p.1)

-- The units of each storage: those numbered from k on, n of them.
unfoldable pub unit_pairs : List ℕ → ℕ → ℕ → List (ℕ × ℕ)
unit_pairs words k zero = []
unit_pairs words k (suc n) = (storage_at words k, k) ∷ unit_pairs words (suc k) n

unfoldable pub unit_rows : List ℕ → ℕ → List ℕ → List ℕ
unit_rows words count rows = paired 8 (unit_pairs words 0 count) rows

-- A row without the numbers of some rows of a buffer; the rows of a buffer with a row put into some of them.
unfoldable pub less_rows : List ℕ → List ℕ → List ℕ → List ℕ
less_rows rows [] x = x
less_rows rows (i ∷ is) x = less_rows rows is (less_row x (row rows (i * 8) 8))

unfoldable pub poured : List ℕ → List ℕ → List ℕ → List ℕ
poured x [] meets = meets
poured x (i ∷ is) meets = poured x is (put meets (i * 8) (or_row (row meets (i * 8) 8) x))

-- What a step wants, given the row of what is live after it and of what it reads: both, and at a copy less the units of the storages that it reads.
unfoldable pub wanted : List ℕ → List ℕ → List ℕ → List ℕ → Bool → List ℕ
wanted rows words live reads copies =
    pick copies (less_rows rows (storages_at words (members reads)) (or_row live reads)) (or_row live reads)

-- The storage of each unit that the step writes meets all of that.
unfoldable pub met : List ℕ → List ℕ → List ℕ → List ℕ → List ℕ → List ℕ → Bool → List ℕ
met meets rows words live reads writes copies = poured (wanted rows words live reads copies) (storages_at words (members writes)) meets

-- The pairs of a copy: each storage that it writes with each that it reads, the smaller id first.
unfoldable pub pairs_to : ℕ → List ℕ → List (ℕ × ℕ)
pairs_to i is = map (λ j. (min i j, max i j)) is

unfoldable pub copy_pairs : List ℕ → List ℕ → List (ℕ × ℕ)
copy_pairs to from = each (λ i. pairs_to i from) to

unfoldable pub copies_noted : List ℕ → List ℕ → List ℕ → List ℕ → List ℕ
copies_noted copies words reads writes = paired 4 (copy_pairs (storages_at words (members writes)) (storages_at words (members reads))) copies

-- The storages that are read, in the one row of a buffer.
unfoldable pub addressed_noted : List ℕ → List ℕ → List ℕ → List ℕ
addressed_noted addressed words reads = paired 4 (map (λ i. (0, i)) (storages_at words (members reads))) addressed
