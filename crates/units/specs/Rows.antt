-- Document 01, "Refusal numbers" (rows): a set of units, and a set of storages, as a row of words.
use Rattle.std.specs.Prelude.{Bool, List, ℕ, ltb, length, get_or}
use Rattle.rows.specs.Row.{pack}
use Rattle.fields.specs.Pick.{◌and◌, has}
use Rattle.fields.specs.Edition.{Edition}
use Rattle.units.specs.Uses.{storages_of}

-- Number n stands for the n-th unit: it is in a set where that unit's word is.
abbrev pub listed : List ℕ → List ℕ → ℕ → Bool
listed us set n = ltb n (length us) and has (get_or us n 0) set

-- A set of units, of which the file has the units us.
unfoldable pub unit_row : Edition → List ℕ → List ℕ → List ℕ
unit_row ed us set = pack ed.unit_words (listed us set)

-- The storages of a set of units.
unfoldable pub storage_row : Edition → List ℕ → List ℕ
storage_row ed set = pack ed.storage_words (λ i. has i (storages_of ed set))
