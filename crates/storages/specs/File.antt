-- Document 01, "The program file" (order): the storage records of a file stand one after another behind its header, each of 16 bytes.
use Rattle.std.specs.Prelude.{Bool, List, [], ◌∷◌, ℕ, zero, suc, leb, eqb, length, drop}
use Rattle.fields.specs.Pick.{pick, ◌and◌}
use Rattle.fields.specs.Record.{Storage, u8_at, storage_in}

-- A storage record stands at the front of a tail.
unfoldable pub opens_storage : List ℕ → Bool
opens_storage t = leb 16 (length t) and eqb (u8_at t 0) 1

-- The storages that stand there one after another; those of a file.
unfoldable pub storages_by : ℕ → List ℕ → List Storage
storages_by zero t = []
storages_by (suc k) t = pick (opens_storage t) (storage_in t ∷ storages_by k (drop 16 t)) []

unfoldable pub declared : List ℕ → List Storage
declared file = storages_by (length file) (drop 7 file)
