-- What the placing of all storages of a file is asked and leaves, against the outcome of the definition.
use Rattle.std.specs.Prelude.{◌≡◌, true, List, [], ℕ, ◌≤◌, length, Result, Ok, Err}
use Rattle.fields.specs.Pick.{All}
use Rattle.fields.specs.Edition.{one}
use Rattle.fields.specs.Record.{storage_fits}
use Rattle.records.specs.Outcome.{laid}
use Rattle.storages.specs.File.{declared}
use Rattle.places.specs.Place.{State, Outcome, done, refused, records_of}
use Rattle.allocator.specs.declared.all.Allocated.{Allocated}
use Rattle.records.specs.declared.Refusal.{Refusal}

-- What the placing of all storages leaves: how many were placed, how many slots were opened, and the result records; or the first refusal.
abbrev pub Allocates : Outcome → Result Allocated Refusal → List ℕ → Type 0
Allocates o (Ok r) out =
    (x : State) × (o ≡ done x) × (r.placed ≡ length x.placed) × (r.slots ≡ length x.slots) × (out ≡ laid 2048 (records_of x.placed) [])
Allocates o (Err r) out = o ≡ refused r

-- The storages of a file fit its form and are at most 256. An accepted file has such.
pub record Fit (file : List ℕ) : Type 0 where
  pub each : All (λ x. storage_fits one x ≡ true) (declared file)
  pub most : length (declared file) ≤ 256
