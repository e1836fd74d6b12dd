-- What the queries do on the way to their answers: the contracts of the functions behind them. No public contract cites it.
use Rattle.std.specs.Prelude.{◌≡◌, ◌⊎◌, Some, true, List, [], ◌∷◌, ℕ, zero, suc, ◌≤◌, length, get_or, Result, Ok, Err}
use Rattle.rows.specs.Row.{member}
use Rattle.fields.specs.Pick.{pick, has}
use Rattle.fields.specs.Edition.{one}
use Rattle.records.specs.Check.{units, refusal, check}
use Rattle.records.specs.Outcome.{laid}
use Rattle.records.specs.Program.{Step, Function, program}
use Rattle.records.specs.Place.{step, nowhere, step_at}
use Rattle.records.specs.declared.Refusal.{Refusal}
use Rattle.records.specs.declared.Refusal.TheVariants.{Absent}
use Rattle.units.specs.Uses.{reads, writes, storage_of}
use Rattle.units.specs.Rows.{unit_row}
use Rattle.units.specs.Along.{Sane, Ready, Locates, SoundBoth}
use Rattle.units.specs.declared.locate.Site.{Site}
use Rattle.units.specs.declared.ask.Uses.{Uses}

-- The file is refused, or it is accepted and no step begins at the place.
pub record Absence (f : List ℕ) (place : ℕ) (x : Refusal) : Type 0 where
  pub us : List ℕ
  pub accepted : check one f ≡ units us
  pub away : step_at one f place ≡ nowhere
  pub says : x ≡ Absent place

abbrev pub Refuses : List ℕ → ℕ → Refusal → Type 0
Refuses f place x = (check one f ≡ refusal x) ⊎ Absence f place x

-- An accepted file has a step at the place; its unit words, its unit numbers and its table of functions are laid down.
pub record Reached (f : List ℕ) (place : ℕ) (site : Site) (words found table : List ℕ) : Type 0 where
  pub us : List ℕ
  pub words_are : words ≡ laid 512 us []
  pub ready : Ready f us found table
  pub sane : Sane table
  pub short : length f ≤ 16384
  pub sound : SoundBoth f (Some site)
  pub located : Locates f place (Some site)

abbrev pub Seeks : List ℕ → ℕ → Result Site Refusal → List ℕ → List ℕ → List ℕ → Type 0
Seeks f place (Ok site) words found table = Reached f place site words found table
Seeks f place (Err x) words found table = Refuses f place x × (words ≡ laid 512 [] [])

-- The rows of the step at a place, with the unit words; or a refusal, and the words are 0.
pub record Shown (f : List ℕ) (place : ℕ) (words reads' writes' : List ℕ) : Type 0 where
  pub us : List ℕ
  pub fn : Function
  pub st : Step
  pub accepted : check one f ≡ units us
  pub there : step_at one f place ≡ step fn st
  pub words_are : words ≡ laid 512 us []
  pub reads_are : reads' ≡ unit_row one us (reads one (program one f) fn st)
  pub writes_are : writes' ≡ unit_row one us (writes one (program one f) st)

abbrev pub Shows : List ℕ → ℕ → Result Uses Refusal → List ℕ → Type 0
Shows f place (Ok uses) words = Shown f place words uses.reads uses.writes
Shows f place (Err x) words = Refuses f place x × (words ≡ laid 512 [] [])

-- Every word of a set is one of the units.
abbrev pub Within : List ℕ → List ℕ → Type 0
Within set us = (word : ℕ) → has word set ≡ true → has word us ≡ true

-- The storages of the units with numbers below n whose bits are set.
unfoldable pub storages_below : List ℕ → List ℕ → ℕ → List ℕ
storages_below words row zero = []
storages_below words row (suc n) = pick (member row n) (storage_of one (get_or words n 0) ∷ storages_below words row n) (storages_below words row n)
