-- What the program `place` prints of a file, as a list of bytes (docs/DECISIONS.md, "Programs"), and what a page does with a text that is put on it.
use Rattle.std.specs.Prelude.{◌≡◌, ℕ, List, ◌++◌, replicate, take, Result, Ok, Err}
use Rattle.std.specs.Io.KnownBytes.{Appends}
use Rattle.std.specs.declared.option.Option.{Option}
use Rattle.fields.specs.Edition.{one}
use Rattle.lines.specs.Placed.{placed_text, refused_text}
use Rattle.lines.specs.declared.placing.Setting.{Setting}
use Rattle.lines.specs.declared.placing.Setting.TheVariants.{Alone}
use Rattle.allocator.specs.Placing.{Lent, placed}
use Rattle.allocator.specs.declared.Placing.{Placing}
use Rattle.records.specs.declared.Refusal.{Refusal}

-- The text for an answer of `place` and the result records that it left.
abbrev pub outcome_text : Setting → Result Placing Refusal → List ℕ → List ℕ
outcome_text setting (Ok p) result = placed_text setting p.placed p.slots p.passes result
outcome_text setting (Err r) result = refused_text setting r

-- The same for what stands in the buffers after a call.
abbrev pub lent_text : Setting → Lent → List ℕ
lent_text setting lent = outcome_text setting lent.answer lent.result

-- The text of a file's placing. But for the unit words, the words that are lent to `place` are all 0.
unfoldable pub placing_text : Setting → List ℕ → List ℕ → List ℕ
placing_text setting f units =
    lent_text setting (placed one f units (replicate 2048 0) (replicate 1024 0) (replicate 1024 0) (replicate 2048 0))

-- What the program `place` prints of a file.
abbrev pub printed : List ℕ → List ℕ
printed f = placing_text Alone f (replicate 512 0)

-- Known bytes grow by a front of a text: by its first n bytes for some n, all of them at the most.
abbrev pub AppendsFront : Option (List ℕ) → Option (List ℕ) → List ℕ → Type 0
AppendsFront old new text = (n : ℕ) × Appends old new (take n text)

-- A page carries a text on: what it handed to its writer and what waits on it grow by that text together, so that no byte of either is lost.
abbrev pub Carries : Option (List ℕ) → List ℕ → Option (List ℕ) → List ℕ → List ℕ → Type 0
Carries out waiting out' waiting' text = (handed : List ℕ) × Appends out out' handed × (handed ++ waiting' ≡ waiting ++ text)
