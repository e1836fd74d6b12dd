-- The lines of a placing, as lists of bytes: in a report, where words say what a line is, or alone (docs/DECISIONS.md, "Programs").
use Rattle.std.specs.Prelude.{ℕ, zero, suc, ◌*◌, min, List, [], ◌∷◌, ◌++◌, drop}
use Rattle.fields.specs.Record.{u8_at, u16_at}
use Rattle.records.specs.declared.Refusal.{Refusal}
use Rattle.lines.specs.declared.placing.Setting.{Setting}
use Rattle.lines.specs.declared.placing.Setting.TheVariants.{InReport, Alone}
use Rattle.lines.specs.Text.{space, newline, decimal, refusal_text}

-- The words that stand in a line: "place ", "placed ", " slots ", " passes " and "done ".
abbrev pub place_word : List ℕ
place_word = 112 ∷ 108 ∷ 97 ∷ 99 ∷ 101 ∷ 32 ∷ []

abbrev pub placed_word : List ℕ
placed_word = 112 ∷ 108 ∷ 97 ∷ 99 ∷ 101 ∷ 100 ∷ 32 ∷ []

abbrev pub slots_word : List ℕ
slots_word = 32 ∷ 115 ∷ 108 ∷ 111 ∷ 116 ∷ 115 ∷ 32 ∷ []

abbrev pub passes_word : List ℕ
passes_word = 32 ∷ 112 ∷ 97 ∷ 115 ∷ 115 ∷ 101 ∷ 115 ∷ 32 ∷ []

abbrev pub done_word : List ℕ
done_word = 100 ∷ 111 ∷ 110 ∷ 101 ∷ 32 ∷ []

-- The first word stands in a report, and the second one where the placing is alone.
abbrev pub word_in : Setting → List ℕ → List ℕ → List ℕ
word_in InReport in_report alone = in_report
word_in Alone in_report alone = alone

-- One storage from its result record, where its id, its code, a and b stand behind the kind byte.
unfoldable pub place_line : Setting → List ℕ → List ℕ
place_line setting result =
    word_in setting place_word []
    ++ decimal (u16_at result 1)
    ++ space
    ++ decimal (u8_at result 3)
    ++ space
    ++ decimal (u16_at result 4)
    ++ space
    ++ decimal (u16_at result 6)
    ++ newline

-- The lines of the first n storages. A result record has eight bytes.
abbrev pub place_lines : Setting → ℕ → List ℕ → List ℕ
place_lines setting zero result = []
place_lines setting (suc n) result = place_lines setting n result ++ place_line setting (drop (8 * n) result)

-- How many storages were placed, how many slots opened, and the passes of all functions.
unfoldable pub counts_line : Setting → ℕ → ℕ → ℕ → List ℕ
counts_line setting placed slots passes =
    word_in setting placed_word done_word
    ++ decimal placed
    ++ word_in setting slots_word space
    ++ decimal slots
    ++ word_in setting passes_word space
    ++ decimal passes
    ++ newline

-- A line for each storage, of which there are at most 256, and the counts.
abbrev pub placed_text : Setting → ℕ → ℕ → ℕ → List ℕ → List ℕ
placed_text setting placed slots passes result =
    place_lines setting (min placed 256) result ++ counts_line setting placed slots passes

-- The line of a refusal.
abbrev pub refused_text : Setting → Refusal → List ℕ
refused_text setting r = word_in setting place_word [] ++ refusal_text r
