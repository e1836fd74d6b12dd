-- Document 01, "What moves" (graph and copies) and "Refusal numbers" (buffers): the public operation graph as one outcome, the answer and the lent words
-- for every input.
use Rattle.std.specs.Prelude.{◌≡◌, Bool, List, [], ◌∷◌, ◌++◌, ℕ, zero, suc, ◌*◌, ltb, length, drop, Result, Ok, Err}
use Rattle.rows.specs.Row.{pack}
use Rattle.fields.specs.Pick.{pick, ◌or◌}
use Rattle.fields.specs.Edition.{Edition, one}
use Rattle.records.specs.Check.{Answer, units, refusal, check}
use Rattle.records.specs.Outcome.{laid}
use Rattle.records.specs.Program.{Function, Program, program}
use Rattle.records.specs.declared.Refusal.TheVariants.{Short}
use Rattle.liveness.specs.Settle.{liveness}
use Rattle.liveness.specs.Lives.{live_words, needed}
use Rattle.graph.specs.Graph.{interferes, copied, passes}
use Rattle.records.specs.declared.Refusal.{Refusal}

-- The rows of a relation between storages, of ids k to k + n - 1.
unfoldable pub relation_rows : Edition → (ℕ → ℕ → Bool) → ℕ → ℕ → List ℕ
relation_rows ed r k zero = []
relation_rows ed r k (suc n) = pack ed.storage_words (r k) ++ relation_rows ed r (suc k) n

abbrev pub ids : Edition → ℕ
ids ed = suc ed.last_id

-- The words that graph and copies need.
abbrev pub pair_words : Edition → ℕ
pair_words ed = ids ed * ed.storage_words

-- The live words of the last function.
unfoldable pub last_live : Edition → List ℕ → Program → List Function → List ℕ
last_live ed us p [] = laid (needed ed) [] []
last_live ed us p (f ∷ []) = live_words ed us (liveness ed p f).sets
last_live ed us p (f ∷ g ∷ fs) = last_live ed us p (g ∷ fs)

pub record Outcome : Type 0 where
  pub answer : Result ℕ Refusal
  pub units : List ℕ
  pub live : List ℕ
  pub graph : List ℕ
  pub copies : List ℕ

abbrev pub graphed_by : Edition → List ℕ → List ℕ → List ℕ → List ℕ → List ℕ → Answer → Outcome
graphed_by ed f before live graph copies (units us) =
    record {
      answer = Ok (passes ed (program ed f));
      units = laid ed.units us before;
      live = last_live ed us (program ed f) (program ed f).functions ++ drop (needed ed) live;
      graph = relation_rows ed (interferes ed (program ed f)) 0 (ids ed) ++ drop (pair_words ed) graph;
      copies = relation_rows ed (copied ed (program ed f)) 0 (ids ed) ++ drop (pair_words ed) copies;
    }
graphed_by ed f before live graph copies (refusal x) =
    record {
      answer = Err x;
      units = laid ed.units [] before;
      live = laid (needed ed) [] live;
      graph = laid (pair_words ed) [] graph;
      copies = laid (pair_words ed) [] copies;
    }

-- Refusal 1 where a buffer is too short; nothing is written then.
unfoldable pub graphed : Edition → List ℕ → List ℕ → List ℕ → List ℕ → List ℕ → Outcome
graphed ed f before live graph copies =
    pick
    (ltb (length before) ed.units or (ltb (length live) (needed ed) or (ltb (length graph) (pair_words ed) or ltb (length copies) (pair_words ed))))
    (record { answer = Err Short; units = before; live = live; graph = graph; copies = copies })
    (graphed_by ed f before live graph copies (check ed f))

-- The contract of graph.
abbrev pub Graphs : List ℕ → List ℕ → List ℕ → List ℕ → List ℕ → Result ℕ Refusal → List ℕ → List ℕ → List ℕ → List ℕ → Type 0
Graphs f before live graph copies r units' live' graph' copies' =
    record { answer = r; units = units'; live = live'; graph = graph'; copies = copies' } ≡ graphed one f before live graph copies

-- The same of buffers of just the needed words.
abbrev pub GraphsIn : List ℕ → Result ℕ Refusal → List ℕ → List ℕ → List ℕ → List ℕ → Type 0
GraphsIn f r units' live' graph' copies' =
    record { answer = r; units = units'; live = live'; graph = graph'; copies = copies' } ≡ graphed_by one f [] [] [] [] (check one f)
