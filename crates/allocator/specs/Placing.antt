-- Document 01, "What moves" (place all) and "Refusal numbers" (buffers): the public operation place as one outcome, the answer and the lent words and bytes
-- for every input.
use Rattle.std.specs.Prelude.{◌≡◌, List, [], map, ℕ, ◌*◌, ltb, length, Result, Ok, Err}
use Rattle.fields.specs.Pick.{pick}
use Rattle.fields.specs.Edition.{Edition, one}
use Rattle.records.specs.Check.{check}
use Rattle.records.specs.Outcome.{laid}
use Rattle.records.specs.Program.{Program, program}
use Rattle.records.specs.declared.Refusal.TheVariants.{Short}
use Rattle.storages.specs.Storage.{stored}
use Rattle.liveness.specs.Lives.{needed}
use Rattle.graph.specs.Graph.{interferes, copied}
use Rattle.graph.specs.Graphs as G
use Rattle.allocator.specs.declared.Placing.{Placing}
use Rattle.places.specs.Place.{Given, Outcome, done, refused, place, records_of}
use Rattle.records.specs.declared.Refusal.{Refusal}

-- What the analysis gives to placing. Bits are looked for in all of application RAM.
abbrev pub given : Edition → Program → Given
given ed p = record { meets = interferes ed p; copies = copied ed p; lo = 0; hi = p.application }

-- The placing of a program.
unfoldable pub placing : Edition → Program → Outcome
placing ed p = place (given ed p) p.application p.first p.work (map stored p.storages)

-- The bytes that the result needs.
abbrev pub result_bytes : Edition → ℕ
result_bytes ed = G.ids ed * 8

-- What stands in the buffers after a call.
pub record Lent : Type 0 where
  pub answer : Result Placing Refusal
  pub units : List ℕ
  pub live : List ℕ
  pub graph : List ℕ
  pub copies : List ℕ
  pub result : List ℕ

-- Of a placed program the analysis stays in its buffers. A refusal clears them and leaves the result as found.
abbrev pub placed_by : Edition → G.Outcome → List ℕ → List ℕ → List ℕ → List ℕ → List ℕ → ℕ → Outcome → Lent
placed_by ed o units live graph copies result n (done x) =
    record {
      answer = Ok (record { placed = length x.placed; slots = length x.slots; passes = n });
      units = o.units;
      live = o.live;
      graph = o.graph;
      copies = o.copies;
      result = laid (result_bytes ed) (records_of x.placed) result;
    }
placed_by ed o units live graph copies result n (refused r) =
    record {
      answer = Err r;
      units = laid ed.units [] units;
      live = laid (needed ed) [] live;
      graph = laid (G.pair_words ed) [] graph;
      copies = laid (G.pair_words ed) [] copies;
      result = result;
    }

-- What the analysis refuses stays refused, with its buffers as it leaves them.
abbrev pub placed_after : Edition → List ℕ → G.Outcome → List ℕ → List ℕ → List ℕ → List ℕ → List ℕ → Result ℕ Refusal → Lent
placed_after ed f o units live graph copies result (Err r) =
    record { answer = Err r; units = o.units; live = o.live; graph = o.graph; copies = o.copies; result = result }
placed_after ed f o units live graph copies result (Ok n) = placed_by ed o units live graph copies result n (placing ed (program ed f))

abbrev pub placed_from : Edition → List ℕ → G.Outcome → List ℕ → List ℕ → List ℕ → List ℕ → List ℕ → Lent
placed_from ed f o units live graph copies result = placed_after ed f o units live graph copies result o.answer

-- Refusal 1 where a buffer is too short; nothing is written then.
unfoldable pub placed : Edition → List ℕ → List ℕ → List ℕ → List ℕ → List ℕ → List ℕ → Lent
placed ed f units live graph copies result =
    pick (ltb (length result) (result_bytes ed))
    (record { answer = Err Short; units = units; live = live; graph = graph; copies = copies; result = result })
    (placed_from ed f (G.graphed ed f units live graph copies) units live graph copies result)

-- The contract of place.
abbrev pub Places : List ℕ → List ℕ → List ℕ → List ℕ → List ℕ → List ℕ → Result Placing Refusal → List ℕ → List ℕ → List ℕ → List ℕ → List ℕ → Type 0
Places f units live graph copies result r units' live' graph' copies' result' =
    record { answer = r; units = units'; live = live'; graph = graph'; copies = copies'; result = result' } ≡ placed one f units live graph copies result

-- The same of buffers of just the needed words; and of those in which the analysis stands already.
abbrev pub PlacesIn : List ℕ → List ℕ → Result Placing Refusal → List ℕ → List ℕ → List ℕ → List ℕ → List ℕ → Type 0
PlacesIn f result r units' live' graph' copies' result' =
    record { answer = r; units = units'; live = live'; graph = graph'; copies = copies'; result = result' }
    ≡ placed_from one f (G.graphed_by one f [] [] [] [] (check one f)) [] [] [] [] result

abbrev pub Analysed : List ℕ → List ℕ → List ℕ → List ℕ → List ℕ → ℕ → Type 0
Analysed f units live graph copies n = G.GraphsIn f (Ok n) units live graph copies

abbrev pub PlacesOn : List ℕ → List ℕ → List ℕ → List ℕ → List ℕ → List ℕ → ℕ → Result Placing Refusal → List ℕ → List ℕ → List ℕ → List ℕ → List ℕ → Type 0
PlacesOn f units live graph copies result n r units' live' graph' copies' result' =
    record { answer = r; units = units'; live = live'; graph = graph'; copies = copies'; result = result' }
    ≡ placed_by one (record { answer = Ok n; units = units; live = live; graph = graph; copies = copies }) [] [] [] [] result n
    (placing one (program one f))
