-- Document 01, "Liveness and interference": what the graph means, with no pass and no live set in it. GraphLaws.antt proves that it is the graph.
use Rattle.std.specs.Prelude.{◌≡◌, ◌⊎◌, true, false, ℕ, ◌<◌, length}
use mathlib.Core.List.{List, ◌∷◌, ◌++◌, map, Memᴰ}
use Rattle.fields.specs.Pick.{has}
use Rattle.fields.specs.Edition.{Edition}
use Rattle.records.specs.Program.{Function, Program}
use Rattle.units.specs.Uses.{storage_of}
use Rattle.passes.specs.Live as L
use Rattle.liveness.specs.Flow.{Use, Flow, flows}
use Rattle.liveness.specs.Settle.{step_view, views, flow_at}
use Rattle.graph.specs.Graph.{spared, held}

-- Some step of these blocks writes a unit of storage i while a unit of storage j, which it does not spare, is wanted: the step reads it, or some path
-- from there reads it before it is written.
pub record Meets (e : Edition) (fs : List Flow) (i j : ℕ) : Type 0 where
  pub block : ℕ
  pub exists : block < length fs
  pub ahead : List Use
  pub step : Use
  pub rest : List Use
  pub there : (flow_at fs block).uses ≡ ahead ++ (step ∷ rest)
  pub written : ℕ
  pub writes : has written step.writes ≡ true
  pub of_i : storage_of e written ≡ i
  pub other : ℕ
  pub of_j : storage_of e other ≡ j
  pub unspared : spared e step other ≡ false
  pub wanted : (has other step.reads ≡ true) ⊎ L.Reads (views fs) other (map step_view rest) (flow_at fs block).targets

-- So it is in some function of the program.
abbrev pub MeetsIn : Edition → Program → ℕ → ℕ → Type 0
MeetsIn e p i j = (f : Function) × Memᴰ f p.functions × Meets e (flows e p f) i j

-- Two storages interfere: they are two, and one is written while the other is wanted, or the address of one is taken and both have one owner.
abbrev pub Interfere : Edition → Program → ℕ → ℕ → Type 0
Interfere e p i j = (¬ (i ≡ j)) × ((MeetsIn e p i j ⊎ MeetsIn e p j i) ⊎ ((held e p i j ≡ true) ⊎ (held e p j i ≡ true)))
