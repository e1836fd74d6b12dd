-- Document 01, "Liveness and interference", first point: live sets that compute, by passes over lists of unit words, and how many passes that takes.
use Rattle.std.specs.Prelude.{Bool, true, false, ◌&&◌, List, [], ◌∷◌, map, ℕ, zero, suc, length, get_or, set, replicate}
use Rattle.fields.specs.Pick.{pick, has}
use Rattle.fields.specs.Edition.{Edition}
use Rattle.records.specs.Program.{Function, Program}
use Rattle.units.specs.Sets.{less}
use Rattle.passes.specs.Live as L
use Rattle.liveness.specs.Sets.{join, same_set}
use Rattle.liveness.specs.Flow.{Use, Flow, no_flow, flows}

-- A step and a block as the theory (Live.antt) sees them: its units are unit words.
abbrev pub step_view : Use → L.Step
step_view s = record { reads = λ u. has u s.reads; writes = λ u. has u s.writes }

abbrev pub view : Flow → L.Block
view b = record { steps = map step_view b.uses; targets = b.targets }

abbrev pub views : List Flow → List L.Block
views fs = map view fs

-- Live-in and live-out of each block, in file order; and the theory's view of them.
pub record Sets : Type 0 where
  pub ins : List (List ℕ)
  pub outs : List (List ℕ)

abbrev pub state_of : Sets → L.State
state_of c = record { ins = λ k u. has u (get_or c.ins k []); outs = λ k u. has u (get_or c.outs k []) }

-- Live at a block's end is what is live at the start of some target. A target that is no block has no live-in, so that it adds nothing.
unfoldable pub union_at : List (List ℕ) → List ℕ → List ℕ
union_at ins [] = []
union_at ins (t ∷ ts) = join (get_or ins t []) (union_at ins ts)

-- What is live before some steps, of what is live after them: from the last step to the first, what it writes is taken out and what it reads put in.
unfoldable pub before : List Use → List ℕ → List ℕ
before [] out = out
before (s ∷ ss) out = join s.reads (less (before ss out) s.writes)

-- Block number k.
abbrev pub flow_at : List Flow → ℕ → Flow
flow_at fs k = get_or fs k no_flow

-- One block visited, in place.
unfoldable pub visit_at : List Flow → ℕ → Sets → Sets
visit_at fs k c =
    let o : List ℕ = union_at c.ins (flow_at fs k).targets in
    record { ins = set c.ins k (before (flow_at fs k).uses o); outs = set c.outs k o }

-- The blocks below n, from the last to the first. A pass visits all of them, and each sees the live-in sets that the pass has changed already.
unfoldable pub sweep_at : List Flow → ℕ → Sets → Sets
sweep_at fs zero c = c
sweep_at fs (suc n) c = sweep_at fs n (visit_at fs n c)

unfoldable pub pass_at : List Flow → Sets → Sets
pass_at fs c = sweep_at fs (length fs) c

-- A pass changed nothing where every block has the sets that it had.
unfoldable pub same_rows : List (List ℕ) → List (List ℕ) → Bool
same_rows [] [] = true
same_rows [] (m ∷ ms) = false
same_rows (l ∷ ls) [] = false
same_rows (l ∷ ls) (m ∷ ms) = same_set l m && same_rows ls ms

unfoldable pub same_sets : Sets → Sets → Bool
same_sets c d = same_rows c.ins d.ins && same_rows c.outs d.outs

-- The number of passes, and the live sets.
pub record Outcome : Type 0 where
  pub passes : ℕ
  pub sets : Sets

-- Pass after pass, up to and with the first that changes nothing, which counts too. n passes are done; `fuel` more are allowed.
unfoldable pub settle_from : ℕ → List Flow → ℕ → Sets → Outcome
settle_from zero fs n c = record { passes = n; sets = c }
settle_from (suc fuel) fs n c =
    let d : Sets = pass_at fs c in
    let more : Outcome = settle_from fuel fs (suc n) d in
    pick (same_sets d c) (record { passes = suc n; sets = c }) more

-- Before the first pass nothing is live.
unfoldable pub nothing : List Flow → Sets
nothing fs = record { ins = replicate (length fs) []; outs = replicate (length fs) [] }

-- B + 2 passes are enough for B blocks.
unfoldable pub settled_by : List Flow → Outcome
settled_by fs = settle_from (suc (suc (length fs))) fs 0 (nothing fs)

-- Live sets and pass count of one function of a program.
unfoldable pub liveness : Edition → Program → Function → Outcome
liveness e p f = settled_by (flows e p f)
