-- Once all functions are noted the buffers hold the whole program: the stops of a program are its steps, in order, so that what was noted of them is what
-- the graph, the copies and the addressed storages are defined by.
use Rattle.std.specs.Prelude.{Result}
use mathlib.Core.Path.{◌≡◌, refl, sym, ap, ap₂, ◌∙◌, subst}
use mathlib.Core.List.{List, [], ◌∷◌, ◌++◌, map-append}
use Prim.Native.Nat.{ℕ, ◌≤◌}
use native.Mathlib.Omega.{arith}
use lib.ListN.{length, replicate}
use Rattle.fields.specs.Edition.{one}
use Rattle.records.specs.Program.{Function, program}
use Rattle.units.specs.Sets.{each}
use Rattle.units.proofs.Standing.{units_most_lem}
use Rattle.passes.specs.Passes.{blank}
use Rattle.liveness.specs.Flow.{Use, Flow, flows}
use Rattle.liveness.specs.Settle.{settled_by}
use Rattle.liveness.proofs.SettleLaws.{settled_outs}
use Rattle.graph.specs.Graph.{uses_of, all_uses, copied}
use Rattle.graph.specs.Graphs.{relation_rows, Graphs, Outcome}
use Rattle.graph.specs.Gathered.{Stop, stops_in, stops_from, stops_of, stops, Paired, Addressed}
use Rattle.graph.specs.declared.basis.Basis.{Basis}
use Rattle.graph.specs.declared.sketch.Sketch.{Sketch}
use Rattle.graph.specs.Walking.{uses_at, Noted, file, Granted, AllTaken, Counted, Whole}
use Rattle.meetings.specs.Meeting.{unit_rows}
use Rattle.meetings.specs.Closing.{closed, Above, held_by}
use Rattle.graph.proofs.Closing.{graph_is, copies_is}
use Rattle.storages.proofs.Declared.{declared_is}
use Rattle.records.specs.declared.Refusal.{Refusal}

uses_in : (ss : List Use) (out : List ℕ) → uses_at (stops_in ss out) ≡ ss
unfolding stops_in
uses_in [] out = refl
uses_in (s ∷ ss) out = ap (λ (l : List Use). s ∷ l) (uses_in ss out)

uses_from : (fs : List Flow) (os : List (List ℕ)) → length fs ≤ length os → uses_at (stops_from fs os) ≡ each (λ (b : Flow). b.uses) fs
unfolding stops_from each
uses_from [] os h = refl
uses_from (b ∷ fs) [] h = absurd (omega arith)
uses_from (b ∷ fs) (o ∷ os) h =
    map-append (λ (p : Stop). p.0) (stops_in b.uses o) (stops_from fs os) ∙ ap₂ (λ (x y : List Use). x ++ y) (uses_in b.uses o) (uses_from fs os (omega arith))

uses_each : (f : List ℕ) (l : List Function) → uses_at (each (λ (fn : Function). stops_of (flows one (program one f) fn)) l) ≡ each (uses_of one (program one f)) l
unfolding each stops_of uses_of
uses_each f [] = refl
uses_each f (x ∷ l) =
    map-append (λ (p : Stop). p.0) (stops_from (flows one (program one f) x) (settled_by (flows one (program one f) x)).sets.outs) _
    ∙ ap₂ (λ (a b : List Use). a ++ b) (uses_from (flows one (program one f) x) (settled_by (flows one (program one f) x)).sets.outs (omega (arith, settled_outs (flows one (program one f) x)))) (uses_each f l)

-- The steps of a program's stops are its steps.
pub uses_all : (f : List ℕ) → uses_at (stops one (program one f)) ≡ all_uses one (program one f)
unfolding stops all_uses
uses_all f = uses_each f (program one f).functions

module _ (f us : List ℕ) (sketch : Sketch) (n : Noted us (stops one (program one f)) sketch) where
  pub paired_all : Paired (all_uses one (program one f)) sketch.copies
  paired_all = subst (λ (l : List Use). Paired l sketch.copies) (uses_all f) n.paired

  pub addressed_all : Addressed (all_uses one (program one f)) sketch.addressed
  addressed_all = subst (λ (l : List Use). Addressed l sketch.addressed) (uses_all f) n.taken

  pub copies_all : sketch.copies ≡ relation_rows one (copied one (program one f)) 0 256
  copies_all = copies_is (program one f) paired_all

-- Any two outcomes that the contract of graph permits coincide.
pub graphs_decide : (f before live graph copies : List ℕ) (r r' : Result ℕ Refusal) (u u' l l' g g' c c' : List ℕ) → Graphs f before live graph copies r u l g c → Graphs f before live graph copies r' u' l' g' c'
    → (r ≡ r') × (u ≡ u') × (l ≡ l') × (g ≡ g') × (c ≡ c')
graphs_decide f before live graph copies r r' u u' l l' g g' c c' p q =
    let e : ◌≡◌ {A = Outcome} (record { answer = r; units = u; live = l; graph = g; copies = c }) (record { answer = r'; units = u'; live = l'; graph = g'; copies = c' }) = p ∙ sym q in
    (ap (λ (o : Outcome). o.answer) e, ap (λ (o : Outcome). o.units) e, ap (λ (o : Outcome). o.live) e, ap (λ (o : Outcome). o.graph) e, ap (λ (o : Outcome). o.copies) e)

pub blank_is : (n : ℕ) → replicate n 0 ≡ blank n
unfolding blank
blank_is n = refl

pub granted_all : (basis : Basis) (us : List ℕ) (count : ℕ) → Counted (file basis) us basis.source.numbers.now basis.source.table.now basis.words.now count
    → basis.units.now ≡ unit_rows basis.words.now count (replicate 2048 0) → Granted basis us
granted_all basis us count c e = record {
  ready = c.ready;
  numbered = record { few = units_most_lem (file basis) us c.ready.accepted; words_are = c.words_are };
  rows = e ∙ ap (λ (n : ℕ). unit_rows basis.words.now n (replicate 2048 0)) c.many;
}

pub whole_all : (f us found table words : List ℕ) (count passes : ℕ) (rows : List ℕ) (sketch : Sketch) (graph graph₁ graph' copies : List ℕ) → Counted f us found table words count
    → AllTaken f us passes rows sketch → graph ≡ blank 1024 → (n : ℕ) → (n ≤ 256) × Above words count n → graph₁ ≡ closed sketch.meets words n graph
    → graph' ≡ held_by f sketch.addressed graph₁ → copies ≡ sketch.copies
    → Whole f us passes rows graph' copies
unfolding blank
whole_all f us found table words count passes rows sketch graph graph₁ graph' copies c t e n a p q ec = record {
  sums = t.sums;
  live = t.live;
  graph_is = q ∙ ap (held_by f sketch.addressed) (p ∙ ap (closed sketch.meets words n) e)
      ∙ graph_is (program one f) f (record { few = units_most_lem f us c.ready.accepted; words_are = c.words_are }) t.noted.gathered (addressed_all f us sketch t.noted) (declared_is f us c.ready.accepted) n a.0 (subst (λ (m : ℕ). Above words m n) c.many a.1);
  copies_are = ec ∙ copies_all f us sketch t.noted;
}
