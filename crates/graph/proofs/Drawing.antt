-- Laws of the public operation: what the walk leaves is what the one outcome names, a refusal leaves cleared words, and what lies past the needed words
-- stays. Each way out is one law.
use Rattle.std.specs.Prelude.{Result, Ok, Err}
use mathlib.Core.Path.{◌≡◌, sym, ap, ◌∙◌}
use mathlib.Core.Bool.{Bool, false}
use mathlib.Core.List.{List, [], ◌++◌, append-nil}
use Prim.Native.Nat.{ℕ, ◌≤◌, ◌<◌}
use native.Mathlib.Omega.{arith}
use lib.ListN.{length, get_or, drop, replicate, length-replicate}
use borrow.Author.Tests.{le-ltb, lt-ltb}
use Rattle.rows.specs.Row as W
use Rattle.rows.proofs.Rows.{put_whole}
use Rattle.fields.specs.Pick.{pick, pick_no, ◌or◌}
use Rattle.fields.specs.Edition.{one}
use Rattle.records.specs.Check.{Answer, units, refusal, check}
use Rattle.records.specs.Outcome as R
use Rattle.records.specs.declared.Refusal.{Refusal}
use Rattle.records.specs.declared.Refusal.TheVariants.{Short}
use Rattle.records.proofs.Outcomes.{laid_rest}
use Rattle.records.proofs.Accepted.{accepted}
use Rattle.units.specs.Along.{Sane}
use Rattle.units.proofs.Asking.{Accepted, numbered_units}
use Rattle.passes.specs.Passes.{blank}
use Rattle.graph.specs.Graphs.{Outcome, graphed_by, graphed, GraphsIn, Graphs}
use Rattle.graph.specs.Walking.{Counted, Whole}
use Rattle.storages.proofs.Declared.{header_there}

pub blank_of : (n : ℕ) (l l' : List ℕ) → length l ≡ n → l' ≡ W.put l 0 (replicate n 0) → l' ≡ blank n
unfolding blank
blank_of n l l' m e = e ∙ put_whole l (replicate n 0) (m ∙ sym (length-replicate {A = ℕ} n 0))

-- the walk's rows and sum are those that the outcome names
drawn : (f us found table words : List ℕ) (n m : ℕ) (live graph copies : List ℕ) → Counted f us found table words n → Whole f us m live graph copies → GraphsIn f (Ok m) words live graph copies
drawn f us found table words n m live graph copies c k = rw (c.ready.accepted, k.sums, k.live, k.graph_is, k.copies_are, c.words_are) (sym (simp append-nil))

module _ (f : List ℕ) (r : Result ℕ Refusal) (words found table : List ℕ) (h : R.Numbers f r words found table) where
  pub drawn_refused : (x : Refusal) (live graph copies : List ℕ) → r ≡ Err x → live ≡ blank 2048 → graph ≡ blank 1024 → copies ≡ blank 1024 → GraphsIn f (Err x) words live graph copies
  unfolding R.laid blank
  drawn_refused x live graph copies e l g c = go (check one f) h.0
    where
      go : (a : Answer) → record { answer = r; words = words } ≡ R.outcome_by one [] a
          → record { answer = Err x; units = words; live = live; graph = graph; copies = copies } ≡ graphed_by one f [] [] [] [] a
      go (units us) q = let z : ◌≡◌ {A = ℕ} 0 1 = cc (ap (λ (o : R.Outcome). o.answer) q) in absurd (omega arith)
      go (refusal y) q = let i : x ≡ y = cc (ap (λ (o : R.Outcome). o.answer) q) in rw (i, ap (λ (o : R.Outcome). o.words) q, l, g, c)

  module _ (bytes : (i : ℕ) → get_or f i 0 < 256) (n : ℕ) (e : r ≡ Ok n) where
    taken : Accepted f 0 words found table
    taken = numbered_units f 0 r words found table h bytes n e

    many : n ≡ length taken.us
    many = cc (e, ap (λ (o : R.Outcome). o.answer) (h.0 ∙ ap (R.outcome_by one []) taken.ready.accepted))

    pub counted_of : (us : List ℕ) × Counted f us found table words n
    counted_of = (taken.us, record { ready = taken.ready; words_are = taken.words_are; many = many })

    pub counted_sane : Sane table
    counted_sane = taken.sane

    pub counted_short : length f ≤ 16384
    counted_short = taken.short

    pub counted_header : 7 ≤ length f
    counted_header = header_there f taken.us taken.ready.accepted

    pub counted_most : n ≤ 512
    counted_most = omega (arith, (accepted one f taken.us taken.ready.accepted).0.units_most, many)

    pub drawn_done : (m : ℕ) (live graph copies : List ℕ) → ((us : List ℕ) → Counted f us found table words n → Whole f us m live graph copies) → GraphsIn f (Ok m) words live graph copies
    drawn_done m live graph copies call = drawn f counted_of.0 found table words n m live graph copies counted_of.1 (call counted_of.0 counted_of.1)

pub none : (a b c d : Bool) → a ≡ false → b ≡ false → c ≡ false → d ≡ false → (a or (b or (c or d))) ≡ false
unfolding pick
none a b c d p q r s = rw (p, q, r) s

module _ (f before live graph copies : List ℕ) where
  pub graphs_short_units : length before < 512 → Graphs f before live graph copies (Err Short) before live graph copies
  unfolding graphed pick
  graphs_short_units l = rw (lt-ltb (length before) 512 l)

  pub graphs_short_live : 512 ≤ length before → length live < 2048 → Graphs f before live graph copies (Err Short) before live graph copies
  unfolding graphed pick
  graphs_short_live a l = rw (le-ltb (length before) 512 a, lt-ltb (length live) 2048 l)

  pub graphs_short_graph : 512 ≤ length before → 2048 ≤ length live → length graph < 1024 → Graphs f before live graph copies (Err Short) before live graph copies
  unfolding graphed pick
  graphs_short_graph a b l = rw (le-ltb (length before) 512 a, le-ltb (length live) 2048 b, lt-ltb (length graph) 1024 l)

  pub graphs_short_copies : 512 ≤ length before → 2048 ≤ length live → 1024 ≤ length graph → length copies < 1024 → Graphs f before live graph copies (Err Short) before live graph copies
  unfolding graphed pick
  graphs_short_copies a b c l = rw (le-ltb (length before) 512 a, le-ltb (length live) 2048 b, le-ltb (length graph) 1024 c, lt-ltb (length copies) 1024 l)

  pub graphs_all : (answer : Result ℕ Refusal) (words live' graph' copies' : List ℕ) → 512 ≤ length before → 2048 ≤ length live → 1024 ≤ length graph → 1024 ≤ length copies
      → GraphsIn f answer words live' graph' copies'
      → Graphs f before live graph copies answer (words ++ drop 512 before) (live' ++ drop 2048 live) (graph' ++ drop 1024 graph) (copies' ++ drop 1024 copies)
  unfolding graphed
  graphs_all answer words live' graph' copies' a b c d h =
      go (check one f) h
      ∙ sym (pick_no _ _ _ (none _ _ _ _ (le-ltb (length before) 512 a) (le-ltb (length live) 2048 b) (le-ltb (length graph) 1024 c) (le-ltb (length copies) 1024 d)))
    where
      go : (k : Answer) → record { answer = answer; units = words; live = live'; graph = graph'; copies = copies' } ≡ graphed_by one f [] [] [] [] k
          → record { answer = answer; units = words ++ drop 512 before; live = live' ++ drop 2048 live; graph = graph' ++ drop 1024 graph; copies = copies' ++ drop 1024 copies } ≡ graphed_by one f before live graph copies k
      go (units us) e =
          rw (ap (λ (o : Outcome). o.answer) e, ap (λ (o : Outcome). o.units) e, ap (λ (o : Outcome). o.live) e, ap (λ (o : Outcome). o.graph) e, ap (λ (o : Outcome). o.copies) e, laid_rest 512 us before)
          (simp append-nil)
      go (refusal x) e =
          rw (
            ap (λ (o : Outcome). o.answer) e,
            ap (λ (o : Outcome). o.units) e,
            ap (λ (o : Outcome). o.live) e,
            ap (λ (o : Outcome). o.graph) e,
            ap (λ (o : Outcome). o.copies) e,
            laid_rest 512 [] before,
            laid_rest 2048 [] live,
            laid_rest 1024 [] graph,
            laid_rest 1024 [] copies,
          )
