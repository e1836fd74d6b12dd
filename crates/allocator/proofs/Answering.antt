-- Laws of the public operation: what the analysis leaves and what the placing comes to make the one outcome; a refusal clears the words that are needed and
-- leaves the result. Each way out is one law.
use Rattle.std.specs.Prelude.{Result, Ok, Err}
use mathlib.Core.Path.{◌≡◌, refl, sym, ap, ◌∙◌, subst}
use mathlib.Core.Bool.{Bool, true, false}
use mathlib.Core.List.{List, [], ◌++◌, append-nil, map}
use Prim.Native.Nat.{ℕ, ◌-◌, ◌≤◌, ◌<◌}
use native.Mathlib.Omega.{arith}
use lib.Dec.{ltb}
use lib.ListN.{length, take, drop, take-append-drop, replicate, length-replicate, drop_of_length-le}
use lib.Seq.{length-take-le}
use borrow.Author.Tests.{le-ltb, lt-ltb}
use Rattle.rows.specs.Row as W
use Rattle.rows.proofs.Rows.{put_whole}
use Rattle.fields.specs.Pick.{pick, pick_yes, pick_no, All}
use Rattle.fields.specs.Edition.{one}
use Rattle.fields.specs.Record.{Storage, u16_at, header_fits, storage_fits}
use Rattle.records.specs.Check.{Answer, units, refusal, check}
use Rattle.records.specs.Outcome.{laid}
use Rattle.records.specs.Program.{program}
use Rattle.records.specs.declared.Refusal.{Refusal}
use Rattle.records.specs.declared.Refusal.TheVariants.{Short}
use Rattle.records.proofs.Outcomes.{laid_rest}
use Rattle.records.proofs.Accepted.{accepted}
use Rattle.storages.specs.Storage.{stored}
use Rattle.storages.specs.File.{declared}
use Rattle.storages.proofs.Declared.{declared_is, header_there, header_is}
use Rattle.graph.specs.Graph.{interferes, copied}
use Rattle.graph.specs.Graphs as G
use Rattle.graph.proofs.Drawing.{none}
use Rattle.places.specs.Place.{Given, Outcome, done, refused, place, records_of}
use Rattle.turns.specs.Held.{Tells}
use Rattle.allocator.specs.All.{Fit, Allocates}
use Rattle.allocator.specs.Placing.{Lent, given, placing, placed_by, placed_from, placed, Places, PlacesIn, Analysed, PlacesOn}
use Rattle.allocator.specs.declared.Placing.{Placing}
use Rattle.allocator.specs.declared.all.Allocated.{Allocated}
use Rattle.allocator.proofs.Telling.{tells}

none_past : (n : ℕ) (l : List ℕ) → length l ≡ n → drop n l ≡ drop n []
none_past n l e = drop_of_length-le l {i = n} (omega arith) ∙ sym (drop_of_length-le {A = ℕ} [] {i = n} (omega arith))

laid_exact : (n : ℕ) (us before : List ℕ) → length before ≡ n → laid n us before ≡ laid n us []
unfolding laid
laid_exact n us before e = ap (λ (v : List ℕ). us ++ replicate (n - length us) 0 ++ v) (none_past n before e)

-- ---- an analysed file is accepted, and its rows tell the relations

record Accepted (f graph copies : List ℕ) : Type 0 where
  us : List ℕ
  accepts : check one f ≡ units us
  graph_is : graph ≡ G.relation_rows one (interferes one (program one f)) 0 256
  copies_are : copies ≡ G.relation_rows one (copied one (program one f)) 0 256

module _ (f words live graph copies : List ℕ) (n : ℕ) (h : Analysed f words live graph copies n) where
  analysed : Accepted f graph copies
  analysed = go (check one f) refl h
    where
      go : (a : Answer) → check one f ≡ a → record { answer = Ok n; units = words; live = live; graph = graph; copies = copies } ≡ G.graphed_by one f [] [] [] [] a
          → Accepted f graph copies
      go (units us) e q = record {
        us = us;
        accepts = e;
        graph_is = ap (λ (o : G.Outcome). o.graph) q ∙ append-nil _;
        copies_are = ap (λ (o : G.Outcome). o.copies) q ∙ append-nil _;
      }
      go (refusal x) e q = absurd (let z : ◌≡◌ {A = ℕ} 0 1 = cc (ap (λ (o : G.Outcome). o.answer) q) in omega arith)

  pub analysed_header : 7 ≤ length f
  analysed_header = let a = analysed in header_there f a.us a.accepts

  -- The header's numbers fit, read where the code reads them.
  pub analysed_numbers : header_fits (u16_at f 1) (u16_at f 3) (u16_at f 5) ≡ true
  analysed_numbers =
      let a = analysed in
      let i = header_is f a.us a.accepts in
      rw (sym i.0, sym i.1, sym i.2) (accepted one f a.us a.accepts).0.header

  pub analysed_fit : Fit f
  analysed_fit =
      let a = analysed in
      let good = (accepted one f a.us a.accepts).0 in
      let is = declared_is f a.us a.accepts in
      record { each = subst (λ (ss : List Storage). All (λ x. storage_fits one x ≡ true) ss) (sym is) good.storages; most = omega (arith, ap length is, good.storages_most) }

  pub analysed_tells : Tells (given one (program one f)) graph copies
  analysed_tells = let a = analysed in tells (program one f) graph copies a.graph_is a.copies_are

  -- The window of the search for a bit ends at A.
  pub analysed_window : (given one (program one f)).hi ≡ u16_at f 1
  analysed_window = let a = analysed in (header_is f a.us a.accepts).0

  placing_is : place (given one (program one f)) (u16_at f 1) (u16_at f 3) (u16_at f 5) (map stored (declared f)) ≡ placing one (program one f)
  unfolding placing
  placing_is =
      let a = analysed in
      let i = header_is f a.us a.accepts in
      rw (sym i.0, sym i.1, sym i.2, declared_is f a.us a.accepts)

  -- What the placing of the words gives, for whatever tells what they tell, it gives for the program's graph.
  module _ (result out : List ℕ) (a : Result Allocated Refusal)
      (ens : (g : Given) → Tells g graph copies → g.lo ≡ 0 → g.hi ≡ u16_at f 1
      → Allocates (place g (u16_at f 1) (u16_at f 3) (u16_at f 5) (map stored (declared f))) a out) where
    of_program : Allocates (placing one (program one f)) a out
    of_program = subst (λ (o : Outcome). Allocates o a out) placing_is (ens (given one (program one f)) analysed_tells refl analysed_window)

    pub placed_done : (r : Allocated) (result' : List ℕ) → length result ≡ 2048 → a ≡ Ok r → result' ≡ out
        → PlacesOn f words live graph copies result n (Ok (record { placed = r.placed; slots = r.slots; passes = n })) words live graph copies result'
    placed_done d result' l e r = go (subst (λ (b : Result Allocated Refusal). Allocates (placing one (program one f)) b out) e of_program)
      where
        go : Allocates (placing one (program one f)) (Ok d) out → PlacesOn f words live graph copies result n (Ok (record { placed = d.placed; slots = d.slots; passes = n })) words live graph copies result'
        go (x, q, p, k, o) = rw (q, p, k, r, o, laid_exact 2048 (records_of x.placed) result l)

    pub placed_refused : (x : Refusal) (words' live' graph' copies' : List ℕ) → a ≡ Err x
        → words' ≡ laid 512 [] [] → live' ≡ laid 2048 [] [] → graph' ≡ laid 1024 [] [] → copies' ≡ laid 1024 [] []
        → PlacesOn f words live graph copies result n (Err x) words' live' graph' copies' result
    placed_refused x words' live' graph' copies' e u l g c =
        let q : placing one (program one f) ≡ refused x = subst (λ (b : Result Allocated Refusal). Allocates (placing one (program one f)) b out) e of_program in rw (q, u, l, g, c)

-- ---- buffers of just the needed words

pub laid_none : (n : ℕ) → laid n [] [] ≡ replicate n 0
unfolding laid
laid_none n =
    let z : n - 0 ≡ n = omega arith in
    ap (λ (v : List ℕ). replicate (n - 0) 0 ++ v) (drop_of_length-le {A = ℕ} [] {i = n} (omega arith)) ∙ append-nil _ ∙ ap (λ (m : ℕ). replicate m 0) z

pub emptied : (n : ℕ) (l l' : List ℕ) → length l ≡ n → l' ≡ replicate (length l) 0 → l' ≡ laid n [] []
emptied n l l' m e = e ∙ ap (λ (k : ℕ). replicate k 0) m ∙ sym (laid_none n)

pub cleared_row : (n : ℕ) (l l' : List ℕ) → length l ≡ n → l' ≡ W.put l 0 (replicate n 0) → l' ≡ laid n [] []
cleared_row n l l' m e = e ∙ put_whole l (replicate n 0) (m ∙ sym (length-replicate {A = ℕ} n 0)) ∙ sym (laid_none n)

-- ---- the analysis in buffers of just the needed words

module _ (f words live graph copies : List ℕ) (u : length words ≡ 512) (l : length live ≡ 2048) (g : length graph ≡ 1024) (c : length copies ≡ 1024) where
  exact_by : (a : Answer) → G.graphed_by one f words live graph copies a ≡ G.graphed_by one f [] [] [] [] a
  exact_by (units us) =
      rw (laid_exact 512 us words u, none_past 2048 live l, none_past 1024 graph g, none_past 1024 copies c)
  exact_by (refusal x) =
      rw (laid_exact 512 [] words u, laid_exact 2048 [] live l, laid_exact 1024 [] graph g, laid_exact 1024 [] copies c)

  graphed_exact : G.graphed one f words live graph copies ≡ G.graphed_by one f [] [] [] [] (check one f)
  unfolding G.graphed
  graphed_exact =
      pick_no _ _ _ (none _ _ _ _ (le-ltb (length words) 512 (omega arith)) (le-ltb (length live) 2048 (omega arith)) (le-ltb (length graph) 1024 (omega arith))
      (le-ltb (length copies) 1024 (omega arith)))
      ∙ exact_by (check one f)

  module _ (answer : Result ℕ Refusal) (words' live' graph' copies' : List ℕ) (h : G.Graphs f words live graph copies answer words' live' graph' copies') where
    in_words : record { answer = answer; units = words'; live = live'; graph = graph'; copies = copies' } ≡ G.graphed_by one f [] [] [] [] (check one f)
    in_words = h ∙ graphed_exact

    pub after_refusal : (x : Refusal) (result : List ℕ) → answer ≡ Err x → PlacesIn f result (Err x) words' live' graph' copies' result
    after_refusal x result e = rw (sym in_words, e)

    pub after_passes : (n : ℕ) → answer ≡ Ok n → Analysed f words' live' graph' copies' n
    after_passes n e = ap (λ (a : Result ℕ Refusal). record { answer = a; units = words'; live = live'; graph = graph'; copies = copies' }) (sym e) ∙ in_words

    pub after_placing : (n : ℕ) (result : List ℕ) (r : Result Placing Refusal) (words'' live'' graph'' copies'' result'' : List ℕ) → answer ≡ Ok n
        → PlacesOn f words' live' graph' copies' result n r words'' live'' graph'' copies'' result'' → PlacesIn f result r words'' live'' graph'' copies'' result''
    after_placing n result r words'' live'' graph'' copies'' result'' e p = p ∙ rw (sym in_words, e)

-- ---- all buffers

module _ (f words live graph copies result : List ℕ) where
  short_by : (t : Bool) (o : G.Outcome) → record { answer = Err Short; units = words; live = live; graph = graph; copies = copies } ≡ o
      → record { answer = Err Short; units = words; live = live; graph = graph; copies = copies; result = result }
      ≡ pick t (record { answer = Err Short; units = words; live = live; graph = graph; copies = copies; result = result })
      (placed_from one f o words live graph copies result)
  unfolding pick
  short_by true o e = refl
  short_by false o e = rw (sym e)

  -- A buffer that the analysis finds too short, whether or not the result is.
  pub short_analysis : G.Graphs f words live graph copies (Err Short) words live graph copies
      → Places f words live graph copies result (Err Short) words live graph copies result
  unfolding placed
  short_analysis e = short_by (ltb (length result) 2048) (G.graphed one f words live graph copies) e

  pub short_result : length result < 2048 → Places f words live graph copies result (Err Short) words live graph copies result
  unfolding placed
  short_result l = sym (pick_yes _ _ _ (lt-ltb (length result) 2048 l))

  module _ (u : 512 ≤ length words) (l : 2048 ≤ length live) (g : 1024 ≤ length graph) (c : 1024 ≤ length copies) (r : 2048 ≤ length result) where
    -- What is laid into the needed words, and past them what stood there.
    rest_by : (o : Outcome) (n : ℕ) (a : G.Outcome) (answer : Result Placing Refusal) (words' live' graph' copies' result' : List ℕ)
        → record { answer = answer; units = words'; live = live'; graph = graph'; copies = copies'; result = result' } ≡ placed_by one a [] [] [] [] (take 2048 result) n o
        → record {
          answer = answer;
          units = words' ++ drop 512 words;
          live = live' ++ drop 2048 live;
          graph = graph' ++ drop 1024 graph;
          copies = copies' ++ drop 1024 copies;
          result = result' ++ drop 2048 result;
        }
        ≡ placed_by one
        (record {
          answer = a.answer;
          units = a.units ++ drop 512 words;
          live = a.live ++ drop 2048 live;
          graph = a.graph ++ drop 1024 graph;
          copies = a.copies ++ drop 1024 copies;
        })
        words live graph copies result n o
    rest_by (done x) n a answer words' live' graph' copies' result' e =
        rw (
          ap (λ (v : Lent). v.answer) e,
          ap (λ (v : Lent). v.units) e,
          ap (λ (v : Lent). v.live) e,
          ap (λ (v : Lent). v.graph) e,
          ap (λ (v : Lent). v.copies) e,
          ap (λ (v : Lent). v.result) e,
          laid_exact 2048 (records_of x.placed) (take 2048 result) (length-take-le 2048 result r),
          laid_rest 2048 (records_of x.placed) result,
        )
    rest_by (refused y) n a answer words' live' graph' copies' result' e =
        rw (
          ap (λ (v : Lent). v.answer) e,
          ap (λ (v : Lent). v.units) e,
          ap (λ (v : Lent). v.live) e,
          ap (λ (v : Lent). v.graph) e,
          ap (λ (v : Lent). v.copies) e,
          ap (λ (v : Lent). v.result) e,
          laid_rest 512 [] words,
          laid_rest 2048 [] live,
          laid_rest 1024 [] graph,
          laid_rest 1024 [] copies,
          take-append-drop 2048 result,
        )

    widened : (us : List ℕ)
        → record {
          answer = (G.graphed_by one f [] [] [] [] (units us)).answer;
          units = (G.graphed_by one f [] [] [] [] (units us)).units ++ drop 512 words;
          live = (G.graphed_by one f [] [] [] [] (units us)).live ++ drop 2048 live;
          graph = (G.graphed_by one f [] [] [] [] (units us)).graph ++ drop 1024 graph;
          copies = (G.graphed_by one f [] [] [] [] (units us)).copies ++ drop 1024 copies;
        }
        ≡ G.graphed_by one f words live graph copies (units us)
    widened us = rw (laid_rest 512 us words) (simp append-nil)

    rest_of : (k : Answer) (answer : Result Placing Refusal) (words' live' graph' copies' result' : List ℕ)
        → record { answer = answer; units = words'; live = live'; graph = graph'; copies = copies'; result = result' }
        ≡ placed_from one f (G.graphed_by one f [] [] [] [] k) [] [] [] [] (take 2048 result)
        → record {
          answer = answer;
          units = words' ++ drop 512 words;
          live = live' ++ drop 2048 live;
          graph = graph' ++ drop 1024 graph;
          copies = copies' ++ drop 1024 copies;
          result = result' ++ drop 2048 result;
        }
        ≡ placed_from one f (G.graphed_by one f words live graph copies k) words live graph copies result
    rest_of (units us) answer words' live' graph' copies' result' e =
        rest_by (placing one (program one f)) _ (G.graphed_by one f [] [] [] [] (units us)) answer words' live' graph' copies' result' e
        ∙ ap (λ (o : G.Outcome). placed_from one f o words live graph copies result) (widened us)
    rest_of (refusal x) answer words' live' graph' copies' result' e =
        rw (
          ap (λ (v : Lent). v.answer) e,
          ap (λ (v : Lent). v.units) e,
          ap (λ (v : Lent). v.live) e,
          ap (λ (v : Lent). v.graph) e,
          ap (λ (v : Lent). v.copies) e,
          ap (λ (v : Lent). v.result) e,
          laid_rest 512 [] words,
          laid_rest 2048 [] live,
          laid_rest 1024 [] graph,
          laid_rest 1024 [] copies,
          take-append-drop 2048 result,
        )

    pub places_all : (answer : Result Placing Refusal) (words' live' graph' copies' result' : List ℕ) → PlacesIn f (take 2048 result) answer words' live' graph' copies' result'
        → Places f words live graph copies result answer (words' ++ drop 512 words) (live' ++ drop 2048 live) (graph' ++ drop 1024 graph) (copies' ++ drop 1024 copies)
        (result' ++ drop 2048 result)
    unfolding placed G.graphed
    places_all answer words' live' graph' copies' result' e =
        rest_of (check one f) answer words' live' graph' copies' result' e
        ∙ sym (pick_no _ _ _ (le-ltb (length result) 2048 r)
        ∙ ap (λ (o : G.Outcome). placed_from one f o words live graph copies result)
        (pick_no _ _ _ (none _ _ _ _ (le-ltb (length words) 512 u) (le-ltb (length live) 2048 l) (le-ltb (length graph) 1024 g) (le-ltb (length copies) 1024 c))))

-- Any two outcomes that the contract permits are one.
pub places_decide : (f words live graph copies result : List ℕ) (r r' : Result Placing Refusal) (u₁ l₁ g₁ c₁ s₁ u₂ l₂ g₂ c₂ s₂ : List ℕ)
    → Places f words live graph copies result r u₁ l₁ g₁ c₁ s₁ → Places f words live graph copies result r' u₂ l₂ g₂ c₂ s₂
    → (r ≡ r') × (u₁ ≡ u₂) × (l₁ ≡ l₂) × (g₁ ≡ g₂) × (c₁ ≡ c₂) × (s₁ ≡ s₂)
places_decide f words live graph copies result r r' u₁ l₁ g₁ c₁ s₁ u₂ l₂ g₂ c₂ s₂ a b =
    let e : ◌≡◌ {A = Lent} _ _ = a ∙ sym b in (
      ap (λ (v : Lent). v.answer) e,
      ap (λ (v : Lent). v.units) e,
      ap (λ (v : Lent). v.live) e,
      ap (λ (v : Lent). v.graph) e,
      ap (λ (v : Lent). v.copies) e,
      ap (λ (v : Lent). v.result) e,
    )
