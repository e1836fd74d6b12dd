-- Laws of the queries' outcomes. Each way out of the code is one equation of the definitions: a short buffer, a refusal of the file or of the place,
-- and a step that is there. `asks_decide`, `tells_decide`: any two outcomes that a contract permits coincide.
use Rattle.std.specs.Prelude.{Option, Some, None, Result, Ok, Err}
use mathlib.Core.Path.{◌≡◌, refl, sym, ap, ap₂, ◌∙◌}
use mathlib.Core.Logic.{◌⊎◌, inl, inr}
use mathlib.Core.Bool.{Bool, true, false}
use mathlib.Core.List.{List, [], ◌++◌}
use Prim.Native.Nat.{ℕ, ◌≤◌, ◌<◌}
use native.Mathlib.Omega.{arith}
use lib.Dec.{ltb}
use lib.ListN.{length, get_or, drop, replicate}
use borrow.Author.Tests.{le-ltb, lt-ltb}
use Rattle.rows.specs.Row.{pack}
use Rattle.fields.specs.Pick.{pick, pick_yes, pick_no, ◌or◌, has}
use Rattle.fields.specs.Edition.{one}
use Rattle.records.specs.Check.{Answer, units, refusal, check}
use Rattle.records.specs.Outcome.{Outcome, laid, outcome_by, Numbers}
use Rattle.records.specs.Program.{Function, program}
use Rattle.records.specs.Place.{nowhere, step_at}
use Rattle.records.specs.declared.Refusal.{Refusal}
use Rattle.records.specs.declared.Refusal.TheVariants.{Short, Absent}
use Rattle.records.proofs.Accepted.{accepted}
use Rattle.records.proofs.Outcomes.{cleared, laid_rest}
use Rattle.units.specs.Uses.{reads, writes, effect}
use Rattle.units.specs.Rows.{unit_row}
use Rattle.units.specs.Along.{from, function_from, step_from, IsStep, StandsAt, Sane, Ready, SoundBoth, Locates}
use Rattle.units.specs.Ask.{Asked, Query, row_of, storage_row_of, asked_of, asked, Asks, Told, told_of, told, Tells}
use Rattle.units.specs.Seek.{Refuses, Reached, Seeks, Shown, Shows, storages_below}
use Rattle.units.specs.declared.cursor.Cursor.{Cursor}
use Rattle.units.specs.declared.locate.Site.{Site}
use Rattle.units.specs.declared.ask.Uses.{Uses}
use Rattle.units.proofs.Indexing.{tabled_index}
use Rattle.units.proofs.Storages.{storages_are, reads_within, writes_within}

yes_or : (b : Bool) → (true or b) ≡ true
unfolding pick
yes_or b = refl

or_yes : (b : Bool) → (b or true) ≡ true
unfolding pick
or_yes true = refl
or_yes false = refl

-- The observable effect -----------------------------------------------------------------------------------------------------------------------

-- The step at the front of a tail of the file.
effect_here : (f t : List ℕ) (at : ℕ) (b : Bool) → t ≡ drop at f → b ≡ effect (step_from t 0) → b ≡ effect (step_from f at)
unfolding effect
effect_here f t at b p q = rw p at q

-- The search for the step -----------------------------------------------------------------------------------------------------------------

module _ (f : List ℕ) (place : ℕ) where
  pub record Accepted (words found table : List ℕ) : Type 0 where
    pub us : List ℕ
    pub words_are : words ≡ laid 512 us []
    pub ready : Ready f us found table
    pub sane : Sane table
    pub short : length f ≤ 16384

  module _ (r : Result ℕ Refusal) (words found table : List ℕ) (h : Numbers f r words found table) where
    pub numbered_units : ((i : ℕ) → get_or f i 0 < 256) → (n : ℕ) → r ≡ Ok n → Accepted words found table
    numbered_units bytes n e = go (check one f) refl h.0
      where
        go : (a : Answer) → check one f ≡ a → record { answer = r; words = words } ≡ outcome_by one [] a → Accepted words found table
        go (units us) q p =
            let t = tabled_index f us q bytes table (h.1 us q).1 in
            record {
              us = us;
              words_are = ap (λ (o : Outcome). o.words) p;
              ready = record { accepted = q; found_are = (h.1 us q).0; index = t.1 };
              sane = t.0;
              short = (accepted one f us q).2;
            }
        go (refusal x) q p = let i = ap (λ (o : Outcome). o.answer) p in let z : ◌≡◌ {A = ℕ} 0 1 = cc in absurd (omega arith)

    pub seeks_refused : (x : Refusal) → r ≡ Err x → Seeks f place (Err x) words found table
    seeks_refused x e = go (check one f) refl h.0
      where
        go : (a : Answer) → check one f ≡ a → record { answer = r; words = words } ≡ outcome_by one [] a → Seeks f place (Err x) words found table
        go (units us) q p = let i = ap (λ (o : Outcome). o.answer) p in let z : ◌≡◌ {A = ℕ} 0 1 = cc in absurd (omega arith)
        go (refusal y) q p =
            let i : r ≡ Err y = ap (λ (o : Outcome). o.answer) p in
            let k : y ≡ x = cc in
            (inl (rw (← k) q), ap (λ (o : Outcome). o.words) p)

    module _ (bytes : (i : ℕ) → get_or f i 0 < 256) (n : ℕ) (e : r ≡ Ok n) (l : Option Site) (s : SoundBoth f l) (k : (us : List ℕ) → check one f ≡ units us → Locates f place l) where
      pub seeks_here : (site : Site) → l ≡ Some site → Seeks f place (Ok site) words found table
      seeks_here site q =
          let a = numbered_units bytes n e in
          record {
            us = a.us;
            words_are = a.words_are;
            ready = a.ready;
            sane = a.sane;
            short = a.short;
            sound = rw q at s;
            located = rw q at (k a.us a.ready.accepted);
          }

      pub seeks_absent : (words' : List ℕ) (m : ℕ) → l ≡ None → words' ≡ replicate m 0 → m ≡ 512 → Seeks f place (Err (Absent place)) words' found table
      seeks_absent words' m q c d =
          let a = numbered_units bytes n e in
          let away : step_at one f place ≡ nowhere = rw q at (k a.us a.ready.accepted) in
          (inr (record { us = a.us; accepted = a.ready.accepted; away = away; says = refl }), c ∙ cleared m d)

  -- what was sought, where it was found
  module _ (r : Result Site Refusal) (words found table : List ℕ) (h : Seeks f place r words found table) where
    pub reached : (site : Site) → r ≡ Ok site → Reached f place site words found table
    reached site e = rw e at h

    pub sought_refused : (x : Refusal) → r ≡ Err x → Refuses f place x × (words ≡ laid 512 [] [])
    sought_refused x e = rw e at h

  -- The rows of the step ---------------------------------------------------------------------------------------------------------------------

  module _ (site : Site) (next : Cursor) (words found table : List ℕ) (h : Reached f place site words found table) (uses : Uses) where
    pub shows_done : ((us : List ℕ) (fn : Function) → Ready f us found table → StandsAt f site.own
        → fn.abis ≡ (from f site.own.at).abis → StandsAt f site.here → IsStep f site.here.at
        → (uses.reads ≡ unit_row one us (reads one (program one f) fn (step_from f site.here.at))) × (uses.writes ≡ unit_row one us (writes one (program one f) (step_from f site.here.at))) × StandsAt f next)
        → Shows f place (Ok uses) words
    shows_done k =
        let l = h.located in
        let both = k h.us (function_from f l.0 site.own.at) h.ready l.2 refl l.3 (rw l.4 l.5) in
        record {
          us = h.us;
          fn = function_from f l.0 site.own.at;
          st = step_from f place;
          accepted = h.ready.accepted;
          there = l.1;
          words_are = h.words_are;
          reads_are = rw l.4 at both.0;
          writes_are = rw l.4 at both.1;
        }

  -- The set queries --------------------------------------------------------------------------------------------------------------------------

  module _ (q : Query) (n : ℕ) (before row₀ : List ℕ) where
    pub asks_short : (length before < 512) ⊎ (length row₀ < n) → Asks q n f place before row₀ (Err Short) before row₀
    unfolding asked
    asks_short (inl l) = sym (pick_yes _ _ _ (rw (lt-ltb (length before) 512 l) (yes_or (ltb (length row₀) n))))
    asks_short (inr l) = sym (pick_yes _ _ _ (rw (lt-ltb (length row₀) n l) (or_yes (ltb (length before) 512))))

    module _ (a : 512 ≤ length before) (b : n ≤ length row₀) where
      long : (ltb (length before) 512 or ltb (length row₀) n) ≡ false
      unfolding pick
      long = rw (le-ltb (length before) 512 a, le-ltb (length row₀) n b)

      asked_long : asked q one n f place before row₀ ≡ asked_of q one f place before row₀ (check one f)
      unfolding asked
      asked_long = pick_no _ _ _ long

      asks_refused : (x : Refusal) (words : List ℕ) → Refuses f place x → words ≡ laid 512 [] [] → Asks q n f place before row₀ (Err x) (words ++ drop 512 before) row₀
      asks_refused x words (inl e) h = rw (asked_long, e, h, laid_rest 512 [] before)
      asks_refused x words (inr e) h = rw (asked_long, e.accepted, e.away, e.says, h, laid_rest 512 [] before)

      pub asks_sought : (r : Result Uses Refusal) (words : List ℕ) → Shows f place r words → (x : Refusal) → r ≡ Err x → Asks q n f place before row₀ (Err x) (words ++ drop 512 before) row₀
      asks_sought r words s x e = let h : Refuses f place x × (words ≡ laid 512 [] []) = rw e at s in asks_refused x words h.0 h.1

      -- `found` is handed over
      pub asks_given : (words reads' writes' found : List ℕ) → length found ≡ n → (s : Shown f place words reads' writes') → found ≡ q one (program one f) s.us s.fn s.st
          → Asks q n f place before row₀ (Ok tt) (words ++ drop 512 before) (found ++ drop n row₀)
      asks_given words reads' writes' found l s g = rw (asked_long, s.accepted, s.there, ← g, l, s.words_are, laid_rest 512 s.us before)

  pub shown : (r : Result Uses Refusal) (words : List ℕ) → Shows f place r words → (uses : Uses) → r ≡ Ok uses → Shown f place words uses.reads uses.writes
  shown r words s uses e = rw e at s

  -- the rows that are asked for, and their storages
  module _ (before words reads' writes' : List ℕ) (s : Shown f place words reads' writes') where
    all_words : words ++ drop 512 before ≡ laid 512 s.us before
    all_words = ap (λ (v : List ℕ). v ++ drop 512 before) s.words_are ∙ laid_rest 512 s.us before

    few : length s.us ≤ 512
    few = (accepted one f s.us s.accepted).0.units_most

    pub units_asked : (written : Bool) (found : List ℕ) → found ≡ pick written writes' reads' → found ≡ row_of written one (program one f) s.us s.fn s.st
    unfolding pick
    units_asked true found e = e ∙ s.writes_are
    units_asked false found e = e ∙ s.reads_are

    abbrev stored : List ℕ → List ℕ → List ℕ
    stored v w = pack 4 (λ i. has i (storages_below v w 512))

    pub storages_asked : (written : Bool) (asked found : List ℕ) → asked ≡ pick written writes' reads'
        → found ≡ pack 4 (λ i. has i (storages_below (words ++ drop 512 before) asked 512)) → found ≡ storage_row_of written one (program one f) s.us s.fn s.st
    unfolding pick
    storages_asked true asked found p e =
        e ∙ ap₂ stored all_words (p ∙ s.writes_are) ∙ storages_are s.us _ before few (writes_within f s.us place s.fn s.st s.accepted s.there)
    storages_asked false asked found p e =
        e ∙ ap₂ stored all_words (p ∙ s.reads_are) ∙ storages_are s.us _ before few (reads_within f s.us place s.fn s.st s.accepted s.there)

  -- The effect query -------------------------------------------------------------------------------------------------------------------------

  module _ (before : List ℕ) where
    pub tells_short : length before < 512 → Tells f place before (Err Short) before
    unfolding told
    tells_short l = sym (pick_yes _ _ _ (lt-ltb (length before) 512 l))

    module _ (a : 512 ≤ length before) (words found table : List ℕ) where
      told_long : told one f place before ≡ told_of one f place before (check one f)
      unfolding told
      told_long = pick_no _ _ _ (le-ltb (length before) 512 a)

      pub tells_refused : (x : Refusal) → Refuses f place x → words ≡ laid 512 [] [] → Tells f place before (Err x) (words ++ drop 512 before)
      tells_refused x (inl e) h = rw (told_long, e, h, laid_rest 512 [] before)
      tells_refused x (inr e) h = rw (told_long, e.accepted, e.away, e.says, h, laid_rest 512 [] before)

      pub tells_here : (site : Site) (b : Bool) (t : List ℕ) → Reached f place site words found table → t ≡ drop site.here.at f → b ≡ effect (step_from t 0)
          → Tells f place before (Ok b) (words ++ drop 512 before)
      tells_here site b t h p q =
          let l = h.located in
          let k : b ≡ effect (step_from f place) = rw l.4 at (effect_here f t site.here.at b p q) in
          rw (told_long, h.ready.accepted, l.1, k, h.words_are, laid_rest 512 h.us before)

  -- Any two outcomes that the contract of a query permits coincide.
  pub asks_decide : (q : Query) (n : ℕ) (before row₀ : List ℕ) (r r' : Result (Unit {0}) Refusal) (units₁ units₂ row₁ row₂ : List ℕ) → Asks q n f place before row₀ r units₁ row₁ → Asks q n f place before row₀ r' units₂ row₂
      → (r ≡ r') × (units₁ ≡ units₂) × (row₁ ≡ row₂)
  asks_decide q n before row₀ r r' units₁ units₂ row₁ row₂ p s =
      let e : ◌≡◌ {A = Asked} (record { answer = r; units = units₁; row = row₁ }) (record { answer = r'; units = units₂; row = row₂ }) = p ∙ sym s in
      (ap (λ (o : Asked). o.answer) e, ap (λ (o : Asked). o.units) e, ap (λ (o : Asked). o.row) e)

  pub tells_decide : (before : List ℕ) (r r' : Result Bool Refusal) (units₁ units₂ : List ℕ) → Tells f place before r units₁ → Tells f place before r' units₂ → (r ≡ r') × (units₁ ≡ units₂)
  tells_decide before r r' units₁ units₂ p s =
      let e : ◌≡◌ {A = Told} (record { answer = r; units = units₁ }) (record { answer = r'; units = units₂ }) = p ∙ sym s in
      (ap (λ (o : Told). o.answer) e, ap (λ (o : Told). o.units) e)
