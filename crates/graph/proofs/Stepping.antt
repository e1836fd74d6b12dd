-- A step is noted as the definitions note it: its rows are those of what it reads and writes, so that it adds to each buffer what it adds to each relation,
-- and the live row goes over it. A block's steps are taken from the last to the first, each with what is live after it.
use mathlib.Core.Path.{◌≡◌, refl, sym, ap, ap₂, ◌∙◌, subst}
use mathlib.Core.Logic.{◌⊎◌, inl, inr}
use mathlib.Core.Bool.{Bool, true, false, not, ◌||◌, or_comm, and-eq-true_iff}
use mathlib.Core.List.{List, [], ◌∷◌, ◌++◌, map, Memᴰ}
use Prim.Native.Nat.{ℕ, zero, suc, ◌+◌, ◌*◌, ◌<◌}
use native.Mathlib.Omega.{arith}
use borrow.Author.Tests.{ne_eqb, le-ltb}
use lib.Dec.{eqb, ltb}
use lib.ListN.{length, get_or, drop}
use lib.Seq.{get_or-drop}
use Rattle.rows.specs.Row.{row, put, or_row, less_row}
use Rattle.rows.proofs.Tests.{either}
use Rattle.rows.proofs.Rows.{row_whole, put_whole, length_zip}
use Rattle.fields.specs.Pick.{pick, has}
use Rattle.fields.specs.Edition.{one}
use Rattle.fields.specs.Record.{u8_at}
use Rattle.records.specs.Program.{Step, Function, program}
use Rattle.units.specs.Sets.{less}
use Rattle.units.specs.Uses.{is_instruction, reads as reads_of, writes as writes_of}
use Rattle.units.specs.Rows.{unit_row}
use Rattle.units.specs.Along.{from, step_from, IsStep, StandsAt, Ready}
use Rattle.units.specs.declared.cursor.Cursor.{Cursor}
use Rattle.units.specs.declared.locate.Site.{Site}
use Rattle.liveness.specs.Flow.{Use, use_of}
use Rattle.liveness.specs.Settle.{before}
use Rattle.liveness.specs.Survey.{BeginAt, RowsAt}
use Rattle.liveness.specs.declared.survey.Steps.{Steps}
use Rattle.graph.specs.declared.basis.Basis.{Basis}
use Rattle.graph.specs.declared.sketch.Sketch.{Sketch}
use Rattle.liveness.proofs.SetLaws.{has_append, has_less, has_join}
use Rattle.liveness.proofs.Rows.{row_or, row_less, row_same}
use Rattle.graph.specs.Graph.{is_copy}
use Rattle.meetings.specs.Meeting.{met, copies_noted, addressed_noted}
use Rattle.graph.specs.Gathered.{Stop, stops_in, Numbered, Within, UnitRows, Gathered, Paired, Addressed}
use Rattle.graph.specs.Walking.{operation_at, across, uses_at, Noted, file, Told, use_at, Fits, StepTaken, BlockTaken}
use Rattle.graph.proofs.Meeting.{gathered_on, paired_on, paired_skip, addressed_on, addressed_skip}

-- ---- the operation of a step

op_by : (k a n : ℕ) → n < 255 → (k ≡ 5) ⊎ (k ≡ 7) → pick (eqb k 7) false (eqb a n) ≡ eqb (pick (eqb k 5) a 255) n
unfolding pick
op_by k a n h (inl e) = rw e
op_by k a n h (inr e) = rw e (sym (ne_eqb 255 n (λ q. absurd (omega arith))))

op_is : (f : List ℕ) (at n : ℕ) → n < 255 → IsStep f at → is_instruction n (step_from f at) ≡ eqb (operation_at f at) n
unfolding operation_at u8_at
op_is f at n h i =
    let z : at + 0 ≡ at = omega arith in
    let a : get_or (drop at f) 0 0 ≡ get_or f at 0 = get_or-drop at f 0 0 ∙ ap (λ (j : ℕ). get_or f j 0) z in
    let b : get_or (drop at f) 1 0 ≡ get_or f (at + 1) 0 = get_or-drop at f 1 0 in
    ap₂ (λ (x y : ℕ). pick (eqb x 7) false (eqb y n)) a b ∙ op_by (get_or f at 0) (get_or f (at + 1) 0) n h (kind a i)
  where
    kind : get_or (drop at f) 0 0 ≡ get_or f at 0 → (get_or (drop at f) 0 0 ≡ 5) ⊎ (get_or (drop at f) 0 0 ≡ 7) → (get_or f at 0 ≡ 5) ⊎ (get_or f at 0 ≡ 7)
    kind a (inl e) = inl (sym a ∙ e)
    kind a (inr e) = inr (sym a ∙ e)

pub op_yes : (f : List ℕ) (at r : ℕ) → get_or f at 0 ≡ 5 → r ≡ get_or f (at + 1) 0 → r ≡ operation_at f at
unfolding operation_at pick
op_yes f at r e q = q ∙ rw e

pub op_no : (f : List ℕ) (at r : ℕ) → (get_or f at 0 ≡ 5 → ⊥) → r ≡ 255 → r ≡ operation_at f at
unfolding operation_at pick
op_no f at r n q = q ∙ rw (ne_eqb (get_or f at 0) 5 n)

low_two : (n : ℕ) → (eqb n 0 || eqb n 1) ≡ ltb n 2
low_two zero = refl
low_two (suc zero) = refl
low_two (suc (suc n)) =
    ap₂ (λ (x y : Bool). x || y) (ne_eqb (suc (suc n)) 0 (λ e. absurd (omega arith))) (ne_eqb (suc (suc n)) 1 (λ e. absurd (omega arith)))
    ∙ sym (le-ltb (suc (suc n)) 2 (omega arith))

copy_is : (f : List ℕ) (at : ℕ) → IsStep f at → (is_instruction 0 (step_from f at) || is_instruction 1 (step_from f at)) ≡ ltb (operation_at f at) 2
copy_is f at i = ap₂ (λ (x y : Bool). x || y) (op_is f at 0 (omega arith) i) (op_is f at 1 (omega arith) i) ∙ low_two (operation_at f at)

-- ---- the live row goes over a step

pub moved : (live reads writes y z : List ℕ) → length live ≡ 8 → length reads ≡ 8 → length writes ≡ 8 → y ≡ put live 0 (less_row (row live 0 8) (row writes 0 8))
    → z ≡ put y 0 (or_row (row y 0 8) (row reads 0 8)) → z ≡ or_row (less_row live writes) reads
moved live reads writes y z ll lr lw e f =
    let a : row live 0 8 ≡ live = row_whole live 8 (omega arith) in
    let b : row writes 0 8 ≡ writes = row_whole writes 8 (omega arith) in
    let c : row reads 0 8 ≡ reads = row_whole reads 8 (omega arith) in
    let n : length (less_row live writes) ≡ 8 = length_zip _ live writes (ll ∙ sym lw) ∙ ll in
    let p : y ≡ less_row live writes = e ∙ ap₂ (λ (l m : List ℕ). put live 0 (less_row l m)) a b ∙ put_whole live (less_row live writes) (ll ∙ sym n) in
    let q : row y 0 8 ≡ less_row live writes = ap (λ (l : List ℕ). row l 0 8) p ∙ row_whole (less_row live writes) 8 (omega (arith, n)) in
    let m : length (or_row (less_row live writes) reads) ≡ 8 = length_zip _ (less_row live writes) reads (n ∙ sym lr) ∙ n in
    f ∙ ap₂ (λ (l k : List ℕ). put y 0 (or_row l k)) q c ∙ put_whole y (or_row (less_row live writes) reads) (ap length p ∙ n ∙ sym m)

row_across : (us : List ℕ) (s : Use) (out : List ℕ) → or_row (less_row (unit_row one us out) (unit_row one us s.writes)) (unit_row one us s.reads) ≡ unit_row one us (across s out)
row_across us s out =
    ap (λ (l : List ℕ). or_row l (unit_row one us s.reads)) (row_less one us out s.writes)
    ∙ row_or one us (less out s.writes) s.reads
    ∙ row_same one us (less out s.writes ++ s.reads) (across s out) (λ u.
    has_append u (less out s.writes) s.reads ∙ or_comm (has u (less out s.writes)) (has u s.reads) ∙ sym (has_join u s.reads (less out s.writes)))

across_within : (us : List ℕ) (s : Use) (out : List ℕ) → Within us s.reads → Within us out → Within us (across s out)
across_within us s out wr wo u h = go (either _ _ (sym (has_join u s.reads (less out s.writes)) ∙ h))
  where
    go : (has u s.reads ≡ true) ⊎ (has u (less out s.writes) ≡ true) → has u us ≡ true
    go (inl q) = wr u q
    go (inr q) = wo u ((and-eq-true_iff (has u out) (not (has u s.writes))).0 (sym (has_less u out s.writes) ∙ q)).0

before_within : (us f : List ℕ) (fn : Function) (ss : List Step) (out : List ℕ) → ((s : Step) → Memᴰ s ss → Fits us (use_at f fn s)) → Within us out
    → Within us (before (map (use_at f fn) ss) out)
unfolding before
before_within us f fn [] out k w = w
before_within us f fn (s ∷ ss) out k w =
    across_within us (use_at f fn s) (before (map (use_at f fn) ss) out) (k s (Memᴰ.head refl)).0 (before_within us f fn ss out (λ x m. k x (Memᴰ.tail m)) w)

-- ---- a step

noted_pairs : (us words copies' : List ℕ) (ps : List Stop) (sketch : Sketch) → Numbered us words → Noted us ps sketch → (s : Use) → Fits us s
    → (b : Bool) → is_copy s ≡ b → copies' ≡ pick b (copies_noted sketch.copies words (unit_row one us s.reads) (unit_row one us s.writes)) sketch.copies → Paired (s ∷ uses_at ps) copies'
unfolding pick
noted_pairs us words copies' ps sketch k n s fits true q x = subst (Paired (s ∷ uses_at ps)) (sym x) (paired_on k n.paired s q fits.0 fits.1)
noted_pairs us words copies' ps sketch k n s fits false q x = subst (Paired (s ∷ uses_at ps)) (sym x) (paired_skip n.paired s q)

noted_takes : (us words addressed' : List ℕ) (ps : List Stop) (sketch : Sketch) → Numbered us words → Noted us ps sketch → (s : Use) → Fits us s
    → (b : Bool) → is_instruction 16 s.step ≡ b → addressed' ≡ pick b (addressed_noted sketch.addressed words (unit_row one us s.reads)) sketch.addressed → Addressed (s ∷ uses_at ps) addressed'
unfolding pick
noted_takes us words addressed' ps sketch k n s fits true q x = subst (Addressed (s ∷ uses_at ps)) (sym x) (addressed_on k n.taken s q fits.0)
noted_takes us words addressed' ps sketch k n s fits false q x = subst (Addressed (s ∷ uses_at ps)) (sym x) (addressed_skip n.taken s q)

-- by the step as a use, whose rows are known
module _ (us words units live live' r w : List ℕ) (sketch sketch' : Sketch) (op : ℕ) (s : Use) where
  noted_step : Numbered us words → UnitRows us words units → (out : List ℕ) (ps : List Stop) → Fits us s → Within us out → live ≡ unit_row one us out → Noted us ps sketch
      → r ≡ unit_row one us s.reads → w ≡ unit_row one us s.writes → is_copy s ≡ ltb op 2 → is_instruction 16 s.step ≡ eqb op 16
      → sketch'.meets ≡ met sketch.meets units words live r w (ltb op 2) → sketch'.copies ≡ pick (ltb op 2) (copies_noted sketch.copies words r w) sketch.copies
      → sketch'.addressed ≡ pick (eqb op 16) (addressed_noted sketch.addressed words r) sketch.addressed → live' ≡ or_row (less_row live w) r
      → Noted us ((s, out) ∷ ps) sketch' × (live' ≡ unit_row one us (across s out))
  noted_step k rows out ps fits wo e n er ew ec ed em ep ea el =
      let me : sketch'.meets ≡ met sketch.meets units words (unit_row one us out) (unit_row one us s.reads) (unit_row one us s.writes) (is_copy s) =
      em ∙ ap₂ (λ (l : List ℕ) (b : Bool). met sketch.meets units words l r w b) e (sym ec)
      ∙ ap₂ (λ (x y : List ℕ). met sketch.meets units words (unit_row one us out) x y (is_copy s)) er ew in
      let pe : sketch'.copies ≡ pick (ltb op 2) (copies_noted sketch.copies words (unit_row one us s.reads) (unit_row one us s.writes)) sketch.copies =
      ep ∙ ap₂ (λ (x y : List ℕ). pick (ltb op 2) (copies_noted sketch.copies words x y) sketch.copies) er ew in
      let ae : sketch'.addressed ≡ pick (eqb op 16) (addressed_noted sketch.addressed words (unit_row one us s.reads)) sketch.addressed =
      ea ∙ ap (λ (x : List ℕ). pick (eqb op 16) (addressed_noted sketch.addressed words x) sketch.addressed) er in
      let le : live' ≡ unit_row one us (across s out) =
      el ∙ ap₂ (λ (l x : List ℕ). or_row (less_row l x) r) e ew ∙ ap (λ (x : List ℕ). or_row (less_row (unit_row one us out) (unit_row one us s.writes)) x) er ∙ row_across us s out in (
        record {
          gathered = subst (Gathered us ((s, out) ∷ ps)) (sym me) (gathered_on k rows n.gathered s out fits.0 fits.1 wo);
          paired = noted_pairs us words sketch'.copies ps sketch k n s fits (ltb op 2) ec pe;
          taken = noted_takes us words sketch'.addressed ps sketch k n s fits (eqb op 16) ed ae;
        },
        le,
      )

-- the rows that a step is noted by
abbrev pub Rows : Basis → Site → ℕ → Steps → List ℕ → List ℕ → Type 0
Rows basis site i steps r w = (us : List ℕ) (fn : Function) → Told basis us fn site.own → StandsAt (file basis) site.here → IsStep (file basis) site.here.at
    → RowsAt (file basis) us fn steps.reads steps.writes i (step_from (file basis) site.here.at ∷ [])
    → (r ≡ unit_row one us (use_at (file basis) fn (step_from (file basis) site.here.at)).reads) × (w ≡ unit_row one us (use_at (file basis) fn (step_from (file basis) site.here.at)).writes)

module _ (basis : Basis) (site : Site) (i : ℕ) (steps : Steps) (r w : List ℕ) where
  -- those that the survey kept
  pub rows_kept_at : i < 64 → r ≡ row steps.reads (i * 8) 8 → w ≡ row steps.writes (i * 8) 8 → Rows basis site i steps r w
  rows_kept_at low er ew us fn t hs is rows = (er ∙ (rows.0 low).0, ew ∙ (rows.0 low).1)

  -- those that are asked again
  pub rows_asked : (next : Cursor)
      → ((us : List ℕ) (fn : Function) → Ready (file basis) us basis.source.numbers.now basis.source.table.now → StandsAt (file basis) site.own → fn.abis ≡ (from (file basis) site.own.at).abis
      → StandsAt (file basis) site.here → IsStep (file basis) site.here.at
      → (r ≡ unit_row one us (reads_of one (program one (file basis)) fn (step_from (file basis) site.here.at))) × (w ≡ unit_row one us (writes_of one (program one (file basis)) (step_from (file basis) site.here.at)))
      × StandsAt (file basis) next)
      → Rows basis site i steps r w
  unfolding use_of
  rows_asked next used us fn t hs is rows = let u = used us fn t.ready t.stands t.abis hs is in (u.0, u.1)

  pub step_taken : (live live' : List ℕ) (sketch sketch' : Sketch) (op : ℕ) → op ≡ operation_at (file basis) site.here.at → Rows basis site i steps r w
      → sketch'.meets ≡ met sketch.meets basis.units.now basis.words.now live r w (ltb op 2) → sketch'.copies ≡ pick (ltb op 2) (copies_noted sketch.copies basis.words.now r w) sketch.copies
      → sketch'.addressed ≡ pick (eqb op 16) (addressed_noted sketch.addressed basis.words.now r) sketch.addressed → live' ≡ or_row (less_row live w) r
      → StepTaken basis site i steps live sketch live' sketch'
  unfolding use_of
  step_taken live live' sketch sketch' op eo there em ep ea el = record {
    noted = λ us fn out ps t hs is rows fits wo e n.
        let u = there us fn t hs is rows in
        noted_step us basis.words.now basis.units.now live live' r w sketch sketch' op (use_at (file basis) fn (step_from (file basis) site.here.at)) t.numbered t.rows out ps fits wo e n
        u.0 u.1 (copy_is (file basis) site.here.at is ∙ ap (λ (x : ℕ). ltb x 2) (sym eo)) (op_is (file basis) site.here.at 16 (omega arith) is ∙ ap (λ (x : ℕ). eqb x 16) (sym eo)) em ep ea el;
  }

-- ---- the steps of a block

module _ (basis : Basis) (own : Cursor) (steps : Steps) (last : ℕ) (live : List ℕ) (sketch : Sketch) where
  pub block_none : BlockTaken basis own steps last last live sketch live sketch
  unfolding stops_in before
  block_none = record { upto = omega arith; noted = noted }
    where
      noted : (us : List ℕ) (fn : Function) (ss : List Step) (out : List ℕ) (ps : List Stop) → Told basis us fn own
          → BeginAt (file basis) steps.places steps.counts last ss → RowsAt (file basis) us fn steps.reads steps.writes last ss → last ≡ last + length ss
          → ((s : Step) → Memᴰ s ss → Fits us (use_at (file basis) fn s)) → Within us out → live ≡ unit_row one us out → Noted us ps sketch
          → Noted us (stops_in (map (use_at (file basis) fn) ss) out ++ ps) sketch × (live ≡ unit_row one us (before (map (use_at (file basis) fn) ss) out))
      noted us fn [] out ps t b r e k w el n = (n, el)
      noted us fn (s ∷ ss) out ps t b r e k w el n = absurd (omega arith)

  module _ (i j : ℕ) (live₁ live' : List ℕ) (sketch₁ sketch' : Sketch) (here : Cursor) (p : i ≡ j + 1) (ha : here.at ≡ get_or steps.places j 0) (hk : here.k ≡ get_or steps.counts j 0)
      (b : BlockTaken basis own steps last i live sketch live₁ sketch₁)
      (step : StepTaken basis (record { own = own; here = here }) j steps live₁ sketch₁ live' sketch') where
    more_noted : (us : List ℕ) (fn : Function) (ss : List Step) (out : List ℕ) (ps : List Stop) → Told basis us fn own
        → BeginAt (file basis) steps.places steps.counts j ss → RowsAt (file basis) us fn steps.reads steps.writes j ss → last ≡ j + length ss
        → ((s : Step) → Memᴰ s ss → Fits us (use_at (file basis) fn s)) → Within us out → live ≡ unit_row one us out → Noted us ps sketch
        → Noted us (stops_in (map (use_at (file basis) fn) ss) out ++ ps) sketch' × (live' ≡ unit_row one us (before (map (use_at (file basis) fn) ss) out))
    unfolding stops_in before
    more_noted us fn [] out ps t g r e k w el n = absurd (omega (arith, b.upto))
    more_noted us fn (s ∷ ss) out ps t g r e k w el n =
        let f = file basis in
        let prev = b.noted us fn ss out ps t (subst (λ (x : ℕ). BeginAt f steps.places steps.counts x ss) (sym p) g.1) (subst (λ (x : ℕ). RowsAt f us fn steps.reads steps.writes x ss) (sym p) r.1) (omega arith) (λ x m. k x (Memᴰ.tail m)) w el n in
        let q : step_from f here.at ≡ s = ap (step_from f) ha ∙ g.0.2 in
        let hs : StandsAt f here = rw (ha, hk) g.0.0 in
        let is : IsStep f here.at = subst (IsStep f) (sym ha) g.0.1 in
        let rows : RowsAt f us fn steps.reads steps.writes j (step_from f here.at ∷ []) = subst (λ (x : Step). RowsAt f us fn steps.reads steps.writes j (x ∷ [])) (sym q) (r.0, tt) in
        let fits : Fits us (use_at f fn (step_from f here.at)) = subst (λ (x : Step). Fits us (use_at f fn x)) (sym q) (k s (Memᴰ.head refl)) in
        subst (λ (x : Step). Noted us ((use_at f fn x, before (map (use_at f fn) ss) out) ∷ (stops_in (map (use_at f fn) ss) out ++ ps)) sketch'
        × (live' ≡ unit_row one us (across (use_at f fn x) (before (map (use_at f fn) ss) out)))) q
        (step.noted us fn (before (map (use_at f fn) ss) out) (stops_in (map (use_at f fn) ss) out ++ ps) t hs is rows fits
        (before_within us f fn ss out (λ x m. k x (Memᴰ.tail m)) w) prev.1 prev.0)

    pub block_more : BlockTaken basis own steps last j live sketch live' sketch'
    block_more = record { upto = omega (arith, b.upto); noted = more_noted }
