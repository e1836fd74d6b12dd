-- A block's rows, places and targets, gathered record by record. A step behind others reads first what they do not write, so its rows join theirs; its
-- place comes behind theirs; and the targets that stand at the end are those of the last step, since each step begins them anew.
use mathlib.Core.Path.{◌≡◌, refl, sym, ap, ap₂, ◌∙◌}
use mathlib.Core.Bool.{Bool, true, false, not, ◌&&◌, ◌||◌}
use mathlib.Core.List.{List, [], ◌∷◌, ◌++◌, append_assoc, append-nil}
use Prim.Native.Nat.{ℕ, suc, ◌+◌, ◌*◌, ◌-◌, ◌≤◌, ◌<◌}
use native.Mathlib.Omega.{arith}
use lib.ListN.{length, get_or, take, drop, set, replicate, length-append, length-drop}
use lib.Seq.{drop-set-add, take-suc-set, get_or-drop, get_or-set_same, get_or-set_other}
use Rattle.rows.specs.Row.{row, put, or_row, less_row}
use Rattle.rows.specs.Row as W
use Rattle.rows.proofs.Rows.{row_whole, put_whole, length_zip}
use Rattle.fields.specs.Pick.{has}
use Rattle.fields.specs.Edition.{one}
use Rattle.fields.specs.Record.{u16_at}
use Rattle.records.specs.Check.{units, check}
use Rattle.records.specs.Program.{Step, Rest, Function, program, put as put_rec, put_step}
use Rattle.units.specs.Sets.{less}
use Rattle.units.specs.Uses.{reads as reads_of, writes as writes_of}
use Rattle.units.specs.Rows.{unit_row}
use Rattle.units.specs.Along.{from, step_from, IsStep, Stands, StandsAt, Ready}
use Rattle.passes.specs.Passes.{width, part}
use Rattle.liveness.specs.Flow.{Use, use_of, last_targets}
use Rattle.liveness.specs.Survey.{read_first, written, BeginAt, RowsAt}
use Rattle.liveness.specs.Walks.{Kept, KeptRows, Inner, Outer, Same, Asked, uses_of, InBlock, BlockRead}
use Rattle.units.specs.declared.cursor.Cursor.{Cursor}
use Rattle.liveness.specs.declared.survey.Steps.{Steps}
use Rattle.liveness.specs.declared.survey.Walk.{Walk}
use Rattle.liveness.proofs.SetLaws.{has_nil, has_append, has_less}
use Rattle.liveness.proofs.Rows.{row_length, row_same, row_or, row_less}
use Rattle.units.proofs.Standing.{stands_on}
use Rattle.units.proofs.Using.{no_units}
use Rattle.liveness.proofs.Onward.{from_target, from_operand, over_operands}

-- What steps read first, with one step more -----------------------------------------------------------------------------------------------------

first_or_later : (a r w s v : Bool) → (a || ((r || (s && not v)) && not w)) ≡ ((a || (r && not w)) || (s && not (w || v)))
first_or_later true r w s v = refl
first_or_later false true true true v = refl
first_or_later false true true false v = refl
first_or_later false true false s v = refl
first_or_later false false true true true = refl
first_or_later false false true true false = refl
first_or_later false false true false v = refl
first_or_later false false false true true = refl
first_or_later false false false true false = refl
first_or_later false false false false v = refl

or_none : (a : Bool) → (a || false) ≡ (a && true)
or_none true = refl
or_none false = refl

read_more : (l : List Use) (s : Use) (u : ℕ) → has u (read_first (l ++ (s ∷ []))) ≡ has u (read_first l ++ less s.reads (written l))
unfolding read_first written
read_more [] s u = simp (has_append, has_less, has_nil) (or_none (has u s.reads))
read_more (a ∷ l) s u =
    let ih = read_more l s u in
    simp (has_append, has_less, ih) (first_or_later (has u a.reads) (has u (read_first l)) (has u a.writes) (has u s.reads) (has u (written l)))

write_more : (l : List Use) (s : Use) → written (l ++ (s ∷ [])) ≡ written l ++ s.writes
unfolding written
write_more [] s = append-nil s.writes
write_more (a ∷ l) s = ap (λ (m : List ℕ). a.writes ++ m) (write_more l s) ∙ sym (append_assoc a.writes (written l) s.writes)

module _ (us : List ℕ) (l : List Use) (s : Use) where
  pub born_more : or_row (unit_row one us (read_first l)) (less_row (unit_row one us s.reads) (unit_row one us (written l))) ≡ unit_row one us (read_first (l ++ (s ∷ [])))
  born_more =
      ap (or_row (unit_row one us (read_first l))) (row_less one us s.reads (written l))
      ∙ (row_or one us (read_first l) (less s.reads (written l)) ∙ sym (row_same one us _ _ (read_more l s)))

  pub dead_more : or_row (unit_row one us (written l)) (unit_row one us s.writes) ≡ unit_row one us (written (l ++ (s ∷ [])))
  dead_more = row_or one us (written l) s.writes ∙ ap (unit_row one us) (sym (write_more l s))

pub uses_more : (f : List ℕ) (fn : Function) (ss : List Step) (x : Step) → uses_of f fn (ss ++ (x ∷ [])) ≡ uses_of f fn ss ++ (use_of one (program one f) fn x ∷ [])
uses_more f fn [] x = refl
uses_more f fn (y ∷ ss) x = ap (λ (l : List Use). use_of one (program one f) fn y ∷ l) (uses_more f fn ss x)

-- the words that the code makes: rows of eight words, whole
module _ (R Q born dead R' born' dead' : List ℕ) (lr : length R ≡ 8) (lv : length Q ≡ 8) (lb : length born ≡ 8) (ld : length dead ≡ 8) where
  pub rows_joined : R' ≡ put R 0 (less_row (row R 0 8) (row dead 0 8)) → born' ≡ put born 0 (or_row (row born 0 8) (row R' 0 8)) → dead' ≡ put dead 0 (or_row (row dead 0 8) (row Q 0 8))
      → (born' ≡ or_row born (less_row R dead)) × (dead' ≡ or_row dead Q)
  rows_joined p q r =
      let d : row dead 0 8 ≡ dead = row_whole dead 8 (omega arith) in
      let lz : length (less_row R dead) ≡ 8 = length_zip W.less R dead (lr ∙ sym ld) ∙ lr in
      let e : R' ≡ less_row R dead = p ∙ (rw (row_whole R 8 (omega arith), d) (put_whole R (less_row R dead) (lr ∙ sym lz))) in
      let e' : row R' 0 8 ≡ less_row R dead = ap (λ (x : List ℕ). row x 0 8) e ∙ row_whole (less_row R dead) 8 (omega arith) in (
        q ∙ rw (row_whole born 8 (omega arith), e') (put_whole born _ (sym (length_zip _ born (less_row R dead) (lb ∙ sym lz)))),
        r ∙ rw (d, row_whole Q 8 (omega arith)) (put_whole dead _ (sym (length_zip _ dead Q (ld ∙ sym lv)))),
      )

-- a step behind others: the rows that the code makes of its units, the read ones in a copy F
module _ (f us found table : List ℕ) (fn : Function) (own here r : Cursor) (ss : List Step) (R Q born dead Z F F' born' dead' : List ℕ) where
  abbrev Told : Type 0
  Told =
      (us : List ℕ) (g : Function) → Ready f us found table → StandsAt f own → g.abis ≡ (from f own.at).abis → StandsAt f here → IsStep f here.at
      → (R ≡ unit_row one us (reads_of one (program one f) g (step_from f here.at))) × (Q ≡ unit_row one us (writes_of one (program one f) (step_from f here.at))) × StandsAt f r

  pub step_joined : length born ≡ 8 → length dead ≡ 8 → length Z ≡ 8 → Told → r.at ≡ here.at + 4 + 7 * length (from f (here.at + 4)).operands
      → F ≡ put Z 0 (row R 0 8) → F' ≡ put F 0 (less_row (row F 0 8) (row dead 0 8)) → born' ≡ put born 0 (or_row (row born 0 8) (row F' 0 8)) → dead' ≡ put dead 0 (or_row (row dead 0 8) (row Q 0 8))
      → Asked f us found table fn own → StandsAt f here → IsStep f here.at → born ≡ unit_row one us (read_first (uses_of f fn ss)) → dead ≡ unit_row one us (written (uses_of f fn ss))
      → (R ≡ unit_row one us (use_of one (program one f) fn (step_from f here.at)).reads) × (Q ≡ unit_row one us (use_of one (program one f) fn (step_from f here.at)).writes)
      × (born' ≡ unit_row one us (read_first (uses_of f fn (ss ++ (step_from f here.at ∷ []))))) × (dead' ≡ unit_row one us (written (uses_of f fn (ss ++ (step_from f here.at ∷ []))))) × StandsAt f r
      × Same f (here.at + 4) r.at
  unfolding use_of
  step_joined lb ld lz told far o p q w a hs is eb ed =
      let t = told us fn a.ready a.stands a.abis hs is in
      let lr : length R ≡ 8 = ap length t.0 ∙ row_length one us _ in
      let lq : length Q ≡ 8 = ap length t.1 ∙ row_length one us _ in
      let e : F ≡ R = o ∙ rw (row_whole R 8 (omega arith)) (put_whole Z R (lz ∙ sym lr)) in
      let j = rows_joined F Q born dead F' born' dead' (ap length e ∙ lr) lq lb ld p q w in
      let x = use_of one (program one f) fn (step_from f here.at) in
      let more = uses_more f fn ss (step_from f here.at) in (
        t.0,
        t.1,
        j.0 ∙ (rw (eb, ed, e, t.0) (born_more us (uses_of f fn ss) x) ∙ ap (λ (l : List Use). unit_row one us (read_first l)) (sym more)),
        j.1 ∙ (rw (ed, t.1) (dead_more us (uses_of f fn ss) x) ∙ ap (λ (l : List Use). unit_row one us (written l)) (sym more)),
        t.2,
        rw far (over_operands f (from f (here.at + 4)).operands (here.at + 4) refl),
      )

-- Steps and their places -----------------------------------------------------------------------------------------------------------------------

-- what stands at an entry: the place of a step and the unit numbers before it
abbrev Begins : List ℕ → ℕ → ℕ → Step → Type 0
Begins f at k x = Stands f at k × IsStep f at × (step_from f at ≡ x) × (7 * k ≤ at) × (at + 4 ≤ length f)

begin_more : (f places counts : List ℕ) (i j : ℕ) (ss : List Step) (x : Step) → j ≡ i + length ss → BeginAt f places counts i ss → Begins f (get_or places j 0) (get_or counts j 0) x
    → BeginAt f places counts i (ss ++ (x ∷ []))
begin_more f places counts i j [] x e h b = let z : j ≡ i = omega arith in (rw z at b, tt)
begin_more f places counts i j (y ∷ ss) x e h b = (h.0, begin_more f places counts (i + 1) j ss x (omega arith) h.1 b)

-- places that are noted stay where later ones are written
pub begin_kept : (f places counts places' counts' : List ℕ) (i n : ℕ) (ss : List Step) → i + length ss ≤ n → Kept n places places' → Kept n counts counts'
    → BeginAt f places counts i ss → BeginAt f places' counts' i ss
begin_kept f places counts places' counts' i n [] l p q h = tt
begin_kept f places counts places' counts' i n (y ∷ ss) l p q h =
    let a : get_or places' i 0 ≡ get_or places i 0 = p i (omega arith) in
    let b : get_or counts' i 0 ≡ get_or counts i 0 = q i (omega arith) in
    (rw (a, b) h.0, begin_kept f places counts places' counts' (i + 1) n ss (omega arith) p q h.1)

pub kept_set : (l : List ℕ) (i v : ℕ) → Kept i l (set l i v)
kept_set l i v j h = get_or-set_other l i j v 0 (λ e. absurd (omega arith))

-- Steps and their rows -------------------------------------------------------------------------------------------------------------------------

-- the rows of a step, where they are kept
abbrev pub RowsOf : List ℕ → List ℕ → Function → List ℕ → List ℕ → ℕ → Step → Type 0
RowsOf f us fn R Q j x =
    j < 64 → (row R (j * width) width ≡ unit_row one us (use_of one (program one f) fn x).reads) × (row Q (j * width) width ≡ unit_row one us (use_of one (program one f) fn x).writes)

rows_more : (f us : List ℕ) (fn : Function) (R Q : List ℕ) (i j : ℕ) (ss : List Step) (x : Step) → j ≡ i + length ss → RowsAt f us fn R Q i ss → RowsOf f us fn R Q j x
    → RowsAt f us fn R Q i (ss ++ (x ∷ []))
rows_more f us fn R Q i j [] x e h b = let z : j ≡ i = omega arith in (rw z at b, tt)
rows_more f us fn R Q i j (y ∷ ss) x e h b = (h.0, rows_more f us fn R Q (i + 1) j ss x (omega arith) h.1 b)

-- rows stay where those of later steps are written
pub rows_kept : (f us : List ℕ) (fn : Function) (R Q R' Q' : List ℕ) (i n : ℕ) (ss : List Step) → i + length ss ≤ n → KeptRows n R R' → KeptRows n Q Q'
    → RowsAt f us fn R Q i ss → RowsAt f us fn R' Q' i ss
rows_kept f us fn R Q R' Q' i n [] l p q h = tt
rows_kept f us fn R Q R' Q' i n (y ∷ ss) l p q h =
    (λ m. (p i (omega arith) m ∙ (h.0 m).0, q i (omega arith) m ∙ (h.0 m).1), rows_kept f us fn R Q R' Q' (i + 1) n ss (omega arith) p q h.1)

-- Targets --------------------------------------------------------------------------------------------------------------------------------------

part_more : (l : List ℕ) (t j v : ℕ) → t ≤ j → j < length l → part (set l j v) t (j + 1) ≡ part l t j ++ (v ∷ [])
unfolding part
part_more l t j v h k =
    let e : t + (j - t) ≡ j = omega arith in
    let n : j + 1 - t ≡ suc (j - t) = omega arith in
    ap₂ (λ (m i : ℕ). take m (drop t (set l i v))) n (sym e)
    ∙ (ap (take (suc (j - t))) (drop-set-add t l (j - t) v) ∙ take-suc-set (drop t l) (j - t) v (omega (arith, length-drop t l)))

last_any : (a b : List ℕ) (ss : List Step) → (ss ≡ [] → ⊥) → last_targets a ss ≡ last_targets b ss
unfolding last_targets
last_any a b [] n = absurd (n refl)
last_any a b (x ∷ ss) n = refl

pub target_id : (f : List ℕ) (at : ℕ) → u16_at f (at + 1) ≡ u16_at (drop at f) 1
unfolding u16_at
target_id f at =
    let a : at + 1 + 1 ≡ at + (1 + 1) = omega arith in
    sym (ap₂ (λ (x y : ℕ). x + y * 256) (get_or-drop at f 1 0) (get_or-drop at f (1 + 1) 0 ∙ ap (λ (i : ℕ). get_or f i 0) (sym a)))

-- The walk inside a block ----------------------------------------------------------------------------------------------------------------------

pub in_start : (f us : List ℕ) (fn : Function) (notes : Steps) (w : Walk) → Stands f w.at w.k → ((from f w.at).steps ≡ [] → ⊥)
    → InBlock f us fn w.at w.steps w.targets (replicate 8 0) (replicate 8 0) notes w
unfolding read_first written
in_start f us fn notes w s n =
    record {
      done = [];
      splits = refl;
      stands = s;
      many = omega arith;
      begun = tt;
      rows = tt;
      reading = no_units us;
      writing = no_units us;
      going = last_any [] _ (from f w.at).steps n;
      blocks = refl;
      functions = refl;
    }

module _ (f us : List ℕ) (fn : Function) (start s t : ℕ) (born dead : List ℕ) (notes : Steps) (w : Walk) (g : InBlock f us fn start s t born dead notes w) where
  module _ (ok : check one f ≡ units us) where
    pub in_target : (v : ℕ) → Inner f w.at 8 → t ≤ w.targets → w.targets < length notes.targets → v ≡ u16_at f (w.at + 1)
        → InBlock f us fn start s t born dead (record notes { targets = set notes.targets w.targets v }) (record { at = w.at + 3; k = w.k; steps = w.steps; targets = w.targets + 1 })
    unfolding put_rec
    in_target v h l m e =
        let r = from_target f w.at h in
        let steps : (from f w.at).steps ≡ (from f (w.at + 3)).steps = ap (λ (x : Rest). x.steps) r.1 in
        let ts : (from f w.at).targets ≡ v ∷ (from f (w.at + 3)).targets = ap (λ (x : Rest). x.targets) r.1 ∙ ap (λ (i : ℕ). i ∷ (from f (w.at + 3)).targets) (sym (e ∙ target_id f w.at)) in
        let same : part notes.targets t w.targets ++ (from f w.at).targets ≡ part (set notes.targets w.targets v) t (w.targets + 1) ++ (from f (w.at + 3)).targets =
        ap (λ (x : List ℕ). part notes.targets t w.targets ++ x) ts
        ∙ (sym (append_assoc (part notes.targets t w.targets) (v ∷ []) (from f (w.at + 3)).targets) ∙ ap (λ (x : List ℕ). x ++ (from f (w.at + 3)).targets) (sym (part_more notes.targets t w.targets v l m))) in
        let k : w.k + 0 ≡ w.k = omega arith in
        record {
          done = g.done;
          splits = g.splits ∙ ap (λ (x : List Step). g.done ++ x) steps;
          stands = rw k at (stands_on f us ok w.at w.k g.stands 3 _ r.0);
          many = g.many;
          begun = g.begun;
          rows = g.rows;
          reading = g.reading;
          writing = g.writing;
          going = g.going ∙ ap₂ (λ (x : List ℕ) (y : List Step). last_targets x y) same steps;
          blocks = sym (ap (λ (x : Rest). x.blocks) r.1) ∙ g.blocks;
          functions = sym (ap (λ (x : Rest). x.functions) r.1) ∙ g.functions;
        }

    pub in_operand : Inner f w.at 6 → InBlock f us fn start s t born dead notes (record { at = w.at + 7; k = w.k + 1; steps = w.steps; targets = w.targets })
    unfolding put_rec
    in_operand h =
        let r = from_operand f w.at h in
        let steps : (from f w.at).steps ≡ (from f (w.at + 7)).steps = ap (λ (x : Rest). x.steps) r.1 in
        let ts : (from f w.at).targets ≡ (from f (w.at + 7)).targets = ap (λ (x : Rest). x.targets) r.1 in
        record {
          done = g.done;
          splits = g.splits ∙ ap (λ (x : List Step). g.done ++ x) steps;
          stands = stands_on f us ok w.at w.k g.stands 7 _ r.0;
          many = g.many;
          begun = g.begun;
          rows = g.rows;
          reading = g.reading;
          writing = g.writing;
          going = g.going ∙ ap₂ (λ (x : List ℕ) (y : List Step). last_targets (part notes.targets t w.targets ++ x) y) ts steps;
          blocks = sym (ap (λ (x : Rest). x.blocks) r.1) ∙ g.blocks;
          functions = sym (ap (λ (x : Rest). x.functions) r.1) ∙ g.functions;
        }

  -- a step, with the place behind its operands
  pub in_step : (born' dead' reads' writes' : List ℕ) (at k : ℕ) → IsStep f w.at → w.at + 4 ≤ length f → 7 * w.k ≤ w.at → from f w.at ≡ put_step (step_from f w.at) (from f (w.at + 4))
      → w.steps < length notes.places → w.steps < length notes.counts → KeptRows w.steps notes.reads reads' → KeptRows w.steps notes.writes writes' → RowsOf f us fn reads' writes' w.steps (step_from f w.at)
      → born' ≡ unit_row one us (read_first (uses_of f fn (g.done ++ (step_from f w.at ∷ [])))) → dead' ≡ unit_row one us (written (uses_of f fn (g.done ++ (step_from f w.at ∷ []))))
      → Stands f at k → Same f (w.at + 4) at
      → InBlock f us fn start s t born' dead' (record notes { reads = reads'; writes = writes'; places = set notes.places w.steps w.at; counts = set notes.counts w.steps w.k }) (record { at = at; k = k; steps = w.steps + 1; targets = t })
  unfolding put_step last_targets part
  in_step born' dead' reads' writes' at k is fits low e lp lc kr kw own br dr st same =
      let x = step_from f w.at in
      let steps : (from f w.at).steps ≡ x ∷ (from f at).steps = ap (λ (r : Rest). r.steps) e ∙ ap (λ (l : List Step). x ∷ l) (sym same.steps) in
      let none : t - t ≡ 0 = omega arith in
      record {
        done = g.done ++ (x ∷ []);
        splits = g.splits ∙ (ap (λ (l : List Step). g.done ++ l) steps ∙ sym (append_assoc g.done (x ∷ []) (from f at).steps));
        stands = st;
        many = omega (arith, g.many, length-append g.done (x ∷ []));
        begun =
            begin_more f (set notes.places w.steps w.at) (set notes.counts w.steps w.k) s w.steps g.done x g.many
            (begin_kept f notes.places notes.counts _ _ s w.steps g.done (omega (arith, g.many)) (kept_set notes.places w.steps w.at) (kept_set notes.counts w.steps w.k) g.begun)
            (rw (get_or-set_same notes.places w.steps w.at 0 lp, get_or-set_same notes.counts w.steps w.k 0 lc) (g.stands, is, refl, low, fits));
        rows = rows_more f us fn reads' writes' s w.steps g.done x g.many (rows_kept f us fn notes.reads notes.writes reads' writes' s w.steps g.done (omega (arith, g.many)) kr kw g.rows) own;
        reading = br;
        writing = dr;
        going = g.going ∙ (ap (last_targets _) steps ∙ ap₂ (λ (n : ℕ) (l : List ℕ). last_targets (take n (drop t notes.targets) ++ l) (from f at).steps) (sym none) (sym same.targets));
        blocks = same.blocks ∙ (sym (ap (λ (r : Rest). r.blocks) e) ∙ g.blocks);
        functions = same.functions ∙ (sym (ap (λ (r : Rest). r.functions) e) ∙ g.functions);
      }

  pub in_done : Outer f w.at → BlockRead f us fn start s t born dead notes w
  unfolding last_targets
  in_done o =
      let all : g.done ≡ (from f start).steps = sym (g.splits ∙ (ap (λ (l : List Step). g.done ++ l) o.0 ∙ append-nil g.done)) in
      record {
        stands = g.stands;
        many = g.many ∙ ap (λ (l : List Step). s + length l) all;
        begun = rw all at g.begun;
        rows = rw all at g.rows;
        reading = g.reading ∙ ap (λ (l : List Step). unit_row one us (read_first (uses_of f fn l))) all;
        writing = g.writing ∙ ap (λ (l : List Step). unit_row one us (written (uses_of f fn l))) all;
        going = sym (g.going ∙ (ap₂ (λ (a : List ℕ) (b : List Step). last_targets (part notes.targets t w.targets ++ a) b) o.1 o.0 ∙ append-nil (part notes.targets t w.targets)));
        blocks = g.blocks;
        functions = g.functions;
      }
