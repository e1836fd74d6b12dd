-- What each record of a block, and each block, adds to the walk, as the code adds it: its numbers stay within the file, entries that are noted stay, and
-- what is read so far is carried on by the laws of steps, operands, targets and blocks.
use mathlib.Core.Path.{◌≡◌, refl, ap, ◌∙◌}
use mathlib.Core.Bool.{true}
use mathlib.Core.List.{List, [], ◌∷◌, ◌++◌}
use Prim.Native.Nat.{ℕ, ◌+◌, ◌*◌, ◌-◌, ◌≤◌, ◌<◌}
use native.Mathlib.Omega.{arith}
use lib.ListN.{length, set, replicate, length-set}
use lib.Seq.{get_or-set_other}
use Rattle.rows.specs.Row.{row, put}
use Rattle.rows.proofs.Rows.{length_put, row_whole}
use Rattle.fields.specs.Edition.{one}
use Rattle.fields.specs.Record.{u16_at}
use Rattle.records.specs.Program.{Step, Function, program}
use Rattle.fields.proofs.ByKind.{length_one}
use Rattle.units.specs.Rows.{unit_row}
use Rattle.units.specs.Along.{step_from, IsStep, Stands, StandsAt, Sound}
use Rattle.passes.specs.Passes.{width}
use Rattle.liveness.specs.Flow.{use_of}
use Rattle.liveness.specs.Survey.{read_first, written, row_for}
use Rattle.liveness.specs.Walks.{BlockHere, Stopped, Came, Inner, Outer, Same, Within, Asked, uses_of, Taken, Walked, Tallied, Grown}
use Rattle.units.specs.declared.cursor.Cursor.{Cursor}
use Rattle.liveness.specs.declared.survey.Steps.{Steps}
use Rattle.liveness.specs.declared.survey.Findings.{Findings}
use Rattle.liveness.specs.declared.survey.Walk.{Walk}
use Rattle.liveness.proofs.Onward.{step_here}
use Rattle.liveness.proofs.Keeping.{laid_at, rows_stay, rows_own}
use Rattle.liveness.proofs.Gathering.{kept_set, in_start, in_target, in_operand, in_step, in_done}
use Rattle.liveness.proofs.Counting.{block_stands, block_steps, tallied_on, counted_on}

module _ (f : List ℕ) (at kind : ℕ) (inner : Inner f at kind) where
  inner_is : (k : ℕ) → kind ≡ k → Inner f at k
  inner_is k e = rw e at inner

  pub target_fits : kind ≡ 8 → at + 1 + 1 < length f
  target_fits e = omega (arith, (inner_is 8 e).fits, length_one 8)

  pub step_fits : (kind ≡ 8 → ⊥) → (kind ≡ 6 → ⊥) → at + 4 ≤ length f
  step_fits a b = (step_here f at kind inner a b).1

module _ (f found table : List ℕ) (own : Cursor) (first : ℕ) (born dead : List ℕ) (notes : Steps) (w : Walk) (kind : ℕ) (within : Within w) (inner : Inner f w.at kind) (low : first ≤ w.targets) where
  pub taken_target : (v : ℕ) → kind ≡ 8 → length notes.targets ≡ 5462 → length f ≤ 16384 → v ≡ u16_at f (w.at + 1)
      → Taken f found table own first born dead notes w born dead (record notes { targets = set notes.targets w.targets v }) (record { at = w.at + 3; k = w.k; steps = w.steps; targets = w.targets + 1 })
  taken_target v e lt lf is =
      let i = inner_is f w.at kind inner 8 e in
      let h : w.at + 3 ≤ length f = omega (arith, i.fits, length_one 8) in
      record {
        within = (omega (arith, within.0), omega (arith, within.1), omega (arith, within.2));
        on = omega arith;
        fits = h;
        more_steps = omega arith;
        more_targets = omega arith;
        alike = (simp length-set, refl);
        kept_targets = λ j l. get_or-set_other notes.targets w.targets j v 0 (λ q. absurd (omega arith));
        kept_reads = λ j l m. refl;
        kept_writes = λ j l m. refl;
        kept_places = λ j l. refl;
        kept_counts = λ j l. refl;
        carries = λ us fn start s a g. in_target f us fn start s first born dead notes w g a.ready.accepted v i low (omega (arith, within.2)) is;
      }

  pub taken_operand : kind ≡ 6 → Taken f found table own first born dead notes w born dead notes (record { at = w.at + 7; k = w.k + 1; steps = w.steps; targets = w.targets })
  taken_operand e =
      let i = inner_is f w.at kind inner 6 e in
      record {
        within = (omega (arith, within.0), omega (arith, within.1), omega (arith, within.2));
        on = omega arith;
        fits = omega (arith, i.fits, length_one 6);
        more_steps = omega arith;
        more_targets = low;
        alike = (refl, refl);
        kept_targets = λ j l. refl;
        kept_reads = λ j l m. refl;
        kept_writes = λ j l m. refl;
        kept_places = λ j l. refl;
        kept_counts = λ j l. refl;
        carries = λ us fn start s a g. in_operand f us fn start s first born dead notes w g a.ready.accepted i;
      }

  -- the step's rows R and Q are written where rows of its number stand
  module _ (born' dead' R Q : List ℕ) (c : ℕ) (next : Cursor) where
    abbrev Joins : Type 0
    Joins =
        (us : List ℕ) (fn : Function) (ss : List Step) → Asked f us found table fn own → Stands f w.at w.k → IsStep f w.at
        → born ≡ unit_row one us (read_first (uses_of f fn ss)) → dead ≡ unit_row one us (written (uses_of f fn ss))
        → (R ≡ unit_row one us (use_of one (program one f) fn (step_from f w.at)).reads) × (Q ≡ unit_row one us (use_of one (program one f) fn (step_from f w.at)).writes)
        × (born' ≡ unit_row one us (read_first (uses_of f fn (ss ++ (step_from f w.at ∷ []))))) × (dead' ≡ unit_row one us (written (uses_of f fn (ss ++ (step_from f w.at ∷ [])))))
        × StandsAt f next × Same f (w.at + 4) next.at

    pub taken_step : (kind ≡ 8 → ⊥) → (kind ≡ 6 → ⊥) → length f ≤ 16384 → length notes.reads ≡ 520 → length notes.writes ≡ 520 → length notes.places ≡ 4097 → length notes.counts ≡ 4097
        → c ≡ row_for w.steps → c + 8 ≤ 520 → length R ≡ c + 8 - c → length Q ≡ c + 8 - c → Sound next → w.at + 4 ≤ next.at → next.at ≤ length f → Joins
        → Taken f found table own first born dead notes w born' dead'
        (record notes { reads = laid_at notes.reads c R; writes = laid_at notes.writes c Q; places = set notes.places w.steps w.at; counts = set notes.counts w.steps w.k })
        (record { at = next.at; k = next.k; steps = w.steps + 1; targets = first })
    taken_step a b lf lr lw lp lc is room l8 k8 sound far fits joins =
        let h = step_here f w.at kind inner a b in
        let kr = rows_stay notes.reads R c w.steps is (omega arith) l8 in
        let kw = rows_stay notes.writes Q c w.steps is (omega arith) k8 in
        record {
          within = (sound, omega (arith, within.1), omega (arith, within.2));
          on = omega arith;
          fits = fits;
          more_steps = omega arith;
          more_targets = omega arith;
          alike = (refl, simp length-set);
          kept_targets = λ j l. refl;
          kept_reads = kr;
          kept_writes = kw;
          kept_places = kept_set notes.places w.steps w.at;
          kept_counts = kept_set notes.counts w.steps w.k;
          carries = λ us fn start s q g.
              let j = joins us fn g.done q g.stands h.0 g.reading g.writing in
              in_step f us fn start s first born dead notes w g born' dead' (laid_at notes.reads c R) (laid_at notes.writes c Q) next.at next.k h.0 h.1 within.0 h.2
              (omega (arith, within.1, h.1)) (omega (arith, within.1, h.1)) kr kw
              (λ m. (rows_own notes.reads R c w.steps is (omega arith) l8 m ∙ j.0, rows_own notes.writes Q c w.steps is (omega arith) k8 m ∙ j.1)) j.2 j.3 j.4 j.5;
        }

-- The records of a block -----------------------------------------------------------------------------------------------------------------------

pub walked_none : (f found table : List ℕ) (own : Cursor) (born dead : List ℕ) (notes : Steps) (w : Walk) → Within w → w.at ≤ length f
    → Walked f found table own born dead notes w born dead notes w
walked_none f found table own born dead notes w h l =
    record {
      within = h;
      on = omega arith;
      fits = l;
      more_steps = omega arith;
      more_targets = omega arith;
      alike = (refl, refl);
      kept_targets = λ j q. refl;
      kept_reads = λ j q m. refl;
      kept_writes = λ j q m. refl;
      kept_places = λ j q. refl;
      kept_counts = λ j q. refl;
      carries = λ us fn a g. g;
    }

module _ (f found table : List ℕ) (own : Cursor) (born dead : List ℕ) (notes : Steps) (w : Walk) (born' dead' : List ℕ) (notes' : Steps) (r : Walk)
    (p : Walked f found table own born dead notes w born' dead' notes' r) where
  pub walked_on : (born'' dead'' : List ℕ) (notes'' : Steps) (r' : Walk) → Taken f found table own w.targets born' dead' notes' r born'' dead'' notes'' r'
      → Walked f found table own born dead notes w born'' dead'' notes'' r'
  walked_on born'' dead'' notes'' r' t =
      record {
        within = t.within;
        on = omega (arith, p.on, t.on);
        fits = t.fits;
        more_steps = omega (arith, p.more_steps, t.more_steps);
        more_targets = t.more_targets;
        alike = (t.alike.0 ∙ p.alike.0, t.alike.1 ∙ p.alike.1);
        kept_targets = λ j q. t.kept_targets j q ∙ p.kept_targets j q;
        kept_reads = λ j q m. t.kept_reads j (omega (arith, p.more_steps)) m ∙ p.kept_reads j q m;
        kept_writes = λ j q m. t.kept_writes j (omega (arith, p.more_steps)) m ∙ p.kept_writes j q m;
        kept_places = λ j q. t.kept_places j (omega (arith, p.more_steps)) ∙ p.kept_places j q;
        kept_counts = λ j q. t.kept_counts j (omega (arith, p.more_steps)) ∙ p.kept_counts j q;
        carries = λ us fn a g. t.carries us fn w.at w.steps a (p.carries us fn a g);
      }

-- The blocks -----------------------------------------------------------------------------------------------------------------------------------

module _ (f found table : List ℕ) (own : Cursor) (findings : Findings) (ids : List ℕ) (b : ℕ) (w : Walk)
    (within : Within w) (here : BlockHere f w.at) (few : b < 128) (lf : length f ≤ 16384)
    (lg : length findings.gens ≡ 1024) (lk : length findings.kills ≡ 1024) (lt : length findings.steps.targets ≡ 5462) (lp : length findings.steps.places ≡ 4097) (ls : length findings.starts ≡ 129) (l1 : length findings.firsts ≡ 129) (li : length ids ≡ 128) (t : Tallied findings.starts findings.firsts b w) where
  pub grown_on : (gens' kills' born dead : List ℕ) (notes' : Steps) (end : Walk) (next : Cursor) (v : ℕ)
      → Walked f found table own (replicate 8 0) (replicate 8 0) findings.steps (record { at = w.at + 3; k = w.k; steps = w.steps; targets = w.targets }) born dead notes' end
      → Outer f end.at → length born ≡ 8 → length dead ≡ 8 → gens' ≡ put findings.gens (b * width) (row born 0 width) → kills' ≡ put findings.kills (b * width) (row dead 0 width)
      → v ≡ u16_at f (w.at + 1) → Came f true end.at end.k next.at next.k → Stopped f true next.at
      → Grown f found table own findings ids b w (record { gens = gens'; kills = kills'; starts = set findings.starts (b + 1) end.targets; firsts = set findings.firsts (b + 1) end.steps; steps = notes' }) (set ids b v)
      (record { at = next.at; k = next.k; steps = end.steps; targets = end.targets })
  grown_on gens' kills' born dead notes' end next v p o lb ld eg ek ev came stop =
      record {
        within = (came.sound, omega (arith, p.within.1, came.on), omega (arith, p.within.2, came.on));
        on = omega (arith, p.on, came.on);
        fits = came.within p.fits;
        sized = (ap length eg ∙ length_put_row findings.gens born lg lb, ap length ek ∙ length_put_row findings.kills dead lk ld, simp length-set ls, simp length-set l1, p.alike.0 ∙ lt, p.alike.1 ∙ lp);
        tallied = tally next.at next.k;
        counted = λ us fn a g.
            let start : Walk = record { at = w.at + 3; k = w.k; steps = w.steps; targets = w.targets } in
            let i = in_start f us fn findings.steps start (block_stands f us fn own.at findings ids b w g here a.ready.accepted)
            (block_steps f us fn own.at findings ids b w g here a.full) in
            let done = in_done f us fn (w.at + 3) w.steps w.targets born dead notes' end (p.carries us fn a i) o in
            rw (eg, ek)
            (counted_on f us fn own.at findings ids b w g here born dead notes' end done t few lg lk lt (p.alike.0 ∙ lt) ls l1 li lb ld
            p.more_targets p.more_steps room p.kept_targets p.kept_reads p.kept_writes p.kept_places p.kept_counts v ev next.at next.k (came.stands us a.ready.accepted done.stands) came.sought stop);
      }
    where
      length_put_row : (l r : List ℕ) → length l ≡ 1024 → length r ≡ 8 → length (put l (b * width) (row r 0 width)) ≡ 1024
      length_put_row l r p q = length_put l (b * width) (row r 0 width) (omega (arith, ap length (row_whole r 8 (omega arith)))) ∙ p

      room : end.targets ≤ 5462
      room = omega (arith, p.within.2, p.fits)

      tally : (at k : ℕ) → Tallied (set findings.starts (b + 1) end.targets) (set findings.firsts (b + 1) end.steps) (b + 1) (record { at = at; k = k; steps = end.steps; targets = end.targets })
      tally at k = tallied_on findings.starts findings.firsts b w t few ls l1 end.targets end.steps p.more_targets p.more_steps at k
