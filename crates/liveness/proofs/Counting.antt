-- A function's blocks, gathered one after another. What is noted of a block stays while later ones are noted behind it, so at the end every block is
-- noted; its target ids are then places among the blocks' ids.
use mathlib.Core.Path.{◌≡◌, refl, sym, ap, ap₂, ◌∙◌}
use mathlib.Core.Logic.{◌⊎◌, inl, inr}
use mathlib.Core.Bool.{true}
use mathlib.Core.List.{List, [], ◌∷◌, map}
use Prim.Native.Nat.{ℕ, ◌+◌, ◌*◌, ◌-◌, ◌≤◌, ◌<◌}
use native.Mathlib.Numerals.{add-one}
use native.Mathlib.Omega.{arith}
use lib.ListN.{length, get_or, take, drop, set, length-take, length-drop, length-map}
use lib.Seq.{drop-cons, get_or-take, get_or-drop, get_or-set_same, get_or-set_other, ext_get_or, length-take-le}
use Rattle.rows.specs.Row.{row, put}
use Rattle.rows.proofs.Rows.{lt_or_ge, row_whole, row_put_same, row_put_other}
use Rattle.fields.specs.Edition.{one}
use Rattle.fields.specs.Record.{u16_at}
use Rattle.records.specs.Units.{number_in}
use Rattle.records.specs.Check.{units, check}
use Rattle.records.specs.Program.{Block, Rest, Function, program, block_of, put as put_rec}
use Rattle.units.specs.Rows.{unit_row}
use Rattle.units.specs.Along.{from, Stands}
use Rattle.passes.specs.Passes.{width, part, targets_of}
use Rattle.passes.proofs.Squash.{get_d_map}
use Rattle.liveness.specs.Flow.{Flow, last_targets, flow_of, flows, block_ids, no_flow}
use Rattle.liveness.specs.Settle.{flow_at}
use Rattle.liveness.specs.Survey.{read_first, written, block_at, Surveyed}
use Rattle.liveness.specs.Walks.{Kept, KeptRows, BlockHere, Stopped, Sought, BlockRead, BlockDone, Tallied, Counted}
use Rattle.liveness.specs.declared.survey.Steps.{Steps}
use Rattle.liveness.specs.declared.survey.Findings.{Findings}
use Rattle.liveness.specs.declared.survey.Walk.{Walk}
use Rattle.units.proofs.Standing.{stands_on}
use Rattle.liveness.proofs.Onward.{from_block}
use Rattle.liveness.proofs.Gathering.{begin_kept, rows_kept, target_id}

-- Entries that stay ----------------------------------------------------------------------------------------------------------------------------

part_length : (l : List ℕ) (a b : ℕ) → b ≤ length l → length (part l a b) ≡ b - a
unfolding part
part_length l a b h = simp (length-take, length-drop) (omega arith)

get_d_part : (l : List ℕ) (a b i : ℕ) → i < b - a → get_or (part l a b) i 0 ≡ get_or l (a + i) 0
unfolding part
get_d_part l a b i h = get_or-take (b - a) (drop a l) i 0 h ∙ get_or-drop a l i 0

part_kept : (l l' : List ℕ) (a b n : ℕ) → length l' ≡ length l → b ≤ n → b ≤ length l → Kept n l l' → part l' a b ≡ part l a b
part_kept l l' a b n e h k p =
    ext_get_or 0 (part l' a b) (part l a b) (part_length l' a b (omega arith) ∙ sym (part_length l a b k))
    (λ i g. let m : i < b - a = omega (arith, part_length l' a b (omega arith)) in get_d_part l' a b i m ∙ (p (a + i) (omega arith) ∙ sym (get_d_part l a b i m)))

-- numbers for entries
part_map : (g : ℕ → ℕ) (l l' : List ℕ) (a b n : ℕ) → length l' ≡ length l → b ≤ n → b ≤ length l → ((i : ℕ) → i < n → get_or l' i 0 ≡ g (get_or l i 0)) → part l' a b ≡ map g (part l a b)
part_map g l l' a b n e h k p =
    ext_get_or 0 (part l' a b) (map g (part l a b)) (part_length l' a b (omega arith) ∙ sym (length-map (part l a b) g ∙ part_length l a b k))
    (λ i q.
    let m : i < b - a = omega (arith, part_length l' a b (omega arith)) in
    get_d_part l' a b i m ∙ (p (a + i) (omega arith) ∙ (ap g (sym (get_d_part l a b i m)) ∙ sym (get_d_map g (part l a b) i 0 0 (omega (arith, part_length l a b k))))))

-- the marks before and behind one block more
module _ (starts firsts : List ℕ) (b : ℕ) (w : Walk) (t : Tallied starts firsts b w) (few : b < 128) (ls : length starts ≡ 129) (lf : length firsts ≡ 129) (more_targets more_steps : ℕ) where
  old_start : (j : ℕ) → j ≤ b → get_or (set starts (b + 1) more_targets) j 0 ≡ get_or starts j 0
  old_start j h = get_or-set_other starts (b + 1) j more_targets 0 (λ e. absurd (omega arith))

  old_first : (j : ℕ) → j ≤ b → get_or (set firsts (b + 1) more_steps) j 0 ≡ get_or firsts j 0
  old_first j h = get_or-set_other firsts (b + 1) j more_steps 0 (λ e. absurd (omega arith))

  new_start : get_or (set starts (b + 1) more_targets) (b + 1) 0 ≡ more_targets
  new_start = get_or-set_same starts (b + 1) more_targets 0 (omega arith)

  new_first : get_or (set firsts (b + 1) more_steps) (b + 1) 0 ≡ more_steps
  new_first = get_or-set_same firsts (b + 1) more_steps 0 (omega arith)

  pub tallied_on : w.targets ≤ more_targets → w.steps ≤ more_steps → (at k : ℕ)
      → Tallied (set starts (b + 1) more_targets) (set firsts (b + 1) more_steps) (b + 1) (record { at = at; k = k; steps = more_steps; targets = more_targets })
  tallied_on p q at k = record { start = new_start; first = new_first; starts_low = λ j h. low j h (lt_or_ge j (b + 1)); firsts_low = λ j h. high j h (lt_or_ge j (b + 1)) }
    where
      low : (j : ℕ) → j ≤ b + 1 → (j < b + 1) ⊎ (b + 1 ≤ j) → get_or (set starts (b + 1) more_targets) j 0 ≤ more_targets
      low j h (inl l) = omega (arith, old_start j (omega arith), t.starts_low j (omega arith))
      low j h (inr l) = let e : j ≡ b + 1 = omega arith in rw e (omega (arith, new_start))

      high : (j : ℕ) → j ≤ b + 1 → (j < b + 1) ⊎ (b + 1 ≤ j) → get_or (set firsts (b + 1) more_steps) j 0 ≤ more_steps
      high j h (inl l) = omega (arith, old_first j (omega arith), t.firsts_low j (omega arith))
      high j h (inr l) = let e : j ≡ b + 1 = omega arith in rw e (omega (arith, new_first))

-- One block more -------------------------------------------------------------------------------------------------------------------------------

module _ (f us : List ℕ) (fn : Function) (own : ℕ) (findings : Findings) (ids : List ℕ) (b : ℕ) (w : Walk)
    (g : Counted f us fn own findings ids b w) (here : BlockHere f w.at) where
  record Next : Type 0 where
    pub low : b < length fn.blocks
    pub is : block_at fn b ≡ block_of (u16_at (drop w.at f) 1) (from f (w.at + 3))
    pub rest : drop (b + 1) fn.blocks ≡ (from f (w.at + 3)).blocks

  next_block : Next
  unfolding put_rec
  next_block =
      let e : drop b fn.blocks ≡ block_of (u16_at (drop w.at f) 1) (from f (w.at + 3)) ∷ (from f (w.at + 3)).blocks =
      g.left ∙ ap (λ (r : Rest). r.blocks) (from_block f w.at here).1 in
      let l : b < length fn.blocks = omega (arith, ap length e, length-drop b fn.blocks) in
      let d = drop-cons fn.blocks b (record { id = 0; steps = [] }) l in
      record { low = l; is = cc; rest = rw add-one (cc) }

  -- the walk behind the block's own record
  pub block_stands : check one f ≡ units us → Stands f (w.at + 3) w.k
  block_stands ok = let k : w.k + 0 ≡ w.k = omega arith in rw k at (stands_on f us ok w.at w.k g.stands 3 _ (from_block f w.at here).0)

  pub block_steps : ((k : ℕ) → k < length fn.blocks → (block_at fn k).steps ≡ [] → ⊥) → (from f (w.at + 3)).steps ≡ [] → ⊥
  block_steps full e = let n = next_block in full b n.low (ap (λ (x : Block). x.steps) n.is ∙ e)

  module _ (born dead : List ℕ) (notes' : Steps) (end : Walk)
      (read : BlockRead f us fn (w.at + 3) w.steps w.targets born dead notes' end)
      (t : Tallied findings.starts findings.firsts b w) (few : b < 128)
      (lg : length findings.gens ≡ 1024) (lk : length findings.kills ≡ 1024) (lt : length findings.steps.targets ≡ 5462) (lt' : length notes'.targets ≡ 5462) (ls : length findings.starts ≡ 129) (lf : length findings.firsts ≡ 129) (li : length ids ≡ 128)
      (lb : length born ≡ 8) (ld : length dead ≡ 8) (more_targets : w.targets ≤ end.targets) (more_steps : w.steps ≤ end.steps) (room : end.targets ≤ 5462)
      (kt : Kept w.targets findings.steps.targets notes'.targets) (kr : KeptRows w.steps findings.steps.reads notes'.reads) (kw : KeptRows w.steps findings.steps.writes notes'.writes) (kp : Kept w.steps findings.steps.places notes'.places) (kc : Kept w.steps findings.steps.counts notes'.counts) where
    abbrev gens' : List ℕ
    gens' = put findings.gens (b * width) (row born 0 width)

    abbrev kills' : List ℕ
    kills' = put findings.kills (b * width) (row dead 0 width)

    abbrev starts' : List ℕ
    starts' = set findings.starts (b + 1) end.targets

    abbrev firsts' : List ℕ
    firsts' = set findings.firsts (b + 1) end.steps

    -- what is noted once the block is read
    abbrev findings' : Findings
    findings' = record { gens = gens'; kills = kills'; starts = starts'; firsts = firsts'; steps = notes' }

    fits : (l r : List ℕ) → length l ≡ 1024 → length r ≡ 8 → b * width + length (row r 0 width) ≤ length l
    fits l r p q = omega (arith, ap length (row_whole r 8 (omega arith)))

    other_row : (l r : List ℕ) → length l ≡ 1024 → length r ≡ 8 → (j : ℕ) → j < b → row (put l (b * width) (row r 0 width)) (j * width) width ≡ row l (j * width) width
    other_row l r p q j h =
        row_put_other l (b * width) (row r 0 width) (fits l r p q) (j * width) width
        (inr (omega arith))

    same_row_lem : (l r : List ℕ) → length l ≡ 1024 → length r ≡ 8 → row (put l (b * width) (row r 0 width)) (b * width) width ≡ r
    same_row_lem l r p q =
        let e : row r 0 width ≡ r = row_whole r 8 (omega arith) in
        let h : row (put l (b * width) (row r 0 width)) (b * width) (length (row r 0 width)) ≡ row r 0 width = row_put_same l (b * width) (row r 0 width) (fits l r p q) in
        let n : length (row r 0 width) ≡ width = ap length e ∙ q in
        (rw n at h) ∙ e

    module _ (v : ℕ) (id_is : v ≡ u16_at f (w.at + 1)) where
      abbrev ids' : List ℕ
      ids' = set ids b v

      old_done : (j : ℕ) → j < b → BlockDone f us fn findings' ids' j (block_at fn j)
      unfolding targets_of
      old_done j h =
          let d = g.done j h in
          let a = old_start findings.starts findings.firsts b w t few ls lf end.targets end.steps j (omega arith) in
          let c = old_start findings.starts findings.firsts b w t few ls lf end.targets end.steps (j + 1) (omega arith) in
          let p = old_first findings.starts findings.firsts b w t few ls lf end.targets end.steps j (omega arith) in
          let q = old_first findings.starts findings.firsts b w t few ls lf end.targets end.steps (j + 1) (omega arith) in
          let most = t.starts_low (j + 1) (omega arith) in
          let far = t.firsts_low (j + 1) (omega arith) in
          record {
            reading = other_row findings.gens born lg lb j h ∙ d.reading;
            writing = other_row findings.kills dead lk ld j h ∙ d.writing;
            going =
                ap₂ (λ (x y : ℕ). part notes'.targets x y) a c
                ∙ (part_kept findings.steps.targets notes'.targets (get_or findings.starts j 0) (get_or findings.starts (j + 1) 0) w.targets (lt' ∙ sym lt) most (omega arith) kt ∙ d.going);
            steps = rw p (begin_kept f findings.steps.places findings.steps.counts notes'.places notes'.counts (get_or findings.firsts j 0) w.steps (block_at fn j).steps (omega (arith, d.ends)) kp kc d.steps);
            rows = rw p (rows_kept f us fn findings.steps.reads findings.steps.writes notes'.reads notes'.writes (get_or findings.firsts j 0) w.steps (block_at fn j).steps (omega (arith, d.ends)) kr kw d.rows);
            ends = q ∙ (d.ends ∙ ap (λ (x : ℕ). x + length (block_at fn j).steps) (sym p));
            id = get_or-set_other ids b j v 0 (λ e. absurd (omega arith)) ∙ d.id;
          }

      new_done : BlockDone f us fn findings' ids' b (block_at fn b)
      unfolding targets_of
      new_done =
          let n = next_block in
          let a : get_or starts' b 0 ≡ w.targets = old_start findings.starts findings.firsts b w t few ls lf end.targets end.steps b (omega arith) ∙ t.start in
          let p : get_or firsts' b 0 ≡ w.steps = old_first findings.starts findings.firsts b w t few ls lf end.targets end.steps b (omega arith) ∙ t.first in
          rw n.is
          (record {
            reading = same_row_lem findings.gens born lg lb ∙ read.reading;
            writing = same_row_lem findings.kills dead lk ld ∙ read.writing;
            going = ap₂ (λ (x y : ℕ). part notes'.targets x y) a (new_start findings.starts findings.firsts b w t few ls lf end.targets end.steps) ∙ read.going;
            steps = rw p read.begun;
            rows = rw p read.rows;
            ends = new_first findings.starts findings.firsts b w t few ls lf end.targets end.steps ∙ (read.many ∙ ap (λ (x : ℕ). x + length (from f (w.at + 3)).steps) (sym p));
            id = get_or-set_same ids b v 0 (omega arith) ∙ (id_is ∙ target_id f w.at);
          })

      pub counted_on : (at k : ℕ) → Stands f at k → Sought f true end.at at → Stopped f true at
          → Counted f us fn own findings' ids' (b + 1) (record { at = at; k = k; steps = end.steps; targets = end.targets })
      unfolding put_rec
      counted_on at k st so sp =
          let n = next_block in
          record {
            few = omega (arith, n.low);
            left = n.rest ∙ sym (so.block refl ∙ read.blocks);
            stands = st;
            functions = so.function ∙ (read.functions ∙ (sym (ap (λ (r : Rest). r.functions) (from_block f w.at here).1) ∙ g.functions));
            stop = sp.block refl;
            done = λ j h. all j h (lt_or_ge j b);
          }
        where
          all : (j : ℕ) → j < b + 1 → (j < b) ⊎ (b ≤ j) → BlockDone f us fn findings' ids' j (block_at fn j)
          all j h (inl l) = old_done j l
          all j h (inr l) = let e : j ≡ b = omega arith in rw e new_done

-- At the start, and at the end -----------------------------------------------------------------------------------------------------------------

pub tallied_start : (starts firsts : List ℕ) (at k : ℕ) → get_or starts 0 0 ≡ 0 → get_or firsts 0 0 ≡ 0 → Tallied starts firsts 0 (record { at = at; k = k; steps = 0; targets = 0 })
tallied_start starts firsts at k p q =
    record {
      start = p;
      first = q;
      starts_low = λ j h. let e : j ≡ 0 = omega arith in rw e (omega arith);
      firsts_low = λ j h. let e : j ≡ 0 = omega arith in rw e (omega arith);
    }

pub counted_start : (f us : List ℕ) (fn : Function) (own : ℕ) (findings : Findings) (ids : List ℕ) (at k : ℕ) → fn.blocks ≡ (from f own).blocks
    → Stands f at k → Sought f true own at → Stopped f true at
    → Counted f us fn own findings ids 0 (record { at = at; k = k; steps = 0; targets = 0 })
counted_start f us fn own findings ids at k e st so sp =
    record {
      few = omega arith;
      left = e ∙ sym (so.block refl);
      stands = st;
      functions = so.function;
      stop = sp.block refl;
      done = λ j h. absurd (omega arith);
    }

pub flow_at_lem : (f : List ℕ) (fn : Function) (k : ℕ) → k < length fn.blocks → flow_at (flows one (program one f) fn) k ≡ flow_of one (program one f) fn (block_at fn k)
unfolding flows
flow_at_lem f fn k h = get_d_map (flow_of one (program one f) fn) fn.blocks k (record { id = 0; steps = [] }) no_flow h

drop_none : (l : List Block) (n : ℕ) → drop n l ≡ [] → n ≤ length l → n ≡ length l
drop_none l n e h = omega (arith, ap length e, length-drop n l)

module _ (f us : List ℕ) (fn : Function) (own : ℕ) (findings : Findings) (ids : List ℕ) (b : ℕ) (w : Walk)
    (g : Counted f us fn own findings ids b w) (most : length fn.blocks ≤ 128) (stop : (128 ≤ b) ⊎ (BlockHere f w.at → ⊥)) where
  pub all_blocks : b ≡ length fn.blocks
  all_blocks = go stop
    where
      go : (128 ≤ b) ⊎ (BlockHere f w.at → ⊥) → b ≡ length fn.blocks
      go (inl h) = omega (arith, g.few)
      go (inr h) = drop_none fn.blocks b (g.left ∙ g.stop h) g.few

  ids_are : length ids ≡ 128 → take b ids ≡ block_ids fn
  ids_are l =
      let e = all_blocks in
      let n : length (take b ids) ≡ b = length-take-le b ids (omega arith) in
      ext_get_or 0 (take b ids) (block_ids fn) (n ∙ (e ∙ sym (length-map fn.blocks (λ (x : Block). x.id))))
      (λ i h.
      let k : i < b = omega arith in
      get_or-take b ids i 0 k ∙ ((g.done i k).id ∙ sym (get_d_map (λ (x : Block). x.id) fn.blocks i (record { id = 0; steps = [] }) 0 (omega arith))))

  pub surveyed_all : (targets' : List ℕ) → Tallied findings.starts findings.firsts b w → w.targets ≤ 5462 → w.steps ≤ 4097 → length findings.gens ≡ 1024 → length findings.kills ≡ 1024
      → length findings.steps.targets ≡ 5462 → length targets' ≡ 5462 → length findings.starts ≡ 129 → length findings.steps.places ≡ 4097 → length ids ≡ 128
      → ((i : ℕ) → i < w.targets → get_or targets' i 0 ≡ number_in (get_or findings.steps.targets i 0) (take b ids))
      → Surveyed f us fn (record findings { steps = record findings.steps { targets = targets' } }) b
  unfolding targets_of flow_of
  surveyed_all targets' t mt ms lg lk lt lt' ls lp li numbered =
      record {
        given =
            record {
              few = omega (arith, all_blocks);
              gens_len = lg;
              kills_len = lk;
              starts_len = omega arith;
              within = λ k h. omega (arith, t.starts_low k h);
            };
        blocks = all_blocks;
        reading = λ k h. (g.done k h).reading ∙ ap (λ (x : Flow). unit_row one us (read_first x.uses)) (sym (flow k h));
        writing = λ k h. (g.done k h).writing ∙ ap (λ (x : Flow). unit_row one us (written x.uses)) (sym (flow k h));
        going = λ k h. goes k h ∙ ap (λ (x : Flow). x.targets) (sym (flow k h));
        steps = λ k h. (g.done k h).steps;
        rows = λ k h. (g.done k h).rows;
        ends = λ k h. (g.done k h).ends;
        many = λ k h. omega (arith, t.firsts_low k h);
      }
    where
      flow : (k : ℕ) → k < b → flow_at (flows one (program one f) fn) k ≡ flow_of one (program one f) fn (block_at fn k)
      flow k h = flow_at_lem f fn k (omega (arith, all_blocks))

      goes : (k : ℕ) → k < b → part targets' (get_or findings.starts k 0) (get_or findings.starts (k + 1) 0) ≡ map (λ x. number_in x (block_ids fn)) (last_targets [] (block_at fn k).steps)
      goes k h =
          let far = t.starts_low (k + 1) (omega arith) in
          part_map (λ x. number_in x (take b ids)) findings.steps.targets targets' (get_or findings.starts k 0) (get_or findings.starts (k + 1) 0) w.targets (lt' ∙ sym lt) far (omega arith) numbered
          ∙ ap₂ (λ (l : List ℕ) (ts : List ℕ). map (λ x. number_in x l) ts) (ids_are li) (g.done k h).going
