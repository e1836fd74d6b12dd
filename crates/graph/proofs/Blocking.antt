-- Block after block: what a block notes comes after what was noted before, since the order of the steps does not matter to the buffers. So a function's
-- blocks leave its steps, each with what is live after it, and the survey says where the steps of each block begin.
use mathlib.Core.Path.{◌≡◌, sym, ap, ◌∙◌, subst}
use mathlib.Core.Logic.{◌⊎◌, inl, inr}
use mathlib.Core.List.Memᴰ
use mathlib.Core.List.{List, [], ◌∷◌, ◌++◌, map, append_assoc, append-nil, Memᴰ, map-append}
use Prim.Native.Nat.{ℕ, zero, suc, ◌+◌, ◌*◌, ◌≤◌, ◌<◌}
use native.Mathlib.Omega.{arith}
use lib.ListN.{length, get_or, take}
use lib.Seq.{take_all}
use Rattle.rows.specs.Row.{row, put}
use Rattle.rows.proofs.Rows.{lt_or_ge, length_row, put_whole}
use Rattle.fields.specs.Edition.{one}
use Rattle.records.specs.Program.{Step, Function, program}
use Rattle.units.specs.Along.{from, StandsAt, Sound, Ready}
use Rattle.units.specs.declared.cursor.Cursor.{Cursor}
use Rattle.units.proofs.Standing.{units_once_lem, units_most_lem}
use Rattle.passes.specs.Passes.{Given, Solved}
use Rattle.liveness.specs.Flow.{Use, Flow, no_flow, flow_of, flows}
use Rattle.liveness.specs.Settle.{flow_at, settled_by, liveness}
use Rattle.liveness.specs.Lives.{live_words}
use Rattle.liveness.specs.Walks.{FunctionHere}
use Rattle.liveness.specs.Survey.{block_at, BeginAt, Surveyed}
use Rattle.liveness.specs.declared.survey.Findings.{Findings}
use Rattle.graph.specs.declared.basis.Basis.{Basis}
use Rattle.graph.specs.declared.sketch.Sketch.{Sketch}
use Rattle.liveness.proofs.SetLaws.{mem_at}
use Rattle.liveness.proofs.SettleLaws.{flows_length, settled_outs}
use Rattle.liveness.proofs.UseLaws.{flow_at_lem, accepted_listed, outs_among}
use Rattle.graph.specs.Gathered.{Stop, stops_in, stops_from, stops_of, Paired, Addressed}
use Rattle.graph.specs.Walking.{uses_at, Noted, file, Told, use_at, Fits, BlockTaken, Safe, OneTaken, Ordered, Begun, stops_upto, BlocksTaken, Owner, Follows, FunctionTaken}
use Rattle.graph.proofs.Meeting.{gathered_swap, paired_swap, addressed_swap}
use Rattle.liveness.proofs.Solving.{out_rows, live_of_file}

pub noted_swap : (us : List ℕ) (sketch : Sketch) (ps qs : List Stop) → Noted us (ps ++ qs) sketch → Noted us (qs ++ ps) sketch
noted_swap us sketch ps qs n = record {
  gathered = gathered_swap ps qs n.gathered;
  paired = subst (λ (l : List Use). Paired l sketch.copies) (sym (map-append (λ (p : Stop). p.0) qs ps)) (paired_swap (uses_at ps) (uses_at qs) (subst (λ (l : List Use). Paired l sketch.copies) (map-append (λ (p : Stop). p.0) ps qs) n.paired));
  taken = subst (λ (l : List Use). Addressed l sketch.addressed) (sym (map-append (λ (p : Stop). p.0) qs ps)) (addressed_swap (uses_at ps) (uses_at qs) (subst (λ (l : List Use). Addressed l sketch.addressed) (map-append (λ (p : Stop). p.0) ps qs) n.taken));
}

-- ---- one block

pub one_taken : (basis : Basis) (own : Cursor) (findings : Findings) (b : ℕ) (rows x live live' : List ℕ) (sketch sketch' : Sketch)
    → b < 128 → length rows ≡ 2048 → length x ≡ 8 → live ≡ put x 0 (row rows (1024 + b * 8) 8)
    → BlockTaken basis own findings.steps (get_or findings.firsts (b + 1) 0) (get_or findings.firsts b 0) live sketch live' sketch'
    → OneTaken basis own findings b rows sketch sketch'
one_taken basis own findings b rows x live live' sketch sketch' low lr lx e h =
    let l : live ≡ row rows (1024 + b * 8) 8 = e ∙ put_whole x (row rows (1024 + b * 8) 8) (lx ∙ sym (length_row rows (1024 + b * 8) 8 (omega arith))) in
    record {
      noted = λ us fn ss out ps t begin kept ends fits wo er n.
          noted_swap us sketch' (stops_in (map (use_at (file basis) fn) ss) out) ps (h.noted us fn ss out ps t begin kept ends fits wo (l ∙ er) n).0;
    }

-- ---- all blocks

stops_more : (fs : List Flow) (os : List (List ℕ)) (b : ℕ) → b < length fs → b < length os
    → stops_from (take (suc b) fs) os ≡ stops_from (take b fs) os ++ stops_in (flow_at fs b).uses (get_or os b [])
unfolding stops_from
stops_more [] os b h l = absurd (omega arith)
stops_more (x ∷ fs) [] b h l = absurd (omega arith)
stops_more (x ∷ fs) (o ∷ os) zero h l = append-nil (stops_in x.uses o)
stops_more (x ∷ fs) (o ∷ os) (suc b) h l =
    ap (λ (r : List Stop). stops_in x.uses o ++ r) (stops_more fs os b (omega arith) (omega arith))
    ∙ sym (append_assoc (stops_in x.uses o) (stops_from (take b fs) os) (stops_in (flow_at fs b).uses (get_or os b [])))

module _ (basis : Basis) (own : Cursor) (findings : Findings) (count : ℕ) (rows : List ℕ) (sketch : Sketch) where
  pub blocks_none : BlocksTaken basis own findings count rows 0 sketch sketch
  unfolding stops_from
  blocks_none = record { noted = λ us fn ps t g n. subst (λ (l : List Stop). Noted us l sketch) (sym (append-nil ps)) n }

  module _ (b : ℕ) (sketch₁ sketch' : Sketch) (low : b < count) (h : BlocksTaken basis own findings count rows b sketch sketch₁) (o : OneTaken basis own findings b rows sketch₁ sketch') where
    uses_are : (us : List ℕ) (fn : Function) → Begun (file basis) us fn findings rows count → (flow_at (flows one (program one (file basis)) fn) b).uses ≡ map (use_at (file basis) fn) (block_at fn b).steps
    unfolding flow_of
    uses_are us fn g = ap (λ (x : Flow). x.uses) (flow_at_lem one (program one (file basis)) fn b (record { id = 0; steps = [] }) (omega (arith, g.blocks)))

    blocks_noted : (us : List ℕ) (fn : Function) (ps : List Stop) → Told basis us fn own → Begun (file basis) us fn findings rows count
        → Noted us ps sketch → Noted us (ps ++ stops_upto (file basis) fn (b + 1)) sketch'
    blocks_noted us fn ps t g n =
        let f = file basis in
        let fs = flows one (program one f) fn in
        let os = (settled_by fs).sets.outs in
        let ss = (block_at fn b).steps in
        let l : b < length fs = omega (arith, g.blocks, flows_length one (program one f) fn) in
        let lo : b < length os = omega (arith, l, settled_outs fs) in
        let all = accepted_listed one f us t.ready.accepted fn g.member in
        let fe = uses_are us fn g in
        let fits : (s : Step) → Memᴰ s ss → Fits us (use_at f fn s) =
        λ s m. let q = all (flow_at fs b) (mem_at fs b no_flow l) (use_at f fn s) (subst (λ (x : List Use). Memᴰ (use_at f fn s) x) (sym fe) (Memᴰ.map (use_at f fn) m)) in (q.reads, q.writes) in
        let now = o.noted us fn ss (get_or os b []) (ps ++ stops_upto f fn b) t (g.steps b low) (g.kept b low) (g.ends b low) fits (outs_among us fs all b) (g.outs b low) (h.noted us fn ps t g n) in
        let z : b + 1 ≡ suc b = omega arith in
        let e : stops_upto f fn (b + 1) ≡ stops_upto f fn b ++ stops_in (map (use_at f fn) ss) (get_or os b []) =
        ap (stops_upto f fn) z ∙ stops_more fs os b l lo ∙ ap (λ (x : List Use). stops_upto f fn b ++ stops_in x (get_or os b [])) fe in
        subst (λ (x : List Stop). Noted us x sketch')
        (append_assoc ps (stops_upto f fn b) (stops_in (map (use_at f fn) ss) (get_or os b [])) ∙ ap (λ (x : List Stop). ps ++ x) (sym e)) now

    pub blocks_more : BlocksTaken basis own findings count rows (b + 1) sketch sketch'
    blocks_more = record { noted = blocks_noted }

-- ---- where the steps begin, and what is live at the ends

begin_safe : (f places counts : List ℕ) (i : ℕ) (ss : List Step) → BeginAt f places counts i ss → Safe f places counts i (i + length ss)
begin_safe f places counts i [] b j l h = absurd (omega arith)
begin_safe f places counts i (s ∷ ss) b j l h = go (lt_or_ge i j) (begin_safe f places counts (i + 1) ss b.1 j)
  where
    go : (i < j) ⊎ (j ≤ i) → (i + 1 ≤ j → j < i + 1 + length ss → (7 * get_or counts j 0 ≤ get_or places j 0) × (get_or places j 0 + 4 ≤ length f)) → (7 * get_or counts j 0 ≤ get_or places j 0) × (get_or places j 0 + 4 ≤ length f)
    go (inl q) on = on (omega arith) (omega arith)
    go (inr q) on = let e : j ≡ i = omega arith in rw e (b.0.3, b.0.4)

module _ {f us : List ℕ} {fn : Function} {findings : Findings} {count : ℕ} (s : Surveyed f us fn findings count) where
  pub ordered : length findings.steps.places ≡ 4097 → (b : ℕ) → b < count → Ordered f findings b
  ordered l b h =
      let e = s.ends b h in (
        omega (arith, e),
        omega (arith, s.many (b + 1) (omega arith), l),
        subst (λ (x : ℕ). Safe f findings.steps.places findings.steps.counts (get_or findings.firsts b 0) x) (sym e)
            (begin_safe f findings.steps.places findings.steps.counts (get_or findings.firsts b 0) (block_at fn b).steps (s.steps b h)),
      )

  pub begun : {found table : List ℕ} (passes : ℕ) (live : List ℕ) → Ready f us found table → Memᴰ fn (program one f).functions
      → Solved findings.gens findings.kills findings.steps.targets findings.starts count passes live → Begun f us fn findings live count
  begun passes live r m v = record {
    member = m;
    blocks = s.blocks;
    steps = s.steps;
    kept = s.rows;
    ends = s.ends;
    outs = λ k h. out_rows f us fn findings count s (units_once_lem f us r.accepted) (units_most_lem f us r.accepted) (accepted_listed one f us r.accepted fn m) passes live v k (omega (arith, s.given.few));
  }

-- ---- a function

whole_stops : (f us : List ℕ) (fn : Function) (count : ℕ) → count ≡ length fn.blocks → stops_upto f fn count ≡ stops_of (flows one (program one f) fn)
unfolding stops_of
whole_stops f us fn count e =
    ap (λ (l : List Flow). stops_from l (settled_by (flows one (program one f) fn)).sets.outs) (take_all count (flows one (program one f) fn) (omega (arith, e, flows_length one (program one f) fn)))

module _ (basis : Basis) (own : Cursor) (findings : Findings) (count : ℕ) (after : Cursor) where
  -- what the survey says of a function of an accepted file
  abbrev Told' : Type 0
  Told' = (us : List ℕ) (fn : Function) → Ready (file basis) us basis.source.numbers.now basis.source.table.now → StandsAt (file basis) own → Memᴰ fn (program one (file basis)).functions
      → fn.abis ≡ (from (file basis) own.at).abis → fn.blocks ≡ (from (file basis) own.at).blocks
      → Surveyed (file basis) us fn findings count × StandsAt (file basis) after
      × ((from (file basis) after.at).functions ≡ (from (file basis) own.at).functions) × ((FunctionHere (file basis) after.at → ⊥) → (from (file basis) after.at).functions ≡ [])

  pub owner_ordered : Told' → Owner basis own → length findings.steps.places ≡ 4097 → (b : ℕ) → b < count → Ordered (file basis) findings b
  owner_ordered s o l = ordered (s o.us o.fn o.ready o.stands o.member o.abis o.blocks).0 l

  pub function_taken : (passes : ℕ) (rows : List ℕ) (sketch sketch' : Sketch) → Given findings.gens findings.kills findings.steps.targets findings.starts count → Sound after → Told'
      → Solved findings.gens findings.kills findings.steps.targets findings.starts count passes rows → BlocksTaken basis own findings count rows count sketch sketch'
      → FunctionTaken basis own sketch rows sketch' passes count after
  function_taken passes rows sketch sketch' given sound s v h = record { few = omega (arith, v.soon, given.few); fewer = given.few; held = v.held; sound = sound; noted = noted }
    where
      noted : (us : List ℕ) (fn : Function) (ps : List Stop) → Told basis us fn own → Memᴰ fn (program one (file basis)).functions
          → fn.blocks ≡ (from (file basis) own.at).blocks → Noted us ps sketch
          → Noted us (ps ++ stops_of (flows one (program one (file basis)) fn)) sketch' × (passes ≡ (liveness one (program one (file basis)) fn).passes)
          × (rows ≡ live_words one us (liveness one (program one (file basis)) fn).sets) × Follows (file basis) own.at after
      noted us fn ps t m eb n =
          let f = file basis in
          let q = s us fn t.ready t.stands m t.abis eb in
          let w = live_of_file f us basis.source.numbers.now basis.source.table.now fn findings count passes rows t.ready m q.0 v in (
            subst (λ (l : List Stop). Noted us (ps ++ l) sketch') (whole_stops f us fn count q.0.blocks) (h.noted us fn ps t (begun q.0 passes rows t.ready m v) n),
            w.0,
            w.1,
            (q.1, q.2, q.3),
          )
