-- From the rows that the passes settle to the live sets. The survey's rows are the theory's two rows of each block, by unit numbers, so what is settled is
-- settled for the function's blocks; then each row of the buffer is the row of that block's set, and past the last block all rows are empty.
use mathlib.Core.Path.{◌≡◌, refl, sym, ap, ap₂, ◌∙◌, fun_ext}
use mathlib.Core.Bool.{Bool, true, false, not, ◌&&◌, ◌||◌, and-false, and-or_distrib_left}
use mathlib.Core.List.{List, [], ◌∷◌, ◌++◌, map, Memᴰ}
use Prim.Native.Nat.{ℕ, zero, suc, ◌+◌, ◌*◌, ◌≤◌, ◌<◌}
use native.Mathlib.Omega.{arith}
use native.Mathlib.Decide.{dec_lt}
use borrow.Author.Tests.{lt-ltb, le-ltb}
use lib.Dec.{ltb}
use lib.ListN.{length, get_or, take, drop, replicate, get_or-replicate, get_or-eq_default}
use lib.Seq.{take-add, drop-drop, take_all, ext_get_or}
use Rattle.rows.specs.Row.{member, member_at, row}
use Rattle.rows.proofs.Rows.{length_row, get_or_row}
use Rattle.rows.proofs.Members.{member_row, words_row}
use Rattle.rows.proofs.Pack.{member_pack}
use Rattle.fields.specs.Pick.{has}
use Rattle.fields.specs.Edition.{one}
use Rattle.records.specs.Units.{number_in}
use Rattle.records.specs.Program.{Function, program}
use Rattle.records.proofs.Range.{Distinct}
use Rattle.records.proofs.Numbers.{at_has}
use Rattle.records.proofs.Lists.{number_of_lem}
use Rattle.units.specs.Sets.{less}
use Rattle.units.specs.Rows.{listed, unit_row}
use Rattle.units.specs.Along.{Ready}
use Rattle.passes.specs.Live as L
use Rattle.passes.specs.Passes as P
use Rattle.passes.proofs.Transfer as M
use Rattle.passes.proofs.Squash.{one_step, squash}
use Rattle.liveness.specs.Flow.{Use, Flow, no_flow, flows}
use Rattle.liveness.specs.Settle.{Sets, step_view, view, views, flow_at, settled_by, liveness}
use Rattle.liveness.specs.declared.survey.Findings.{Findings}
use Rattle.liveness.specs.Survey.{read_first, written, Surveyed}
use Rattle.liveness.specs.Lives.{rows_from, live_words}
use Rattle.liveness.proofs.SetLaws.{has_nil, has_append, has_less, mem_at}
use Rattle.liveness.proofs.SettleLaws.{flows_length, settled_ins, settled_outs}
use Rattle.liveness.proofs.Numbered.{number_use, number_flow, numbered, Among, Listed, AllListed, has_number, has_past, rows_count, rows_listed}
use Rattle.liveness.proofs.UseLaws.{accepted_listed}
use Rattle.units.proofs.Standing.{units_once_lem, units_most_lem}
use Rattle.units.proofs.Using.{no_units}
use Rattle.liveness.proofs.Rows.{listed_is, row_unique}

-- Sets by numbers ------------------------------------------------------------------------------------------------------------------------------

gen_joins : (t r w x : Bool) → (((t && x) && not (t && w)) || (t && r)) ≡ (t && (r || (x && not w)))
gen_joins false r w x = refl
gen_joins true true true true = refl
gen_joins true true true false = refl
gen_joins true true false true = refl
gen_joins true true false false = refl
gen_joins true false true true = refl
gen_joins true false true false = refl
gen_joins true false false true = refl
gen_joins true false false false = refl

module _ (us : List ℕ) (once : Distinct us) where
  listed_numbers : (l : List ℕ) → Among l us → (n : ℕ) → has n (map (λ a. number_in a us) l) ≡ (ltb n (length us) && has (get_or us n 0) l)
  listed_numbers l all n = go (dec_lt n (length us))
    where
      go : Dec (n < length us) → has n (map (λ a. number_in a us) l) ≡ (ltb n (length us) && has (get_or us n 0) l)
      go (yes h) =
          ap (λ (m : ℕ). has m (map (λ a. number_in a us) l)) (sym (number_of_lem us n once h))
          ∙ (has_number us l all (get_or us n 0) (at_has us n h) ∙ ap (λ (t : Bool). t && has (get_or us n 0) l) (sym (lt-ltb n (length us) h)))
      go (no h) = let far : length us ≤ n = omega arith in has_past us l all n far ∙ ap (λ (t : Bool). t && has (get_or us n 0) l) (sym (le-ltb n (length us) far))

  gen_numbers : (ss : List Use) → ((s : Use) → Memᴰ s ss → Listed us s) → (n : ℕ) → M.gen (map step_view (map (number_use us) ss)) n ≡ (ltb n (length us) && has (get_or us n 0) (read_first ss))
  unfolding M.gen L.backwards read_first
  gen_numbers [] all n = sym (ap (λ (x : Bool). ltb n (length us) && x) (has_nil (get_or us n 0)) ∙ and-false (ltb n (length us)))
  gen_numbers (s ∷ ss) all n =
      let h = all s (Memᴰ.head refl) in
      let t = ltb n (length us) in
      let u = get_or us n 0 in
      let ih = gen_numbers ss (λ x m. all x (Memᴰ.tail m)) n in
      ap₂ (λ (x y : Bool). x || y) (ap₂ (λ (x y : Bool). x && not y) ih (listed_numbers s.writes h.writes n)) (listed_numbers s.reads h.reads n)
      ∙ (gen_joins t (has u s.reads) (has u s.writes) (has u (read_first ss))
      ∙ ap (λ (x : Bool). t && x) (sym (has_append u s.reads (less (read_first ss) s.writes) ∙ ap (λ (x : Bool). has u s.reads || x) (has_less u (read_first ss) s.writes))))

  kill_numbers : (ss : List Use) → ((s : Use) → Memᴰ s ss → Listed us s) → (n : ℕ) → M.kill (map step_view (map (number_use us) ss)) n ≡ (ltb n (length us) && has (get_or us n 0) (written ss))
  unfolding M.kill written
  kill_numbers [] all n = sym (ap (λ (x : Bool). ltb n (length us) && x) (has_nil (get_or us n 0)) ∙ and-false (ltb n (length us)))
  kill_numbers (s ∷ ss) all n =
      let h = all s (Memᴰ.head refl) in
      let t = ltb n (length us) in
      let u = get_or us n 0 in
      ap₂ (λ (x y : Bool). x || y) (listed_numbers s.writes h.writes n) (kill_numbers ss (λ x m. all x (Memᴰ.tail m)) n)
      ∙ (sym (and-or_distrib_left t (has u s.writes) (has u (written ss))) ∙ ap (λ (x : Bool). t && x) (sym (has_append u s.writes (written ss))))

  -- a row of the buffer that is a set's row, as a set of numbers
  units_at_lem : (fits : length us ≤ 512) (ws l : List ℕ) (base : ℕ) → row ws base 8 ≡ unit_row one us l → (n : ℕ) → P.units_at ws base n ≡ (ltb n (length us) && has (get_or us n 0) l)
  unfolding P.units_at unit_row
  units_at_lem fits ws l base e n = go (dec_lt n 512)
    where
      go : Dec (n < 512) → (ltb n 512 && member_at ws base n) ≡ (ltb n (length us) && has (get_or us n 0) l)
      go (yes h) =
          ap (λ (t : Bool). t && member_at ws base n) (lt-ltb n 512 h)
          ∙ (sym (member_row ws base 8 n h) ∙ (ap (λ (r : List ℕ). member r n) e ∙ (member_pack 8 (listed us l) n h ∙ listed_is us l n)))
      go (no h) =
          ap (λ (t : Bool). t && member_at ws base n) (le-ltb n 512 (omega arith)) ∙ ap (λ (t : Bool). t && has (get_or us n 0) l) (sym (le-ltb n (length us) (omega arith)))

-- rows one after another
rows_are : (us ws : List ℕ) (sets : List (List ℕ)) (base k n : ℕ) → ((j : ℕ) → j < n → row ws (base + (k + j) * 8) 8 ≡ unit_row one us (get_or sets (k + j) [])) → row ws (base + k * 8) (n * 8) ≡ rows_from one us sets k n
unfolding rows_from row
rows_are us ws sets base k zero e = refl
rows_are us ws sets base k (suc n) e =
    let z : k + 0 ≡ k = omega arith in
    let m : suc n * 8 ≡ 8 + n * 8 = omega arith in
    let far : base + k * 8 + 8 ≡ base + suc k * 8 = omega arith in
    let here : take 8 (drop (base + k * 8) ws) ≡ unit_row one us (get_or sets k []) = rw z at (e 0 (omega arith)) in
    rw m
    (take-add 8 (n * 8) (drop (base + k * 8) ws)
    ∙ ap₂ (λ (x y : List ℕ). x ++ y) here
    (ap (take (n * 8)) (drop-drop 8 (base + k * 8) ws ∙ ap (λ (i : ℕ). drop i ws) far) ∙ rows_are us ws sets base (suc k) n (λ j l. let q : suc k + j ≡ k + suc j = omega arith in rw q (e (suc j) (omega arith)))))

-- Blocks ---------------------------------------------------------------------------------------------------------------------------------------

listed_map : (g : ℕ → L.Block) (h : Flow → L.Block) (fs : List Flow) (k : ℕ) → ((j : ℕ) → j < length fs → g (k + j) ≡ h (get_or fs j no_flow)) → P.listed g k (length fs) ≡ map h fs
unfolding P.listed
listed_map g h [] k e = refl
listed_map g h (x ∷ fs) k e =
    let z : k + 0 ≡ k = omega arith in
    ap₂ (λ (a : L.Block) (b : List L.Block). a ∷ b) (ap g (sym z) ∙ e 0 (omega arith))
    (listed_map g h fs (suc k) (λ j l. let q : suc k + j ≡ k + suc j = omega arith in ap g q ∙ e (suc j) (omega arith)))

map_twice : (fs : List Flow) (us : List ℕ) → squash (views (numbered us fs)) ≡ map (λ (x : Flow). one_step (view (number_flow us x))) fs
map_twice [] us = refl
map_twice (x ∷ fs) us = ap (λ (l : List L.Block). one_step (view (number_flow us x)) ∷ l) (map_twice fs us)

module _ (f us : List ℕ) (fn : Function) (findings : Findings) (b : ℕ) (s : Surveyed f us fn findings b)
    (once : Distinct us) (fits : length us ≤ 512) (all : AllListed us (flows one (program one f) fn)) where
  abbrev fs : List Flow
  fs = flows one (program one f) fn

  many : length fs ≡ b
  many = flows_length one (program one f) fn ∙ sym s.blocks

  block_is : (k : ℕ) → k < length fs → P.block_of findings.gens findings.kills findings.steps.targets findings.starts k ≡ one_step (view (number_flow us (flow_at fs k)))
  unfolding P.block_of
  block_is k l =
      let h : k < b = omega (arith, many) in
      let uses = (flow_at fs k).uses in
      let each : (x : Use) → Memᴰ x uses → Listed us x = all (flow_at fs k) (mem_at fs k no_flow l) in
      let r : P.units_at findings.gens (k * 8) ≡ M.gen (map step_view (map (number_use us) uses)) = fun_ext (λ n. units_at_lem us once fits findings.gens (read_first uses) (k * 8) (s.reading k h) n ∙ sym (gen_numbers us once uses each n)) in
      let w : P.units_at findings.kills (k * 8) ≡ M.kill (map step_view (map (number_use us) uses)) = fun_ext (λ n. units_at_lem us once fits findings.kills (written uses) (k * 8) (s.writing k h) n ∙ sym (kill_numbers us once uses each n)) in
      rw (r, w, s.going k h)

  blocks_are : P.blocks_of findings.gens findings.kills findings.steps.targets findings.starts b ≡ squash (views (numbered us fs))
  unfolding P.blocks_of
  blocks_are =
      ap (P.listed (P.block_of findings.gens findings.kills findings.steps.targets findings.starts) 0) (sym many)
      ∙ (listed_map (P.block_of findings.gens findings.kills findings.steps.targets findings.starts) (λ (x : Flow). one_step (view (number_flow us x))) fs 0 (λ j l. let z : 0 + j ≡ j = omega arith in ap (P.block_of findings.gens findings.kills findings.steps.targets findings.starts) z ∙ block_is j l)
      ∙ sym (map_twice fs us))

  module _ (passes : ℕ) (live : List ℕ) (v : P.Solved findings.gens findings.kills findings.steps.targets findings.starts b passes live) where
    settled_rows : L.Settled (squash (views (numbered us fs))) passes (P.state_of live b)
    settled_rows = rw blocks_are at v.settled

    pub passes_are_those : passes ≡ (liveness one (program one f) fn).passes
    unfolding liveness
    passes_are_those = rows_count us once fs all passes (P.state_of live b) settled_rows

    abbrev sets : Sets
    sets = (settled_by fs).sets

    -- a row of the buffer, by what it holds
    live_row : (base : ℕ) (l : List ℕ) → base + 8 ≤ 2048 → ((n : ℕ) → P.units_at live base n ≡ listed us l n) → row live base 8 ≡ unit_row one us l
    unfolding P.units_at
    live_row base l h e =
        row_unique one us (row live base 8) l (length_row live base 8 (omega (arith, v.held.len))) (words_row live base 8 v.held.words)
        (λ n k. member_row live base 8 n k ∙ (sym (ap (λ (t : Bool). t && member_at live base n) (lt-ltb n 512 k)) ∙ e n))

    -- an empty row
    blank_row : (base : ℕ) (l : List ℕ) → base + 8 ≤ 2048 → l ≡ [] → ((i : ℕ) → i < 8 → get_or live (base + i) 0 ≡ 0) → row live base 8 ≡ unit_row one us l
    blank_row base l h e z =
        let n : length (row live base 8) ≡ 8 = length_row live base 8 (omega (arith, v.held.len)) in
        ext_get_or 0 (row live base 8) (replicate 8 0) n (λ i q. let k : i < 8 = omega arith in get_or_row live base 8 i k ∙ (z i k ∙ sym (get_or-replicate 8 i 0 0 k)))
        ∙ (no_units us ∙ ap (unit_row one us) (sym e))

    in_rows : (k : ℕ) → k < 128 → row live (k * 8) 8 ≡ unit_row one us (get_or sets.ins k [])
    unfolding P.state_of
    in_rows k l = go (dec_lt k b)
      where
        go : Dec (k < b) → row live (k * 8) 8 ≡ unit_row one us (get_or sets.ins k [])
        go (yes h) =
            live_row (k * 8) (get_or sets.ins k []) (omega arith)
            (λ n. sym (ap (λ (t : Bool). t && P.units_at live (k * 8) n) (lt-ltb k b h)) ∙ (rows_listed us once fs all passes (P.state_of live b) settled_rows k (omega (arith, many)) n).0)
        go (no h) =
            blank_row (k * 8) (get_or sets.ins k []) (omega arith) (get_or-eq_default sets.ins [] (omega (arith, settled_ins fs, many)))
            (λ i q. v.held.past_ins (k * 8 + i) (omega arith) (omega arith))

    pub out_rows : (k : ℕ) → k < 128 → row live (1024 + k * 8) 8 ≡ unit_row one us (get_or sets.outs k [])
    unfolding P.state_of
    out_rows k l = go (dec_lt k b)
      where
        go : Dec (k < b) → row live (1024 + k * 8) 8 ≡ unit_row one us (get_or sets.outs k [])
        go (yes h) =
            live_row (1024 + k * 8) (get_or sets.outs k []) (omega arith)
            (λ n. sym (ap (λ (t : Bool). t && P.units_at live (1024 + k * 8) n) (lt-ltb k b h)) ∙ (rows_listed us once fs all passes (P.state_of live b) settled_rows k (omega (arith, many)) n).1)
        go (no h) =
            blank_row (1024 + k * 8) (get_or sets.outs k []) (omega arith) (get_or-eq_default sets.outs [] (omega (arith, settled_outs fs, many)))
            (λ i q. v.held.past_outs (1024 + k * 8 + i) (omega arith))

    pub words_are : live ≡ live_words one us (liveness one (program one f) fn).sets
    unfolding live_words liveness row
    words_are =
        sym (take_all 2048 live (omega (arith, v.held.len)))
        ∙ (take-add 1024 1024 live
        ∙ ap₂ (λ (x y : List ℕ). x ++ y) (rows_are us live sets.ins 0 0 128 (λ j l. let z : 0 + j ≡ j = omega arith in let q : 0 + (0 + j) * 8 ≡ j * 8 = omega arith in rw (q, z) (in_rows j l))) (rows_are us live sets.outs 1024 0 128 (λ j l. let z : 0 + j ≡ j = omega arith in rw z (out_rows j l))))

-- The whole, for a function of an accepted file.
pub live_of_file : (f us found table : List ℕ) (fn : Function) (findings : Findings) (b passes : ℕ) (live : List ℕ) → Ready f us found table
    → Memᴰ fn (program one f).functions → Surveyed f us fn findings b → P.Solved findings.gens findings.kills findings.steps.targets findings.starts b passes live
    → (passes ≡ (liveness one (program one f) fn).passes) × (live ≡ live_words one us (liveness one (program one f) fn).sets)
live_of_file f us found table fn findings b passes live ready m s v =
    let ok = ready.accepted in
    let once = units_once_lem f us ok in
    let all = accepted_listed one f us ok fn m in (
      passes_are_those f us fn findings b s once (units_most_lem f us ok) all passes live v,
      words_are f us fn findings b s once (units_most_lem f us ok) all passes live v,
    )
