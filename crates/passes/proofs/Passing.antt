-- The passes over rows of words are the passes of Live. A visit writes two rows, whose members are what Live's visit puts into its two sets and which
-- meet no other row, so a visit in words is a visit in sets; two rows hold the same words just where they are the same sets, so the flag tells the truth.
use mathlib.Core.Path.{◌≡◌, refl, sym, ap, ◌∙◌, subst, fun_ext}
use mathlib.Core.Bool.{Bool, true, false, not, ◌&&◌, ◌||◌, or-false, or_assoc, and-false, true≢false, false≢true}
use mathlib.Core.Logic.{◌⊎◌, inl, inr, ⊎_elim}
use mathlib.Core.List.{List, [], ◌∷◌}
use Prim.Native.Nat.{ℕ, zero, suc, ◌+◌, ◌-◌, ◌*◌, ◌/◌, ◌%◌, ◌≤◌, ◌<◌}
use native.Mathlib.Omega.{arith}
use native.Mathlib.Numerals.{add-one}
use native.Mathlib.Nat.{add-zero}
use native.Mathlib.Decide.{ℕ_discrete}
use lib.Dec.{ltb, lit<}
use lib.Bits.{bit_or}
use lib.ListN.{length, drop, get_or, replicate, length-replicate, drop_of_length-le}
use lib.Seq.{drop-cons}
use borrow.Author.Tests.{lt-ltb, le-ltb, ltb-true, ltb-false, not-true, not-false}
use Rattle.std.proofs.lemmas.Bool.{or_parts}
use Rattle.rows.specs.Row.{Apart, Words, bit, less, member, member_at, row, put, or_row, less_row, same_row}
use Rattle.rows.proofs.Tests.{either}
use Rattle.rows.proofs.Digit.{bit_zero}
use Rattle.rows.proofs.Rows.{length_row, length_row_le, row_whole, length_zip, length_put, get_or_put_out, row_put_same, row_put_other, put_whole, same_refl, same_true, strides_apart}
use Rattle.rows.proofs.Members.{member_row, member_past, member_or, member_less, member_none, get_or_none, words_row, rows_ext}
use Rattle.fields.specs.Pick.{pick}
use Rattle.passes.specs.Live.{Row, Block, State, no_block, block, empty, union, backwards, visit, sweep, pass, after, Settled}
use Rattle.passes.specs.Passes.{width, out_base, units_at, targets_of, block_of, listed, blocks_of, state_of, blank, Given, Held, Solved, Passed, joined, joined_all, out_row, in_row, visited, differs}
use Rattle.passes.proofs.Laws.{put_cases, put_other, state_ext, changes_early, visit_shows, visit_same}

-- ---- the live-in rows of the targets, one a turn

module _ (live : List ℕ) (count : ℕ) (len : length live ≡ 2048) (few : count ≤ 128) where
  target_len : (t : ℕ) → t < count → length (row live (t * width) width) ≡ width
  target_len t h = length_row live (t * width) width (omega arith)

  pub joined_len : (t : ℕ) (out : List ℕ) → length out ≡ width → length (joined live count t out) ≡ width
  unfolding joined pick
  joined_len t out lo = go (ltb t count) refl
    where
      go : (b : Bool) → ltb t count ≡ b → length (pick b (or_row out (row live (t * width) width)) out) ≡ width
      go true e = length_zip bit_or _ _ (lo ∙ sym (target_len t (ltb-true t count e))) ∙ lo
      go false e = lo

  all_len : (ts out : List ℕ) → length out ≡ width → length (joined_all live count ts out) ≡ width
  unfolding joined_all
  all_len [] out lo = lo
  all_len (t ∷ ts) out lo = all_len ts (joined live count t out) (joined_len t out lo)

  -- What a call of union_from leaves where there is such a block, and the row as it is where there is none.
  pub joined_there : (t : ℕ) (out : List ℕ) → length out ≡ width → t < count → (out' : List ℕ) → out' ≡ put out 0 (or_row (row out 0 width) (row live (t * width) width))
      → out' ≡ joined live count t out
  unfolding joined pick
  joined_there t out lo h out' e =
      e ∙ rw (lt-ltb t count h, row_whole out width (omega arith)) (put_whole out _ (sym (length_zip bit_or out _ (lo ∙ sym (target_len t h)))))

  pub joined_missing : (t : ℕ) (out : List ℕ) → count ≤ t → out ≡ joined live count t out
  unfolding joined pick
  joined_missing t out h = rw (le-ltb t count h)

-- The loop over the targets: one turn more, and the end.
module _ (live : List ℕ) (count : ℕ) (ts : List ℕ) (i : ℕ) (out : List ℕ) where
  pub gathering_step : i < length ts → joined_all live count (drop i ts) out ≡ joined_all live count (drop (i + 1) ts) (joined live count (get_or ts i 0) out)
  unfolding joined_all
  gathering_step h = rw (drop-cons ts i 0 h, add-one)

  pub gathering_end : length ts ≤ i → joined_all live count (drop i ts) out ≡ out
  unfolding joined_all
  gathering_end h = rw (drop_of_length-le ts h)

-- ---- two rows written into a buffer, the second below the first

module _ (live : List ℕ) (o i : ℕ) (out inn : List ℕ) (lo : length out ≡ width) (li : length inn ≡ width)
    (fo : o + width ≤ length live) (below : i + width ≤ o) where
  fit_o : o + length out ≤ length live
  fit_o = omega arith

  len_one : length (put live o out) ≡ length live
  len_one = length_put live o out fit_o

  fit_i : i + length inn ≤ length (put live o out)
  fit_i = omega (arith, len_one)

  both_len : length (put (put live o out) i inn) ≡ length live
  both_len = length_put (put live o out) i inn fit_i ∙ len_one

  both_low : row (put (put live o out) i inn) i width ≡ inn
  both_low = ap (λ (m : ℕ). row (put (put live o out) i inn) i m) (sym li) ∙ row_put_same (put live o out) i inn fit_i

  both_high : row (put (put live o out) i inn) o width ≡ out
  both_high =
      row_put_other (put live o out) i inn fit_i o width (inl (omega arith))
      ∙ ap (λ (m : ℕ). row (put live o out) o m) (sym lo) ∙ row_put_same live o out fit_o

  one_low : row (put live o out) i width ≡ row live i width
  one_low = row_put_other live o out fit_o i width (inr (omega arith))

  both_other : (b : ℕ) → Apart o width b width → Apart i width b width → row (put (put live o out) i inn) b width ≡ row live b width
  both_other b p q = row_put_other (put live o out) i inn fit_i b width (rw li q) ∙ row_put_other live o out fit_o b width (rw lo p)

  both_word : (j : ℕ) → (j < o) ⊎ (o + width ≤ j) → (j < i) ⊎ (i + width ≤ j) → get_or (put (put live o out) i inn) j 0 ≡ get_or live j 0
  both_word j p q = get_or_put_out (put live o out) i inn fit_i j (rw li q) ∙ get_or_put_out live o out fit_o j (rw lo p)

-- ---- a row as a set

units_row : (ws : List ℕ) (b u : ℕ) → units_at ws b u ≡ member (row ws b width) u
unfolding units_at
units_row ws b u = go (ltb u (64 * width)) refl
  where
    go : (t : Bool) → ltb u (64 * width) ≡ t → (t && member_at ws b u) ≡ member (row ws b width) u
    go true e = sym (member_row ws b width u (ltb-true u (64 * width) e))
    go false e = sym (member_past (row ws b width) u (omega (arith, length_row_le ws b width, ltb-false u (64 * width) e)))

-- Rows with the same words are the same set, and of 64-bit words the other way round too.
row_units : (x y : List ℕ) (a b : ℕ) → row x a width ≡ row y b width → (u : ℕ) → units_at x a u ≡ units_at y b u
row_units x y a b e u = units_row x a u ∙ ap (λ (r : List ℕ). member r u) e ∙ sym (units_row y b u)

units_same : (x y : List ℕ) (a b : ℕ) → a + width ≤ length x → b + width ≤ length y → Words x → Words y → ((u : ℕ) → units_at x a u ≡ units_at y b u) → row x a width ≡ row y b width
units_same x y a b fx fy wx wy h =
    rows_ext (row x a width) (row y b width) (length_row x a width fx ∙ sym (length_row y b width fy)) (words_row x a width wx) (words_row y b width wy)
    (λ u _. sym (units_row x a u) ∙ h u ∙ units_row y b u)

-- ---- the rows that a visit writes, as sets

module _ (live : List ℕ) (count : ℕ) (len : length live ≡ 2048) (few : count ≤ 128) (u : ℕ) where
  joined_member : (t : ℕ) (out : List ℕ) → length out ≡ width → member (joined live count t out) u ≡ (member out u || (ltb t count && (state_of live count).ins t u))
  unfolding joined state_of pick
  joined_member t out lo = go (ltb t count) refl
    where
      go : (b : Bool) → ltb t count ≡ b → member (pick b (or_row out (row live (t * width) width)) out) u ≡ (member out u || (b && (b && units_at live (t * width) u)))
      go true e =
          member_or out _ u (lo ∙ sym (target_len live count len few t (ltb-true t count e))) ∙ ap (λ (x : Bool). member out u || x) (sym (units_row live (t * width) u))
      go false e = sym (or-false (member out u))

  all_member : (ts out : List ℕ) → length out ≡ width → member (joined_all live count ts out) u ≡ (member out u || union count (state_of live count).ins ts u)
  unfolding joined_all union
  all_member [] out lo = sym (or-false (member out u))
  all_member (t ∷ ts) out lo =
      all_member ts (joined live count t out) (joined_len live count len few t out lo)
      ∙ ap (λ (x : Bool). x || union count (state_of live count).ins ts u) (joined_member t out lo)
      ∙ or_assoc (member out u) (ltb t count && (state_of live count).ins t u) (union count (state_of live count).ins ts u)

pub blank_len : (n : ℕ) → length (blank n) ≡ n
unfolding blank
blank_len n = length-replicate {A = ℕ} n 0

blank_member : (n u : ℕ) → member (blank n) u ≡ false
unfolding blank
blank_member n u = member_none n u

-- ---- the list of blocks

listed_len : (f : ℕ → Block) (k n : ℕ) → length (listed f k n) ≡ n
unfolding listed
listed_len f k zero = refl
listed_len f k (suc n) = ap suc (listed_len f (suc k) n)

listed_at : (f : ℕ → Block) (k n j : ℕ) → j < n → get_or (listed f k n) j no_block ≡ f (k + j)
unfolding listed
listed_at f k zero j h = absurd (omega arith)
listed_at f k (suc n) zero h = ap f (sym (add-zero k))
listed_at f k (suc n) (suc j) h = listed_at f (suc k) n j (omega arith) ∙ ap f (omega arith)

module _ (gens kills targets starts : List ℕ) (count : ℕ) where
  pub blocks_len : length (blocks_of gens kills targets starts count) ≡ count
  unfolding blocks_of
  blocks_len = listed_len (block_of gens kills targets starts) 0 count

  pub block_at_lem : (k : ℕ) → k < count → block (blocks_of gens kills targets starts count) k ≡ block_of gens kills targets starts k
  unfolding blocks_of
  block_at_lem k h = listed_at (block_of gens kills targets starts) 0 count k h ∙ ap (block_of gens kills targets starts) (omega arith)

-- ---- one visit

module _ (gens kills targets starts : List ℕ) (count : ℕ) (given : Given gens kills targets starts count)
    (live : List ℕ) (len : length live ≡ 2048) (k : ℕ) (hk : k < count) where
  few : count ≤ 128
  few = given.few

  out : List ℕ
  out = out_row targets starts count k live

  inn : List ℕ
  inn = in_row gens kills k out

  out_len : length out ≡ width
  unfolding out out_row
  out_len = all_len live count len few (targets_of targets starts k) (blank width) (blank_len width)

  gens_row : length (row gens (k * width) width) ≡ width
  gens_row = length_row gens (k * width) width (omega (arith, few, given.gens_len))

  kills_row : length (row kills (k * width) width) ≡ width
  kills_row = length_row kills (k * width) width (omega (arith, few, given.kills_len))

  less_len : length (less_row out (row kills (k * width) width)) ≡ width
  less_len = length_zip less _ _ (out_len ∙ sym kills_row) ∙ out_len

  in_len : length inn ≡ width
  unfolding inn in_row
  in_len = length_zip bit_or _ _ (less_len ∙ sym gens_row) ∙ less_len

  fit : out_base + k * width + width ≤ length live
  fit = omega (arith, few)

  under : k * width + width ≤ out_base + k * width
  under = omega (arith, few)

  -- as the code makes them
  module _ (set0 set1 set2 set3 live1 live2 : List ℕ) (a b : Bool)
      (e0 : set0 ≡ blank width)
      (e1 : set1 ≡ joined_all live count (targets_of targets starts k) set0)
      (ea : (a ≡ not (same_row (row live (out_base + k * width) width) (row set1 0 width))) × (live1 ≡ put live (out_base + k * width) (row set1 0 width)))
      (e2 : set2 ≡ put set1 0 (less_row (row set1 0 width) (row kills (k * width) width)))
      (e3 : set3 ≡ put set2 0 (or_row (row set2 0 width) (row gens (k * width) width)))
      (eb : (b ≡ not (same_row (row live1 (k * width) width) (row set3 0 width))) × (live2 ≡ put live1 (k * width) (row set3 0 width))) where
    is_out : set1 ≡ out
    unfolding out out_row
    is_out = e1 ∙ ap (joined_all live count (targets_of targets starts k)) e0

    row_out : row set1 0 width ≡ out
    row_out = ap (λ (l : List ℕ). row l 0 width) is_out ∙ row_whole out width (omega (arith, out_len))

    is_less : set2 ≡ less_row out (row kills (k * width) width)
    is_less = e2 ∙ rw (row_out, is_out) (put_whole out _ (out_len ∙ sym less_len))

    row_in : row set3 0 width ≡ inn
    unfolding inn in_row
    row_in =
        let l2 : length set2 ≡ width = ap length is_less ∙ less_len in
        let e : set3 ≡ inn = e3 ∙ rw (row_whole set2 width (omega arith)) (ap (λ (l : List ℕ). put set2 0 (or_row l (row gens (k * width) width))) is_less ∙ put_whole set2 _ (l2 ∙ sym in_len)) in
        ap (λ (l : List ℕ). row l 0 width) e ∙ row_whole inn width (omega (arith, in_len))

    pub visit_words : live2 ≡ visited gens kills targets starts count k live
    unfolding visited out inn
    visit_words = eb.1 ∙ rw (row_in, ea.1, row_out)

    pub visit_flag : (a || b) ≡ differs k live live2
    unfolding differs visited out inn
    visit_flag =
        let fa : a ≡ not (same_row (row live (out_base + k * width) width) out) = ea.0 ∙ rw row_out in
        let fb : b ≡ not (same_row (row live (k * width) width) inn) =
        eb.0 ∙ rw (row_in, ea.1, row_out, one_low live (out_base + k * width) (k * width) out inn out_len in_len fit under) in
        let ro : row live2 (out_base + k * width) width ≡ out = rw visit_words (both_high live (out_base + k * width) (k * width) out inn out_len in_len fit under) in
        let ri : row live2 (k * width) width ≡ inn = rw visit_words (both_low live (out_base + k * width) (k * width) out inn out_len in_len fit under) in
        rw (ro, ri, fa, fb)

  pub visited_len : length (visited gens kills targets starts count k live) ≡ 2048
  unfolding visited out inn
  visited_len = both_len live (out_base + k * width) (k * width) out inn out_len in_len fit under ∙ len

  -- The buffer stays one of live rows.
  module _ (held : Held live count) (words : Words (visited gens kills targets starts count k live)) where
    pub visit_held : Held (visited gens kills targets starts count k live) count
    unfolding visited out inn
    visit_held = record {
      len = visited_len;
      words = words;
      past_ins = λ i g h. both_word live (out_base + k * width) (k * width) out inn out_len in_len fit under i (inl (omega arith)) (inr (omega arith)) ∙ held.past_ins i g h;
      past_outs = λ i g. both_word live (out_base + k * width) (k * width) out inn out_len in_len fit under i (inr (omega arith)) (inr (omega arith)) ∙ held.past_outs i g;
    }

  -- In sets: what is written is what Live's visit puts.
  abbrev blocks : List Block
  blocks = blocks_of gens kills targets starts count

  abbrev joins : Row
  joins = union (length blocks) (state_of live count).ins (block blocks k).targets

  out_member : (u : ℕ) → member out u ≡ joins u
  unfolding out out_row block_of
  out_member u =
      rw (block_at_lem gens kills targets starts count k hk, blocks_len gens kills targets starts count)
      (all_member live count len few u (targets_of targets starts k) (blank width) (blank_len width)
      ∙ ap (λ (x : Bool). x || union count (state_of live count).ins (targets_of targets starts k) u) (blank_member width u))

  in_plain : (u : ℕ) → member inn u ≡ ((member out u && not (units_at kills (k * width) u)) || units_at gens (k * width) u)
  unfolding inn in_row
  in_plain u =
      member_or _ _ u (less_len ∙ sym gens_row)
      ∙ rw (units_row kills (k * width) u, units_row gens (k * width) u)
      (ap (λ (x : Bool). x || member (row gens (k * width) width) u) (member_less out _ u (out_len ∙ sym kills_row)))

  one_step_lem : (o : Row) (u : ℕ) → backwards (block blocks k).steps o u ≡ ((o u && not (units_at kills (k * width) u)) || units_at gens (k * width) u)
  unfolding backwards block_of
  one_step_lem o u = rw (block_at_lem gens kills targets starts count k hk)

  in_member : (u : ℕ) → member inn u ≡ backwards (block blocks k).steps joins u
  in_member u =
      in_plain u ∙ ap (λ (x : Bool). (x && not (units_at kills (k * width) u)) || units_at gens (k * width) u) (out_member u) ∙ sym (one_step_lem joins u)

  abbrev now : List ℕ
  now = visited gens kills targets starts count k live

  low : row now (k * width) width ≡ inn
  unfolding visited out inn
  low = both_low live (out_base + k * width) (k * width) out inn out_len in_len fit under

  high : row now (out_base + k * width) width ≡ out
  unfolding visited out inn
  high = both_high live (out_base + k * width) (k * width) out inn out_len in_len fit under

  -- The row of another block is as it was.
  pub visited_other : (j : ℕ) → ¬ (j ≡ k) → j < count → (row now (j * width) width ≡ row live (j * width) width)
      × (row now (out_base + j * width) width ≡ row live (out_base + j * width) width)
  unfolding visited out inn
  visited_other j ne h =
      let d : Apart (k * width) width (j * width) width = strides_apart width k j (λ e. ne (sym e)) in (
        both_other live (out_base + k * width) (k * width) out inn out_len in_len fit under (j * width) (inr (omega (arith, few))) d,
        both_other live (out_base + k * width) (k * width) out inn out_len in_len fit under (out_base + j * width)
            (⊎_elim (λ p. inl (omega arith)) (λ p. inr (omega arith)) d) (inl (omega (arith, few))),
      )

  -- The two rows of the block itself.
  pub visited_in : row (visited gens kills targets starts count k live) (k * width) width ≡ in_row gens kills k (out_row targets starts count k live)
  unfolding out inn
  visited_in = low

  pub visited_out : row (visited gens kills targets starts count k live) (out_base + k * width) width ≡ out_row targets starts count k live
  unfolding out
  visited_out = high

  kept : (j : ℕ) (x y : Row) (u : ℕ) → (j < count → x u ≡ y u) → (ltb j count && x u) ≡ (ltb j count && y u)
  kept j x y u h = go (ltb j count) refl
    where
      go : (t : Bool) → ltb j count ≡ t → (t && x u) ≡ (t && y u)
      go true e = h (ltb-true j count e)
      go false e = refl

  here : (x : Row) (u : ℕ) → (ltb k count && x u) ≡ x u
  here x u = rw (lt-ltb k count hk)

  pub lift_visit : state_of (visited gens kills targets starts count k live) count ≡ visit blocks k (state_of live count)
  unfolding state_of visit
  lift_visit =
      state_ext _ _
      (λ j u. put_cases (λ z. (ltb j count && units_at now (j * width) u) ≡ z u) k (backwards (block blocks k).steps joins) (state_of live count).ins j
      (λ e. rw e (here (units_at now (k * width)) u ∙ units_row now (k * width) u ∙ ap (λ (r : List ℕ). member r u) low ∙ in_member u))
      (λ ne. kept j (units_at now (j * width)) (units_at live (j * width)) u (λ h. row_units now live (j * width) (j * width) (visited_other j ne h).0 u)))
      (λ j u. put_cases (λ z. (ltb j count && units_at now (out_base + j * width) u) ≡ z u) k joins (state_of live count).outs j
      (λ e. rw e (here (units_at now (out_base + k * width)) u ∙ units_row now (out_base + k * width) u ∙ ap (λ (r : List ℕ). member r u) high ∙ out_member u))
      (λ ne. kept j (units_at now (out_base + j * width)) (units_at live (out_base + j * width)) u (λ h. row_units now live (out_base + j * width) (out_base + j * width) (visited_other j ne h).1 u)))

-- ---- one pass

pub rows_same : (a b : List ℕ) → not (same_row a b) ≡ false → a ≡ b
rows_same a b e = same_true a b (not-false (same_row a b) e)

rows_differ : (a b : List ℕ) → not (same_row a b) ≡ true → ¬ (a ≡ b)
rows_differ a b e p = true≢false (sym (same_refl a) ∙ ap (same_row a) p ∙ not-true (same_row a b) e)

-- A row in both buffers, as a set of the state.
module _ (count j b : ℕ) (h : j < count) (x y : List ℕ) where
  set_of_row : row x b width ≡ row y b width → ◌≡◌ {A = Row} (λ u. ltb j count && units_at x b u) (λ u. ltb j count && units_at y b u)
  set_of_row e = fun_ext (λ u. ap (λ (t : Bool). ltb j count && t) (row_units x y b b e u))

  row_of_set : b + width ≤ length x → b + width ≤ length y → Words x → Words y
      → ◌≡◌ {A = Row} (λ u. ltb j count && units_at x b u) (λ u. ltb j count && units_at y b u) → row x b width ≡ row y b width
  row_of_set fx fy wx wy e = units_same x y b b fx fy wx wy (λ u. rw (lt-ltb j count h) at (ap (λ (r : Row). r u) e))

-- The blocks from k on are visited, and those below are as they were.
pub record Passing (gens kills targets starts : List ℕ) (count : ℕ) (before live : List ℕ) (changed : Bool) (k : ℕ) : Type 0 where
  pub held : Held live count
  pub low : k ≤ count
  pub rest : sweep (blocks_of gens kills targets starts count) k (state_of live count) ≡ pass (blocks_of gens kills targets starts count) (state_of before count)
  pub old : (j : ℕ) → j < k → ((state_of live count).ins j ≡ (state_of before count).ins j) × ((state_of live count).outs j ≡ (state_of before count).outs j)
  pub same : changed ≡ false → state_of live count ≡ state_of before count
  pub moved : changed ≡ true → ¬ (pass (blocks_of gens kills targets starts count) (state_of before count) ≡ state_of before count)

module _ (gens kills targets starts : List ℕ) (count : ℕ) where
  abbrev the_blocks : List Block
  the_blocks = blocks_of gens kills targets starts count

  pub passing_start : (live : List ℕ) → Held live count → Passing gens kills targets starts count live live false count
  unfolding pass
  passing_start live h = record {
    held = h;
    low = omega arith;
    rest = ap (λ (n : ℕ). sweep the_blocks n (state_of live count)) (sym (blocks_len gens kills targets starts count));
    old = λ j l. (refl, refl);
    same = λ _. refl;
    moved = λ e. absurd (false≢true e);
  }

  pub passing_done : (before live : List ℕ) (changed : Bool) (k : ℕ) → k ≤ 0 → Passing gens kills targets starts count before live changed k → Passed gens kills targets starts count before live changed
  unfolding sweep
  passing_done before live changed zero z p = record { held = p.held; state = p.rest; same = p.same; moved = p.moved }
  passing_done before live changed (suc k) z p = absurd (omega arith)

  module _ (given : Given gens kills targets starts count) (before live : List ℕ) (c d : Bool) (k : ℕ)
      (p : Passing gens kills targets starts count before live c (suc k)) (live' : List ℕ) (words : Words live')
      (ew : live' ≡ visited gens kills targets starts count k live) (ed : d ≡ differs k live live') where
    hk : k < count
    hk = omega (arith, p.low)

    held' : Held live' count
    held' = rw ew (visit_held gens kills targets starts count given live p.held.len k hk p.held (rw ew at words))

    step_state : state_of live' count ≡ visit the_blocks k (state_of live count)
    step_state = rw ew (lift_visit gens kills targets starts count given live p.held.len k hk)

    ins_at : (visit the_blocks k (state_of live count)).ins k ≡ (state_of live' count).ins k
    ins_at = ap (λ (s : State). s.ins k) (sym step_state)

    outs_at : (visit the_blocks k (state_of live count)).outs k ≡ (state_of live' count).outs k
    outs_at = ap (λ (s : State). s.outs k) (sym step_state)

    step_same : d ≡ false → visit the_blocks k (state_of live count) ≡ state_of live count
    unfolding state_of differs
    step_same e =
        let t = or_parts _ _ (sym ed ∙ e) in
        visit_same the_blocks k (state_of live count)
        (ins_at ∙ set_of_row count k (k * width) hk live' live (sym (rows_same _ _ t.1)))
        (outs_at ∙ set_of_row count k (out_base + k * width) hk live' live (sym (rows_same _ _ t.0)))

    step_moved : d ≡ true → ¬ (pass the_blocks (state_of before count) ≡ state_of before count)
    unfolding state_of differs
    step_moved e =
        visit_shows the_blocks k (state_of live count) (state_of before count) p.rest (p.old k (omega arith)).0 (p.old k (omega arith)).1
        (which (either _ _ (sym ed ∙ e)))
      where
        fits : out_base + k * width + width ≤ 2048
        fits = omega (arith, given.few, hk)

        which : (not (same_row (row live (out_base + k * width) width) (row live' (out_base + k * width) width)) ≡ true)
            ⊎ (not (same_row (row live (k * width) width) (row live' (k * width) width)) ≡ true)
            → (¬ ((visit the_blocks k (state_of live count)).ins k ≡ (state_of live count).ins k)) ⊎ (¬ ((visit the_blocks k (state_of live count)).outs k ≡ (state_of live count).outs k))
        which (inl h) = inr (λ q. rows_differ _ _ h (sym (row_of_set count k (out_base + k * width) hk live' live
            (omega (arith, fits, held'.len)) (omega (arith, fits, p.held.len)) held'.words p.held.words (sym outs_at ∙ q))))
        which (inr h) = inl (λ q. rows_differ _ _ h (sym (row_of_set count k (k * width) hk live' live
            (omega (arith, fits, held'.len)) (omega (arith, fits, p.held.len)) held'.words p.held.words (sym ins_at ∙ q))))

    step_old : (j : ℕ) → j < k → ((state_of live' count).ins j ≡ (state_of before count).ins j) × ((state_of live' count).outs j ≡ (state_of before count).outs j)
    unfolding visit
    step_old j l = (
      ap (λ (s : State). s.ins j) step_state ∙ put_other k _ (state_of live count).ins j (omega arith) ∙ (p.old j (omega arith)).0,
      ap (λ (s : State). s.outs j) step_state ∙ put_other k _ (state_of live count).outs j (omega arith) ∙ (p.old j (omega arith)).1,
    )

    passing_step : Passing gens kills targets starts count before live' (c || d) k
    unfolding sweep
    passing_step = record {
      held = held';
      low = omega (arith, p.low);
      rest = ap (sweep the_blocks k) step_state ∙ p.rest;
      old = step_old;
      same = λ e. step_state ∙ step_same (or_parts c d e).1 ∙ p.same (or_parts c d e).0;
      moved = λ e. ⊎_elim (λ h. p.moved h) (λ h. step_moved h) (either c d e);
    }

  -- The same for the number that the code counts down.
  pub passing_again : Given gens kills targets starts count → (before live : List ℕ) (c d : Bool) (n : ℕ) → 0 < n
      → Passing gens kills targets starts count before live c n → (live' : List ℕ) → Words live' → live' ≡ visited gens kills targets starts count (n - 1) live → d ≡ differs (n - 1) live live'
      → Passing gens kills targets starts count before live' (c || d) (n - 1)
  passing_again given before live c d n l p =
      passing_step given before live c d (n - 1) (subst (Passing gens kills targets starts count before live c) (omega arith) p)

-- ---- the passes

-- `done` passes have run, and each changed something.
pub record Running (gens kills targets starts : List ℕ) (count : ℕ) (live : List ℕ) (done : ℕ) : Type 0 where
  pub held : Held live count
  pub state : state_of live count ≡ after (blocks_of gens kills targets starts count) done
  pub first : (n : ℕ) → n < done → ¬ (after (blocks_of gens kills targets starts count) (suc n) ≡ after (blocks_of gens kills targets starts count) n)
  pub soon : done ≤ count + 1

blank_word : (n i : ℕ) → get_or (blank n) i 0 ≡ 0
unfolding blank
blank_word n i = get_or_none n i

-- A cleared buffer holds no unit.
blank_units : (n b u : ℕ) → units_at (blank n) b u ≡ false
unfolding units_at member_at
blank_units n b u = rw (blank_word n (b + u / 64)) (go (ltb u (64 * width)))
  where
    go : (t : Bool) → (t && bit 0 (u % 64)) ≡ false
    go true = bit_zero (u % 64)
    go false = refl

pub blank_held : (count : ℕ) → Held (blank 2048) count
blank_held count = record {
  len = blank_len 2048;
  words = λ i. rw (blank_word 2048 i) (lit< tt);
  past_ins = λ i _ _. blank_word 2048 i;
  past_outs = λ i _. blank_word 2048 i;
}

pub blank_empty : (count : ℕ) → state_of (blank 2048) count ≡ empty
unfolding state_of
blank_empty count =
    state_ext _ _ (λ k u. rw (blank_units 2048 (k * width) u) (and-false (ltb k count))) (λ k u. rw (blank_units 2048 (out_base + k * width) u) (and-false (ltb k count)))

module _ (gens kills targets starts : List ℕ) (count : ℕ) where
  abbrev of : List Block
  of = blocks_of gens kills targets starts count

  pub running_start : (live : List ℕ) → live ≡ blank 2048 → Running gens kills targets starts count live 0
  unfolding after
  running_start live e = rw e (record { held = blank_held count; state = blank_empty count; first = λ n l. absurd (omega arith); soon = omega arith })

  module _ (before live : List ℕ) (done : ℕ) (r : Running gens kills targets starts count before done) where
    next : (c : Bool) → Passed gens kills targets starts count before live c → state_of live count ≡ after of (suc done)
    unfolding after
    next c p = p.state ∙ ap (pass of) r.state

    did_move : Passed gens kills targets starts count before live true → ¬ (after of (suc done) ≡ after of done)
    unfolding after
    did_move p e = p.moved refl (ap (pass of) r.state ∙ e ∙ sym r.state)

    pub running_step : (c : Bool) → c ≡ true → Passed gens kills targets starts count before live c → Running gens kills targets starts count live (done + 1)
    running_step true _ p = rw add-one (record {
      held = p.held;
      state = next true p;
      first = λ n l. at n (ℕ_discrete n done) l;
      soon = omega (arith, changes_early of done (did_move p), blocks_len gens kills targets starts count);
    })
      where
        at : (n : ℕ) → Dec (n ≡ done) → n < suc done → ¬ (after of (suc n) ≡ after of n)
        at n (yes e) l = subst (λ (i : ℕ). ¬ (after of (suc i) ≡ after of i)) (sym e) (did_move p)
        at n (no e) l = r.first n (omega arith)
    running_step false e p = absurd (false≢true e)

    pub running_done : (c : Bool) → c ≡ false → Passed gens kills targets starts count before live c → Solved gens kills targets starts count (done + 1) live
    running_done false _ p =
        let s : Settled of (done + 1) (state_of live count) =
        record { changed = done; counts = add-one done; state = p.same refl ∙ r.state; first = r.first; last = sym (next false p) ∙ p.same refl ∙ r.state } in
        record { held = p.held; settled = s; soon = omega (arith, r.soon) }
    running_done true e p = absurd (true≢false e)

-- ---- for callers

-- What rows::clear leaves of a buffer is what `settle` asks for.
pub cleared : (ws : List ℕ) → length ws ≡ 2048 → put ws 0 (replicate 2048 0) ≡ blank 2048
unfolding blank
cleared ws e = put_whole ws (blank 2048) (e ∙ sym (blank_len 2048))

-- The contract of `settle` decides both its answer and every word of the buffer.
module _ (count : ℕ) (few : count ≤ 128) (a b : List ℕ) (ha : Held a count) (hb : Held b count) (e : state_of a count ≡ state_of b count) where
  same_in : (j : ℕ) → j < count → row a (j * width) width ≡ row b (j * width) width
  unfolding state_of
  same_in j h =
      row_of_set count j (j * width) h a b (omega (arith, ha.len)) (omega (arith, hb.len)) ha.words hb.words (ap (λ (s : State). s.ins j) e)

  same_out : (j : ℕ) → j < count → row a (out_base + j * width) width ≡ row b (out_base + j * width) width
  unfolding state_of
  same_out j h =
      row_of_set count j (out_base + j * width) h a b (omega (arith, ha.len)) (omega (arith, hb.len)) ha.words hb.words (ap (λ (s : State). s.outs j) e)
