-- For code that holds units by number. What the passes do to a unit depends on that unit's reads and writes alone, and a number is read and written
-- where its word is, because no word has two numbers and no number two words; so counts and live sets are the same, by numbers and by words.
use mathlib.Core.Path.{◌≡◌, refl, sym, ap, ap₂, ◌∙◌, subst}
use mathlib.Core.Bool.{Bool, true, false, true≢false}
use mathlib.Core.List.Memᴰ
use mathlib.Core.List.{List, [], ◌∷◌, map, Memᴰ}
use Prim.Native.Nat.{ℕ, suc, ◌+◌, ◌≤◌, ◌<◌}
use native.Mathlib.Omega.{arith}
use native.Mathlib.Decide.{dec_lt}
use borrow.Author.Tests.{lt-ltb, le-ltb}
use lib.Dec.{T}
use lib.ListN.{length, get_or, length-map, get_or-map}
use Rattle.rows.proofs.Tests.{antisym, T_true, T_false}
use Rattle.fields.specs.Pick.{pick_yes, pick_no, has}
use Rattle.records.specs.Units.{number_in}
use Rattle.records.proofs.Range.{Distinct}
use Rattle.records.proofs.Numbers.{number_low, number_at, at_has}
use Rattle.records.proofs.Lists.{number_of_lem}
use Rattle.units.specs.Rows.{listed}
use Rattle.passes.specs.Live as L
use Rattle.passes.proofs.Laws.{live_in_iff, live_out_iff}
use Rattle.passes.proofs.Renumber as R
use Rattle.passes.proofs.Squash.{squash, squash_settled}
use Rattle.liveness.specs.Flow.{Use, Flow, no_flow}
use Rattle.liveness.specs.Settle.{step_view, view, views, flow_at, state_of, settled_by}
use Rattle.liveness.proofs.SetLaws.{mem_map, mem_at, has_mem, mem_has}
use Rattle.liveness.proofs.SettleLaws.{settled, Read, path_read, block_read}

-- The blocks with numbers for words: the number of a word is its place in the list of units.
abbrev pub number_use : List ℕ → Use → Use
number_use us s = record { step = s.step; reads = map (λ w. number_in w us) s.reads; writes = map (λ w. number_in w us) s.writes }

abbrev pub number_flow : List ℕ → Flow → Flow
number_flow us b = record { uses = map (number_use us) b.uses; targets = b.targets }

abbrev pub numbered : List ℕ → List Flow → List Flow
numbered us fs = map (number_flow us) fs

-- Every number of l is one of us; every unit of these blocks is.
abbrev pub Among : List ℕ → List ℕ → Type 0
Among l us = (w : ℕ) → has w l ≡ true → has w us ≡ true

pub record Listed (us : List ℕ) (s : Use) : Type 0 where
  pub reads : Among s.reads us
  pub writes : Among s.writes us

abbrev pub AllListed : List ℕ → List Flow → Type 0
AllListed us fs = (b : Flow) → Memᴰ b fs → (s : Use) → Memᴰ s b.uses → Listed us s

pub number_inj : (us : List ℕ) (a w : ℕ) → has a us ≡ true → has w us ≡ true → number_in a us ≡ number_in w us → a ≡ w
number_inj us a w p q e = sym (number_at a us p) ∙ (ap (λ n. get_or us n 0) e ∙ number_at w us q)

-- A word that is in no list.
total : List ℕ → ℕ
total [] = 0
total (n ∷ l) = n + total l

mem_total : {a : ℕ} {l : List ℕ} → Memᴰ a l → a ≤ total l
unfolding total
mem_total (Memᴰ.head {x = x} {xs = l} e) = omega arith
mem_total (Memᴰ.tail m) = omega (arith, mem_total m)

fresh : (l : List ℕ) → has (suc (total l)) l ≡ false
fresh l = T_false (has (suc (total l)) l) (λ h. absurd (omega (arith, mem_total (has_mem (suc (total l)) l h))))

module _ (us : List ℕ) where
  abbrev number : ℕ → ℕ
  number w = number_in w us

  -- A set by numbers has the number of a word where the set has the word,
  pub has_number : (l : List ℕ) → Among l us → (w : ℕ) → has w us ≡ true → has (number_in w us) (map (λ a. number_in a us) l) ≡ has w l
  has_number l all w q = antisym (has (number w) (map number l)) (has w l) to from
    where
      to : T (has (number w) (map number l)) → T (has w l)
      to h =
          let r = mem_map number l (has_mem (number w) (map number l) h) in
          mem_has w l (subst (λ x. Memᴰ x l) (number_inj us r.0 w (all r.0 (T_true (has r.0 l) (mem_has r.0 l r.1))) q (sym r.2)) r.1)

      from : T (has w l) → T (has (number w) (map number l))
      from h = mem_has (number w) (map number l) (Memᴰ.map number (has_mem w l h))

  -- a word that is not listed is in no such set, and neither is a number that is not below the number of units.
  pub has_unlisted : (l : List ℕ) → Among l us → (w : ℕ) → has w us ≡ false → has w l ≡ false
  has_unlisted l all w n = T_false (has w l) (λ h. absurd (true≢false (sym (all w (T_true (has w l) h)) ∙ n)))

  pub has_past : (l : List ℕ) → Among l us → (n : ℕ) → length us ≤ n → has n (map (λ a. number_in a us) l) ≡ false
  has_past l all n far =
      T_false (has n (map number l))
      (λ h.
      let r = mem_map number l (has_mem n (map number l) h) in
      absurd (omega (arith, number_low r.0 us (all r.0 (T_true (has r.0 l) (mem_has r.0 l r.1))), r.2)))

-- Two lists of blocks look alike to two units where each step reads the one where its twin reads the other, and writes alike.
only_alike : (g : Use → Use) (u v : ℕ) (fs : List Flow)
    → ((b : Flow) → Memᴰ b fs → (s : Use) → Memᴰ s b.uses → (has u (g s).reads ≡ has v s.reads) × (has u (g s).writes ≡ has v s.writes))
    → R.only u (views (map (λ (b : Flow). record { uses = map g b.uses; targets = b.targets }) fs)) ≡ R.only v (views fs)
only_alike g u v [] h = refl
only_alike g u v (b ∷ fs) h =
    ap₂ (λ (ss : List L.Step) (rest : List L.Block). record { steps = ss; targets = b.targets } ∷ rest) (steps_alike b.uses (h b (Memᴰ.head refl)))
    (only_alike g u v fs (λ x m. h x (Memᴰ.tail m)))
  where
    steps_alike : (ss : List Use) → ((s : Use) → Memᴰ s ss → (has u (g s).reads ≡ has v s.reads) × (has u (g s).writes ≡ has v s.writes))
        → map (R.only_step u) (map step_view (map g ss)) ≡ map (R.only_step v) (map step_view ss)
    steps_alike [] k = refl
    steps_alike (s ∷ ss) k =
        ap₂ (λ (x : L.Step) (rest : List L.Step). x ∷ rest)
        (λ i. record { reads = λ _. (k s (Memᴰ.head refl)).0 i; writes = λ _. (k s (Memᴰ.head refl)).1 i })
        (steps_alike ss (λ x m. k x (Memᴰ.tail m)))

module _ (us : List ℕ) (once : Distinct us) (fs : List Flow) (all : AllListed us fs) where
  -- A listed word, and its number.
  by_number : (w : ℕ) → has w us ≡ true → R.only (number_in w us) (views (numbered us fs)) ≡ R.only w (views fs)
  by_number w q =
      only_alike (number_use us) (number_in w us) w fs
      (λ b m s n. (has_number us s.reads (all b m s n).reads w q, has_number us s.writes (all b m s n).writes w q))

  -- A word that is not listed, and a number past the last.
  past : (w n : ℕ) → has w us ≡ false → length us ≤ n → R.only n (views (numbered us fs)) ≡ R.only w (views fs)
  past w n q far =
      only_alike (number_use us) n w fs
      (λ b m s k. (
        has_past us s.reads (all b m s k).reads n far ∙ sym (has_unlisted us s.reads (all b m s k).reads w q),
        has_past us s.writes (all b m s k).writes n far ∙ sym (has_unlisted us s.writes (all b m s k).writes w q),
      ))

  words_covered : R.Covers (views (numbered us fs)) (views fs)
  words_covered w = go (has w us) refl
    where
      go : (b : Bool) → has w us ≡ b → (n : ℕ) × (R.only n (views (numbered us fs)) ≡ R.only w (views fs))
      go true q = (number_in w us, by_number w q)
      go false q = (length us, past w (length us) q (omega arith))

  numbers_covered : R.Covers (views fs) (views (numbered us fs))
  numbers_covered n = go (dec_lt n (length us))
    where
      go : Dec (n < length us) → (w : ℕ) × (R.only w (views fs) ≡ R.only n (views (numbered us fs)))
      go (yes l) = (get_or us n 0, subst (λ k. R.only (get_or us n 0) (views fs) ≡ R.only k (views (numbered us fs))) (number_of_lem us n once l) (sym (by_number (get_or us n 0) (at_has us n l))))
      go (no l) = (suc (total us), sym (past (suc (total us)) n (fresh us) (omega arith)))

  -- THEOREM: the count of passes is the same, by numbers and by words,
  pub numbered_count : (count : ℕ) (s : L.State) → L.Settled (views (numbered us fs)) count s → count ≡ (settled_by fs).passes
  numbered_count count s r =
      R.same_count (views (numbered us fs)) (views fs) words_covered numbers_covered count (settled_by fs).passes s (state_of (settled_by fs).sets) r (settled fs)

  -- and the number of a unit is live where the unit is.
  pub numbered_live : (count : ℕ) (s : L.State) → L.Settled (views (numbered us fs)) count s → (w : ℕ) → has w us ≡ true → (k : ℕ)
      → (s.ins k (number_in w us) ≡ has w (get_or (settled_by fs).sets.ins k [])) × (s.outs k (number_in w us) ≡ has w (get_or (settled_by fs).sets.outs k []))
  numbered_live count s r w q k = (
    ap (λ (t : L.State). t.ins k (number_in w us)) r.state ∙ (both.0 ∙ sym (ap (λ (t : L.State). t.ins k w) mine)),
    ap (λ (t : L.State). t.outs k (number_in w us)) r.state ∙ (both.1 ∙ sym (ap (λ (t : L.State). t.outs k w) mine)),
  )
    where
      both : ((L.after (views (numbered us fs)) r.changed).ins k (number_in w us) ≡ (L.after (views fs) r.changed).ins k w)
          × ((L.after (views (numbered us fs)) r.changed).outs k (number_in w us) ≡ (L.after (views fs) r.changed).outs k w)
      both = R.alike (views (numbered us fs)) (views fs) (number_in w us) w (by_number w q) r.changed k

      mine : state_of (settled_by fs).sets ≡ L.after (views fs) r.changed
      mine = let x = settled fs in x.state ∙ ap (L.after (views fs)) (omega (arith, x.counts, r.counts, numbered_count count s r))

  -- No number past the last unit is live.
  unread : (n : ℕ) → length us ≤ n → Read (numbered us fs) n → ⊥
  unread n far (k, l, s, m, h) =
      let r = mem_map (number_use us) (flow_at fs k).uses (subst (λ (b : Flow). Memᴰ s b.uses) (get_or-map (number_flow us) fs k no_flow) m) in
      let low : k < length fs = omega (arith, length-map fs (number_flow us)) in
      subst T (has_past us r.0.reads (all (flow_at fs k) (mem_at fs k no_flow low) r.0 r.1).reads n far) (subst (λ (x : Use). T (has n x.reads)) r.2 h)

  pub numbered_past : (count : ℕ) (s : L.State) → L.Settled (views (numbered us fs)) count s → (n : ℕ) → length us ≤ n → (k : ℕ) → k < length fs
      → (s.ins k n ≡ false) × (s.outs k n ≡ false)
  numbered_past count s r n far k l = (
    T_false (s.ins k n) (λ h. unread n far (path_read (numbered us fs) n ((live_in_iff (views (numbered us fs)) count s r n k low).0 h) (block_read (numbered us fs) n k near))),
    T_false (s.outs k n) (λ h. unread n far (path_read (numbered us fs) n ((live_out_iff (views (numbered us fs)) count s r n k low).0 h) (λ x m. absurd (Memᴰ.not-nil m)))),
  )
    where
      near : k < length (numbered us fs)
      near = omega (arith, length-map fs (number_flow us))

      low : k < length (views (numbered us fs))
      low = omega (arith, length-map (numbered us fs) view, length-map fs (number_flow us))

  -- So number n is live exactly where it stands for a unit that is: the live sets as the rows list them.
  pub numbered_listed : (count : ℕ) (s : L.State) → L.Settled (views (numbered us fs)) count s → (k : ℕ) → k < length fs → (n : ℕ)
      → (s.ins k n ≡ listed us (get_or (settled_by fs).sets.ins k []) n) × (s.outs k n ≡ listed us (get_or (settled_by fs).sets.outs k []) n)
  numbered_listed count s r k low n = go (dec_lt n (length us))
    where
      go : Dec (n < length us) → (s.ins k n ≡ listed us (get_or (settled_by fs).sets.ins k []) n) × (s.outs k n ≡ listed us (get_or (settled_by fs).sets.outs k []) n)
      go (yes l) =
          let e = numbered_live count s r (get_or us n 0) (at_has us n l) k in
          let o : number_in (get_or us n 0) us ≡ n = number_of_lem us n once l in
          (ap (λ m. s.ins k m) (sym o) ∙ (e.0 ∙ sym (pick_yes _ _ _ (lt-ltb n (length us) l))), ap (λ m. s.outs k m) (sym o) ∙ (e.1 ∙ sym (pick_yes _ _ _ (lt-ltb n (length us) l))))
      go (no l) =
          let far : length us ≤ n = omega arith in
          let e = numbered_past count s r n far k low in
          (e.0 ∙ sym (pick_no _ _ _ (le-ltb n (length us) far)), e.1 ∙ sym (pick_no _ _ _ (le-ltb n (length us) far)))

  -- The code's blocks: one row read first and one row written for each block, by numbers.
  pub rows_count : (count : ℕ) (s : L.State) → L.Settled (squash (views (numbered us fs))) count s → count ≡ (settled_by fs).passes
  rows_count count s r = numbered_count count s (squash_settled (views (numbered us fs)) count s r)

  pub rows_listed : (count : ℕ) (s : L.State) → L.Settled (squash (views (numbered us fs))) count s → (k : ℕ) → k < length fs → (n : ℕ)
      → (s.ins k n ≡ listed us (get_or (settled_by fs).sets.ins k []) n) × (s.outs k n ≡ listed us (get_or (settled_by fs).sets.outs k []) n)
  rows_listed count s r = numbered_listed count s (squash_settled (views (numbered us fs)) count s r)
