-- The graph in its buffer is the graph. Its bits are the linked pairs, both ways; the pairs of the meetings are the clashes of two storages, the pairs of the
-- addressed are those of one owner; and a buffer with the bits of a relation is the rows of that relation. So too the pairs of the copies.
use mathlib.Core.Path.{◌≡◌, refl, sym, ap, ap₂, ◌∙◌}
use mathlib.Core.Logic.{◌⊎◌, inl, inr}
use mathlib.Core.Bool.{Bool, true, false, not, ◌&&◌, ◌||◌, or_comm, or-false, true≢false, and-eq-true_iff}
use mathlib.Core.List.{List, [], ◌∷◌, ◌++◌}
use Prim.Native.Nat.{ℕ, zero, suc, ◌+◌, ◌*◌, ◌≤◌, ◌<◌}
use native.Mathlib.Omega.{arith}
use lib.Dec.{eqb, ltb}
use lib.ListN.{length, drop, replicate, length-replicate, take-append-drop, drop_of_length-le}
use lib.Seq.{drop-drop}
use borrow.Author.Tests.{eqb-true, eqb-false, eq-eqb, lt-ltb, ltb-true}
use Rattle.rows.specs.Row.{Words, member_at, row, pack}
use Rattle.rows.proofs.Tests.{either, same_test}
use Rattle.rows.proofs.Rows.{lt_or_ge, length_row}
use Rattle.rows.proofs.Members.{member_row, words_row, words_none}
use Rattle.rows.proofs.Pack.{pack_unique}
use Rattle.fields.specs.Pick.{pick, ◌and◌, has}
use Rattle.fields.specs.Edition.{one}
use Rattle.fields.specs.Record.{Storage}
use Rattle.records.specs.Program.{Program}
use Rattle.fields.proofs.Front.{and_is}
use Rattle.units.specs.Sets.{any, each}
use Rattle.liveness.proofs.SetLaws.{eqb_sym}
use Rattle.graph.specs.Graph.{has_pair, clashes, all_uses, addressed, same_owner, held, interferes, copies_at, copies, copied}
use Rattle.graph.specs.Graphs.{relation_rows}
use Rattle.meetings.specs.Members.{members}
use Rattle.meetings.specs.Meeting.{storages_at}
use Rattle.storages.specs.File.{declared}
use Rattle.meetings.specs.Closing.{linked, apart, apart_all, meet_pairs, closed, Above, own_pair, own_pairs, hold_pairs, held_by}
use Rattle.graph.specs.Gathered.{stops, Numbered, Gathered, Paired, Addressed}
use Rattle.graph.proofs.PairLaws.{pair_each, pair_append}
use Rattle.graph.proofs.Anys.{or_left, or_right, and_in, not_eqb, not_eqb_out, any_out, any_in_lem, has_mem, mem_has, pair_nil, pair_cons, pair_pick}
use Rattle.graph.proofs.Buffers.{Low, Fit, fit_append, fit_each, storages_low, length_linked, words_linked, member_linked}
use Rattle.graph.proofs.Meeting.{at_none, none_above, gathered_clashes, stops_clashes}

-- ---- a buffer with the bits of a relation is its rows

module _ (r : ℕ → ℕ → Bool) (g : List ℕ) (l : length g ≡ 1024) (ws : Words g) (h : (i j : ℕ) → i < 256 → j < 256 → member_at g (i * 4) j ≡ r i j) where
  row_is : (k : ℕ) → k < 256 → row g (k * 4) 4 ≡ pack 4 (r k)
  row_is k q =
      pack_unique (row g (k * 4) 4) 4 (r k) (length_row g (k * 4) 4 (omega arith)) (words_row g (k * 4) 4 ws)
      (λ n m. member_row g (k * 4) 4 n m ∙ h k n q m)

  rows_from_lem : (n k : ℕ) → k + n ≡ 256 → drop (k * 4) g ≡ relation_rows one r k n
  unfolding relation_rows row
  rows_from_lem zero k e = let z : length g ≤ k * 4 = omega arith in drop_of_length-le g z
  rows_from_lem (suc n) k e =
      let z : k * 4 + 4 ≡ suc k * 4 = omega arith in
      sym (take-append-drop 4 (drop (k * 4) g))
      ∙ ap₂ (λ (a b : List ℕ). a ++ b) (row_is k (omega arith)) (drop-drop 4 (k * 4) g ∙ ap (λ (m : ℕ). drop m g) z ∙ rows_from_lem n (suc k) (omega arith))

  pub relation_is : g ≡ relation_rows one r 0 256
  relation_is = rows_from_lem 256 0 refl

-- ---- pairs of two storages

pair_apart : (a b i j : ℕ) → has_pair (apart a b) i j ≡ (not (eqb a b) && (eqb a i && eqb b j))
unfolding apart pick
pair_apart a b i j = go (eqb a b)
  where
    go : (t : Bool) → has_pair (pick t [] ((a, b) ∷ [])) i j ≡ (not t && (eqb a i && eqb b j))
    go true = pair_nil i j
    go false = pair_cons (a, b) [] i j ∙ ap (λ (x : Bool). (eqb a i && eqb b j) || x) (pair_nil i j) ∙ or-false (eqb a i && eqb b j)

fit_apart : (a b : ℕ) → a < 256 → b < 256 → Fit 256 256 (apart a b)
unfolding apart pick
fit_apart a b ha hb = go (eqb a b)
  where
    go : (t : Bool) → Fit 256 256 (pick t [] ((a, b) ∷ []))
    go true = tt
    go false = (ha, hb, tt)

fit_all : (a : ℕ) (is : List ℕ) → a < 256 → Low 256 is → Fit 256 256 (apart_all a is)
unfolding apart_all each
fit_all a [] h f = tt
fit_all a (b ∷ is) h f = fit_append 256 256 (apart a b) (apart_all a is) (fit_apart a b h f.0) (fit_all a is h f.1)

module _ (a i j : ℕ) (is : List ℕ) where
  all_out : has_pair (apart_all a is) i j ≡ true → (a ≡ i) × ((not (eqb i j) && has j is) ≡ true)
  unfolding apart_all
  all_out h =
      let b = any_out (λ (b : ℕ). has_pair (apart a b) i j) is (sym (pair_each (apart a) is i j) ∙ h) in
      let c = (and-eq-true_iff (not (eqb a b.0)) (eqb a i && eqb b.0 j)).0 (sym (pair_apart a b.0 i j) ∙ b.2) in
      let d = (and-eq-true_iff (eqb a i) (eqb b.0 j)).0 c.1 in
      let p : a ≡ i = eqb-true a i d.0 in
      let q : b.0 ≡ j = eqb-true b.0 j d.1 in
      (p, and_in _ _ (not_eqb i j (λ e. not_eqb_out a b.0 c.0 (p ∙ e ∙ sym q))) (ap (λ (x : ℕ). has x is) (sym q) ∙ mem_has b.0 is b.1))

  all_in : a ≡ i → (not (eqb i j) && has j is) ≡ true → has_pair (apart_all a is) i j ≡ true
  unfolding apart_all
  all_in e h =
      let c = (and-eq-true_iff (not (eqb i j)) (has j is)).0 h in
      pair_each (apart a) is i j
      ∙ any_in_lem (λ (b : ℕ). has_pair (apart a b) i j) (has_mem j is c.1)
      (pair_apart a j i j
      ∙ and_in _ _ (not_eqb a j (λ q. not_eqb_out i j c.0 (sym e ∙ q))) (and_in _ _ (eq-eqb a i e) (eq-eqb j j refl)))

-- ---- the pairs of the meetings

module _ (meets words : List ℕ) where
  abbrev near : ℕ → ℕ → Bool
  near i j = not (eqb i j) && has j (storages_at words (members (row meets (i * 8) 8)))

  fit_meet : (k n : ℕ) → k + n ≤ 256 → Fit 256 256 (meet_pairs meets words k n)
  unfolding meet_pairs
  fit_meet k zero h = tt
  fit_meet k (suc n) h =
      fit_append 256 256 (apart_all k (storages_at words (members (row meets (k * 8) 8)))) (meet_pairs meets words (suc k) n)
      (fit_all k _ (omega arith) (storages_low words (members (row meets (k * 8) 8)))) (fit_meet (suc k) n (omega arith))

  meet_out : (i j k n : ℕ) → has_pair (meet_pairs meets words k n) i j ≡ true → near i j ≡ true
  unfolding meet_pairs
  meet_out i j k zero h = absurd (true≢false (sym h ∙ pair_nil i j))
  meet_out i j k (suc n) h =
      go (either _ _ (sym (pair_append (apart_all k (storages_at words (members (row meets (k * 8) 8)))) (meet_pairs meets words (suc k) n) i j) ∙ h)) (meet_out i j (suc k) n)
    where
      go : (has_pair (apart_all k (storages_at words (members (row meets (k * 8) 8)))) i j ≡ true) ⊎ (has_pair (meet_pairs meets words (suc k) n) i j ≡ true)
          → (has_pair (meet_pairs meets words (suc k) n) i j ≡ true → near i j ≡ true) → near i j ≡ true
      go (inl p) ih =
          let c = all_out k i j (storages_at words (members (row meets (k * 8) 8))) p in
          ap (λ (x : ℕ). not (eqb i j) && has j (storages_at words (members (row meets (x * 8) 8)))) (sym c.0) ∙ c.1
      go (inr p) ih = ih p

  meet_in : (i j k n : ℕ) → k ≤ i → i < k + n → near i j ≡ true → has_pair (meet_pairs meets words k n) i j ≡ true
  unfolding meet_pairs
  meet_in i j k zero l h e = absurd (omega arith)
  meet_in i j k (suc n) l h e =
      pair_append (apart_all k (storages_at words (members (row meets (k * 8) 8)))) (meet_pairs meets words (suc k) n) i j
      ∙ go (eqb k i) refl (λ g. meet_in i j (suc k) n g (omega arith) e)
    where
      go : (t : Bool) → eqb k i ≡ t → (suc k ≤ i → has_pair (meet_pairs meets words (suc k) n) i j ≡ true)
          → (has_pair (apart_all k (storages_at words (members (row meets (k * 8) 8)))) i j || has_pair (meet_pairs meets words (suc k) n) i j) ≡ true
      go true q ih =
          let z : k ≡ i = eqb-true k i q in
          or_left (has_pair (apart_all k (storages_at words (members (row meets (k * 8) 8)))) i j) (has_pair (meet_pairs meets words (suc k) n) i j)
          (all_in k i j (storages_at words (members (row meets (k * 8) 8))) z
          (ap (λ (x : ℕ). not (eqb i j) && has j (storages_at words (members (row meets (x * 8) 8)))) z ∙ e))
      go false q ih =
          let d : ¬ (k ≡ i) = eqb-false k i q in
          or_right (has_pair (apart_all k (storages_at words (members (row meets (k * 8) 8)))) i j) (has_pair (meet_pairs meets words (suc k) n) i j) (ih (omega arith))

  -- The first n storages are enough where no other is near any.
  pub pair_meet : (n i j : ℕ) → (n ≤ i → near i j ≡ true → ⊥) → has_pair (meet_pairs meets words 0 n) i j ≡ near i j
  pair_meet n i j none = same_test (has_pair (meet_pairs meets words 0 n) i j) (near i j) (meet_out i j 0 n) (λ e. go e (lt_or_ge i n))
    where
      go : near i j ≡ true → (i < n) ⊎ (n ≤ i) → has_pair (meet_pairs meets words 0 n) i j ≡ true
      go e (inl l) = meet_in i j 0 n (omega arith) (omega arith) e
      go e (inr l) = absurd (none l e)

-- ---- the pairs of the addressed

and_fits : (ps : List (ℕ × ℕ)) (a b : Bool) → (a ≡ true → b ≡ true → Fit 256 256 ps) → Fit 256 256 (pick (a and b) ps [])
unfolding pick
and_fits ps true true h = h refl refl
and_fits ps true false h = tt
and_fits ps false b h = tt

-- Two storages of one owner, of ids i and j, which are two.
record Owned (i j : ℕ) (x y : Storage) : Type 0 where
  two : ¬ (i ≡ j)
  of_i : x.id ≡ i
  of_j : y.id ≡ j
  one_owner : eqb x.owner y.owner ≡ true

module _ (i j : ℕ) (x y : Storage) where
  own_is : has_pair (own_pair x.id x.owner y) i j
      ≡ ((eqb y.owner x.owner && ltb y.id 256) && (not (eqb x.id y.id) && (eqb x.id i && eqb y.id j)))
  unfolding own_pair
  own_is =
      pair_pick (eqb y.owner x.owner and ltb y.id 256) (apart x.id y.id) i j
      ∙ ap₂ (λ (s t : Bool). s && t) (and_is (eqb y.owner x.owner) (ltb y.id 256)) (pair_apart x.id y.id i j)

  own_out : has_pair (own_pair x.id x.owner y) i j ≡ true → Owned i j x y
  own_out h =
      let q = (and-eq-true_iff (eqb y.owner x.owner && ltb y.id 256) (not (eqb x.id y.id) && (eqb x.id i && eqb y.id j))).0 (sym own_is ∙ h) in
      let o = (and-eq-true_iff (eqb y.owner x.owner) (ltb y.id 256)).0 q.0 in
      let c = (and-eq-true_iff (not (eqb x.id y.id)) (eqb x.id i && eqb y.id j)).0 q.1 in
      let d = (and-eq-true_iff (eqb x.id i) (eqb y.id j)).0 c.1 in
      let xi : x.id ≡ i = eqb-true x.id i d.0 in
      let yj : y.id ≡ j = eqb-true y.id j d.1 in
      record {
        two = λ e. not_eqb_out x.id y.id c.0 (xi ∙ e ∙ sym yj);
        of_i = xi;
        of_j = yj;
        one_owner = eqb_sym x.owner y.owner ∙ o.0;
      }

  own_in : j < 256 → Owned i j x y → has_pair (own_pair x.id x.owner y) i j ≡ true
  own_in h o =
      own_is
      ∙ and_in _ _
      (and_in _ _ (eqb_sym y.owner x.owner ∙ o.one_owner) (lt-ltb y.id 256 (omega (arith, o.of_j))))
      (and_in _ _ (not_eqb x.id y.id (λ e. o.two (sym o.of_i ∙ e ∙ o.of_j))) (and_in _ _ (eq-eqb x.id i o.of_i) (eq-eqb y.id j o.of_j)))

module _ (a : List ℕ) (all : List Storage) where
  fit_hold : Fit 256 256 (hold_pairs a all)
  unfolding hold_pairs own_pairs own_pair
  fit_hold = fit_each 256 256 (own_pairs a all) all (λ s.
      and_fits (each (own_pair s.id s.owner) all) (ltb s.id 256) (member_at a 0 s.id) (λ p q.
      fit_each 256 256 (own_pair s.id s.owner) all (λ t.
      and_fits (apart s.id t.id) (eqb t.owner s.owner) (ltb t.id 256) (λ p' q'.
      fit_apart s.id t.id (ltb-true _ _ p) (ltb-true _ _ q')))))

  abbrev fellow : ℕ → Storage → Storage → Bool
  fellow j s t = eqb t.id j && eqb s.owner t.owner

  abbrev owned : ℕ → ℕ → Bool
  owned i j = any (λ (s : Storage). eqb s.id i && any (fellow j s) all) all

  module _ (i j : ℕ) where
    -- of one storage
    owns : (x : Storage) → has_pair (own_pairs a all x) i j
        ≡ ((ltb x.id 256 && member_at a 0 x.id) && any (λ (t : Storage). has_pair (own_pair x.id x.owner t) i j) all)
    unfolding own_pairs
    owns x =
        pair_pick (ltb x.id 256 and member_at a 0 x.id) (each (own_pair x.id x.owner) all) i j
        ∙ ap₂ (λ (s t : Bool). s && t) (and_is (ltb x.id 256) (member_at a 0 x.id)) (pair_each (own_pair x.id x.owner) all i j)

    owns_out : (x : Storage) → has_pair (own_pairs a all x) i j ≡ true
        → (¬ (i ≡ j)) × ((eqb x.id i && any (fellow j x) all) ≡ true) × (member_at a 0 i ≡ true)
    owns_out x h =
        let p = (and-eq-true_iff (ltb x.id 256 && member_at a 0 x.id) (any (λ (t : Storage). has_pair (own_pair x.id x.owner t) i j) all)).0 (sym (owns x) ∙ h) in
        let t = any_out (λ (t : Storage). has_pair (own_pair x.id x.owner t) i j) all p.1 in
        let o = own_out i j x t.0 t.2 in (
          o.two,
          and_in _ _ (eq-eqb x.id i o.of_i) (any_in_lem (fellow j x) t.1 (and_in _ _ (eq-eqb t.0.id j o.of_j) o.one_owner)),
          ap (member_at a 0) (sym o.of_i) ∙ ((and-eq-true_iff (ltb x.id 256) (member_at a 0 x.id)).0 p.0).1,
        )

    owns_in : (x : Storage) → i < 256 → j < 256 → ¬ (i ≡ j) → (eqb x.id i && any (fellow j x) all) ≡ true → member_at a 0 i ≡ true
        → has_pair (own_pairs a all x) i j ≡ true
    owns_in x hi hj two h m =
        let p = (and-eq-true_iff (eqb x.id i) (any (fellow j x) all)).0 h in
        let t = any_out (fellow j x) all p.1 in
        let q = (and-eq-true_iff (eqb t.0.id j) (eqb x.owner t.0.owner)).0 t.2 in
        let xi : x.id ≡ i = eqb-true x.id i p.0 in
        owns x
        ∙ and_in _ _ (and_in _ _ (lt-ltb x.id 256 (omega arith)) (ap (member_at a 0) xi ∙ m))
        (any_in_lem (λ (t : Storage). has_pair (own_pair x.id x.owner t) i j) t.1
        (own_in i j x t.0 hj (record { two = two; of_i = xi; of_j = eqb-true t.0.id j q.0; one_owner = q.1 })))

    hold_out : has_pair (hold_pairs a all) i j ≡ true → (not (eqb i j) && (owned i j && member_at a 0 i)) ≡ true
    unfolding hold_pairs
    hold_out h =
        let s = any_out (λ (s : Storage). has_pair (own_pairs a all s) i j) all (sym (pair_each (own_pairs a all) all i j) ∙ h) in
        let o = owns_out s.0 s.2 in
        and_in _ _ (not_eqb i j o.0) (and_in _ _ (any_in_lem (λ (s : Storage). eqb s.id i && any (fellow j s) all) s.1 o.1) o.2)

    hold_in : i < 256 → j < 256 → (not (eqb i j) && (owned i j && member_at a 0 i)) ≡ true → has_pair (hold_pairs a all) i j ≡ true
    unfolding hold_pairs
    hold_in hi hj h =
        let n = (and-eq-true_iff (not (eqb i j)) (owned i j && member_at a 0 i)).0 h in
        let o = (and-eq-true_iff (owned i j) (member_at a 0 i)).0 n.1 in
        let s = any_out (λ (s : Storage). eqb s.id i && any (fellow j s) all) all o.0 in
        pair_each (own_pairs a all) all i j
        ∙ any_in_lem (λ (s : Storage). has_pair (own_pairs a all s) i j) s.1 (owns_in s.0 hi hj (not_eqb_out i j n.0) s.2 o.1)

    pub pair_hold : i < 256 → j < 256 → has_pair (hold_pairs a all) i j ≡ (not (eqb i j) && (owned i j && member_at a 0 i))
    pair_hold hi hj = same_test _ _ hold_out (hold_in hi hj)

-- ---- the graph, and the pairs of the copies

join : (n h h' y y' : Bool) → (((n && h) || (n && h')) || (((n && y) || (n && y')) || false)) ≡ (n && (((n && y) || (n && y')) || (h || h')))
join true h h' y y' = ap (λ (x : Bool). (h || h') || x) (or-false (y || y')) ∙ or_comm (h || h') (y || y')
join false h h' y y' = refl

module _ {us words meets a : List ℕ} (p : Program) (file : List ℕ) (k : Numbered us words) (g : Gathered us (stops one p) meets)
    (ad : Addressed (all_uses one p) a) (same : declared file ≡ p.storages) (n : ℕ) (few : n ≤ 256) (above : Above words (length us) n) where
  clash_is : (i j : ℕ) → i < 256 → has_pair (clashes one p) i j ≡ near meets words i j
  clash_is i j h = stops_clashes one i j p ∙ gathered_clashes k g i j h

  pairs_are : (i j : ℕ) → i < 256 → has_pair (meet_pairs meets words 0 n) i j ≡ near meets words i j
  pairs_are i j h = pair_meet meets words n i j (λ l e. none_above n k above g i j l (gathered_clashes k g i j h ∙ e))

  held_is : (i j : ℕ) → i < 256 → j < 256 → has_pair (hold_pairs a (declared file)) i j ≡ (not (eqb i j) && held one p i j)
  unfolding held same_owner addressed
  held_is i j hi hj =
      ap (λ (l : List Storage). has_pair (hold_pairs a l) i j) same ∙ pair_hold a p.storages i j hi hj
      ∙ ap (λ (x : Bool). not (eqb i j) && (owned a p.storages i j && x)) (ad.holds i hi)

  graph_holds : (i j : ℕ) → i < 256 → j < 256 → member_at (held_by file a (closed meets words n (replicate 1024 0))) (i * 4) j ≡ interferes one p i j
  unfolding held_by closed interferes
  graph_holds i j hi hj =
      member_linked (hold_pairs a (declared file)) (linked (meet_pairs meets words 0 n) (replicate 1024 0)) i j
      (length_linked (meet_pairs meets words 0 n) (replicate 1024 0) ∙ length-replicate {A = ℕ} 1024 0) (fit_hold a (declared file)) hj
      ∙ ap (λ (x : Bool). (has_pair (hold_pairs a (declared file)) i j || has_pair (hold_pairs a (declared file)) j i) || x)
      (member_linked (meet_pairs meets words 0 n) (replicate 1024 0) i j (length-replicate {A = ℕ} 1024 0) (fit_meet meets words 0 n (omega arith)) hj
      ∙ ap₂ (λ (x y : Bool). x || y)
      (ap₂ (λ (x y : Bool). x || y) (pairs_are i j hi) (pairs_are j i hj ∙ turned (has i (storages_at words (members (row meets (j * 8) 8))))))
      (at_none 1024 (i * 4) j))
      ∙ ap (λ (x : Bool). x || (((not (eqb i j) && has j (storages_at words (members (row meets (i * 8) 8)))) || (not (eqb i j) && has i (storages_at words (members (row meets (j * 8) 8))))) || false))
      (ap₂ (λ (x y : Bool). x || y) (held_is i j hi hj) (held_is j i hj hi ∙ turned (held one p j i)))
      ∙ join (not (eqb i j)) (held one p i j) (held one p j i) (has j (storages_at words (members (row meets (i * 8) 8)))) (has i (storages_at words (members (row meets (j * 8) 8))))
      ∙ ap (λ (x : Bool). not (eqb i j) && (x || (held one p i j || held one p j i)))
      (ap₂ (λ (x y : Bool). x || y) (sym (clash_is i j hi)) (sym (clash_is j i hj ∙ turned (has i (storages_at words (members (row meets (j * 8) 8)))))))
    where
      turned : (x : Bool) → (not (eqb j i) && x) ≡ (not (eqb i j) && x)
      turned x = ap (λ (t : Bool). not t && x) (eqb_sym j i)

  pub graph_is : held_by file a (closed meets words n (replicate 1024 0)) ≡ relation_rows one (interferes one p) 0 256
  unfolding held_by closed
  graph_is =
      relation_is (interferes one p) (held_by file a (closed meets words n (replicate 1024 0)))
      (length_linked (hold_pairs a (declared file)) (closed meets words n (replicate 1024 0)) ∙ length_linked (meet_pairs meets words 0 n) (replicate 1024 0) ∙ length-replicate {A = ℕ} 1024 0)
      (words_linked (hold_pairs a (declared file)) (closed meets words n (replicate 1024 0)) (words_linked (meet_pairs meets words 0 n) (replicate 1024 0) (words_none 1024)))
      graph_holds

pub copies_is : {c : List ℕ} (p : Program) → Paired (all_uses one p) c → c ≡ relation_rows one (copied one p) 0 256
unfolding copied copies
copies_is {c} p h = relation_is (copied one p) c h.len h.words (λ i j hi hj. h.holds i j hj ∙ sym (pair_each (copies_at one) (all_uses one p) i j))
