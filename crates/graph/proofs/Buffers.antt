-- What the buffers of rows hold after each way of filling them: a pair is one bit of one row, a poured row is a union with some rows, and taking rows out
-- leaves what none of them has. Each follows from the laws of one row and recursion on the list of what is put in.
use mathlib.Core.Path.{◌≡◌, refl, sym, ap, ap₂, ◌∙◌}
use mathlib.Core.Logic.{◌⊎◌, inl, inr}
use mathlib.Core.Bool.{Bool, true, false, not, ◌&&◌, ◌||◌, or_comm, or-false, and-true, and-eq-true_iff, or_assoc, and_comm, true≢false}
use mathlib.Core.List.{List, [], ◌∷◌, ◌++◌}
use Prim.Native.Nat.{ℕ, zero, suc, ◌+◌, ◌-◌, ◌*◌, ◌%◌, ◌≤◌, ◌<◌}
use native.Mathlib.Nat.{le_trans}
use native.Mathlib.Omega.{arith}
use lib.Bits.{bit_or, or_lt}
use lib.Dec.{eqb, ltb}
use lib.ListN.{length, get_or}
use lib.Pow.{pow-lt}
use borrow.Author.Tests.{eqb-true, eqb-false, eq-eqb, lt-ltb, ltb-true}
use Rattle.rows.specs.Row.{Words, member, member_at, with_at, row, put, or_row, less_row, less}
use Rattle.rows.proofs.Tests.{either, same_test}
use Rattle.rows.proofs.Rows.{length_row, length_zip, length_put, row_put_same, row_put_other, strides, strides_apart}
use Rattle.rows.proofs.Members.{length_with_at, member_row, member_or, member_less, table_with, words_set}
use Rattle.fields.specs.Pick.{pick, ◌or◌, has}
use Rattle.fields.specs.Edition.{one}
use Rattle.fields.proofs.Front.{or_is}
use Rattle.units.specs.Sets.{any, each}
use Rattle.units.specs.Uses.{storage_of}
use Rattle.liveness.proofs.SetLaws.{eqb_sym}
use Rattle.graph.specs.Graph.{has_pair}
use Rattle.meetings.specs.Members.{members_from, ahead, members}
use Rattle.meetings.specs.Meeting.{storage_at, storages_at, paired, unit_pairs, unit_rows, less_rows, poured}
use Rattle.meetings.specs.Closing.{linked}
use Rattle.graph.proofs.Anys.{or_left, or_right, and_in, pair_nil, pair_cons}

-- ---- the members of a row, in a list

module _ (r : List ℕ) where
  from_out : (n a k : ℕ) → has n (members_from r a k) ≡ true → (n < a + k) × (member r n ≡ true)
  unfolding members_from has pick
  from_out n a zero h = absurd (true≢false (sym h))
  from_out n a (suc k) h = go (member r a) refl h (from_out n (suc a) k)
    where
      go : (b : Bool) → member r a ≡ b → has n (pick b (a ∷ members_from r (suc a) k) (members_from r (suc a) k)) ≡ true
          → (has n (members_from r (suc a) k) ≡ true → (n < suc a + k) × (member r n ≡ true)) → (n < a + suc k) × (member r n ≡ true)
      go true e q ih = here (eqb n a) refl q
        where
          here : (b : Bool) → eqb n a ≡ b → (b or has n (members_from r (suc a) k)) ≡ true → (n < a + suc k) × (member r n ≡ true)
          here true f p = let z : n ≡ a = eqb-true n a f in (omega arith, ap (member r) z ∙ e)
          here false f p = let s = ih p in (omega (arith, s.0), s.1)
      go false e q ih = let s = ih q in (omega (arith, s.0), s.1)

  from_in : (n a k : ℕ) → a ≤ n → n < a + k → member r n ≡ true → has n (members_from r a k) ≡ true
  unfolding members_from has pick
  from_in n a zero l h e = absurd (omega arith)
  from_in n a (suc k) l h e = here (eqb n a) refl (λ g. from_in n (suc a) k g (omega arith) e)
    where
      here : (b : Bool) → eqb n a ≡ b → (suc a ≤ n → has n (members_from r (suc a) k) ≡ true)
          → has n (pick (member r a) (a ∷ members_from r (suc a) k) (members_from r (suc a) k)) ≡ true
      here true f ih =
          let z : a ≡ n = sym (eqb-true n a f) in
          rw (ap (member r) z ∙ e) (ap (λ (x : Bool). x or has n (members_from r (suc a) k)) f)
      here false f ih = let d : ¬ (n ≡ a) = eqb-false n a f in go (member r a) (ih (omega arith))
        where
          go : (b : Bool) → has n (members_from r (suc a) k) ≡ true → has n (pick b (a ∷ members_from r (suc a) k) (members_from r (suc a) k)) ≡ true
          go true q = rw f q
          go false q = q

  pub members_out : (n : ℕ) → has n (members r) ≡ true → (n < 64 * length r) × (member r n ≡ true)
  unfolding ahead
  members_out n h = let s = from_out n 0 (64 * length r - 0) h in (omega (arith, s.0), s.1)

  pub members_in : (n : ℕ) → n < 64 * length r → member r n ≡ true → has n (members r) ≡ true
  unfolding ahead
  members_in n h e = from_in n 0 (64 * length r - 0) (omega arith) (omega arith) e

-- ---- numbers and pairs in range

abbrev pub Low : ℕ → List ℕ → Type 0
Low n [] = Unit {0}
Low n (i ∷ is) = (i < n) × Low n is

abbrev pub Fit : ℕ → ℕ → List (ℕ × ℕ) → Type 0
Fit n m [] = Unit {0}
Fit n m (p ∷ ps) = (p.0 < n) × (p.1 < m) × Fit n m ps

pub fit_append : (n m : ℕ) (ps qs : List (ℕ × ℕ)) → Fit n m ps → Fit n m qs → Fit n m (ps ++ qs)
fit_append n m [] qs f g = g
fit_append n m (p ∷ ps) qs f g = (f.0, f.1, fit_append n m ps qs f.2 g)

pub fit_each : {A : Type 0} (n m : ℕ) (f : A → List (ℕ × ℕ)) (l : List A) → ((a : A) → Fit n m (f a)) → Fit n m (each f l)
unfolding each
fit_each n m f [] h = tt
fit_each n m f (a ∷ l) h = fit_append n m (f a) (each f l) (h a) (fit_each n m f l h)

pub storage_low : (w : ℕ) → storage_of one w < 256
unfolding storage_of
storage_low w = omega arith

pub storages_low : (words ns : List ℕ) → Low 256 (storages_at words ns)
unfolding storages_at
storages_low words [] = tt
storages_low words (n ∷ ns) = (storage_low (get_or words n 0), storages_low words ns)

-- ---- pairs put in

with_words : (ws : List ℕ) (b n : ℕ) → Words ws → Words (with_at ws b n)
unfolding with_at
with_words ws b n h = words_set ws _ _ h (or_lt 64 _ _ (h _) (pow-lt {i = n % 64} {j = 64} (omega arith)))

turn : (e h m : Bool) → (h || (e || m)) ≡ ((e || h) || m)
turn e h m = sym (or_assoc h e m) ∙ ap (λ (t : Bool). t || m) (or_comm h e)

module _ (w : ℕ) where
  pub length_paired : (ps : List (ℕ × ℕ)) (ws : List ℕ) → length (paired w ps ws) ≡ length ws
  unfolding paired
  length_paired [] ws = refl
  length_paired (p ∷ ps) ws = length_paired ps (with_at ws (p.0 * w) p.1) ∙ length_with_at ws (p.0 * w) p.1

  pub words_paired : (ps : List (ℕ × ℕ)) (ws : List ℕ) → Words ws → Words (paired w ps ws)
  unfolding paired
  words_paired [] ws h = h
  words_paired (p ∷ ps) ws h = words_paired ps (with_at ws (p.0 * w) p.1) (with_words ws (p.0 * w) p.1 h)

  pub member_paired : (n i m : ℕ) (ps : List (ℕ × ℕ)) (ws : List ℕ) → n * w ≤ length ws → Fit n (64 * w) ps → m < 64 * w
      → member_at (paired w ps ws) (i * w) m ≡ (has_pair ps i m || member_at ws (i * w) m)
  unfolding paired
  member_paired n i m [] ws l f h = sym (ap (λ (x : Bool). x || member_at ws (i * w) m) (pair_nil i m))
  member_paired n i m (p ∷ ps) ws l f h =
      member_paired n i m ps (with_at ws (p.0 * w) p.1) (rw (length_with_at ws (p.0 * w) p.1) l) f.2 h
      ∙ ap (λ (x : Bool). has_pair ps i m || x) (table_with ws w p.0 p.1 i m f.1 h (le_trans (strides w p.0 n f.0) l))
      ∙ ap₂ (λ (x y : Bool). has_pair ps i m || ((x && y) || member_at ws (i * w) m)) (eqb_sym i p.0) (eqb_sym m p.1)
      ∙ turn (eqb p.0 i && eqb p.1 m) (has_pair ps i m) (member_at ws (i * w) m)
      ∙ ap (λ (x : Bool). x || member_at ws (i * w) m) (sym (pair_cons p ps i m))

-- ---- pairs put in both ways

abbrev twice : List (ℕ × ℕ) → List (ℕ × ℕ)
twice [] = []
twice (p ∷ ps) = p ∷ (p.1, p.0) ∷ twice ps

linked_twice : (ps : List (ℕ × ℕ)) (g : List ℕ) → linked ps g ≡ paired 4 (twice ps) g
unfolding linked paired
linked_twice [] g = refl
linked_twice (p ∷ ps) g = linked_twice ps (with_at (with_at g (p.0 * 4) p.1) (p.1 * 4) p.0)

fit_twice : (n : ℕ) (ps : List (ℕ × ℕ)) → Fit n n ps → Fit n n (twice ps)
fit_twice n [] f = tt
fit_twice n (p ∷ ps) f = (f.0, f.1, (f.1, f.0, fit_twice n ps f.2))

swap : (a b c d : Bool) → (a || (b || (c || d))) ≡ ((a || c) || (b || d))
swap true b c d = refl
swap false true true d = refl
swap false true false d = refl
swap false false c d = refl

pair_twice : (ps : List (ℕ × ℕ)) (i j : ℕ) → has_pair (twice ps) i j ≡ (has_pair ps i j || has_pair ps j i)
pair_twice [] i j = pair_nil i j ∙ sym (ap₂ (λ (x y : Bool). x || y) (pair_nil i j) (pair_nil j i))
pair_twice (p ∷ ps) i j =
    pair_cons p ((p.1, p.0) ∷ twice ps) i j
    ∙ ap (λ (x : Bool). (eqb p.0 i && eqb p.1 j) || x) (pair_cons (p.1, p.0) (twice ps) i j)
    ∙ ap₂ (λ (x y : Bool). (eqb p.0 i && eqb p.1 j) || (x || y)) (and_comm (eqb p.1 i) (eqb p.0 j)) (pair_twice ps i j)
    ∙ swap (eqb p.0 i && eqb p.1 j) (eqb p.0 j && eqb p.1 i) (has_pair ps i j) (has_pair ps j i)
    ∙ sym (ap₂ (λ (x y : Bool). x || y) (pair_cons p ps i j) (pair_cons p ps j i))

pub length_linked : (ps : List (ℕ × ℕ)) (g : List ℕ) → length (linked ps g) ≡ length g
length_linked ps g = ap length (linked_twice ps g) ∙ length_paired 4 (twice ps) g

pub words_linked : (ps : List (ℕ × ℕ)) (g : List ℕ) → Words g → Words (linked ps g)
words_linked ps g h = rw (linked_twice ps g) (words_paired 4 (twice ps) g h)

pub member_linked : (ps : List (ℕ × ℕ)) (g : List ℕ) (i m : ℕ) → length g ≡ 1024 → Fit 256 256 ps → m < 256
    → member_at (linked ps g) (i * 4) m ≡ ((has_pair ps i m || has_pair ps m i) || member_at g (i * 4) m)
member_linked ps g i m l f h =
    ap (λ (x : List ℕ). member_at x (i * 4) m) (linked_twice ps g)
    ∙ member_paired 4 256 i m (twice ps) g (omega arith) (fit_twice 256 ps f) h
    ∙ ap (λ (x : Bool). x || member_at g (i * 4) m) (pair_twice ps i m)

-- ---- the units of each storage

fit_units : (words : List ℕ) (k n : ℕ) → k + n ≤ 512 → Fit 256 512 (unit_pairs words k n)
unfolding unit_pairs
fit_units words k zero h = tt
fit_units words k (suc n) h = (storage_low (get_or words k 0), omega arith, fit_units words (suc k) n (omega arith))

pair_units_out : (words : List ℕ) (i m k n : ℕ) → has_pair (unit_pairs words k n) i m ≡ true → (m < k + n) × (storage_at words m ≡ i)
unfolding unit_pairs
pair_units_out words i m k zero h = absurd (true≢false (sym h ∙ pair_nil i m))
pair_units_out words i m k (suc n) h = go (either _ _ (sym (pair_cons (storage_at words k, k) (unit_pairs words (suc k) n) i m) ∙ h)) (pair_units_out words i m (suc k) n)
  where
    go : ((eqb (storage_at words k) i && eqb k m) ≡ true) ⊎ (has_pair (unit_pairs words (suc k) n) i m ≡ true)
        → (has_pair (unit_pairs words (suc k) n) i m ≡ true → (m < suc k + n) × (storage_at words m ≡ i)) → (m < k + suc n) × (storage_at words m ≡ i)
    go (inl p) ih =
        let b = (and-eq-true_iff (eqb (storage_at words k) i) (eqb k m)).0 p in
        let z : k ≡ m = eqb-true k m b.1 in
        (omega arith, ap (storage_at words) (sym z) ∙ eqb-true (storage_at words k) i b.0)
    go (inr p) ih = let s = ih p in (omega (arith, s.0), s.1)

pair_units_in : (words : List ℕ) (i m k n : ℕ) → k ≤ m → m < k + n → storage_at words m ≡ i → has_pair (unit_pairs words k n) i m ≡ true
unfolding unit_pairs
pair_units_in words i m k zero l h e = absurd (omega arith)
pair_units_in words i m k (suc n) l h e = pair_cons (storage_at words k, k) (unit_pairs words (suc k) n) i m
    ∙ go (eqb k m) refl (λ g. pair_units_in words i m (suc k) n g (omega arith) e)
  where
    go : (b : Bool) → eqb k m ≡ b → (suc k ≤ m → has_pair (unit_pairs words (suc k) n) i m ≡ true)
        → ((eqb (storage_at words k) i && b) || has_pair (unit_pairs words (suc k) n) i m) ≡ true
    go true f ih =
        let z : k ≡ m = eqb-true k m f in
        or_left (eqb (storage_at words k) i && true) (has_pair (unit_pairs words (suc k) n) i m)
        (and_in (eqb (storage_at words k) i) true (eq-eqb (storage_at words k) i (ap (storage_at words) z ∙ e)) refl)
    go false f ih = let d : ¬ (k ≡ m) = eqb-false k m f in or_right (eqb (storage_at words k) i && false) (has_pair (unit_pairs words (suc k) n) i m) (ih (omega arith))

pub member_units : (words : List ℕ) (count i m : ℕ) (rows : List ℕ) → count ≤ 512 → length rows ≡ 2048 → m < 512
    → member_at rows (i * 8) m ≡ false → member_at (unit_rows words count rows) (i * 8) m ≡ (ltb m count && eqb (storage_at words m) i)
unfolding unit_rows
member_units words count i m rows c l h z =
    member_paired 8 256 i m (unit_pairs words 0 count) rows (omega arith) (fit_units words 0 count (omega arith)) h
    ∙ ap (λ (x : Bool). has_pair (unit_pairs words 0 count) i m || x) z ∙ or-false (has_pair (unit_pairs words 0 count) i m)
    ∙ same_test (has_pair (unit_pairs words 0 count) i m) (ltb m count && eqb (storage_at words m) i) to from
  where
    to : has_pair (unit_pairs words 0 count) i m ≡ true → (ltb m count && eqb (storage_at words m) i) ≡ true
    to p = let s = pair_units_out words i m 0 count p in and_in _ _ (lt-ltb m count (omega (arith, s.0))) (eq-eqb (storage_at words m) i s.1)

    from : (ltb m count && eqb (storage_at words m) i) ≡ true → has_pair (unit_pairs words 0 count) i m ≡ true
    from p =
        let b = (and-eq-true_iff (ltb m count) (eqb (storage_at words m) i)).0 p in
        pair_units_in words i m 0 count (omega arith) (omega (arith, ltb-true m count b.0)) (eqb-true (storage_at words m) i b.1)

-- ---- a row less some rows

spare_turn : (x r a : Bool) → ((x && not r) && not a) ≡ (x && not (r || a))
spare_turn true true a = refl
spare_turn true false a = refl
spare_turn false r a = refl

module _ (rows : List ℕ) (l : length rows ≡ 2048) where
  pub member_less_rows : (is x : List ℕ) (m : ℕ) → length x ≡ 8 → Low 256 is → m < 512
      → member (less_rows rows is x) m ≡ (member x m && not (any (λ (i : ℕ). member_at rows (i * 8) m) is))
  unfolding less_rows any
  member_less_rows [] x m e f h = sym (and-true (member x m))
  member_less_rows (i ∷ is) x m e f h =
      let b : length (row rows (i * 8) 8) ≡ 8 = length_row rows (i * 8) 8 (omega (arith, f.0)) in
      member_less_rows is (less_row x (row rows (i * 8) 8)) m (length_zip less x (row rows (i * 8) 8) (e ∙ sym b) ∙ e) f.1 h
      ∙ ap (λ (t : Bool). t && not (any (λ (j : ℕ). member_at rows (j * 8) m) is)) (member_less x (row rows (i * 8) 8) m (e ∙ sym b))
      ∙ ap (λ (t : Bool). (member x m && not t) && not (any (λ (j : ℕ). member_at rows (j * 8) m) is)) (member_row rows (i * 8) 8 m h)
      ∙ spare_turn (member x m) (member_at rows (i * 8) m) (any (λ (j : ℕ). member_at rows (j * 8) m) is)
      ∙ ap (λ (t : Bool). member x m && not t) (sym (or_is (member_at rows (i * 8) m) (any (λ (j : ℕ). member_at rows (j * 8) m) is)))

  pub length_less_rows : (is x : List ℕ) → length x ≡ 8 → Low 256 is → length (less_rows rows is x) ≡ 8
  unfolding less_rows
  length_less_rows [] x e f = e
  length_less_rows (i ∷ is) x e f =
      let b : length (row rows (i * 8) 8) ≡ 8 = length_row rows (i * 8) 8 (omega (arith, f.0)) in
      length_less_rows is (less_row x (row rows (i * 8) 8)) (length_zip less x (row rows (i * 8) 8) (e ∙ sym b) ∙ e) f.1

-- ---- a row poured into some rows

module _ (x : List ℕ) (e : length x ≡ 8) where
  pub length_poured : (is meets : List ℕ) → length meets ≡ 2048 → Low 256 is → length (poured x is meets) ≡ 2048
  unfolding poured
  length_poured [] meets l f = l
  length_poured (k ∷ is) meets l f = length_poured is _ (len meets k l f.0) f.1
    where
      len : (meets : List ℕ) (k : ℕ) → length meets ≡ 2048 → k < 256 → length (put meets (k * 8) (or_row (row meets (k * 8) 8) x)) ≡ 2048
      len meets k l h =
          let b : length (row meets (k * 8) 8) ≡ 8 = length_row meets (k * 8) 8 (omega arith) in
          let o : length (or_row (row meets (k * 8) 8) x) ≡ 8 = length_zip bit_or _ x (b ∙ sym e) ∙ b in
          length_put meets (k * 8) _ (omega arith) ∙ l

  pour_one : (meets : List ℕ) (k i m : ℕ) → length meets ≡ 2048 → k < 256 → m < 512
      → member_at (put meets (k * 8) (or_row (row meets (k * 8) 8) x)) (i * 8) m ≡ ((eqb i k && member x m) || member_at meets (i * 8) m)
  pour_one meets k i m l hk h = go (eqb i k) refl
    where
      old : List ℕ
      old = row meets (k * 8) 8

      b : length old ≡ 8
      b = length_row meets (k * 8) 8 (omega arith)

      o : length (or_row old x) ≡ 8
      o = length_zip bit_or old x (b ∙ sym e) ∙ b

      room : k * 8 + length (or_row old x) ≤ length meets
      room = omega (arith, o)

      go : (t : Bool) → eqb i k ≡ t → member_at (put meets (k * 8) (or_row old x)) (i * 8) m ≡ ((t && member x m) || member_at meets (i * 8) m)
      go true q =
          let z : i ≡ k = eqb-true i k q in
          rw z
          (sym (member_row (put meets (k * 8) (or_row old x)) (k * 8) 8 m h)
          ∙ ap (λ (n : ℕ). member (row (put meets (k * 8) (or_row old x)) (k * 8) n) m) (sym o)
          ∙ ap (λ (r : List ℕ). member r m) (row_put_same meets (k * 8) (or_row old x) room)
          ∙ member_or old x m (b ∙ sym e) ∙ ap (λ (t : Bool). t || member x m) (member_row meets (k * 8) 8 m h)
          ∙ or_comm (member_at meets (k * 8) m) (member x m))
      go false q =
          sym (member_row (put meets (k * 8) (or_row old x)) (i * 8) 8 m h)
          ∙ ap (λ (r : List ℕ). member r m) (row_put_other meets (k * 8) (or_row old x) room (i * 8) 8 (rw o (strides_apart 8 k i (λ z. eqb-false i k q (sym z)))))
          ∙ member_row meets (i * 8) 8 m h

  pub member_poured : (is meets : List ℕ) (i m : ℕ) → length meets ≡ 2048 → Low 256 is → m < 512
      → member_at (poured x is meets) (i * 8) m ≡ ((has i is && member x m) || member_at meets (i * 8) m)
  unfolding poured has
  member_poured [] meets i m l f h = refl
  member_poured (k ∷ is) meets i m l f h =
      member_poured is (put meets (k * 8) (or_row (row meets (k * 8) 8) x)) i m (length_poured (k ∷ []) meets l (f.0, tt)) f.1 h
      ∙ ap (λ (t : Bool). (has i is && member x m) || t) (pour_one meets k i m l f.0 h)
      ∙ turn3 (eqb i k) (has i is) (member x m) (member_at meets (i * 8) m)
      ∙ ap (λ (t : Bool). (t && member x m) || member_at meets (i * 8) m) (sym (or_is (eqb i k) (has i is)))
    where
      turn3 : (q s t u : Bool) → ((s && t) || ((q && t) || u)) ≡ (((q || s) && t) || u)
      turn3 true true true u = refl
      turn3 true true false u = refl
      turn3 true false t u = refl
      turn3 false true true u = refl
      turn3 false true false u = refl
      turn3 false false t u = refl
