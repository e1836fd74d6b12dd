-- Tests over lists, and lists as sets and as relations, as equations. Each list is built by mapping or selecting, or is given element by element, so what
-- holds of some element of it follows by recursion on the list.
use mathlib.Core.Path.{◌≡◌, refl, sym, ap, ◌∙◌, subst}
use mathlib.Core.Logic.{◌⊎◌, inl, inr}
use mathlib.Core.Bool.{Bool, true, false, not, ◌&&◌, ◌||◌, true≢false}
use mathlib.Core.List.Memᴰ
use mathlib.Core.List.{List, [], ◌∷◌, map, Memᴰ}
use Prim.Native.Nat.{ℕ, zero, suc, ◌<◌}
use native.Mathlib.Omega.{arith}
use lib.Dec.{eqb}
use lib.ListN.{length, get_or}
use borrow.Author.Tests.{eqb-true, eqb-false, eq-eqb, ne_eqb, not-true}
use Rattle.rows.proofs.Tests.{either}
use Rattle.fields.specs.Pick.{pick, ◌or◌, has}
use Rattle.units.specs.Sets.{select, any}
use Rattle.liveness.proofs.SetLaws.{any_cons, any_nil, any_map, has_any}
use Rattle.graph.specs.Graph.{has_pair}

-- ---- tests

pub or_left : (a b : Bool) → a ≡ true → (a || b) ≡ true
or_left a b e = ap (λ (x : Bool). x || b) e

pub or_right : (a b : Bool) → b ≡ true → (a || b) ≡ true
or_right true b e = refl
or_right false b e = e

pub and_in : (a b : Bool) → a ≡ true → b ≡ true → (a && b) ≡ true
and_in a b e f = ap (λ (x : Bool). x && b) e ∙ f

pub not_eqb : (m n : ℕ) → ¬ (m ≡ n) → not (eqb m n) ≡ true
not_eqb m n d = ap not (ne_eqb m n d)

pub not_eqb_out : (m n : ℕ) → not (eqb m n) ≡ true → ¬ (m ≡ n)
not_eqb_out m n h = eqb-false m n (not-true (eqb m n) h)

-- ---- some element

module _ {A : Type 0} where
  -- where it holds, some element passes, and the other way round
  pub any_out : (t : A → Bool) (l : List A) → any t l ≡ true → (a : A) × Memᴰ a l × (t a ≡ true)
  any_out t [] h = absurd (true≢false (sym h ∙ any_nil t))
  any_out t (a ∷ l) h = go (either (t a) (any t l) (sym (any_cons t a l) ∙ h)) (any_out t l)
    where
      go : (t a ≡ true) ⊎ (any t l ≡ true) → (any t l ≡ true → (b : A) × Memᴰ b l × (t b ≡ true)) → (b : A) × Memᴰ b (a ∷ l) × (t b ≡ true)
      go (inl p) ih = (a, Memᴰ.head refl, p)
      go (inr p) ih = let r = ih p in (r.0, Memᴰ.tail r.1, r.2)

  pub any_in_lem : (t : A → Bool) {a : A} {l : List A} → Memᴰ a l → t a ≡ true → any t l ≡ true
  any_in_lem t (Memᴰ.head {x = x} {xs = l} e) h = any_cons t x l ∙ or_left (t x) (any t l) (ap t (sym e) ∙ h)
  any_in_lem t (Memᴰ.tail {x = x} {xs = l} m) h = any_cons t x l ∙ or_right (t x) (any t l) (any_in_lem t m h)

  pub mem_select : (t : A → Bool) (l : List A) {a : A} → Memᴰ a (select t l) → Memᴰ a l × (t a ≡ true)
  unfolding select pick
  mem_select t [] m = absurd (Memᴰ.not-nil m)
  mem_select t (x ∷ l) {a} m = go (t x) refl m (mem_select t l)
    where
      go : (b : Bool) → t x ≡ b → Memᴰ a (pick b (x ∷ select t l) (select t l)) → (Memᴰ a (select t l) → Memᴰ a l × (t a ≡ true))
          → Memᴰ a (x ∷ l) × (t a ≡ true)
      go true e n ih = here (Memᴰ.cases_cons n)
        where
          here : (a ≡ x) ⊎ Memᴰ a (select t l) → Memᴰ a (x ∷ l) × (t a ≡ true)
          here (inl q) = (Memᴰ.head q, ap t q ∙ e)
          here (inr n) = let r = ih n in (Memᴰ.tail r.0, r.1)
      go false e n ih = let r = ih n in (Memᴰ.tail r.0, r.1)

  pub select_mem : (t : A → Bool) {a : A} {l : List A} → Memᴰ a l → t a ≡ true → Memᴰ a (select t l)
  unfolding select pick
  select_mem t {a} (Memᴰ.head {x = x} {xs = l} e) h = go (t x) (ap t (sym e) ∙ h)
    where
      go : (b : Bool) → b ≡ true → Memᴰ a (pick b (x ∷ select t l) (select t l))
      go true q = Memᴰ.head e
      go false q = absurd (true≢false (sym q))
  select_mem t {a} (Memᴰ.tail {x = x} {xs = l} m) h = go (t x) (select_mem t m h)
    where
      go : (b : Bool) → Memᴰ a (select t l) → Memᴰ a (pick b (x ∷ select t l) (select t l))
      go true n = Memᴰ.tail n
      go false n = n

-- ---- a set of numbers

pub has_mem : (x : ℕ) (l : List ℕ) → has x l ≡ true → Memᴰ x l
has_mem x l h = let r = any_out (eqb x) l (sym (has_any x l) ∙ h) in subst (λ (y : ℕ). Memᴰ y l) (sym (eqb-true x r.0 r.2)) r.1

pub mem_has : (x : ℕ) (l : List ℕ) → Memᴰ x l → has x l ≡ true
mem_has x l m = has_any x l ∙ any_in_lem (eqb x) m (eq-eqb x x refl)

module _ (f : ℕ → ℕ) where
  pub has_map_out : (i : ℕ) (l : List ℕ) → has i (map f l) ≡ true → (n : ℕ) × (has n l ≡ true) × (f n ≡ i)
  has_map_out i l h =
      let r = any_out (λ (n : ℕ). eqb i (f n)) l (sym (any_map (eqb i) f l) ∙ sym (has_any i (map f l)) ∙ h) in
      (r.0, mem_has r.0 l r.1, sym (eqb-true i (f r.0) r.2))

  pub has_map_in : (i n : ℕ) (l : List ℕ) → has n l ≡ true → f n ≡ i → has i (map f l) ≡ true
  has_map_in i n l h e =
      has_any i (map f l) ∙ any_map (eqb i) f l ∙ any_in_lem (λ (m : ℕ). eqb i (f m)) (has_mem n l h) (eq-eqb i (f n) (sym e))

-- A number of a list stands at some place of it.
pub has_at : (x : ℕ) (l : List ℕ) → has x l ≡ true → (n : ℕ) × (n < length l) × (get_or l n 0 ≡ x)
unfolding has pick
has_at x [] h = absurd (true≢false (sym h))
has_at x (y ∷ l) h = go (eqb x y) refl h (has_at x l)
  where
    go : (b : Bool) → eqb x y ≡ b → (b or has x l) ≡ true → (has x l ≡ true → (n : ℕ) × (n < length l) × (get_or l n 0 ≡ x))
        → (n : ℕ) × (n < length (y ∷ l)) × (get_or (y ∷ l) n 0 ≡ x)
    go true e q ih = (zero, omega arith, sym (eqb-true x y e))
    go false e q ih = let r = ih q in (suc r.0, omega (arith, r.1), r.2)

-- ---- a relation

pub pair_map : {A : Type 0} (f : A → ℕ × ℕ) (l : List A) (i j : ℕ)
    → has_pair (map f l) i j ≡ any (λ (a : A). eqb (f a).0 i && eqb (f a).1 j) l
unfolding has_pair
pair_map f l i j = any_map (λ (p : ℕ × ℕ). eqb p.0 i && eqb p.1 j) f l

pub pair_nil : (i j : ℕ) → has_pair [] i j ≡ false
unfolding has_pair any
pair_nil i j = refl

pub pair_cons : (p : ℕ × ℕ) (ps : List (ℕ × ℕ)) (i j : ℕ) → has_pair (p ∷ ps) i j ≡ ((eqb p.0 i && eqb p.1 j) || has_pair ps i j)
unfolding has_pair
pair_cons p ps i j = any_cons (λ (q : ℕ × ℕ). eqb q.0 i && eqb q.1 j) p ps

pub pair_pick : (b : Bool) (ps : List (ℕ × ℕ)) (i j : ℕ) → has_pair (pick b ps []) i j ≡ (b && has_pair ps i j)
unfolding pick
pair_pick true ps i j = refl
pair_pick false ps i j = pair_nil i j
