-- Laws of lists as sets. Every test over a list is `any`, whose equations for joined, mapped, selected and flattened lists follow by going through the list;
-- membership is such a test, so what each operation on sets holds follows from those equations.
use mathlib.Core.Path.{◌≡◌, refl, sym, ap, ap₂, ◌∙◌, subst}
use mathlib.Core.Logic.{◌⊎◌, inl, inr}
use mathlib.Core.Bool.{Bool, true, false, not, ◌&&◌, ◌||◌, or_assoc, and_comm, and-false, and-or_distrib_left, or_self_left}
use mathlib.Core.List.{List, [], ◌∷◌, ◌++◌, map, Memᴰ}
use Prim.Native.Nat.{ℕ, zero, suc, ◌<◌}
use native.Mathlib.Omega.{arith}
use native.Mathlib.Nat.{not-suc-le-zero}
use lib.ListN.{length, get_or}
use lib.Dec.{T, eqb, ltb, eqb→eq, eqb_refl}
use Rattle.rows.proofs.Tests.{antisym, or_cases, or_l, or_r, and_l, and_r, and_in}
use Rattle.fields.specs.Pick.{pick, ◌or◌, has}
use Rattle.fields.proofs.Front.{or_is}
use Rattle.units.specs.Sets.{select, any, each, less}
use Rattle.liveness.specs.Sets.{insert, join, every, within, same_set}

-- Tests --------------------------------------------------------------------------------------------------------------------------------

pub eqb_sym : (m n : ℕ) → eqb m n ≡ eqb n m
eqb_sym m n = antisym (eqb m n) (eqb n m) (λ h. rw (eqb→eq m n h) (eqb_refl n)) (λ h. rw (eqb→eq n m h) (eqb_refl m))

pub eqb_yes : (m n : ℕ) → m ≡ n → T (eqb m n)
eqb_yes m n e = rw e (eqb_refl n)

-- The shut choice between no and yes is the usual one.
pub not_is : (b : Bool) → pick b false true ≡ not b
unfolding pick
not_is true = refl
not_is false = refl

-- `any` ---------------------------------------------------------------------------------------------------------------------------------

module _ {A : Type 0} where
  pub any_cons : (t : A → Bool) (a : A) (l : List A) → any t (a ∷ l) ≡ (t a || any t l)
  unfolding any
  any_cons t a l = or_is (t a) (any t l)

  pub any_nil : (t : A → Bool) → any t [] ≡ false
  unfolding any
  any_nil t = refl

  pub any_append : (t : A → Bool) (l m : List A) → any t (l ++ m) ≡ (any t l || any t m)
  any_append t [] m = rw (any_nil t)
  any_append t (a ∷ l) m = rw (any_cons t a (l ++ m), any_cons t a l, any_append t l m) (sym (or_assoc (t a) (any t l) (any t m)))

  pub any_select : (t q : A → Bool) (l : List A) → any t (select q l) ≡ any (λ a. q a && t a) l
  unfolding select pick
  any_select t q [] = rw (any_nil t, any_nil (λ (a : A). q a && t a))
  any_select t q (a ∷ l) = go (q a) (any_select t q l) ∙ sym (any_cons (λ a. q a && t a) a l)
    where
      go : (b : Bool) → any t (select q l) ≡ any (λ a. q a && t a) l → any t (pick b (a ∷ select q l) (select q l)) ≡ ((b && t a) || any (λ a. q a && t a) l)
      go true e = any_cons t a (select q l) ∙ ap (λ x. t a || x) e
      go false e = e

  -- Where it holds, some element passes, and the other way round.
  pub any_out : (t : A → Bool) (l : List A) → T (any t l) → (a : A) × Memᴰ a l × T (t a)
  any_out t [] h = absurd (subst T (any_nil t) h)
  any_out t (a ∷ l) h = go (or_cases (t a) (any t l) (subst T (any_cons t a l) h)) (any_out t l)
    where
      go : T (t a) ⊎ T (any t l) → (T (any t l) → (b : A) × Memᴰ b l × T (t b)) → (b : A) × Memᴰ b (a ∷ l) × T (t b)
      go (inl p) ih = (a, Memᴰ.head refl, p)
      go (inr p) ih = let r = ih p in (r.0, Memᴰ.tail r.1, r.2)

  pub any_in_lem : (t : A → Bool) {a : A} {l : List A} → Memᴰ a l → T (t a) → T (any t l)
  any_in_lem t {a = a} (Memᴰ.head {x = x} {xs = l} e) h = subst T (sym (any_cons t x l)) (or_l (t x) (any t l) (subst (λ b. T (t b)) e h))
  any_in_lem t (Memᴰ.tail {x = x} {xs = l} m) h = subst T (sym (any_cons t x l)) (or_r (t x) (any t l) (any_in_lem t m h))

  pub any_same : (t q : A → Bool) (l : List A) → ((a : A) → t a ≡ q a) → any t l ≡ any q l
  any_same t q [] e = any_nil t ∙ sym (any_nil q)
  any_same t q (a ∷ l) e = any_cons t a l ∙ (ap₂ (λ x y. x || y) (e a) (any_same t q l e) ∙ sym (any_cons q a l))

  pub any_and : (b : Bool) (t : A → Bool) (l : List A) → any (λ a. b && t a) l ≡ (b && any t l)
  any_and b t [] = any_nil (λ (a : A). b && t a) ∙ (sym (and-false b) ∙ ap (λ x. b && x) (sym (any_nil t)))
  any_and b t (a ∷ l) = any_cons (λ a. b && t a) a l ∙ (ap (λ x. (b && t a) || x) (any_and b t l) ∙ (sym (and-or_distrib_left b (t a) (any t l)) ∙ ap (λ x. b && x) (sym (any_cons t a l))))

  pub every_out : (t : A → Bool) (l : List A) → T (every t l) → {a : A} → Memᴰ a l → T (t a)
  unfolding every
  every_out t (x ∷ l) h {a = a} (Memᴰ.head e) = subst (λ b. T (t b)) (sym e) (and_l (t x) (every t l) h)
  every_out t (x ∷ l) h (Memᴰ.tail m) = every_out t l (and_r (t x) (every t l) h) m
  every_out t [] h {a = a} x'' = elim x'' [ ]

  pub every_in : (t : A → Bool) (l : List A) → ((a : A) → Memᴰ a l → T (t a)) → T (every t l)
  unfolding every
  every_in t [] h = tt
  every_in t (x ∷ l) h = and_in (t x) (every t l) (h x (Memᴰ.head refl)) (every_in t l (λ a m. h a (Memᴰ.tail m)))

module _ {A B : Type 0} where
  pub any_map : (t : B → Bool) (f : A → B) (l : List A) → any t (map f l) ≡ any (λ a. t (f a)) l
  any_map t f [] = any_nil t ∙ sym (any_nil (λ (a : A). t (f a)))
  any_map t f (a ∷ l) = any_cons t (f a) (map f l) ∙ (ap (λ x. t (f a) || x) (any_map t f l) ∙ sym (any_cons (λ a. t (f a)) a l))

  pub any_each : (t : B → Bool) (f : A → List B) (l : List A) → any t (each f l) ≡ any (λ a. any t (f a)) l
  unfolding each
  any_each t f [] = any_nil t ∙ sym (any_nil (λ (a : A). any t (f a)))
  any_each t f (a ∷ l) = any_append t (f a) (each f l) ∙ (ap (λ x. any t (f a) || x) (any_each t f l) ∙ sym (any_cons (λ a. any t (f a)) a l))

  pub mem_map : (f : A → B) (l : List A) {b : B} → Memᴰ b (map f l) → (a : A) × Memᴰ a l × (b ≡ f a)
  mem_map f (a ∷ l) (Memᴰ.head e) = (a, Memᴰ.head refl, e)
  mem_map f (a ∷ l) (Memᴰ.tail m) = let r = mem_map f l m in (r.0, Memᴰ.tail r.1, r.2)
  mem_map f [] {b = b} x' = elim x' [ ]

pub mem_at : {A : Type 0} (l : List A) (k : ℕ) (d : A) → k < length l → Memᴰ (get_or l k d) l
mem_at [] k d h = absurd (not-suc-le-zero h)
mem_at (a ∷ l) zero d h = Memᴰ.head refl
mem_at (a ∷ l) (suc k) d h = Memᴰ.tail (mem_at l k d (omega arith))

-- Sets of numbers ------------------------------------------------------------------------------------------------------------------------

pub has_any : (u : ℕ) (l : List ℕ) → has u l ≡ any (λ a. eqb u a) l
unfolding has any
has_any u [] = refl
has_any u (a ∷ l) = ap (λ x. eqb u a or x) (has_any u l)

pub has_nil : (u : ℕ) → has u [] ≡ false
unfolding has
has_nil u = refl

pub has_cons : (u a : ℕ) (l : List ℕ) → has u (a ∷ l) ≡ (eqb u a || has u l)
unfolding has
has_cons u a l = or_is (eqb u a) (has u l)

pub has_mem : (u : ℕ) (l : List ℕ) → T (has u l) → Memᴰ u l
has_mem u l h = let r = any_out (λ a. eqb u a) l (subst T (has_any u l) h) in subst (λ a. Memᴰ a l) (sym (eqb→eq u r.0 r.2)) r.1

pub mem_has : (u : ℕ) (l : List ℕ) → Memᴰ u l → T (has u l)
mem_has u l m = subst T (sym (has_any u l)) (any_in_lem (λ a. eqb u a) m (eqb_refl u))

pub has_append : (u : ℕ) (l m : List ℕ) → has u (l ++ m) ≡ (has u l || has u m)
has_append u l m = rw (has_any u (l ++ m), has_any u l, has_any u m) (any_append (λ a. eqb u a) l m)

pub has_select : (u : ℕ) (t : ℕ → Bool) (l : List ℕ) → has u (select t l) ≡ (has u l && t u)
has_select u t l = rw (has_any u (select t l), has_any u l)
    (any_select (λ a. eqb u a) t l ∙ (any_same (λ a. t a && eqb u a) (λ a. t u && eqb u a) l same ∙ (any_and (t u) (λ a. eqb u a) l ∙ and_comm (t u) (any (λ a. eqb u a) l))))
  where
    same : (a : ℕ) → (t a && eqb u a) ≡ (t u && eqb u a)
    same a = go (eqb u a) (eqb→eq u a)
      where
        go : (b : Bool) → (T b → u ≡ a) → (t a && b) ≡ (t u && b)
        go true e = ap (λ x. t x && true) (sym (e tt))
        go false e = and-false (t a) ∙ sym (and-false (t u))

pub has_less : (u : ℕ) (l gone : List ℕ) → has u (less l gone) ≡ (has u l && not (has u gone))
unfolding less
has_less u l gone = has_select u (λ v. pick (has v gone) false true) l ∙ ap (λ x. has u l && x) (not_is (has u gone))

swap_or : (a b c : Bool) → (a || (b || c)) ≡ (b || (a || c))
swap_or true true c = refl
swap_or true false c = refl
swap_or false b c = refl

pub has_insert : (v u : ℕ) (l : List ℕ) → has v (insert u l) ≡ (eqb v u || has v l)
unfolding insert pick
has_insert v u [] = has_cons v u []
has_insert v u (a ∷ l) = go (ltb u a) (eqb u a) (eqb→eq u a) (has_insert v u l) ∙ ap (λ x. eqb v u || x) (sym (has_cons v a l))
  where
    go : (b c : Bool) → (T c → u ≡ a) → has v (insert u l) ≡ (eqb v u || has v l)
        → has v (pick b (u ∷ a ∷ l) (a ∷ pick c l (insert u l))) ≡ (eqb v u || (eqb v a || has v l))
    go true c e ih = has_cons v u (a ∷ l) ∙ ap (λ x. eqb v u || x) (has_cons v a l)
    go false true e ih = has_cons v a l ∙ (ap (λ x. eqb v x || has v l) (sym (e tt)) ∙ (sym (or_self_left (eqb v u) (has v l)) ∙ ap (λ x. eqb v u || (eqb v x || has v l)) (e tt)))
    go false false e ih = has_cons v a (insert u l) ∙ (ap (λ x. eqb v a || x) ih ∙ swap_or (eqb v a) (eqb v u) (has v l))

pub has_join : (u : ℕ) (l m : List ℕ) → has u (join l m) ≡ (has u l || has u m)
unfolding join
has_join u [] m = rw (has_nil u)
has_join u (a ∷ l) m = has_insert u a (join l m) ∙ (ap (λ x. eqb u a || x) (has_join u l m) ∙ (sym (or_assoc (eqb u a) (has u l) (has u m)) ∙ ap (λ x. x || has u m) (sym (has_cons u a l))))

-- The test for equal sets is right.
pub same_set_out : (l m : List ℕ) → T (same_set l m) → (u : ℕ) → has u l ≡ has u m
unfolding same_set within
same_set_out l m h u =
    antisym (has u l) (has u m) (λ p. every_out (λ v. has v m) l (and_l (every (λ v. has v m) l) (every (λ v. has v l) m) h) (has_mem u l p))
    (λ p. every_out (λ v. has v l) m (and_r (every (λ v. has v m) l) (every (λ v. has v l) m) h) (has_mem u m p))

pub same_set_in : (l m : List ℕ) → ((u : ℕ) → has u l ≡ has u m) → T (same_set l m)
unfolding same_set within
same_set_in l m e =
    and_in (every (λ v. has v m) l) (every (λ v. has v l) m) (every_in (λ v. has v m) l (λ u p. subst T (e u) (mem_has u l p)))
    (every_in (λ v. has v l) m (λ u p. subst T (sym (e u)) (mem_has u m p)))
