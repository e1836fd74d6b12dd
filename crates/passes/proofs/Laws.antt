-- The theorems on liveness. `settles_within` (a): the pass count is at most the number of blocks plus 2 (`settled_unique`: there is only one).
-- `live_in_iff` (b): in the settled state a unit is live at a block's entry exactly where some path reads it before writing it
-- (`live_out_iff`, `live_inside`: the same at its end and at any place inside). `changes_early`, `visit_shows`, `visit_same`: for the code's loops. Assumes nothing.
use mathlib.Core.Path.{◌≡◌, refl, sym, ap, ◌∙◌, subst, fun_ext}
use mathlib.Core.Logic.{◌↔◌, ◌⊎◌, inl, inr}
use mathlib.Core.Bool.{Bool, true, false, not, ◌&&◌, ◌||◌}
use mathlib.Core.List.{List, [], ◌∷◌, Memᴰ}
use Prim.Native.Nat.{ℕ, zero, suc, ◌+◌, ◌≤◌, ◌<◌}
use native.Mathlib.Omega.{arith}
use native.Mathlib.Nat.{not-suc-le-zero}
use native.Mathlib.Decide.{ℕ_discrete, dec_lt}
use lib.Dec.{T, ltb, eqb, ltb→lt, lt→ltb, eqb→eq, eqb_refl}
use lib.ListN.{length}
use Rattle.rows.proofs.Tests.{or_cases, or_l, or_r, and_l, and_r, and_in, antisym}
use Rattle.fields.specs.Pick.{pick}
use Rattle.passes.specs.Live.{Row, Step, Block, State, empty, block, put, union, backwards, visit, sweep, pass, after, Settled, Reads, reads_here, goes_on, jumps, ReadsFrom, ReadsAfter}

-- What stands at j after `put`: the row that was put, or what stood there.
pub put_cases : (P : Row → Type 0) (k : ℕ) (r : Row) (x : ℕ → Row) (j : ℕ) → (j ≡ k → P r) → (¬ (j ≡ k) → P (x j)) → P (put k r x j)
unfolding put pick
put_cases P k r x j p q = go (eqb j k) refl
  where
    go : (b : Bool) → eqb j k ≡ b → P (pick b r (x j))
    go true e = p (eqb→eq j k (subst T (sym e) tt))
    go false e = q (λ h. subst T e (subst (λ i. T (eqb j i)) h (eqb_refl j)))

pub put_same : (k : ℕ) (r : Row) (x : ℕ → Row) → put k r x k ≡ r
put_same k r x = put_cases (λ z. z ≡ r) k r x k (λ e. refl) (λ n. absurd (n refl))

pub put_other : (k : ℕ) (r : Row) (x : ℕ → Row) (j : ℕ) → ¬ (j ≡ k) → put k r x j ≡ x j
put_other k r x j n = put_cases (λ z. z ≡ x j) k r x j (λ e. absurd (n e)) (λ _. refl)

-- Growth at one unit -----------------------------------------------------------------------------------------------------------------

module _ (u : ℕ) where
  -- x has unit u wherever... y has it too
  abbrev Below : (ℕ → Row) → (ℕ → Row) → Type 0
  Below x y = (j : ℕ) → T (x j u) → T (y j u)

  union_mono : (n : ℕ) (x y : ℕ → Row) → Below x y → (ts : List ℕ) → T (union n x ts u) → T (union n y ts u)
  unfolding union
  union_mono n x y b (t ∷ ts) h = go (or_cases (ltb t n && x t u) (union n x ts u) h) (union_mono n x y b ts)
    where
      go : T (ltb t n && x t u) ⊎ T (union n x ts u) → (T (union n x ts u) → T (union n y ts u)) → T ((ltb t n && y t u) || union n y ts u)
      go (inl p) ih = or_l (ltb t n && y t u) (union n y ts u) (and_in (ltb t n) (y t u) (and_l (ltb t n) (x t u) p) (b t (and_r (ltb t n) (x t u) p)))
      go (inr p) ih = or_r (ltb t n && y t u) (union n y ts u) (ih p)
  union_mono n x y b [] h = elim h [ ]

  backwards_mono : (ss : List Step) (o o' : Row) → (T (o u) → T (o' u)) → T (backwards ss o u) → T (backwards ss o' u)
  unfolding backwards
  backwards_mono [] o o' b h = b h
  backwards_mono (s ∷ ss) o o' b h = go (or_cases (a && w) (s.reads u) h) (backwards_mono ss o o' b)
    where
      a : Bool
      a = backwards ss o u

      a' : Bool
      a' = backwards ss o' u

      w : Bool
      w = not (s.writes u)

      go : T (a && w) ⊎ T (s.reads u) → (T a → T a') → T ((a' && w) || s.reads u)
      go (inl p) ih = or_l (a' && w) (s.reads u) (and_in a' w (ih (and_l a w p)) (and_r a w p))
      go (inr p) ih = or_r (a' && w) (s.reads u) p

  put_mono : (k : ℕ) (r r' : Row) (x y : ℕ → Row) → (T (r u) → T (r' u)) → (j : ℕ) → (¬ (j ≡ k) → T (x j u) → T (y j u)) → T (put k r x j u) → T (put k r' y j u)
  unfolding put pick
  put_mono k r r' x y b j c = go (eqb j k) refl
    where
      go : (e : Bool) → eqb j k ≡ e → T (pick e r (x j) u) → T (pick e r' (y j) u)
      go true e = b
      go false e = c (λ h. subst T e (subst (λ i. T (eqb j i)) h (eqb_refl j)))

  -- s is below t at unit u: live-in everywhere, live-out from block n on
  abbrev BelowFrom : ℕ → State → State → Type 0
  BelowFrom n s t = Below s.ins t.ins × ((j : ℕ) → n ≤ j → T (s.outs j u) → T (t.outs j u))

  visit_mono : (f : List Block) (k : ℕ) (s t : State) → BelowFrom (suc k) s t → BelowFrom k (visit f k s) (visit f k t)
  unfolding visit
  visit_mono f k s t b = (λ j. put_mono k _ _ s.ins t.ins (backwards_mono (block f k).steps _ _ joins) j (λ _. b.0 j), λ j l. put_mono k _ _ s.outs t.outs joins j (λ n. b.1 j (omega arith)))
    where
      joins : T (union (length f) s.ins (block f k).targets u) → T (union (length f) t.ins (block f k).targets u)
      joins = union_mono (length f) s.ins t.ins b.0 (block f k).targets

  sweep_mono : (f : List Block) (n : ℕ) (s t : State) → BelowFrom n s t → BelowFrom zero (sweep f n s) (sweep f n t)
  unfolding sweep
  sweep_mono f zero s t b = b
  sweep_mono f (suc n) s t b = sweep_mono f n (visit f n s) (visit f n t) (visit_mono f n s t b)

-- Blocks that a sweep does not visit stay as they are --------------------------------------------------------------------------------

sweep_ins : (f : List Block) (n : ℕ) (s : State) (j : ℕ) → n ≤ j → (sweep f n s).ins j ≡ s.ins j
unfolding sweep visit
sweep_ins f zero s j l = refl
sweep_ins f (suc n) s j l = sweep_ins f n (visit f n s) j (omega arith) ∙ put_other n _ s.ins j (omega arith)

sweep_outs : (f : List Block) (n : ℕ) (s : State) (j : ℕ) → n ≤ j → (sweep f n s).outs j ≡ s.outs j
unfolding sweep visit
sweep_outs f zero s j l = refl
sweep_outs f (suc n) s j l = sweep_outs f n (visit f n s) j (omega arith) ∙ put_other n _ s.outs j (omega arith)

-- no block, nothing live
pub after_ins : (f : List Block) (n j : ℕ) → length f ≤ j → (after f n).ins j ≡ empty.ins j
unfolding after pass
after_ins f zero j l = refl
after_ins f (suc n) j l = sweep_ins f (length f) (after f n) j l ∙ after_ins f n j l

pub after_outs : (f : List Block) (n j : ℕ) → length f ≤ j → (after f n).outs j ≡ empty.outs j
unfolding after pass
after_outs f zero j l = refl
after_outs f (suc n) j l = sweep_outs f (length f) (after f n) j l ∙ after_outs f n j l

-- How many of the first n are true -----------------------------------------------------------------------------------------------------

abbrev one : Bool → ℕ
one true = 1
one false = 0

size : ℕ → (ℕ → Bool) → ℕ
size zero x = 0
size (suc n) x = one (x n) + size n x

one_le : (b : Bool) → one b ≤ 1
one_le true = omega arith
one_le false = omega arith

size_le : (n : ℕ) (x : ℕ → Bool) → size n x ≤ n
unfolding size
size_le zero x = omega arith
size_le (suc n) x = omega (arith, one_le (x n), size_le n x)

-- a false that becomes true counts one more
one_grows : (a b : Bool) → (T a → T b) → (a ≡ b) ⊎ (one a < one b)
one_grows true true h = inl refl
one_grows true false h = absurd (h tt)
one_grows false true h = inr (omega arith)
one_grows false false h = inl refl

-- Where x is below y, the two agree on the first n, or y has more there.
module _ (x y : ℕ → Bool) (b : (j : ℕ) → T (x j) → T (y j)) where
  abbrev Grows : ℕ → Type 0
  Grows n = (((j : ℕ) → j < n → x j ≡ y j) × (size n x ≡ size n y)) ⊎ (size n x < size n y)

  grows_step : (n : ℕ) → (x n ≡ y n) ⊎ (one (x n) < one (y n)) → Grows n → Grows (suc n)
  unfolding size
  grows_step n (inl e) (inl h) = inl (λ j l. split j (ℕ_discrete j n) l, omega (arith, ap one e, h.1))
    where
      split : (j : ℕ) → Dec (j ≡ n) → j < suc n → x j ≡ y j
      split j (yes p) l = subst (λ i. x i ≡ y i) (sym p) e
      split j (no p) l = h.0 j (omega arith)
  grows_step n (inl e) (inr h) = inr (omega (arith, ap one e))
  grows_step n (inr e) (inl h) = inr (omega (arith, h.1))
  grows_step n (inr e) (inr h) = inr (omega arith)

  grows : (n : ℕ) → Grows n
  unfolding size
  grows zero = inl (λ j l. absurd (not-suc-le-zero l), refl)
  grows (suc n) = grows_step n (one_grows (x n) (y n) (b n)) (grows n)

-- (a) The passes settle ------------------------------------------------------------------------------------------------------------------

module _ (f : List Block) (u : ℕ) where
  -- each pass adds
  after_mono : (n : ℕ) → BelowFrom u zero (after f n) (after f (suc n))
  unfolding after pass
  after_mono zero = (λ j h. absurd h, λ j l h. absurd h)
  after_mono (suc n) = sweep_mono u f (length f) (after f n) (after f (suc n)) ((after_mono n).0, λ j l. (after_mono n).1 j (omega arith))

  -- pass suc n changes no live-in at u
  abbrev Still : ℕ → Type 0
  Still n = (j : ℕ) → (after f n).ins j u ≡ (after f (suc n)).ins j u

  live_at : ℕ → ℕ → Bool
  live_at n j = (after f n).ins j u

  -- Where two states agree in live-in at u, so do the states after a pass, live-out included.
  agree : (n m : ℕ) → ((j : ℕ) → (after f n).ins j u ≡ (after f m).ins j u) → BelowFrom u zero (after f (suc n)) (after f (suc m))
  unfolding after pass
  agree n m e = sweep_mono u f (length f) (after f n) (after f m) (λ j h. subst T (e j) h, λ j l h. absurd (subst T (ap (λ (r : Row). r u) (after_outs f n j l)) h))

  still_next : (n : ℕ) → Still n → Still (suc n)
  still_next n e j = antisym _ _ ((agree n (suc n) e).0 j) ((agree (suc n) n (λ i. sym (e i))).0 j)

  still_outs : (n : ℕ) → Still n → (j : ℕ) → (after f (suc n)).outs j u ≡ (after f (suc (suc n))).outs j u
  still_outs n e j = antisym _ _ ((agree n (suc n) e).1 j (omega arith)) ((agree (suc n) n (λ i. sym (e i))).1 j (omega arith))

  -- what a pass does at u: nothing, or one more block is live
  turn : (n : ℕ) → Still n ⊎ (size (length f) (live_at n) < size (length f) (live_at (suc n)))
  unfolding live_at
  turn n = go (grows (live_at n) (live_at (suc n)) (after_mono n).0 (length f))
    where
      go : Grows (live_at n) (live_at (suc n)) (after_mono n).0 (length f) → Still n ⊎ (size (length f) (live_at n) < size (length f) (live_at (suc n)))
      go (inr h) = inr h
      go (inl h) = inl (λ j. split j (dec_lt j (length f)))
        where
          split : (j : ℕ) → Dec (j < length f) → (after f n).ins j u ≡ (after f (suc n)).ins j u
          split j (yes l) = h.0 j l
          split j (no l) = ap (λ (r : Row). r u) (after_ins f n j (omega arith) ∙ sym (after_ins f (suc n) j (omega arith)))

  -- so after n + 1 passes at least n + 1 blocks are live, or pass n + 1 changed no live-in
  counted : (n : ℕ) → Still n ⊎ (n < size (length f) (live_at (suc n)))
  counted zero = go (turn zero)
    where
      go : Still zero ⊎ (size (length f) (live_at zero) < size (length f) (live_at 1)) → Still zero ⊎ (zero < size (length f) (live_at 1))
      go (inl h) = inl h
      go (inr h) = inr (omega arith)
  counted (suc n) = go (counted n) (turn (suc n))
    where
      go : Still n ⊎ (n < size (length f) (live_at (suc n))) → Still (suc n) ⊎ (size (length f) (live_at (suc n)) < size (length f) (live_at (suc (suc n)))) → Still (suc n) ⊎ (suc n < size (length f) (live_at (suc (suc n))))
      go (inl h) _ = inl (still_next n h)
      go (inr h) (inl k) = inl k
      go (inr h) (inr k) = inr (omega arith)

  still_at_last : Still (length f)
  still_at_last = go (counted (length f))
    where
      go : Still (length f) ⊎ (length f < size (length f) (live_at (suc (length f)))) → Still (length f)
      go (inl h) = h
      go (inr h) = absurd (omega (arith, size_le (length f) (live_at (suc (length f)))))

pub state_ext : (s t : State) → ((j u : ℕ) → s.ins j u ≡ t.ins j u) → ((j u : ℕ) → s.outs j u ≡ t.outs j u) → s ≡ t
state_ext s t p q = λ i. record { ins = λ j u. p j u i; outs = λ j u. q j u i }

-- Pass number B + 2 changes nothing, in a function of B blocks.
pub settles : (f : List Block) → after f (suc (suc (length f))) ≡ after f (suc (length f))
settles f = state_ext _ _ (λ j u. sym (still_next f u (length f) (still_at_last f u) j)) (λ j u. sym (still_outs f u (length f) (still_at_last f u) j))

-- THEOREM (a): the count is at most B + 2.
pub settles_within : (f : List Block) (count : ℕ) (s : State) → Settled f count s → count ≤ length f + 2
settles_within f count s r = go (dec_lt (suc (length f)) r.changed)
  where
    go : Dec (suc (length f) < r.changed) → count ≤ length f + 2
    go (yes l) = absurd (r.first (suc (length f)) l (settles f))
    go (no l) = omega (arith, r.counts)

-- Two counts, and two final states, coincide.
pub settled_unique : (f : List Block) (c d : ℕ) (s t : State) → Settled f c s → Settled f d t → (c ≡ d) × (s ≡ t)
settled_unique f c d s t p q = go (dec_lt p.changed q.changed) (dec_lt q.changed p.changed)
  where
    go : Dec (p.changed < q.changed) → Dec (q.changed < p.changed) → (c ≡ d) × (s ≡ t)
    go (yes l) _ = absurd (q.first p.changed l p.last)
    go (no l) (yes m) = absurd (p.first q.changed m q.last)
    go (no l) (no m) = let e : p.changed ≡ q.changed = omega arith in (omega (arith, p.counts, q.counts), p.state ∙ (ap (after f) e ∙ sym q.state))

-- (b) Live is: some path reads it -------------------------------------------------------------------------------------------------------

module _ (f : List Block) (u : ℕ) where
  union_out : (n : ℕ) (x : ℕ → Row) (ts : List ℕ) → T (union n x ts u) → (t : ℕ) × Memᴰ t ts × (t < n) × T (x t u)
  unfolding union
  union_out n x (t ∷ ts) h = go (or_cases (ltb t n && x t u) (union n x ts u) h) (union_out n x ts)
    where
      go : T (ltb t n && x t u) ⊎ T (union n x ts u) → (T (union n x ts u) → (i : ℕ) × Memᴰ i ts × (i < n) × T (x i u)) → (i : ℕ) × Memᴰ i (t ∷ ts) × (i < n) × T (x i u)
      go (inl p) ih = (t, Memᴰ.head refl, ltb→lt t n (and_l (ltb t n) (x t u) p), and_r (ltb t n) (x t u) p)
      go (inr p) ih = let r = ih p in (r.0, Memᴰ.tail r.1, r.2, r.3)
  union_out n x [] h = elim h [ ]

  union_in : (n : ℕ) (x : ℕ → Row) {t : ℕ} {ts : List ℕ} → Memᴰ t ts → t < n → T (x t u) → T (union n x ts u)
  unfolding union
  union_in n x {t} (Memᴰ.head {x = i} {xs = ts} e) l h = or_l (ltb i n && x i u) (union n x ts u) (subst (λ j. T (ltb j n && x j u)) e (and_in (ltb t n) (x t u) (lt→ltb t n l) h))
  union_in n x (Memᴰ.tail {x = i} {xs = ts} m) l h = or_r (ltb i n && x i u) (union n x ts u) (union_in n x m l h)

  -- live, then a path: of one place, of a visit, of a sweep, of the passes
  backwards_sound : (ss : List Step) (ts : List ℕ) (o : Row) → (T (o u) → Reads f u [] ts) → T (backwards ss o u) → Reads f u ss ts
  unfolding backwards
  backwards_sound [] ts o k h = k h
  backwards_sound (s ∷ ss) ts o k h = go (or_cases (a && w) (s.reads u) h) (backwards_sound ss ts o k)
    where
      a : Bool
      a = backwards ss o u

      w : Bool
      w = not (s.writes u)

      go : T (a && w) ⊎ T (s.reads u) → (T a → Reads f u ss ts) → Reads f u (s ∷ ss) ts
      go (inl p) ih = goes_on (and_r a w p) (ih (and_l a w p))
      go (inr p) ih = reads_here p

  abbrev pub Sound : State → Type 0
  Sound s = ((k : ℕ) → T (s.ins k u) → ReadsFrom f u k) × ((k : ℕ) → T (s.outs k u) → ReadsAfter f u k)

  visit_sound : (k : ℕ) (s : State) → Sound s → Sound (visit f k s)
  unfolding visit
  visit_sound k s h = (λ j. put_cases (λ r. T (r u) → ReadsFrom f u j) k _ s.ins j (λ e. subst (λ i. T (backwards (block f k).steps o u) → ReadsFrom f u i) (sym e) (backwards_sound (block f k).steps (block f k).targets o joins)) (λ _. h.0 j), λ j. put_cases (λ r. T (r u) → ReadsAfter f u j) k o s.outs j (λ e. subst (λ i. T (o u) → ReadsAfter f u i) (sym e) joins) (λ _. h.1 j))
    where
      o : Row
      o = union (length f) s.ins (block f k).targets

      joins : T (o u) → ReadsAfter f u k
      joins p = let r = union_out (length f) s.ins (block f k).targets p in jumps r.1 r.2 (h.0 r.0 r.3)

  sweep_sound : (n : ℕ) (s : State) → Sound s → Sound (sweep f n s)
  unfolding sweep
  sweep_sound zero s h = h
  sweep_sound (suc n) s h = sweep_sound n (visit f n s) (visit_sound n s h)

  pub after_sound : (n : ℕ) → Sound (after f n)
  unfolding after pass
  after_sound zero = (λ k h. absurd h, λ k h. absurd h)
  after_sound (suc n) = sweep_sound (length f) (after f n) (after_sound n)

-- What a sweep leaves at a block that it visits: the two rules of document 01, over live-in sets of which each is the old or the new one.
pub record Visited (f : List Block) (old new : ℕ → Row) (outs : ℕ → Row) (j : ℕ) : Type 0 where
  pub seen : ℕ → Row
  pub old_or_new : (t : ℕ) → (seen t ≡ old t) ⊎ (seen t ≡ new t)
  pub out_rule : outs j ≡ union (length f) seen (block f j).targets
  pub in_rule : new j ≡ backwards (block f j).steps (union (length f) seen (block f j).targets)

sweep_visited : (f : List Block) (n : ℕ) (s : State) (j : ℕ) → j < n → Visited f s.ins (sweep f n s).ins (sweep f n s).outs j
unfolding sweep visit
sweep_visited f (suc n) s j l = go (ℕ_discrete j n) (sweep_visited f n (visit f n s) j)
  where
    o : Row
    o = union (length f) s.ins (block f n).targets

    new : ℕ → Row
    new = (sweep f n (visit f n s)).ins

    at_n : new n ≡ (visit f n s).ins n
    at_n = sweep_ins f n (visit f n s) n (omega arith)

    Goal : ℕ → Type 0
    Goal i = Visited f s.ins new (sweep f n (visit f n s)).outs i

    now : Goal n
    now = record { seen = s.ins; old_or_new = λ t. inl refl; out_rule = sweep_outs f n (visit f n s) n (omega arith) ∙ put_same n o s.outs; in_rule = at_n ∙ put_same n _ s.ins }

    go : Dec (j ≡ n) → (j < n → Visited f (visit f n s).ins new (sweep f n (visit f n s)).outs j) → Goal j
    go (yes e) ih = subst Goal (sym e) now
    go (no e) ih = record { seen = v.seen; old_or_new = λ t. older t (v.old_or_new t); out_rule = v.out_rule; in_rule = v.in_rule }
      where
        v : Visited f (visit f n s).ins new (sweep f n (visit f n s)).outs j
        v = ih (omega arith)

        older : (t : ℕ) → (v.seen t ≡ (visit f n s).ins t) ⊎ (v.seen t ≡ new t) → (v.seen t ≡ s.ins t) ⊎ (v.seen t ≡ new t)
        older t (inr p) = inr p
        older t (inl p) = which (ℕ_discrete t n)
          where
            which : Dec (t ≡ n) → (v.seen t ≡ s.ins t) ⊎ (v.seen t ≡ new t)
            which (yes e') = inr (p ∙ subst (λ i. (visit f n s).ins i ≡ new i) (sym e') (sym at_n))
            which (no e') = inl (p ∙ put_other n _ s.ins t e')
sweep_visited f zero s j l = elim l [ ]

-- A state that a pass leaves as it is meets both rules at every block.
module _ (f : List Block) (s : State) (still : pass f s ≡ s) where
  fixed : (k : ℕ) → k < length f → (s.outs k ≡ union (length f) s.ins (block f k).targets) × (s.ins k ≡ backwards (block f k).steps (s.outs k))
  unfolding pass
  fixed k l = (out, in_k)
    where
      v : Visited f s.ins (pass f s).ins (pass f s).outs k
      v = sweep_visited f (length f) s k l

      same_ins : (pass f s).ins ≡ s.ins
      same_ins = ap (λ (t : State). t.ins) still

      seen_is : v.seen ≡ s.ins
      seen_is = fun_ext (λ t. which t (v.old_or_new t))
        where
          which : (t : ℕ) → (v.seen t ≡ s.ins t) ⊎ (v.seen t ≡ (pass f s).ins t) → v.seen t ≡ s.ins t
          which t (inl p) = p
          which t (inr p) = p ∙ ap (λ (x : ℕ → Row). x t) same_ins

      out : s.outs k ≡ union (length f) s.ins (block f k).targets
      out = sym (ap (λ (t : State). t.outs k) still) ∙ (v.out_rule ∙ ap (λ (x : ℕ → Row). union (length f) x (block f k).targets) seen_is)

      in_k : s.ins k ≡ backwards (block f k).steps (s.outs k)
      in_k = sym (ap (λ (t : State). t.ins k) still) ∙ (v.in_rule ∙ ap (backwards (block f k).steps) (ap (λ (x : ℕ → Row). union (length f) x (block f k).targets) seen_is ∙ sym out))

  -- a path, then live
  complete : (u : ℕ) {ss : List Step} {ts : List ℕ} → Reads f u ss ts → T (backwards ss (union (length f) s.ins ts) u)
  unfolding backwards
  complete u {ts = ts} (reads_here {s = p} {ss = ss} h) = or_r (backwards ss (union (length f) s.ins ts) u && not (p.writes u)) (p.reads u) h
  complete u {ts = ts} (goes_on {s = p} {ss = ss} w r) = or_l (backwards ss (union (length f) s.ins ts) u && not (p.writes u)) (p.reads u) (and_in (backwards ss (union (length f) s.ins ts) u) (not (p.writes u)) (complete u r) w)
  complete u (jumps {t = t} m l r) = union_in f u (length f) s.ins m l (subst T (sym (ap (λ (x : Row). x u) ((fixed t l).1 ∙ ap (backwards (block f t).steps) (fixed t l).0))) (complete u r))

-- THEOREM (b): in the settled state a unit is live at a place exactly where some path from there reads it before writing it. A place of
-- block k: the rest ss of its steps. At ss = [] that is live-out, and at all the steps live-in.
module _ (f : List Block) (count : ℕ) (s : State) (r : Settled f count s) where
  settled_still : pass f s ≡ s
  unfolding after
  settled_still = ap (pass f) r.state ∙ (r.last ∙ sym r.state)

  pub live_inside : (u k : ℕ) → k < length f → (ss : List Step) → T (backwards ss (s.outs k) u) ↔ Reads f u ss (block f k).targets
  live_inside u k l ss = (λ h. backwards_sound f u ss (block f k).targets (s.outs k) ((subst (Sound f u) (sym r.state) (after_sound f u r.changed)).1 k) h, λ p. rw (fixed f s settled_still k l).0 (complete f s settled_still u p))

  pub live_out_iff : (u k : ℕ) → k < length f → T (s.outs k u) ↔ ReadsAfter f u k
  unfolding backwards
  live_out_iff u k l = live_inside u k l []

  pub live_in_iff : (u k : ℕ) → k < length f → T (s.ins k u) ↔ ReadsFrom f u k
  live_in_iff u k l = rw (fixed f s settled_still k l).1 (live_inside u k l (block f k).steps)

-- For the code's loops -------------------------------------------------------------------------------------------------------------------

-- From pass B + 2 on nothing changes.
pub stays : (f : List Block) (n : ℕ) → length f < n → after f (suc n) ≡ after f n
unfolding after
stays f (suc n) l = go (ℕ_discrete n (length f)) (stays f n)
  where
    go : Dec (n ≡ length f) → (length f < n → after f (suc n) ≡ after f n) → after f (suc (suc n)) ≡ after f (suc n)
    go (yes e) _ = subst (λ i. after f (suc (suc i)) ≡ after f (suc i)) (sym e) (settles f)
    go (no e) ih = ap (pass f) (ih (omega arith))
stays f zero l = elim l [ ]

-- The measure of the loop of passes: only the first B + 1 passes can change something.
pub changes_early : (f : List Block) (n : ℕ) → ¬ (after f (suc n) ≡ after f n) → n ≤ length f
changes_early f n h = go (dec_lt (length f) n)
  where
    go : Dec (length f < n) → n ≤ length f
    go (yes l) = absurd (h (stays f n l))
    go (no l) = omega arith

-- The loop over the blocks, from the last down: `sweep f k now ≡ pass f start` holds at k = B with now = start, and at k = 0 says that the
-- pass is done. If the visit of block k changes its live-in (or its live-out), the pass changes something.
pub visit_shows : (f : List Block) (k : ℕ) (now start : State) → sweep f (suc k) now ≡ pass f start → now.ins k ≡ start.ins k → now.outs k ≡ start.outs k
    → (¬ ((visit f k now).ins k ≡ now.ins k)) ⊎ (¬ ((visit f k now).outs k ≡ now.outs k)) → ¬ (pass f start ≡ start)
unfolding sweep
visit_shows f k now start e i o (inl h) p = h (sym (sweep_ins f k (visit f k now) k (omega arith)) ∙ (ap (λ (s : State). s.ins k) (e ∙ p) ∙ sym i))
visit_shows f k now start e i o (inr h) p = h (sym (sweep_outs f k (visit f k now) k (omega arith)) ∙ (ap (λ (s : State). s.outs k) (e ∙ p) ∙ sym o))

-- And if it changes neither, it changes nothing at all.
pub visit_same : (f : List Block) (k : ℕ) (now : State) → (visit f k now).ins k ≡ now.ins k → (visit f k now).outs k ≡ now.outs k → visit f k now ≡ now
unfolding visit
visit_same f k now p q = λ i. record { ins = same_at now.ins (backwards (block f k).steps o) p i; outs = same_at now.outs o q i }
  where
    o : Row
    o = union (length f) now.ins (block f k).targets

    same_at : (x : ℕ → Row) (r : Row) → put k r x k ≡ x k → put k r x ≡ x
    same_at x r e = fun_ext (λ j. put_cases (λ z. z ≡ x j) k r x j (λ h. sym (put_same k r x) ∙ (e ∙ ap x (sym h))) (λ _. refl))
