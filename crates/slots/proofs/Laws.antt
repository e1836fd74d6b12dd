-- The walk down a list of slots finds the first that passes. Every number that passes replaces what was found before, and the
-- numbers come in falling order, so the last word is the smallest number that passes, or the word that the walk began with.
use mathlib.Core.Path.{◌≡◌, refl, sym, ap, subst, ◌∙◌}
use mathlib.Core.Logic.{◌⊎◌, inl, inr}
use mathlib.Core.Bool.{Bool, true, false, true≢false}
use mathlib.Core.List.{List, [], ◌∷◌}
use Prim.Native.Nat.{ℕ, zero, suc, ◌≤◌, ◌<◌}
use native.Mathlib.Omega.{arith}
use lib.ListN.{length, get_or, take}
use lib.Dec.{ltb}
use lib.Seq.{get_or-take}
use borrow.Author.Tests.{lt-ltb, le-ltb, ltb-true}
use Rattle.std.specs.Prelude.{Option, Some, None, IfSome}
use Rattle.rows.proofs.Rows.{lt_or_ge}
use Rattle.fields.specs.Pick.{pick, pick_yes, pick_no, ◌and◌}
use Rattle.slots.specs.declared.Slot.{Slot}
use Rattle.slots.specs.Slots.{no_slot, first_of, first_passing}

-- Inside a list it does not matter what would stand past its end.
pub inside_same : (ts : List Slot) (k : ℕ) (t u : Slot) → k < length ts → get_or ts k t ≡ get_or ts k u
inside_same [] k t u h = absurd (omega arith)
inside_same (x ∷ ts) zero t u h = refl
inside_same (x ∷ ts) (suc k) t u h = inside_same ts k t u (omega arith)

pub and_false : (a : Bool) → (a and false) ≡ false
unfolding pick
and_false true = refl
and_false false = refl

module _ (p : ℕ → Slot → Bool) (ts : List Slot) where
  -- The slot of a number passes; no slot of a smaller number does.
  abbrev pub Passes : ℕ → Type 0
  Passes k = p k (get_or ts k no_slot) ≡ true

  abbrev pub NoneBelow : ℕ → Type 0
  NoneBelow k = (j : ℕ) → j < k → p j (get_or ts j no_slot) ≡ false

  -- What a walk down from n comes to: the word that it began with, where none passes, or the first that does.
  abbrev pub Came : ℕ → ℕ → ℕ → Type 0
  Came n found r = ((r ≡ found) × NoneBelow n) ⊎ ((r < n) × Passes r × NoneBelow r)

  first_came : (n found : ℕ) → Came n found (first_of p ts n found)
  unfolding first_of
  first_came zero found = inl (refl, λ j h. absurd (omega arith))
  first_came (suc i) found = go (p i (get_or ts i no_slot)) refl (first_came i)
    where
      hit : (r : ℕ) → Passes i → Came i i r → Came (suc i) found r
      hit r e (inl (q, none)) = inr (omega arith, subst Passes (sym q) e, subst NoneBelow (sym q) none)
      hit r e (inr (h, t, none)) = inr (omega arith, t, none)

      up : p i (get_or ts i no_slot) ≡ false → NoneBelow i → (j : ℕ) → j < suc i → (j < i) ⊎ (i ≤ j) → p j (get_or ts j no_slot) ≡ false
      up e none j h (inl l) = none j l
      up e none j h (inr g) = ap (λ (m : ℕ). p m (get_or ts m no_slot)) (omega arith) ∙ e

      miss : (r : ℕ) → p i (get_or ts i no_slot) ≡ false → Came i found r → Came (suc i) found r
      miss r e (inl (q, none)) = inl (q, λ j h. up e none j h (lt_or_ge j i))
      miss r e (inr (h, t, none)) = inr (omega arith, t, none)

      go : (b : Bool) → p i (get_or ts i no_slot) ≡ b → ((f : ℕ) → Came i f (first_of p ts i f))
          → Came (suc i) found (first_of p ts i (pick (p i (get_or ts i no_slot)) i found))
      go true e came = subst (λ (m : ℕ). Came (suc i) found (first_of p ts i m)) (sym (pick_yes _ i found e)) (hit (first_of p ts i i) e (came i))
      go false e came = subst (λ (m : ℕ). Came (suc i) found (first_of p ts i m)) (sym (pick_no _ i found e)) (miss (first_of p ts i found) e (came found))

  -- A number below n was found: its slot passes, and no smaller one does.
  pub first_found : (n : ℕ) → first_of p ts n n < n → Passes (first_of p ts n n) × NoneBelow (first_of p ts n n)
  first_found n h = go (first_came n n)
    where
      go : Came n n (first_of p ts n n) → Passes (first_of p ts n n) × NoneBelow (first_of p ts n n)
      go (inl (e, none)) = absurd (omega arith)
      go (inr (l, t, none)) = (t, none)

  -- None was found: none passes.
  pub first_missed : (n : ℕ) → first_of p ts n n ≡ n → NoneBelow n
  first_missed n q = go (first_came n n)
    where
      go : Came n n (first_of p ts n n) → NoneBelow n
      go (inl (e, none)) = none
      go (inr (l, t, none)) = absurd (omega arith)

  clash : (k : ℕ) → Passes k → p k (get_or ts k no_slot) ≡ false → ⊥
  clash k t f = true≢false (sym t ∙ f)

  -- And back: what passes with none below it is what is found, and where none passes, n is.
  pub first_is : (n k : ℕ) → k < n → Passes k → NoneBelow k → first_of p ts n n ≡ k
  first_is n k h t none = go (first_of p ts n n) (first_came n n)
    where
      side : (r : ℕ) → Passes r → NoneBelow r → (r < k) ⊎ (k ≤ r) → (k < r) ⊎ (r ≤ k) → r ≡ k
      side r t' none' (inl l) m = absurd (clash r t' (none r l))
      side r t' none' (inr l) (inl m) = absurd (clash k t (none' k m))
      side r t' none' (inr l) (inr m) = omega arith

      go : (r : ℕ) → Came n n r → r ≡ k
      go r (inl (e, all)) = absurd (clash k t (all k h))
      go r (inr (l, t', none')) = side r t' none' (lt_or_ge r k) (lt_or_ge k r)

  pub first_none : (n : ℕ) → NoneBelow n → first_of p ts n n ≡ n
  first_none n all = go (first_of p ts n n) (first_came n n)
    where
      go : (r : ℕ) → Came n n r → r ≡ n
      go r (inl (e, none)) = e
      go r (inr (l, t, none)) = absurd (clash r t (all r l))

  -- The same of the answer.
  pub passing_is : (n k : ℕ) → k < n → Passes k → NoneBelow k → first_passing p ts n ≡ Some k
  unfolding first_passing
  passing_is n k h t none = let e = first_is n k h t none in rw e (pick_yes _ _ _ (lt-ltb _ _ h))

  pub passing_none : (n : ℕ) → NoneBelow n → first_passing p ts n ≡ None
  unfolding first_passing
  passing_none n all = let e = first_none n all in rw e (pick_no _ _ _ (le-ltb n n (omega arith)))

-- An answer is the number of a slot.
pub passing_below : (p : ℕ → Slot → Bool) (ts : List Slot) (n : ℕ) (r : Option ℕ) → r ≡ first_passing p ts n → IfSome r (λ k. k < n)
unfolding first_passing pick
passing_below p ts n r e = subst (λ (o : Option ℕ). IfSome o (λ k. k < n)) (sym e) (go (ltb (first_of p ts n n) n) refl)
  where
    go : (b : Bool) → ltb (first_of p ts n n) n ≡ b → IfSome (pick b (Some (first_of p ts n n)) None) (λ k. k < n)
    go true q = ltb-true _ _ q
    go false q = tt

-- What stands behind the first n slots does not matter.
pub passing_front : (p : ℕ → Slot → Bool) (ts : List Slot) (n : ℕ) → first_passing p (take n ts) n ≡ first_passing p ts n
unfolding first_passing first_of
passing_front p ts n = ap (λ (r : ℕ). pick (ltb r n) (Some r) None) (same n n (omega arith))
  where
    same : (i found : ℕ) → i ≤ n → first_of p (take n ts) i found ≡ first_of p ts i found
    same zero found h = refl
    same (suc i) found h =
        same i (pick (p i (get_or (take n ts) i no_slot)) i found) (omega arith)
        ∙ ap (λ (t : Slot). first_of p ts i (pick (p i t) i found)) (get_or-take n ts i no_slot (omega arith))
