-- Laws of numbers linked by their keys. Between the last number of a key and the end none has that key, so that a walk along the links leaves none of them out;
-- and a number more, which leads to the one that was the last of its key, keeps the links of all before it.
use mathlib.Core.Path.{◌≡◌, refl, sym, ◌∙◌}
use mathlib.Core.Bool.{Bool, true, false, cond}
use mathlib.Core.List.{List, [], ◌∷◌, ◌++◌}
use Prim.Native.Nat.{ℕ, zero, suc, ◌+◌, ◌≤◌, ◌<◌}
use native.Mathlib.Omega.{arith}
use native.Mathlib.Nat.{not-suc-le-zero}
use native.Mathlib.Numerals.{add-one}
use native.Mathlib.Decide.{ℕ_discrete}
use lib.Dec.{eqb}
use lib.ListN.{length, get_or, set, replicate, get_or-replicate, get_or-append}
use lib.Seq.{get_or-set_same, get_or-set_other, get_or-append_seam}
use borrow.Author.Tests.{eqb-true, eqb-false}
use Rattle.rows.specs.Links.{last_of, Linked}

-- ---- the last number of a key

module _ (b : ℕ) (keys : List ℕ) where
  -- Of one number more, it is that number or the last of those before.
  pub last_cases : (n : ℕ) (P : ℕ → Type 0) → (get_or keys n 0 ≡ b → P (suc n)) → ((get_or keys n 0 ≡ b → ⊥) → P (last_of b keys n)) → P (last_of b keys (suc n))
  unfolding last_of
  last_cases n P own other = go (eqb (get_or keys n 0) b) refl
    where
      go : (t : Bool) → eqb (get_or keys n 0) b ≡ t → P (cond t (suc n) (last_of b keys n))
      go true e = own (eqb-true (get_or keys n 0) b e)
      go false e = other (eqb-false (get_or keys n 0) b e)

  pub last_within : (n : ℕ) → last_of b keys n ≤ n
  unfolding last_of
  last_within zero = omega arith
  last_within (suc n) = last_cases n (λ m. m ≤ suc n) (λ _. omega arith) (λ _. omega (arith, last_within n))

  pub last_has : (n i : ℕ) → last_of b keys n ≡ suc i → get_or keys i 0 ≡ b
  unfolding last_of
  last_has zero i e = absurd (omega arith)
  last_has (suc n) i e = last_cases n (λ m. m ≡ suc i → get_or keys i 0 ≡ b) (λ h q. let same : i ≡ n = omega arith in rw same h) (λ _. last_has n i) e

  pub last_none : (n j : ℕ) → last_of b keys n ≤ j → j < n → get_or keys j 0 ≡ b → ⊥
  unfolding last_of
  last_none zero j l m e = not-suc-le-zero m
  last_none (suc n) j l m e = last_cases n (λ k. k ≤ j → ⊥) (λ _ k. omega arith) (λ h k. last_none n j k (before h) e) l
    where
      before : (get_or keys n 0 ≡ b → ⊥) → j < n
      before h = let not : j ≡ n → ⊥ = (λ q. h (rw q at e)) in omega arith

  -- What stands behind the first n does not matter to them.
  last_append : (more : List ℕ) (n : ℕ) → n ≤ length keys → last_of b (keys ++ more) n ≡ last_of b keys n
  unfolding last_of
  last_append more zero l = refl
  last_append more (suc n) l = rw (get_or-append keys more 0 n (omega arith), last_append more n (omega arith))

-- ---- the links

-- Where no number is linked, no entry leads anywhere.
pub linked_none : (befores : List ℕ) → Linked [] (replicate 256 0) befores 0
unfolding last_of
linked_none befores = record { last_is = λ b l. get_or-replicate 256 b 0 0 l; before_is = λ i l. absurd (not-suc-le-zero l) }

-- One number more, of the key b.
module _ (keys lasts befores befores' : List ℕ) (n b : ℕ) (h : Linked keys lasts befores n) (count : n ≡ length keys) (low : b < 256) (room : b < length lasts)
    (own : get_or befores' n 0 ≡ get_or lasts b 0) (others : (i : ℕ) → i < n → get_or befores' i 0 ≡ get_or befores i 0) where
  abbrev more : List ℕ
  more = keys ++ (b ∷ [])

  here : get_or more n 0 ≡ b
  here = rw count (get_or-append_seam keys b [] 0)

  last_more : (c : ℕ) → c < 256 → get_or (set lasts b (suc n)) c 0 ≡ last_of c more (suc n)
  last_more c l =
      last_cases c more n (λ m. get_or (set lasts b (suc n)) c 0 ≡ m)
      (λ e. let same : c ≡ b = sym e ∙ here in rw same (get_or-set_same lasts b (suc n) 0 room))
      (λ d. get_or-set_other lasts b c (suc n) 0 (λ e. d (here ∙ sym e)) ∙ h.last_is c l ∙ sym (last_append c keys (b ∷ []) n (omega arith)))

  before_more : (i : ℕ) → i < suc n → get_or befores' i 0 ≡ last_of (get_or more i 0) more i
  before_more i l = go (ℕ_discrete i n)
    where
      go : Dec (i ≡ n) → get_or befores' i 0 ≡ last_of (get_or more i 0) more i
      go (yes e) = rw (e, here, last_append b keys (b ∷ []) n (omega arith)) (own ∙ h.last_is b low)
      go (no e) =
          rw (get_or-append keys (b ∷ []) 0 i (omega arith), last_append (get_or keys i 0) keys (b ∷ []) i (omega arith))
          (others i (omega arith) ∙ h.before_is i (omega arith))

  pub linked_more : Linked more (set lasts b (n + 1)) befores' (n + 1)
  linked_more = rw add-one (record { last_is = last_more; before_is = before_more })
