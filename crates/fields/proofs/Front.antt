-- Laws on the front of a tail: a whole record depends on its own bytes alone.
-- Assumes nothing.
use mathlib.Core.Path.{◌≡◌, refl, sym, ap, ap₂, ◌∙◌}
use mathlib.Core.Logic.{◌⊎◌, inl, inr}
use mathlib.Core.Bool.{Bool, true, false, true≢false, ◌&&◌, ◌||◌}
use mathlib.Core.List.{List, ◌++◌}
use Prim.Native.Nat.{ℕ, ◌+◌, ◌≤◌, ◌<◌}
use native.Mathlib.Omega.{arith}
use lib.Dec.{eqb}
use lib.ListN.{length, get_or, take, length-append, get_or-append}
use lib.Seq.{get_or-take, length-take-le}
use borrow.Author.Tests.{ltb-true, leb-true, eqb-true}
use Rattle.fields.specs.Pick.{pick, pick_yes, pick_no, ◌and◌, ◌or◌, tests}
use Rattle.fields.specs.Edition.{Edition}
use Rattle.fields.specs.Record.{Rec, storage, function, abi, block, operand, target, whole, fault, u8_at, u16_at, lengths, length_of, header_at, storage_in, abi_in, operand_in, instruction_at, terminator_at, record_at, present, read}

-- Tests taken apart -----------------------------------------------------------------------------------------------------------------------

pub and_both : (a b : Bool) → (a and b) ≡ true → (a ≡ true) × (b ≡ true)
unfolding pick
and_both true b e = (refl, e)
and_both false b e = absurd (true≢false (sym e))

pub and_make : (a b : Bool) → a ≡ true → b ≡ true → (a and b) ≡ true
and_make a b e f = pick_yes a b false e ∙ f

pub or_cases : (a b : Bool) → (a or b) ≡ true → (a ≡ true) ⊎ (b ≡ true)
unfolding pick
or_cases true b e = inl refl
or_cases false b e = inr e

-- the shut tests are the usual ones
pub and_is : (a b : Bool) → (a and b) ≡ (a && b)
unfolding pick
and_is true b = refl
and_is false b = refl

pub or_is : (a b : Bool) → (a or b) ≡ (a || b)
unfolding pick
or_is true b = refl
or_is false b = refl

-- two choices by one test
pub pick_same : {A : Type 0} (t : Bool) (a a' b b' : A) → (t ≡ true → a ≡ a') → (t ≡ false → b ≡ b') → pick t a b ≡ pick t a' b'
unfolding pick
pick_same true a a' b b' p q = p refl
pick_same false a a' b b' p q = q refl

-- What is read -----------------------------------------------------------------------------------------------------------------------------

-- a whole record: the parts of it
pub record Whole (ed : Edition) (t : List ℕ) (len : ℕ) (x : Rec) : Type 0 where
  pub some : 0 < len
  pub fits : len ≤ length t
  pub long : len ≡ length_of ed (u8_at t 0)
  pub is : x ≡ record_at ed t

pub present_facts : (ed : Edition) (t : List ℕ) → present ed t ≡ true → (0 < length_of ed (u8_at t 0)) × (length_of ed (u8_at t 0) ≤ length t)
unfolding present
present_facts ed t e = let h = and_both _ _ (and_both _ _ e).1 in (ltb-true _ _ h.0, leb-true _ _ h.1)

pub read_whole : (ed : Edition) (t : List ℕ) (len : ℕ) (x : Rec) → read ed t ≡ whole len x → Whole ed t len x
unfolding read pick
read_whole ed t len x e = go (present ed t) refl e
  where
    go : (b : Bool) → present ed t ≡ b → pick b (whole (length_of ed (u8_at t 0)) (record_at ed t)) fault ≡ whole len x → Whole ed t len x
    go false p q = let z : ◌≡◌ {A = ℕ} 0 1 = cc in absurd (omega arith)
    go true p q =
        let l : len ≡ length_of ed (u8_at t 0) = cc in
        let i : x ≡ record_at ed t = cc in
        let h = present_facts ed t p in
        record { some = rw l h.0; fits = rw l h.1; long = l; is = i }

pub whole_read : (ed : Edition) (t : List ℕ) → 0 < length_of ed (u8_at t 0) → length_of ed (u8_at t 0) ≤ length t → read ed t ≡ whole (length_of ed (u8_at t 0)) (record_at ed t)
unfolding read present
whole_read ed t h l = let k : 0 < length t = omega arith in search tests

-- Two tails that agree in the bytes of the first record have the same first record -------------------------------------------------------------

len_at : (ed : Edition) (k c : ℕ) → eqb k ed.header ≡ false → eqb k c ≡ true → length_of ed k ≡ get_or lengths c 0
unfolding length_of
len_at ed k c n e = pick_no _ _ _ n ∙ ap (λ i. get_or lengths i 0) (eqb-true k c e)

len_header : (ed : Edition) (k : ℕ) → eqb k ed.header ≡ true → length_of ed k ≡ 7
unfolding length_of
len_header ed k e = pick_yes _ _ _ e

module _ (t u : List ℕ) (n : ℕ) (same : (i : ℕ) → i < n → u8_at t i ≡ u8_at u i) where
  same16 : (i : ℕ) → i + 1 < n → u16_at t i ≡ u16_at u i
  unfolding u16_at u8_at
  same16 i h = rw (same i (omega arith), same (i + 1) h)

  same_header : n ≡ 7 → header_at t ≡ header_at u
  unfolding header_at
  same_header e = rw (same16 1 (omega arith), same16 3 (omega arith), same16 5 (omega arith))

  same_storage : n ≡ 16 → storage_in t ≡ storage_in u
  unfolding storage_in
  same_storage e =
      rw (
        same16 1 (omega arith),
        same16 3 (omega arith),
        same 5 (omega arith),
        same16 6 (omega arith),
        same16 8 (omega arith),
        same 10 (omega arith),
        same 11 (omega arith),
        same16 12 (omega arith),
        same16 14 (omega arith),
      )

  same_abi : n ≡ 7 → abi_in t ≡ abi_in u
  unfolding abi_in
  same_abi e = rw (same 1 (omega arith), same 2 (omega arith), same16 3 (omega arith), same16 5 (omega arith))

  same_operand : n ≡ 7 → operand_in t ≡ operand_in u
  unfolding operand_in
  same_operand e = rw (same 1 (omega arith), same 2 (omega arith), same16 3 (omega arith), same16 5 (omega arith))

  same_instruction : n ≡ 4 → instruction_at t ≡ instruction_at u
  unfolding instruction_at
  same_instruction e = rw (same 1 (omega arith), same 2 (omega arith), same 3 (omega arith))

  same_terminator : n ≡ 4 → terminator_at t ≡ terminator_at u
  unfolding terminator_at
  same_terminator e = rw (same 1 (omega arith), same 2 (omega arith), same 3 (omega arith))

pub record_same : (ed : Edition) (t u : List ℕ) → u8_at t 0 ≡ u8_at u 0 → ((i : ℕ) → i < length_of ed (u8_at t 0) → u8_at t i ≡ u8_at u i) → record_at ed t ≡ record_at ed u
unfolding record_at lengths
record_same ed t u e same = rw (sym e)
    (pick_same _ _ _ _ _ (λ h. same_header t u _ same (len_header ed _ h))
    λ n. pick_same _ _ _ _ _ (λ h. ap storage (same_storage t u _ same (len_at ed _ 1 n h)))
    λ _. pick_same _ _ _ _ _ (λ h. ap function (same 1 (by 2 n h (omega arith))))
    λ _. pick_same _ _ _ _ _ (λ h. ap abi (same_abi t u _ same (len_at ed _ 3 n h)))
    λ _. pick_same _ _ _ _ _ (λ h. ap block (same16 t u _ same 1 (by 4 n h (omega arith))))
    λ _. pick_same _ _ _ _ _ (λ h. same_instruction t u _ same (len_at ed _ 5 n h))
    λ _. pick_same _ _ _ _ _ (λ h. ap operand (same_operand t u _ same (len_at ed _ 6 n h)))
    λ _. pick_same _ _ _ _ _ (λ h. same_terminator t u _ same (len_at ed _ 7 n h))
    λ _. pick_same _ _ _ _ _ (λ h. ap target (same16 t u _ same 1 (by 8 n h (omega arith))))
    λ _. refl)
  where
    k : ℕ
    k = u8_at t 0

    by : (c : ℕ) {m : ℕ} → eqb k ed.header ≡ false → eqb k c ≡ true → m < get_or lengths c 0 → m < length_of ed k
    by c n h l = rw (len_at ed k c n h) l

-- so a record reads the same off a longer tail, and off its own bytes
pub read_same : (ed : Edition) (t u : List ℕ) (len : ℕ) (x : Rec) → read ed t ≡ whole len x → len ≤ length u → ((i : ℕ) → i < len → u8_at t i ≡ u8_at u i) → read ed u ≡ whole len x
read_same ed t u len x e l same =
    whole_read ed u (omega (arith, w.some, k)) (omega (arith, k))
    ∙ ap₂ whole (sym k) (sym (record_same ed t u (same 0 w.some) (λ i h. same i (omega (arith, w.long)))) ∙ sym w.is)
  where
    w : Whole ed t len x
    w = read_whole ed t len x e

    k : len ≡ length_of ed (u8_at u 0)
    k = w.long ∙ ap (length_of ed) (same 0 w.some)

pub read_append : (ed : Edition) (xs ys : List ℕ) (len : ℕ) (x : Rec) → read ed xs ≡ whole len x → read ed (xs ++ ys) ≡ whole len x
unfolding u8_at
read_append ed xs ys len x e = read_same ed xs (xs ++ ys) len x e (omega (arith, w.fits, length-append xs ys)) (λ i h. sym (get_or-append xs ys 0 i (omega (arith, w.fits))))
  where
    w : Whole ed xs len x
    w = read_whole ed xs len x e

pub read_take : (ed : Edition) (t : List ℕ) (len : ℕ) (x : Rec) → read ed t ≡ whole len x → read ed (take len t) ≡ whole len x
unfolding u8_at
read_take ed t len x e = read_same ed t (take len t) len x e (omega (arith, length-take-le len t w.fits)) (λ i h. sym (get_or-take len t i 0 h))
  where
    w : Whole ed t len x
    w = read_whole ed t len x e
