-- Laws on the order of records. `Calm`: outside a block nothing is open. `nothing_after`: after the end there is nothing more.
-- `walk_ids`, `walk_numbers`: the program's storages and functions are those that the reader lists. Assumes nothing.
use mathlib.Core.Path.{◌≡◌, refl, sym, ap, ◌∙◌}
use mathlib.Core.Logic.{◌⊎◌, inl, inr}
use mathlib.Core.Bool.{true, true≢false}
use mathlib.Core.List.{List, []}
use Prim.Native.Nat.{ℕ, ◌≤◌, ◌<◌}
use native.Mathlib.Omega.{arith}
use native.Mathlib.Decide.{dec_le}
use lib.Dec.{ltb, eqb}
use borrow.Author.Tests.{ltb-true, eqb-true}
use Rattle.fields.specs.Pick.{◌or◌, times}
use Rattle.fields.specs.Edition.{Edition}
use Rattle.fields.specs.Record.{Operand, Rec, header, storage, function, abi, block, instruction, operand, terminator, target, end}
use Rattle.records.specs.Step.{nothing, State, start, with_header, with_storage, with_function, with_block, with_opened, with_number, with_unit, at_start, in_storages, in_abi, in_block, after_block, at_end, operand_fits, last_field}
use Rattle.fields.proofs.Front.{and_both, or_cases}
use Rattle.records.proofs.Scan.{Walk, done, more}
use Rattle.records.proofs.Took.{Named, Took, stepped, unnamed, given_to}

-- in a block, or after its terminator
abbrev pub Inside : ℕ → Type 0
Inside g = (in_block ≤ g) × (g ≤ after_block)

-- elsewhere nothing is open
abbrev pub Calm : State → Type 0
Calm s = (Inside s.stage → ⊥) → s.now ≡ nothing

pub start_calm : Calm start
start_calm h = refl

-- where nothing is open, no operand and no target is taken
no_operand : (x : Operand) → operand_fits [] [] x ≡ true → ⊥
unfolding operand_fits last_field
no_operand x e = let l : times x.field [] < 0 = ltb-true (times x.field []) 0 (and_both _ _ (and_both _ _ e).1).0 in omega arith

module _ (ed : Edition) where
  operand_inside : (s : State) (at : ℕ) (x : Operand) (s' : State) → Calm s → Took ed s at (operand x) s' → (Inside s.stage → ⊥) → ⊥
  operand_inside s at x s' c h n = no_operand x (rw (c n) at h.1)

  target_inside : (s : State) (at id : ℕ) (s' : State) → Calm s → Took ed s at (target id) s' → (Inside s.stage → ⊥) → ⊥
  target_inside s at id s' c h n = let e : ltb 0 0 ≡ true = rw (c n) at h.0 in true≢false (sym e)

  -- the stage before a record, and the one after it
  abbrev pub Passed : Rec → ℕ → ℕ → Type 0
  Passed (header a f w) g g' = (g ≡ at_start) × (g' ≡ in_storages)
  Passed (storage x) g g' = (g ≡ in_storages) × (g' ≡ in_storages)
  Passed (function n) g g' = ((g ≡ in_storages) ⊎ ((g ≡ in_abi) ⊎ (g ≡ after_block))) × (g' ≡ in_abi)
  Passed (abi x) g g' = (g ≡ in_abi) × (g' ≡ in_abi)
  Passed (block id) g g' = ((g ≡ in_abi) ⊎ (g ≡ after_block)) × (g' ≡ in_block)
  Passed (instruction op sub fn) g g' = (g ≡ in_block) × (g' ≡ in_block)
  Passed (operand x) g g' = Inside g × (g' ≡ g)
  Passed (terminator op sub fn) g g' = (g ≡ in_block) × (g' ≡ after_block)
  Passed (target id) g g' = Inside g × (g' ≡ g)
  Passed end g g' = ((g ≡ in_abi) ⊎ (g ≡ after_block)) × (g' ≡ at_end)

  inside_or : (g : ℕ) → ((Inside g → ⊥) → ⊥) → Inside g
  inside_or g n = go (dec_le in_block g) (dec_le g after_block)
    where
      go : Dec (in_block ≤ g) → Dec (g ≤ after_block) → Inside g
      go (yes a) (yes b) = (a, b)
      go (yes a) (no b) = absurd (n (λ i. b i.1))
      go (no a) d = absurd (n (λ i. a i.0))

  either : (g a b : ℕ) → (eqb g a or eqb g b) ≡ true → (g ≡ a) ⊎ (g ≡ b)
  either g a b e = go (or_cases _ _ e)
    where
      go : (eqb g a ≡ true) ⊎ (eqb g b ≡ true) → (g ≡ a) ⊎ (g ≡ b)
      go (inl h) = inl (eqb-true g a h)
      go (inr h) = inr (eqb-true g b h)

  pub passed : (s : State) (at : ℕ) (x : Rec) (s' : State) → Calm s → Took ed s at x s' → Passed x s.stage s'.stage
  unfolding with_header with_storage with_function with_block with_opened with_number with_unit
  passed s at (header a f w) s' c h = (eqb-true _ at_start h.0, ap (λ (z : State). z.stage) h.2)
  passed s at (storage x) s' c h = (eqb-true _ in_storages h.0, ap (λ (z : State). z.stage) h.3 ∙ eqb-true _ in_storages h.0)
  passed s at (function n) s' c h = (go (or_cases _ _ h.0), ap (λ (z : State). z.stage) h.3)
    where
      go : (eqb s.stage in_storages ≡ true) ⊎ ((eqb s.stage in_abi or eqb s.stage after_block) ≡ true) → (s.stage ≡ in_storages) ⊎ ((s.stage ≡ in_abi) ⊎ (s.stage ≡ after_block))
      go (inl e) = inl (eqb-true _ in_storages e)
      go (inr e) = inr (either _ _ _ e)
  passed s at (abi x) s' c h = (eqb-true _ in_abi h.0, ap (λ (z : State). z.stage) h.2.is ∙ eqb-true _ in_abi h.0)
  passed s at (block id) s' c h = (either _ _ _ h.0, ap (λ (z : State). z.stage) h.3)
  passed s at (instruction op sub fn) s' c h = (eqb-true _ in_block h.0, ap (λ (z : State). z.stage) h.2)
  passed s at (operand x) s' c h = (inside_or _ (operand_inside s at x s' c h), go h.2)
    where
      go : ((eqb x.shape 0 ≡ true) × (s' ≡ unnamed (given_to x s))) ⊎ Named ed x.shape x.storage x.offset (given_to x s) s' → s'.stage ≡ s.stage
      go (inl m) = ap (λ (z : State). z.stage) m.1
      go (inr m) = ap (λ (z : State). z.stage) m.is
  passed s at (terminator op sub fn) s' c h = (eqb-true _ in_block h.0, ap (λ (z : State). z.stage) h.2)
  passed s at (target id) s' c h = (inside_or _ (target_inside s at id s' c h), ap (λ (z : State). z.stage) h.1)
  passed s at end s' c h = (either _ _ _ h.0, ap (λ (z : State). z.stage) h.1)

  -- calm stays: what a record leaves open is inside a block
  pub calm_on : (s : State) (at : ℕ) (x : Rec) (s' : State) → Calm s → Took ed s at x s' → Calm s'
  unfolding with_header with_storage with_function with_block with_opened with_number with_unit
  calm_on s at (header a f w) s' c h n =
      let g = eqb-true s.stage at_start h.0 in ap (λ (z : State). z.now) h.2 ∙ c (λ i. absurd (omega (arith, i.0)))
  calm_on s at (storage x) s' c h n =
      let g = eqb-true s.stage in_storages h.0 in ap (λ (z : State). z.now) h.3 ∙ c (λ i. absurd (omega (arith, i.0)))
  calm_on s at (function m) s' c h n = ap (λ (z : State). z.now) h.3
  calm_on s at (abi x) s' c h n =
      let g = eqb-true s.stage in_abi h.0 in ap (λ (z : State). z.now) h.2.is ∙ c (λ i. absurd (omega (arith, i.0)))
  calm_on s at (block id) s' c h n = ap (λ (z : State). z.now) h.3
  calm_on s at (instruction op sub fn) s' c h n = absurd (n (rw (ap (λ (z : State). z.stage) h.2) (omega arith, omega arith)))
  calm_on s at (operand x) s' c h n = let p = passed s at (operand x) s' c h in absurd (n (rw p.1 p.0))
  calm_on s at (terminator op sub fn) s' c h n = absurd (n (rw (ap (λ (z : State). z.stage) h.2) (omega arith, omega arith)))
  calm_on s at (target id) s' c h n = let p = passed s at (target id) s' c h in absurd (n (rw p.1 p.0))
  calm_on s at end s' c h n = ap (λ (z : State). z.now) h.1

  -- After the end nothing is taken.
  ended_none : (x : Rec) (g g' : ℕ) → Passed x g g' → g ≡ at_end → ⊥
  ended_none (header a f w) g g' p e = omega (arith, p.0)
  ended_none (storage x) g g' p e = omega (arith, p.0)
  ended_none (function n) g g' (inl h, q) e = omega arith
  ended_none (function n) g g' (inr (inl h), q) e = omega arith
  ended_none (function n) g g' (inr (inr h), q) e = omega arith
  ended_none (abi x) g g' p e = omega (arith, p.0)
  ended_none (block id) g g' (inl h, q) e = omega arith
  ended_none (block id) g g' (inr h, q) e = omega arith
  ended_none (instruction op sub fn) g g' p e = omega (arith, p.0)
  ended_none (operand x) g g' p e = omega (arith, p.0.1)
  ended_none (terminator op sub fn) g g' p e = omega (arith, p.0)
  ended_none (target id) g g' p e = omega (arith, p.0.1)
  ended_none end g g' (inl h, q) e = omega arith
  ended_none end g g' (inr h, q) e = omega arith

  pub nothing_after : {s s' : State} {at : ℕ} {t : List ℕ} → Walk ed s at t s' → Calm s → s.stage ≡ at_end → (t ≡ []) × (s' ≡ s)
  nothing_after done c e = (refl, refl)
  nothing_after {s} {at = at} (more {s' = s'} len x r q w) c e = absurd (ended_none x s.stage s'.stage (passed s at x s' c (stepped ed s at x s' q).taken) e)
