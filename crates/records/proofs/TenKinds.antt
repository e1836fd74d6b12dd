-- The kind byte of a tail decides which record stands there: how long it is, whether it goes to what is open, and whether it leaves the block.
-- There are ten kinds, so each law goes through them one by one.
use mathlib.Core.Path.{◌≡◌, refl, ap, ◌∙◌}
use mathlib.Core.Bool.{true, false}
use mathlib.Core.Logic.{◌⊎◌, inl, inr}
use mathlib.Core.List.{List}
use Prim.Native.Nat.{ℕ, zero, suc, ◌≤◌, ◌<◌}
use native.Mathlib.Omega.{arith}
use Rattle.fields.specs.Edition.{one}
use Rattle.fields.specs.Record.{u8_at, length_of, header_at, instruction_at, terminator_at, record_at}
use Rattle.records.specs.Step.{belongs, leaves}
use Rattle.fields.proofs.ByKind.{kind_header, kind_storage, kind_function, kind_abi, kind_block, kind_instruction, kind_operand, kind_terminator, kind_target, kind_end}

pub long_at : (n k l : ℕ) → k ≡ n → length_of one k ≤ l → length_of one n ≤ l
long_at n k l e h = rw e at h

module _ (t : List ℕ) where
  pub belongs_target : u8_at t 0 ≡ 8 → belongs (record_at one t) ≡ true
  belongs_target e = ap belongs (kind_target t e)

  pub belongs_not : (u8_at t 0 ≡ 6 → ⊥) → (u8_at t 0 ≡ 8 → ⊥) → u8_at t 0 < 10 → belongs (record_at one t) ≡ false
  unfolding header_at instruction_at terminator_at
  belongs_not a b l = go (u8_at t 0) refl
    where
      go : (k : ℕ) → u8_at t 0 ≡ k → belongs (record_at one t) ≡ false
      go zero e = ap belongs (kind_header t e)
      go (suc zero) e = ap belongs (kind_storage t e)
      go (suc (suc zero)) e = ap belongs (kind_function t e)
      go (suc (suc (suc zero))) e = ap belongs (kind_abi t e)
      go (suc (suc (suc (suc zero)))) e = ap belongs (kind_block t e)
      go (suc (suc (suc (suc (suc zero))))) e = ap belongs (kind_instruction t e)
      go (suc (suc (suc (suc (suc (suc zero)))))) e = absurd (a e)
      go (suc (suc (suc (suc (suc (suc (suc zero))))))) e = ap belongs (kind_terminator t e)
      go (suc (suc (suc (suc (suc (suc (suc (suc zero)))))))) e = absurd (b e)
      go (suc (suc (suc (suc (suc (suc (suc (suc (suc zero))))))))) e = ap belongs (kind_end t e)
      go (suc (suc (suc (suc (suc (suc (suc (suc (suc (suc k)))))))))) e = absurd (omega arith)

  pub leaves_one : (k : ℕ) → u8_at t 0 ≡ k → (k ≡ 2) ⊎ ((k ≡ 4) ⊎ (k ≡ 9)) → leaves (record_at one t) ≡ true
  leaves_one k e (inl q) = ap leaves (kind_function t (e ∙ q))
  leaves_one k e (inr (inl q)) = ap leaves (kind_block t (e ∙ q))
  leaves_one k e (inr (inr q)) = ap leaves (kind_end t (e ∙ q))

  pub leaves_not : (u8_at t 0 ≡ 2 → ⊥) → (u8_at t 0 ≡ 4 → ⊥) → (u8_at t 0 ≡ 9 → ⊥) → u8_at t 0 < 10 → leaves (record_at one t) ≡ false
  unfolding header_at instruction_at terminator_at
  leaves_not a b d l = go (u8_at t 0) refl
    where
      go : (k : ℕ) → u8_at t 0 ≡ k → leaves (record_at one t) ≡ false
      go zero e = ap leaves (kind_header t e)
      go (suc zero) e = ap leaves (kind_storage t e)
      go (suc (suc zero)) e = absurd (a e)
      go (suc (suc (suc zero))) e = ap leaves (kind_abi t e)
      go (suc (suc (suc (suc zero)))) e = absurd (b e)
      go (suc (suc (suc (suc (suc zero))))) e = ap leaves (kind_instruction t e)
      go (suc (suc (suc (suc (suc (suc zero)))))) e = ap leaves (kind_operand t e)
      go (suc (suc (suc (suc (suc (suc (suc zero))))))) e = ap leaves (kind_terminator t e)
      go (suc (suc (suc (suc (suc (suc (suc (suc zero)))))))) e = ap leaves (kind_target t e)
      go (suc (suc (suc (suc (suc (suc (suc (suc (suc zero))))))))) e = absurd (d e)
      go (suc (suc (suc (suc (suc (suc (suc (suc (suc (suc k)))))))))) e = absurd (omega arith)
