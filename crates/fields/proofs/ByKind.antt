-- The record at the front of a tail, by its kind byte: for code that reads a kind and then the fields (edition one).
-- Assumes nothing.
use mathlib.Core.Path.{◌≡◌, refl, ◌∙◌}
use mathlib.Core.List.{List, [], ◌∷◌}
use Prim.Native.Nat.{ℕ, zero, suc, ◌≤◌, ◌<◌}
use native.Mathlib.Omega.{arith}
use lib.Dec.{eqb-suc-zero}
use lib.ListN.{get_or, get_or-eq_default}
use Rattle.fields.specs.Pick.{pick}
use Rattle.fields.specs.Edition.{one}
use Rattle.fields.specs.Record.{storage, function, abi, block, operand, target, end, u8_at, u16_at, lengths, length_of, header_at, storage_in, abi_in, operand_in, instruction_at, terminator_at, record_at}

-- the lengths of the ten kinds as one row
pub length_one : (k : ℕ) → length_of one k ≡ get_or (7 ∷ 16 ∷ 2 ∷ 7 ∷ 3 ∷ 4 ∷ 7 ∷ 4 ∷ 3 ∷ 1 ∷ []) k 0
unfolding length_of lengths pick
length_one zero = refl
length_one (suc k) = rw (eqb-suc-zero k)

-- kinds 0 to 9 are known, and no other
pub length_some : (k : ℕ) → k < 10 → 0 < length_of one k
unfolding length_of lengths pick
length_some zero l = omega arith
length_some (suc zero) l = omega arith
length_some (suc (suc zero)) l = omega arith
length_some (suc (suc (suc zero))) l = omega arith
length_some (suc (suc (suc (suc zero)))) l = omega arith
length_some (suc (suc (suc (suc (suc zero))))) l = omega arith
length_some (suc (suc (suc (suc (suc (suc zero)))))) l = omega arith
length_some (suc (suc (suc (suc (suc (suc (suc zero))))))) l = omega arith
length_some (suc (suc (suc (suc (suc (suc (suc (suc zero)))))))) l = omega arith
length_some (suc (suc (suc (suc (suc (suc (suc (suc (suc zero))))))))) l = omega arith
length_some (suc (suc (suc (suc (suc (suc (suc (suc (suc (suc k)))))))))) l = absurd (omega arith)

pub length_none : (k : ℕ) → 10 ≤ k → length_of one k ≡ 0
length_none k l = length_one k ∙ get_or-eq_default (7 ∷ 16 ∷ 2 ∷ 7 ∷ 3 ∷ 4 ∷ 7 ∷ 4 ∷ 3 ∷ 1 ∷ []) 0 l

module _ (t : List ℕ) where
  pub kind_header : u8_at t 0 ≡ 0 → record_at one t ≡ header_at t
  unfolding record_at pick
  kind_header e = rw e

  pub kind_storage : u8_at t 0 ≡ 1 → record_at one t ≡ storage (storage_in t)
  unfolding record_at pick
  kind_storage e = rw e

  pub kind_function : u8_at t 0 ≡ 2 → record_at one t ≡ function (u8_at t 1)
  unfolding record_at pick
  kind_function e = rw e

  pub kind_abi : u8_at t 0 ≡ 3 → record_at one t ≡ abi (abi_in t)
  unfolding record_at pick
  kind_abi e = rw e

  pub kind_block : u8_at t 0 ≡ 4 → record_at one t ≡ block (u16_at t 1)
  unfolding record_at pick
  kind_block e = rw e

  pub kind_instruction : u8_at t 0 ≡ 5 → record_at one t ≡ instruction_at t
  unfolding record_at pick
  kind_instruction e = rw e

  pub kind_operand : u8_at t 0 ≡ 6 → record_at one t ≡ operand (operand_in t)
  unfolding record_at pick
  kind_operand e = rw e

  pub kind_terminator : u8_at t 0 ≡ 7 → record_at one t ≡ terminator_at t
  unfolding record_at pick
  kind_terminator e = rw e

  pub kind_target : u8_at t 0 ≡ 8 → record_at one t ≡ target (u16_at t 1)
  unfolding record_at pick
  kind_target e = rw e

  pub kind_end : u8_at t 0 ≡ 9 → record_at one t ≡ end
  unfolding record_at pick
  kind_end e = rw e
