-- The list by value and the list that is lent hold the same slots: an array that was written whole is its elements in memory, and elements that lie in a
-- row are an array again. The prover lends a whole array by the same two steps.
use mathlib.Core.Path.{◌≡◌, refl, sym}
use Prim.Native.Nat.{ℕ}
use mathlib.Core.List.{List, [], ◌∷◌, map}
use lib.ListN.{length}
use seplogic.Ra.Ura.{Ura}
use base.Fraction.{full_share}
use mir.Syntax.{Ty, ty_array}
use mir.Val.{Val}
use base.Logic.{ent}
use base.Fml.{fsep, fat}
use types.Logic.{Logic, sem}
use types.Kit.{‵, ⋆, ◌$◌, ◌∵◌, !, qed, move, use1, rewrite, fsplit, fjoin, fpick, fpack, done}
use types.Share.{arr_parts}
use denote.RattleType.{RattleType}
use denote.Laws.{Is, shows}
use denote.Memory.{cell_at, part_at, part_of, shares, lone}
use denote.Array.{Array, array_val, Array-Tells}
use denote.ArrayMemory.{Array-apart, Array-whole}
use denote.Steps.{peeks}
use denote.Struct.Laws as LL
use Rattle.slots.specs.declared.Slot.{Slot}
use Rattle.slots.specs.contracts.Slot as T
use Rattle.slots.proofs.Slot.TheLaws as T'

-- The array's type, as Rattle and as the machine has it, and its machine value.
abbrev pub AR : RattleType
AR = Array T.the_row 16

abbrev pub τ : Ty
τ = ty_array (lone (T.the_row).mir) 16

abbrev pub val_of : List Slot → Val
val_of ts = array_val (map (λ t. LL.val T.the_type T'.the_laws t) ts)

module _ {M : Type 1} {𝓤 : Ura M} (𝓛 : Logic 𝓤) (ts : List Slot) (l : ℕ) (len : length ts ≡ 16) where
  pub apart : ent 𝓤 (⋆ 𝓛 (‵ (fat full_share τ l 0 (val_of ts)) ∷ ‵ (AR.own_val ts (val_of ts ∷ [])) ∷ [])) (sem 𝓛 ((arr_parts (shares T.the_row) (length ts)).part full_share ts l 0))
  unfolding part_of
  apart =
      qed 𝓛 (‵ (fat full_share τ l 0 (val_of ts)) ∷ ‵ (AR.own_val ts (val_of ts ∷ [])) ∷ []) ∵
      use1 𝓛 (‵ (cell_at full_share AR.mir (val_of ts ∷ []) l 0)) (𝓛.laws.at_raw full_share τ l 0 (val_of ts)) $ fjoin ! $
      fpack ! (List Val) (λ vs. fsep (cell_at full_share AR.mir vs l 0) (AR.own_val ts vs)) (val_of ts ∷ []) $
      use1 𝓛 (‵ ((arr_parts (shares T.the_row) 16).part full_share ts l 0)) (Array-apart 𝓛 T.the_row full_share tt 16 ts l 0) $
      rewrite ! 0 (λ (n : ℕ). ‵ ((arr_parts (shares T.the_row) n).part full_share ts l 0)) (sym len) refl $ done !

  pub whole_again : ent 𝓤 (sem 𝓛 ((arr_parts (shares T.the_row) (length ts)).part full_share ts l 0)) (⋆ 𝓛 (‵ (fat full_share τ l 0 (val_of ts)) ∷ ‵ (AR.own_val ts (val_of ts ∷ [])) ∷ []))
  unfolding part_of
  whole_again =
      qed 𝓛 (‵ ((arr_parts (shares T.the_row) (length ts)).part full_share ts l 0) ∷ []) ∵
      rewrite ! 0 (λ (n : ℕ). ‵ ((arr_parts (shares T.the_row) n).part full_share ts l 0)) len refl $
      use1 𝓛 (‵ (part_at AR full_share ts l 0)) (Array-whole 𝓛 T.the_row full_share 16 ts l 0) $
      fpick ! (λ vs. fsplit ! $ move ! (1 ∷ []) $ peeks ! AR (Is AR) (shows 𝓛 AR) ts vs (λ p.
      rewrite ! 1 (λ (us : List Val). ‵ (cell_at full_share AR.mir us l 0)) (Array-Tells T.the_row (LL.vals T.the_type T'.the_laws) (LL.tells T.the_type T'.the_laws) 16 ts vs p) refl $
      rewrite ! 0 (λ (us : List Val). ‵ (AR.own_val ts us)) (Array-Tells T.the_row (LL.vals T.the_type T'.the_laws) (LL.tells T.the_type T'.the_laws) 16 ts vs p) refl $
      move ! (1 ∷ []) $ use1 𝓛 (‵ (fat full_share τ l 0 (val_of ts))) (𝓛.laws.raw_at full_share τ l 0 (val_of ts)) $ done !))
