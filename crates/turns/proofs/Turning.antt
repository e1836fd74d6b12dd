-- One storage's turn. What the code found of its slot and of its place is what the step finds, since the words stand for the state; so the state that the
-- step comes to is the one that the words stand for afterwards.
use Rattle.std.specs.Prelude.{Some, None, Result, Ok}
use mathlib.Core.Path.{◌≡◌, refl, sym, ap, ◌∙◌, subst}
use mathlib.Core.Bool.{false}
use mathlib.Core.List.{List}
use Prim.Native.Nat.{ℕ}
use native.Mathlib.Omega.{arith}
use lib.ListN.{length}
use Rattle.storages.specs.declared.Placement.{Placement}
use Rattle.storages.specs.declared.Storage.{Storage}
use Rattle.storages.specs.Room.{room}
use Rattle.places.specs.Memory.{Maps}
use Rattle.places.specs.Legal.{Inside, FixedSmall}
use Rattle.places.specs.Place.{Given, fits, choose, State, done, take_room, join_slot, step_by, slot_for, step}
use Rattle.turns.specs.Held.{key_of, slot_key}
use Rattle.turns.proofs.Joining.{slot_at, SlotFor, slot_for_lem, suits_key}
use Rattle.places.proofs.Tests.{and_l}
use Rattle.places.proofs.Choosing.{Good, choose_inside}
use Rattle.records.specs.declared.Refusal.{Refusal}

-- ---- A place of its own

module _ (s : Storage) (app wrk : List ℕ) where
  abbrev words : Maps
  words = record { app = app; wrk = wrk }

  -- What was chosen from the words lies inside them.
  pub chosen_inside : (r : Result Placement Refusal) (p : Placement) → FixedSmall s.len s.fixed → ((g : Given) → g.lo ≡ 0 → g.hi ≡ length app → r ≡ choose g s words) → r ≡ Ok p
      → Inside (length app) (length wrk) (room s.len p)
  chosen_inside r p b f e =
      let g : Given = record { meets = λ i j. false; copies = λ i j. false; lo = 0; hi = length app } in
      subst (Good (λ q. Inside (length app) (length wrk) (room s.len q))) (sym (f g refl refl) ∙ e) (choose_inside g s words (omega arith) b)

  -- What was chosen from the words is what the state's maps give.
  pub chosen_is : (g : Given) (x : State) (c d : Result Placement Refusal) → app ≡ x.maps.app → wrk ≡ x.maps.wrk → c ≡ choose g s words → c ≡ d → choose g s x.maps ≡ d
  chosen_is g x c d a w e f = ap (choose g s) (λ j. record { app = sym a j; wrk = sym w j }) ∙ sym e ∙ f

-- ---- The slot that was looked for

module _ (g : Given) (s : Storage) (x : State) where
  module _ (k : ℕ) (e : Some k ≡ slot_for g s x.slots) where
    pub joins : step g s x ≡ done (join_slot s x k)
    unfolding step
    joins = ap (step_by g s x) (sym e)

    there : SlotFor g s x.slots (Some k)
    there = subst (SlotFor g s x.slots) (sym e) (slot_for_lem g s x.slots)

    pub joins_key : slot_key (slot_at x.slots k).slot ≡ key_of s
    unfolding fits
    joins_key = suits_key s (slot_at x.slots k).slot (and_l _ _ there.2)

  pub stands_alone : None ≡ slot_for g s x.slots → step g s x ≡ take_room s x (choose g s x.maps)
  unfolding step
  stands_alone e = ap (step_by g s x) (sym e)
