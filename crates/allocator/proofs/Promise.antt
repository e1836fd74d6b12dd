-- Demand 3 for every accepted file that is placed: the laws of placing (Laws.antt) with the graph of the file's program, whose interference goes both ways, and
-- with the header and the storages that an accepted file has.
use mathlib.Core.Path.{◌≡◌}
use mathlib.Core.Bool.{true}
use mathlib.Core.List.{List, [], ◌∷◌, map}
use Prim.Native.Nat.{ℕ, ◌≤◌, ◌<◌}
use native.Mathlib.Omega.{arith}
use lib.Dec.{T}
use lib.ListN.{length, get_or, length-map}
use Rattle.fields.specs.Pick.{All}
use Rattle.fields.specs.Edition.{one}
use Rattle.fields.specs.Record as R
use Rattle.records.specs.Check.{units, check}
use Rattle.records.specs.Program.{Program, program}
use Rattle.records.proofs.Accepted.{accepted}
use Rattle.storages.specs.declared.Space.{Space}
use Rattle.storages.specs.declared.Space.TheVariants.{App}
use Rattle.storages.specs.Storage.{stored}
use Rattle.storages.specs.Room.{room, touches}
use Rattle.graph.proofs.GraphLaws.{symmetric}
use Rattle.places.specs.Place.{Placed, State, done}
use Rattle.places.specs.Legal.{Legal, Inside, FixedSmall, Sharing}
use Rattle.allocator.specs.Placing.{given, placing}
use Rattle.allocator.proofs.Fitting.{fits_small, header_low}
use Rattle.allocator.proofs.Laws as L

all_small : (xs : List R.Storage) → All (λ x. R.storage_fits one x ≡ true) xs → All (λ s. FixedSmall s.len s.fixed) (map stored xs)
all_small [] h = tt
all_small (x ∷ xs) h = ((fits_small x h.0).1, all_small xs h.1)

module _ (f us : List ℕ) (taken : check one f ≡ units us) (x : State) (places : placing one (program one f) ≡ done x) where
  abbrev p : Program
  p = program one f

  pub sound : L.Sound (given one p) p.application p.first p.work (map stored p.storages) x
  unfolding placing
  sound =
      let good = (accepted one f us taken).0 in
      let h = header_low p.application p.first p.work good.header in
      L.placing_sound (given one p) p.application p.first p.work (map stored p.storages) x h.1 (omega arith) (all_small p.storages good.storages) places

  -- The i-th storage of the file and where it lies; `nothing` stands past the last.
  module _ (nothing : Placed) where
    abbrev pub nth : ℕ → Placed
    nth i = get_or x.placed i nothing

    inside : (i : ℕ) → i < length p.storages → i < length (map stored p.storages)
    inside i l = omega (arith, length-map p.storages stored)

    -- Two storages touch a common bit only if both are unfixed, have one owning function, one kind and length, neither is Carry, and they do not interfere.
    pub storages_share_only : (i j : ℕ) → ¬ (i ≡ j) → i < length p.storages → j < length p.storages → (sp : Space) (n k : ℕ)
        → T (touches (nth i).what (nth i).spot sp n k) → T (touches (nth j).what (nth j).spot sp n k) → Sharing (given one p) (nth i).what (nth j).what
    storages_share_only i j d l m =
        L.shares_only_any (given one p) p.application p.first p.work (map stored p.storages) x sound nothing (symmetric one p) i j d (inside i l) (inside j m)

    -- The application bytes below F go to nobody.
    pub reserved_bytes_free : (i : ℕ) → i < length p.storages → (n k : ℕ) → T (touches (nth i).what (nth i).spot App n k) → p.first ≤ n
    reserved_bytes_free i l = L.low_bytes_free (given one p) p.application p.first p.work (map stored p.storages) x sound nothing i (inside i l)

    -- Each placement lies inside A or W.
    pub placed_inside : (i : ℕ) → i < length p.storages → Inside p.application p.work (room (nth i).what.len (nth i).spot)
    placed_inside i l = L.lies_inside (given one p) p.application p.first p.work (map stored p.storages) x sound nothing i (inside i l)

    -- An unfixed storage lies in an allowed region in the right form, a fixed one at its fixed place, and its kind matches.
    pub placed_legally : (i : ℕ) → i < length p.storages → Legal (nth i).what (nth i).spot
    placed_legally i l = L.lies_legally (given one p) p.application p.first p.work (map stored p.storages) x sound nothing i (inside i l)

    -- And the i-th placed storage is the i-th of the file.
    pub placed_in_order : (i : ℕ) → (nth i).what ≡ get_or (map stored p.storages) i nothing.what
    placed_in_order i = L.in_order (given one p) p.application p.first p.work (map stored p.storages) x sound nothing i
