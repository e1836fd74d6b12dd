-- What an accepted file's numbers are good for: the ranges of the header and of a storage record, taken out of their tests, keep every number inside the
-- arrays that the placer has, and the maps that it clears and fills are those that placing starts from.
use mathlib.Core.Path.{◌≡◌, refl, sym, ap, ◌∙◌}
use mathlib.Core.Bool.{Bool, true}
use mathlib.Core.List.{List, [], ◌∷◌, ◌++◌}
use Prim.Native.Nat.{ℕ, zero, suc, ◌+◌, ◌-◌, ◌≤◌, ◌<◌}
use native.Mathlib.Omega.{arith}
use lib.Dec.{leb}
use lib.ListN.{length, take, replicate, length-replicate, replicate-append-replicate}
use lib.Seq.{take_at, take-append-add, length-take-le}
use borrow.Author.Tests.{leb-true, ltb-true}
use Rattle.fields.specs.Pick.{pick, ◌and◌}
use Rattle.fields.specs.Edition.{one}
use Rattle.fields.specs.Record as R
use Rattle.fields.proofs.Front.{and_both}
use Rattle.storages.specs.declared.Storage.{Storage}
use Rattle.storages.specs.Placement.{fixed_at}
use Rattle.storages.specs.Storage.{stored}
use Rattle.maps.specs.Maps.{fill}
use Rattle.maps.proofs.Laws.{fill_length}
use Rattle.places.specs.Memory.{fresh}
use Rattle.places.specs.Legal.{FixedSmall}
use Rattle.places.specs.Place.{Given, place_from, place}

-- ---- Storages

bit_low : (t : Bool) (b : ℕ) → (t and leb b 7) ≡ true → b < 8
bit_low t b e = let h : b ≤ 7 = leb-true b 7 (and_both t (leb b 7) e).1 in omega arith

fixed_small : (n code a b : ℕ) → R.fixed_fits code a b ≡ true → FixedSmall n (fixed_at code a b)
unfolding R.fixed_fits R.greatest_a R.greatest_b fixed_at pick
fixed_small n zero a b e = tt
fixed_small n (suc zero) a b e = tt
fixed_small n (suc (suc zero)) a b e = tt
fixed_small n (suc (suc (suc zero))) a b e = tt
fixed_small n (suc (suc (suc (suc zero)))) a b e = bit_low (leb a 255) b e
fixed_small n (suc (suc (suc (suc (suc zero))))) a b e = tt
fixed_small n (suc (suc (suc (suc (suc (suc zero)))))) a b e = bit_low (leb a 511) b e
fixed_small n (suc (suc (suc (suc (suc (suc (suc zero))))))) a b e = bit_low (leb a 511) b e
fixed_small n (suc (suc (suc (suc (suc (suc (suc (suc zero)))))))) a b e = tt
fixed_small n (suc (suc (suc (suc (suc (suc (suc (suc (suc zero))))))))) a b e = tt
fixed_small n (suc (suc (suc (suc (suc (suc (suc (suc (suc (suc zero)))))))))) a b e = tt
fixed_small n (suc (suc (suc (suc (suc (suc (suc (suc (suc (suc (suc zero))))))))))) a b e = tt
fixed_small n (suc (suc (suc (suc (suc (suc (suc (suc (suc (suc (suc (suc zero)))))))))))) a b e = tt
fixed_small n (suc (suc (suc (suc (suc (suc (suc (suc (suc (suc (suc (suc (suc k))))))))))))) a b e =
    absurd (omega (arith, ltb-true (suc (suc (suc (suc (suc (suc (suc (suc (suc (suc (suc (suc (suc k))))))))))))) 13 (and_both _ _ e).0))

-- A storage that fits has an id of a row and, where it is fixed at a bit, one of a byte's.
pub fits_small : (x : R.Storage) → R.storage_fits one x ≡ true → ((stored x).id < 256) × FixedSmall (stored x).len (stored x).fixed
unfolding R.storage_fits stored
fits_small x e =
    let p = and_both _ _ e in
    let q = and_both _ _ (and_both _ _ (and_both _ _ p.1).1).1 in
    let low : x.id ≤ 255 = leb-true x.id 255 p.0 in
    (omega arith, fixed_small x.len x.code x.a x.b (and_both _ _ q.1).1)

-- ---- The header

pub header_low : (a f w : ℕ) → R.header_fits a f w ≡ true → (a ≤ 256) × (f ≤ a) × (w ≤ 512)
unfolding R.header_fits
header_low a f w e =
    let p = and_both _ _ (and_both _ _ e).1 in
    let q = and_both _ _ p.1 in
    (leb-true a 256 p.0, leb-true f a q.0, leb-true w 512 q.1)

-- ---- The maps at the start

filled : (f n : ℕ) → f ≤ n → fill 0 f (replicate n 0) ≡ replicate f 255 ++ replicate (n - f) 0
unfolding fill
filled zero zero h = refl
filled zero (suc n) h = let e : suc n ≡ suc n - 0 = omega arith in ap (λ (k : ℕ). replicate {A = ℕ} k 0) e
filled (suc f) zero h = absurd (omega arith)
filled (suc f) (suc n) h = let e : n - f ≡ suc n - suc f = omega arith in
    ap {B = List ℕ} (λ r. 255 ∷ r) (filled f n (omega arith) ∙ ap (λ (k : ℕ). replicate f 255 ++ replicate k 0) e)

take_clear : (k n : ℕ) → k ≤ n → take {A = ℕ} k (replicate n 0) ≡ replicate k 0
take_clear k n h = let e : n ≡ k + (n - k) = omega arith in
    ap (λ (m : ℕ). take {A = ℕ} k (replicate m 0)) e
    ∙ ap (take k) (sym (replicate-append-replicate {A = ℕ} k (n - k) 0)) ∙ take_at {A = ℕ} (replicate k 0) (replicate (n - k) 0) k (length-replicate {A = ℕ} k 0)

module _ (a f w : ℕ) (e : R.header_fits a f w ≡ true) where
  front : (n : ℕ) → a ≤ n → take a (fill 0 f (replicate n 0)) ≡ replicate f 255 ++ replicate (a - f) 0
  front n l =
      let b : f ≤ a = (header_low a f w e).1 in
      let k : a ≡ length (replicate {A = ℕ} f 255) + (a - f) = omega (arith, length-replicate {A = ℕ} f 255) in
      ap (take a) (filled f n (omega arith)) ∙ ap (λ (m : ℕ). take m (replicate f 255 ++ replicate (n - f) 0)) k
      ∙ take-append-add {A = ℕ} (replicate f 255) (replicate (n - f) 0) (a - f)
      ∙ ap (λ (r : List ℕ). replicate f 255 ++ r) (take_clear (a - f) (n - f) (omega arith))

  -- The same for the numbers that the code read, and for its two arrays. Their front parts are what placing starts from.
  module _ (a' f' w' : ℕ) (ea : a' ≡ a) (ef : f' ≡ f) (ew : w' ≡ w) where
    pub first_low : f' ≤ 256
    first_low = let h = header_low a f w e in omega (arith, h.0, h.1)

    pub work_low : w' ≤ 512
    work_low = let h = header_low a f w e in omega (arith, h.2)

    pub work_long : w' ≡ length (take {A = ℕ} w' (replicate 512 0))
    work_long = sym (ap length (take_clear w' 512 work_low) ∙ length-replicate w' 0)

    module _ (app : List ℕ) (q : app ≡ fill 0 f' (replicate 256 0)) where
      pub app_room : a' ≤ length app
      app_room = let h = header_low a f w e in omega (arith, h.0, ap length q, fill_length 0 f' (replicate 256 0), length-replicate {A = ℕ} 256 0)

      pub app_long : a' ≡ length (take a' app)
      app_long = sym (length-take-le a' app app_room)

      pub starts : (g : Given) (ss : List Storage)
          → place_from g ss (record { maps = record { app = take a' app; wrk = take w' (replicate 512 0) }; slots = []; placed = [] }) ≡ place g a f w ss
      unfolding place fresh
      starts g ss =
          let h = header_low a f w e in
          let apps : take a' app ≡ replicate f 255 ++ replicate (a - f) 0 =
          ap (λ (k : ℕ). take k app) ea ∙ ap (take a) (q ∙ ap (λ (k : ℕ). fill 0 k (replicate 256 0)) ef) ∙ front 256 h.0 in
          let works : take {A = ℕ} w' (replicate 512 0) ≡ replicate w 0 = ap (λ (k : ℕ). take {A = ℕ} k (replicate 512 0)) ew ∙ take_clear w 512 h.2 in
          ap (place_from g ss) (λ j. record { maps = record { app = apps j; wrk = works j }; slots = []; placed = [] })
