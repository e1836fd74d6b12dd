-- What is noted of one storage more. The code keeps ids, slot numbers and slots at the front of arrays and the result records at the front of a buffer; a
-- store right behind the front puts one element at the end of the list that stands there, and the rest of the buffer stays clear.
use Rattle.std.specs.Prelude.{Option, Some, None, Result, Ok}
use mathlib.Core.Path.{◌≡◌, refl, sym, ap, ap₂, ◌∙◌, subst}
use mathlib.Core.Bool.{Bool, true, false}
use mathlib.Core.List.{List, [], ◌∷◌, ◌++◌, map, map-append, append-nil, append_assoc}
use Prim.Native.Nat.{ℕ, ◌+◌, ◌-◌, ◌*◌, ◌≤◌, ◌<◌}
use native.Mathlib.Omega.{arith}
use native.Mathlib.Numerals.{add-one}
use native.Mathlib.Decide.{ℕ_discrete}
use lib.ListN.{length, take, drop, get_or, set, replicate, length-append, length-set, length-replicate, replicate-append-replicate, length-map, get_or-map}
use borrow.Rule.Slice.PartMut.{put_mid}
use lib.Seq.{drop-drop, take-suc-set, take-append_seam, drop-append-add, drop_at, drop-nil, get_or-take, get_or-set_same, get_or-set_other, map-set_same}
use Rattle.rows.specs.Row.{put}
use Rattle.fields.specs.Pick.{pick}
use Rattle.records.specs.Outcome.{laid}
use Rattle.storages.specs.declared.Placement.{Placement}
use Rattle.storages.specs.declared.Storage.{Storage}
use Rattle.storages.specs.declared.Room.{Room}
use Rattle.storages.specs.Storage.{tries}
use Rattle.storages.specs.Room.{room}
use Rattle.slots.specs.declared.Slot.{Slot}
use Rattle.slots.specs.Slots.{no_slot, opened}
use Rattle.places.specs.Memory.{Maps, reserve}
use Rattle.places.specs.Place.{Opened, no_opened, joined, Placed, State, Outcome, done, placed_at, join_slot, record_at, record_of, records_of}
use Rattle.turns.specs.Held.{slot_number, key_by, key_of, slot_key, keys_of, KinLinked, linked_at, Numbered, Kept, Held, list_after, count_after, TurnedBy}
use Rattle.turns.proofs.Joining.{slot_at}
use Rattle.turns.proofs.Numbering.{AllKeyed, join_numbered, join_keyed, take_numbered, take_keyed}
use Rattle.turns.proofs.Turns.{records_length, records_snoc}
use Rattle.turns.proofs.Linking.{linked_more}
use Rattle.records.specs.declared.Refusal.{Refusal}

-- ---- A result record

-- The eight bytes of a record, copied into their part of the buffer.
pub record_put : (out new : List ℕ) (at n id : ℕ) (p : Placement) → n ≡ 8 → new ≡ record_at id p → put_mid at n out new ≡ put out at (record_at id p)
unfolding put
record_put out new at n id p e q =
    ap₂ (λ (k : ℕ) (r : List ℕ). put_mid at k out r) e q ∙ ap (λ (d : List ℕ). take at out ++ (record_at id p ++ d)) (drop-drop 8 at out)
    ∙ sym (append_assoc (take at out) (record_at id p) (drop (at + 8) out))

-- A list laid at the front of a clear buffer, and what is written right behind it.
drop_clear : (k n m : ℕ) → n ≡ k + m → drop {A = ℕ} k (replicate n 0) ≡ replicate m 0
drop_clear k n m e =
    ap (λ (j : ℕ). drop {A = ℕ} k (replicate j 0)) e
    ∙ ap (drop k) (sym (replicate-append-replicate {A = ℕ} k m 0)) ∙ drop_at {A = ℕ} (replicate k 0) (replicate m 0) k (length-replicate {A = ℕ} k 0)

laid_plain : (n : ℕ) (us : List ℕ) → laid n us [] ≡ us ++ replicate (n - length us) 0
unfolding laid
laid_plain n us = ap (λ (l : List ℕ). (us ++ replicate (n - length us) 0) ++ l) (drop-nil n) ∙ append-nil (us ++ replicate (n - length us) 0)

laid_put : (n : ℕ) (us r : List ℕ) → length us + length r ≤ n → put (laid n us []) (length us) r ≡ laid n (us ++ r) []
unfolding put
laid_put n us r h =
    ap (λ (d : List ℕ). put d (length us) r) (laid_plain n us)
    ∙ ap (λ (l : List ℕ). (l ++ r) ++ drop (length us + length r) (us ++ replicate (n - length us) 0)) (take-append_seam us (replicate (n - length us) 0))
    ∙ ap (λ (l : List ℕ). (us ++ r) ++ l)
    (drop-append-add us (replicate (n - length us) 0) (length r) ∙ drop_clear (length r) (n - length us) (n - length (us ++ r)) (omega (arith, length-append us r)))
    ∙ sym (laid_plain n (us ++ r))

records_more : (out : List ℕ) (ys : List Placed) (y : Placed) (i : ℕ) → i ≡ length ys → i < 256 → out ≡ laid 2048 (records_of ys) []
    → put out (i * 8) (record_of y) ≡ laid 2048 (records_of (ys ++ (y ∷ []))) []
records_more out ys y i n h e =
    let l : length (records_of ys) ≡ 8 * length ys = records_length ys in
    let at : i * 8 ≡ length (records_of ys) = omega arith in
    ap (λ (d : List ℕ). put d (i * 8) (record_of y)) e ∙ ap (λ (k : ℕ). put (laid 2048 (records_of ys) []) k (record_of y)) at
    ∙ laid_put 2048 (records_of ys) (record_of y) (omega arith) ∙ sym (ap (λ (us : List ℕ). laid 2048 us []) (records_snoc ys y))

-- ---- Lists at the front of arrays

front_more : {A : Type 0} (l xs : List A) (i : ℕ) (v : A) → i < length l → take i l ≡ xs → take (i + 1) (set l i v) ≡ xs ++ (v ∷ [])
front_more {A} l xs i v h e = rw add-one (take-suc-set l i v h ∙ ap (λ (ys : List A). ys ++ (v ∷ [])) e)

low_more : (ids : List ℕ) (i id : ℕ) → i < length ids → id < 256 → ((j : ℕ) → j < i → get_or ids j 0 < 256) → (j : ℕ) → j < i + 1 → get_or (set ids i id) j 0 < 256
low_more ids i id h l low j b = go (ℕ_discrete j i)
  where
    go : Dec (j ≡ i) → get_or (set ids i id) j 0 < 256
    go (yes e) = rw (e, get_or-set_same ids i id 0 h) l
    go (no e) = rw (get_or-set_other ids i j id 0 e) (low j (omega arith))

key_low : (s : Storage) → key_of s < 256
unfolding key_by
key_low s = omega arith

keys_more : (ys : List Placed) (y : Placed) (kin : List ℕ) (i : ℕ) → length kin ≡ 512 → i ≡ length ys → i < 256 → KinLinked (keys_of ys) kin i
    → KinLinked (keys_of (ys ++ (y ∷ []))) (linked_at kin i (key_of y.what)) (i + 1)
keys_more ys y kin i lk n h l =
    rw (map-append (λ (z : Placed). key_of z.what) ys (y ∷ []))
    (linked_more (keys_of ys) kin i (key_of y.what) l lk (n ∙ sym (length-map ys (λ (z : Placed). key_of z.what))) h (key_low y.what))

module _ (x : State) (list : List Slot) (n : ℕ) (ids kin numbers : List ℕ) (i : ℕ) (h : Kept x list n ids kin numbers i) where
  module _ (li : length ids ≡ 256) (lk : length kin ≡ 512) (ln : length numbers ≡ 256) (room_left : i < 256) where
    -- One storage more at the end, and slots that stand for the new state's.
    kept_more : (m : Maps) (ss : List Opened) (y : Placed) (list' : List Slot) (n' number : ℕ) → number ≡ slot_number y.slot → y.what.id < 256
        → Numbered (record { maps = m; slots = ss; placed = x.placed ++ (y ∷ []) }) → AllKeyed ss (x.placed ++ (y ∷ []))
        → n' ≡ length ss → take n' list' ≡ map (λ (o : Opened). o.slot) ss → n' ≤ i + 1
        → Kept (record { maps = m; slots = ss; placed = x.placed ++ (y ∷ []) }) list' n' (set ids i y.what.id) (linked_at kin i (key_of y.what)) (set numbers i number) (i + 1)
    kept_more m ss y list' n' number e low nd kd tn ts tf = record {
      many = tn;
      slots_are = ts;
      count = omega (arith, h.count, length-append x.placed (y ∷ []));
      ids_are = front_more ids _ i y.what.id (omega arith) h.ids_are ∙ sym (map-append (λ (z : Placed). z.what.id) x.placed (y ∷ []));
      linked = keys_more x.placed y kin i lk h.count room_left h.linked;
      numbers_are =
          ap (λ (k : ℕ). take (i + 1) (set numbers i k)) e
          ∙ front_more numbers _ i (slot_number y.slot) (omega arith) h.numbers_are ∙ sym (map-append (λ (z : Placed). slot_number z.slot) x.placed (y ∷ []));
      numbered = nd;
      keyed = kd;
      low = low_more ids i y.what.id (omega arith) low h.low;
      few = tf;
    }

  -- The slot that a number names, in the code's list and in the state's.
  pub slot_there : (k : ℕ) → k < n → get_or list k no_slot ≡ (get_or x.slots k no_opened).slot
  slot_there k l =
      sym (get_or-take n list k no_slot l)
      ∙ ap (λ (ts : List Slot). get_or ts k no_slot) h.slots_are ∙ get_or-map (λ (o : Opened). o.slot) x.slots k no_opened

  -- A slot that a storage opens comes after the others.
  module _ (s : Storage) (p : Placement) where
    abbrev own : Opened
    own = record { slot = opened s p; members = s.id ∷ [] }

    abbrev StandFor : List Slot → ℕ → List Opened → Type 0
    StandFor l m ss = (m ≡ length ss) × (take m l ≡ map (λ (o : Opened). o.slot) ss) × (m ≤ i + 1)

    opened_for : n < length list
        → StandFor (list_after list n s (Ok (pick (tries s) (Some p) None))) (count_after n (Ok (pick (tries s) (Some p) None))) (pick (tries s) (x.slots ++ (own ∷ [])) x.slots)
    unfolding pick
    opened_for l = go (tries s)
      where
        go : (b : Bool) → StandFor (list_after list n s (Ok (pick b (Some p) None))) (count_after n (Ok (pick b (Some p) None))) (pick b (x.slots ++ (own ∷ [])) x.slots)
        go true = (
          omega (arith, h.many, length-append x.slots (own ∷ [])),
          front_more list _ n (opened s p) l h.slots_are ∙ sym (map-append (λ (o : Opened). o.slot) x.slots (own ∷ [])),
          omega (arith, h.few),
        )
        go false = (h.many, h.slots_are, omega (arith, h.few))

    number_for : (number : ℕ) → number ≡ pick (tries s) n 256 → number ≡ slot_number (pick (tries s) (Some (length x.slots)) None)
    unfolding pick
    number_for number e = e ∙ go (tries s)
      where
        go : (b : Bool) → pick b n 256 ≡ slot_number (pick b (Some (length x.slots)) None)
        go true = h.many
        go false = refl

pub number_low : (b : Bool) (n r : ℕ) → n ≤ 256 → r ≡ pick b n 256 → r ≤ 256
unfolding pick
number_low true n r h e = omega arith
number_low false n r h e = omega arith

-- ---- The whole state

-- The state in which the storage has a place of its own.
abbrev taken : Storage → State → Placement → State
taken s x p = record {
  maps = reserve (room s.len p) x.maps;
  slots = pick (tries s) (x.slots ++ (record { slot = opened s p; members = s.id ∷ [] } ∷ [])) x.slots;
  placed = placed_at s p (pick (tries s) (Some (length x.slots)) None) x.placed;
}

module _ (s : Storage) (x : State) (app wrk : List ℕ) (list : List Slot) (n : ℕ) (ids kin numbers out : List ℕ) (i : ℕ) (h : Held x app wrk list n ids kin numbers out i)
    (li : length ids ≡ 256) (lk : length kin ≡ 512) (ln : length numbers ≡ 256) (room_left : i < 256) (low : s.id < 256)
    (ids' kin' numbers' out' : List ℕ) (number : ℕ) (p : Placement)
    (ei : ids' ≡ set ids i s.id) (ew : kin' ≡ linked_at kin i (key_of s)) (en : numbers' ≡ set numbers i number) (eo : out' ≡ put out (i * 8) (record_at s.id p)) where
  -- The slot of a number takes the storage in.
  pub joined_held : number < n → slot_key (slot_at x.slots number).slot ≡ key_of s → p ≡ (get_or list number no_slot).placement
      → Held (join_slot s x number) app wrk list n ids' kin' numbers' out' (i + 1)
  joined_held l eq e =
      let k = h.kept in
      let t : Opened = get_or x.slots number no_opened in
      let there : p ≡ t.slot.placement = e ∙ ap (λ (o : Slot). o.placement) (slot_there x list n ids kin numbers i k number l) in
      let y : Placed = record { what = s; spot = t.slot.placement; slot = Some number } in
      let low_number : number < length x.slots = omega (arith, k.many) in
      record {
        app_is = h.app_is;
        wrk_is = h.wrk_is;
        kept =
            rw (ei, ew, en)
            (kept_more x list n ids kin numbers i k li lk ln room_left x.maps (set x.slots number (joined s.id t)) y list n number refl low
            (join_numbered s x k.numbered number low_number) (join_keyed s x k.numbered number low_number eq k.keyed)
            (k.many ∙ sym (length-set x.slots number (joined s.id t)))
            (k.slots_are ∙ sym (map-set_same (λ (o : Opened). o.slot) x.slots number (joined s.id t) no_opened refl)) (omega (arith, k.few)));
        out_is = eo ∙ ap (λ (q : Placement). put out (i * 8) (record_at s.id q)) there ∙ records_more out x.placed y i k.count room_left h.out_is;
      }

  -- The storage takes a place of its own, and may open a slot there.
  module _ (app' wrk' : List ℕ) (r : Room) (ll : length list ≡ 256) (e : number ≡ pick (tries s) n 256) (er : r ≡ room s.len p)
      (em : record { app = app'; wrk = wrk' } ≡ reserve r (record { app = app; wrk = wrk })) where
    taken_held : Held (taken s x p) app' wrk' (list_after list n s (Ok (pick (tries s) (Some p) None))) (count_after n (Ok (pick (tries s) (Some p) None))) ids' kin' numbers' out' (i + 1)
    taken_held =
        let k = h.kept in
        let y : Placed = record { what = s; spot = p; slot = pick (tries s) (Some (length x.slots)) None } in
        let now : record { app = app; wrk = wrk } ≡ x.maps = (λ j. record { app = h.app_is j; wrk = h.wrk_is j }) in
        let maps : record { app = app'; wrk = wrk' } ≡ reserve (room s.len p) x.maps = em ∙ ap (λ (q : Room). reserve q (record { app = app; wrk = wrk })) er ∙ ap (reserve (room s.len p)) now in
        let o = opened_for x list n ids kin numbers i k s p (omega (arith, k.few)) in
        record {
          app_is = ap (λ (m : Maps). m.app) maps;
          wrk_is = ap (λ (m : Maps). m.wrk) maps;
          kept =
              rw (ei, ew, en)
              (kept_more x list n ids kin numbers i k li lk ln room_left (reserve (room s.len p) x.maps) _ y (list_after list n s (Ok (pick (tries s) (Some p) None))) (count_after n (Ok (pick (tries s) (Some p) None))) number
              (number_for x list n ids kin numbers i k s p number e) low (take_numbered s x k.numbered p (reserve (room s.len p) x.maps) (tries s))
              (take_keyed s x k.numbered p (tries s) k.keyed) o.0 o.1 o.2);
          out_is = eo ∙ records_more out x.placed y i k.count room_left h.out_is;
        }

    -- The verdict tells whether it did.
    pub taken_turned : (o : Outcome) (v : Result (Option Placement) Refusal) → o ≡ done (taken s x p) → v ≡ Ok (pick (tries s) (Some p) None)
        → TurnedBy o v app' wrk' (list_after list n s v) (count_after n v) ids' kin' numbers' out' (i + 1)
    unfolding pick
    taken_turned o v q ev =
        subst (λ (u : Result (Option Placement) Refusal). TurnedBy o u app' wrk' (list_after list n s u) (count_after n u) ids' kin' numbers' out' (i + 1)) (sym ev) (go (tries s) taken_held)
      where
        go : (b : Bool) → Held (taken s x p) app' wrk' (list_after list n s (Ok (pick b (Some p) None))) (count_after n (Ok (pick b (Some p) None))) ids' kin' numbers' out' (i + 1)
            → TurnedBy o (Ok (pick b (Some p) None)) app' wrk' (list_after list n s (Ok (pick b (Some p) None))) (count_after n (Ok (pick b (Some p) None))) ids' kin' numbers' out' (i + 1)
        go true t = (taken s x p, q, t)
        go false t = (taken s x p, q, t)
