-- The rows of slots while the links of a key are followed. A storage in slot k changes number k of a row and no other, and only if it passes the row's test;
-- so what a row tells, together with the storages that the links still lead to, stays the same, and at the end it is all. A number over 255 is no slot's.
use mathlib.Core.Path.{◌≡◌, refl, sym, ap, ◌∙◌}
use mathlib.Core.Bool.{Bool, true, false}
use mathlib.Core.List.{List}
use Prim.Native.Nat.{ℕ, zero, suc, ◌*◌, ◌≤◌, ◌<◌, min, max}
use native.Mathlib.Omega.{arith}
use lib.Dec.{eqb, ltb}
use lib.ListN.{length, get_or, replicate}
use borrow.Author.Tests.{ltb-true, ltb-false, eqb-true, eqb-false, eq-eqb, ne_eqb}
use Rattle.rows.specs.Row.{member, member_at, with, with_at}
use Rattle.rows.specs.Links.{last_of}
use Rattle.rows.proofs.Members.{member_at_zero, with_at_zero, length_with_at, member_with_same, member_with_other, member_none}
use Rattle.rows.proofs.Links.{last_cases, last_within, last_has}
use Rattle.fields.specs.Pick.{pick, pick_yes, ◌and◌, ◌or◌}
use Rattle.turns.specs.Held.{KinLinked, any_in, Marked}

-- ---- One storage

module _ (r : List ℕ) (slot k : ℕ) (four : length r ≡ 4) (low : k < 256) where
  -- A number that is no slot's is not k.
  none_past : ltb slot 256 ≡ false → eqb slot k ≡ true → ⊥
  none_past e q = omega (arith, ltb-false slot 256 e, eqb-true slot k q)

  put_in : (b t : Bool) → member_at r 0 k ≡ t → member_at (pick (ltb slot 256 and b) (with_at r 0 slot) r) 0 k ≡ ((eqb slot k and b) or t)
  unfolding pick
  put_in b t h = go (ltb slot 256) refl (eqb slot k) refl b
    where
      to_row : member_at (with_at r 0 slot) 0 k ≡ member (with r slot) k
      to_row = member_at_zero (with_at r 0 slot) k ∙ ap (λ (l : List ℕ). member l k) (with_at_zero r slot)

      inside : ltb slot 256 ≡ true → slot < 64 * length r
      inside e = omega (arith, ltb-true slot 256 e)

      go : (a : Bool) → ltb slot 256 ≡ a → (c : Bool) → eqb slot k ≡ c → (b : Bool)
          → member_at (pick (a and b) (with_at r 0 slot) r) 0 k ≡ ((c and b) or t)
      go false e false q b = h
      go false e true q b = absurd (none_past e q)
      go true e false q false = h
      go true e true q false = h
      go true e false q true = to_row ∙ member_with_other r slot (inside e) k (λ p. eqb-false slot k q (sym p)) ∙ sym (member_at_zero r k) ∙ h
      go true e true q true = to_row ∙ ap (member (with r slot)) (sym (eqb-true slot k q)) ∙ member_with_same r slot (inside e)

-- A choice of two rows of one length has that length.
pick_length : (t : Bool) (a b : List ℕ) → length a ≡ length b → length (pick t a b) ≡ length b
unfolding pick
pick_length true a b e = e
pick_length false a b e = refl

-- ---- All storages

pub none_marked : (k : ℕ) → member_at (replicate 4 0) 0 k ≡ false
none_marked k = member_at_zero (replicate 4 0) k ∙ member_none 4 k

-- One storage more: of the key, it counts if it is in the slot and passes; between the last of the key and the end none counts.
module _ (p : ℕ → Bool) (b k : ℕ) (ids keys numbers : List ℕ) where
  any_in_own : (n : ℕ) → get_or keys n 0 ≡ b
      → any_in p b k ids keys numbers (suc n) ≡ ((eqb (get_or numbers n 0) k and p (get_or ids n 0)) or any_in p b k ids keys numbers n)
  unfolding any_in
  any_in_own n e = ap (λ (t : Bool). t or any_in p b k ids keys numbers n) (pick_yes (eqb (get_or keys n 0) b) _ false (eq-eqb (get_or keys n 0) b e))

  any_in_last : (n : ℕ) → any_in p b k ids keys numbers (last_of b keys n) ≡ any_in p b k ids keys numbers n
  unfolding any_in last_of pick
  any_in_last zero = refl
  any_in_last (suc n) =
      last_cases b keys n (λ m. any_in p b k ids keys numbers m ≡ any_in p b k ids keys numbers (suc n)) (λ _. refl)
      (λ d. any_in_last n ∙ sym (ap (λ (t : Bool). (t and (eqb (get_or numbers n 0) k and p (get_or ids n 0))) or any_in p b k ids keys numbers n) (ne_eqb (get_or keys n 0) b d)))

and_true : (a : Bool) → (a and true) ≡ a
unfolding pick
and_true true = refl
and_true false = refl

or_false : (a : Bool) → (a or false) ≡ a
unfolding pick
or_false true = refl
or_false false = refl

or_turn : (a b c : Bool) → ((a or b) or c) ≡ (b or (a or c))
unfolding pick
or_turn true true c = refl
or_turn true false c = refl
or_turn false b c = refl

module _ (graph copies : List ℕ) (id b : ℕ) (ids keys numbers : List ℕ) (count : ℕ) where
  -- What a row tells, together with the storages below `next`, is what all of them come to.
  abbrev RowLeft : (ℕ → Bool) → ℕ → List ℕ → Type 0
  RowLeft p next row = (k : ℕ) → k < 256 → (member_at row 0 k or any_in p b k ids keys numbers next) ≡ any_in p b k ids keys numbers count

  -- The loop's invariant, where `next` - 1 is the storage to which the links lead.
  pub record Left (next : ℕ) (seen barred partners : List ℕ) : Type 0 where
    pub within : next ≤ count
    pub has : (i : ℕ) → next ≡ suc i → get_or keys i 0 ≡ b
    pub seen_left : RowLeft (λ j. true) next seen
    pub barred_left : RowLeft (λ j. member_at graph (id * 4) j) next barred
    pub partners_left : RowLeft (λ j. member_at copies (min id j * 4) (max id j)) next partners
    pub seen_four : length seen ≡ 4
    pub barred_four : length barred ≡ 4
    pub partners_four : length partners ≡ 4

  -- At first no slot is marked, and the last storage of the key is next.
  row_start : (p : ℕ → Bool) (row : List ℕ) (next : ℕ) → row ≡ replicate 4 0 → next ≡ last_of b keys count → RowLeft p next row
  unfolding pick
  row_start p row next e q k l =
      ap (λ (r : List ℕ). member_at r 0 k or any_in p b k ids keys numbers next) e ∙ ap (λ (t : Bool). t or any_in p b k ids keys numbers next) (none_marked k)
      ∙ ap (any_in p b k ids keys numbers) q ∙ any_in_last p b k ids keys numbers count

  pub mark_start : (next : ℕ) (seen barred partners : List ℕ) → next ≡ last_of b keys count → seen ≡ replicate 4 0 → barred ≡ replicate 4 0 → partners ≡ replicate 4 0
      → Left next seen barred partners
  mark_start next seen barred partners q es eb ep =
      record {
        within = omega (arith, last_within b keys count);
        has = λ i e. last_has b keys count i (sym q ∙ e);
        seen_left = row_start _ seen next es q;
        barred_left = row_start _ barred next eb q;
        partners_left = row_start _ partners next ep q;
        seen_four = ap length es;
        barred_four = ap length eb;
        partners_four = ap length ep;
      }

  module _ {next : ℕ} {seen barred partners : List ℕ} (m : Left next seen barred partners) where
    module _ (kin : List ℕ) (linked : KinLinked keys kin count) (i : ℕ) (at : next ≡ suc i) where
      -- The links lead on downwards, to the last one before of the same key.
      leads : get_or kin i 0 ≡ last_of b keys i
      leads = linked.before_is i (omega (arith, m.within)) ∙ ap (λ (c : ℕ). last_of c keys i) (m.has i at)

      pub leads_down : get_or kin i 0 < next
      leads_down = omega (arith, leads, last_within b keys i)

      -- A row in which the storage's slot was marked, if the storage passes the row's test.
      row_next : (p : ℕ → Bool) (row : List ℕ) → length row ≡ 4 → RowLeft p next row
          → RowLeft p (get_or kin i 0) (pick (ltb (get_or numbers i 0) 256 and p (get_or ids i 0)) (with_at row 0 (get_or numbers i 0)) row)
      row_next p row four e k l =
          ap (λ (t : Bool). t or any_in p b k ids keys numbers (get_or kin i 0)) (put_in row (get_or numbers i 0) k four l (p (get_or ids i 0)) _ refl)
          ∙ or_turn (eqb (get_or numbers i 0) k and p (get_or ids i 0)) (member_at row 0 k) (any_in p b k ids keys numbers (get_or kin i 0))
          ∙ ap (λ (t : Bool). member_at row 0 k or ((eqb (get_or numbers i 0) k and p (get_or ids i 0)) or t)) (ap (any_in p b k ids keys numbers) leads ∙ any_in_last p b k ids keys numbers i)
          ∙ ap (λ (t : Bool). member_at row 0 k or t) (sym (any_in_own p b k ids keys numbers i (m.has i at)))
          ∙ ap (λ (n : ℕ). member_at row 0 k or any_in p b k ids keys numbers n) (sym at) ∙ e k l

      -- What is left once the storage is marked.
      pub mark_next : (next' : ℕ) (seen' barred' partners' : List ℕ) → next' ≡ get_or kin i 0
          → seen' ≡ pick (ltb (get_or numbers i 0) 256) (with_at seen 0 (get_or numbers i 0)) seen
          → barred' ≡ pick (ltb (get_or numbers i 0) 256 and member_at graph (id * 4) (get_or ids i 0)) (with_at barred 0 (get_or numbers i 0)) barred
          → partners'
          ≡ pick (ltb (get_or numbers i 0) 256 and member_at copies (min id (get_or ids i 0) * 4) (max id (get_or ids i 0))) (with_at partners 0 (get_or numbers i 0)) partners
          → Left next' seen' barred' partners'
      mark_next next' seen' barred' partners' en es eb ep = rw (en, es, eb, ep) (
          record {
            within = omega (arith, leads_down, m.within);
            has = λ j e. last_has b keys i j (sym leads ∙ e);
            seen_left = λ k l.
                ap (λ (t : Bool). member_at (pick t (with_at seen 0 (get_or numbers i 0)) seen) 0 k or any_in (λ j. true) b k ids keys numbers (get_or kin i 0)) (sym (and_true (ltb (get_or numbers i 0) 256)))
                ∙ row_next (λ j. true) seen m.seen_four m.seen_left k l;
            barred_left = row_next _ barred m.barred_four m.barred_left;
            partners_left = row_next _ partners m.partners_four m.partners_left;
            seen_four = pick_length _ _ _ (length_with_at seen 0 (get_or numbers i 0)) ∙ m.seen_four;
            barred_four = pick_length _ _ _ (length_with_at barred 0 (get_or numbers i 0)) ∙ m.barred_four;
            partners_four = pick_length _ _ _ (length_with_at partners 0 (get_or numbers i 0)) ∙ m.partners_four;
          })

    -- Where the links end, the rows tell of all.
    row_end : next ≤ 0 → (p : ℕ → Bool) (row : List ℕ) → RowLeft p next row → (k : ℕ) → k < 256 → member_at row 0 k ≡ any_in p b k ids keys numbers count
    unfolding any_in
    row_end h p row e k l =
        let none : next ≡ 0 = omega arith in
        sym (or_false (member_at row 0 k)) ∙ ap (λ (n : ℕ). member_at row 0 k or any_in p b k ids keys numbers n) (sym none) ∙ e k l

    pub mark_end : next ≤ 0 → Marked graph copies id b ids keys numbers count seen barred partners
    mark_end h =
        record {
          seen_are = row_end h _ seen m.seen_left;
          barred_are = row_end h _ barred m.barred_left;
          partners_are = row_end h _ partners m.partners_left;
          seen_four = m.seen_four;
          barred_four = m.barred_four;
          partners_four = m.partners_four;
        }
