-- A loop over the members of a row that changes a buffer once for each, by the member's storage. What the members still ahead make of the buffer now is
-- what all of them make of the buffer at the start, so at the end the buffer is that.
use mathlib.Core.Path.{◌≡◌, refl, sym, ap, ap₂, ◌∙◌}
use mathlib.Core.Bool.{Bool, true, false}
use mathlib.Core.List.{List, [], ◌∷◌, ◌++◌, map}
use Prim.Native.Nat.{ℕ, suc, ◌+◌, ◌-◌, ◌*◌, ◌/◌, ◌^◌, ◌≤◌, ◌<◌, min, max}
use native.Mathlib.Nat.{div-one}
use native.Mathlib.Omega.{arith}
use lib.ListN.{length, get_or}
use lib.Bits.{bit_or}
use Rattle.rows.specs.Row.{Words, with_at, row, put, or_row, less_row, less}
use Rattle.rows.proofs.Rows.{length_row, length_zip, row_whole, put_whole}
use Rattle.fields.specs.Pick.{pick_yes, pick_no}
use Rattle.units.specs.Sets.{each}
use Rattle.meetings.specs.Members.{Lowest, ahead, members}
use Rattle.meetings.specs.Visits.{left}
use Rattle.meetings.specs.declared.members.Members.{Members}
use Rattle.meetings.specs.Meeting.{storage_at, storages_at, paired, unit_pairs, unit_rows, less_rows, poured, wanted, met, pairs_to, copy_pairs}
use Rattle.meetings.proofs.Firsts.{ahead_end, ahead_below, word_room, word_next, word_rest, word_done}

-- What the iterator over a row's members has left at first, and what it gives.
pub left_all : (s t : Members) (r : List ℕ) → s ≡ t → (t.row.now ≡ r) × (t.next ≡ 0) → left s ≡ members r
left_all s t r e f = ap left e ∙ ap₂ ahead f.0 f.1

pub left_below : (s : Members) (v : ℕ) (l : List ℕ) → left s ≡ v ∷ l → v < 512
left_below s v l e = omega (arith, ahead_below s.row.now s.next v l (omega (arith, s.within, s.eight)) e, s.eight)

-- The members `rest` of `all` are still to come.
pub record Visiting (F : List ℕ → List ℕ → List ℕ) (words all rest start now : List ℕ) : Type 0 where
  pub same : F (storages_at words rest) now ≡ F (storages_at words all) start

module _ (F : List ℕ → List ℕ → List ℕ) (words all start : List ℕ) where
  pub visit_start : (rest : List ℕ) → rest ≡ all → Visiting F words all rest start start
  visit_start rest e = record { same = ap (λ (ns : List ℕ). F (storages_at words ns) start) e }

  module _ {now rest : List ℕ} (w : Visiting F words all rest start now) where
    pub visit_on : (next rest' : List ℕ) (v i : ℕ) → rest ≡ v ∷ rest' → i ≡ storage_at words v → ((is : List ℕ) → F (i ∷ is) now ≡ F is next) → Visiting F words all rest' start next
    unfolding storages_at
    visit_on next rest' v i e q f = record {
      same =
          sym (f (storages_at words rest')) ∙ ap (λ (j : ℕ). F (j ∷ storages_at words rest') now) q
          ∙ ap (λ (ns : List ℕ). F (storages_at words ns) now) (sym e) ∙ w.same;
    }

    pub visit_end : rest ≡ [] → F [] now ≡ now → now ≡ F (storages_at words all) start
    unfolding storages_at
    visit_end e h = sym h ∙ ap (λ (ns : List ℕ). F (storages_at words ns) now) (sym e) ∙ w.same

-- ---- the same over one word, which is held in hand: the members from its start on and those from its end on make of the buffers the same

pub record Wording (F : List ℕ → List ℕ → List ℕ) (words r : List ℕ) (size n : ℕ) (start now : List ℕ) (v left : ℕ) : Type 0 where
  pub len : length now ≡ size
  pub low : n * 64 ≤ v
  pub high : v ≤ n * 64 + 64
  pub rest : left ≡ get_or r n 0 / 2 ^ (v - n * 64)
  pub same : F (storages_at words (ahead r v)) now ≡ F (storages_at words (ahead r (n * 64))) start

module _ (F : List ℕ → List ℕ → List ℕ) (words r : List ℕ) (size n : ℕ) (start : List ℕ) (inside : n < length r) (ws : Words r) where
  pub word_start : length start ≡ size → Wording F words r size n start start (n * 64) (get_or r n 0)
  word_start l =
      let z : n * 64 - n * 64 ≡ 0 = omega arith in
      record { len = l; low = omega arith; high = omega arith; rest = sym (ap (λ (x : ℕ). get_or r n 0 / 2 ^ x) z ∙ div-one (get_or r n 0)); same = refl }

  module _ {now : List ℕ} {v left : ℕ} (w : Wording F words r size n start now v left) where
    pub word_fits : (t : ℕ) → Lowest left t → v + t < n * 64 + 64
    word_fits t l = word_room r n v left w.low inside ws w.rest t l

    pub word_on : (t i : ℕ) (next : List ℕ) → Lowest left t → length next ≡ size → i ≡ storage_at words (v + t) → ((is : List ℕ) → F (i ∷ is) now ≡ F is next)
        → Wording F words r size n start next (v + (t + 1)) (left / 2 ^ t / 2 ^ 1)
    unfolding storages_at
    word_on t i next l z q e =
        let a : v + (t + 1) ≡ v + t + 1 = omega arith in
        record {
          len = z;
          low = omega (arith, w.low);
          high = omega (arith, word_fits t l);
          rest = word_rest r n v left w.low inside ws w.rest t;
          same =
              ap (λ (x : ℕ). F (storages_at words (ahead r x)) next) a ∙ sym (e (storages_at words (ahead r (v + t + 1))))
              ∙ ap (λ (j : ℕ). F (j ∷ storages_at words (ahead r (v + t + 1))) now) q
              ∙ ap (λ (ns : List ℕ). F (storages_at words ns) now) (sym (word_next r n v left w.low inside ws w.rest t l)) ∙ w.same;
        }

    pub word_end : left ≡ 0 → F (storages_at words (ahead r (n * 64))) start ≡ F (storages_at words (ahead r (n * 64 + 64))) now
    word_end z = sym w.same ∙ ap (λ (ns : List ℕ). F (storages_at words ns) now) (word_done r n v left w.low inside ws w.rest z w.high)

-- Word after word, to the row's end.
pub record Rowing (F : List ℕ → List ℕ → List ℕ) (words r : List ℕ) (size : ℕ) (start now : List ℕ) (n : ℕ) : Type 0 where
  pub len : length now ≡ size
  pub high : n ≤ 8
  pub same : F (storages_at words (ahead r (n * 64))) now ≡ F (storages_at words (members r)) start

module _ (F : List ℕ → List ℕ → List ℕ) (words r : List ℕ) (size : ℕ) (start : List ℕ) where
  pub row_start : length start ≡ size → Rowing F words r size start start 0
  row_start l = record { len = l; high = omega arith; same = refl }

  module _ {now : List ℕ} {n : ℕ} (w : Rowing F words r size start now n) where
    pub row_on : (next : List ℕ) → n < 8 → length next ≡ size → F (storages_at words (ahead r (n * 64))) now ≡ F (storages_at words (ahead r (n * 64 + 64))) next
        → Rowing F words r size start next (n + 1)
    row_on next h l e =
        let a : (n + 1) * 64 ≡ n * 64 + 64 = omega arith in
        record { len = l; high = omega arith; same = ap (λ (x : ℕ). F (storages_at words (ahead r x)) next) a ∙ sym e ∙ w.same }

    pub row_end : length r ≡ 8 → 8 ≤ n → F [] now ≡ now → now ≡ F (storages_at words (members r)) start
    unfolding storages_at
    row_end l h e = sym e ∙ ap (λ (ns : List ℕ). F (storages_at words ns) now) (sym (ahead_end r (n * 64) (omega arith))) ∙ w.same

-- ---- what one member makes of each buffer

pub less_next : (rows x x' : List ℕ) (i : ℕ) → length x ≡ 8 → i * 8 + 8 ≤ length rows
    → x' ≡ put x 0 (less_row (row x 0 8) (row rows (i * 8) 8)) → (is : List ℕ) → less_rows rows (i ∷ is) x ≡ less_rows rows is x'
unfolding less_rows
less_next rows x x' i l h e is =
    let w : row x 0 8 ≡ x = row_whole x 8 (omega arith) in
    let b : length (row rows (i * 8) 8) ≡ 8 = length_row rows (i * 8) 8 h in
    let n : length (less_row x (row rows (i * 8) 8)) ≡ length x = length_zip less x (row rows (i * 8) 8) (l ∙ sym b) in
    sym (ap (less_rows rows is) (e ∙ ap (λ (y : List ℕ). put x 0 (less_row y (row rows (i * 8) 8))) w ∙ put_whole x _ (sym n)))

pub pour_next : (x meets meets' : List ℕ) (i : ℕ) → length x ≡ 8
    → meets' ≡ put meets (i * 8) (or_row (row meets (i * 8) 8) (row x 0 8)) → (is : List ℕ) → poured x (i ∷ is) meets ≡ poured x is meets'
unfolding poured
pour_next x meets meets' i l e is =
    sym (ap (poured x is) (e ∙ ap (λ (y : List ℕ). put meets (i * 8) (or_row (row meets (i * 8) 8) y)) (row_whole x 8 (omega arith))))

pub pair_next : (i j : ℕ) (ws ws' : List ℕ) → ws' ≡ with_at ws (min i j * 4) (max i j)
    → (js : List ℕ) → paired 4 (pairs_to i (j ∷ js)) ws ≡ paired 4 (pairs_to i js) ws'
unfolding paired pairs_to
pair_next i j ws ws' e js = sym (ap (paired 4 (pairs_to i js)) e)

pub paired_append : (w : ℕ) (ps qs : List (ℕ × ℕ)) (ws : List ℕ) → paired w (ps ++ qs) ws ≡ paired w qs (paired w ps ws)
unfolding paired
paired_append w [] qs ws = refl
paired_append w (p ∷ ps) qs ws = paired_append w ps qs (with_at ws (p.0 * w) p.1)

pub copy_next : (from : List ℕ) (i : ℕ) (ws ws' : List ℕ) → ws' ≡ paired 4 (pairs_to i from) ws
    → (is : List ℕ) → paired 4 (copy_pairs (i ∷ is) from) ws ≡ paired 4 (copy_pairs is from) ws'
unfolding copy_pairs each
copy_next from i ws ws' e is =
    paired_append 4 (pairs_to i from) (copy_pairs is from) ws ∙ sym (ap (paired 4 (copy_pairs is from)) e)

pub address_next : (i : ℕ) (ws ws' : List ℕ) → ws' ≡ with_at ws 0 i
    → (is : List ℕ) → paired 4 (map (λ (j : ℕ). (0, j)) (i ∷ is)) ws ≡ paired 4 (map (λ (j : ℕ). (0, j)) is) ws'
unfolding paired
address_next i ws ws' e is = sym (ap (paired 4 (map (λ (j : ℕ). (0, j)) is)) e)

-- ---- the smaller id first

module _ (ws ws' : List ℕ) (i j : ℕ) where
  pub note_first : i < j → ws' ≡ with_at ws (i * 4) j → ws' ≡ with_at ws (min i j * 4) (max i j)
  note_first h e =
      let a : i ≡ min i j = omega arith in
      let b : j ≡ max i j = omega arith in
      e ∙ ap (λ (k : ℕ). with_at ws (k * 4) j) a ∙ ap (with_at ws (min i j * 4)) b

  pub note_second : j ≤ i → ws' ≡ with_at ws (j * 4) i → ws' ≡ with_at ws (min i j * 4) (max i j)
  note_second h e =
      let a : j ≡ min i j = omega arith in
      let b : i ≡ max i j = omega arith in
      e ∙ ap (λ (k : ℕ). with_at ws (k * 4) i) a ∙ ap (with_at ws (min i j * 4)) b

-- ---- the row of what is wanted, before the sparing

pub want_row : (x live reads y z : List ℕ) → length x ≡ 8 → length live ≡ 8 → length reads ≡ 8 → y ≡ put x 0 (row live 0 8)
    → z ≡ put y 0 (or_row (row y 0 8) (row reads 0 8)) → z ≡ or_row live reads
want_row x live reads y z lx ll lr e f =
    let a : row live 0 8 ≡ live = row_whole live 8 (omega arith) in
    let b : row reads 0 8 ≡ reads = row_whole reads 8 (omega arith) in
    let p : y ≡ live = e ∙ ap (put x 0) a ∙ put_whole x live (lx ∙ sym ll) in
    let n : length (or_row live reads) ≡ 8 = length_zip bit_or live reads (ll ∙ sym lr) ∙ ll in
    f ∙ ap (λ (l : List ℕ). put l 0 (or_row (row l 0 8) (row reads 0 8))) p ∙ ap (λ (l : List ℕ). put live 0 (or_row l (row reads 0 8))) a
    ∙ ap (λ (l : List ℕ). put live 0 (or_row live l)) b ∙ put_whole live (or_row live reads) (ll ∙ sym n)

-- ---- at a copy the source is spared

module _ (rows words live reads : List ℕ) (copying : Bool) (x : List ℕ) (e : x ≡ or_row live reads) where
  pub want_copy : (x' : List ℕ) → copying ≡ true → x' ≡ less_rows rows (storages_at words (members reads)) x → x' ≡ wanted rows words live reads copying
  unfolding wanted
  want_copy x' t q = q ∙ ap (less_rows rows (storages_at words (members reads))) e ∙ sym (pick_yes copying _ _ t)

  pub want_plain : copying ≡ false → x ≡ wanted rows words live reads copying
  unfolding wanted
  want_plain t = e ∙ sym (pick_no copying _ _ t)

pub met_by : (meets meets' rows words live reads writes : List ℕ) (copying : Bool) (x : List ℕ) → x ≡ wanted rows words live reads copying
    → meets' ≡ poured x (storages_at words (members writes)) meets → meets' ≡ met meets rows words live reads writes copying
unfolding met
met_by meets meets' rows words live reads writes copying x e q = q ∙ ap (λ (y : List ℕ). poured y (storages_at words (members writes)) meets) e

-- ---- the units one after another

pub record Entering (words : List ℕ) (count : ℕ) (start now : List ℕ) (n : ℕ) : Type 0 where
  pub len : length now ≡ 2048
  pub high : n ≤ count
  pub same : paired 8 (unit_pairs words n (count - n)) now ≡ unit_rows words count start

module _ (words : List ℕ) (count : ℕ) (start : List ℕ) where
  pub enter_start : length start ≡ 2048 → Entering words count start start 0
  unfolding unit_rows
  enter_start l =
      let z : count - 0 ≡ count = omega arith in
      record { len = l; high = omega arith; same = ap (λ (k : ℕ). paired 8 (unit_pairs words 0 k) start) z }

  module _ {now : List ℕ} {n : ℕ} (e : Entering words count start now n) where
    pub enter_on : (next : List ℕ) (i : ℕ) → n < count → length next ≡ 2048 → i ≡ storage_at words n → next ≡ with_at now (i * 8) n
        → Entering words count start next (n + 1)
    unfolding paired unit_pairs
    enter_on next i h l s q =
        let a : count - n ≡ suc (count - (n + 1)) = omega arith in
        let b : n + 1 ≡ suc n = omega arith in
        record {
          len = l;
          high = omega arith;
          same =
              ap (λ (k : ℕ). paired 8 (unit_pairs words k (count - (n + 1))) next) b ∙ ap (paired 8 (unit_pairs words (suc n) (count - (n + 1)))) (q ∙ ap (λ (j : ℕ). with_at now (j * 8) n) s)
              ∙ ap (λ (k : ℕ). paired 8 (unit_pairs words n k) now) (sym a) ∙ e.same;
        }

    pub enter_end : count ≤ n → now ≡ unit_rows words count start
    unfolding paired unit_pairs
    enter_end h = let a : count - n ≡ 0 = omega arith in ap (λ (k : ℕ). paired 8 (unit_pairs words n k) now) (sym a) ∙ e.same
