-- Laws of the units' chains. A chain passes every unit of its bucket, last one first, so a walk down it that has not met a word has it nowhere
-- above, and at the chain's end nowhere (`seek_none`). One unit more goes to the front of its bucket's chain and leaves the others (`chained_more`).
use Rattle.std.specs.Prelude.{Some, None}
use mathlib.Core.Path.{◌≡◌, refl, sym, ap, ◌∙◌}
use mathlib.Core.Bool.{Bool, true, false, true≢false}
use mathlib.Core.Logic.{⊎_elim}
use mathlib.Core.List.{List, [], ◌∷◌, ◌++◌, map, map-append, append_assoc}
use Prim.Native.Nat.{ℕ, suc, ◌+◌, ◌-◌, ◌≤◌, ◌<◌}
use native.Mathlib.Omega.{arith}
use native.Mathlib.Decide.{ℕ_discrete}
use lib.ListN.{length, get_or, set, drop, replicate, length-append, length-set, length-replicate, length-map, get_or-append, get_or-map}
use lib.Seq.{get_or-append_seam, set-append_seam, get_or-set_same, get_or-set_other}
use Rattle.rows.specs.Links.{last_of}
use Rattle.rows.proofs.Rows.{lt_or_ge}
use Rattle.rows.proofs.Members.{get_or_none}
use Rattle.rows.proofs.Links.{last_within, last_has, last_none, linked_none, linked_more}
use Rattle.fields.specs.Pick.{pick, pick_yes, pick_no, has}
use Rattle.records.specs.Units.{number_in}
use Rattle.records.specs.Outcome.{laid}
use Rattle.records.specs.Mirror.{bucket_of, Low, Chained}
use Rattle.records.proofs.Numbers.{number_low, number_at, at_has}

-- Lists with one more or one changed --------------------------------------------------------------------------------------------------------

-- a place of a changed list is the one that is changed, or another
set_cases : (l : List ℕ) (i v j : ℕ) → i < length l → (P : ℕ → Type 0) → (j ≡ i → P v) → P (get_or l j 0) → P (get_or (set l i v) j 0)
set_cases l i v j s P p q = go (ℕ_discrete j i)
  where
    go : Dec (j ≡ i) → P (get_or (set l i v) j 0)
    go (yes e) = rw (e, get_or-set_same l i v 0 s) (p e)
    go (no e) = rw (get_or-set_other l i j v 0 e) q

-- the buffer's needed part holds the units from its start on, and one more is one store
pub laid_at_lem : (n : ℕ) (us before : List ℕ) (i : ℕ) → i < length us → get_or (laid n us before) i 0 ≡ get_or us i 0
unfolding laid
laid_at_lem n us before i l = rw append_assoc (get_or-append us (replicate (n - length us) 0 ++ drop n before) 0 i l)

pub laid_more : (n : ℕ) (us before : List ℕ) (word : ℕ) → length us < n → set (laid n us before) (length us) word ≡ laid n (us ++ (word ∷ [])) before
unfolding laid
laid_more n us before word l =
    let k : n - length us ≡ suc (n - (length us + 1)) = omega arith in
    rw (length-append us (word ∷ []), k) (simp append_assoc (set-append_seam us 0 (replicate (n - (length us + 1)) 0 ++ drop n before) word))

not_there : (us : List ℕ) (word i : ℕ) → has word us ≡ false → i < length us → get_or us i 0 ≡ word → ⊥
not_there us word i n l e = true≢false (sym (at_has us i l) ∙ (ap (λ (w : ℕ). has w us) e ∙ n))

-- No unit, and one unit more ----------------------------------------------------------------------------------------------------------------

pub chained_none : Chained [] (replicate 256 0) (replicate 512 0)
chained_none =
    record {
      low =
          record {
            many_heads = length-replicate {A = ℕ} 256 0;
            many_nexts = length-replicate {A = ℕ} 512 0;
            head_low = λ b. omega (arith, get_or_none 256 b);
            next_low = λ i. omega (arith, get_or_none 512 i);
          };
      once = λ i j l m e. absurd (omega arith);
      linked = linked_none (replicate 512 0);
    }

module _ (us heads nexts : List ℕ) (word bucket : ℕ) (c : Chained us heads nexts) (new : has word us ≡ false) (is : bucket ≡ bucket_of word) (under : bucket < 256) (room : length us < 512) where
  head_room : bucket < length heads
  head_room = omega (arith, c.low.many_heads)

  next_room : length us < length nexts
  next_room = omega (arith, c.low.many_nexts)

  low_more : Low (set heads bucket (length us + 1)) (set nexts (length us) (get_or heads bucket 0))
  low_more =
      record {
        many_heads = length-set heads bucket (length us + 1) ∙ c.low.many_heads;
        many_nexts = length-set nexts (length us) (get_or heads bucket 0) ∙ c.low.many_nexts;
        head_low = λ b. set_cases heads bucket (length us + 1) b head_room (λ v. v ≤ 512) (λ _. omega arith) (c.low.head_low b);
        next_low = λ i.
            set_cases nexts (length us) (get_or heads bucket 0) i next_room (λ v. v ≤ i)
            (λ e. omega (arith, c.linked.last_is bucket under, last_within bucket (map bucket_of us) (length us))) (c.low.next_low i);
      }

  abbrev more : List ℕ
  more = us ++ (word ∷ [])

  -- a place is one of the list before, or the new one
  old_at : (i : ℕ) → i < length more → (i ≡ length us → ⊥) → (i < length us) × (get_or more i 0 ≡ get_or us i 0)
  old_at i l d = let m : i < length us = omega (arith, length-append us (word ∷ [])) in (m, get_or-append us (word ∷ []) 0 i m)

  new_at : (i : ℕ) → i ≡ length us → get_or more i 0 ≡ word
  new_at i e = rw e (get_or-append_seam us word [] 0)

  once_more : (i j : ℕ) → i < length more → j < length more → get_or more i 0 ≡ get_or more j 0 → i ≡ j
  once_more i j li lj e = go (ℕ_discrete i (length us)) (ℕ_discrete j (length us))
    where
      go : Dec (i ≡ length us) → Dec (j ≡ length us) → i ≡ j
      go (yes p) (yes q) = p ∙ sym q
      go (yes p) (no q) = let b = old_at j lj q in absurd (not_there us word j new b.0 (sym b.1 ∙ sym e ∙ new_at i p))
      go (no p) (yes q) = let a = old_at i li p in absurd (not_there us word i new a.0 (sym a.1 ∙ e ∙ new_at j q))
      go (no p) (no q) = let a = old_at i li p in let b = old_at j lj q in c.once i j a.0 b.0 (sym a.1 ∙ e ∙ b.1)

  pub chained_more : Chained (us ++ (word ∷ [])) (set heads bucket (length us + 1)) (set nexts (length us) (get_or heads bucket 0))
  chained_more =
      record {
        low = low_more;
        once = once_more;
        linked =
            rw (map-append bucket_of us (word ∷ []), ← is, length-append us (word ∷ []))
            (linked_more (map bucket_of us) heads nexts (set nexts (length us) (get_or heads bucket 0)) (length us) bucket c.linked (sym (length-map us bucket_of)) under head_room
            (get_or-set_same nexts (length us) (get_or heads bucket 0) 0 next_room)
            (λ i l. get_or-set_other nexts (length us) i (get_or heads bucket 0) 0 (omega arith)));
      }

-- what a function that appends has to show
pub append_of : (words heads nexts us : List ℕ) (count word bucket : ℕ) → bucket ≡ bucket_of word → bucket < 256 → count < 512 → length us ≡ count → has word us ≡ false → words ≡ laid 512 us [] → Chained us heads nexts
    → (set words count word ≡ laid 512 (us ++ (word ∷ [])) []) × Chained (us ++ (word ∷ [])) (set heads bucket (count + 1)) (set nexts count (get_or heads bucket 0))
append_of words heads nexts us count word bucket is under room n new e c =
    let l : length us < 512 = omega arith in
    rw (← n, e) (laid_more 512 us [] word l, chained_more us heads nexts word bucket c new is under l)

-- The walk down a chain ---------------------------------------------------------------------------------------------------------------------

-- The walk stands at the unit before `next`, which is of the word's bucket, and the word is not at `next` or above.
pub record Past (us : List ℕ) (word next : ℕ) : Type 0 where
  pub within : next ≤ length us
  pub same : (i : ℕ) → next ≡ suc i → bucket_of (get_or us i 0) ≡ bucket_of word
  pub none : (j : ℕ) → next ≤ j → j < length us → get_or us j 0 ≡ word → ⊥

-- the key of a unit is its bucket
key_at : (us : List ℕ) (i : ℕ) → get_or (map bucket_of us) i 0 ≡ bucket_of (get_or us i 0)
unfolding bucket_of
key_at us i = get_or-map bucket_of us i 0

-- The unit before `next` is the last one of the word's bucket among the first n, and the word is not behind them.
past_at : (us : List ℕ) (word next n : ℕ) → n ≤ length us → next ≡ last_of (bucket_of word) (map bucket_of us) n → ((j : ℕ) → n ≤ j → j < length us → get_or us j 0 ≡ word → ⊥) → Past us word next
past_at us word next n l is behind =
    record {
      within = omega (arith, last_within (bucket_of word) (map bucket_of us) n);
      same = λ i e. sym (key_at us i) ∙ last_has (bucket_of word) (map bucket_of us) n i (sym is ∙ e);
      none = λ j a m e. ⊎_elim (λ b. last_none (bucket_of word) (map bucket_of us) n j (omega arith) b (key_at us j ∙ ap bucket_of e)) (λ b. behind j b m e) (lt_or_ge j n);
    }

past_start : (us heads nexts : List ℕ) (word bucket : ℕ) → Chained us heads nexts → bucket ≡ bucket_of word → bucket < 256 → Past us word (get_or heads bucket 0)
past_start us heads nexts word bucket c is under =
    past_at us word (get_or heads bucket 0) (length us) (omega arith) (c.linked.last_is bucket under ∙ ap (λ (b : ℕ). last_of b (map bucket_of us) (length us)) is) (λ j l m e. omega arith)

past_on : (us heads nexts : List ℕ) (word i : ℕ) → Chained us heads nexts → Past us word (suc i) → (get_or us i 0 ≡ word → ⊥) → Past us word (get_or nexts i 0)
past_on us heads nexts word i c p other =
    past_at us word (get_or nexts i 0) i (omega (arith, p.within))
    (c.linked.before_is i p.within ∙ ap (λ (b : ℕ). last_of b (map bucket_of us) i) (key_at us i ∙ p.same i refl)) (λ j l m e. behind j l m e (ℕ_discrete j i))
  where
    behind : (j : ℕ) → i ≤ j → j < length us → get_or us j 0 ≡ word → Dec (j ≡ i) → ⊥
    behind j l m e (yes q) = other (rw q at e)
    behind j l m e (no q) = p.none j (omega arith) m e

-- the loop's invariant, for every list of units that the lent words stand for
pub record Seeking (words heads nexts : List ℕ) (word next : ℕ) : Type 0 where
  pub low : Low heads nexts
  pub most : next ≤ 512
  pub past : (us : List ℕ) → words ≡ laid 512 us [] → Chained us heads nexts → Past us word next

pub seek_start : (words heads nexts : List ℕ) (word bucket : ℕ) → Low heads nexts → bucket ≡ bucket_of word → bucket < 256 → Seeking words heads nexts word (get_or heads bucket 0)
seek_start words heads nexts word bucket l is under = record { low = l; most = l.head_low bucket; past = λ us e c. past_start us heads nexts word bucket c is under }

-- the walk's unit is among the units, and the words have it
seek_here : (words heads nexts us : List ℕ) (word next : ℕ) → Seeking words heads nexts word next → (next ≡ 0 → ⊥) → words ≡ laid 512 us [] → Chained us heads nexts
    → Past us word (suc (next - 1)) × (get_or words (next - 1) 0 ≡ get_or us (next - 1) 0)
seek_here words heads nexts us word next s some e c =
    let k : next ≡ suc (next - 1) = omega arith in
    let p : Past us word (suc (next - 1)) = rw (← k) (s.past us e c) in
    (p, rw e (laid_at_lem 512 us [] (next - 1) p.within))

pub seek_on : (words heads nexts : List ℕ) (word next : ℕ) → Seeking words heads nexts word next → (next ≡ 0 → ⊥) → (get_or words (next - 1) 0 ≡ word → ⊥)
    → Seeking words heads nexts word (get_or nexts (next - 1) 0)
seek_on words heads nexts word next s some other =
    record {
      low = s.low;
      most = omega (arith, s.low.next_low (next - 1), s.most);
      past = λ us e c. let h = seek_here words heads nexts us word next s some e c in past_on us heads nexts word (next - 1) c h.0 (λ q. other (h.1 ∙ q));
    }

pub seek_found : (words heads nexts : List ℕ) (word next : ℕ) → Seeking words heads nexts word next → (next ≡ 0 → ⊥) → get_or words (next - 1) 0 ≡ word
    → (us : List ℕ) → length us ≤ 512 → words ≡ laid 512 us [] → Chained us heads nexts → Some (next - 1) ≡ pick (has word us) (Some (number_in word us)) None
seek_found words heads nexts word next s some q us _ e c =
    let h = seek_here words heads nexts us word next s some e c in
    let l : next - 1 < length us = h.0.within in
    let w : get_or us (next - 1) 0 ≡ word = sym h.1 ∙ q in
    let t : has word us ≡ true = rw w at (at_has us (next - 1) l) in
    ap Some (c.once (next - 1) (number_in word us) l (number_low word us t) (w ∙ sym (number_at word us t))) ∙ sym (pick_yes _ _ _ t)

pub seek_none : (words heads nexts : List ℕ) (word next : ℕ) → Seeking words heads nexts word next → next ≡ 0
    → (us : List ℕ) → length us ≤ 512 → words ≡ laid 512 us [] → Chained us heads nexts → None ≡ pick (has word us) (Some (number_in word us)) None
seek_none words heads nexts word next s z us _ e c = go (has word us) refl
  where
    go : (t : Bool) → has word us ≡ t → None ≡ pick (has word us) (Some (number_in word us)) None
    go true h = absurd ((s.past us e c).none (number_in word us) (omega arith) (number_low word us h) (number_at word us h))
    go false h = sym (pick_no _ _ _ h)
