-- Three walks that link pairs of storages: over the units that one storage meets, over all storages, and over the storage records of a file. What is still
-- ahead makes of the graph now what the whole makes of the graph at the start, so at the end the graph is that.
use mathlib.Core.Path.{◌≡◌, refl, sym, ap, ◌∙◌}
use mathlib.Core.Logic.{◌⊎◌, inl, inr}
use mathlib.Core.Bool.{Bool, true, false}
use mathlib.Core.List.{List, [], ◌∷◌, ◌++◌}
use Prim.Native.Nat.{ℕ, zero, suc, ◌+◌, ◌-◌, ◌*◌, ◌≤◌, ◌<◌}
use native.Mathlib.Omega.{arith}
use lib.Dec.{eqb, ltb}
use lib.ListN.{length, drop}
use lib.Seq.{drop-drop}
use borrow.Author.Tests.{eq-eqb, ne_eqb}
use Rattle.std.proofs.Common.{nat_cmp}
use Rattle.std.specs.Ordering.{ord_max}
use Rattle.std.proofs.lemmas.Grind.{common_steps}
use Rattle.rows.specs.Row.{member_at, with_at, row}
use Rattle.rows.proofs.Rows.{lt_or_ge}
use Rattle.fields.specs.Pick.{pick, pick_yes, pick_no, ◌and◌}
use Rattle.fields.specs.Record.{Storage, u16_at, storage_in}
use Rattle.storages.specs.File.{opens_storage, storages_by, declared}
use Rattle.storages.proofs.Declared.{opens_inside}
use Rattle.units.specs.Sets.{each}
use Rattle.meetings.specs.Members.{Filled, members}
use Rattle.meetings.specs.Meeting.{storage_at, storages_at}
use Rattle.meetings.specs.Closing.{linked, apart, apart_all, meet_pairs, closed, Above, own_pair, own_pairs}
use Rattle.meetings.proofs.Firsts.{no_members}

pub linked_append : (ps qs : List (ℕ × ℕ)) (g : List ℕ) → linked (ps ++ qs) g ≡ linked qs (linked ps g)
unfolding linked
linked_append [] qs g = refl
linked_append (p ∷ ps) qs g = linked_append ps qs (with_at (with_at g (p.0 * 4) p.1) (p.1 * 4) p.0)

-- ---- one pair

module _ (i j : ℕ) (g : List ℕ) where
  pub link_same : i ≡ j → g ≡ linked (apart i j) g
  unfolding linked apart
  link_same e = sym (ap (λ (ps : List (ℕ × ℕ)). linked ps g) (pick_yes (eqb i j) _ _ (eq-eqb i j e)))

  pub link_both : (h k : List ℕ) → ¬ (i ≡ j) → h ≡ with_at g (i * 4) j → k ≡ with_at h (j * 4) i → k ≡ linked (apart i j) g
  unfolding linked apart
  link_both h k d e f =
      f ∙ ap (λ (l : List ℕ). with_at l (j * 4) i) e ∙ sym (ap (λ (ps : List (ℕ × ℕ)). linked ps g) (pick_no (eqb i j) _ _ (ne_eqb i j d)))

-- ---- the units that one storage meets

pub link_next : (i j : ℕ) (g g' : List ℕ) → g' ≡ linked (apart i j) g → (js : List ℕ) → linked (apart_all i (j ∷ js)) g ≡ linked (apart_all i js) g'
unfolding apart_all each
link_next i j g g' e js = linked_append (apart i j) (apart_all i js) g ∙ sym (ap (linked (apart_all i js)) e)

-- Of an empty row there is none.
pub link_none : (i : ℕ) (words r g : List ℕ) (n : ℕ) → Filled r 0 n → length r ≤ n → g ≡ linked (apart_all i (storages_at words (members r))) g
unfolding linked apart_all each storages_at
link_none i words r g n f h = sym (ap (λ (ns : List ℕ). linked (apart_all i (storages_at words ns)) g) (no_members r n f h))

-- ---- all storages

pub record Closing (meets words : List ℕ) (n : ℕ) (start now : List ℕ) (i : ℕ) : Type 0 where
  pub len : length now ≡ 1024
  pub high : i ≤ n
  pub same : linked (meet_pairs meets words i (n - i)) now ≡ closed meets words n start

module _ (meets words : List ℕ) (n : ℕ) (start : List ℕ) where
  pub close_start : length start ≡ 1024 → Closing meets words n start start 0
  unfolding closed
  close_start l = record { len = l; high = omega arith; same = ap (λ (k : ℕ). linked (meet_pairs meets words 0 k) start) (omega arith) }

  module _ {now : List ℕ} {i : ℕ} (c : Closing meets words n start now i) where
    pub close_on : (r next : List ℕ) → i < n → length next ≡ 1024 → r ≡ row meets (i * 8) 8
        → next ≡ linked (apart_all i (storages_at words (members r))) now → Closing meets words n start next (i + 1)
    unfolding meet_pairs
    close_on r next h l e q =
        let a : n - i ≡ suc (n - (i + 1)) = omega arith in
        let b : i + 1 ≡ suc i = omega arith in
        record {
          len = l;
          high = omega arith;
          same =
              ap (λ (k : ℕ). linked (meet_pairs meets words k (n - (i + 1))) next) b
              ∙ ap (linked (meet_pairs meets words (suc i) (n - (i + 1)))) (q ∙ ap (λ (y : List ℕ). linked (apart_all i (storages_at words (members y))) now) e)
              ∙ sym (linked_append (apart_all i (storages_at words (members (row meets (i * 8) 8)))) (meet_pairs meets words (suc i) (n - (i + 1))) now)
              ∙ ap (λ (k : ℕ). linked (meet_pairs meets words i k) now) (sym a) ∙ c.same;
        }

    pub close_end : n ≤ i → now ≡ closed meets words n start
    unfolding meet_pairs linked
    close_end h = let a : n - i ≡ 0 = omega arith in ap (λ (k : ℕ). linked (meet_pairs meets words i k) now) (sym a) ∙ c.same

-- The library's greater of two numbers.
pub max_left : (a b m : ℕ) → m ≡ ord_max nat_cmp a b → a ≤ m
max_left a b m e = grind (arith, common_steps)

pub max_right : (a b m : ℕ) → m ≡ ord_max nat_cmp a b → b ≤ m
max_right a b m e = grind (arith, common_steps)

pub max_below : (a b n m : ℕ) → m ≡ ord_max nat_cmp a b → a ≤ n → b ≤ n → m ≤ n
max_below a b n m e h k = grind (arith, common_steps)

-- A unit more, of a storage below a number that is no lower.
pub above_on : (words : List ℕ) (n top i next : ℕ) → Above words n top → i ≡ storage_at words n → top ≤ next → i + 1 ≤ next → Above words (n + 1) next
above_on words n top i next h e a b = record { below = λ k l. go k l (lt_or_ge k n) }
  where
    go : (k : ℕ) → k < n + 1 → (k < n) ⊎ (n ≤ k) → storage_at words k < next
    go k l (inl m) = omega (arith, h.below k m)
    go k l (inr m) = let same : k ≡ n = omega arith in omega (arith, ap (storage_at words) same)

pub above_all : (words : List ℕ) (n count top : ℕ) → count ≤ n → Above words n top → Above words count top
above_all words n count top h a = record { below = λ k l. a.below k (omega arith) }

-- ---- the storage records of a file

pub record Storing (f : Storage → List (ℕ × ℕ)) (file start now : List ℕ) (at : ℕ) : Type 0 where
  pub len : length now ≡ 1024
  pub inside : at ≤ length file
  pub fuel : ℕ
  pub enough : length file ≤ at + fuel
  pub same : linked (each f (storages_by fuel (drop at file))) now ≡ linked (each f (declared file)) start

module _ (f : Storage → List (ℕ × ℕ)) (file start : List ℕ) where
  pub store_start : 7 ≤ length file → length start ≡ 1024 → Storing f file start start 7
  unfolding declared
  store_start h l = record { len = l; inside = h; fuel = length file; enough = omega arith; same = refl }

  module _ {now : List ℕ} {at : ℕ} (s : Storing f file start now at) where
    pub store_on : (t next : List ℕ) → t ≡ drop at file → opens_storage (drop at file) ≡ true → length next ≡ 1024
        → next ≡ linked (f (storage_in t)) now → Storing f file start next (at + 16)
    unfolding storages_by each
    store_on t next e o l q = go s.fuel s.enough s.same
      where
        long : at + 16 ≤ length file
        long = opens_inside file at s.inside o

        go : (k : ℕ) → length file ≤ at + k → linked (each f (storages_by k (drop at file))) now ≡ linked (each f (declared file)) start
            → Storing f file start next (at + 16)
        go zero h p = absurd (omega (arith, long))
        go (suc k) h p = record {
          len = l;
          inside = omega (arith, long);
          fuel = k;
          enough = omega arith;
          same =
              ap (λ (y : List ℕ). linked (each f (storages_by k y)) next) (sym (drop-drop 16 at file))
              ∙ ap (linked (each f (storages_by k (drop 16 (drop at file))))) (q ∙ ap (λ (y : List ℕ). linked (f (storage_in y)) now) e)
              ∙ sym (linked_append (f (storage_in (drop at file))) (each f (storages_by k (drop 16 (drop at file)))) now)
              ∙ sym (ap (λ (ss : List Storage). linked (each f ss) now) (pick_yes (opens_storage (drop at file)) _ _ o)) ∙ p;
        }

    pub store_end : opens_storage (drop at file) ≡ false → now ≡ linked (each f (declared file)) start
    unfolding storages_by each linked
    store_end o = go s.fuel s.same
      where
        go : (k : ℕ) → linked (each f (storages_by k (drop at file))) now ≡ linked (each f (declared file)) start → now ≡ linked (each f (declared file)) start
        go zero p = p
        go (suc k) p = sym (ap (λ (ss : List Storage). linked (each f ss) now) (pick_no (opens_storage (drop at file)) _ _ o)) ∙ p

-- ---- tests before a pair

pub neither : (a b : Bool) → a ≡ false → (a and b) ≡ false
neither a b e = pick_no a b false e

pub not_second : (a b : Bool) → a ≡ true → b ≡ false → (a and b) ≡ false
not_second a b e f = pick_yes a b false e ∙ f

module _ (t : Bool) (ps : List (ℕ × ℕ)) (g : List ℕ) where
  pub linked_no : t ≡ false → g ≡ linked (pick t ps []) g
  unfolding linked
  linked_no e = sym (ap (λ (qs : List (ℕ × ℕ)). linked qs g) (pick_no t ps [] e))

  pub linked_yes : (g' : List ℕ) → t ≡ true → g' ≡ linked ps g → g' ≡ linked (pick t ps []) g
  linked_yes g' e q = q ∙ sym (ap (λ (qs : List (ℕ × ℕ)). linked qs g) (pick_yes t ps [] e))

-- The numbers of the record at the front of a tail.
module _ (t : List ℕ) (o w : ℕ) (eo : o ≡ u16_at t 1) (ew : w ≡ u16_at t 3) (g g' : List ℕ) where
  pub own_pair_lem : (id owner : ℕ) → g' ≡ linked (pick (eqb w owner and ltb o 256) (apart id o) []) g → g' ≡ linked (own_pair id owner (storage_in t)) g
  unfolding own_pair storage_in
  own_pair_lem id owner q =
      q ∙ ap (λ (x : ℕ). linked (pick (eqb x owner and ltb o 256) (apart id o) []) g) ew
      ∙ ap (λ (x : ℕ). linked (pick (eqb (u16_at t 3) owner and ltb x 256) (apart id x) []) g) eo

  pub own_pairs_lem : (addressed : List ℕ) (all : List Storage)
      → g' ≡ linked (pick (ltb o 256 and member_at addressed 0 o) (each (own_pair o w) all) []) g → g' ≡ linked (own_pairs addressed all (storage_in t)) g
  unfolding own_pairs storage_in
  own_pairs_lem addressed all q =
      q ∙ ap (λ (x : ℕ). linked (pick (ltb o 256 and member_at addressed 0 o) (each (own_pair o x) all) []) g) ew
      ∙ ap (λ (x : ℕ). linked (pick (ltb x 256 and member_at addressed 0 x) (each (own_pair x (u16_at t 3)) all) []) g) eo
