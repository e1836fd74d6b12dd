-- The table of functions of an accepted file. What the program's functions say of a number is what the table so far says, else what the functions from
-- the reader's place on say: a function record is the first among those, and its entry is the place behind it. At the end nothing is to come.
use mathlib.Core.Path.{◌≡◌, refl, sym, ap, ◌∙◌}
use mathlib.Core.Bool.{Bool, true, false}
use mathlib.Core.List.{List, [], ◌∷◌}
use Prim.Native.Nat.{ℕ, ◌+◌, ◌*◌, ◌≤◌, ◌<◌}
use native.Mathlib.Omega.{arith}
use lib.Dec.{eqb}
use lib.ListN.{get_or, drop}
use lib.Seq.{drop-drop}
use borrow.Author.Tests.{eqb-true, eqb-false, eq-eqb, ne_eqb}
use Rattle.fields.specs.Pick.{pick, pick_yes, pick_no}
use Rattle.fields.specs.Edition.{one}
use Rattle.fields.specs.Record.{Rec, header, storage, function, abi, block, instruction, operand, terminator, target, end, whole, read, u8_at, length_of}
use Rattle.records.specs.Step.{State, start}
use Rattle.records.specs.Check.{units, check, pieces}
use Rattle.records.specs.Index.{bare, listed, brought, entered, tabled_in, tabled}
use Rattle.records.specs.Program.{Function, Rest, put_step, put, program}
use Rattle.fields.proofs.Front.{Whole, read_whole}
use Rattle.fields.proofs.ByKind.{length_one, kind_function}
use Rattle.records.proofs.Scan.{Walk, done, more, walk}
use Rattle.records.proofs.Took.{stepped}
use Rattle.records.proofs.Stages.{Calm, Passed, start_calm, passed, calm_on, nothing_after}
use Rattle.records.proofs.Contents.{rest, rest_nil, rest_whole}
use Rattle.records.proofs.Accepted.{read_out, accepted}
use Rattle.records.proofs.Entries.{bare_many, bare_blank, with_entry, entry_many, entry_at, entry_count, entry_other, tabled_nil, tabled_whole}
use Rattle.units.specs.Uses.{lookup, defined}
use Rattle.units.specs.Along.{from, Stands, function_from, Indexed, Sane}
use Rattle.units.proofs.Standing.{stands_start, stands_on, stands_sound, stands_within}
use Rattle.units.proofs.Filling.{kind_of, kind_of_lem, byte_at}

-- what the functions are, by the table so far and by what is to come
record SoFar (f table : List ℕ) (at k : ℕ) : Type 0 where
  sane : Sane table
  stands : Stands f at k
  absent : (n : ℕ) → n < 256 → get_or table n 0 ≡ 65535 → lookup (program one f).functions n ≡ lookup (from f at).functions n
  present : (n : ℕ) → n < 256 → (get_or table n 0 ≡ 65535 → ⊥)
      → (lookup (program one f).functions n ≡ defined (function_from f n (get_or table n 0))) × Stands f (get_or table n 0) (get_or table (256 + n) 0)

-- what a pair of entries says of a number
abbrev Says : List ℕ → ℕ → ℕ → ℕ → ℕ → Type 0
Says f at n a b =
    (a ≡ 65535 → lookup (program one f).functions n ≡ lookup (from f at).functions n)
    × ((a ≡ 65535 → ⊥) → (lookup (program one f).functions n ≡ defined (function_from f n a)) × Stands f a b)
    × (7 * b ≤ a)

so_far_start : (f : List ℕ) → SoFar f bare 0 0
unfolding program
so_far_start f =
    record {
      sane = record { many = bare_many; sound = λ n l. omega (arith, bare_blank n l) };
      stands = stands_start f;
      absent = λ n l e. refl;
      present = λ n l d. absurd (d (bare_blank n l).0);
    }

so_far_done : (f table : List ℕ) (at k : ℕ) → SoFar f table at k → (from f at).functions ≡ [] → Sane table × Indexed f table
unfolding lookup
so_far_done f table at k s e = (s.sane, record { absent = λ n l h. s.absent n l h ∙ ap (λ (fs : List Function). lookup fs n) e; present = s.present })

nothing_from : (f : List ℕ) (at : ℕ) → drop at f ≡ [] → (from f at).functions ≡ []
nothing_from f at e = ap (λ (t : List ℕ). (rest one t).functions) e ∙ ap (λ (y : Rest). y.functions) (rest_nil one)

module _ (f us : List ℕ) (ok : check one f ≡ units us) (bytes : (i : ℕ) → get_or f i 0 < 256) where
  -- One record on
  module _ (table : List ℕ) (at k len : ℕ) (s : SoFar f table at k) where
    from_here : (x : Rec) → read one (drop at f) ≡ whole len x → from f at ≡ put x (from f (at + len))
    from_here x r = rest_whole one (drop at f) len x r ∙ ap (λ (l : List ℕ). put x (rest one l)) (drop-drop len at f)

    -- a record that is no function's leaves the functions and the table
    so_far_other : (x : Rec) → read one (drop at f) ≡ whole len x → (put x (from f (at + len))).functions ≡ (from f (at + len)).functions
        → SoFar f table (at + len) (k + brought x)
    so_far_other x r same =
        record {
          sane = s.sane;
          stands = stands_on f us ok at k s.stands len x r;
          absent = λ n l e. s.absent n l e ∙ ap (λ (fs : List Function). lookup fs n) (ap (λ (y : Rest). y.functions) (from_here x r) ∙ same);
          present = s.present;
        }

    module _ (n : ℕ) (r : read one (drop at f) ≡ whole len (function n)) where
      w : Whole one (drop at f) len (function n)
      w = read_whole one (drop at f) len (function n) r

      kind_is : u8_at (drop at f) 0 ≡ 2
      kind_is = sym (kind_of_lem (drop at f) (omega (arith, w.some, w.long))) ∙ ap kind_of (sym w.is)

      low : n < 256
      low = let e : n ≡ u8_at (drop at f) 1 = cc (w.is, kind_function (drop at f) kind_is) in omega (arith, byte_at f at 1, bytes (at + 1))

      two : at + len ≡ at + 2
      two = ap (λ (m : ℕ). at + m) (w.long ∙ ap (length_of one) kind_is ∙ length_one 2)

      behind : Stands f (at + len) k
      behind = let z : k + 0 ≡ k = omega arith in rw z at (stands_on f us ok at k s.stands len (function n) r)

      functions_here : (from f at).functions ≡ function_from f n (at + len) ∷ (from f (at + len)).functions
      unfolding put
      functions_here = ap (λ (y : Rest). y.functions) (from_here (function n) r)

      lookup_other : (m : ℕ) → (m ≡ n → ⊥) → lookup (from f at).functions m ≡ lookup (from f (at + len)).functions m
      unfolding lookup
      lookup_other m d = ap (λ (fs : List Function). lookup fs m) functions_here ∙ pick_no _ _ _ (ne_eqb n m (λ q. d (sym q)))

      lookup_same : lookup (from f at).functions n ≡ defined (function_from f n (at + len))
      unfolding lookup
      lookup_same = ap (λ (fs : List Function). lookup fs n) functions_here ∙ pick_yes _ _ _ (eq-eqb n n refl)

      -- the number is there already
      so_far_again : (get_or table n 0 ≡ 65535 → ⊥) → SoFar f table (at + len) k
      so_far_again d =
          record {
            sane = s.sane;
            stands = behind;
            absent = λ m l e. s.absent m l e ∙ lookup_other m (λ q. d (ap (λ (i : ℕ). get_or table i 0) (sym q) ∙ e));
            present = s.present;
          }

      -- it is new
      so_far_new : get_or table n 0 ≡ 65535 → SoFar f (with_entry table n (at + 2) k s.sane.many low) (at + len) k
      so_far_new e =
          record {
            sane = record { many = entry_many table n (at + 2) k s.sane.many low; sound = λ m l. (says m l).2 };
            stands = behind;
            absent = λ m l. (says m l).0;
            present = λ m l. (says m l).1;
          }
        where
          new : Says f (at + len) n (at + 2) k
          new = (
            λ z. absurd (omega (arith, two, stands_within f us ok (at + len) k behind, (accepted one f us ok).2)),
            λ z. (s.absent n low e ∙ lookup_same ∙ ap (λ (m : ℕ). defined (function_from f n m)) two, rw two at behind),
            omega (arith, stands_sound f us ok at k s.stands),
          )

          says : (m : ℕ) → m < 256 → Says f (at + len) m (get_or (with_entry table n (at + 2) k s.sane.many low) m 0) (get_or (with_entry table n (at + 2) k s.sane.many low) (256 + m) 0)
          says m l = go (eqb m n) refl
            where
              go : (b : Bool) → eqb m n ≡ b
                  → Says f (at + len) m (get_or (with_entry table n (at + 2) k s.sane.many low) m 0) (get_or (with_entry table n (at + 2) k s.sane.many low) (256 + m) 0)
              go true q =
                  rw (eqb-true m n q)
                  (rw (entry_at table n (at + 2) k s.sane.many low, entry_count table n (at + 2) k s.sane.many low) new)
              go false q =
                  let d = eqb-false m n q in
                  let o = entry_other table n (at + 2) k s.sane.many low m l d in
                  rw (o.0, o.1) ((λ z. s.absent m l z ∙ lookup_other m d), s.present m l, s.sane.sound m l)

      so_far_function : SoFar f (entered (function n) at k table) (at + len) (k + 0)
      unfolding listed pick
      so_far_function = let z : k + 0 ≡ k = omega arith in rw z (go (eqb (get_or table n 0) 65535) refl)
        where
          go : (b : Bool) → eqb (get_or table n 0) 65535 ≡ b → SoFar f (pick (pick b false true) table (with_entry table n (at + 2) k s.sane.many low)) (at + len) k
          go true q = so_far_new (eqb-true (get_or table n 0) 65535 q)
          go false q = so_far_again (eqb-false (get_or table n 0) 65535 q)

    -- at the end record nothing is to come
    so_far_on : (x : Rec) → read one (drop at f) ≡ whole len x → (x ≡ end → (from f (at + len)).functions ≡ []) → SoFar f (entered x at k table) (at + len) (k + brought x)
    unfolding put put_step
    so_far_on (header a b c) r h = so_far_other (header a b c) r refl
    so_far_on (storage x) r h = so_far_other (storage x) r refl
    so_far_on (function n) r h = so_far_function n r
    so_far_on (abi x) r h = so_far_other (abi x) r refl
    so_far_on (block id) r h = so_far_other (block id) r refl
    so_far_on (instruction op sub fn) r h = so_far_other (instruction op sub fn) r refl
    so_far_on (operand x) r h = so_far_other (operand x) r refl
    so_far_on (terminator op sub fn) r h = so_far_other (terminator op sub fn) r refl
    so_far_on (target id) r h = so_far_other (target id) r refl
    so_far_on end r h = so_far_other end r (sym (h refl))

  -- All records
  walk_entries : {s s' : State} {at : ℕ} {t : List ℕ} → Walk one s at t s' → Calm s → (k : ℕ) (table : List ℕ) → t ≡ drop at f → SoFar f table at k
      → Sane (tabled_in one at k (pieces one t) table) × Indexed f (tabled_in one at k (pieces one t) table)
  walk_entries {at = at} done c k table e g = rw (tabled_nil one at k table) (so_far_done f table at k g (nothing_from f at (sym e)))
  walk_entries {s} {at = at} {t} (more {s' = s'} len x r q w) c k table e g =
      let took = (stepped one s at x s' q).taken in
      let calm = calm_on one s at x s' c took in
      let tail : drop len t ≡ drop (at + len) f = ap (drop len) e ∙ drop-drop len at f in
      rw (tabled_whole one at k table t len x r)
      (walk_entries w calm (k + brought x) (entered x at k table) tail
      (so_far_on table at k len g x (rw e at r) (λ h.
      let p : Passed one end s.stage s'.stage = rw h at (passed one s at x s' c took) in
      nothing_from f (at + len) (sym tail ∙ (nothing_after one w calm p.1).0))))

  -- THE LAW. The table that the reader leaves is the index of the file's functions.
  pub tabled_index : (table : List ℕ) → table ≡ tabled one f → Sane table × Indexed f table
  unfolding tabled
  tabled_index table e =
      let o = read_out one f us ok in
      rw e (walk_entries (walk one start o.final 0 f o.scans) start_calm 0 bare refl (so_far_start f))
