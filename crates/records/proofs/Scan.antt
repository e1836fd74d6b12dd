-- Laws of the scan. `scan_nil`, `scan_fault`, `scan_refused`, `scan_next`: one record at a time, with no fuel (a loop over the records goes by them).
-- `Walk`: the records that were taken, as a value to recur on; `walked`, `walk`: a scan that reaches the end of the tail is one.
-- `prefix`: what is scanned first and what is scanned after it. `pieces-all`, `records-walk`, `gather-walk`: the records make up the file.
-- Assumes nothing.
use mathlib.Core.Path.{◌≡◌, refl, sym, ap, ◌∙◌}
use mathlib.Core.List.{List, [], ◌∷◌, ◌++◌, append_assoc}
use Prim.Native.Nat.{ℕ, zero, suc, ◌+◌, ◌≤◌, ◌<◌}
use native.Mathlib.Nat.{not-suc-le-zero}
use native.Mathlib.Omega.{arith}
use lib.ListN.{length, take, drop, length-drop, take-append-drop}
use lib.Seq.{drop-append-le, drop-append_seam, length-take-le}
use Rattle.fields.specs.Pick.{All}
use Rattle.fields.specs.Edition.{Edition}
use Rattle.records.specs.declared.Refusal.{Refusal}
use Rattle.records.specs.declared.Refusal.TheVariants.{Form}
use Rattle.fields.specs.Record.{Rec, Read, whole, fault, read}
use Rattle.records.specs.Step.{State, Turn, next, refused, step}
use Rattle.records.specs.Check.{at_tail, by_turn, by_read, scan_by, scan, by_piece, pieces_by, pieces, records_in, records}
use Rattle.fields.proofs.Front.{Whole, read_whole, read_append, read_take}

pub tail_some : {A : Type 0} (t : List ℕ) (a b : A) → 0 < length t → at_tail t a b ≡ b
unfolding at_tail
tail_some [] a b h = absurd (not-suc-le-zero h)
tail_some (x ∷ t) a b h = refl

module _ (ed : Edition) where
  -- a fuel of the tail's length or more: all the same
  fuel : (k m : ℕ) (s : State) (at : ℕ) (t : List ℕ) → length t ≤ k → length t ≤ m → scan_by k ed s at t ≡ scan_by m ed s at t
  unfolding scan_by at_tail
  fuel zero zero s at t p q = refl
  fuel zero (suc m) s at [] p q = refl
  fuel zero (suc m) s at (b ∷ t) p q = absurd (not-suc-le-zero p)
  fuel (suc k) zero s at [] p q = refl
  fuel (suc k) zero s at (b ∷ t) p q = absurd (not-suc-le-zero q)
  fuel (suc k) (suc m) s at [] p q = refl
  fuel (suc k) (suc m) s at (b ∷ t) p q = go (read ed (b ∷ t)) (λ len x e. read_whole ed (b ∷ t) len x e) (fuel k m)
    where
      go : (rd : Read) → ((len : ℕ) (x : Rec) → rd ≡ whole len x → Whole ed (b ∷ t) len x)
          → ((s : State) (at : ℕ) (t : List ℕ) → length t ≤ k → length t ≤ m → scan_by k ed s at t ≡ scan_by m ed s at t)
          → by_read (scan_by k ed) ed s at (b ∷ t) rd ≡ by_read (scan_by m ed) ed s at (b ∷ t) rd
      go fault h ih = refl
      go (whole len x) h ih = on (step ed s at x)
        where
          w : Whole ed (b ∷ t) len x
          w = h len x refl

          on : (tn : Turn) → by_turn (scan_by k ed) (at + len) (drop len (b ∷ t)) tn ≡ by_turn (scan_by m ed) (at + len) (drop len (b ∷ t)) tn
          on (refused y) = refl
          on (next s') = ih s' (at + len) (drop len (b ∷ t)) (omega (arith, length-drop len (b ∷ t), w.some, p)) (omega (arith, length-drop len (b ∷ t), w.some, q))

  -- One record at a time ---------------------------------------------------------------------------------------------------------------------

  pub scan_nil : (s : State) (at : ℕ) → scan ed s at [] ≡ next s
  unfolding scan scan_by at_tail
  scan_nil s at = refl

  -- the equation of the scan, without fuel
  pub scan_some : (s : State) (at : ℕ) (t : List ℕ) → 0 < length t → scan ed s at t ≡ by_read (scan ed) ed s at t (read ed t)
  unfolding scan scan_by at_tail
  scan_some s at [] h = absurd (not-suc-le-zero h)
  scan_some s at (b ∷ t) h = go (read ed (b ∷ t)) (λ len x e. read_whole ed (b ∷ t) len x e)
    where
      go : (rd : Read) → ((len : ℕ) (x : Rec) → rd ≡ whole len x → Whole ed (b ∷ t) len x) → by_read (scan_by (length t) ed) ed s at (b ∷ t) rd ≡ by_read (scan ed) ed s at (b ∷ t) rd
      go fault h = refl
      go (whole len x) h = on (step ed s at x)
        where
          w : Whole ed (b ∷ t) len x
          w = h len x refl

          on : (tn : Turn) → by_turn (scan_by (length t) ed) (at + len) (drop len (b ∷ t)) tn ≡ by_turn (scan ed) (at + len) (drop len (b ∷ t)) tn
          on (refused y) = refl
          on (next s') = fuel (length t) (length (drop len (b ∷ t))) s' (at + len) (drop len (b ∷ t)) (omega (arith, length-drop len (b ∷ t), w.some)) (omega arith)

  module _ (s : State) (at : ℕ) (t : List ℕ) where
    pub scan_fault : 0 < length t → read ed t ≡ fault → scan ed s at t ≡ refused (Form at)
    scan_fault h e = scan_some s at t h ∙ rw e

    module _ (len : ℕ) (x : Rec) (e : read ed t ≡ whole len x) where
      some : 0 < length t
      some = let w = read_whole ed t len x e in omega (arith, w.some, w.fits)

      pub scan_refused : (y : Refusal) → step ed s at x ≡ refused y → scan ed s at t ≡ refused y
      scan_refused y q = scan_some s at t some ∙ rw (e, q)

      pub scan_next : (s' : State) → step ed s at x ≡ next s' → scan ed s at t ≡ scan ed s' (at + len) (drop len t)
      scan_next s' q = scan_some s at t some ∙ rw (e, q)

  -- The records that were taken ----------------------------------------------------------------------------------------------------------------

  pub data Walk : State → ℕ → List ℕ → State → Type 0 where
    done : {s : State} {at : ℕ} → Walk s at [] s
    more : {s s' s'' : State} {at : ℕ} {t : List ℕ} (len : ℕ) (x : Rec) → read ed t ≡ whole len x → step ed s at x ≡ next s' → Walk s' (at + len) (drop len t) s'' → Walk s at t s''

  -- a walk is a scan that comes to the end of the tail ..
  pub walked : {s s' : State} {at : ℕ} {t : List ℕ} → Walk s at t s' → scan ed s at t ≡ next s'
  walked {s} {s'} {at} {t} done = scan_nil s at
  walked {s} {s' = s''} {at} {t} (more {s' = s'} len x e q r) = scan_next s at t len x e s' q ∙ walked r

  -- .. and the other way round
  walk_by : (k : ℕ) (s s'' : State) (at : ℕ) (t : List ℕ) → length t ≤ k → scan ed s at t ≡ next s'' → Walk s at t s''
  walk_by zero s s'' at [] l e = let q : s ≡ s'' = cc (scan_nil s at) in rw (← q) done
  walk_by zero s s'' at (b ∷ t) l e = absurd (not-suc-le-zero l)
  walk_by (suc k) s s'' at [] l e = let q : s ≡ s'' = cc (scan_nil s at) in rw (← q) done
  walk_by (suc k) s s'' at (b ∷ t) l e = go (read ed (b ∷ t)) refl (sym (scan_some s at (b ∷ t) (omega arith)) ∙ e) (walk_by k)
    where
      go : (rd : Read) → read ed (b ∷ t) ≡ rd → by_read (scan ed) ed s at (b ∷ t) rd ≡ next s''
          → ((s s'' : State) (at : ℕ) (t : List ℕ) → length t ≤ k → scan ed s at t ≡ next s'' → Walk s at t s'') → Walk s at (b ∷ t) s''
      go fault p q ih = let z : ◌≡◌ {A = ℕ} 0 1 = cc in absurd (omega arith)
      go (whole len x) p q ih = on (step ed s at x) refl q
        where
          w : Whole ed (b ∷ t) len x
          w = read_whole ed (b ∷ t) len x p

          on : (tn : Turn) → step ed s at x ≡ tn → by_turn (scan ed) (at + len) (drop len (b ∷ t)) tn ≡ next s'' → Walk s at (b ∷ t) s''
          on (refused y) u v = let z : ◌≡◌ {A = ℕ} 0 1 = cc in absurd (omega arith)
          on (next s') u v = more len x p u (ih s' s'' (at + len) (drop len (b ∷ t)) (omega (arith, length-drop len (b ∷ t), w.some)) v)

  pub walk : (s s' : State) (at : ℕ) (t : List ℕ) → scan ed s at t ≡ next s' → Walk s at t s'
  walk s s' at t e = walk_by (length t) s s' at t (omega arith) e

  -- LAW 1. What is scanned first, and what is scanned after it.
  pub walk_prefix : {s s' : State} {at : ℕ} {xs : List ℕ} (ys : List ℕ) → Walk s at xs s' → scan ed s at (xs ++ ys) ≡ scan ed s' (at + length xs) ys
  walk_prefix {s} {s'} {at} {xs} ys done = let k : at + 0 ≡ at = omega arith in rw k
  walk_prefix {s} {s' = s''} {at} {xs} ys (more {s' = s'} len x e q r) =
      let w = read_whole ed xs len x e in
      let k : at + len + length (drop len xs) ≡ at + length xs = omega (arith, length-drop len xs, w.fits) in
      scan_next s at (xs ++ ys) len x (read_append ed xs ys len x e) s' q
      ∙ (ap (scan ed s' (at + len)) (drop-append-le len xs ys w.fits) ∙ (walk_prefix ys r ∙ ap (λ i. scan ed s'' i ys) k))

  pub prefix : (s s' : State) (at : ℕ) (xs ys : List ℕ) → scan ed s at xs ≡ next s' → scan ed s at (xs ++ ys) ≡ scan ed s' (at + length xs) ys
  prefix s s' at xs ys e = walk_prefix ys (walk s s' at xs e)

  -- LAW 3. The records make up the file --------------------------------------------------------------------------------------------------------

  -- one piece at a time, without fuel
  piece_fuel : (k m : ℕ) (t : List ℕ) → length t ≤ k → length t ≤ m → pieces_by k ed t ≡ pieces_by m ed t
  unfolding pieces_by at_tail
  piece_fuel zero zero t p q = refl
  piece_fuel zero (suc m) [] p q = refl
  piece_fuel zero (suc m) (b ∷ t) p q = absurd (not-suc-le-zero p)
  piece_fuel (suc k) zero [] p q = refl
  piece_fuel (suc k) zero (b ∷ t) p q = absurd (not-suc-le-zero q)
  piece_fuel (suc k) (suc m) [] p q = refl
  piece_fuel (suc k) (suc m) (b ∷ t) p q = go (read ed (b ∷ t)) (λ len x e. read_whole ed (b ∷ t) len x e) (piece_fuel k m)
    where
      go : (rd : Read) → ((len : ℕ) (x : Rec) → rd ≡ whole len x → Whole ed (b ∷ t) len x)
          → ((t : List ℕ) → length t ≤ k → length t ≤ m → pieces_by k ed t ≡ pieces_by m ed t)
          → by_piece (pieces_by k ed) (b ∷ t) rd ≡ by_piece (pieces_by m ed) (b ∷ t) rd
      go fault h ih = refl
      go (whole len x) h ih =
          let w = h len x refl in
          ap (λ r. take len (b ∷ t) ∷ r) (ih (drop len (b ∷ t)) (omega (arith, length-drop len (b ∷ t), w.some, p)) (omega (arith, length-drop len (b ∷ t), w.some, q)))

  pub pieces_nil : pieces ed [] ≡ []
  unfolding pieces pieces_by
  pieces_nil = refl

  pub pieces_whole : (t : List ℕ) (len : ℕ) (x : Rec) → read ed t ≡ whole len x → pieces ed t ≡ take len t ∷ pieces ed (drop len t)
  unfolding pieces pieces_by
  pieces_whole t len x e = go (length t) refl
    where
      w : Whole ed t len x
      w = read_whole ed t len x e

      go : (n : ℕ) → length t ≡ n → pieces_by n ed t ≡ take len t ∷ pieces_by (length (drop len t)) ed (drop len t)
      go zero h = absurd (omega (arith, w.some, w.fits))
      go (suc n) h =
          tail_some t [] _ (omega arith)
          ∙ (ap (by_piece (pieces_by n ed) t) e ∙ ap (λ r. take len t ∷ r) (piece_fuel n (length (drop len t)) (drop len t) (omega (arith, length-drop len t, w.some)) (omega arith)))

  pub records_whole : (t : List ℕ) (len : ℕ) (x : Rec) → read ed t ≡ whole len x → records ed t ≡ x ∷ records ed (drop len t)
  unfolding records records_in
  records_whole t len x e = rw (pieces_whole t len x e) (ap (λ y. y ∷ records_in ed (pieces ed (drop len t))) (sym (read_whole ed (take len t) len x (read_take ed t len x e)).is))

  pub records_nil : records ed [] ≡ []
  unfolding records records_in pieces pieces_by
  records_nil = refl

-- pieces put together again
unfoldable pub joined : List (List ℕ) → List ℕ
joined [] = []
joined (p ∷ ps) = p ++ joined ps

-- each piece is one record: as long as its kind byte says, and whole
pub record IsPiece (ed : Edition) (p : List ℕ) : Type 0 where
  pub taken : Rec
  pub reads : read ed p ≡ whole (length p) taken

-- the pieces are the file, in order, and each is one record: their places (`places_in 0`) part the file
pub record Cut (ed : Edition) (t : List ℕ) : Type 0 where
  pub joins : joined (pieces ed t) ≡ t
  pub each : All (IsPiece ed) (pieces ed t)

module _ (ed : Edition) where
  pub walk_cut : {s s' : State} {at : ℕ} {t : List ℕ} → Walk ed s at t s' → Cut ed t
  unfolding joined
  walk_cut {t = t} done = record { joins = rw (pieces_nil ed); each = rw (pieces_nil ed) tt }
  walk_cut {t = t} (more len x e q r) =
      let w = read_whole ed t len x e in
      let c = walk_cut r in
      let n : len ≡ length (take len t) = sym (length-take-le len t w.fits) in
      record {
        joins = rw (pieces_whole ed t len x e) (ap (λ u. take len t ++ u) c.joins ∙ take-append-drop len t);
        each = rw (pieces_whole ed t len x e) (record { taken = x; reads = read_take ed t len x e ∙ ap (λ i. whole i x) n }, c.each);
      }

  -- a scan that comes to the end of the tail has cut it into records, with nothing left over
  pub cut : (s s' : State) (at : ℕ) (t : List ℕ) → scan ed s at t ≡ next s' → Cut ed t
  cut s s' at t e = walk_cut (walk ed s s' at t e)

-- The place of a piece is where it stands among the bytes: after the pieces `qs` come the bytes of `p`, then those of the rest.
pub joined_append : (qs rs : List (List ℕ)) → joined (qs ++ rs) ≡ joined qs ++ joined rs
unfolding joined
joined_append [] rs = refl
joined_append (q ∷ qs) rs = ap (λ t. q ++ t) (joined_append qs rs) ∙ sym (append_assoc q (joined qs) (joined rs))

pub piece_place : (qs rs : List (List ℕ)) → drop (length (joined qs)) (joined (qs ++ rs)) ≡ joined rs
piece_place qs rs = ap (drop (length (joined qs))) (joined_append qs rs) ∙ drop-append_seam (joined qs) (joined rs)
