-- The table of functions: its entries before any record, and after one function more, whose two entries change while every other stays.
-- What is left of a file enters what the whole enters, record by record. Assumes nothing.
use mathlib.Core.Path.{◌≡◌, refl, sym, ap, ◌∙◌}
use mathlib.Core.Bool.{Bool, true, false}
use mathlib.Core.List.{List, [], ◌++◌}
use Prim.Native.Nat.{ℕ, ◌+◌, ◌<◌}
use native.Mathlib.Omega.{arith}
use lib.Dec.{eqb}
use lib.ListN.{length, get_or, take, drop, set, replicate, length-set, length-append, length-replicate, get_or-replicate, get_or-append}
use lib.Seq.{get_or-append-add, get_or-set_same, get_or-set_other, length-take-le}
use borrow.Author.Tests.{eqb-true, eqb-false, eq-eqb, ne_eqb}
use Rattle.fields.specs.Pick.{pick, pick_yes, pick_no, ◌or◌}
use Rattle.fields.specs.Edition.{Edition}
use Rattle.fields.specs.Record.{Rec, function, whole, record_at, read}
use Rattle.records.specs.Check.{pieces}
use Rattle.records.specs.Index.{bare, listed, brought, entered, tabled_in}
use Rattle.fields.proofs.Front.{read_whole, read_take}
use Rattle.records.proofs.Scan.{pieces_nil, pieces_whole}
use Rattle.records.proofs.Lists.{or_last, or_first}

-- Before any record -------------------------------------------------------------------------------------------------------------------------------

pub bare_many : length bare ≡ 512
unfolding bare
bare_many = omega (arith, length-append {A = ℕ} (replicate 256 65535) (replicate 256 0), length-replicate {A = ℕ} 256 65535, length-replicate {A = ℕ} 256 0)

abbrev pub Blank : List ℕ → ℕ → Type 0
Blank table n = (get_or table n 0 ≡ 65535) × (get_or table (256 + n) 0 ≡ 0)

pub bare_blank : (n : ℕ) → n < 256 → Blank bare n
unfolding bare
bare_blank n l =
    let e : length (replicate {A = ℕ} 256 65535) ≡ 256 = length-replicate {A = ℕ} 256 65535 in (
      get_or-append (replicate 256 65535) (replicate 256 0) 0 n (omega arith) ∙ get_or-replicate 256 n 65535 0 l,
      ap (λ (m : ℕ). get_or (replicate 256 65535 ++ replicate 256 0) (m + n) 0) (sym e) ∙ get_or-append-add (replicate 256 65535) (replicate 256 0) n 0 ∙ get_or-replicate 256 n 0 0 l,
    )

pub listed_at : (table : List ℕ) (n : ℕ) → (get_or table n 0 ≡ 65535 → ⊥) → listed table n ≡ true
unfolding listed
listed_at table n h = pick_no _ _ _ (ne_eqb (get_or table n 0) 65535 h)

pub unlisted_at : (table : List ℕ) (n : ℕ) → get_or table n 0 ≡ 65535 → listed table n ≡ false
unfolding listed
unlisted_at table n h = pick_yes _ _ _ (eq-eqb (get_or table n 0) 65535 h)

pub bare_listed : (n : ℕ) → n < 256 → listed bare n ≡ false
bare_listed n l = unlisted_at bare n (bare_blank n l).0

-- One function more ---------------------------------------------------------------------------------------------------------------------------------

module _ (table : List ℕ) (i at k : ℕ) (many : length table ≡ 512) (low : i < 256) where
  abbrev pub with_entry : List ℕ
  with_entry = set (set table i at) (256 + i) k

  pub entry_many : length with_entry ≡ 512
  entry_many = length-set (set table i at) (256 + i) k ∙ length-set table i at ∙ many

  pub entry_at : get_or with_entry i 0 ≡ at
  entry_at = get_or-set_other (set table i at) (256 + i) i k 0 (λ q. omega arith) ∙ get_or-set_same table i at 0 (omega arith)

  pub entry_count : get_or with_entry (256 + i) 0 ≡ k
  entry_count = get_or-set_same (set table i at) (256 + i) k 0 (omega (arith, length-set table i at))

  pub entry_other : (n : ℕ) → n < 256 → (n ≡ i → ⊥) → (get_or with_entry n 0 ≡ get_or table n 0) × (get_or with_entry (256 + n) 0 ≡ get_or table (256 + n) 0)
  entry_other n l d = (
    get_or-set_other (set table i at) (256 + i) n k 0 (λ q. omega arith) ∙ get_or-set_other table i n at 0 d,
    get_or-set_other (set table i at) (256 + i) (256 + n) k 0 (λ q. d (omega arith)) ∙ get_or-set_other table i (256 + n) at 0 (λ q. omega arith),
  )

  pub listed_more : at < 65535 → (n : ℕ) → n < 256 → listed with_entry n ≡ (listed table n or eqb n i)
  unfolding listed
  listed_more early n l = go (eqb n i) refl
    where
      go : (b : Bool) → eqb n i ≡ b → listed with_entry n ≡ (listed table n or b)
      go true q =
          rw (eqb-true n i q)
          (pick_no _ _ _ (ne_eqb (get_or with_entry i 0) 65535 (λ e. omega (arith, entry_at))) ∙ or_last (listed table i) true refl)
      go false q =
          ap (λ (x : ℕ). pick (eqb x 65535) false true) (entry_other n l (eqb-false n i q)).0 ∙ or_first (listed table n) false refl

-- Record by record ----------------------------------------------------------------------------------------------------------------------------------

pub enters_function : (table : List ℕ) (n at k : ℕ) → listed table n ≡ false → set (set table n (at + 2)) (256 + n) k ≡ entered (function n) at k table
enters_function table n at k e = sym (pick_no _ _ _ e)

module _ (ed : Edition) (at k : ℕ) (table : List ℕ) where
  pub tabled_nil : tabled_in ed at k (pieces ed []) table ≡ table
  unfolding tabled_in
  tabled_nil = ap (λ (ps : List (List ℕ)). tabled_in ed at k ps table) (pieces_nil ed)

  pub tabled_whole : (t : List ℕ) (len : ℕ) (x : Rec) → read ed t ≡ whole len x
      → tabled_in ed at k (pieces ed t) table ≡ tabled_in ed (at + len) (k + brought x) (pieces ed (drop len t)) (entered x at k table)
  unfolding tabled_in
  tabled_whole t len x e =
      let is : record_at ed (take len t) ≡ x = sym (read_whole ed (take len t) len x (read_take ed t len x e)).is in
      let n : length (take len t) ≡ len = length-take-le len t (read_whole ed t len x e).fits in
      ap (λ (ps : List (List ℕ)). tabled_in ed at k ps table) (pieces_whole ed t len x e)
      ∙ ap (λ (y : Rec). tabled_in ed (at + length (take len t)) (k + brought y) (pieces ed (drop len t)) (entered y at k table)) is
      ∙ ap (λ (m : ℕ). tabled_in ed (at + m) (k + brought x) (pieces ed (drop len t)) (entered x at k table)) n
