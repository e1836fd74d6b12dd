-- The storage records of an accepted file, read by their stride from byte 7 on, are the program's storages, and the header's numbers stand before them. The
-- header is the first record; as long as the reader is among the storages, the next record is a storage, of 16 bytes, or the first function, and then no more.
use mathlib.Core.Path.{◌≡◌, refl, sym, ap, ap₂, ◌∙◌}
use mathlib.Core.Logic.{◌⊎◌, inl, inr}
use mathlib.Core.Bool.{Bool, true, false}
use mathlib.Core.List.{List, [], ◌∷◌}
use Prim.Native.Nat.{ℕ, zero, suc, ◌+◌, ◌≤◌, ◌<◌}
use native.Mathlib.Omega.{arith}
use lib.Dec.{eqb, leb}
use lib.ListN.{length, drop, length-drop}
use borrow.Author.Tests.{le-leb, leb-true, eq-eqb, ne_eqb}
use Rattle.rows.proofs.Rows.{lt_or_ge}
use Rattle.fields.specs.Pick.{pick, pick_yes, pick_no, ◌and◌}
use Rattle.fields.specs.Edition.{one}
use Rattle.fields.specs.Record.{Storage, Rec, header, storage, function, abi, block, instruction, operand, terminator, target, end, u8_at, u16_at, storage_in, header_at, instruction_at, terminator_at, length_of, record_at, whole, read}
use Rattle.records.specs.Step.{State, start, at_start, in_storages, at_end}
use Rattle.records.specs.Check.{units, check}
use Rattle.records.specs.Program.{put, program}
use Rattle.fields.proofs.Front.{Whole, read_whole}
use Rattle.fields.proofs.ByKind.{length_one, length_none, kind_header, kind_storage, kind_function, kind_abi, kind_block, kind_instruction, kind_operand, kind_terminator, kind_target, kind_end}
use Rattle.records.proofs.Scan.{Walk, done, more, walk}
use Rattle.records.proofs.Took.{stepped}
use Rattle.records.proofs.Contents.{rest, rest_nil, rest_whole}
use Rattle.records.proofs.Stages.{Calm, start_calm, Passed, passed, calm_on}
use Rattle.records.proofs.Accepted.{read_out}
use Rattle.storages.specs.File.{opens_storage, storages_by, declared}

-- What a tail that opens a storage has: its 16 bytes.
pub opens_long : (t : List ℕ) → opens_storage t ≡ true → 16 ≤ length t
unfolding opens_storage pick
opens_long t e = go (leb 16 (length t)) refl e
  where
    go : (b : Bool) → leb 16 (length t) ≡ b → (b and eqb (u8_at t 0) 1) ≡ true → 16 ≤ length t
    go true q e = leb-true 16 (length t) q
    go false q e = absurd (let z : ◌≡◌ {A = ℕ} 0 1 = cc in omega arith)

-- What a test on the tail at a place says of the file there, and that the record is inside.
pub opened : (file t : List ℕ) (at : ℕ) (r b : Bool) → t ≡ drop at file → r ≡ opens_storage t → r ≡ b → opens_storage (drop at file) ≡ b
opened file t at r b e o q = ap opens_storage (sym e) ∙ sym o ∙ q

pub opens_inside : (file : List ℕ) (at : ℕ) → at ≤ length file → opens_storage (drop at file) ≡ true → at + 16 ≤ length file
opens_inside file at h o = omega (arith, opens_long (drop at file) o, length-drop at file)

-- ---- the kind byte of a record, from the record

clashing : ◌≡◌ {A = ℕ} 0 1 → ⊥
clashing z = omega arith

module _ (t : List ℕ) where
  is_storage : (k : ℕ) (x : Storage) → u8_at t 0 ≡ k → k < 10 → storage x ≡ record_at one t → k ≡ 1
  unfolding header_at instruction_at terminator_at
  is_storage zero x e l q = absurd (clashing (cc (kind_header t e)))
  is_storage (suc zero) x e l q = refl
  is_storage (suc (suc zero)) x e l q = absurd (clashing (cc (kind_function t e)))
  is_storage (suc (suc (suc zero))) x e l q = absurd (clashing (cc (kind_abi t e)))
  is_storage (suc (suc (suc (suc zero)))) x e l q = absurd (clashing (cc (kind_block t e)))
  is_storage (suc (suc (suc (suc (suc zero))))) x e l q = absurd (clashing (cc (kind_instruction t e)))
  is_storage (suc (suc (suc (suc (suc (suc zero)))))) x e l q = absurd (clashing (cc (kind_operand t e)))
  is_storage (suc (suc (suc (suc (suc (suc (suc zero))))))) x e l q = absurd (clashing (cc (kind_terminator t e)))
  is_storage (suc (suc (suc (suc (suc (suc (suc (suc zero)))))))) x e l q = absurd (clashing (cc (kind_target t e)))
  is_storage (suc (suc (suc (suc (suc (suc (suc (suc (suc zero))))))))) x e l q = absurd (clashing (cc (kind_end t e)))
  is_storage (suc (suc (suc (suc (suc (suc (suc (suc (suc (suc k)))))))))) x e l q = absurd (omega arith)

  is_header : (k a f w : ℕ) → u8_at t 0 ≡ k → k < 10 → header a f w ≡ record_at one t → k ≡ 0
  unfolding header_at instruction_at terminator_at
  is_header zero a f w e l q = refl
  is_header (suc zero) a f w e l q = absurd (clashing (cc (kind_storage t e)))
  is_header (suc (suc zero)) a f w e l q = absurd (clashing (cc (kind_function t e)))
  is_header (suc (suc (suc zero))) a f w e l q = absurd (clashing (cc (kind_abi t e)))
  is_header (suc (suc (suc (suc zero)))) a f w e l q = absurd (clashing (cc (kind_block t e)))
  is_header (suc (suc (suc (suc (suc zero))))) a f w e l q = absurd (clashing (cc (kind_instruction t e)))
  is_header (suc (suc (suc (suc (suc (suc zero)))))) a f w e l q = absurd (clashing (cc (kind_operand t e)))
  is_header (suc (suc (suc (suc (suc (suc (suc zero))))))) a f w e l q = absurd (clashing (cc (kind_terminator t e)))
  is_header (suc (suc (suc (suc (suc (suc (suc (suc zero)))))))) a f w e l q = absurd (clashing (cc (kind_target t e)))
  is_header (suc (suc (suc (suc (suc (suc (suc (suc (suc zero))))))))) a f w e l q = absurd (clashing (cc (kind_end t e)))
  is_header (suc (suc (suc (suc (suc (suc (suc (suc (suc (suc k)))))))))) a f w e l q = absurd (omega arith)

  known : (len : ℕ) (x : Rec) → Whole one t len x → u8_at t 0 < 10
  known len x w = go (lt_or_ge (u8_at t 0) 10)
    where
      go : (u8_at t 0 < 10) ⊎ (10 ≤ u8_at t 0) → u8_at t 0 < 10
      go (inl h) = h
      go (inr h) = absurd (omega (arith, w.some, w.long, length_none (u8_at t 0) h))

  same_storage : (x y : Storage) → storage x ≡ storage y → x ≡ y
  same_storage x y e = cc

  none_by : (k : ℕ) → opens_storage t ≡ false → storages_by k t ≡ []
  unfolding storages_by
  none_by zero o = refl
  none_by (suc k) o = pick_no (opens_storage t) _ _ o

-- ---- from the header on

not_kind : (t : List ℕ) → ¬ (u8_at t 0 ≡ 1) → opens_storage t ≡ false
unfolding opens_storage pick
not_kind t d = go (leb 16 (length t))
  where
    go : (b : Bool) → (b and eqb (u8_at t 0) 1) ≡ false
    go true = ne_eqb (u8_at t 0) 1 d
    go false = refl

abbrev Reads : List ℕ → Type 0
Reads t = (k : ℕ) → length t ≤ k → storages_by k t ≡ (rest one t).storages

storage_on : (t : List ℕ) (len : ℕ) (x : Rec) (g g' : ℕ) → g ≡ in_storages → read one t ≡ whole len x → Passed one x g g'
    → (g' ≡ in_storages → Reads (drop len t)) → Reads t
unfolding put storages_by opens_storage
storage_on t len (header a f w) g g' e r p ih k l = absurd (omega (arith, p.0))
storage_on t len (storage y) g g' e r p ih zero l = absurd (omega (arith, (read_whole one t len (storage y) r).some, (read_whole one t len (storage y) r).fits))
storage_on t len (storage y) g g' e r p ih (suc k) l =
    let w = read_whole one t len (storage y) r in
    let one_kind : u8_at t 0 ≡ 1 = is_storage t (u8_at t 0) y refl (known t len (storage y) w) w.is in
    let long : len ≡ 16 = w.long ∙ ap (length_of one) one_kind ∙ length_one 1 in
    let is : y ≡ storage_in t = same_storage t y (storage_in t) (w.is ∙ kind_storage t one_kind) in
    pick_yes (opens_storage t) _ _ (pick_yes _ _ _ (le-leb 16 (length t) (omega (arith, w.fits))) ∙ eq-eqb (u8_at t 0) 1 one_kind)
    ∙ ap₂ {C = List Storage} (λ u v. u ∷ v) (sym is)
    (ap (λ (n : ℕ). storages_by k (drop n t)) (sym long) ∙ ih p.1 k (omega (arith, length-drop len t)))
    ∙ sym (ap (λ z. z.storages) (rest_whole one t len (storage y) r))
storage_on t len (function n) g g' e r p ih k l =
    none_by t k (not_kind t (λ q. clashing (cc ((read_whole one t len (function n) r).is, kind_storage t q))))
    ∙ sym (ap (λ z. z.storages) (rest_whole one t len (function n) r))
storage_on t len (abi x) g g' e r p ih k l = absurd (omega (arith, p.0))
storage_on t len (block id) g g' e r (inl p, q) ih k l = absurd (omega arith)
storage_on t len (block id) g g' e r (inr p, q) ih k l = absurd (omega arith)
storage_on t len (instruction op sub fn) g g' e r p ih k l = absurd (omega (arith, p.0))
storage_on t len (operand x) g g' e r p ih k l = absurd (omega (arith, p.0.0))
storage_on t len (terminator op sub fn) g g' e r p ih k l = absurd (omega (arith, p.0))
storage_on t len (target id) g g' e r p ih k l = absurd (omega (arith, p.0.0))
storage_on t len end g g' e r (inl p, q) ih k l = absurd (omega arith)
storage_on t len end g g' e r (inr p, q) ih k l = absurd (omega arith)

walk_storages : {s s' : State} {at : ℕ} {t : List ℕ} → Walk one s at t s' → Calm s → s.stage ≡ in_storages → Reads t
unfolding opens_storage pick
walk_storages done c e = λ k l. none_by [] k refl ∙ sym (ap (λ z. z.storages) (rest_nil one))
walk_storages {s} {at = at} {t} (more {s' = s'} len x r q w) c e =
    let h = (stepped one s at x s' q).taken in
    storage_on t len x s.stage s'.stage e r (passed one s at x s' c h) (λ g. walk_storages w (calm_on one s at x s' c h) g)

-- ---- the whole file

-- What the front of an accepted file tells: its storages, that the header is there, and the header's three numbers.
record Fronted (t : List ℕ) : Type 0 where
  storages : declared t ≡ (rest one t).storages
  seven : 7 ≤ length t
  application : (rest one t).application ≡ u16_at t 1
  first : (rest one t).first ≡ u16_at t 3
  work : (rest one t).work ≡ u16_at t 5

same_header : (a f w a' f' w' : ℕ) → header a f w ≡ header a' f' w' → (a ≡ a') × (f ≡ f') × (w ≡ w')
same_header a f w a' f' w' e = (cc, cc, cc)

header_on : (t : List ℕ) (len : ℕ) (x : Rec) (g g' : ℕ) → g ≡ at_start → read one t ≡ whole len x → Passed one x g g'
    → (g' ≡ in_storages → Reads (drop len t)) → Fronted t
unfolding put declared header_at
header_on t len (header a f w) g g' e r p ih =
    let v = read_whole one t len (header a f w) r in
    let no_kind : u8_at t 0 ≡ 0 = is_header t (u8_at t 0) a f w refl (known t len (header a f w) v) v.is in
    let long : len ≡ 7 = v.long ∙ ap (length_of one) no_kind ∙ length_one 0 in
    let n = same_header a f w _ _ _ (v.is ∙ kind_header t no_kind) in
    let whole_is = rest_whole one t len (header a f w) r in
    record {
      storages =
          ap (λ (n : ℕ). storages_by (length t) (drop n t)) (sym long) ∙ ih p.1 (length t) (omega (arith, length-drop len t))
          ∙ sym (ap (λ z. z.storages) whole_is);
      seven = omega (arith, v.fits, long);
      application = ap (λ z. z.application) whole_is ∙ n.0;
      first = ap (λ z. z.first) whole_is ∙ n.1;
      work = ap (λ z. z.work) whole_is ∙ n.2;
    }
header_on t len (storage y) g g' e r p ih = absurd (omega (arith, p.0))
header_on t len (function n) g g' e r (inl p, q) ih = absurd (omega arith)
header_on t len (function n) g g' e r (inr (inl p), q) ih = absurd (omega arith)
header_on t len (function n) g g' e r (inr (inr p), q) ih = absurd (omega arith)
header_on t len (abi x) g g' e r p ih = absurd (omega (arith, p.0))
header_on t len (block id) g g' e r (inl p, q) ih = absurd (omega arith)
header_on t len (block id) g g' e r (inr p, q) ih = absurd (omega arith)
header_on t len (instruction op sub fn) g g' e r p ih = absurd (omega (arith, p.0))
header_on t len (operand x) g g' e r p ih = absurd (omega (arith, p.0.0))
header_on t len (terminator op sub fn) g g' e r p ih = absurd (omega (arith, p.0))
header_on t len (target id) g g' e r p ih = absurd (omega (arith, p.0.0))
header_on t len end g g' e r (inl p, q) ih = absurd (omega arith)
header_on t len end g g' e r (inr p, q) ih = absurd (omega arith)

fronted : {s s' : State} {at : ℕ} {t : List ℕ} → Walk one s at t s' → Calm s → s.stage ≡ at_start → s'.stage ≡ at_end → Fronted t
fronted done c e f = absurd (omega arith)
fronted {s} {at = at} {t} (more {s' = s'} len x r q w) c e f =
    let h = (stepped one s at x s' q).taken in
    header_on t len x s.stage s'.stage e r (passed one s at x s' c h) (λ g. walk_storages w (calm_on one s at x s' c h) g)

module _ (file us : List ℕ) (e : check one file ≡ units us) where
  front : Fronted file
  front = let r = read_out one file us e in fronted (walk one start r.final 0 file r.scans) start_calm refl r.ends

  pub declared_is : declared file ≡ (program one file).storages
  unfolding program
  declared_is = front.storages

  pub header_there : 7 ≤ length file
  header_there = front.seven

  pub header_is : ((program one file).application ≡ u16_at file 1) × ((program one file).first ≡ u16_at file 3) × ((program one file).work ≡ u16_at file 5)
  unfolding program
  header_is = (front.application, front.first, front.work)
