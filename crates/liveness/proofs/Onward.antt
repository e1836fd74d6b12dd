-- What comes from a place on, by the record that stands there. The definitions put a record before what follows it, so a record that belongs to no
-- block and no step leaves those that come, and one that opens a new part ends them; where no record is whole, nothing comes.
use mathlib.Core.Path.{◌≡◌, refl, sym, ap, ◌∙◌}
use mathlib.Core.Logic.{◌⊎◌, inl, inr}
use mathlib.Core.Bool.{Bool, true, false, true≢false}
use mathlib.Core.List.{List, [], ◌∷◌}
use Prim.Native.Nat.{ℕ, zero, suc, ◌+◌, ◌*◌, ◌≤◌, ◌<◌}
use native.Mathlib.Omega.{arith}
use native.Mathlib.Decide.{dec_le}
use lib.Dec.{eqb}
use borrow.Author.Tests.{eqb-true}
use lib.ListN.{length, get_or, drop, drop_of_length-le, length-drop}
use lib.Seq.{drop-drop, get_or-drop}
use Rattle.std.specs.Prelude.{Option, Some, None, MatchOption, IfSome, IsNone}
use Rattle.fields.specs.Pick.{pick}
use Rattle.fields.specs.Edition.{one}
use Rattle.fields.specs.Record.{Operand, Rec, header, storage, function, abi, block, instruction, operand, terminator, target, end, Read, whole, fault, read, record_at, u8_at, u16_at, length_of, header_at, operand_in, instruction_at, terminator_at}
use Rattle.records.specs.Check.{units, check, pieces, pieces_by, at_tail, records_in, records}
use Rattle.records.specs.Program.{Rest, empty, put_step, put, gather}
use Rattle.fields.proofs.Front.{Whole, read_whole, whole_read}
use Rattle.fields.proofs.ByKind.{length_one, length_some, length_none, kind_header, kind_storage, kind_function, kind_abi, kind_block, kind_instruction, kind_operand, kind_terminator, kind_target, kind_end}
use Rattle.records.proofs.Contents.{rest, rest_nil, rest_whole}
use Rattle.records.specs.Index.{brought}
use Rattle.units.specs.Along.{from, step_from, IsStep, Stands, brought_by}
use Rattle.liveness.specs.Walks.{BlockHere, Stopped, Sought, Stops, Paced, Came, Outer, Inner, Same}
use Rattle.units.proofs.Standing.{brought_kind, stands_on}

pub kind_at : (f : List ℕ) (at : ℕ) → u8_at (drop at f) 0 ≡ get_or f at 0
unfolding u8_at
kind_at f at = let z : at + 0 ≡ at = omega arith in get_or-drop at f 0 0 ∙ ap (λ (i : ℕ). get_or f i 0) z

pub from_whole : (f : List ℕ) (at len : ℕ) (x : Rec) → read one (drop at f) ≡ whole len x → from f at ≡ put x (from f (at + len))
from_whole f at len x e = rest_whole one (drop at f) len x e ∙ ap (λ (t : List ℕ). put x (rest one t)) (drop-drop len at f)

pieces_fault : (t : List ℕ) → read one t ≡ fault → pieces one t ≡ []
unfolding pieces pieces_by at_tail
pieces_fault [] e = refl
pieces_fault (b ∷ t) e = rw e

pub from_fault : (f : List ℕ) (at : ℕ) → read one (drop at f) ≡ fault → from f at ≡ empty
unfolding records records_in gather
from_fault f at e = rw (pieces_fault (drop at f) e)

pub from_past : (f : List ℕ) (at : ℕ) → length f ≤ at → from f at ≡ empty
from_past f at h = ap (rest one) (drop_of_length-le f h) ∙ rest_nil one

-- by what is read there
pub from_by : (P : Rest → Type 0) (f : List ℕ) (at : ℕ) → P empty → ((len : ℕ) → read one (drop at f) ≡ whole len (record_at one (drop at f)) → P (put (record_at one (drop at f)) (from f (at + len)))) → P (from f at)
from_by P f at none some = go (read one (drop at f)) refl
  where
    go : (r : Read) → read one (drop at f) ≡ r → P (from f at)
    go fault e = rw (from_fault f at e) none
    go (whole len x) e =
        let i : x ≡ record_at one (drop at f) = (read_whole one (drop at f) len x e).is in
        let q : read one (drop at f) ≡ whole len (record_at one (drop at f)) = e ∙ ap (whole len) i in
        rw (from_whole f at len (record_at one (drop at f)) q) (some len q)

-- a whole record of a kind
module _ (f : List ℕ) (at k : ℕ) (is : get_or f at 0 ≡ k) (some : 0 < length_of one k) (fits : at + length_of one k ≤ length f) where
  kind_here : u8_at (drop at f) 0 ≡ k
  kind_here = kind_at f at ∙ is

  pub read_kind : read one (drop at f) ≡ whole (length_of one k) (record_at one (drop at f))
  read_kind =
      let l : length_of one (u8_at (drop at f) 0) ≡ length_of one k = ap (length_of one) kind_here in
      whole_read one (drop at f) (omega arith) (omega (arith, length-drop at f)) ∙ ap (λ (n : ℕ). whole n (record_at one (drop at f))) l

  pub from_kind : from f at ≡ put (record_at one (drop at f)) (from f (at + length_of one k))
  from_kind = from_whole f at (length_of one k) (record_at one (drop at f)) read_kind

-- Where a search goes on -----------------------------------------------------------------------------------------------------------------------

abbrev Leaves : Bool → Rest → Rest → Type 0
Leaves blocks p r = (p.functions ≡ r.functions) × (blocks ≡ true → p.blocks ≡ r.blocks)

leaves_kind : (t : List ℕ) (r : Rest) (k : ℕ) (blocks : Bool) → u8_at t 0 ≡ k → k < 9 → (k ≡ 2 → ⊥) → (blocks ≡ true → (3 ≤ k) × (k ≡ 4 → ⊥)) → Leaves blocks (put (record_at one t) r) r
unfolding put put_step header_at instruction_at terminator_at
leaves_kind t r zero blocks e l n s = rw (kind_header t e) (refl, λ b. absurd (omega (arith, (s b).0)))
leaves_kind t r (suc zero) blocks e l n s = rw (kind_storage t e) (refl, λ b. absurd (omega (arith, (s b).0)))
leaves_kind t r (suc (suc zero)) blocks e l n s = absurd (n refl)
leaves_kind t r (suc (suc (suc zero))) blocks e l n s = rw (kind_abi t e) (refl, λ b. refl)
leaves_kind t r (suc (suc (suc (suc zero)))) blocks e l n s = rw (kind_block t e) (refl, λ b. absurd ((s b).1 refl))
leaves_kind t r (suc (suc (suc (suc (suc zero))))) blocks e l n s = rw (kind_instruction t e) (refl, λ b. refl)
leaves_kind t r (suc (suc (suc (suc (suc (suc zero)))))) blocks e l n s = rw (kind_operand t e) (refl, λ b. refl)
leaves_kind t r (suc (suc (suc (suc (suc (suc (suc zero))))))) blocks e l n s = rw (kind_terminator t e) (refl, λ b. refl)
leaves_kind t r (suc (suc (suc (suc (suc (suc (suc (suc zero)))))))) blocks e l n s = rw (kind_target t e) (refl, λ b. refl)
leaves_kind t r (suc (suc (suc (suc (suc (suc (suc (suc (suc k))))))))) blocks e l n s = absurd (omega arith)

module _ (f : List ℕ) (at k : ℕ) (is : get_or f at 0 ≡ k) (blocks : Bool) where
  pub sought_on : 0 < length_of one k → at + length_of one k ≤ length f → k < 9 → (k ≡ 2 → ⊥) → (blocks ≡ true → (3 ≤ k) × (k ≡ 4 → ⊥)) → Sought f blocks at (at + length_of one k)
  sought_on some fits l n s =
      let h = leaves_kind (drop at f) (from f (at + length_of one k)) k blocks (kind_at f at ∙ is) l n s in
      let e = from_kind f at k is some fits in
      record { block = λ b. sym (ap (λ (r : Rest). r.blocks) e ∙ h.1 b); function = sym (ap (λ (r : Rest). r.functions) e ∙ h.0) }

  -- nothing comes at the end record and where no kind stands
  pub none_late : 9 ≤ k → from f at ≡ empty
  unfolding put
  none_late l =
      from_by (λ r. r ≡ empty) f at refl
      (λ len e. let w = read_whole one (drop at f) len _ e in go len (rw (kind_at f at ∙ is) at w.long) w.some (dec_le 10 k))
    where
      go : (len : ℕ) → len ≡ length_of one k → 0 < len → Dec (10 ≤ k) → put (record_at one (drop at f)) (from f (at + len)) ≡ empty
      go len a b (yes h) = absurd (omega (arith, length_none k h))
      go len a b (no h) = let nine : u8_at (drop at f) 0 ≡ 9 = kind_at f at ∙ (is ∙ omega arith) in rw (kind_end (drop at f) nine)

  front_none : k < 2 → (put (record_at one (drop at f)) (from f (at + length_of one k))).blocks ≡ []
  unfolding put header_at
  front_none l = go k refl l
    where
      go : (j : ℕ) → k ≡ j → j < 2 → (put (record_at one (drop at f)) (from f (at + length_of one k))).blocks ≡ []
      go zero q h = rw (kind_header (drop at f) (kind_at f at ∙ (is ∙ q)))
      go (suc zero) q h = rw (kind_storage (drop at f) (kind_at f at ∙ (is ∙ q)))
      go (suc (suc j)) q h = absurd (omega arith)

  pub stopped_by : at + length_of one k ≤ length f → (k ≡ 2) ⊎ ((9 ≤ k) ⊎ ((blocks ≡ true) × ((k < 2) ⊎ (k ≡ 4)))) → Stopped f blocks at
  unfolding put
  stopped_by fits (inl h) =
      let two : length_of one k ≡ 2 = ap (length_of one) h ∙ length_one 2 in
      let e = from_kind f at k is (omega arith) fits in
      record {
        block = λ b n. ap (λ (r : Rest). r.blocks) e ∙ rw (kind_function (drop at f) (kind_at f at ∙ (is ∙ h)));
        function = λ b n. absurd (n (is ∙ h, omega arith));
      }
  stopped_by fits (inr (inl h)) = record { block = λ b n. ap (λ (r : Rest). r.blocks) (none_late h); function = λ b n. ap (λ (r : Rest). r.functions) (none_late h) }
  stopped_by fits (inr (inr (b, inl h))) =
      let some : 0 < length_of one k = length_some k (omega arith) in
      record { block = λ _ n. ap (λ (r : Rest). r.blocks) (from_kind f at k is some fits) ∙ front_none h; function = λ c n. absurd (true≢false (sym b ∙ c)) }
  stopped_by fits (inr (inr (b, inr h))) =
      let three : length_of one k ≡ 3 = ap (length_of one) h ∙ length_one 4 in
      record { block = λ _ n. absurd (n (is ∙ h, omega arith)); function = λ c n. absurd (true≢false (sym b ∙ c)) }

pub stopped_none : (f : List ℕ) (at : ℕ) (blocks : Bool) → from f at ≡ empty → Stopped f blocks at
stopped_none f at blocks e = record { block = λ b n. ap (λ (r : Rest). r.blocks) e; function = λ b n. ap (λ (r : Rest). r.functions) e }

-- where no record is whole
pub from_none : (f : List ℕ) (at : ℕ) → (length_of one (u8_at (drop at f) 0) ≡ 0) ⊎ (length (drop at f) < length_of one (u8_at (drop at f) 0)) → from f at ≡ empty
from_none f at o = from_by (λ r. r ≡ empty) f at refl (λ len e. absurd (go (read_whole one (drop at f) len _ e) o))
  where
    go : {len : ℕ} {x : Rec} → Whole one (drop at f) len x → (length_of one (u8_at (drop at f) 0) ≡ 0) ⊎ (length (drop at f) < length_of one (u8_at (drop at f) 0)) → ⊥
    go w (inl z) = omega (arith, w.some, w.long)
    go w (inr l) = omega (arith, w.fits, w.long)

pub brought_low : (k : ℕ) → 7 * brought_by k ≤ length_of one k
unfolding pick
brought_low k = go (eqb k 3) refl (eqb k 6) refl
  where
    go : (a : Bool) → eqb k 3 ≡ a → (b : Bool) → eqb k 6 ≡ b → 7 * pick a 1 (pick b 1 0) ≤ length_of one k
    go true p b q = rw (eqb-true k 3 p, length_one 3) (omega arith)
    go false p true q = rw (eqb-true k 6 q, length_one 6) (omega arith)
    go false p false q = omega arith

pub past_either : (f : List ℕ) (at : ℕ) → (length f < at) ⊎ (length f < length f) → from f at ≡ empty
past_either f at (inl h) = from_past f at (omega arith)
past_either f at (inr h) = absurd (omega arith)

-- how long a whole record is, by what the reader of its tail says
pub whole_from : (f t : List ℕ) (at : ℕ) → t ≡ drop at f → at ≤ length f → (r : Option ℕ) → IfSome r (λ len. (0 < len) × (len ≤ length t) × (len ≡ length_of one (u8_at t 0)))
    → (IsNone r → (length_of one (u8_at t 0) ≡ 0) ⊎ (length t < length_of one (u8_at t 0)))
    → MatchOption r (from f at ≡ empty) (λ len. (0 < len) × (at + len ≤ length f) × (len ≡ length_of one (get_or f at 0)))
whole_from f t at e l None w n = from_none f at (rw e at (n refl))
whole_from f t at e l (Some len) w n = (w.0, omega (arith, w.1, ap length e, length-drop at f), w.2 ∙ ap (λ (x : List ℕ). length_of one (u8_at x 0)) e ∙ ap (length_of one) (kind_at f at))

-- what a search's test of the record there says
module _ (f : List ℕ) (blocks : Bool) (at n : ℕ) (is : n ≡ length_of one (get_or f at 0)) (fits : at + n ≤ length f) (some : 0 < n) (stop : Bool) (s : Stops (get_or f at 0) blocks stop) where
  pub stopped_there : stop ≡ true → Stopped f blocks at
  stopped_there e = stopped_by f at (get_or f at 0) refl blocks (omega arith) (s.halt e)

  pub paced_on : stop ≡ false → Paced f blocks at n
  paced_on e =
      let h = s.on e in
      record {
        some = some;
        long = is;
        fits = fits;
        brings = rw is (brought_low (get_or f at 0));
        sought = rw is (sought_on f at (get_or f at 0) refl blocks (omega arith) (omega arith) h.0 h.1 h.2);
      }

-- Inside a block -------------------------------------------------------------------------------------------------------------------------------

outer_kind : (t : List ℕ) (r : Rest) (k : ℕ) → u8_at t 0 ≡ k → k < 5 → ((put (record_at one t) r).steps ≡ []) × ((put (record_at one t) r).targets ≡ [])
unfolding put header_at
outer_kind t r zero e l = rw (kind_header t e) (refl, refl)
outer_kind t r (suc zero) e l = rw (kind_storage t e) (refl, refl)
outer_kind t r (suc (suc zero)) e l = rw (kind_function t e) (refl, refl)
outer_kind t r (suc (suc (suc zero))) e l = rw (kind_abi t e) (refl, refl)
outer_kind t r (suc (suc (suc (suc zero)))) e l = rw (kind_block t e) (refl, refl)
outer_kind t r (suc (suc (suc (suc (suc k))))) e l = absurd (omega arith)

pub outer_none : (f : List ℕ) (at : ℕ) → from f at ≡ empty → Outer f at
outer_none f at e = (ap (λ (r : Rest). r.steps) e, ap (λ (r : Rest). r.targets) e)

pub outer_low : (f : List ℕ) (at : ℕ) → get_or f at 0 < 5 → Outer f at
outer_low f at l = from_by (λ r. (r.steps ≡ []) × (r.targets ≡ [])) f at (refl, refl) (λ len e. outer_kind (drop at f) (from f (at + len)) (get_or f at 0) (kind_at f at) l)

pub outer_late : (f : List ℕ) (at : ℕ) → 8 < get_or f at 0 → Outer f at
outer_late f at l = outer_none f at (none_late f at (get_or f at 0) refl false l)

-- a record of a kind and its length
module _ (f : List ℕ) (at k n : ℕ) (is : get_or f at 0 ≡ k) (long : length_of one k ≡ n) (some : 0 < n) (fits : at + n ≤ length f) where
  read_at : read one (drop at f) ≡ whole n (record_at one (drop at f))
  read_at = rw long at (read_kind f at k is (omega arith) (omega arith))

  from_at : (x : Rec) → record_at one (drop at f) ≡ x → (read one (drop at f) ≡ whole n x) × (from f at ≡ put x (from f (at + n)))
  from_at x e = let q = read_at ∙ ap (whole n) e in (q, from_whole f at n x q)

module _ (f : List ℕ) (at : ℕ) where
  abbrev Holds : ℕ → Rec → Type 0
  Holds n x = (read one (drop at f) ≡ whole n x) × (from f at ≡ put x (from f (at + n)))

  pub from_block : BlockHere f at → Holds 3 (block (u16_at (drop at f) 1))
  from_block h = from_at f at 4 3 h.0 (length_one 4) (omega arith) h.1 _ (kind_block (drop at f) (kind_at f at ∙ h.0))

  pub from_target : Inner f at 8 → Holds 3 (target (u16_at (drop at f) 1))
  from_target h = from_at f at 8 3 h.is (length_one 8) (omega arith) (omega (arith, h.fits, length_one 8)) _ (kind_target (drop at f) (kind_at f at ∙ h.is))

  pub from_operand : Inner f at 6 → Holds 7 (operand (operand_in (drop at f)))
  from_operand h = from_at f at 6 7 h.is (length_one 6) (omega arith) (omega (arith, h.fits, length_one 6)) _ (kind_operand (drop at f) (kind_at f at ∙ h.is))

  -- a step of either kind
  pub step_here : (k : ℕ) → Inner f at k → (k ≡ 8 → ⊥) → (k ≡ 6 → ⊥) → IsStep f at × (at + 4 ≤ length f) × (from f at ≡ put_step (step_from f at) (from f (at + 4)))
  unfolding put instruction_at terminator_at
  step_here (suc (suc (suc (suc (suc zero))))) h a b =
      let five : u8_at (drop at f) 0 ≡ 5 = kind_at f at ∙ h.is in
      let r = from_at f at 5 4 h.is (length_one 5) (omega arith) (omega (arith, h.fits, length_one 5)) _ (kind_instruction (drop at f) five) in
      (inl five, omega (arith, h.fits, length_one 5), rw five r.1)
  step_here (suc (suc (suc (suc (suc (suc zero)))))) h a b = absurd (b refl)
  step_here (suc (suc (suc (suc (suc (suc (suc zero))))))) h a b =
      let seven : u8_at (drop at f) 0 ≡ 7 = kind_at f at ∙ h.is in
      let r = from_at f at 7 4 h.is (length_one 7) (omega arith) (omega (arith, h.fits, length_one 7)) _ (kind_terminator (drop at f) seven) in
      (inr seven, omega (arith, h.fits, length_one 7), rw seven r.1)
  step_here (suc (suc (suc (suc (suc (suc (suc (suc zero)))))))) h a b = absurd (a refl)
  step_here (suc (suc (suc (suc (suc (suc (suc (suc (suc k))))))))) h a b = absurd (omega (arith, h.high))
  step_here zero h a b = absurd (omega (arith, h.low))
  step_here (suc zero) h a b = absurd (omega (arith, h.low))
  step_here (suc (suc zero)) h a b = absurd (omega (arith, h.low))
  step_here (suc (suc (suc zero))) h a b = absurd (omega (arith, h.low))
  step_here (suc (suc (suc (suc zero)))) h a b = absurd (omega (arith, h.low))

-- Over the operands of a step ------------------------------------------------------------------------------------------------------------------

operand_long : (t : List ℕ) (len : ℕ) (y : Operand) → read one t ≡ whole len (operand y) → len ≡ 7
unfolding header_at instruction_at terminator_at
operand_long t len y e = let w = read_whole one t len (operand y) e in go (u8_at t 0) refl w.long w.some w.is
  where
    go : (k : ℕ) → u8_at t 0 ≡ k → len ≡ length_of one k → 0 < len → operand y ≡ record_at one t → len ≡ 7
    go zero q l s i = let z : ◌≡◌ {A = ℕ} 0 1 = cc (kind_header t q) in absurd (omega arith)
    go (suc zero) q l s i = let z : ◌≡◌ {A = ℕ} 0 1 = cc (kind_storage t q) in absurd (omega arith)
    go (suc (suc zero)) q l s i = let z : ◌≡◌ {A = ℕ} 0 1 = cc (kind_function t q) in absurd (omega arith)
    go (suc (suc (suc zero))) q l s i = let z : ◌≡◌ {A = ℕ} 0 1 = cc (kind_abi t q) in absurd (omega arith)
    go (suc (suc (suc (suc zero)))) q l s i = let z : ◌≡◌ {A = ℕ} 0 1 = cc (kind_block t q) in absurd (omega arith)
    go (suc (suc (suc (suc (suc zero))))) q l s i = let z : ◌≡◌ {A = ℕ} 0 1 = cc (kind_instruction t q) in absurd (omega arith)
    go (suc (suc (suc (suc (suc (suc zero)))))) q l s i = l ∙ length_one 6
    go (suc (suc (suc (suc (suc (suc (suc zero))))))) q l s i = let z : ◌≡◌ {A = ℕ} 0 1 = cc (kind_terminator t q) in absurd (omega arith)
    go (suc (suc (suc (suc (suc (suc (suc (suc zero)))))))) q l s i = let z : ◌≡◌ {A = ℕ} 0 1 = cc (kind_target t q) in absurd (omega arith)
    go (suc (suc (suc (suc (suc (suc (suc (suc (suc zero))))))))) q l s i = let z : ◌≡◌ {A = ℕ} 0 1 = cc (kind_end t q) in absurd (omega arith)
    go (suc (suc (suc (suc (suc (suc (suc (suc (suc (suc k)))))))))) q l s i = absurd (omega (arith, length_none (suc (suc (suc (suc (suc (suc (suc (suc (suc (suc k)))))))))) (omega arith)))

same_on : (f : List ℕ) (at to : ℕ) → at ≡ to → Same f at to
same_on f at to e = rw e (record { steps = refl; targets = refl; blocks = refl; functions = refl })

pub over_operands : (f : List ℕ) (l : List Operand) (at : ℕ) → (from f at).operands ≡ l → Same f at (at + 7 * length l)
unfolding put put_step
over_operands f [] at e = same_on f at (at + 7 * 0) (omega arith)
over_operands f (o ∷ l) at e = go (read one (drop at f)) refl (over_operands f l (at + 7))
  where
    go : (r : Read) → read one (drop at f) ≡ r → ((from f (at + 7)).operands ≡ l → Same f (at + 7) (at + 7 + 7 * length l)) → Same f at (at + 7 * length (o ∷ l))
    go fault q ih = let z : ◌≡◌ {A = ℕ} 0 1 = cc (from_fault f at q) in absurd (omega arith)
    go (whole len (header a b w)) q ih = let z : ◌≡◌ {A = ℕ} 0 1 = cc (from_whole f at len _ q) in absurd (omega arith)
    go (whole len (storage x)) q ih = let z : ◌≡◌ {A = ℕ} 0 1 = cc (from_whole f at len _ q) in absurd (omega arith)
    go (whole len (function n)) q ih = let z : ◌≡◌ {A = ℕ} 0 1 = cc (from_whole f at len _ q) in absurd (omega arith)
    go (whole len (abi x)) q ih = let z : ◌≡◌ {A = ℕ} 0 1 = cc (from_whole f at len _ q) in absurd (omega arith)
    go (whole len (block id)) q ih = let z : ◌≡◌ {A = ℕ} 0 1 = cc (from_whole f at len _ q) in absurd (omega arith)
    go (whole len (instruction op sub fn)) q ih = let z : ◌≡◌ {A = ℕ} 0 1 = cc (from_whole f at len _ q) in absurd (omega arith)
    go (whole len (operand x)) q ih =
        let seven : len ≡ 7 = operand_long (drop at f) len x q in
        let p : read one (drop at f) ≡ whole 7 (operand x) = q ∙ ap (λ (n : ℕ). whole n (operand x)) seven in
        let w = from_whole f at 7 (operand x) p in
        let tail : (from f (at + 7)).operands ≡ l = cc in
        let h = ih tail in
        let far : at + 7 + 7 * length l ≡ at + 7 * length (o ∷ l) = omega arith in
        rw (← far)
        (record {
          steps = h.steps ∙ sym (ap (λ (r : Rest). r.steps) w);
          targets = h.targets ∙ sym (ap (λ (r : Rest). r.targets) w);
          blocks = h.blocks ∙ sym (ap (λ (r : Rest). r.blocks) w);
          functions = h.functions ∙ sym (ap (λ (r : Rest). r.functions) w);
        })
    go (whole len (terminator op sub fn)) q ih = let z : ◌≡◌ {A = ℕ} 0 1 = cc (from_whole f at len _ q) in absurd (omega arith)
    go (whole len (target id)) q ih = let z : ◌≡◌ {A = ℕ} 0 1 = cc (from_whole f at len _ q) in absurd (omega arith)
    go (whole len end) q ih = let z : ◌≡◌ {A = ℕ} 0 1 = cc (from_whole f at len _ q) in absurd (omega arith)

-- A search -------------------------------------------------------------------------------------------------------------------------------------

pub came_none : (f : List ℕ) (blocks : Bool) (at k : ℕ) → 7 * k ≤ at → Came f blocks at k at k
came_none f blocks at k s = record { sound = s; on = omega arith; within = λ h. h; sought = record { block = λ _. refl; function = refl }; stands = λ us ok h. h }

pub came_on : (f : List ℕ) (blocks : Bool) (a m at k len n : ℕ) → Came f blocks a m at k → Paced f blocks at len → n ≡ brought_by (get_or f at 0) → Came f blocks a m (at + len) (k + n)
came_on f blocks a m at k len n g p e =
    record {
      sound = omega (arith, g.sound, p.brings);
      on = omega (arith, g.on);
      within = λ _. p.fits;
      sought = record { block = λ q. p.sought.block q ∙ g.sought.block q; function = p.sought.function ∙ g.sought.function };
      stands = λ us ok h. stands_there us ok h;
    }
  where
    stands_there : (us : List ℕ) → check one f ≡ units us → Stands f a m → Stands f (at + len) (k + n)
    stands_there us ok h =
        let some : 0 < length_of one (get_or f at 0) = omega (arith, p.some, p.long) in
        let r = read_kind f at (get_or f at 0) refl some (omega (arith, p.fits, p.long)) in
        let q : brought (record_at one (drop at f)) ≡ brought_by (get_or f at 0) = brought_kind (drop at f) (rw (kind_at f at) some) ∙ ap brought_by (kind_at f at) in
        rw (p.long, e, ← q) (stands_on f us ok at k (g.stands us ok h) (length_of one (get_or f at 0)) (record_at one (drop at f)) r)
