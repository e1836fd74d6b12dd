-- Cursors in an accepted file. Its pieces are the file, so a cursor that stands before a piece stands before the next one after it; and its unit
-- numbers are those of its records in order, since a unit's number stays when units are added, so those from a cursor on are those of the records there.
use mathlib.Core.Path.{◌≡◌, refl, sym, ap, ap₂, ◌∙◌}
use mathlib.Core.Logic.{◌⊎◌, inl, inr}
use mathlib.Core.Bool.{Bool, true, false}
use mathlib.Core.List.{List, [], ◌∷◌, ◌++◌, append_assoc, append-nil}
use Prim.Native.Nat.{ℕ, zero, suc, ◌+◌, ◌*◌, ◌≤◌, ◌<◌}
use native.Mathlib.Omega.{arith}
use native.Mathlib.Nat.{zero-add}
use lib.Dec.{eqb}
use lib.ListN.{length, take, drop, length-append}
use lib.Seq.{take-append_seam, drop-append_seam, drop_at, take-nil, length-take-le}
use Rattle.fields.specs.Pick.{pick, has, All}
use Rattle.fields.specs.Edition.{Edition, one}
use Rattle.fields.specs.Record.{Operand, Rec, header, storage, function, abi, block, instruction, operand, terminator, target, end, whole, read, record_at, u8_at, length_of, word_of, header_at, instruction_at, terminator_at}
use Rattle.records.specs.Units.{noted, no_unit}
use Rattle.records.specs.Step.{State, start, next, with_header, with_storage, with_function, with_block, with_opened, with_number, with_unit, unit_step, operand_step, admit, take as take_step, step}
use Rattle.records.specs.Program.{Rest, gather}
use Rattle.records.specs.Check.{units, check, pieces, records_in, records, numbers}
use Rattle.fields.proofs.Front.{read_whole, read_append, read_take}
use Rattle.fields.proofs.ByKind.{length_none, kind_header, kind_storage, kind_function, kind_abi, kind_block, kind_instruction, kind_operand, kind_terminator, kind_target, kind_end}
use Rattle.records.proofs.Scan.{joined, IsPiece, Cut, Walk, done, more, walk, pieces_nil, pieces_whole, records_nil, records_whole, piece_place, joined_append}
use Rattle.records.proofs.Took.{Named, stepped, unnamed, given_to, need_next, bar_next, next_is, unit_took}
use Rattle.records.proofs.Numbers.{number_stays}
use Rattle.records.proofs.Range.{Distinct, InRange, kept, walk_range}
use Rattle.records.proofs.Contents.{RestIn, gather_in}
use Rattle.records.proofs.Reading.{brought_long}
use Rattle.records.proofs.Accepted.{read_out, accepted}
use Rattle.records.specs.Index.{brought}
use Rattle.units.specs.Along.{bringing, numbers_in, bytes_in, from, Stands, brought_by}

-- Pieces and records ---------------------------------------------------------------------------------------------------------------------------

pub bytes_joined : (ps : List (List ℕ)) → bytes_in ps ≡ length (joined ps)
unfolding bytes_in joined
bytes_joined [] = refl
bytes_joined (p ∷ ps) = ap (λ (n : ℕ). length p + n) (bytes_joined ps) ∙ sym (length-append p (joined ps))

bytes_snoc : (ps : List (List ℕ)) (p : List ℕ) → bytes_in (ps ++ (p ∷ [])) ≡ bytes_in ps + length p
unfolding bytes_in
bytes_snoc [] p = omega arith
bytes_snoc (q ∷ ps) p = omega (arith, bytes_snoc ps p)

pub records_append : (ed : Edition) (ps qs : List (List ℕ)) → records_in ed (ps ++ qs) ≡ records_in ed ps ++ records_in ed qs
unfolding records_in
records_append ed [] qs = refl
records_append ed (p ∷ ps) qs = ap (λ (xs : List Rec). record_at ed p ∷ xs) (records_append ed ps qs)

bringing_append : (ed : Edition) (us : List ℕ) (x : Rec) (ns ms : List ℕ) → bringing ed us x (ns ++ ms) ≡ bringing ed us x ns ++ ms
bringing_append ed us (header a f w) ns ms = refl
bringing_append ed us (storage x) ns ms = refl
bringing_append ed us (function n) ns ms = refl
bringing_append ed us (abi x) ns ms = refl
bringing_append ed us (block id) ns ms = refl
bringing_append ed us (instruction op sub fn) ns ms = refl
bringing_append ed us (operand x) ns ms = refl
bringing_append ed us (terminator op sub fn) ns ms = refl
bringing_append ed us (target id) ns ms = refl
bringing_append ed us end ns ms = refl

pub numbers_append : (ed : Edition) (us : List ℕ) (xs ys : List Rec) → numbers_in ed us (xs ++ ys) ≡ numbers_in ed us xs ++ numbers_in ed us ys
unfolding numbers_in
numbers_append ed us [] ys = refl
numbers_append ed us (x ∷ xs) ys = ap (bringing ed us x) (numbers_append ed us xs ys) ∙ bringing_append ed us x (numbers_in ed us xs) (numbers_in ed us ys)

-- so many numbers, whatever the units
bringing_count : (ed : Edition) (us : List ℕ) (x : Rec) (ns : List ℕ) → length (bringing ed us x ns) ≡ brought x + length ns
bringing_count ed us (header a f w) ns = omega arith
bringing_count ed us (storage x) ns = omega arith
bringing_count ed us (function n) ns = omega arith
bringing_count ed us (abi x) ns = omega arith
bringing_count ed us (block id) ns = omega arith
bringing_count ed us (instruction op sub fn) ns = omega arith
bringing_count ed us (operand x) ns = omega arith
bringing_count ed us (terminator op sub fn) ns = omega arith
bringing_count ed us (target id) ns = omega arith
bringing_count ed us end ns = omega arith

pub numbers_count : (ed : Edition) (us vs : List ℕ) (xs : List Rec) → length (numbers_in ed us xs) ≡ length (numbers_in ed vs xs)
unfolding numbers_in
numbers_count ed us vs [] = refl
numbers_count ed us vs (x ∷ xs) = bringing_count ed us x _ ∙ ap (λ (n : ℕ). brought x + n) (numbers_count ed us vs xs) ∙ sym (bringing_count ed vs x _)

numbers_snoc : (ed : Edition) (us : List ℕ) (xs : List Rec) (x : Rec) → length (numbers_in ed us (xs ++ (x ∷ []))) ≡ length (numbers_in ed us xs) + brought x
unfolding numbers_in
numbers_snoc ed us xs x =
    ap length (numbers_append ed us xs (x ∷ [])) ∙ length-append (numbers_in ed us xs) (numbers_in ed us (x ∷ [])) ∙ last
  where
    last : length (numbers_in ed us xs) + length (bringing ed us x []) ≡ length (numbers_in ed us xs) + brought x
    last = omega (arith, bringing_count ed us x [])

-- whole pieces put together are cut into the same pieces
pub pieces_joined : (ed : Edition) (ps : List (List ℕ)) → All (IsPiece ed) ps → pieces ed (joined ps) ≡ ps
unfolding joined
pieces_joined ed [] h = pieces_nil ed
pieces_joined ed (p ∷ ps) h =
    pieces_whole ed (p ++ joined ps) (length p) h.0.taken (read_append ed p (joined ps) (length p) h.0.taken h.0.reads)
    ∙ ap₂ (λ (a : List ℕ) (b : List (List ℕ)). a ∷ b) (take-append_seam p (joined ps)) (ap (pieces ed) (drop-append_seam p (joined ps)) ∙ pieces_joined ed ps h.1)

pub all_before : {A : Type 0} (P : A → Type 0) (xs ys : List A) → All P (xs ++ ys) → All P xs
all_before P [] ys h = tt
all_before P (x ∷ xs) ys h = (h.0, all_before P xs ys h.1)

pub all_after : {A : Type 0} (P : A → Type 0) (xs ys : List A) → All P (xs ++ ys) → All P ys
all_after P [] ys h = h
all_after P (x ∷ xs) ys h = all_after P xs ys h.1

-- A record that brings a number has seven bytes ----------------------------------------------------------------------------------------------

-- the kind byte says how many numbers a record brings
pub brought_kind : (t : List ℕ) → 0 < length_of one (u8_at t 0) → brought (record_at one t) ≡ brought_by (u8_at t 0)
unfolding header_at instruction_at terminator_at pick
brought_kind t l = go (u8_at t 0) refl l
  where
    go : (k : ℕ) → u8_at t 0 ≡ k → 0 < length_of one k → brought (record_at one t) ≡ brought_by k
    go zero e l = ap brought (kind_header t e)
    go (suc zero) e l = ap brought (kind_storage t e)
    go (suc (suc zero)) e l = ap brought (kind_function t e)
    go (suc (suc (suc zero))) e l = ap brought (kind_abi t e)
    go (suc (suc (suc (suc zero)))) e l = ap brought (kind_block t e)
    go (suc (suc (suc (suc (suc zero))))) e l = ap brought (kind_instruction t e)
    go (suc (suc (suc (suc (suc (suc zero)))))) e l = ap brought (kind_operand t e)
    go (suc (suc (suc (suc (suc (suc (suc zero))))))) e l = ap brought (kind_terminator t e)
    go (suc (suc (suc (suc (suc (suc (suc (suc zero)))))))) e l = ap brought (kind_target t e)
    go (suc (suc (suc (suc (suc (suc (suc (suc (suc zero))))))))) e l = ap brought (kind_end t e)
    go (suc (suc (suc (suc (suc (suc (suc (suc (suc (suc k)))))))))) e l = absurd (omega (arith, length_none (suc (suc (suc (suc (suc (suc (suc (suc (suc (suc k)))))))))) (omega arith)))

pieces_long : (ps : List (List ℕ)) → All (IsPiece one) ps → 7 * length (numbers_in one [] (records_in one ps)) ≤ bytes_in ps
unfolding numbers_in records_in bytes_in
pieces_long [] h = omega arith
pieces_long (p ∷ ps) h =
    let w = read_whole one p (length p) h.0.taken h.0.reads in
    omega (arith, w.long, (brought_long p).long, pieces_long ps h.1, bringing_count one [] (record_at one p) (numbers_in one [] (records_in one ps)))

-- Cursors -------------------------------------------------------------------------------------------------------------------------------------

pub stands_start : (f : List ℕ) → Stands f 0 0
unfolding bytes_in numbers_in records_in
stands_start f = record { before = []; after = pieces one f; splits = refl; place = refl; number = refl }

module _ (f us : List ℕ) (ok : check one f ≡ units us) where
  cut_of : Cut one f
  cut_of = (accepted one f us ok).1

  module _ (at k : ℕ) (s : Stands f at k) where
    pub stands_tail : drop at f ≡ joined s.after
    stands_tail =
        let a : at ≡ length (joined s.before) = s.place ∙ bytes_joined s.before in
        let b : f ≡ joined (s.before ++ s.after) = sym cut_of.joins ∙ ap joined s.splits in
        ap₂ (λ (n : ℕ) (l : List ℕ). drop n l) a b ∙ piece_place s.before s.after

    whole_pieces : All (IsPiece one) (s.before ++ s.after)
    whole_pieces = rw s.splits at cut_of.each

    pub stands_pieces : pieces one (drop at f) ≡ s.after
    stands_pieces = ap (pieces one) stands_tail ∙ pieces_joined one s.after (all_after (IsPiece one) s.before s.after whole_pieces)

    pub stands_records : records one (drop at f) ≡ records_in one s.after
    unfolding records
    stands_records = ap (records_in one) stands_pieces

    pub stands_sound : 7 * k ≤ at
    stands_sound = rw (s.place, s.number) (pieces_long s.before (all_before (IsPiece one) s.before s.after whole_pieces))

    pub stands_within : at ≤ length f
    stands_within =
        let a : at ≡ length (joined s.before) = s.place ∙ bytes_joined s.before in
        let b : f ≡ joined s.before ++ joined s.after = sym cut_of.joins ∙ ap joined s.splits ∙ joined_append s.before s.after in
        omega (arith, ap length b, length-append (joined s.before) (joined s.after))

    pub stands_on : (len : ℕ) (x : Rec) → read one (drop at f) ≡ whole len x → Stands f (at + len) (k + brought x)
    unfolding records_in
    stands_on len x e =
        record {
          before = s.before ++ (p ∷ []);
          after = pieces one (drop len (drop at f));
          splits = s.splits ∙ ap (λ (ps : List (List ℕ)). s.before ++ ps) cons ∙ sym (append_assoc s.before (p ∷ []) (pieces one (drop len (drop at f))));
          place = omega (arith, s.place, bytes_snoc s.before p, long);
          number = omega (arith, s.number, ap (λ (xs : List Rec). length (numbers_in one [] xs)) (records_append one s.before (p ∷ []) ∙ ap (λ (y : Rec). records_in one s.before ++ (y ∷ [])) is), numbers_snoc one [] (records_in one s.before) x);
        }
      where
        p : List ℕ
        p = take len (drop at f)

        long : length p ≡ len
        long = length-take-le len (drop at f) (read_whole one (drop at f) len x e).fits

        is : record_at one p ≡ x
        is = sym (read_whole one p len x (read_take one (drop at f) len x e)).is

        cons : s.after ≡ p ∷ pieces one (drop len (drop at f))
        cons = sym stands_pieces ∙ pieces_whole one (drop at f) len x e

-- Unit numbers --------------------------------------------------------------------------------------------------------------------------------

-- units were added at the end
record Longer (us vs : List ℕ) : Type 0 where
  added : List ℕ
  is : vs ≡ us ++ added

longer_same : (us : List ℕ) → Longer us us
longer_same us = record { added = []; is = sym (append-nil us) }

longer_on : {us vs ws : List ℕ} → Longer us vs → Longer vs ws → Longer us ws
longer_on {us} p q = record { added = p.added ++ q.added; is = q.is ∙ ap (λ (l : List ℕ). l ++ q.added) p.is ∙ append_assoc us p.added q.added }

longer_noted : (word : ℕ) (us : List ℕ) → Longer us (noted word us)
unfolding noted pick
longer_noted word us = go (has word us)
  where
    go : (t : Bool) → Longer us (pick t us (us ++ (word ∷ [])))
    go true = longer_same us
    go false = record { added = word ∷ []; is = refl }

module _ (ed : Edition) where
  bringing_stays : (ids us vs : List ℕ) (x : Rec) (ns : List ℕ) → InRange ed ids us x → bringing ed (us ++ vs) x ns ≡ bringing ed us x ns
  unfolding pick
  bringing_stays ids us vs (header a f w) ns h = refl
  bringing_stays ids us vs (storage x) ns h = refl
  bringing_stays ids us vs (function n) ns h = refl
  bringing_stays ids us vs (abi x) ns h = ap (λ (n : ℕ). n ∷ ns) (number_stays (word_of ed x.shape x.storage x.offset) us vs h.numbered)
  bringing_stays ids us vs (block id) ns h = refl
  bringing_stays ids us vs (instruction op sub fn) ns h = refl
  bringing_stays ids us vs (operand x) ns (inl h) = rw h
  bringing_stays ids us vs (operand x) ns (inr h) =
      ap (λ (n : ℕ). pick (eqb x.shape 0) no_unit n ∷ ns) (number_stays (word_of ed x.shape x.storage x.offset) us vs h.numbered)
  bringing_stays ids us vs (terminator op sub fn) ns h = refl
  bringing_stays ids us vs (target id) ns h = refl
  bringing_stays ids us vs end ns h = refl

  bringing_longer : (ids us vs : List ℕ) (x : Rec) (ns : List ℕ) → InRange ed ids us x → Longer us vs → bringing ed vs x ns ≡ bringing ed us x ns
  bringing_longer ids us vs x ns h l = ap (λ (ws : List ℕ). bringing ed ws x ns) l.is ∙ bringing_stays ids us l.added x ns h

  -- an operand that was taken, by its shape
  abbrev Shaped : State → Operand → State → Type 0
  Shaped s x s' = ((eqb x.shape 0 ≡ true) × (s' ≡ unnamed s)) ⊎ ((eqb x.shape 0 ≡ false) × Named ed x.shape x.storage x.offset s s')

  shaped : (s : State) (at : ℕ) (x : Operand) (s' : State) → operand_step ed at x s ≡ next s' → Shaped s x s'
  unfolding operand_step pick
  shaped s at x s' e = go (eqb x.shape 0) refl e
    where
      go : (t : Bool) → eqb x.shape 0 ≡ t → pick t (next (unnamed s)) (unit_step ed at x.shape x.storage x.offset s) ≡ next s' → Shaped s x s'
      go true h q = inl (h, next_is _ _ q)
      go false h q = inr (h, unit_took ed at x.shape x.storage x.offset s s' q)

  operand_stepped : (s : State) (at : ℕ) (x : Operand) (s' : State) → step ed s at (operand x) ≡ next s' → Shaped (given_to x s) x s'
  unfolding step take_step admit
  operand_stepped s at x s' e =
      let h = need_next _ _ _ _ e in
      let k = bar_next _ _ _ _ h.1 in
      let m = need_next _ _ _ _ k.1 in
      shaped (given_to x s) at x s' (need_next _ _ _ _ m.1).1

  record Noted (s : State) (x : Rec) (s' : State) : Type 0 where
    longer : Longer s.units s'.units
    more_numbers : s'.numbers ≡ s.numbers ++ bringing ed s'.units x []

  same_noted : (s s' : State) (x : Rec) → s'.units ≡ s.units → s'.numbers ≡ s.numbers → bringing ed s'.units x [] ≡ [] → Noted s x s'
  same_noted s s' x a b n =
      record { longer = rw a (longer_same s.units); more_numbers = b ∙ sym (append-nil s.numbers) ∙ ap (λ (l : List ℕ). s.numbers ++ l) (sym n) }

  step_noted : (s : State) (at : ℕ) (x : Rec) (s' : State) → step ed s at x ≡ next s' → Noted s x s'
  unfolding with_header with_storage with_function with_block with_opened with_number with_unit pick
  step_noted s at (header a f w) s' e = rw (stepped ed s at _ s' e).taken.2 (same_noted s _ _ refl refl refl)
  step_noted s at (storage x) s' e = rw (stepped ed s at _ s' e).taken.3 (same_noted s _ _ refl refl refl)
  step_noted s at (function n) s' e = rw (stepped ed s at _ s' e).taken.3 (same_noted s _ _ refl refl refl)
  step_noted s at (abi x) s' e =
      rw (stepped ed s at _ s' e).taken.2.is (record { longer = longer_noted (word_of ed x.shape x.storage x.offset) s.units; more_numbers = refl })
  step_noted s at (block id) s' e = rw (stepped ed s at _ s' e).taken.3 (same_noted s _ _ refl refl refl)
  step_noted s at (instruction op sub fn) s' e = rw (stepped ed s at _ s' e).taken.2 (same_noted s _ _ refl refl refl)
  step_noted s at (operand x) s' e = go (operand_stepped s at x s' e)
    where
      go : Shaped (given_to x s) x s' → Noted s (operand x) s'
      go (inl m) = rw m.1 (record { longer = longer_same s.units; more_numbers = rw m.0 })
      go (inr m) = rw m.1.is (record { longer = longer_noted (word_of ed x.shape x.storage x.offset) s.units; more_numbers = rw m.0 })
  step_noted s at (terminator op sub fn) s' e = rw (stepped ed s at _ s' e).taken.2 (same_noted s _ _ refl refl refl)
  step_noted s at (target id) s' e = rw (stepped ed s at _ s' e).taken.1 (same_noted s _ _ refl refl refl)
  step_noted s at end s' e = rw (stepped ed s at _ s' e).taken.1 (same_noted s _ _ refl refl refl)

  record Along (s : State) (t : List ℕ) (s' : State) : Type 0 where
    longer : Longer s.units s'.units
    all_numbers : s'.numbers ≡ s.numbers ++ numbers_in ed s'.units (records ed t)

  walk_noted : {s s' : State} {at : ℕ} {t : List ℕ} → Walk ed s at t s' → Along s t s'
  unfolding numbers_in
  walk_noted {s} done = record { longer = longer_same s.units; all_numbers = rw (records_nil ed) (sym (append-nil s.numbers)) }
  walk_noted {s} {s' = s''} {at} {t} (more {s' = s'} len x e q r) =
      let h = step_noted s at x s' q in
      let k = walk_noted r in
      let range = (kept ed s at x s' (stepped ed s at x s' q).taken).range in
      let same : bringing ed s'.units x [] ≡ bringing ed s''.units x [] = sym (bringing_longer s'.ids s'.units s''.units x [] range k.longer) in
      let rest = numbers_in ed s''.units (records ed (drop len t)) in
      record {
        longer = longer_on h.longer k.longer;
        all_numbers =
            rw (records_whole ed t len x e)
            (k.all_numbers ∙ ap (λ (l : List ℕ). l ++ rest) (h.more_numbers ∙ ap (λ (l : List ℕ). s.numbers ++ l) same)
            ∙ append_assoc s.numbers (bringing ed s''.units x []) rest ∙ ap (λ (l : List ℕ). s.numbers ++ l) (sym (bringing_append ed s''.units x [] rest)));
      }

-- the unit numbers of an accepted file are those of its records
pub numbers_are : (f us : List ℕ) → check one f ≡ units us → numbers one f ≡ numbers_in one us (records one f)
unfolding numbers
numbers_are f us ok =
    let o = read_out one f us ok in
    let w = walk_noted one (walk one start o.final 0 f o.scans) in
    rw o.scans (w.all_numbers ∙ ap (λ (vs : List ℕ). numbers_in one vs (records one f)) (sym o.are))

pub drop_take : (k n : ℕ) (l : List ℕ) → drop k (take (k + n) l) ≡ take n (drop k l)
drop_take zero n l = rw zero-add
drop_take (suc k) n [] = ap (drop (suc k)) (take-nil (suc k + n)) ∙ sym (take-nil n)
drop_take (suc k) n (x ∷ l) = let e : suc k + n ≡ suc (k + n) = omega arith in rw e (drop_take k n l)

-- and those from a cursor on are those of the records from there on
module _ (f us found : List ℕ) (ok : check one f ≡ units us) (same : take (length (numbers one f)) found ≡ numbers one f) (at k : ℕ) (s : Stands f at k) where
  abbrev coming : List ℕ
  coming = numbers_in one us (records one (drop at f))

  split_numbers : numbers one f ≡ numbers_in one us (records_in one s.before) ++ coming
  unfolding records
  split_numbers =
      numbers_are f us ok ∙ ap (λ (ps : List (List ℕ)). numbers_in one us (records_in one ps)) s.splits
      ∙ ap (numbers_in one us) (records_append one s.before s.after) ∙ numbers_append one us (records_in one s.before) (records_in one s.after)
      ∙ ap (λ (xs : List Rec). numbers_in one us (records_in one s.before) ++ numbers_in one us xs) (sym (stands_records f us ok at k s))

  before_count : length (numbers_in one us (records_in one s.before)) ≡ k
  before_count = numbers_count one us [] (records_in one s.before) ∙ sym s.number

  pub aligned : take (length (numbers_in one us (records one (drop at f)))) (drop k found) ≡ numbers_in one us (records one (drop at f))
  aligned =
      let n : length (numbers one f) ≡ k + length coming = ap length split_numbers ∙ length-append (numbers_in one us (records_in one s.before)) coming ∙ ap (λ (i : ℕ). i + length coming) before_count in
      let e : take (k + length coming) found ≡ numbers_in one us (records_in one s.before) ++ coming = ap (λ (i : ℕ). take i found) (sym n) ∙ same ∙ split_numbers in
      sym (drop_take k (length coming) found) ∙ ap (drop k) e ∙ drop_at (numbers_in one us (records_in one s.before)) coming k before_count

-- Units ---------------------------------------------------------------------------------------------------------------------------------------

-- what is gathered from some place names storages of the file, and units that are numbered
pub record Inside (us : List ℕ) (r : Rest) : Type 0 where
  pub ids : List ℕ
  pub holds : RestIn one ids us r

pub units_once_lem : (f us : List ℕ) → check one f ≡ units us → Distinct us
units_once_lem f us ok = (accepted one f us ok).0.units_once

pub units_most_lem : (f us : List ℕ) → check one f ≡ units us → length us ≤ 512
units_most_lem f us ok = (accepted one f us ok).0.units_most

inside_of : (us vs ids : List ℕ) (xs ys : List Rec) → us ≡ vs → xs ≡ ys → RestIn one ids vs (gather ys) → Inside us (gather xs)
inside_of us vs ids xs ys e q h = record { ids = ids; holds = rw (e, q) h }

pub stands_inside : (f us : List ℕ) → check one f ≡ units us → (at k : ℕ) → Stands f at k → Inside us (from f at)
unfolding records
stands_inside f us ok at k s =
    let o = read_out one f us ok in
    let all = (walk_range one (walk one start o.final 0 f o.scans)).range in
    let split : records one f ≡ records_in one s.before ++ records_in one s.after = ap (records_in one) s.splits ∙ records_append one s.before s.after in
    let last = all_after (InRange one o.final.ids o.final.units) (records_in one s.before) (records_in one s.after) (rw split at all) in
    inside_of us o.final.units o.final.ids (records one (drop at f)) (records_in one s.after) o.are (stands_records f us ok at k s)
    (gather_in one o.final.ids o.final.units (records_in one s.after) last)
