-- The walk to a place. What the definition finds from the front on is what it finds from the cursor on, in the function behind the last function
-- record; before the first one that is the header's, which has neither ABI records nor blocks, and so is the definition's.
use Rattle.std.specs.Prelude.{Option, Some, None}
use Rattle.std.specs.Bool.{then_some}
use mathlib.Core.Path.{◌≡◌, refl, sym, ap, ◌∙◌}
use mathlib.Core.Logic.{◌⊎◌, inl, inr, ⊎_elim}
use mathlib.Core.Bool.{Bool, true, false, true≢false}
use mathlib.Core.List.{List, [], ◌∷◌}
use Prim.Native.Nat.{ℕ, zero, suc, ◌+◌, ◌*◌, ◌≤◌, ◌<◌}
use native.Mathlib.Omega.{arith}
use lib.Dec.{eqb}
use lib.ListN.{length, get_or, take, drop}
use lib.Seq.{get_or-drop, drop-drop, length-take-le}
use borrow.Author.Tests.{eqb-true, eq-eqb, ne_eqb}
use Rattle.fields.specs.Pick.{pick, pick_yes, pick_no, ◌or◌}
use Rattle.fields.specs.Edition.{Edition, one}
use Rattle.fields.specs.Record.{Rec, header, storage, function, abi, block, instruction, operand, terminator, target, end, whole, fault, read, record_at, u8_at, length_of, header_at, instruction_at, terminator_at}
use Rattle.records.specs.Step.{State, start, at_start, at_end}
use Rattle.records.specs.Check.{units, check, at_tail, pieces_by, pieces, records}
use Rattle.records.specs.Program.{Function, Rest, put_step, put, step_of, function_of}
use Rattle.records.specs.Place.{step, nowhere, no_function, within, starts_with, find_in, step_at}
use Rattle.fields.proofs.Front.{read_whole, whole_read, read_take, or_cases}
use Rattle.fields.proofs.ByKind.{length_one, length_none, kind_header, kind_storage, kind_function, kind_abi, kind_block, kind_instruction, kind_operand, kind_terminator, kind_target, kind_end}
use Rattle.records.proofs.Scan.{Walk, done, more, walk, pieces_whole}
use Rattle.records.proofs.Took.{stepped}
use Rattle.records.proofs.Contents.{rest, rest_whole}
use Rattle.records.proofs.Stages.{Calm, start_calm, Passed, passed}
use Rattle.records.proofs.Reading.{no_kind, no_body}
use Rattle.records.proofs.Accepted.{read_out}
use Rattle.records.specs.Index.{brought}
use Rattle.units.specs.Along.{from, Stands, StandsAt, function_from, step_from, IsStep, brought_by, Locates}
use Rattle.units.specs.declared.cursor.Cursor.{Cursor}
use Rattle.units.specs.declared.locate.Site.{Site}
use Rattle.units.proofs.Standing.{brought_kind, stands_start, stands_on}

-- One piece at a time -------------------------------------------------------------------------------------------------------------------------

pieces_fault : (ed : Edition) (t : List ℕ) → read ed t ≡ fault → pieces ed t ≡ []
unfolding pieces pieces_by at_tail
pieces_fault ed [] e = refl
pieces_fault ed (x ∷ t) e = rw e

find_whole : (t : List ℕ) (len : ℕ) (x : Rec) (q at : ℕ) (f : Function) → read one t ≡ whole len x
    → find_in one q at f (pieces one t) ≡ pick (eqb at q) (starts_with f x (rest one (drop len t))) (find_in one q (at + len) (within f x (rest one (drop len t))) (pieces one (drop len t)))
unfolding find_in records
find_whole t len x q at f e = rw (pieces_whole one t len x e, is, n)
  where
    is : record_at one (take len t) ≡ x
    is = sym (read_whole one (take len t) len x (read_take one t len x e)).is

    n : length (take len t) ≡ len
    n = length-take-le len t (read_whole one t len x e).fits

-- What a record of a kind starts, and where it leaves the function -----------------------------------------------------------------------------

module _ (t : List ℕ) (f : Function) (r : Rest) where
  starts_none : (u8_at t 0 ≡ 5 → ⊥) → (u8_at t 0 ≡ 7 → ⊥) → 0 < length_of one (u8_at t 0) → starts_with f (record_at one t) r ≡ nowhere
  unfolding header_at
  starts_none a b l = go (u8_at t 0) refl a b l
    where
      go : (k : ℕ) → u8_at t 0 ≡ k → (k ≡ 5 → ⊥) → (k ≡ 7 → ⊥) → 0 < length_of one k → starts_with f (record_at one t) r ≡ nowhere
      go zero e a b l = rw (kind_header t e)
      go (suc zero) e a b l = rw (kind_storage t e)
      go (suc (suc zero)) e a b l = rw (kind_function t e)
      go (suc (suc (suc zero))) e a b l = rw (kind_abi t e)
      go (suc (suc (suc (suc zero)))) e a b l = rw (kind_block t e)
      go (suc (suc (suc (suc (suc zero))))) e a b l = absurd (a refl)
      go (suc (suc (suc (suc (suc (suc zero)))))) e a b l = rw (kind_operand t e)
      go (suc (suc (suc (suc (suc (suc (suc zero))))))) e a b l = absurd (b refl)
      go (suc (suc (suc (suc (suc (suc (suc (suc zero)))))))) e a b l = rw (kind_target t e)
      go (suc (suc (suc (suc (suc (suc (suc (suc (suc zero))))))))) e a b l = rw (kind_end t e)
      go (suc (suc (suc (suc (suc (suc (suc (suc (suc (suc k)))))))))) e a b l = absurd (omega (arith, length_none (suc (suc (suc (suc (suc (suc (suc (suc (suc (suc k)))))))))) (omega arith)))

  starts_step : (u8_at t 0 ≡ 5) ⊎ (u8_at t 0 ≡ 7) → starts_with f (record_at one t) r ≡ step f (step_of (eqb (u8_at t 0) 7) (u8_at t 1) (u8_at t 2) (u8_at t 3) r)
  unfolding instruction_at terminator_at
  starts_step (inl e) = rw (kind_instruction t e, e)
  starts_step (inr e) = rw (kind_terminator t e, e)

  within_function : u8_at t 0 ≡ 2 → within f (record_at one t) r ≡ function_of (u8_at t 1) r
  within_function e = rw (kind_function t e)

  within_same : (u8_at t 0 ≡ 2 → ⊥) → 0 < length_of one (u8_at t 0) → within f (record_at one t) r ≡ f
  unfolding header_at instruction_at terminator_at
  within_same a l = go (u8_at t 0) refl a l
    where
      go : (k : ℕ) → u8_at t 0 ≡ k → (k ≡ 2 → ⊥) → 0 < length_of one k → within f (record_at one t) r ≡ f
      go zero e a l = rw (kind_header t e)
      go (suc zero) e a l = rw (kind_storage t e)
      go (suc (suc zero)) e a l = absurd (a refl)
      go (suc (suc (suc zero))) e a l = rw (kind_abi t e)
      go (suc (suc (suc (suc zero)))) e a l = rw (kind_block t e)
      go (suc (suc (suc (suc (suc zero))))) e a l = rw (kind_instruction t e)
      go (suc (suc (suc (suc (suc (suc zero)))))) e a l = rw (kind_operand t e)
      go (suc (suc (suc (suc (suc (suc (suc zero))))))) e a l = rw (kind_terminator t e)
      go (suc (suc (suc (suc (suc (suc (suc (suc zero)))))))) e a l = rw (kind_target t e)
      go (suc (suc (suc (suc (suc (suc (suc (suc (suc zero))))))))) e a l = rw (kind_end t e)
      go (suc (suc (suc (suc (suc (suc (suc (suc (suc (suc k)))))))))) e a l = absurd (omega (arith, length_none (suc (suc (suc (suc (suc (suc (suc (suc (suc (suc k)))))))))) (omega arith)))

-- Before the first function ------------------------------------------------------------------------------------------------------------------

no_parts : (x : Rec) (r : Rest) (g g' : ℕ) → Passed one x g g' → g ≡ at_start → function_of 0 (put x r) ≡ no_function
unfolding put put_step
no_parts (header a f w) r g g' p e = refl
no_parts (storage x) r g g' p e = absurd (omega (arith, p.0))
no_parts (function n) r g g' (inl p, q) e = absurd (omega arith)
no_parts (function n) r g g' (inr (inl p), q) e = absurd (omega arith)
no_parts (function n) r g g' (inr (inr p), q) e = absurd (omega arith)
no_parts (abi x) r g g' p e = absurd (omega (arith, p.0))
no_parts (block id) r g g' (inl p, q) e = absurd (omega arith)
no_parts (block id) r g g' (inr p, q) e = absurd (omega arith)
no_parts (instruction op sub fn) r g g' p e = absurd (omega (arith, p.0))
no_parts (operand x) r g g' p e = absurd (omega (arith, p.0.0))
no_parts (terminator op sub fn) r g g' p e = absurd (omega (arith, p.0))
no_parts (target id) r g g' p e = absurd (omega (arith, p.0.0))
no_parts end r g g' (inl p, q) e = absurd (omega arith)
no_parts end r g g' (inr p, q) e = absurd (omega arith)

none_yet : {s s' : State} {at : ℕ} {t : List ℕ} → Walk one s at t s' → Calm s → s.stage ≡ at_start → s'.stage ≡ at_end → function_of 0 (rest one t) ≡ no_function
none_yet done c a b = absurd (omega arith)
none_yet {s} {at = at} {t} (more {s' = s'} len x r q w) c a b =
    ap (function_of 0) (rest_whole one t len x r) ∙ no_parts x (rest one (drop len t)) s.stage s'.stage (passed one s at x s' c (stepped one s at x s' q).taken) a

-- What the loop keeps ------------------------------------------------------------------------------------------------------------------------

pub record Going (f : List ℕ) (place : ℕ) (own : Cursor) (at k : ℕ) : Type 0 where
  pub n : ℕ
  pub same : step_at one f place ≡ find_in one place at (function_from f n own.at) (pieces one (drop at f))
  pub owned : StandsAt f own
  pub stands : Stands f at k

pub going_start : (f us : List ℕ) (place : ℕ) → check one f ≡ units us → Going f place (record { at = 0; k = 0 }) 0 0
unfolding step_at
going_start f us place ok =
    let o = read_out one f us ok in
    let e : function_of 0 (rest one f) ≡ no_function = none_yet (walk one start o.final 0 f o.scans) start_calm refl o.ends in
    record { n = 0; same = ap (λ (fn : Function). find_in one place 0 fn (pieces one f)) (sym e); owned = stands_start f; stands = stands_start f }

step_long : (kind len : ℕ) → len ≡ length_of one kind → (kind ≡ 5) ⊎ (kind ≡ 7) → len ≡ 4
step_long kind len l (inl q) = l ∙ ap (length_of one) q ∙ length_one 5
step_long kind len l (inr q) = l ∙ ap (length_of one) q ∙ length_one 7

-- No whole record stands at the cursor.
pub going_none : (f : List ℕ) (place : ℕ) (own : Cursor) (at k : ℕ)
    → (length_of one (u8_at (drop at f) 0) ≡ 0) ⊎ (length (drop at f) < length_of one (u8_at (drop at f) 0))
    → Going f place own at k → step_at one f place ≡ nowhere
unfolding find_in u8_at
going_none f place own at k cut g = g.same ∙ rw (pieces_fault one (drop at f) (none cut))
  where
    none : (length_of one (u8_at (drop at f) 0) ≡ 0) ⊎ (length (drop at f) < length_of one (u8_at (drop at f) 0)) → read one (drop at f) ≡ fault
    none (inl e) = no_kind (drop at f) _ _ refl refl e
    none (inr l) = no_body (drop at f) _ _ refl refl l

-- The whole record at a cursor, as the code reads it: its kind byte, and its length.
module _ (f : List ℕ) (place : ℕ) (own : Cursor) (at k kind len : ℕ) (is : kind ≡ get_or f at 0)
    (some : 0 < len) (fits : len ≤ length (drop at f)) (told : len ≡ length_of one (u8_at (drop at f) 0)) where
  first_kind : u8_at (drop at f) 0 ≡ kind
  unfolding u8_at
  first_kind = let e : at + 0 ≡ at = omega arith in rw (get_or-drop at f 0 0, e) (sym is)

  pub long : len ≡ length_of one kind
  long = told ∙ ap (length_of one) first_kind

  module _ where
    reads : read one (drop at f) ≡ whole len (record_at one (drop at f))
    reads = whole_read one (drop at f) (omega arith) (omega arith) ∙ ap (λ (n : ℕ). whole n (record_at one (drop at f))) (sym told)

    positive : 0 < length_of one (u8_at (drop at f) 0)
    positive = omega arith

    abbrev after : Rest
    after = rest one (drop len (drop at f))

    after_is : after ≡ from f (at + len)
    after_is = ap (rest one) (drop-drop len at f)

    module _ (g : Going f place own at k) where
      abbrev fn : Function
      fn = function_from f g.n own.at

      unfolded : step_at one f place
          ≡ pick (eqb at place) (starts_with fn (record_at one (drop at f)) after) (find_in one place (at + len) (within fn (record_at one (drop at f)) after) (pieces one (drop len (drop at f))))
      unfolded = g.same ∙ find_whole (drop at f) len (record_at one (drop at f)) place at fn reads

      pub going_away : at ≡ place → (kind ≡ 5 → ⊥) → (kind ≡ 7 → ⊥) → step_at one f place ≡ nowhere
      going_away e a b =
          unfolded ∙ pick_yes _ _ _ (eq-eqb at place e) ∙ starts_none (drop at f) fn after (λ q. a (sym first_kind ∙ q)) (λ q. b (sym first_kind ∙ q)) positive

      pub going_here : at ≡ place → (kind ≡ 5) ⊎ (kind ≡ 7) → Locates f place (Some (record { own = own; here = record { at = at; k = k } }))
      going_here e h = (g.n, found, g.owned, g.stands, e, rw e at kinds)
        where
          kinds : IsStep f at
          kinds = ⊎_elim (λ q. inl (first_kind ∙ q)) (λ q. inr (first_kind ∙ q)) h

          behind : after ≡ from f (at + 4)
          behind = after_is ∙ ap (λ (i : ℕ). from f (at + i)) (step_long kind len long h)

          found : step_at one f place ≡ step (function_from f g.n own.at) (step_from f place)
          found =
              unfolded ∙ pick_yes _ _ _ (eq-eqb at place e) ∙ starts_step (drop at f) fn after kinds
              ∙ ap (λ (r : Rest). step fn (step_of (eqb (u8_at (drop at f) 0) 7) (u8_at (drop at f) 1) (u8_at (drop at f) 2) (u8_at (drop at f) 3) r)) behind
              ∙ ap (λ (i : ℕ). step fn (step_from f i)) e

      module _ (us : List ℕ) (ok : check one f ≡ units us) (d : at ≡ place → ⊥) (b : ℕ) (is_b : b ≡ brought_by kind) where
        onward : step_at one f place ≡ find_in one place (at + len) (within fn (record_at one (drop at f)) after) (pieces one (drop (at + len) f))
        onward = unfolded ∙ pick_no _ _ _ (ne_eqb at place d) ∙ ap (λ (t : List ℕ). find_in one place (at + len) (within fn (record_at one (drop at f)) after) (pieces one t)) (drop-drop len at f)

        stood : Stands f (at + len) (k + b)
        stood =
            let e : brought (record_at one (drop at f)) ≡ b = brought_kind (drop at f) positive ∙ ap brought_by first_kind ∙ sym is_b in
            rw e at (stands_on f us ok at k g.stands len (record_at one (drop at f)) reads)

        pub going_on : (kind ≡ 2 → ⊥) → Going f place own (at + len) (k + b)
        going_on a =
            record {
              n = g.n;
              same = onward ∙ ap (λ (h : Function). find_in one place (at + len) h (pieces one (drop (at + len) f))) (within_same (drop at f) fn after (λ q. a (sym first_kind ∙ q)) positive);
              owned = g.owned;
              stands = stood;
            }

        pub going_into : kind ≡ 2 → Going f place (record { at = at + len; k = k + b }) (at + len) (k + b)
        going_into a =
            record {
              n = u8_at (drop at f) 1;
              same =
                  onward
                  ∙ ap (λ (h : Function). find_in one place (at + len) h (pieces one (drop (at + len) f)))
                  (within_function (drop at f) fn after (first_kind ∙ a) ∙ ap (function_of (u8_at (drop at f) 1)) after_is);
              owned = stood;
              stands = stood;
            }

-- The code's answer at the place, by what the kind byte says.
pub told_here : (f : List ℕ) (kind : ℕ) (b : Bool) (site : Site) (o : Option Site) (P : Option Site → Type 0)
    → b ≡ (eqb kind 5 or eqb kind 7) → o ≡ then_some b site → ((kind ≡ 5) ⊎ (kind ≡ 7) → P (Some site)) → ((kind ≡ 5 → ⊥) → (kind ≡ 7 → ⊥) → P None) → P o
unfolding pick
told_here f kind b site o P e q found none = rw q (go b refl)
  where
    go : (t : Bool) → b ≡ t → P (then_some t site)
    go true h = found (⊎_elim (λ p. inl (eqb-true kind 5 p)) (λ p. inr (eqb-true kind 7 p)) (or_cases (eqb kind 5) (eqb kind 7) (sym e ∙ h)))
    go false h = none (λ p. let k : true ≡ false = rw p at (sym e ∙ h) in true≢false k) (λ p. let k : true ≡ false = rw p at (sym e ∙ h) in true≢false k)

-- a record that brings a number has seven bytes, and a step's record four
pub brought_room : (kind b len : ℕ) → b ≡ brought_by kind → len ≡ length_of one kind → 7 * b ≤ len
unfolding pick
brought_room kind b len e l = rw (e, l) (go (eqb kind 3) refl (eqb kind 6) refl)
  where
    go : (a : Bool) → eqb kind 3 ≡ a → (c : Bool) → eqb kind 6 ≡ c → 7 * pick a 1 (pick c 1 0) ≤ length_of one kind
    go true p c q = omega (arith, ap (length_of one) (eqb-true kind 3 p) ∙ length_one 3)
    go false p true q = omega (arith, ap (length_of one) (eqb-true kind 6 q) ∙ length_one 6)
    go false p false q = omega arith

pub step_room : (kind len n at : ℕ) → len ≡ length_of one kind → (kind ≡ 5) ⊎ (kind ≡ 7) → at + len ≤ n → at + 4 ≤ n
step_room kind len n at l h i = omega (arith, step_long kind len l h)
