-- The outcome of live, way by way: a number of no function, which a byte cannot be above 255; the live sets of a function; and a buffer that is lent in
-- part keeps what lies past that part. Any two outcomes that the contract permits coincide.
use Rattle.std.specs.Prelude.{Result, Ok, Err}
use mathlib.Core.Path.{◌≡◌, refl, sym, ap, ◌∙◌}
use mathlib.Core.Logic.{◌⊎◌, inl, inr}
use mathlib.Core.Bool.{Bool, true, false}
use mathlib.Core.List.{List, [], ◌∷◌, ◌++◌, append-nil, Memᴰ}
use Prim.Native.Nat.{ℕ, zero, suc, ◌+◌, ◌≤◌, ◌<◌}
use native.Mathlib.Omega.{arith}
use borrow.Author.Tests.{ne_eqb, lt-ltb, le-ltb}
use lib.Dec.{eqb}
use lib.ListN.{length, get_or, drop, replicate, length-replicate}
use lib.Seq.{get_or-drop}
use Rattle.rows.specs.Row as W
use Rattle.rows.proofs.Rows as L
use Rattle.fields.specs.Pick.{pick, pick_no, ◌or◌}
use Rattle.fields.specs.Edition.{one}
use Rattle.fields.specs.Record.{record_at, u8_at, length_of, header_at, instruction_at, terminator_at}
use Rattle.records.specs.Check.{Answer, units, refusal, check}
use Rattle.records.specs.Outcome.{laid, outcome_by, Numbers}
use Rattle.records.specs.Outcome as R
use Rattle.records.specs.Program.{Function, Rest, function_of, put, put_step, program}
use Rattle.records.specs.declared.Refusal.{Refusal}
use Rattle.records.specs.declared.Refusal.TheVariants.{Short, Absent}
use Rattle.fields.proofs.Front.{read_whole}
use Rattle.fields.proofs.ByKind.{length_none, kind_header, kind_storage, kind_function, kind_abi, kind_block, kind_instruction, kind_operand, kind_terminator, kind_target, kind_end}
use Rattle.records.proofs.Outcomes.{laid_rest}
use Rattle.units.specs.Along.{from, function_from, StandsAt, Indexed, Ready}
use Rattle.units.proofs.Asking.{Accepted}
use Rattle.units.specs.Uses.{Lookup, defined, missing, lookup}
use Rattle.passes.specs.Passes.{blank}
use Rattle.liveness.specs.Settle.{liveness}
use Rattle.liveness.specs.Walks.{Owned}
use Rattle.liveness.specs.Lives.{Outcome, live_words, lived_by, lived_of, lived, LivesIn, Lives}
use Rattle.units.specs.declared.cursor.Cursor.{Cursor}
use Rattle.liveness.proofs.Onward.{from_past, from_by}

-- Numbers of functions are bytes ---------------------------------------------------------------------------------------------------------------

functions_put : (t : List ℕ) (r : Rest) (k : ℕ) → u8_at t 0 ≡ k → 0 < length_of one k
    → ((put (record_at one t) r).functions ≡ r.functions) ⊎ (((put (record_at one t) r).functions ≡ function_of (u8_at t 1) r ∷ r.functions) ⊎ ((put (record_at one t) r).functions ≡ []))
unfolding put put_step header_at instruction_at terminator_at
functions_put t r zero e l = rw (kind_header t e) (inl refl)
functions_put t r (suc zero) e l = rw (kind_storage t e) (inl refl)
functions_put t r (suc (suc zero)) e l = rw (kind_function t e) (inr (inl refl))
functions_put t r (suc (suc (suc zero))) e l = rw (kind_abi t e) (inl refl)
functions_put t r (suc (suc (suc (suc zero)))) e l = rw (kind_block t e) (inl refl)
functions_put t r (suc (suc (suc (suc (suc zero))))) e l = rw (kind_instruction t e) (inl refl)
functions_put t r (suc (suc (suc (suc (suc (suc zero)))))) e l = rw (kind_operand t e) (inl refl)
functions_put t r (suc (suc (suc (suc (suc (suc (suc zero))))))) e l = rw (kind_terminator t e) (inl refl)
functions_put t r (suc (suc (suc (suc (suc (suc (suc (suc zero)))))))) e l = rw (kind_target t e) (inl refl)
functions_put t r (suc (suc (suc (suc (suc (suc (suc (suc (suc zero))))))))) e l = rw (kind_end t e) (inr (inr refl))
functions_put t r (suc (suc (suc (suc (suc (suc (suc (suc (suc (suc k)))))))))) e l = absurd (omega (arith, length_none (suc (suc (suc (suc (suc (suc (suc (suc (suc (suc k)))))))))) (omega arith)))

module _ (f : List ℕ) (bytes : (i : ℕ) → get_or f i 0 < 256) (n : ℕ) (high : 256 ≤ n) where
  none_from : (fuel at : ℕ) → length f ≤ at + fuel → lookup (from f at).functions n ≡ missing
  unfolding lookup u8_at
  none_from zero at l = rw (from_past f at (omega arith))
  none_from (suc fuel) at l =
      from_by (λ r. lookup r.functions n ≡ missing) f at refl
      (λ len e.
      let w = read_whole one (drop at f) len _ e in
      let ih = none_from fuel (at + len) (omega (arith, w.some)) in
      go (from f (at + len)) ih (put (record_at one (drop at f)) (from f (at + len))).functions (functions_put (drop at f) (from f (at + len)) (u8_at (drop at f) 0) refl (omega (arith, w.some, w.long))))
    where
      go : (r : Rest) → lookup r.functions n ≡ missing → (fs : List Function)
          → (fs ≡ r.functions) ⊎ ((fs ≡ function_of (u8_at (drop at f) 1) r ∷ r.functions) ⊎ (fs ≡ [])) → lookup fs n ≡ missing
      go r ih fs (inl q) = rw q ih
      go r ih fs (inr (inl q)) =
          rw q (pick_no _ _ _ (ne_eqb (u8_at (drop at f) 1) n (λ z. absurd (omega (arith, bytes (at + 1), get_or-drop at f 1 0)))) ∙ ih)
      go r ih fs (inr (inr q)) = rw q

  pub none_high : lookup (program one f).functions n ≡ missing
  unfolding program
  none_high = none_from (length f) 0 (omega arith)

lookup_mem : (fs : List Function) (n : ℕ) (fn : Function) → lookup fs n ≡ defined fn → Memᴰ fn fs
unfolding lookup pick
lookup_mem [] n fn e = let z : ◌≡◌ {A = ℕ} 0 1 = cc in absurd (omega arith)
lookup_mem (g ∷ fs) n fn e = go (eqb g.number n) e (lookup_mem fs n fn)
  where
    go : (t : Bool) → pick t (defined g) (lookup fs n) ≡ defined fn → (lookup fs n ≡ defined fn → Memᴰ fn fs) → Memᴰ fn (g ∷ fs)
    go true q ih = let same : fn ≡ g = cc in Memᴰ.head same
    go false q ih = Memᴰ.tail (ih q)

-- The table's answer ---------------------------------------------------------------------------------------------------------------------------

module _ (f table : List ℕ) (number : ℕ) (own : Cursor) (o : Owned table number own) (bytes : (i : ℕ) → get_or f i 0 < 256) (index : Indexed f table) where
  absent_there : own.at ≡ 65535 → lookup (program one f).functions number ≡ missing
  absent_there e = go (L.lt_or_ge number 256)
    where
      go : (number < 256) ⊎ (256 ≤ number) → lookup (program one f).functions number ≡ missing
      go (inl l) = index.absent number l (sym (o.near l).0 ∙ e)
      go (inr l) = none_high f bytes number l

  present_there : (own.at ≡ 65535 → ⊥) → (lookup (program one f).functions number ≡ defined (function_from f number own.at)) × StandsAt f own
  present_there n = go (L.lt_or_ge number 256)
    where
      go : (number < 256) ⊎ (256 ≤ number) → (lookup (program one f).functions number ≡ defined (function_from f number own.at)) × StandsAt f own
      go (inl l) =
          let p = index.present number l (λ e. n ((o.near l).0 ∙ e)) in
          (rw (o.near l).0 p.0, rw ((o.near l).0, (o.near l).1) p.1)
      go (inr l) = absurd (n (o.far l))

-- The ways out ---------------------------------------------------------------------------------------------------------------------------------

module _ (f table : List ℕ) (number : ℕ) (own : Cursor) (o : Owned table number own) (bytes : (i : ℕ) → get_or f i 0 < 256) (us found : List ℕ) (ready : Ready f us found table) where
  pub lived_absent : (n : ℕ) (words live : List ℕ) → own.at ≡ 65535 → words ≡ replicate n 0 → n ≡ 512 → live ≡ blank 2048
      → record { answer = Err (Absent number); units = words; live = live } ≡ lived_by one f number us [] [] (lookup (program one f).functions number)
  unfolding laid blank
  lived_absent n words live e c h l = rw (absent_there f table number own o bytes ready.index e, c, h, l)

  pub lived_passes : (passes : ℕ) (words live : List ℕ) → (own.at ≡ 65535 → ⊥) → words ≡ laid 512 us []
      → ((us : List ℕ) (fn : Function) → Ready f us found table → StandsAt f own → Memᴰ fn (program one f).functions
      → fn.abis ≡ (from f own.at).abis → fn.blocks ≡ (from f own.at).blocks
      → (passes ≡ (liveness one (program one f) fn).passes) × (live ≡ live_words one us (liveness one (program one f) fn).sets))
      → record { answer = Ok passes; units = words; live = live } ≡ lived_by one f number us [] [] (lookup (program one f).functions number)
  lived_passes passes words live n w call =
      let p = present_there f table number own o bytes ready.index n in
      let fn = function_from f number own.at in
      let m = lookup_mem (program one f).functions number fn p.0 in
      let r = call us fn ready p.1 m refl refl in
      rw (p.0, w, r.0, r.1) (ap (λ (l : List ℕ). record { answer = Ok (liveness one (program one f) fn).passes; units = laid 512 us []; live = l }) (sym (append-nil (live_words one us (liveness one (program one f) fn).sets))))

-- a buffer of just the needed words
pub blank_of : (live live' : List ℕ) → length live ≡ 2048 → live' ≡ W.put live 0 (replicate 2048 0) → live' ≡ blank 2048
unfolding blank
blank_of live live' l e = e ∙ L.put_whole live (replicate 2048 0) (l ∙ sym (length-replicate {A = ℕ} 2048 0))

pub lived_refused : (f : List ℕ) (number : ℕ) (r : Result ℕ Refusal) (words found table : List ℕ) → Numbers f r words found table → (x : Refusal) (live : List ℕ) → r ≡ Err x → live ≡ blank 2048
    → LivesIn f number (Err x) words live
unfolding laid blank
lived_refused f number r words found table h x live e l = go (check one f) h.0
  where
    go : (a : Answer) → record { answer = r; words = words } ≡ outcome_by one [] a → record { answer = Err x; units = words; live = live } ≡ lived_of one f number [] [] a
    go (units us) q = let z : ◌≡◌ {A = ℕ} 0 1 = cc (ap (λ (o : R.Outcome). o.answer) q) in absurd (omega arith)
    go (refusal y) q =
        let i : x ≡ y = cc (ap (λ (o : R.Outcome). o.answer) q) in
        rw (i, ap (λ (o : R.Outcome). o.words) q, l)

pub lived_done : (f : List ℕ) (number : ℕ) (words found table : List ℕ) → Accepted f number words found table → (answer : Result ℕ Refusal) (words' live : List ℕ)
    → ((us : List ℕ) → Ready f us found table → words ≡ laid 512 us []
    → record { answer = answer; units = words'; live = live } ≡ lived_by one f number us [] [] (lookup (program one f).functions number))
    → LivesIn f number answer words' live
lived_done f number words found table a answer words' live call = call a.us a.ready a.words_are ∙ ap (lived_of one f number [] []) (sym a.ready.accepted)

neither : (a b : Bool) → a ≡ false → b ≡ false → (a or b) ≡ false
unfolding pick
neither a b p q = rw p q

-- Buffers as they are lent ---------------------------------------------------------------------------------------------------------------------

module _ (f : List ℕ) (number : ℕ) (before live : List ℕ) where
  pub lives_short_units : length before < 512 → Lives f number before live (Err Short) before live
  unfolding lived pick
  lives_short_units l = rw (lt-ltb (length before) 512 l)

  pub lives_short_live : 512 ≤ length before → length live < 2048 → Lives f number before live (Err Short) before live
  unfolding lived pick
  lives_short_live a l = rw (le-ltb (length before) 512 a, lt-ltb (length live) 2048 l)

  pub lives_all : (answer : Result ℕ Refusal) (words live' : List ℕ) → 512 ≤ length before → 2048 ≤ length live → LivesIn f number answer words live'
      → Lives f number before live answer (words ++ drop 512 before) (live' ++ drop 2048 live)
  unfolding lived
  lives_all answer words live' a b h =
      go (check one f) h ∙ sym (pick_no _ _ _ (neither _ _ (le-ltb (length before) 512 a) (le-ltb (length live) 2048 b)))
    where
      by : (k : Lookup) (us : List ℕ) → record { answer = answer; units = words; live = live' } ≡ lived_by one f number us [] [] k
          → record { answer = answer; units = words ++ drop 512 before; live = live' ++ drop 2048 live } ≡ lived_by one f number us before live k
      by (defined fn) us e =
          rw (ap (λ (o : Outcome). o.answer) e, ap (λ (o : Outcome). o.units) e, ap (λ (o : Outcome). o.live) e, laid_rest 512 us before)
          (ap (λ (l : List ℕ). record { answer = Ok (liveness one (program one f) fn).passes; units = laid 512 us before; live = l ++ drop 2048 live }) (append-nil (live_words one us (liveness one (program one f) fn).sets)))
      by missing us e =
          rw (ap (λ (o : Outcome). o.answer) e, ap (λ (o : Outcome). o.units) e, ap (λ (o : Outcome). o.live) e, laid_rest 512 [] before, laid_rest 2048 [] live)

      go : (k : Answer) → record { answer = answer; units = words; live = live' } ≡ lived_of one f number [] [] k
          → record { answer = answer; units = words ++ drop 512 before; live = live' ++ drop 2048 live } ≡ lived_of one f number before live k
      go (units us) e = by (lookup (program one f).functions number) us e
      go (refusal x) e = rw (ap (λ (o : Outcome). o.answer) e, ap (λ (o : Outcome). o.units) e, ap (λ (o : Outcome). o.live) e, laid_rest 512 [] before, laid_rest 2048 [] live)

  -- Any two outcomes that the contract of live permits coincide.
  pub lives_decide : (r r' : Result ℕ Refusal) (words words' rows rows' : List ℕ) → Lives f number before live r words rows → Lives f number before live r' words' rows' → (r ≡ r') × (words ≡ words') × (rows ≡ rows')
  lives_decide r r' words words' rows rows' p q =
      let e : ◌≡◌ {A = Outcome} (record { answer = r; units = words; live = rows }) (record { answer = r'; units = words'; live = rows' }) = p ∙ sym q in
      (ap (λ (o : Outcome). o.answer) e, ap (λ (o : Outcome). o.units) e, ap (λ (o : Outcome). o.live) e)
