-- Laws of the outcome of check: the buffer keeps its length, its first words are the units, by number. Assumes nothing.
use Rattle.std.specs.Prelude.{Result, Ok, Err}
use mathlib.Core.Path.{◌≡◌, refl, sym, ap, ◌∙◌}
use mathlib.Core.Bool.{Bool, true, false}
use mathlib.Core.List.{List, [], ◌++◌, append-nil, append_assoc}
use Prim.Native.Nat.{ℕ, ◌-◌, ◌≤◌, ◌<◌}
use native.Mathlib.Omega.{arith}
use lib.Dec.{ltb}
use lib.ListN.{drop_of_length-le, length, drop, replicate, length-append, length-drop, length-replicate}
use borrow.Author.Tests.{ltb-false, le-ltb, lt-ltb}
use Rattle.fields.specs.Pick.{pick, pick_yes, pick_no}
use Rattle.fields.specs.Edition.{Edition, one}
use Rattle.records.specs.declared.Refusal.{Refusal}
use Rattle.records.specs.declared.Refusal.TheVariants.{Short, Limit}
use Rattle.records.specs.Check.{Answer, units, refusal, check, numbers}
use Rattle.records.specs.Index.{tabled}
use Rattle.records.specs.Outcome.{Outcome, laid, outcome_by, outcome, Checks, Numbers}
use Rattle.records.specs.Mirror.{Walked}
use Rattle.records.proofs.Accepted.{accepted}

pub laid_length : (n : ℕ) (us before : List ℕ) → length us ≤ n → n ≤ length before → length (laid n us before) ≡ length before
unfolding laid
laid_length n us before a b =
    omega (arith, length-append (us ++ replicate (n - length us) 0) (drop n before), length-append us (replicate (n - length us) 0), length-replicate {A = ℕ} (n - length us) 0, length-drop n before)

-- What check comes to, way by way ---------------------------------------------------------------------------------------------------------------

pub cleared : (n : ℕ) → n ≡ 512 → replicate n 0 ≡ laid 512 [] []
unfolding laid
cleared n e = rw e

-- What is laid into the needed words, and past them what stood there.
pub laid_rest : (n : ℕ) (us before : List ℕ) → laid n us [] ++ drop n before ≡ laid n us before
unfolding laid
laid_rest n us before =
    ap (λ v. (us ++ replicate (n - length us) 0 ++ v) ++ drop n before) (drop_of_length-le {A = ℕ} [] {i = n} (omega arith))
    ∙ simp (append_assoc, append-nil)

module _ (f : List ℕ) where
  pub numbering_long : (n : ℕ) (words found table : List ℕ) → 16384 < length f → words ≡ replicate n 0 → n ≡ 512 → Numbers f (Err (Limit 16384)) words found table
  unfolding check
  numbering_long n words found table l e h =
      let a : check one f ≡ refusal (Limit 16384) = pick_yes _ _ _ (lt-ltb 16384 (length f) l) in
      (rw (a, e, cleared n h), λ us q. let z : ◌≡◌ {A = ℕ} 0 1 = cc a in absurd (omega arith))

  module _ (r : Result ℕ Refusal) (words found table : List ℕ) (walked : Walked (check one f) r words found (numbers one f) table (tabled one f)) where
    pub numbering_units : (n : ℕ) → r ≡ Ok n → Numbers f (Ok n) words found table
    numbering_units n e = go (check one f) refl walked
      where
        go : (a : Answer) → check one f ≡ a → Walked a r words found (numbers one f) table (tabled one f) → Numbers f (Ok n) words found table
        go (units us) q w = let i : ◌≡◌ {A = Result ℕ Refusal} (Ok n) (Ok (length us)) = cc w.0 in (rw (q, i, w.1), λ _ _. (w.2, w.3))
        go (refusal x) q w = let z : ◌≡◌ {A = ℕ} 0 1 = cc in absurd (omega arith)

    pub numbering_refused : (x : Refusal) (words' : List ℕ) (n : ℕ) → r ≡ Err x → words' ≡ replicate n 0 → n ≡ 512 → Numbers f (Err x) words' found table
    numbering_refused x words' n e c h = go (check one f) refl walked
      where
        go : (a : Answer) → check one f ≡ a → Walked a r words found (numbers one f) table (tabled one f) → Numbers f (Err x) words' found table
        go (units us) q w = let z : ◌≡◌ {A = ℕ} 0 1 = cc w.0 in absurd (omega arith)
        go (refusal y) q w =
            let i : ◌≡◌ {A = Result ℕ Refusal} (Err x) (Err y) = cc in
            (rw (q, i, c, cleared n h), λ us p. let z : ◌≡◌ {A = ℕ} 0 1 = cc q in absurd (omega arith))

  pub checks_short : (before : List ℕ) → length before < 512 → Checks f before (Err Short) before
  unfolding outcome
  checks_short before l = sym (pick_yes _ _ _ (lt-ltb (length before) 512 l))

  pub checks_all : (before words found table : List ℕ) (r : Result ℕ Refusal) → 512 ≤ length before → Numbers f r words found table → Checks f before r (words ++ drop 512 before)
  unfolding outcome
  checks_all before words found table r l h = go (check one f) h.0
    where
      go : (a : Answer) → record { answer = r; words = words } ≡ outcome_by one [] a
          → record { answer = r; words = words ++ drop 512 before } ≡ pick (ltb (length before) 512) (record { answer = Err Short; words = before }) (outcome_by one before a)
      go (units us) e =
          let i : r ≡ Ok (length us) = ap (λ (o : Outcome). o.answer) e in
          let k : words ≡ laid 512 us [] = ap (λ (o : Outcome). o.words) e in
          rw (i, k, laid_rest 512 us before) (sym (pick_no _ _ _ (le-ltb (length before) 512 l)))
      go (refusal x) e =
          let i : r ≡ Err x = ap (λ (o : Outcome). o.answer) e in
          let k : words ≡ laid 512 [] [] = ap (λ (o : Outcome). o.words) e in
          rw (i, k, laid_rest 512 [] before) (sym (pick_no _ _ _ (le-ltb (length before) 512 l)))

  -- Any two outcomes that the contract of check permits coincide.
  pub checks_decide : (before : List ℕ) (r r' : Result ℕ Refusal) (words words' : List ℕ) → Checks f before r words → Checks f before r' words' → (r ≡ r') × (words ≡ words')
  checks_decide before r r' words words' p q =
      let e : ◌≡◌ {A = Outcome} (record { answer = r; words = words }) (record { answer = r'; words = words' }) = p ∙ sym q in
      (ap (λ (o : Outcome). o.answer) e, ap (λ (o : Outcome). o.words) e)

pub outcome_length : (ed : Edition) (f before : List ℕ) → length (outcome ed f before).words ≡ length before
unfolding outcome pick
outcome_length ed f before = go (ltb (length before) ed.units) refl (check ed f) refl
  where
    go : (t : Bool) → ltb (length before) ed.units ≡ t → (a : Answer) → check ed f ≡ a → length (pick t (record { answer = Err Short; words = before }) (outcome_by ed before a)).words ≡ length before
    go true e a q = refl
    go false e (units us) q = laid_length ed.units us before (accepted ed f us q).0.units_most (ltb-false (length before) ed.units e)
    go false e (refusal x) q = laid_length ed.units [] before (omega arith) (ltb-false (length before) ed.units e)
