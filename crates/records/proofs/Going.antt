-- What the loop over the records keeps (`Going`): what is left comes to `w`, what the whole comes to, since each turn takes one record off the front.
-- Assumes nothing.
use mathlib.Core.Path.{◌≡◌, refl, ap, ◌∙◌}
use mathlib.Core.List.{List}
use Prim.Native.Nat.{ℕ, ◌+◌, ◌≤◌, ◌<◌}
use native.Mathlib.Omega.{arith}
use lib.ListN.{length, drop, length-drop, drop_of_length-le}
use lib.Seq.{drop-drop}
use Rattle.fields.specs.Edition.{Edition}
use Rattle.records.specs.declared.Refusal.{Refusal}
use Rattle.records.specs.declared.Refusal.TheVariants.{Form}
use Rattle.fields.specs.Record.{Rec, whole, fault, read}
use Rattle.records.specs.Step.{State, start, Turn, next, refused, step}
use Rattle.records.specs.Check.{scan}
use Rattle.fields.proofs.Front.{read_whole}
use Rattle.records.proofs.Scan.{scan_nil, scan_fault, scan_refused, scan_next}

pub record Going (ed : Edition) (w : Turn) (f : List ℕ) (s : State) (at : ℕ) : Type 0 where
  pub within : at ≤ length f
  pub same : w ≡ scan ed s at (drop at f)

pub going_start : (ed : Edition) (f : List ℕ) → Going ed (scan ed start 0 f) f start 0
going_start ed f = record { within = omega arith; same = refl }

module _ (ed : Edition) (w : Turn) (f : List ℕ) (s : State) (at : ℕ) (g : Going ed w f s at) where
  -- all is read
  pub going_done : at ≡ length f → w ≡ next s
  going_done e = g.same ∙ (ap (scan ed s at) (drop_of_length-le f {i = at} (omega arith)) ∙ scan_nil ed s at)

  -- `t` is the tail that the code holds
  module _ (t : List ℕ) (here : t ≡ drop at f) where
    at_tail_lem : w ≡ scan ed s at t
    at_tail_lem = rw here g.same

    pub going_fault : at < length f → read ed t ≡ fault → w ≡ refused (Form at)
    going_fault l e = at_tail_lem ∙ scan_fault ed s at t (omega (arith, ap length here, length-drop at f)) e

    pub going_refused : (len : ℕ) (x : Rec) (y : Refusal) → read ed t ≡ whole len x → step ed s at x ≡ refused y → w ≡ refused y
    going_refused len x y e q = at_tail_lem ∙ scan_refused ed s at t len x e y q

    pub going_on : (len : ℕ) (x : Rec) (s' : State) → read ed t ≡ whole len x → step ed s at x ≡ next s' → Going ed w f s' (at + len)
    going_on len x s' e q =
        record {
          within = omega (arith, (read_whole ed t len x e).fits, ap length here, length-drop at f, g.within);
          same = at_tail_lem ∙ (scan_next ed s at t len x e s' q ∙ ap (scan ed s' (at + len)) (ap (drop len) here ∙ drop-drop len at f));
        }
