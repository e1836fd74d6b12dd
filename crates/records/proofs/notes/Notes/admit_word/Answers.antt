-- A word that has a number keeps it, and another gets the next one; either is noted behind the numbers so far.
-- The check finds the refusal by itself.
use mathlib.Core.Path.{refl, sym, ap}
use Prim.Native.Nat.{ℕ, ◌+◌}
use mathlib.Core.List.{[], ◌∷◌, ◌++◌}
use Rattle.records.proofs.Lists.{found_known, found_number, found_none, units_more, units_room}
use Rattle.records.proofs.Chains.{append_of}
use Rattle.records.proofs.Held.{named_of, units_of_lem, holds_number}
use Rattle.records.proofs.Comings.{word_known, word_new}
use Rattle.records.proofs.notes.Notes.admit_word.Goals as goal

pub returns-in-Some-clause-comes : goal.returns-in-Some-clause-comes
returns-in-Some-clause-comes c =
    λ s e h.
    let w = c.find.ensures.found s.units h.units_most h.unit_words h.chains in
    word_known s _ _ _ _ _ (found_known _ _ _ w _ c.in-Some.is) (found_number _ _ _ w _ c.in-Some.is)
    (c.after_number.ensures s s.units _ e (sym (units_of_lem _ s e)) (ap (λ (k : ℕ). k + 1) (named_of _ s e)))
    (holds_number s _ h s.units _ _ _ _ _ _ h.units_most h.unit_words h.chains (named_of _ s e) c.requires.room refl)

pub returns-clause-comes : goal.returns-clause-comes
returns-clause-comes c =
    λ s e h.
    let w = c.find.ensures.found s.units h.units_most h.unit_words h.chains in
    let none = found_none _ _ _ w c.in_default.is in
    let more = append_of _ _ _ s.units _ _ _ c.bucket_of-bucket.ensures.0 c.bucket_of-bucket.ensures.1 c.if-units-ge512.false (sym (units_of_lem _ s e)) none h.unit_words h.chains in
    word_new s _ _ _ _ _ none (units_of_lem _ s e) c.if-units-ge512.false
    (c.after_number-2.ensures s (s.units ++ (_ ∷ [])) _ e (units_more s.units _ _ (units_of_lem _ s e)) (ap (λ (k : ℕ). k + 1) (named_of _ s e)))
    (holds_number s _ h (s.units ++ (_ ∷ [])) _ _ _ _ _ _ (units_room s.units _ _ (units_of_lem _ s e) c.if-units-ge512.false) more.0 more.1 (named_of _ s e) c.requires.room refl)
