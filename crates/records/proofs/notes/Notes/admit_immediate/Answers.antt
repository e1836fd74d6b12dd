-- No unit is added, and the number that stands for none is noted behind the numbers so far.
-- So the lent numbers hold the state's list with one more.
use Rattle.std.specs.Prelude.{Ok}
use mathlib.Core.Path.{refl, sym, ap}
use Prim.Native.Nat.{ℕ, ◌+◌}
use Rattle.records.proofs.Held.{named_of, units_of_lem, holds_number}
use Rattle.records.proofs.notes.Notes.admit_immediate.Goals as goal

pub returns-clause-comes : goal.returns-clause-comes
returns-clause-comes c =
    λ s e h. (
      ap Ok (c.after_number.ensures s s.units _ e (sym (units_of_lem _ s e)) (ap (λ (k : ℕ). k + 1) (named_of _ s e))),
      holds_number s _ h s.units _ _ _ _ _ _ h.units_most h.unit_words h.chains (named_of _ s e) c.requires refl,
    )
