-- A target steps alike whatever its id, which the record at the front of the tail names.
-- The check finds every other kind by itself.
use mathlib.Core.Path.{refl, ◌∙◌}
use Rattle.fields.proofs.ByKind.{kind_target}
use Rattle.records.proofs.Comings.{taken_other}
use Rattle.records.proofs.notes.Notes.take_plain.Goals as goal

pub returns-in-8-clause-comes : goal.returns-in-8-clause-comes
returns-in-8-clause-comes c = λ s e q h. taken_other s _ _ _ _ _ _ _ (kind_target _ (q ∙ c.in-8.is)) refl (c.take_target.ensures s _ _ e h)
