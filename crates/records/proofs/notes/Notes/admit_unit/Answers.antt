-- A declared storage's id is below 256, so that its word fits.
-- The check finds the ways out by itself.
use mathlib.Core.Path.{sym, ◌∙◌}
use borrow.Author.Tests.{ltb-true}
use Rattle.fields.proofs.Front.{and_both}
use Rattle.records.proofs.notes.Notes.admit_unit.Goals as goal

pub word_of-word-requires : goal.word_of-word-requires
word_of-word-requires c = ltb-true _ _ (and_both _ _ (sym c.declared.ensures ∙ c.if-declared.true)).0
