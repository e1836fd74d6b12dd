-- A file that is too long is refused with the words cleared.
-- The check finds the walk's two ways out by itself.
use Rattle.records.proofs.Outcomes.{numbering_long}
use Rattle.records.proofs.number_units.Goals as goal

pub returns-then-file-gt16384 : goal.returns-then-file-gt16384
returns-then-file-gt16384 c = numbering_long _ _ _ _ _ c.if-file-gt16384.true c.clear.ensures c.requires.0
