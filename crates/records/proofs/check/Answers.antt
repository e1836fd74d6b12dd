-- A short buffer is refused untouched; else the first 512 words are lent on, and what lies past them stays.
-- The local arrays hold a unit number for each record of seven bytes that a file can have, and the table of functions.
use borrow.Author.Rules.{rules}
use Rattle.records.proofs.Outcomes.{checks_all}
use Rattle.records.proofs.check.Goals as goal

pub returns : goal.returns
returns c = checks_all _ _ _ _ _ _ (search rules) c.number_units.ensures
