-- A filled row is 0, and a refusal is its packed number.
-- The match says which of the two it was.
use Rattle.entry.proofs.Laws.{filled_refused}
use Rattle.entry.proofs.filled.Goals as goal

pub returns-in-Err : goal.returns-in-Err
returns-in-Err c = filled_refused _ _ _ c.in-Err.is c.pack.ensures
