-- `place` answers with its one outcome, and the number is packed from that answer.
-- Its two ways of answering are one law; each remainder keeps its part of the number below the next part.
use mathlib.Core.Path.{refl}
use Rattle.entry.proofs.Laws.{puts}
use Rattle.entry.proofs.place_file.Goals as goal

pub returns-in-Ok : goal.returns-in-Ok
returns-in-Ok c = puts _ _ _ _ _ _ _ _ _ _ _ _ _ _ c.place.ensures c.in-Ok.is refl

pub returns-in-Err : goal.returns-in-Err
returns-in-Err c = puts _ _ _ _ _ _ _ _ _ _ _ _ _ _ c.place.ensures c.in-Err.is c.pack.ensures
