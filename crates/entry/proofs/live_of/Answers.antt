-- The operation answers with its one outcome, and the number is packed from that answer.
-- So the number and the buffers are that outcome's.
use mathlib.Core.Path.{refl}
use Rattle.entry.proofs.Laws.{settles}
use Rattle.entry.proofs.live_of.Goals as goal

pub returns : goal.returns
returns c = settles _ _ _ _ _ _ _ _ _ c.live.ensures refl c.counted.ensures
