-- The operation answers with its one outcome, and the number is packed from that answer.
-- So the number and the buffers are that outcome's.
use mathlib.Core.Path.{refl}
use Rattle.entry.proofs.Laws.{draws}
use Rattle.entry.proofs.graph_of.Goals as goal

pub returns : goal.returns
returns c = draws _ _ _ _ _ _ _ _ _ _ _ _ c.graph.ensures refl c.counted.ensures
