-- The operation answers with its one outcome, and the number is packed from that answer.
-- So the number and the buffers are that outcome's.
use mathlib.Core.Path.{refl}
use Rattle.entry.proofs.Laws.{answers}
use Rattle.entry.proofs.check_file.Goals as goal

pub returns : goal.returns
returns c = answers _ _ _ _ _ _ c.check.ensures refl c.counted.ensures
