-- The query answers with its one outcome, and the number says whether the row was filled.
-- So the number and both buffers are that outcome's.
use Rattle.entry.proofs.Laws.{fills}
use Rattle.entry.proofs.storage_reads_at.Goals as goal

pub returns : goal.returns
returns c = fills _ _ _ _ _ _ _ _ _ _ c.storage_reads.ensures c.filled.ensures
