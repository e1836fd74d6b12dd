-- Each array is made of noughts.
-- Assumes nothing.
use Rattle.graph.proofs.Whole.{blank_is}
use Rattle.graph.proofs.sketch.Sketch.new.Goals as goal

pub returns : goal.returns
returns c = record { meets = blank_is 2048; copies = blank_is 1024; addressed = blank_is 4 }
