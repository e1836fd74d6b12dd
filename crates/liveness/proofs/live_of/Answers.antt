-- A number that the table does not have is refused, and the units cleared; else the passes' answer and words are the definition's.
-- Bytes are below 256, so a greater number has no function.
use Rattle.liveness.proofs.Answering.{lived_absent, lived_passes}
use Rattle.liveness.proofs.live_of.Goals as goal

pub returns-then-own-eq-NONE : goal.returns-then-own-eq-NONE
returns-then-own-eq-NONE c =
    λ us bytes ready w. lived_absent c.args.source.file.now _ _ _ c.own_of-own.ensures bytes us _ ready _ _ _ c.if-own-eq-NONE.true c.clear.ensures c.requires.0 c.requires.1

pub returns : goal.returns
returns c =
    λ us bytes ready w. lived_passes c.args.source.file.now _ _ _ c.own_of-own.ensures bytes us _ ready _ _ _ c.if-own-eq-NONE.false w c.passes_of.ensures
