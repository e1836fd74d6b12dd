-- The query answers with its one outcome, and the number says yes, no or the refusal.
-- Its three ways of answering are one law.
use mathlib.Core.Path.{refl}
use Rattle.entry.proofs.Laws.{says}
use Rattle.entry.proofs.effect_at.Goals as goal

pub returns-in-Err : goal.returns-in-Err
returns-in-Err c = says _ _ _ _ _ _ _ c.observable_effect.ensures c.in-Err.is c.pack.ensures
