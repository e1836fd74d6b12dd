-- Where no record is whole nothing comes; a whole one stops the search or is passed over, as its kind says.
-- Its length is that of its kind.
use Rattle.liveness.proofs.Onward.{stopped_none, stopped_there, paced_on}
use Rattle.liveness.proofs.survey.pace.Goals as goal

pub returns-in_err-len : goal.returns-in_err-len
returns-in_err-len c = rw c.from_residual.ensures (stopped_none c.args.file.now c.args.at c.args.blocks c.in_err-len.ensures)

pub returns-then-stops : goal.returns-then-stops
returns-then-stops c = let e = c.in_ok-len.ensures in stopped_there _ _ _ _ e.2 e.1 e.0 _ c.stops.ensures c.if-stops.true

pub returns : goal.returns
returns c = let e = c.in_ok-len.ensures in paced_on _ _ _ _ e.2 e.1 e.0 _ c.stops.ensures c.if-stops.false
