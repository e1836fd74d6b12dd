-- A place past the file has no record; at any other the reader of the tail answers.
-- The tail is the file from the place on.
use Rattle.std.proofs.lemmas.Slice.{between_to_end}
use mathlib.Core.Path.{◌∙◌}
use native.Mathlib.Omega.{arith}
use Rattle.liveness.proofs.Onward.{past_either, whole_from}
use Rattle.liveness.proofs.survey.whole_at.Goals as goal

pub returns-in_err-get : goal.returns-in_err-get
returns-in_err-get c = rw c.from_residual.ensures (past_either c.args.file.now c.args.at c.in_err-get.ensures.lookup.0)

pub returns : goal.returns
returns c =
    let t = c.in_ok-get.ensures.lookup.0 in
    whole_from c.args.file.now _ c.args.at (t.2 ∙ between_to_end c.args.file.now c.args.at _ (omega arith)) t.0 _ c.whole_record.ensures.whole c.whole_record.ensures.cut.0
