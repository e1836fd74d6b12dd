-- `report::placing::put_placing` puts the text of the outcome of `place`: each case of the answer has its text put by one call.
-- That outcome is what the contract of `place` says.
use Rattle.report.proofs.Printed.{done_text, refused_text_lem}
use Rattle.report.proofs.placing.put_placing.Goals as goal

pub returns-in-Ok : goal.returns-in-Ok
returns-in-Ok g c =
    (done_text _ _ _ _ _ _ _ _ _ c.place.ensures _ c.in-Ok.is (record { same = c.put_done.ensures.text })).same

pub returns-in-Err : goal.returns-in-Err
returns-in-Err g c =
    (refused_text_lem _ _ _ _ _ _ _ _ _ c.place.ensures _ c.in-Err.is (record { same = c.put_refused.ensures.text })).same
