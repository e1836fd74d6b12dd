-- The placing of the words is the placing of the program, since the rows tell its graph; a refusal clears the buffers, and only a full placing is written out.
use Rattle.allocator.proofs.Answering.{analysed_header, analysed_numbers, analysed_fit, emptied, cleared_row, placed_done, placed_refused}
use Rattle.allocator.proofs.place_on.Goals as goal

pub allocate-requires : goal.allocate-requires
allocate-requires c =
    let h = c.requires.5 in
    record { fit = (analysed_header _ _ _ _ _ _ h, analysed_fit _ _ _ _ _ _ h); header = analysed_numbers _ _ _ _ _ _ h; begun = c.new-ledger.ensures }

pub returns-in-Ok : goal.returns-in-Ok
returns-in-Ok c =
    placed_done _ _ _ _ _ _ c.requires.5 _ _ _ c.allocate.ensures _ _ c.requires.4 c.in-Ok.is c.copy_from_slice.ensures.after

pub returns-in-Err : goal.returns-in-Err
returns-in-Err c =
    placed_refused _ _ _ _ _ _ c.requires.5 _ _ _ c.allocate.ensures _ _ _ _ _ c.in-Err.is (emptied 512 c.args.units.now _ c.requires.0 c.clear.ensures)
    (cleared_row 2048 _ _ c.requires.1 c.clear-in-Err.ensures) (cleared_row 1024 _ _ c.requires.2 c.clear-in-Err-2.ensures)
    (cleared_row 1024 _ _ c.requires.3 c.clear-in-Err-3.ensures)
