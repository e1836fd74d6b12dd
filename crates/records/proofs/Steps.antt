-- The laws that say what a record comes to, gathered for the check: it applies them by itself where a function of `step` names them.
-- `judged`: the tests on the way to an answer decide the step. `by_kind`: the kind byte decides which record stands there. Assumes nothing.
use Rattle.fields.proofs.ByKind.{kind_header, kind_storage, kind_function, kind_abi, kind_block, kind_instruction, kind_operand, kind_terminator, kind_target, kind_end}
use Rattle.records.proofs.Lists.{row_answer, row_word_lem, front_answer}
use Rattle.records.proofs.Counts.{field_late, field_inside}
use Rattle.records.proofs.TenKinds.{long_at}
use Rattle.records.proofs.Held.{stage_test, stage_as, now_of, place_of, block_of_lem, functions_of, blocks_of_lem, targets_is, targets_not, targets_more, targets_full, entry_there, entry_none, id_low_lem, reader_header, reader_storage, holds_opened, holds_header, holds_storage, holds_block}
use Rattle.records.proofs.Comings.{comes_order, comes_range, comes_admit, storage_again, storage_next, function_again, function_limit, block_again, block_limit, block_next, operand_none, operand_unit, unit_as, taken_as, taken_other, step_open, step_cut, step_taken, step_operand}

pub ruleset judged = (comes_order, comes_range, comes_admit, stage_test, stage_as, holds_opened)

pub ruleset header_laws = (reader_header, holds_header)

pub ruleset storage_laws = (row_answer, row_word_lem, id_low_lem, reader_storage, holds_storage, storage_again, storage_next)

pub ruleset function_laws = (functions_of, entry_there, entry_none, function_again, function_limit)

pub ruleset block_laws = (front_answer, blocks_of_lem, holds_block, block_again, block_limit, block_next)

pub ruleset operand_laws = (now_of, targets_is, targets_not, field_late, field_inside, operand_none, operand_unit, unit_as)

pub ruleset target_laws = (now_of, targets_more, targets_full)

pub ruleset by_kind = (taken_as, taken_other, long_at, kind_header, kind_storage, kind_function, kind_abi, kind_block, kind_instruction, kind_operand, kind_terminator, kind_target, kind_end)

pub ruleset step_laws = (now_of, place_of, block_of_lem, stage_as, step_open, step_cut, step_taken, step_operand)
