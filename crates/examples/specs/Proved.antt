-- Document 01, "Worked run" and "Proved examples": each closes by computing the definitions. Names p1 to p10 are document 01's.
use Rattle.std.specs.Prelude.{◌≡◌, refl, true, false, List, [], ◌∷◌, ◌++◌, map, ℕ, get_or, length, replicate}
use Rattle.rows.specs.Row.{digit, bit}
use Rattle.fields.specs.Pick.{pick, has, times}
use Rattle.fields.specs.Edition.{one}
use Rattle.fields.specs.Fields.{table, fields_of, branch_fields, end_fields_of, least_targets, most_targets, instruction_fits, terminator_fits, missing, well_formed}
use Rattle.fields.specs.Record.{u8_at, u16_at, lengths, length_of, header_at, storage_in, abi_in, operand_in, instruction_at, terminator_at, record_at, present, read, header_fits, greatest_a, greatest_b, fixed_fits, owner_fits, kind_fits, storage_fits, abi_fits, word_of}
use Rattle.records.specs.Units.{number_in, noted}
use Rattle.records.specs.Step.{with_header, with_storage, with_function, with_block, with_opened, with_number, with_unit, opened, with_given, with_target, finished, last_field, operand_fits, word_step, unit_step, operand_step, admit, take, step}
use Rattle.records.specs.Check.{at_tail, scan_by, scan, units, refusal, check, pieces_by, pieces, records_in, records}
use Rattle.records.specs.Program.{put_step, put, gather, program}
use Rattle.records.specs.declared.Refusal.TheVariants.{Form, Repeated, Undeclared, Limit, ApplicationFull, WorkFull, NoPlace, BadFixed, Conflict}
use Rattle.records.specs.Refusal.{number_of, value_of}
use Rattle.units.specs.Sets.{select, any, each, less}
use Rattle.units.specs.Uses.{units_in, units_of, lookup, abis_of, reads, writes, storage_of, storages_of}
use Rattle.liveness.specs.Sets.{insert, join, every, within, same_set}
use Rattle.liveness.specs.Flow.{use_of, last_targets, flow_of, flows}
use Rattle.liveness.specs.Settle.{Outcome, union_at, before, visit_at, sweep_at, pass_at, same_rows, same_sets, settle_from, nothing, settled_by, liveness}
use Rattle.graph.specs.Graph.{has_pair, spared, clashes_at, clashes_in, clashes_from, clashes_of, clashes, uses_of, all_uses, addressed, same_owner, held, interferes, copies_at, copies, copied, sum, passes}
use Rattle.storages.specs.Placement.{code_of, a_of, b_of, fixed_at}
use Rattle.storages.specs.Storage.{stored, allows, is_bit, tries, bit_code, bytes_code, kind_matches}
use Rattle.maps.specs.Maps.{clears, first_window, low_from, low_clear, high_bit, clear_bytes, clear_bit, fill, set_bit}
use Rattle.slots.specs.Slots.{suits}
use Rattle.places.specs.Memory.{fresh, clear_room, reserve}
use Rattle.places.specs.Place as P
use Rattle.places.specs.Place.{done, refused, fits, partners, first_slot, slot_for, choose_fixed, fitted, work_bit, choose_bit, work_bytes, choose_bytes, choose_free, choose, step as place_step, place_from, place}
use Rattle.allocator.specs.Placing.{placing}
use Rattle.examples.specs.Files.{sizes, header, declaring, storage, direct_byte, fixed, bits, copying, lane, immediate, return, worked, unfinished, twice, unknown, functions, crowded, idle, no_blocks, jumping, clobbering, all_reserved, bits_in_byte, shadowed, at_bit, work_only, no_work}

-- Live sets and pass count of the first function of a file.
unfoldable pub first : List ℕ → Outcome
first f = liveness one (program one f) (get_or (program one f).functions 0 (record { number = 0; abis = []; blocks = [] }))

-- A placing line by line: id, code, a and b of each storage in file order, and then how many were placed and how many slots opened. A refusal is its number and value.
unfoldable pub lines : P.Outcome → List (List ℕ)
lines (done x) =
    map (λ (y : P.Placed). y.what.id ∷ code_of y.spot ∷ a_of y.spot ∷ b_of y.spot ∷ []) x.placed
    ++ ((length x.placed ∷ length x.slots ∷ []) ∷ [])
lines (refused r) = (number_of r ∷ value_of r ∷ []) ∷ []

-- The lines of a file.
unfoldable pub placements : List ℕ → List (List ℕ)
placements f = lines (placing one (program one f))

pub record Proved : Type 0 where
  -- The empty input is refused as to form, at 0.
  pub p1 : check one [] ≡ refusal (Form 0)
  -- The worked run has two units: lane 0 of storage 0 and lane 0 of storage 1.
  pub worked_units : check one worked ≡ units (16777216 ∷ 16842752 ∷ [])
  -- Refusal 2, at the copy that lacks an operand.
  pub lacking : check one unfinished ≡ refusal (Form 28)
  -- Refusal 3, at the second record of an id.
  pub again : check one twice ≡ refusal (Repeated 23)
  -- Refusal 4, at the operand.
  pub stranger : check one unknown ≡ refusal (Undeclared 32)
  -- Refusal 5, at the 65th function; and for a file of one byte too many, before any record is looked at.
  pub crowd : check one crowded ≡ refusal (Limit 135)
  pub too_long : check one (replicate 16385 9) ≡ refusal (Limit 16384)
  -- A function with no block takes one pass.
  pub p2 : (first no_blocks).passes ≡ 1
  -- One block that reads a lane and jumps to itself: the first pass finds the lane live-in, the second live-out, and the third changes nothing.
  pub p3 : (first (jumping 5)).passes ≡ 3
  -- A call that clobbers a storage leaves a lane of it live.
  pub p8 : (first clobbering).sets.ins ≡ (16777216 ∷ []) ∷ []
  -- A jump to a block that is missing makes nothing live at the block's end, and takes two passes.
  pub p9 : first (jumping 6) ≡ record { passes = 2; sets = record { ins = (16777216 ∷ []) ∷ []; outs = [] ∷ [] } }
  -- Check accepts these files.
  pub p2_taken : check one no_blocks ≡ units []
  pub p3_taken : check one (jumping 5) ≡ units (16777216 ∷ [])
  pub p8_taken : check one clobbering ≡ units (16842752 ∷ 16777216 ∷ 50331648 ∷ [])
  pub p9_taken : check one (jumping 6) ≡ units (16777216 ∷ [])
  -- So the storage that is written before that call, and never read, interferes with the storage that lives across it.
  pub across : interferes one (program one clobbering) 1 0 ≡ true
  -- The worked run takes one pass; its copy spares the source, and leaves the pair with the smaller id first.
  pub worked_passes : passes one (program one worked) ≡ 1
  pub worked_apart : interferes one (program one worked) 0 1 ≡ false
  pub worked_copied : copied one (program one worked) 0 1 ≡ true
  -- So storage 1 joins the slot of storage 0 at the first free byte, and the bit takes the last byte: three storages in two slots.
  pub worked_placed : placements worked ≡ (0 ∷ 3 ∷ 16 ∷ 0 ∷ []) ∷ (1 ∷ 3 ∷ 16 ∷ 0 ∷ []) ∷ (2 ∷ 4 ∷ 31 ∷ 0 ∷ []) ∷ (3 ∷ 2 ∷ []) ∷ []
  -- No application byte is free for a byte that must be direct: refusal 8, with its length.
  pub p4 : placing one (program one all_reserved) ≡ refused (ApplicationFull 1)
  -- One byte has no room for the ninth bit: refusal 10, with its id. Eight take bits 0 to 7; bits of the program open no slot.
  pub p5 : placing one (program one (bits_in_byte 9)) ≡ refused (NoPlace 8)
  pub p5_eight : placements (bits_in_byte 8)
      ≡ (0 ∷ 4 ∷ 0 ∷ 0 ∷ []) ∷ (1 ∷ 4 ∷ 0 ∷ 1 ∷ []) ∷ (2 ∷ 4 ∷ 0 ∷ 2 ∷ []) ∷ (3 ∷ 4 ∷ 0 ∷ 3 ∷ []) ∷ (4 ∷ 4 ∷ 0 ∷ 4 ∷ []) ∷ (5 ∷ 4 ∷ 0 ∷ 5 ∷ []) ∷ (6 ∷ 4 ∷ 0 ∷ 6 ∷ []) ∷ (7 ∷ 4 ∷ 0 ∷ 7 ∷ []) ∷ (8 ∷ 0 ∷ []) ∷ []
  -- Shadow and work bytes lie in one map: the later of two at one offset gets refusal 12.
  pub p6 : placing one (program one shadowed) ≡ refused (Conflict 4)
  -- Bytes of length 1 may be fixed at a bit, and take it; a byte may not, which is refusal 11.
  pub p7 : placements (at_bit 2) ≡ (5 ∷ 4 ∷ 2 ∷ 3 ∷ []) ∷ (1 ∷ 0 ∷ []) ∷ []
  pub byte_at_bit : placing one (program one (at_bit 1)) ≡ refused (BadFixed 5)
  -- A byte that must be direct and allows work RAM only is placed there.
  pub p10 : placements work_only ≡ (9 ∷ 10 ∷ 0 ∷ 0 ∷ []) ∷ (1 ∷ 1 ∷ []) ∷ []
  -- Where there is no work byte, a byte that allows work RAM only gets refusal 9, with its length.
  pub no_work_lem : placing one (program one no_work) ≡ refused (WorkFull 1)
  -- Storages that interfere lie apart, in a slot each.
  pub across_placed : placements clobbering ≡ (0 ∷ 3 ∷ 16 ∷ 0 ∷ []) ∷ (1 ∷ 3 ∷ 17 ∷ 0 ∷ []) ∷ (2 ∷ 2 ∷ []) ∷ []
  -- Check accepts these files.
  pub p4_taken : check one all_reserved ≡ units []
  pub p5_taken : check one (bits_in_byte 9) ≡ units []
  pub p5_eight_taken : check one (bits_in_byte 8) ≡ units []
  pub p6_taken : check one shadowed ≡ units []
  pub p7_taken : check one (at_bit 2) ≡ units []
  pub byte_at_bit_taken : check one (at_bit 1) ≡ units []
  pub p10_taken : check one work_only ≡ units []
  pub no_work_taken : check one no_work ≡ units []

pub proved : Proved
unfolding sizes header declaring storage direct_byte fixed bits copying lane immediate return worked unfinished twice unknown functions crowded idle no_blocks jumping clobbering all_reserved bits_in_byte shadowed at_bit work_only no_work digit bit pick has times table fields_of branch_fields end_fields_of least_targets most_targets instruction_fits terminator_fits missing well_formed u8_at u16_at lengths length_of header_at storage_in abi_in operand_in instruction_at terminator_at record_at present read header_fits greatest_a greatest_b fixed_fits owner_fits kind_fits storage_fits abi_fits word_of number_in noted with_header with_storage with_function with_block with_opened with_number with_unit opened with_given with_target finished last_field operand_fits word_step unit_step operand_step admit take step at_tail scan_by scan check pieces_by pieces records_in records put_step put gather program select any each less units_in units_of lookup abis_of reads writes storage_of storages_of insert join every within same_set use_of last_targets flow_of flows union_at before visit_at sweep_at pass_at same_rows same_sets settle_from nothing settled_by liveness has_pair spared clashes_at clashes_in clashes_from clashes_of clashes uses_of all_uses addressed same_owner held interferes copies_at copies copied sum passes fixed_at stored allows is_bit tries bit_code bytes_code kind_matches clears first_window low_from low_clear high_bit clear_bytes clear_bit fill set_bit suits fresh clear_room reserve fits partners first_slot slot_for choose_fixed fitted work_bit choose_bit work_bytes choose_bytes choose_free choose place_step place_from place placing lines placements first
proved =
    record {
      p1 = refl;
      worked_units = refl;
      lacking = refl;
      again = refl;
      stranger = refl;
      crowd = refl;
      too_long = refl;
      p2 = refl;
      p3 = refl;
      p8 = refl;
      p9 = refl;
      p2_taken = refl;
      p3_taken = refl;
      p8_taken = refl;
      p9_taken = refl;
      across = refl;
      worked_passes = refl;
      worked_apart = refl;
      worked_copied = refl;
      worked_placed = refl;
      p4 = refl;
      p5 = refl;
      p5_eight = refl;
      p6 = refl;
      p7 = refl;
      byte_at_bit = refl;
      p10 = refl;
      no_work_lem = refl;
      across_placed = refl;
      p4_taken = refl;
      p5_taken = refl;
      p5_eight_taken = refl;
      p6_taken = refl;
      p7_taken = refl;
      byte_at_bit_taken = refl;
      p10_taken = refl;
      no_work_taken = refl;
    }
