-- `put_record` meets its contract. The eight bytes that are copied are the record's, each number low byte first.
use Rattle.std.proofs.Common.{arith, ◌∙◌, refl}
use Rattle.turns.proofs.Noting.{record_put}
use Rattle.turns.proofs.ledger.put_record.Goals as goal

pub returns : goal.returns
returns c =
    record_put c.args.out.now _ c.args.at _ c.args.id c.args.p (omega arith)
    (c.copy_from_slice.ensures.after ∙ rw (c.to_le_bytes.ensures, c.to_le_bytes-2.ensures, c.to_le_bytes-3.ensures, c.code_of.ensures, c.a_of.ensures, c.b_of.ensures) refl)
