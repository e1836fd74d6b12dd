-- A function that may stand here, is new and has room is entered in the table of functions.
-- The check finds each refusal by itself.
use mathlib.Core.Path.{refl, sym, ◌∙◌}
use Prim.Native.Nat.{◌<◌}
use lib.ListN.{length}
use native.Mathlib.Omega.{arith}
use Rattle.fields.specs.Record.{function, u8_at}
use Rattle.records.proofs.Held.{stage_as, functions_of, entry_none, enters_new}
use Rattle.records.proofs.Comings.{comes_admit, function_next}
use Rattle.records.proofs.notes.Notes.take_function.Goals as goal

pub returns-clause-comes : goal.returns-clause-comes
unfolding u8_at
returns-clause-comes c =
    λ s e h.
    let few : length s.functions < 64 = omega (arith, functions_of _ s e, c.if-c-ge64.false) in
    comes_admit s _ (function (u8_at c.args.tail.now 1)) _ _ (sym (c.function_follows.ensures _ (stage_as _ s e)) ∙ c.if-not-function_follows.false) refl
    (function_next s _ _ _ _ (entry_none s _ h _ (c.type_inv.tail 1).fits c.if-self-number.false) few
    (c.after_function.ensures s _ e) (enters_new s _ h _ _ _ _ (c.type_inv.tail 1).fits c.requires.1.early c.if-self-number.false refl))
