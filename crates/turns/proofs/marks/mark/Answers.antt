-- `mark` meets its contract. At first the last storage of the key is next and no slot is marked; a storage that is marked leads on to the one before it,
-- and where the links end the rows tell of all.
use mathlib.Core.Path.{refl, sym, ◌∙◌}
use mathlib.Core.List.{List}
use Prim.Native.Nat.{ℕ}
use native.Mathlib.Omega.{arith}
use lib.Seq.{get_or-drop}
use Rattle.turns.specs.Held.{KinLinked}
use Rattle.turns.proofs.Marking.{mark_start, mark_next, mark_end, leads_down}
use Rattle.turns.proofs.marks.mark.Goals as goal

pub loop-next-init : goal.loop-next-init
loop-next-init c =
    let k = c.requires.linked in
    let at = sym (get_or-drop 256 c.args.ledger.now.kin c.args.key 0) in
    let start = λ (keys : List ℕ) (linked : KinLinked keys c.args.ledger.now.kin c.args.ledger.now.count). mark_start _ _ _ _ _ keys _ _ _ _ _ _ (at ∙ linked.last_is _ c.requires.own.1) refl refl refl in
    record { within = (start k.0 k.1).within; left = start }

pub mark_one-requires : goal.mark_one-requires
mark_one-requires c = (c.requires.own.0, c.requires.low _ (omega (arith, c.loop-next.invariant.within)))

pub loop-next-smaller : goal.loop-next-smaller
loop-next-smaller c =
    let k = c.requires.linked in
    leads_down _ _ _ _ _ _ _ _ (c.loop-next.invariant.left k.0 k.1) _ k.1 _ (omega arith)

pub loop-next-preserved : goal.loop-next-preserved
loop-next-preserved c =
    let k = c.requires.linked in
    let m = c.mark_one.ensures in
    let next = λ (keys : List ℕ) (linked : KinLinked keys c.args.ledger.now.kin c.args.ledger.now.count). mark_next _ _ _ _ _ keys _ _ (c.loop-next.invariant.left keys linked) _ linked _ (omega arith) _ _ _ _ refl m.seen m.barred m.partners in
    record { within = (next k.0 k.1).within; left = next }

pub returns : goal.returns
returns c = λ keys linked. mark_end _ _ _ _ _ _ _ _ (c.loop-next.invariant.left keys linked) c.loop-next-test.false
