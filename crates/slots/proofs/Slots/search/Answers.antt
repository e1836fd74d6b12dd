-- `Slots::search` meets its contract. What is lent is the front of the list, whose first slot has the number 0, and what stands behind the open slots
-- does not matter.
use Rattle.std.specs.Prelude.{Bool, Option}
use Rattle.std.proofs.Common.{◌≡◌, ◌+◌, ◌≤◌, ℕ, List, length, ap, ◌∙◌, arith}
use Rattle.std.proofs.Math.Path.{fun_ext}
use lib.ListN.{take}
use lib.Seq.{length-take-le}
use Rattle.storages.specs.declared.Storage.{Storage}
use Rattle.slots.specs.declared.Slot.{Slot}
use Rattle.slots.specs.Slots.{passes, first_passing}
use Rattle.slots.proofs.Laws.{passing_front, passing_below}
use Rattle.slots.proofs.Slots.search.Goals as goal

found : (r : Option ℕ) (s : Storage) (free chosen : List ℕ) (ts : List Slot) (n : ℕ) → n ≤ length ts
    → r ≡ first_passing (λ i. passes s free chosen (0 + i)) (take n ts) (length (take n ts)) → r ≡ first_passing (passes s free chosen) ts n
found r s free chosen ts n h e =
    e ∙ ap (λ (p : ℕ → Slot → Bool). first_passing p (take n ts) (length (take n ts))) from_first
    ∙ ap (first_passing (passes s free chosen) (take n ts)) (length-take-le n ts h)
    ∙ passing_front (passes s free chosen) ts n
  where
    from_first : (λ (i : ℕ). passes s free chosen (0 + i)) ≡ passes s free chosen
    from_first = fun_ext (λ i. ap (passes s free chosen) (omega arith))

pub returns-clause-first : goal.returns-clause-first
returns-clause-first c = found _ _ _ _ c.args.self.now.list c.args.self.now.count (omega arith) c.walk.ensures

pub returns-clause-below : goal.returns-clause-below
returns-clause-below c =
    let slots = c.args.self.now in
    passing_below (passes c.args.s _ _) slots.list slots.count _ (found _ _ _ _ slots.list slots.count (omega arith) c.walk.ensures)
