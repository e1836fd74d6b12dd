-- `passes::leads_to` meets its contract. The closure tests a target as the definition does,
-- so `any` over the targets is the test of the definition. Assumes nothing.
use Rattle.std.proofs.Common.{rules, tests}
use Rattle.std.proofs.lemmas.Iterator.{YieldsList-from_slice}
use Rattle.std.proofs.lemmas.Iterator.Search.{any_from_yields_List}
use Rattle.passes.specs.Passes.{leads}
use Rattle.passes.specs.Blocks.{targets_in}
use Rattle.passes.proofs.leads_to.Goals as goal

pub returns : goal.returns
unfolding leads
returns c = any_from_yields_List _ _ _ _ c.any.ensures.ran (YieldsList-from_slice (targets_in c.args.blocks.now c.args.k) cc) (λ x b q k. search (rules, tests))
