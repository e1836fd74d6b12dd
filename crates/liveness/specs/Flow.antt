-- Document 01, "Liveness and interference": what the passes see of a function. Of each block they see what its steps read and write, one step after
-- another, and the blocks where it may go on.
use Rattle.std.specs.Prelude.{List, [], ◌∷◌, map, ℕ}
use Rattle.fields.specs.Edition.{Edition}
use Rattle.records.specs.Units.{number_in}
use Rattle.records.specs.Program.{Step, Block, Function, Program}
use Rattle.units.specs.Uses.{reads, writes}

-- A step of a function, with the words of the units that it reads and of those that it writes.
pub record Use : Type 0 where
  pub step : Step
  pub reads : List ℕ
  pub writes : List ℕ

unfoldable pub use_of : Edition → Program → Function → Step → Use
use_of e p f s = record { step = s; reads = reads e p f s; writes = writes e p s }

-- A block: its steps in file order, and the numbers of the blocks where it goes on. Blocks are numbered from 0, in file order.
pub record Flow : Type 0 where
  pub uses : List Use
  pub targets : List ℕ

-- A block goes on at the targets of its last step, which is its terminator; `ts` stands for what comes before the steps.
unfoldable pub last_targets : List ℕ → List Step → List ℕ
last_targets ts [] = ts
last_targets ts (s ∷ ss) = last_targets s.targets ss

-- The ids of a function's blocks. The number of an id is its place among them; a missing one has the number of blocks, which is no block's number.
abbrev pub block_ids : Function → List ℕ
block_ids f = map (λ (b : Block). b.id) f.blocks

unfoldable pub flow_of : Edition → Program → Function → Block → Flow
flow_of e p f b = record { uses = map (use_of e p f) b.steps; targets = map (λ t. number_in t (block_ids f)) (last_targets [] b.steps) }

unfoldable pub flows : Edition → Program → Function → List Flow
flows e p f = map (flow_of e p f) f.blocks

-- Past the last block there is nothing to do and nowhere to go on.
abbrev pub no_flow : Flow
no_flow = record { uses = []; targets = [] }
