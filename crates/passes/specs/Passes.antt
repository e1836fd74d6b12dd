-- The passes of Live over rows of words: how four lists of numbers are a function's blocks, how a buffer of 2048 words is its live sets,
-- and what `settle` leaves in that buffer. Document 01, "Liveness and interference". Below, what a visit writes, word for word, and which visits may be left out.
use Rattle.std.specs.Prelude.{◌≡◌, Bool, true, false, not, ◌&&◌, ◌||◌, ◌⊎◌, ℕ, zero, suc, ◌+◌, ◌-◌, ◌*◌, ◌≤◌, ◌<◌, ltb, length, get_or, take, drop, replicate}
use Rattle.std.specs.List.{list_any}
use mathlib.Core.List.{List, [], ◌∷◌, Memᴰ}
use Rattle.rows.specs.Row.{Words, member_at, row, put, or_row, less_row, same_row}
use Rattle.fields.specs.Pick.{pick}
use Rattle.passes.specs.Live.{Row, Block, State, pass, Settled}

-- The words of a row, and the first word of the live-out rows: block k has its live-in row at k * width and its live-out row at out_base + k * width.
abbrev pub width : ℕ
width = 8

abbrev pub out_base : ℕ
out_base = 1024

-- The row at base as a set of units: it has room for 64 * width of them.
unfoldable pub units_at : List ℕ → ℕ → Row
units_at ws base n = ltb n (64 * width) && member_at ws base n

-- The entries of a list from one place up to, and without, another.
unfoldable pub part : List ℕ → ℕ → ℕ → List ℕ
part l from to = take (to - from) (drop from l)

-- The targets of block k stand one after the other, and starts says where those of each block begin.
unfoldable pub targets_of : List ℕ → List ℕ → ℕ → List ℕ
targets_of targets starts k = part targets (get_or starts k 0) (get_or starts (k + 1) 0)

-- Block k: one step, which reads what the block reads before it writes it, and writes what the block writes.
unfoldable pub block_of : List ℕ → List ℕ → List ℕ → List ℕ → ℕ → Block
block_of gens kills targets starts k = record {
  steps = record { reads = units_at gens (k * width); writes = units_at kills (k * width) } ∷ [];
  targets = targets_of targets starts k;
}

-- n blocks, from number k on.
unfoldable pub listed : (ℕ → Block) → ℕ → ℕ → List Block
listed f k zero = []
listed f k (suc n) = f k ∷ listed f (suc k) n

unfoldable pub blocks_of : List ℕ → List ℕ → List ℕ → List ℕ → ℕ → List Block
blocks_of gens kills targets starts count = listed (block_of gens kills targets starts) 0 count

-- The live sets that a buffer holds for `count` blocks.
unfoldable pub state_of : List ℕ → ℕ → State
state_of live count = record {
  ins = λ k n. ltb k count && units_at live (k * width) n;
  outs = λ k n. ltb k count && units_at live (out_base + k * width) n;
}

-- n words that hold nothing.
unfoldable pub blank : ℕ → List ℕ
blank n = replicate n 0

-- What a function's lists have to be, so that every row and every target is there to be read.
pub record Given (gens kills targets starts : List ℕ) (count : ℕ) : Type 0 where
  pub few : count ≤ 128
  pub gens_len : length gens ≡ 1024
  pub kills_len : length kills ≡ 1024
  pub starts_len : 129 ≤ length starts
  pub within : (k : ℕ) → k ≤ count → get_or starts k 0 ≤ length targets

-- A buffer of live rows: two rows for each of 128 blocks, and nothing in those that no block has.
pub record Held (live : List ℕ) (count : ℕ) : Type 0 where
  pub len : length live ≡ 2048
  pub words : Words live
  pub past_ins : (i : ℕ) → count * width ≤ i → i < out_base → get_or live i 0 ≡ 0
  pub past_outs : (i : ℕ) → out_base + count * width ≤ i → get_or live i 0 ≡ 0

-- What `settle` leaves: the first live sets that a pass does not change, the number of passes with that one, and no other word.
pub record Solved (gens kills targets starts : List ℕ) (count passes : ℕ) (live : List ℕ) : Type 0 where
  pub held : Held live count
  pub settled : Settled (blocks_of gens kills targets starts count) passes (state_of live count)
  pub soon : passes ≤ count + 2

-- What one pass leaves, and what its answer says.
pub record Passed (gens kills targets starts : List ℕ) (count : ℕ) (before live : List ℕ) (changed : Bool) : Type 0 where
  pub held : Held live count
  pub state : state_of live count ≡ pass (blocks_of gens kills targets starts count) (state_of before count)
  pub same : changed ≡ false → state_of live count ≡ state_of before count
  pub moved : changed ≡ true → ¬ (pass (blocks_of gens kills targets starts count) (state_of before count) ≡ state_of before count)

-- A row with the live-in row of target t put in, where there is such a block; and with those of several.
unfoldable pub joined : List ℕ → ℕ → ℕ → List ℕ → List ℕ
joined live count t out = pick (ltb t count) (or_row out (row live (t * width) width)) out

unfoldable pub joined_all : List ℕ → ℕ → List ℕ → List ℕ → List ℕ
joined_all live count [] out = out
joined_all live count (t ∷ ts) out = joined_all live count ts (joined live count t out)

-- The live-out row of block k, the live-in row that follows from it, and the buffer once both are written.
unfoldable pub out_row : List ℕ → List ℕ → ℕ → ℕ → List ℕ → List ℕ
out_row targets starts count k live = joined_all live count (targets_of targets starts k) (blank width)

unfoldable pub in_row : List ℕ → List ℕ → ℕ → List ℕ → List ℕ
in_row gens kills k out = or_row (less_row out (row kills (k * width) width)) (row gens (k * width) width)

unfoldable pub visited : List ℕ → List ℕ → List ℕ → List ℕ → ℕ → ℕ → List ℕ → List ℕ
visited gens kills targets starts count k live =
    put (put live (out_base + k * width) (out_row targets starts count k live)) (k * width) (in_row gens kills k (out_row targets starts count k live))

-- Is one of the two rows of block k not the same in both buffers?
unfoldable pub differs : ℕ → List ℕ → List ℕ → Bool
differs k before live =
    not (same_row (row before (out_base + k * width) width) (row live (out_base + k * width) width))
    || not (same_row (row before (k * width) width) (row live (k * width) width))

-- `moved` says of each block whether its last turn changed it. Is one of these targets such a block?
unfoldable pub leads : List Bool → ℕ → List ℕ → Bool
leads moved count = list_any (λ t. ltb t count && get_or moved t false)

-- Turns go from the last block to the first, pass after pass; in this pass the blocks from k on have had theirs.
-- A target of block j changed in its last turn, and that was not before the last turn of block j.
pub record Overtaken (targets starts : List ℕ) (count : ℕ) (moved : List Bool) (k j : ℕ) : Type 0 where
  pub target : ℕ
  pub among : Memᴰ target (targets_of targets starts j)
  pub there : target < count
  pub changed : get_or moved target false ≡ true
  pub waiting : j < k → (target ≤ j) ⊎ (k ≤ target)
  pub passed : k ≤ j → (k ≤ target) × (target ≤ j)

-- Why visits may be left out. Of each block: its first turn is still to come, or a visit would change nothing, or a target changed that it has not looked at since.
pub record Tracked (gens kills targets starts : List ℕ) (count : ℕ) (first : Bool) (live : List ℕ) (moved : List Bool) (k : ℕ) : Type 0 where
  pub len : length moved ≡ 128
  pub each : (j : ℕ) → j < count → ((first ≡ true) × (j < k)) ⊎ ((visited gens kills targets starts count j live ≡ live) ⊎ Overtaken targets starts count moved k j)
