-- How the code's numbers and lent words stand for the reader's state. Contracts of the functions inside this crate cite it; no public contract does.
use Rattle.std.specs.Prelude.{◌≡◌, true, List, [], ◌∷◌, map, ℕ, zero, suc, ◌+◌, ◌*◌, ◌/◌, ◌%◌, ◌≤◌, ◌<◌, length, get_or, take, Result, Ok, Err}
use Rattle.rows.specs.Row.{pack}
use Rattle.rows.specs.Links.{Linked}
use Rattle.fields.specs.Pick.{has, times}
use Rattle.fields.specs.Fields.{missing}
use Rattle.fields.specs.Record.{Rec}
use Rattle.records.specs.Step.{Opened, State, Turn, next, refused, last_field}
use Rattle.records.specs.Check.{Answer, units, refusal}
use Rattle.records.specs.Index.{listed, entered}
use Rattle.records.specs.Outcome.{laid}
use Rattle.fields.specs.Table.{row_word}
use Rattle.records.specs.declared.pending.Pending.{Pending}
use Rattle.records.specs.declared.reader.Stage.{Stage}
use Rattle.records.specs.declared.reader.Stage.TheVariants.{AtStart, InStorages, InAbi, InBlock, AfterBlock, AtEnd}
use Rattle.records.specs.declared.reader.Reader.{Reader}
use Rattle.records.specs.declared.Refusal.{Refusal}
use Rattle.records.specs.declared.notes.Notes.{Notes}

-- The fields given do not fall: the last one first, each at least the one before it.
abbrev pub Rising : List ℕ → Type 0
Rising [] = Unit {0}
Rising (x ∷ xs) = (last_field xs ≤ x) × Rising xs

-- How many operands the last field has.
unfoldable pub seen : List ℕ → ℕ
seen given = times (last_field given) given

-- The numbers that the code keeps of a state.
abbrev pub pending_of : Opened → Pending
pending_of o =
    record {
      place = o.place;
      row = row_word o.row;
      field = last_field o.given;
      seen = seen o.given;
      lacks = missing o.row 0 o.given;
      least = o.least;
      most = o.most;
      targets = o.targets;
    }

-- The stage of a number; no state has one above 5.
abbrev pub stage_of : ℕ → Stage
stage_of zero = AtStart
stage_of (suc zero) = InStorages
stage_of (suc (suc zero)) = InAbi
stage_of (suc (suc (suc zero))) = InBlock
stage_of (suc (suc (suc (suc zero)))) = AfterBlock
stage_of (suc (suc (suc (suc (suc n))))) = AtEnd

abbrev pub reader_of : State → Reader
reader_of s =
    record {
      stage = stage_of s.stage;
      functions = length s.functions;
      blocks = length s.blocks;
      block = s.block_at;
      units = length s.units;
      named = length s.numbers;
      now = pending_of s.now;
    }

-- What holds of what is open at every state of the reader.
pub record Kept (s : State) : Type 0 where
  pub rising : Rising s.now.given
  pub seen_most : seen s.now.given ≤ 16
  pub short : length s.now.row ≤ 6

-- A unit's bucket, which is the key of its chain.
unfoldable pub bucket_of : ℕ → ℕ
bucket_of word = (word % 256 + word / 65536 % 256 * 37) % 256

-- The chains end, whatever the units are.
pub record Low (heads nexts : List ℕ) : Type 0 where
  pub many_heads : length heads ≡ 256
  pub many_nexts : length nexts ≡ 512
  pub head_low : (b : ℕ) → get_or heads b 0 ≤ 512
  pub next_low : (i : ℕ) → get_or nexts i 0 ≤ i

-- Units are found by chains: no unit stands twice, and units are linked by their buckets.
pub record Chained (us heads nexts : List ℕ) : Type 0 where
  pub low : Low heads nexts
  pub once : (i j : ℕ) → i < length us → j < length us → get_or us i 0 ≡ get_or us j 0 → i ≡ j
  pub linked : Linked (map bucket_of us) heads nexts (length us)

-- The notes hold the lists of a state: a row of ids, a table of functions, this function's blocks, the units with their chains, and the unit number of
-- each record that names one.
pub record Holds (s : State) (d : Notes) : Type 0 where
  pub id_row : d.ids ≡ pack 4 (λ n. has n s.ids)
  pub id_low : (n : ℕ) → has n s.ids ≡ true → n < 256
  pub many_entries : length d.table.now ≡ 512
  pub function_list : (n : ℕ) → n < 256 → listed d.table.now n ≡ has n s.functions
  pub many_blocks : length d.blocks ≡ 128
  pub block_list : take (length s.blocks) d.blocks ≡ s.blocks
  pub units_most : length s.units ≤ 512
  pub unit_words : d.words.now ≡ laid 512 s.units []
  pub chains : Chained s.units d.heads d.nexts
  pub number_list : take (length s.numbers) d.numbers.now ≡ s.numbers

-- The same, and the record at a place is entered in the table of functions.
pub record Enters (s : State) (x : Rec) (at k : ℕ) (before : List ℕ) (d : Notes) : Type 0 where
  pub holds : Holds s d
  pub table_is : d.table.now ≡ entered x at k before

-- The words that some notes are lent are those that others are lent.
pub record Lent (d d' : Notes) : Type 0 where
  pub words : d'.words.ghost_name ≡ d.words.ghost_name
  pub table : d'.table.ghost_name ≡ d.table.ghost_name
  pub numbers : d'.numbers.ghost_name ≡ d.numbers.ghost_name
  pub many_numbers : length d'.numbers.now ≡ length d.numbers.now

-- The same, and the table of functions is as it was.
pub record Keeps (d d' : Notes) : Type 0 where
  pub lent : Lent d d'
  pub table_is : d'.table.now ≡ d.table.now

-- What the code relies on where it notes a unit, whatever the file: the lengths of the lent words, and counts that are within them.
pub record Ready (c : Reader) (d : Notes) : Type 0 where
  pub many_words : length d.words.now ≡ 512
  pub low : Low d.heads d.nexts
  pub units_most : c.units ≤ 512
  pub room : c.named < length d.numbers.now

-- And at any record.
pub record Sane (c : Reader) (at : ℕ) (d : Notes) : Type 0 where
  pub early : at ≤ 16384
  pub many_entries : length d.table.now ≡ 512
  pub blocks_most : c.blocks ≤ 128
  pub seen_most : c.now.seen ≤ 16
  pub lacks_most : c.now.lacks ≤ 6
  pub named_most : c.named ≤ 2341
  pub ready : Ready c d

-- What a turn comes to in code: the numbers of the next state, with what then holds of the notes; or the refusal.
abbrev pub Comes : Turn → Result Reader Refusal → (State → Type 0) → Type 0
Comes (next s) r P = (r ≡ Ok (reader_of s)) × P s
Comes (refused x) r P = r ≡ Err x

-- What reading the whole file comes to: the units with their numbers and the table of functions, or the refusal.
abbrev pub Walked : Answer → Result ℕ Refusal → List ℕ → List ℕ → List ℕ → List ℕ → List ℕ → Type 0
Walked (units us) r words found ns table ts = (r ≡ Ok (length us)) × (words ≡ laid 512 us []) × (take (length ns) found ≡ ns) × (table ≡ ts)
Walked (refusal x) r words found ns table ts = r ≡ Err x
