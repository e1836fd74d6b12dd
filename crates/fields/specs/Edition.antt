-- Document 01, "The program file" (limits) and "Refusal numbers" (buffers): the numbers that an edition of the file sets. Today there is one edition.
use Rattle.std.specs.Prelude.{ℕ}

pub record Edition : Type 0 where
  pub header : ℕ  -- the kind byte that opens a header
  pub last_id : ℕ  -- the greatest storage id
  pub bytes : ℕ  -- the most bytes of a file, functions, blocks in a function, and units
  pub functions : ℕ
  pub blocks : ℕ
  pub units : ℕ
  pub shape : ℕ  -- the weights of shape and storage in a unit word
  pub storage : ℕ
  pub unit_words : ℕ  -- the words in a row of units and in a row of storages
  pub storage_words : ℕ
  pub live_out : ℕ  -- the word where live-out starts

-- Edition one.
abbrev pub one : Edition
one =
    record {
      header = 0;
      last_id = 255;
      bytes = 16384;
      functions = 64;
      blocks = 128;
      units = 512;
      shape = 16777216;
      storage = 65536;
      unit_words = 8;
      storage_words = 4;
      live_out = 1024;
    }
