-- A loop that writes a row S over the words of W from `to` on, one word a turn. After i turns the first i words of S stand there and all else is
-- as it was, so a word is read as it was until its turn, one turn more adds one word, and after the last the row is written.
use mathlib.Core.Path.{◌≡◌, refl, ap, ◌∙◌}
use mathlib.Core.Logic.{◌⊎◌, ⊎_elim}
use mathlib.Core.List.{List}
use Prim.Native.Nat.{ℕ, ◌+◌, ◌≤◌, ◌<◌, zero-le}
use native.Mathlib.Numerals.{add-one}
use native.Mathlib.Omega.{arith}
use lib.ListN.{length, get_or, set, length-set}
use lib.Seq.{paste, paste-zero, paste-suc}
use Rattle.rows.specs.Row.{put}
use Rattle.rows.proofs.Rows.{get_or_paste_before, get_or_paste_after, paste_put}

pub record Filled (W : List ℕ) (to : ℕ) (S words : List ℕ) (i : ℕ) : Type 0 where
  pub is : words ≡ paste W to S i
  pub fits : to + length S ≤ length W
  pub some : i ≤ length S
  pub len : length words ≡ length W

module _ {W : List ℕ} {to : ℕ} {S : List ℕ} where
  pub filled_none : to + length S ≤ length W → Filled W to S W 0
  filled_none h = record { is = paste-zero W to S; fits = h; some = zero-le; len = refl }

  module _ {words : List ℕ} {i : ℕ} (f : Filled W to S words i) where
    -- A word that is not written yet, or never, is as it was.
    pub filled_read : (j : ℕ) → (j < to) ⊎ (to + i ≤ j) → get_or words j 0 ≡ get_or W j 0
    filled_read j h =
        ap (λ (l : List ℕ). get_or l j 0) f.is
        ∙ ⊎_elim (get_or_paste_before W to S i (omega arith) f.some j) (get_or_paste_after W to S i (omega arith) f.some j) h

    pub filled_more : (v : ℕ) → i < length S → v ≡ get_or S i 0 → Filled W to S (set words (to + i) v) (i + 1)
    filled_more v h e = record {
      is = rw (f.is, e, add-one) (paste-suc W to S i 0 (omega arith) h);
      fits = f.fits;
      some = omega arith;
      len = length-set words (to + i) v ∙ f.len;
    }

    pub filled_all : (n : ℕ) → length S ≡ n → n ≤ i → words ≡ put W to S
    filled_all n e h = let k : length S ≡ i = omega arith in f.is ∙ paste_put W to S i k
