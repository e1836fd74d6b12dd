-- `input::read_full` ends, since each turn but the last fills more of the buffer, and what stands in it is what the reader lost.
-- Assumes nothing.
use Rattle.std.proofs.Common.{◌≡◌, ℕ, ◌+◌, ◌-◌, ◌≤◌, List, ◌++◌, rules, length, take, sym, ap, ◌∙◌, subst, length-take-le}
use Rattle.std.proofs.lemmas.List.{take-append-le}
use Rattle.std.proofs.Math.Seq.{take-append-add}
use Rattle.std.specs.Io.KnownBytes.{Consumes}
use Rattle.std.proofs.KnownBytes.{Consumes-trans}
use borrow.Rule.Slice.PartMut.{put_mid, post_of}
use Rattle.input.proofs.read_full.Goals as goal

-- The front of a buffer after a read into the part from `a` on: what stood there, and the bytes that were read.
filled : (a k n : ℕ) (xs ys : List ℕ) → a ≤ length xs → n ≤ length ys → take a xs ++ take n ys ≡ take (a + n) (put_mid a k xs ys)
filled a k n xs ys within fits =
    let more = rw (length-take-le a xs within) at (take-append-add (take a xs) (ys ++ post_of a k xs) n) in
    sym (more ∙ ap (λ l. take a xs ++ l) (take-append-le n ys (post_of a k xs) fits))

pub loop-done-preserved : goal.loop-done-preserved
loop-done-preserved g c =
    let l = c.loop-done in
    let both = Consumes-trans _ _ _ _ _ l.invariant.taken c.in_ok-n.ensures.bytes.0 in
    record {
      same_room = search rules;
      within = search rules;
      taken = subst (Consumes _ _) (filled l.done (length l.buf - l.done) c.in_ok-n.n l.buf c.read.new.buf l.invariant.within c.in_ok-n.ensures.bound.0) both;
    }
