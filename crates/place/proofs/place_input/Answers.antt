-- `place::place_input` writes the text of the bytes that it read, or a front of it. They are all that the reader had, or the first 16,385
-- of them. After a failed read it writes nothing.
use Rattle.std.proofs.Common.{◌≡◌, ℕ, zero, suc, ◌+◌, ◌-◌, ◌<◌, ◌≤◌, List, [], ◌++◌, arith, length, take, sym, ap, ◌∙◌, subst, append-nil, length-take-le, rules, refl}
use Rattle.std.proofs.Math.Seq.{take-append-add}
use Rattle.std.proofs.lemmas.Option.{IfSome_then}
use Rattle.std.proofs.lemmas.Result.{on_err_weaker, on_ok_weaker}
use Rattle.std.specs.Option.{IfSome}
use Rattle.std.specs.declared.option.Option.{Option}
use Rattle.std.specs.declared.option.Option.TheVariants.{None, Some}
use Rattle.std.specs.Io.KnownBytes.{Appends, Consumes, IsAtEnd}
use Rattle.report.specs.Printed.{AppendsFront, printed}
use Rattle.place.proofs.place_input.Goals as goal

-- Nothing stands behind a front that is shorter than k, so as far as k the front is all.
nothing_more : (gap : ℕ) (rest : List ℕ) → (0 < gap → rest ≡ []) → take gap rest ≡ []
nothing_more zero rest none = refl
nothing_more (suc gap) rest none = ap (take (suc gap)) (none (omega arith))

front_is : (front rest : List ℕ) (k : ℕ) → length front ≤ k → (length front < k → rest ≡ []) → front ≡ take k (front ++ rest)
front_is front rest k fits none =
    let gap : length front + (k - length front) ≡ k = omega arith in
    let cut : take (k - length front) rest ≡ [] = nothing_more (k - length front) rest (λ h. none (omega arith)) in
    sym (
    ap (λ n. take n (front ++ rest)) (sym gap)
    ∙ take-append-add front rest (k - length front)
    ∙ ap (λ l. front ++ l) cut
    ∙ append-nil front)

-- What was put into a buffer of k bytes is what the reader had, as far as k bytes.
whole : (old new : Option (List ℕ)) (buf : List ℕ) (n k : ℕ) → length buf ≡ k → n ≤ k
    → Consumes old new (take n buf) → (n < length buf → IsAtEnd new) → IfSome old (λ bytes. take n buf ≡ take k bytes)
whole None new buf n k size fits taken ends = tt
whole (Some xs) None buf n k size fits taken ends = absurd taken
whole (Some xs) (Some ys) buf n k size fits taken ends =
    let long : length (take n buf) ≡ n = length-take-le n buf (omega arith) in
    front_is (take n buf) ys k (omega arith) (λ h. ends (omega arith)) ∙ ap (take k) (sym taken)

-- What is said of the text of a list is said of that of an equal one.
retold : (P : List ℕ → Type 0) (old : Option (List ℕ)) (file : List ℕ) (k : ℕ)
    → IfSome old (λ bytes. file ≡ take k bytes) → P (printed file) → IfSome old (λ bytes. P (printed (take k bytes)))
retold P old file k same told = IfSome_then old same (λ bytes e. subst (λ f. P (printed f)) e told)

pub returns-clause-whole : goal.returns-clause-whole
returns-clause-whole g c =
    let l = c.in_ok-length in
    let same = whole _ _ _ l.length 16385 (search rules) (search rules) l.ensures.bytes l.ensures.ends in
    on_ok_weaker c.place.result (retold (Appends _ _) _ _ 16385 same) c.place.ensures.whole

pub returns-clause-cut : goal.returns-clause-cut
returns-clause-cut g c =
    let l = c.in_ok-length in
    let same = whole _ _ _ l.length 16385 (search rules) (search rules) l.ensures.bytes l.ensures.ends in
    on_err_weaker c.place.result (retold (AppendsFront _ _) _ _ 16385 same) c.place.ensures.cut
