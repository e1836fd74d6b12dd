-- Texts that follow one another on the page.
-- Two texts, one behind the other, are one text, and a text may be exchanged for an equal one; so the parts of a refusal's line are that line.
use mathlib.Core.List.{List, ◌++◌, append_assoc}
use mathlib.Core.Path.{◌≡◌, ap, subst, ◌∙◌}
use Prim.Native.Nat.{ℕ}
use Rattle.lines.specs.Text.{Follows, space, newline, refused_word, decimal, refusal_text}
use Rattle.records.specs.Refusal.{number_of, value_of}
use Rattle.records.specs.declared.Refusal.{Refusal}

joined : {before first second after last : List ℕ} → Follows before first after → Follows after second last → Follows before (first ++ second) last
joined {before} {first} {second} p q =
    record { same = q.same ∙ ap (λ (t : List ℕ). t ++ second) p.same ∙ append_assoc before first second }

same_text : {before text other after : List ℕ} → text ≡ other → Follows before text after → Follows before other after
same_text {before} {after = after} e f = subst (λ (t : List ℕ). Follows before t after) e f

-- The five parts of a refusal's line, the last one first.
pub refusal_parts : {before a b c d last : List ℕ} (r : Refusal) (n v : ℕ)
    → n ≡ number_of r → v ≡ value_of r
    → Follows d newline last → Follows c (decimal v) d → Follows b space c → Follows a (decimal n) b → Follows before refused_word a
    → Follows before (refusal_text r) last
unfolding refusal_text
refusal_parts r n v p q end value gap number word =
    joined (joined (joined (joined word (same_text (ap decimal p) number)) gap) (same_text (ap decimal q) value)) end
