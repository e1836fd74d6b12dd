-- Document 01, "Liveness and interference", last three points: which storages interfere, which are copied into one another, and the passes of all functions.
use Rattle.std.specs.Prelude.{Bool, not, ◌&&◌, ◌||◌, List, [], ◌∷◌, ◌++◌, map, ℕ, ◌+◌, min, max, eqb}
use Rattle.fields.specs.Pick.{pick, has}
use Rattle.fields.specs.Edition.{Edition}
use Rattle.fields.specs.Record.{Storage}
use Rattle.records.specs.Program.{Function, Program}
use Rattle.units.specs.Sets.{select, any, each}
use Rattle.units.specs.Uses.{is_instruction, storage_of, storages_of}
use Rattle.liveness.specs.Flow.{Use, Flow, flows}
use Rattle.liveness.specs.Settle.{before, settled_by, liveness}

-- A list of pairs as a relation: the pair (i, j) stands in it.
unfoldable pub has_pair : List (ℕ × ℕ) → ℕ → ℕ → Bool
has_pair l i j = any (λ (p : ℕ × ℕ). eqb p.0 i && eqb p.1 j) l

-- Storage i is the storage of one of these units.
abbrev pub in_storage : Edition → List ℕ → ℕ → Bool
in_storage e us i = has i (storages_of e us)

-- Instructions 0 and 1 copy a byte and a bit.
abbrev pub is_copy : Use → Bool
is_copy s = is_instruction 0 s.step || is_instruction 1 s.step

-- A copy spares the units of the storage that it copies from: what it writes does not meet them.
unfoldable pub spared : Edition → Use → ℕ → Bool
spared e s v = is_copy s && in_storage e s.reads (storage_of e v)

-- Where a step writes unit w while unit v is wanted, their storages meet, unless they are one storage or v is spared.
abbrev pub clash : Edition → Use → ℕ → ℕ → Bool
clash e s w v = not (eqb (storage_of e w) (storage_of e v)) && not (spared e s v)

-- The pairs of a step, the written storage first. Wanted is what the step reads and what is live after it. A write counts whether or not it is read later.
unfoldable pub clashes_at : Edition → Use → List ℕ → List (ℕ × ℕ)
clashes_at e s live = each (λ w. map (λ v. (storage_of e w, storage_of e v)) (select (clash e s w) (s.reads ++ live))) s.writes

-- The pairs of a block's steps, of which `out` is live at the end.
unfoldable pub clashes_in : Edition → List Use → List ℕ → List (ℕ × ℕ)
clashes_in e [] out = []
clashes_in e (s ∷ ss) out = clashes_at e s (before ss out) ++ clashes_in e ss out

-- The pairs of blocks, given with their live-outs; of a function's blocks; of a program.
unfoldable pub clashes_from : Edition → List Flow → List (List ℕ) → List (ℕ × ℕ)
clashes_from e [] outs = []
clashes_from e (b ∷ bs) [] = []
clashes_from e (b ∷ bs) (o ∷ os) = clashes_in e b.uses o ++ clashes_from e bs os

unfoldable pub clashes_of : Edition → List Flow → List (ℕ × ℕ)
clashes_of e fs = clashes_from e fs (settled_by fs).sets.outs

unfoldable pub clashes : Edition → Program → List (ℕ × ℕ)
clashes e p = each (λ f. clashes_of e (flows e p f)) p.functions

-- The steps of a function; of a program.
unfoldable pub uses_of : Edition → Program → Function → List Use
uses_of e p f = each (λ (b : Flow). b.uses) (flows e p f)

unfoldable pub all_uses : Edition → Program → List Use
all_uses e p = each (uses_of e p) p.functions

-- Some AddressOf, instruction 16, wherever it stands, takes the address of storage i. The object is what it reads.
unfoldable pub addressed : Edition → Program → ℕ → Bool
addressed e p i = any (λ (s : Use). is_instruction 16 s.step && in_storage e s.reads i) (all_uses e p)

-- Storages i and j are declared with one owner.
unfoldable pub same_owner : Program → ℕ → ℕ → Bool
same_owner p i j = any (λ (s : Storage). eqb s.id i && any (λ (t : Storage). eqb t.id j && eqb s.owner t.owner) p.storages) p.storages

-- A storage whose address is taken meets every other storage of its owner.
unfoldable pub held : Edition → Program → ℕ → ℕ → Bool
held e p i j = same_owner p i j && addressed e p i

-- The graph: no storage with itself, and both ways.
unfoldable pub interferes : Edition → Program → ℕ → ℕ → Bool
interferes e p i j = not (eqb i j) && ((has_pair (clashes e p) i j || has_pair (clashes e p) j i) || (held e p i j || held e p j i))

-- A copy from a storage leaves the pair of the two ids, the smaller one first, also where they are one id. A copy of an immediate leaves none.
unfoldable pub copies_at : Edition → Use → List (ℕ × ℕ)
copies_at e s = pick (is_copy s) (each (λ w. map (λ v. (min (storage_of e w) (storage_of e v), max (storage_of e w) (storage_of e v))) s.reads) s.writes) []

unfoldable pub copies : Edition → Program → List (ℕ × ℕ)
copies e p = each (copies_at e) (all_uses e p)

unfoldable pub copied : Edition → Program → ℕ → ℕ → Bool
copied e p i j = has_pair (copies e p) i j

-- The passes of all functions together.
unfoldable pub sum : List ℕ → ℕ
sum [] = 0
sum (n ∷ l) = n + sum l

unfoldable pub passes : Edition → Program → ℕ
passes e p = sum (map (λ f. (liveness e p f).passes) p.functions)
