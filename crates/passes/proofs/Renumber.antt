-- Units do not meet: what the passes do to one unit depends on that unit's reads and writes alone. So the pass count depends only on which such
-- views of the function there are, and not on how units are numbered (Req 14). Assumes nothing.
use mathlib.Core.Path.{◌≡◌, refl, sym, ap, ap₂, ◌∙◌}
use mathlib.Core.Bool.{Bool, true, false, not, ◌&&◌, ◌||◌}
use mathlib.Core.List.{List, [], ◌∷◌, map}
use Prim.Native.Nat.{ℕ, zero, suc}
use lib.Dec.{ltb, eqb}
use lib.ListN.{length, length-map, get_or-map}
use Rattle.fields.specs.Pick.{pick}
use Rattle.passes.specs.Live.{Row, Step, Block, State, no_block, block, put, union, backwards, visit, sweep, pass, after, Settled}
use Rattle.passes.proofs.Laws.{state_ext, settled_unique}

-- The function as unit u sees it: of each step, whether it reads u and whether it writes u.
abbrev pub only_step : ℕ → Step → Step
only_step u s = record { reads = λ _. s.reads u; writes = λ _. s.writes u }

abbrev pub only_block : ℕ → Block → Block
only_block u b = record { steps = map (only_step u) b.steps; targets = b.targets }

abbrev pub only : ℕ → List Block → List Block
only u f = map (only_block u) f

module _ (u w : ℕ) where
  union_only : (n : ℕ) (x y : ℕ → Row) → ((j : ℕ) → x j w ≡ y j u) → (ts : List ℕ) → union n x ts w ≡ union n y ts u
  unfolding union
  union_only n x y e [] = refl
  union_only n x y e (t ∷ ts) = ap₂ (λ a b. (ltb t n && a) || b) (e t) (union_only n x y e ts)

  backwards_only : (ss : List Step) (o o' : Row) → o w ≡ o' u → backwards (map (only_step u) ss) o w ≡ backwards ss o' u
  unfolding backwards
  backwards_only [] o o' e = e
  backwards_only (s ∷ ss) o o' e = ap (λ a. (a && not (s.writes u)) || s.reads u) (backwards_only ss o o' e)

  put_only : (k : ℕ) (r r' : Row) (x y : ℕ → Row) → r w ≡ r' u → ((j : ℕ) → x j w ≡ y j u) → (j : ℕ) → put k r x j w ≡ put k r' y j u
  unfolding put pick
  put_only k r r' x y e h j = go (eqb j k)
    where
      go : (b : Bool) → pick b r (x j) w ≡ pick b r' (y j) u
      go true = e
      go false = h j

  -- s at w is t at u
  abbrev Same : State → State → Type 0
  Same s t = ((j : ℕ) → s.ins j w ≡ t.ins j u) × ((j : ℕ) → s.outs j w ≡ t.outs j u)

  visit_only : (f : List Block) (k : ℕ) (s t : State) → Same s t → Same (visit (only u f) k s) (visit f k t)
  unfolding visit
  visit_only f k s t h = rw (length-map f (only_block u), get_or-map (only_block u) f k no_block) (put_only k _ _ s.ins t.ins (backwards_only (block f k).steps _ _ o) h.0, put_only k _ _ s.outs t.outs o h.1)
    where
      o : union (length f) s.ins (block f k).targets w ≡ union (length f) t.ins (block f k).targets u
      o = union_only (length f) s.ins t.ins h.0 (block f k).targets

  sweep_only : (f : List Block) (n : ℕ) (s t : State) → Same s t → Same (sweep (only u f) n s) (sweep f n t)
  unfolding sweep
  sweep_only f zero s t h = h
  sweep_only f (suc n) s t h = sweep_only f n _ _ (visit_only f n s t h)

  after_only : (f : List Block) (n : ℕ) → Same (after (only u f) n) (after f n)
  unfolding after pass
  after_only f zero = (λ j. refl, λ j. refl)
  after_only f (suc n) = rw (length-map f (only_block u)) (sweep_only f (length f) _ _ (after_only f n))

-- Where u sees f as v sees g, the passes do the same to both.
pub alike : (f g : List Block) (u v : ℕ) → only u f ≡ only v g → (n j : ℕ) → ((after f n).ins j u ≡ (after g n).ins j v) × ((after f n).outs j u ≡ (after g n).outs j v)
alike f g u v e n j = (sym ((after_only u 0 f n).0 j) ∙ (ap (λ (h : List Block). (after h n).ins j 0) e ∙ (after_only v 0 g n).0 j), sym ((after_only u 0 f n).1 j) ∙ (ap (λ (h : List Block). (after h n).outs j 0) e ∙ (after_only v 0 g n).1 j))

-- Each unit of g sees what some unit of f sees.
abbrev pub Covers : List Block → List Block → Type 0
Covers f g = (v : ℕ) → (u : ℕ) × (only u f ≡ only v g)

covers_still : (f g : List Block) → Covers f g → (n : ℕ) → after f (suc n) ≡ after f n → after g (suc n) ≡ after g n
covers_still f g c n e = state_ext _ _ (λ j v. sym (at (suc n) j v).0 ∙ ((λ i. (e i).ins j (c v).0) ∙ (at n j v).0)) (λ j v. sym (at (suc n) j v).1 ∙ ((λ i. (e i).outs j (c v).0) ∙ (at n j v).1))
  where
    at : (m j v : ℕ) → ((after f m).ins j (c v).0 ≡ (after g m).ins j v) × ((after f m).outs j (c v).0 ≡ (after g m).outs j v)
    at m j v = alike f g (c v).0 v (c v).1 m j

-- Two functions whose units see the same have the same pass count.
pub same_count : (f g : List Block) → Covers f g → Covers g f → (c d : ℕ) (s t : State) → Settled f c s → Settled g d t → c ≡ d
same_count f g a b c d s t p q = (settled_unique g c d (after g p.changed) t moved q).0
  where
    moved : Settled g c (after g p.changed)
    moved = record { changed = p.changed; counts = p.counts; state = refl; first = λ k l e. p.first k l (covers_still g f b k e); last = covers_still f g a p.changed p.last }
