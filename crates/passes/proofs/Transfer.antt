-- A block's steps as one step. Going backwards over the steps keeps what they read before writing it, and drops what they write; so the whole block is one
-- set that it adds and one that it takes away, whatever is live after it. Assumes nothing.
use mathlib.Core.Path.{◌≡◌, sym, ap}
use mathlib.Core.Bool.{Bool, true, false, not, ◌&&◌, ◌||◌, and-true, and-false, or-false, or_assoc, or_comm}
use mathlib.Core.List.{List, [], ◌∷◌}
use Prim.Native.Nat.{ℕ}
use Rattle.passes.specs.Live.{Row, Step, backwards}

-- What the steps read before they write it, and what they write.
unfoldable pub gen : List Step → Row
gen ss = backwards ss (λ u. false)

unfoldable pub kill : List Step → Row
kill [] u = false
kill (s ∷ ss) u = s.writes u || kill ss u

merge : (g o k w r : Bool) → ((g || (o && not k)) && not w) || r ≡ ((g && not w) || r) || (o && not (w || k))
merge g o k true r = simp (and-false, or-false)
merge g o k false r = simp (and-true, or_assoc) (ap (λ x. g || x) (or_comm (o && not k) r))

pub one_step_lem : (ss : List Step) (out : Row) (u : ℕ) → backwards ss out u ≡ gen ss u || (out u && not (kill ss u))
unfolding backwards gen kill
one_step_lem [] out u = sym (and-true (out u))
one_step_lem (s ∷ ss) out u = rw (one_step_lem ss out u) (merge (gen ss u) (out u) (kill ss u) (s.writes u) (s.reads u))
