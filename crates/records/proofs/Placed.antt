-- LAW. A step that is found at a place stands in the program: what holds of every step of every function holds of it.
-- Assumes nothing.
use mathlib.Core.Path.{◌≡◌, sym, ap, ◌∙◌}
use mathlib.Core.Bool.{Bool, true, false}
use mathlib.Core.List.{List, []}
use Prim.Native.Nat.{ℕ, ◌+◌}
use native.Mathlib.Omega.{arith}
use lib.Dec.{eqb}
use lib.ListN.{length, take, drop}
use lib.Seq.{length-take-le}
use Rattle.fields.specs.Pick.{pick, All}
use Rattle.fields.specs.Edition.{Edition}
use Rattle.fields.specs.Record.{Rec, header, storage, function, abi, block, instruction, operand, terminator, target, end, whole, read, record_at}
use Rattle.records.specs.Step.{State, start, at_end}
use Rattle.records.specs.Check.{units, check, pieces, records}
use Rattle.records.specs.Program.{Step, Block, Function, Rest, put_step, put, program}
use Rattle.records.specs.Place.{step, no_function, within, starts_with, find_in, step_at}
use Rattle.fields.proofs.Front.{read_whole, read_take}
use Rattle.records.proofs.Scan.{Walk, done, more, walk, pieces_nil, pieces_whole}
use Rattle.records.proofs.Took.{stepped}
use Rattle.records.proofs.Contents.{rest, rest_whole}
use Rattle.records.proofs.Stages.{Calm, start_calm, Passed, passed, calm_on, nothing_after}
use Rattle.records.proofs.Formed.{Formed, Tame, tame_on, walk_formed}
use Rattle.records.proofs.Accepted.{read_out}

module _ (P : Function → Step → Type 0) where
  -- of every step of a function
  abbrev pub Every : Function → Type 0
  Every f = All (λ (b : Block). All (P f) b.steps) f.blocks

  -- of every step that is to come, in this function and in the later ones
  record Coming (f : Function) (r : Rest) : Type 0 where
    steps : All (P f) r.steps
    blocks : All (λ (b : Block). All (P f) b.steps) r.blocks
    functions : All Every r.functions

  starts : (f fn : Function) (st : Step) (x : Rec) (r : Rest) → Coming f (put x r) → starts_with f x r ≡ step fn st → P fn st
  unfolding put put_step
  starts f fn st (header a b w) r c e = let z : ◌≡◌ {A = ℕ} 0 1 = cc in absurd (omega arith)
  starts f fn st (storage x) r c e = let z : ◌≡◌ {A = ℕ} 0 1 = cc in absurd (omega arith)
  starts f fn st (function n) r c e = let z : ◌≡◌ {A = ℕ} 0 1 = cc in absurd (omega arith)
  starts f fn st (abi x) r c e = let z : ◌≡◌ {A = ℕ} 0 1 = cc in absurd (omega arith)
  starts f fn st (block id) r c e = let z : ◌≡◌ {A = ℕ} 0 1 = cc in absurd (omega arith)
  starts f fn st (instruction op sub m) r c e = here e c.steps.0
    where
      here : {x : Step} → step f x ≡ step fn st → P f x → P fn st
      here {x} q h = let a : fn ≡ f = cc in let b : st ≡ x = cc in rw (a, b) h
  starts f fn st (operand x) r c e = let z : ◌≡◌ {A = ℕ} 0 1 = cc in absurd (omega arith)
  starts f fn st (terminator op sub m) r c e = here e c.steps.0
    where
      here : {x : Step} → step f x ≡ step fn st → P f x → P fn st
      here {x} q h = let a : fn ≡ f = cc in let b : st ≡ x = cc in rw (a, b) h
  starts f fn st (target id) r c e = let z : ◌≡◌ {A = ℕ} 0 1 = cc in absurd (omega arith)
  starts f fn st end r c e = let z : ◌≡◌ {A = ℕ} 0 1 = cc in absurd (omega arith)

  module _ (ed : Edition) where
    coming_on : (f : Function) (s : State) (x : Rec) (s' : State) (r : Rest) → Passed ed x s.stage s'.stage → Formed ed s' r → (s'.stage ≡ at_end → ⊥) → Coming f (put x r) → Coming (within f x r) r
    unfolding put put_step
    coming_on f s (header a b w) s' r p k n c =
        record { steps = rw (k.outside (λ e. absurd (omega (arith, p.1)))) tt; blocks = rw (k.early (omega (arith, p.1))) tt; functions = c.functions }
    coming_on f s (storage x) s' r p k n c =
        record { steps = rw (k.outside (λ e. absurd (omega (arith, p.1)))) tt; blocks = rw (k.early (omega (arith, p.1))) tt; functions = c.functions }
    coming_on f s (function m) s' r p k n c = record { steps = rw (k.outside (λ e. absurd (omega (arith, p.1)))) tt; blocks = c.functions.0; functions = c.functions.1 }
    coming_on f s (abi x) s' r p k n c = record { steps = rw (k.outside (λ e. absurd (omega (arith, p.1)))) tt; blocks = c.blocks; functions = c.functions }
    coming_on f s (block id) s' r p k n c = record { steps = c.blocks.0; blocks = c.blocks.1; functions = c.functions }
    coming_on f s (instruction op sub m) s' r p k n c = record { steps = c.steps.1; blocks = c.blocks; functions = c.functions }
    coming_on f s (operand x) s' r p k n c = record { steps = c.steps; blocks = c.blocks; functions = c.functions }
    coming_on f s (terminator op sub m) s' r p k n c = record { steps = c.steps.1; blocks = c.blocks; functions = c.functions }
    coming_on f s (target id) s' r p k n c = record { steps = c.steps; blocks = c.blocks; functions = c.functions }
    coming_on f s end s' r p k n c = absurd (n p.1)

    -- one piece at a time
    find_whole : (t : List ℕ) (len : ℕ) (x : Rec) (q at : ℕ) (f : Function) → read ed t ≡ whole len x
        → find_in ed q at f (pieces ed t) ≡ pick (eqb at q) (starts_with f x (rest ed (drop len t))) (find_in ed q (at + len) (within f x (rest ed (drop len t))) (pieces ed (drop len t)))
    unfolding find_in records
    find_whole t len x q at f e = rw (pieces_whole ed t len x e, is, n)
      where
        is : record_at ed (take len t) ≡ x
        is = sym (read_whole ed (take len t) len x (read_take ed t len x e)).is

        n : length (take len t) ≡ len
        n = length-take-le len t (read_whole ed t len x e).fits

    found_walk : (q : ℕ) (fn : Function) (st : Step) {s s' : State} {at : ℕ} {t : List ℕ} → Walk ed s at t s' → Calm s → Tame s → s'.stage ≡ at_end
        → (f : Function) → Coming f (rest ed t) → find_in ed q at f (pieces ed t) ≡ step fn st → P fn st
    unfolding find_in pick
    found_walk q fn st done c d e f k h = let z : ◌≡◌ {A = ℕ} 0 1 = cc (pieces_nil ed) in absurd (omega arith)
    found_walk q fn st {s} {s' = s''} {at} {t} (more {s' = s'} len x r g w) c d e f k h = go (eqb at q) (sym (find_whole t len x q at f r) ∙ h) (found_walk q fn st w calm tame e)
      where
        u : Rest
        u = rest ed (drop len t)

        calm : Calm s'
        calm = calm_on ed s at x s' c (stepped ed s at x s' g).taken

        tame : Tame s'
        tame = tame_on ed s at x s' d (stepped ed s at x s' g).taken

        coming : Coming f (put x u)
        coming = rw (rest_whole ed t len x r) at k

        go : (b : Bool) → pick b (starts_with f x u) (find_in ed q (at + len) (within f x u) (pieces ed (drop len t))) ≡ step fn st
            → ((f : Function) → Coming f u → find_in ed q (at + len) f (pieces ed (drop len t)) ≡ step fn st → P fn st) → P fn st
        go true p ih = starts f fn st x u coming p
        go false p ih = ih (within f x u) (coming_on f s x s' u (passed ed s at x s' c (stepped ed s at x s' g).taken) (walk_formed ed w calm tame e) more_comes coming) p
          where
            more_comes : s'.stage ≡ at_end → ⊥
            more_comes a =
                let o : find_in ed q (at + len) (within f x u) [] ≡ step fn st = sym (ap (find_in ed q (at + len) (within f x u)) (ap (pieces ed) (nothing_after ed w calm a).0 ∙ pieces_nil ed)) ∙ p in
                let z : ◌≡◌ {A = ℕ} 0 1 = cc in
                omega arith

-- what holds of every step of every function of an accepted file holds of the step at a place
pub found_in : (P : Function → Step → Type 0) (ed : Edition) (f us : List ℕ) (asked : ℕ) (fn : Function) (st : Step) → check ed f ≡ units us
    → All (Every P) (program ed f).functions → step_at ed f asked ≡ step fn st → P fn st
unfolding step_at program
found_in P ed f us asked fn st e k h =
    let o = read_out ed f us e in
    let w = walk ed start o.final 0 f o.scans in
    let m = walk_formed ed w start_calm (omega arith) o.ends in
    found_walk P ed asked fn st w start_calm (omega arith) o.ends no_function
    (record { steps = rw (m.outside (λ q. absurd (omega arith))) tt; blocks = rw (m.early (omega arith)) tt; functions = k }) h
