-- What check accepted, as facts of the program and of the unit words that it answers: `accepted`. The later crates cite this law alone.
-- Assumes nothing.
use mathlib.Core.Path.{◌≡◌, refl, sym, ap, ◌∙◌}
use mathlib.Core.Logic.{inl, inr}
use mathlib.Core.Bool.{Bool, true, false}
use mathlib.Core.List.{List, [], ◌∷◌}
use Prim.Native.Nat.{ℕ, suc, ◌≤◌, ◌<◌}
use native.Mathlib.Omega.{arith}
use lib.Dec.{ltb, eqb}
use lib.ListN.{length, length-append, length-map}
use borrow.Author.Tests.{ltb-false, eqb-true}
use Rattle.fields.specs.Pick.{pick, All}
use Rattle.fields.specs.Edition.{Edition}
use Rattle.records.specs.declared.Refusal.TheVariants.{Form, Limit}
use Rattle.fields.specs.Record.{Storage, Rec, header, storage, function, abi, block, instruction, operand, terminator, target, end, header_fits, storage_fits}
use Rattle.records.specs.Step.{State, start, Turn, next, refused, in_abi, at_end}
use Rattle.records.specs.Check.{scan, units, refusal, closed, check, records}
use Rattle.records.specs.Program.{Function, Program, gather, program}
use Rattle.records.proofs.Scan.{Walk, done, more, walk, Cut, walk_cut}
use Rattle.records.proofs.Took.{stepped}
use Rattle.records.proofs.Range.{Distinct, Sound, start_sound, walk_range}
use Rattle.records.proofs.Contents.{FunctionIn, gather_in}
use Rattle.records.proofs.Stages.{Calm, start_calm, Passed, passed, calm_on}
use Rattle.records.proofs.Pigeons.{distinct_most}
use Rattle.records.proofs.Shape.{numbers_after, lists, ids_of, numbers_of, BlocksFit, walk_ids, walk_numbers, walk_blocks}
use Rattle.records.proofs.Formed.{FunctionFormed, walk_formed}

-- the reader came to the end
pub record ReadOut (ed : Edition) (f us : List ℕ) : Type 0 where
  pub final : State
  pub scans : scan ed start 0 f ≡ next final
  pub ends : final.stage ≡ at_end
  pub are : us ≡ final.units
  pub short : length f ≤ ed.bytes

pub read_out : (ed : Edition) (f us : List ℕ) → check ed f ≡ units us → ReadOut ed f us
unfolding check pick
read_out ed f us e = go (ltb ed.bytes (length f)) refl (scan ed start 0 f) refl e
  where
    go : (t : Bool) → ltb ed.bytes (length f) ≡ t → (tn : Turn) → scan ed start 0 f ≡ tn → pick t (refusal (Limit ed.bytes)) (closed (length f) tn) ≡ units us → ReadOut ed f us
    go true p tn q r = let z : ◌≡◌ {A = ℕ} 0 1 = cc in absurd (omega arith)
    go false p (refused x) q r = let z : ◌≡◌ {A = ℕ} 0 1 = cc in absurd (omega arith)
    go false p (next s) q r = at_end_lem (eqb s.stage at_end) refl r
      where
        at_end_lem : (t : Bool) → eqb s.stage at_end ≡ t → pick t (units s.units) (refusal (Form (length f))) ≡ units us → ReadOut ed f us
        at_end_lem true h k = record { final = s; scans = q; ends = eqb-true s.stage at_end h; are = cc; short = ltb-false ed.bytes (length f) p }
        at_end_lem false h k = let z : ◌≡◌ {A = ℕ} 0 1 = cc in absurd (omega arith)

-- A file has a function at least: from the first function record on, the reader's list of them is not empty.
abbrev Begun : State → Type 0
Begun s = in_abi ≤ s.stage → 0 < length s.functions

module _ (ed : Edition) where
  begun_on : (s : State) (x : Rec) (s' : State) → Passed ed x s.stage s'.stage → s'.functions ≡ numbers_after x s.functions → Begun s → Begun s'
  begun_on s (header a f w) s' p e b l = absurd (omega (arith, p.1))
  begun_on s (storage x) s' p e b l = absurd (omega (arith, p.1))
  begun_on s (function n) s' p e b l = rw e (omega (arith, length-append s.functions (n ∷ [])))
  begun_on s (abi x) s' p e b l = rw e (b (omega (arith, p.0)))
  begun_on s (block id) s' (inl p, q) e b l = rw e (b (omega arith))
  begun_on s (block id) s' (inr p, q) e b l = rw e (b (omega arith))
  begun_on s (instruction op sub fn) s' p e b l = rw e (b (omega (arith, p.0)))
  begun_on s (operand x) s' p e b l = rw e (b (omega (arith, p.0.0)))
  begun_on s (terminator op sub fn) s' p e b l = rw e (b (omega (arith, p.0)))
  begun_on s (target id) s' p e b l = rw e (b (omega (arith, p.0.0)))
  begun_on s end s' (inl p, q) e b l = rw e (b (omega arith))
  begun_on s end s' (inr p, q) e b l = rw e (b (omega arith))

  walk_begun : {s s' : State} {at : ℕ} {t : List ℕ} → Walk ed s at t s' → Calm s → Begun s → Begun s'
  walk_begun done c b = b
  walk_begun {s} {at = at} (more {s' = s'} len x r q w) c b =
      let k = (stepped ed s at x s' q).taken in
      walk_begun w (calm_on ed s at x s' c k) (begun_on s x s' (passed ed s at x s' c k) (lists ed s at x s' k).numbers b)

-- The facts, over the program p and the unit words us.
pub record Good (ed : Edition) (p : Program) (us : List ℕ) : Type 0 where
  pub header : header_fits p.application p.first p.work ≡ true
  pub storages : All (λ x. storage_fits ed x ≡ true) p.storages
  pub ids_once : Distinct (ids_of p.storages)
  pub storages_most : length p.storages ≤ suc ed.last_id
  pub functions_some : 0 < length p.functions
  pub functions_most : length p.functions ≤ ed.functions
  pub numbers_once : Distinct (numbers_of p.functions)
  pub blocks : All (BlocksFit ed) p.functions
  pub formed : All FunctionFormed p.functions
  pub contents : All (FunctionIn ed (ids_of p.storages) us) p.functions
  pub units_most : length us ≤ ed.units
  pub units_once : Distinct us

good : (ed : Edition) (f us : List ℕ) (s : State) → Walk ed start 0 f s → s.stage ≡ at_end → us ≡ s.units → Good ed (program ed f) us
unfolding program
good ed f us s w last are =
    let m = walk_formed ed w start_calm (omega arith) last in
    record {
      header = m.head refl;
      storages = m.storages;
      ids_once = rw ids k.ids_once;
      storages_most =
          omega (
            arith,
            length-map (gather (records ed f)).storages (λ (x : Storage). x.id),
            ap length ids,
            distinct_most (suc ed.last_id) s.ids k.ids_once (λ x h. omega (arith, k.ids_low x h)),
          );
      functions_some = omega (arith, count, walk_begun ed w start_calm (λ l. absurd (omega arith)) (omega arith));
      functions_most = omega (arith, count, k.functions_most);
      numbers_once = rw numbers k.functions_once;
      blocks = walk_blocks ed w (start_sound ed);
      formed = m.functions;
      contents = rw (ids, are) (gather_in ed s.ids s.units (records ed f) (walk_range ed w).range).functions;
      units_most = rw are k.units_most;
      units_once = rw are k.units_once;
    }
  where
    k : Sound ed s
    k = (walk_range ed w).sound (start_sound ed)

    ids : ids_of (gather (records ed f)).storages ≡ s.ids
    ids = walk_ids ed w start_calm

    numbers : numbers_of (gather (records ed f)).functions ≡ s.functions
    numbers = walk_numbers ed w start_calm

    count : length (gather (records ed f)).functions ≡ length s.functions
    count = sym (length-map (gather (records ed f)).functions (λ (x : Function). x.number)) ∙ ap length numbers

-- THE LAW. An accepted file's program is good, its records are the whole of it, and it is no longer than it may be.
pub accepted : (ed : Edition) (f us : List ℕ) → check ed f ≡ units us → Good ed (program ed f) us × Cut ed f × (length f ≤ ed.bytes)
accepted ed f us e =
    let o = read_out ed f us e in
    let w = walk ed start o.final 0 f o.scans in
    (good ed f us o.final w o.ends o.are, walk_cut ed w, o.short)
