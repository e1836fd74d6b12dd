-- Laws on the program's lists. `walk_ids`, `walk_numbers`: its storages and functions are those that the reader lists, in file order.
-- `walk_blocks`: each function's blocks are within the limit, and no id stands twice. Assumes nothing.
use mathlib.Core.Path.{◌≡◌, refl, sym, ap, ◌∙◌}
use mathlib.Core.Logic.{◌⊎◌, inl, inr}
use mathlib.Core.Bool.{true}
use mathlib.Core.List.{List, [], ◌∷◌, ◌++◌, map, append_assoc, append-nil}
use Prim.Native.Nat.{ℕ, ◌+◌, ◌≤◌}
use native.Mathlib.Omega.{arith}
use lib.Dec.{eqb}
use lib.ListN.{length, drop, length-append}
use Rattle.fields.specs.Edition.{Edition}
use Rattle.fields.specs.Record.{Storage, Rec, header, storage, function, abi, block, instruction, operand, terminator, target, end}
use Rattle.records.specs.Step.{State, with_header, with_storage, with_function, with_block, with_opened, with_number, with_unit, in_abi, at_end}
use Rattle.records.specs.Program.{Block, Function, Rest, empty, put_step, put}
use Rattle.fields.specs.Pick.{All}
use Rattle.records.proofs.Scan.{Walk, done, more}
use Rattle.records.proofs.Took.{Named, Took, stepped, unnamed, given_to}
use Rattle.records.proofs.Range.{Distinct, Sound, kept}
use Rattle.records.proofs.Contents.{rest, rest_nil, rest_whole}
use Rattle.records.proofs.Stages.{Calm, Passed, passed, calm_on, nothing_after}

abbrev pub ids_of : List Storage → List ℕ
ids_of xs = map (λ x. x.id) xs

abbrev pub numbers_of : List Function → List ℕ
numbers_of xs = map (λ x. x.number) xs

abbrev pub block_ids_of : List Block → List ℕ
block_ids_of xs = map (λ x. x.id) xs

-- the reader's lists after a record
abbrev pub ids_after : Rec → List ℕ → List ℕ
ids_after (header a f w) l = l
ids_after (storage x) l = l ++ (x.id ∷ [])
ids_after (function n) l = l
ids_after (abi x) l = l
ids_after (block id) l = l
ids_after (instruction op sub fn) l = l
ids_after (operand x) l = l
ids_after (terminator op sub fn) l = l
ids_after (target id) l = l
ids_after end l = l

abbrev pub numbers_after : Rec → List ℕ → List ℕ
numbers_after (header a f w) l = l
numbers_after (storage x) l = l
numbers_after (function n) l = l ++ (n ∷ [])
numbers_after (abi x) l = l
numbers_after (block id) l = l
numbers_after (instruction op sub fn) l = l
numbers_after (operand x) l = l
numbers_after (terminator op sub fn) l = l
numbers_after (target id) l = l
numbers_after end l = l

abbrev pub blocks_after : Rec → List ℕ → List ℕ
blocks_after (header a f w) l = l
blocks_after (storage x) l = l
blocks_after (function n) l = []
blocks_after (abi x) l = l
blocks_after (block id) l = l ++ (id ∷ [])
blocks_after (instruction op sub fn) l = l
blocks_after (operand x) l = l
blocks_after (terminator op sub fn) l = l
blocks_after (target id) l = l
blocks_after end l = l

pub record Lists (x : Rec) (s s' : State) : Type 0 where
  pub ids : s'.ids ≡ ids_after x s.ids
  pub numbers : s'.functions ≡ numbers_after x s.functions
  pub blocks : s'.blocks ≡ blocks_after x s.blocks

module _ (ed : Edition) where
  pub lists : (s : State) (at : ℕ) (x : Rec) (s' : State) → Took ed s at x s' → Lists x s s'
  unfolding with_header with_storage with_function with_block with_opened with_number with_unit
  lists s at (header a f w) s' h = rw h.2 (record { ids = refl; numbers = refl; blocks = refl })
  lists s at (storage x) s' h = rw h.3 (record { ids = refl; numbers = refl; blocks = refl })
  lists s at (function n) s' h = rw h.3 (record { ids = refl; numbers = refl; blocks = refl })
  lists s at (abi x) s' h = rw h.2.is (record { ids = refl; numbers = refl; blocks = refl })
  lists s at (block id) s' h = rw h.3 (record { ids = refl; numbers = refl; blocks = refl })
  lists s at (instruction op sub fn) s' h = rw h.2 (record { ids = refl; numbers = refl; blocks = refl })
  lists s at (operand x) s' h = go h.2
    where
      go : ((eqb x.shape 0 ≡ true) × (s' ≡ unnamed (given_to x s))) ⊎ Named ed x.shape x.storage x.offset (given_to x s) s' → Lists (operand x) s s'
      go (inl m) = rw m.1 (record { ids = refl; numbers = refl; blocks = refl })
      go (inr m) = rw m.is (record { ids = refl; numbers = refl; blocks = refl })
  lists s at (terminator op sub fn) s' h = rw h.2 (record { ids = refl; numbers = refl; blocks = refl })
  lists s at (target id) s' h = rw h.1 (record { ids = refl; numbers = refl; blocks = refl })
  lists s at end s' h = rw h.1 (record { ids = refl; numbers = refl; blocks = refl })

  -- Storages ---------------------------------------------------------------------------------------------------------------------------------

  -- from the first function on no storage comes
  late_step : (x : Rec) (g g' : ℕ) → Passed ed x g g' → in_abi ≤ g → (l : List ℕ) → (in_abi ≤ g') × (ids_after x l ≡ l)
  late_step (header a f w) g g' p e l = absurd (omega (arith, p.0))
  late_step (storage x) g g' p e l = absurd (omega (arith, p.0))
  late_step (function n) g g' p e l = (omega (arith, p.1), refl)
  late_step (abi x) g g' p e l = (omega (arith, p.1), refl)
  late_step (block id) g g' p e l = (omega (arith, p.1), refl)
  late_step (instruction op sub fn) g g' p e l = (omega (arith, p.1), refl)
  late_step (operand x) g g' p e l = (omega (arith, p.1), refl)
  late_step (terminator op sub fn) g g' p e l = (omega (arith, p.1), refl)
  late_step (target id) g g' p e l = (omega (arith, p.1), refl)
  late_step end g g' p e l = (omega (arith, p.1), refl)

  late : {s s' : State} {at : ℕ} {t : List ℕ} → Walk ed s at t s' → Calm s → in_abi ≤ s.stage → s'.ids ≡ s.ids
  late done c e = refl
  late {s} {at = at} (more {s' = s'} len x r q w) c e =
      let k = (stepped ed s at x s' q).taken in
      let m = late_step x s.stage s'.stage (passed ed s at x s' c k) e s.ids in
      late w (calm_on ed s at x s' c k) m.0 ∙ ((lists s at x s' k).ids ∙ m.1)

  -- what the records of one kind do to the ids that are still to come
  ids_put : (s s' s'' : State) (at : ℕ) (x : Rec) (r : Rest) → Passed ed x s.stage s'.stage → s'.ids ≡ ids_after x s.ids → s'.ids ++ ids_of r.storages ≡ s''.ids
      → (in_abi ≤ s'.stage → s''.ids ≡ s'.ids) → s.ids ++ ids_of (put x r).storages ≡ s''.ids
  unfolding put put_step
  ids_put s s' s'' at (header a f w) r p e q j = ap (λ l. l ++ ids_of r.storages) (sym e) ∙ q
  ids_put s s' s'' at (storage x) r p e q j = sym (append_assoc s.ids (x.id ∷ []) (ids_of r.storages)) ∙ (ap (λ l. l ++ ids_of r.storages) (sym e) ∙ q)
  ids_put s s' s'' at (function n) r p e q j = append-nil s.ids ∙ (sym e ∙ sym (j (omega (arith, p.1))))
  ids_put s s' s'' at (abi x) r p e q j = append-nil s.ids ∙ (sym e ∙ sym (j (omega (arith, p.1))))
  ids_put s s' s'' at (block id) r p e q j = append-nil s.ids ∙ (sym e ∙ sym (j (omega (arith, p.1))))
  ids_put s s' s'' at (instruction op sub fn) r p e q j = append-nil s.ids ∙ (sym e ∙ sym (j (omega (arith, p.1))))
  ids_put s s' s'' at (operand x) r p e q j = append-nil s.ids ∙ (sym e ∙ sym (j (omega (arith, p.1, p.0.0))))
  ids_put s s' s'' at (terminator op sub fn) r p e q j = append-nil s.ids ∙ (sym e ∙ sym (j (omega (arith, p.1))))
  ids_put s s' s'' at (target id) r p e q j = append-nil s.ids ∙ (sym e ∙ sym (j (omega (arith, p.1, p.0.0))))
  ids_put s s' s'' at end r p e q j = append-nil s.ids ∙ (sym e ∙ sym (j (omega (arith, p.1))))

  pub walk_ids : {s s' : State} {at : ℕ} {t : List ℕ} → Walk ed s at t s' → Calm s → s.ids ++ ids_of (rest ed t).storages ≡ s'.ids
  walk_ids {s} done c = rw (rest_nil ed) (append-nil s.ids)
  walk_ids {s} {s' = s''} {at} {t} (more {s' = s'} len x r q w) c =
      let k = (stepped ed s at x s' q).taken in
      rw (rest_whole ed t len x r)
      (ids_put s s' s'' at x (rest ed (drop len t)) (passed ed s at x s' c k) (lists s at x s' k).ids (walk_ids w (calm_on ed s at x s' c k)) (λ l. late w (calm_on ed s at x s' c k) l))

  -- Functions --------------------------------------------------------------------------------------------------------------------------------

  numbers_put : (s s' s'' : State) (x : Rec) (r : Rest) → Passed ed x s.stage s'.stage → s'.functions ≡ numbers_after x s.functions
      → s'.functions ++ numbers_of r.functions ≡ s''.functions → (s'.stage ≡ at_end → s'' ≡ s') → s.functions ++ numbers_of (put x r).functions ≡ s''.functions
  unfolding put put_step
  numbers_put s s' s'' (header a f w) r p e q j = ap (λ l. l ++ numbers_of r.functions) (sym e) ∙ q
  numbers_put s s' s'' (storage x) r p e q j = ap (λ l. l ++ numbers_of r.functions) (sym e) ∙ q
  numbers_put s s' s'' (function n) r p e q j =
      sym (append_assoc s.functions (n ∷ []) (numbers_of r.functions)) ∙ (ap (λ l. l ++ numbers_of r.functions) (sym e) ∙ q)
  numbers_put s s' s'' (abi x) r p e q j = ap (λ l. l ++ numbers_of r.functions) (sym e) ∙ q
  numbers_put s s' s'' (block id) r p e q j = ap (λ l. l ++ numbers_of r.functions) (sym e) ∙ q
  numbers_put s s' s'' (instruction op sub fn) r p e q j = ap (λ l. l ++ numbers_of r.functions) (sym e) ∙ q
  numbers_put s s' s'' (operand x) r p e q j = ap (λ l. l ++ numbers_of r.functions) (sym e) ∙ q
  numbers_put s s' s'' (terminator op sub fn) r p e q j = ap (λ l. l ++ numbers_of r.functions) (sym e) ∙ q
  numbers_put s s' s'' (target id) r p e q j = ap (λ l. l ++ numbers_of r.functions) (sym e) ∙ q
  numbers_put s s' s'' end r p e q j = append-nil s.functions ∙ (sym e ∙ ap (λ (z : State). z.functions) (sym (j p.1)))

  pub walk_numbers : {s s' : State} {at : ℕ} {t : List ℕ} → Walk ed s at t s' → Calm s → s.functions ++ numbers_of (rest ed t).functions ≡ s'.functions
  walk_numbers {s} done c = rw (rest_nil ed) (append-nil s.functions)
  walk_numbers {s} {s' = s''} {at} {t} (more {s' = s'} len x r q w) c =
      let k = (stepped ed s at x s' q).taken in
      let d = calm_on ed s at x s' c k in
      rw (rest_whole ed t len x r)
      (numbers_put s s' s'' x (rest ed (drop len t)) (passed ed s at x s' c k) (lists s at x s' k).numbers (walk_numbers w d) (λ l. (nothing_after ed w d l).1))

  -- Blocks -------------------------------------------------------------------------------------------------------------------------------------

  pub record BlocksFit (f : Function) : Type 0 where
    pub most : length f.blocks ≤ ed.blocks
    pub once : Distinct (block_ids_of f.blocks)

  -- this function's blocks so far with those that are to come, and the functions that are to come
  record Blocks (l : List ℕ) (r : Rest) : Type 0 where
    most : length l + length r.blocks ≤ ed.blocks
    once : Distinct (l ++ block_ids_of r.blocks)
    each : All BlocksFit r.functions

  -- the blocks and functions of one rest stand in the other
  blocks_same : (l l' : List ℕ) (r r' : Rest) → l' ≡ l → r'.blocks ≡ r.blocks → r'.functions ≡ r.functions → Blocks l' r → Blocks l r'
  blocks_same l l' r r' e p q k = record { most = rw (p, ← e) k.most; once = rw (p, ← e) k.once; each = rw q k.each }

  -- no block is to come
  blocks_none : (s : State) (r : Rest) → Sound ed s → r.blocks ≡ [] → All BlocksFit r.functions → Blocks s.blocks r
  blocks_none s r k p q = record { most = rw p (omega (arith, k.blocks_most)); once = rw (p, append-nil s.blocks) k.blocks_once; each = q }

  blocks_put : (s s' : State) (x : Rec) (r : Rest) → Sound ed s → s'.blocks ≡ blocks_after x s.blocks → Blocks s'.blocks r → Blocks s.blocks (put x r)
  unfolding put put_step
  blocks_put s s' (header a f w) r b e k = blocks_none s _ b refl k.each
  blocks_put s s' (storage x) r b e k = blocks_none s _ b refl k.each
  blocks_put s s' (function n) r b e k = let m = rw e at k in blocks_none s _ b refl (record { most = omega (arith, m.most); once = m.once }, k.each)
  blocks_put s s' (abi x) r b e k = blocks_same _ _ _ _ e refl refl k
  blocks_put s s' (block id) r b e k =
      let m = rw e at k in
      record {
        most = omega (arith, m.most, length-append s.blocks (id ∷ []));
        once = rw (append_assoc s.blocks (id ∷ []) (block_ids_of r.blocks)) at m.once;
        each = k.each;
      }
  blocks_put s s' (instruction op sub fn) r b e k = blocks_same _ _ _ _ e refl refl k
  blocks_put s s' (operand x) r b e k = blocks_same _ _ _ _ e refl refl k
  blocks_put s s' (terminator op sub fn) r b e k = blocks_same _ _ _ _ e refl refl k
  blocks_put s s' (target id) r b e k = blocks_same _ _ _ _ e refl refl k
  blocks_put s s' end r b e k = blocks_none s _ b refl tt

  walk_fit : {s s' : State} {at : ℕ} {t : List ℕ} → Walk ed s at t s' → Sound ed s → Blocks s.blocks (rest ed t)
  walk_fit {s} done b = rw (rest_nil ed) (blocks_none s empty b refl tt)
  walk_fit {s} {at = at} {t} (more {s' = s'} len x r q w) b =
      let k = (stepped ed s at x s' q).taken in
      rw (rest_whole ed t len x r) (blocks_put s s' x (rest ed (drop len t)) b (lists s at x s' k).blocks (walk_fit w ((kept ed s at x s' k).sound b)))

  pub walk_blocks : {s s' : State} {at : ℕ} {t : List ℕ} → Walk ed s at t s' → Sound ed s → All BlocksFit (rest ed t).functions
  walk_blocks w b = (walk_fit w b).each
