-- LAW 2. What the checker accepts is in range. `Sound`: the reader's lists are within the limits and hold nothing twice. `InRange`: a record's
-- storage is declared and its unit word is numbered. `walk_range`: both, along the whole of a file. Assumes nothing.
use mathlib.Core.Path.{◌≡◌, refl, sym, ◌∙◌}
use mathlib.Core.Logic.{◌⊎◌, inl, inr}
use mathlib.Core.Bool.{Bool, true, false, true≢false}
use mathlib.Core.List.{List, [], ◌∷◌, ◌++◌}
use Prim.Native.Nat.{ℕ, suc, ◌≤◌}
use native.Mathlib.Omega.{arith}
use lib.Dec.{ltb, eqb}
use lib.ListN.{length, length-append}
use borrow.Author.Tests.{ltb-true, leb-true, eqb-true, eqb-false, eq-eqb, ne_eqb}
use Rattle.fields.specs.Pick.{pick, ◌or◌, has, All}
use Rattle.fields.specs.Edition.{Edition}
use Rattle.fields.specs.Record.{Storage, Operand, Rec, header, storage, function, abi, block, instruction, operand, terminator, target, end, storage_fits, word_of}
use Rattle.records.specs.Units.{noted}
use Rattle.records.specs.Step.{Opened, State, start, with_header, with_storage, with_function, with_block, with_opened, with_number, with_unit}
use Rattle.records.specs.Check.{records}
use Rattle.fields.proofs.Front.{and_both, or_cases}
use Rattle.records.proofs.Scan.{Walk, done, more, records_nil, records_whole}
use Rattle.records.proofs.Took.{Named, Took, stepped, unnamed, given_to}

-- Lists of numbers -------------------------------------------------------------------------------------------------------------------------

pub has_more : (x : ℕ) (ys zs : List ℕ) → has x ys ≡ true → has x (ys ++ zs) ≡ true
unfolding has pick
has_more x [] zs e = absurd (true≢false (sym e))
has_more x (y ∷ ys) zs e = go (eqb x y) e (has_more x ys zs)
  where
    go : (t : Bool) → (t or has x ys) ≡ true → (has x ys ≡ true → has x (ys ++ zs) ≡ true) → (t or has x (ys ++ zs)) ≡ true
    go true e ih = refl
    go false e ih = ih e

pub has_last : (x : ℕ) (ys : List ℕ) → has x (ys ++ (x ∷ [])) ≡ true
unfolding has pick
has_last x [] = rw (eq-eqb x x refl)
has_last x (y ∷ ys) = go (eqb x y) (has_last x ys)
  where
    go : (t : Bool) → has x (ys ++ (x ∷ [])) ≡ true → (t or has x (ys ++ (x ∷ []))) ≡ true
    go true h = refl
    go false h = h

pub has_cases : (x y : ℕ) (ys : List ℕ) → has x (ys ++ (y ∷ [])) ≡ true → (has x ys ≡ true) ⊎ (x ≡ y)
unfolding has pick
has_cases x y [] e = go (eqb x y) refl e
  where
    go : (t : Bool) → eqb x y ≡ t → (t or false) ≡ true → (false ≡ true) ⊎ (x ≡ y)
    go true h q = inr (eqb-true x y h)
    go false h q = inl q
has_cases x y (z ∷ ys) e = go (eqb x z) e (has_cases x y ys)
  where
    go : (t : Bool) → (t or has x (ys ++ (y ∷ []))) ≡ true → (has x (ys ++ (y ∷ [])) ≡ true → (has x ys ≡ true) ⊎ (x ≡ y)) → ((t or has x ys) ≡ true) ⊎ (x ≡ y)
    go true q ih = inl refl
    go false q ih = ih q

-- no number twice
abbrev pub Distinct : List ℕ → Type 0
Distinct [] = Unit {0}
Distinct (x ∷ xs) = (has x xs ≡ false) × Distinct xs

has_neither : (x y : ℕ) (ys zs : List ℕ) → has y (x ∷ ys) ≡ false → (eqb y x ≡ false) × (has y ys ≡ false)
unfolding has pick
has_neither x y ys zs e = go (eqb y x) e
  where
    go : (t : Bool) → (t or has y ys) ≡ false → (t ≡ false) × (has y ys ≡ false)
    go true e = absurd (true≢false e)
    go false e = (refl, e)

has_not : (x y : ℕ) (ys : List ℕ) → has x ys ≡ false → eqb y x ≡ false → has x (ys ++ (y ∷ [])) ≡ false
unfolding has pick
has_not x y [] e n = rw (ne_eqb x y (λ q. eqb-false y x n (sym q)))
has_not x y (z ∷ ys) e n = go (eqb x z) e (has_not x y ys)
  where
    go : (t : Bool) → (t or has x ys) ≡ false → (has x ys ≡ false → eqb y x ≡ false → has x (ys ++ (y ∷ [])) ≡ false) → (t or has x (ys ++ (y ∷ []))) ≡ false
    go true e ih = absurd (true≢false e)
    go false e ih = ih e n

pub distinct_last : (x : ℕ) (ys : List ℕ) → Distinct ys → has x ys ≡ false → Distinct (ys ++ (x ∷ []))
unfolding has
distinct_last x [] d h = (refl, tt)
distinct_last x (y ∷ ys) d h = let k = has_neither y x ys [] h in (has_not y x ys d.0 k.0, distinct_last x ys d.1 k.1)

length_last : (x : ℕ) (ys : List ℕ) → length (ys ++ (x ∷ [])) ≡ suc (length ys)
length_last x ys = omega (arith, length-append ys (x ∷ []))

-- a word that is noted: it is there, all others stay, none is there twice, and there are so many at most
module _ (word : ℕ) (us : List ℕ) where
  noted_by : (P : List ℕ → Type 0) → (has word us ≡ true → P us) → (has word us ≡ false → P (us ++ (word ∷ []))) → P (noted word us)
  unfolding noted pick
  noted_by P p q = go (has word us) refl
    where
      go : (t : Bool) → has word us ≡ t → P (pick t us (us ++ (word ∷ [])))
      go true e = p e
      go false e = q e

  pub noted_has : has word (noted word us) ≡ true
  noted_has = noted_by (λ v. has word v ≡ true) (λ e. e) (λ e. has_last word us)

  pub noted_keeps : (x : ℕ) → has x us ≡ true → has x (noted word us) ≡ true
  noted_keeps x h = noted_by (λ v. has x v ≡ true) (λ e. h) (λ e. has_more x us (word ∷ []) h)

  pub noted_distinct : Distinct us → Distinct (noted word us)
  noted_distinct d = noted_by Distinct (λ e. d) (λ e. distinct_last word us d e)

  pub noted_most : (n : ℕ) → (has word us or ltb (length us) n) ≡ true → length us ≤ n → length (noted word us) ≤ n
  noted_most n r l = noted_by (λ v. length v ≤ n) (λ e. l) (λ e. room e (or_cases _ _ r))
    where
      room : has word us ≡ false → (has word us ≡ true) ⊎ (ltb (length us) n ≡ true) → length (us ++ (word ∷ [])) ≤ n
      room e (inl h) = absurd (true≢false (sym h ∙ e))
      room e (inr h) = omega (arith, length_last word us, ltb-true (length us) n h)

-- The reader's lists -----------------------------------------------------------------------------------------------------------------------

pub record Sound (ed : Edition) (s : State) : Type 0 where
  pub units_most : length s.units ≤ ed.units
  pub functions_most : length s.functions ≤ ed.functions
  pub blocks_most : length s.blocks ≤ ed.blocks
  pub units_once : Distinct s.units
  pub ids_once : Distinct s.ids
  pub functions_once : Distinct s.functions
  pub blocks_once : Distinct s.blocks
  pub ids_low : (x : ℕ) → has x s.ids ≡ true → x ≤ ed.last_id

-- what was declared or numbered stays so
pub record Grown (s s' : State) : Type 0 where
  pub ids : (x : ℕ) → has x s.ids ≡ true → has x s'.ids ≡ true
  pub units : (x : ℕ) → has x s.units ≡ true → has x s'.units ≡ true

pub grown_same : (s : State) → Grown s s
grown_same s = record { ids = λ x h. h; units = λ x h. h }

grown_lists : (s s' : State) → s'.ids ≡ s.ids → s'.units ≡ s.units → Grown s s'
grown_lists s s' a b = record { ids = λ x h. rw a h; units = λ x h. rw b h }

pub grown_on : {s s' s'' : State} → Grown s s' → Grown s' s'' → Grown s s''
grown_on p q = record { ids = λ x h. q.ids x (p.ids x h); units = λ x h. q.units x (p.units x h) }

-- a storage that is declared, and its unit's word
pub record Numbered (ed : Edition) (ids us : List ℕ) (shape id offset : ℕ) : Type 0 where
  pub declared : has id ids ≡ true
  pub numbered : has (word_of ed shape id offset) us ≡ true

abbrev pub InRange : Edition → List ℕ → List ℕ → Rec → Type 0
InRange ed ids us (header a f w) = Unit {0}
InRange ed ids us (storage x) = has x.id ids ≡ true
InRange ed ids us (function n) = Unit {0}
InRange ed ids us (abi x) = Numbered ed ids us x.shape x.storage x.offset
InRange ed ids us (block id) = Unit {0}
InRange ed ids us (instruction op sub fn) = Unit {0}
InRange ed ids us (operand x) = (eqb x.shape 0 ≡ true) ⊎ Numbered ed ids us x.shape x.storage x.offset
InRange ed ids us (terminator op sub fn) = Unit {0}
InRange ed ids us (target id) = Unit {0}
InRange ed ids us end = Unit {0}

numbered_on : {ed : Edition} {s s' : State} {shape id offset : ℕ} → Grown s s' → Numbered ed s.ids s.units shape id offset → Numbered ed s'.ids s'.units shape id offset
numbered_on g n = record { declared = g.ids _ n.declared; numbered = g.units _ n.numbered }

pub in_range_on : (ed : Edition) (s s' : State) → Grown s s' → (x : Rec) → InRange ed s.ids s.units x → InRange ed s'.ids s'.units x
in_range_on ed s s' g (header a f w) h = tt
in_range_on ed s s' g (storage x) h = g.ids _ h
in_range_on ed s s' g (function n) h = tt
in_range_on ed s s' g (abi x) h = numbered_on g h
in_range_on ed s s' g (block id) h = tt
in_range_on ed s s' g (instruction op sub fn) h = tt
in_range_on ed s s' g (operand x) (inl h) = inl h
in_range_on ed s s' g (operand x) (inr h) = inr (numbered_on g h)
in_range_on ed s s' g (terminator op sub fn) h = tt
in_range_on ed s s' g (target id) h = tt
in_range_on ed s s' g end h = tt

-- One record: all three.
pub record Kept (ed : Edition) (s : State) (x : Rec) (s' : State) : Type 0 where
  pub grown : Grown s s'
  pub range : InRange ed s'.ids s'.units x
  pub sound : Sound ed s → Sound ed s'

module _ (ed : Edition) where
  -- the unit of a record
  named_grown : {shape id offset : ℕ} {s s' : State} → Named ed shape id offset s s' → Grown s s'
  unfolding with_number with_unit
  named_grown {shape} {id} {offset} {s} {s'} n = rw n.is (record { ids = λ x h. h; units = λ x h. noted_keeps (word_of ed shape id offset) s.units x h })

  named_numbered : {shape id offset : ℕ} {s s' : State} → Named ed shape id offset s s' → Numbered ed s'.ids s'.units shape id offset
  unfolding with_number with_unit
  named_numbered {shape} {id} {offset} {s} {s'} n = rw n.is (record { declared = n.declared; numbered = noted_has (word_of ed shape id offset) s.units })

  named_sound : {shape id offset : ℕ} {s s' : State} → Named ed shape id offset s s' → Sound ed s → Sound ed s'
  unfolding with_number with_unit
  named_sound {shape} {id} {offset} {s} {s'} n k =
      rw n.is
      (record {
        units_most = noted_most (word_of ed shape id offset) s.units ed.units n.room k.units_most;
        functions_most = k.functions_most;
        blocks_most = k.blocks_most;
        units_once = noted_distinct (word_of ed shape id offset) s.units k.units_once;
        ids_once = k.ids_once;
        functions_once = k.functions_once;
        blocks_once = k.blocks_once;
        ids_low = k.ids_low;
      })

  -- a state whose lists are another's
  same_lists : (s s' : State) → s'.ids ≡ s.ids → s'.functions ≡ s.functions → s'.blocks ≡ s.blocks → s'.units ≡ s.units → Sound ed s → Sound ed s'
  same_lists s s' a b c d k =
      record {
        units_most = rw d k.units_most;
        functions_most = rw b k.functions_most;
        blocks_most = rw c k.blocks_most;
        units_once = rw d k.units_once;
        ids_once = rw a k.ids_once;
        functions_once = rw b k.functions_once;
        blocks_once = rw c k.blocks_once;
        ids_low = rw a k.ids_low;
      }

  storage_sound : (x : Storage) (s : State) → storage_fits ed x ≡ true → has x.id s.ids ≡ false → Sound ed s → Sound ed (with_storage x.id s)
  unfolding with_storage storage_fits
  storage_sound x s f n k =
      record {
        units_most = k.units_most;
        functions_most = k.functions_most;
        blocks_most = k.blocks_most;
        units_once = k.units_once;
        ids_once = distinct_last x.id s.ids k.ids_once n;
        functions_once = k.functions_once;
        blocks_once = k.blocks_once;
        ids_low = λ y h. low y (has_cases y x.id s.ids h);
      }
    where
      low : (y : ℕ) → (has y s.ids ≡ true) ⊎ (y ≡ x.id) → y ≤ ed.last_id
      low y (inl h) = k.ids_low y h
      low y (inr e) = rw e (leb-true x.id ed.last_id (and_both _ _ f).0)

  function_sound : (n : ℕ) (s : State) → has n s.functions ≡ false → ltb (length s.functions) ed.functions ≡ true → Sound ed s → Sound ed (with_function n s)
  unfolding with_function
  function_sound n s h l k =
      record {
        units_most = k.units_most;
        functions_most = omega (arith, length_last n s.functions, ltb-true (length s.functions) ed.functions l);
        blocks_most = omega arith;
        units_once = k.units_once;
        ids_once = k.ids_once;
        functions_once = distinct_last n s.functions k.functions_once h;
        blocks_once = tt;
        ids_low = k.ids_low;
      }

  block_sound : (at id : ℕ) (s : State) → has id s.blocks ≡ false → ltb (length s.blocks) ed.blocks ≡ true → Sound ed s → Sound ed (with_block at id s)
  unfolding with_block
  block_sound at id s h l k =
      record {
        units_most = k.units_most;
        functions_most = k.functions_most;
        blocks_most = omega (arith, length_last id s.blocks, ltb-true (length s.blocks) ed.blocks l);
        units_once = k.units_once;
        ids_once = k.ids_once;
        functions_once = k.functions_once;
        blocks_once = distinct_last id s.blocks k.blocks_once h;
        ids_low = k.ids_low;
      }

  -- a record that opens, fills or shuts leaves the lists as they are
  opened_grown : (g : ℕ) (s : State) (o : Opened) → Grown s (with_opened g o s)
  unfolding with_opened
  opened_grown g s o = grown_lists s _ refl refl

  opened_sound : (g : ℕ) (s : State) (o : Opened) → Sound ed s → Sound ed (with_opened g o s)
  unfolding with_opened
  opened_sound g s o k = same_lists s _ refl refl refl refl k

  immediate_kept : (x : Operand) (s : State) → eqb x.shape 0 ≡ true → Kept ed s (operand x) (unnamed (given_to x s))
  unfolding with_number with_opened
  immediate_kept x s h = record { grown = grown_lists s _ refl refl; range = inl h; sound = λ k. same_lists s _ refl refl refl refl k }

  pub kept : (s : State) (at : ℕ) (x : Rec) (s' : State) → Took ed s at x s' → Kept ed s x s'
  unfolding with_header with_storage with_function with_block
  kept s at (header a f w) s' h = rw h.2 (record { grown = grown_lists s _ refl refl; range = tt; sound = λ k. same_lists s _ refl refl refl refl k })
  kept s at (storage x) s' h =
      rw h.3
      (record {
        grown = record { ids = λ y m. has_more y s.ids (x.id ∷ []) m; units = λ y m. m };
        range = has_last x.id s.ids;
        sound = λ k. storage_sound x s h.1 h.2 k;
      })
  kept s at (function n) s' h = rw h.3 (record { grown = grown_lists s _ refl refl; range = tt; sound = λ k. function_sound n s h.1 h.2 k })
  kept s at (abi x) s' h = record { grown = named_grown h.2; range = named_numbered h.2; sound = λ k. named_sound h.2 k }
  kept s at (block id) s' h = rw h.3 (record { grown = grown_lists s _ refl refl; range = tt; sound = λ k. block_sound at id s h.1 h.2 k })
  kept s at (instruction op sub fn) s' h = rw h.2 (record { grown = opened_grown _ s _; range = tt; sound = λ k. opened_sound _ s _ k })
  kept s at (operand x) s' h = go h.2
    where
      go : ((eqb x.shape 0 ≡ true) × (s' ≡ unnamed (given_to x s))) ⊎ Named ed x.shape x.storage x.offset (given_to x s) s' → Kept ed s (operand x) s'
      go (inl m) = rw m.1 (immediate_kept x s m.0)
      go (inr m) = record { grown = grown_on (opened_grown _ s _) (named_grown m); range = inr (named_numbered m); sound = λ k. named_sound m (opened_sound _ s _ k) }
  kept s at (terminator op sub fn) s' h = rw h.2 (record { grown = opened_grown _ s _; range = tt; sound = λ k. opened_sound _ s _ k })
  kept s at (target id) s' h = rw h.1 (record { grown = opened_grown _ s _; range = tt; sound = λ k. opened_sound _ s _ k })
  kept s at end s' h = rw h.1 (record { grown = opened_grown _ s _; range = tt; sound = λ k. opened_sound _ s _ k })

  -- Along a file, from a state and a place to the end of the tail.
  pub record Ranged (s : State) (t : List ℕ) (s' : State) : Type 0 where
    pub grown : Grown s s'
    pub range : All (InRange ed s'.ids s'.units) (records ed t)
    pub sound : Sound ed s → Sound ed s'

  pub walk_range : {s s' : State} {at : ℕ} {t : List ℕ} → Walk ed s at t s' → Ranged s t s'
  walk_range {s} {s'} {at} {t} done = record { grown = grown_same s; range = rw (records_nil ed) tt; sound = λ k. k }
  walk_range {s} {s' = s''} {at} {t} (more {s' = s'} len x e q r) =
      let k = kept s at x s' (stepped ed s at x s' q).taken in
      let m = walk_range r in
      record {
        grown = grown_on k.grown m.grown;
        range = rw (records_whole ed t len x e) (in_range_on ed s' s'' m.grown x k.range, m.range);
        sound = λ b. m.sound (k.sound b);
      }

pub start_sound : (ed : Edition) → Sound ed start
unfolding has
start_sound ed =
    record {
      units_most = omega arith;
      functions_most = omega arith;
      blocks_most = omega arith;
      units_once = tt;
      ids_once = tt;
      functions_once = tt;
      blocks_once = tt;
      ids_low = λ x h. absurd (true≢false (sym h));
    }
