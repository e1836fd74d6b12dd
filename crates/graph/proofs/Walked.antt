-- Function after function: the functions before a cursor and those from it on are the program's, so that at the last one all steps are noted, the passes
-- summed, and the words those of the last function. A file has no more functions than bytes, so the sum stays small.
use mathlib.Core.Path.{◌≡◌, refl, sym, ap, ap₂, ◌∙◌, subst}
use mathlib.Core.Logic.{◌⊎◌, inl, inr}
use mathlib.Core.Bool.{false}
use mathlib.Core.List.Memᴰ
use mathlib.Core.List.{List, [], ◌∷◌, ◌++◌, map, append_assoc, append-nil, Memᴰ}
use Prim.Native.Nat.{ℕ, zero, suc, ◌+◌, ◌-◌, ◌*◌, ◌≤◌, ◌<◌}
use native.Mathlib.Omega.{arith}
use lib.ListN.{length, get_or, drop, length-append, replicate, length-replicate}
use Rattle.rows.specs.Row as W
use Rattle.rows.proofs.Rows.{lt_or_ge, row_ext, row_whole, get_or_put_in, get_or_put_out}
use Rattle.rows.proofs.Members.{get_or_none}
use Rattle.fields.specs.Edition.{one}
use Rattle.records.specs.Check.{units, check}
use Rattle.records.specs.Outcome.{laid}
use Rattle.fields.specs.Record.{Rec, record_at, u8_at, length_of, header_at, instruction_at, terminator_at}
use Rattle.records.specs.Program.{Function, Rest, put, put_step, program}
use Rattle.fields.proofs.Front.{read_whole}
use Rattle.fields.proofs.ByKind.{length_one, length_none, kind_header, kind_storage, kind_function, kind_abi, kind_block, kind_instruction, kind_operand, kind_terminator, kind_target, kind_end}
use Rattle.units.specs.Sets.{each}
use Rattle.records.specs.Index.{brought}
use Rattle.units.specs.Along.{from, function_from, Stands, StandsAt}
use Rattle.units.specs.declared.cursor.Cursor.{Cursor}
use Rattle.units.proofs.Standing.{stands_start, stands_on}
use Rattle.passes.specs.Passes.{blank, Held}
use Rattle.liveness.specs.Flow.{flows}
use Rattle.liveness.specs.Settle.{liveness}
use Rattle.liveness.specs.Lives.{live_words}
use Rattle.liveness.specs.Walks.{FunctionHere, Came, Stopped}
use Rattle.liveness.proofs.Onward.{kind_at, from_past, from_by, from_kind, read_kind}
use Rattle.graph.specs.Graph.{sum, passes}
use Rattle.graph.specs.Graphs.{last_live}
use Rattle.graph.specs.Gathered.{Stop, stops_of, stops}
use Rattle.graph.specs.declared.basis.Basis.{Basis}
use Rattle.graph.specs.declared.sketch.Sketch.{Sketch}
use Rattle.graph.specs.Walking.{Noted, file, Told, Owner, FunctionTaken, Granted, Fresh, stops_by, passes_by, Walked, AllTaken}
use Rattle.graph.proofs.Meeting.{gathered_none, paired_none, addressed_none}

-- ---- the function that stands at a cursor

module _ (f : List ℕ) (at : ℕ) (h : FunctionHere f at) where
  long : length_of one 2 ≡ 2
  long = length_one 2

  abbrev number : ℕ
  number = u8_at (drop at f) 1

  pub functions_there : (from f at).functions ≡ function_from f number (at + 2) ∷ (from f (at + 2)).functions
  unfolding put
  functions_there =
      ap (λ (r : Rest). r.functions)
      (from_kind f at 2 h.0 (omega (arith, long)) (omega (arith, long, h.1))
      ∙ ap₂ (λ (x : Rec) (n : ℕ). put x (from f (at + n))) (kind_function (drop at f) (kind_at f at ∙ h.0)) long)

  pub stands_there : (us : List ℕ) (k : ℕ) → check one f ≡ units us → Stands f at k → Stands f (at + 2) k
  stands_there us k ok s =
      let z : k + 0 ≡ k = omega arith in
      rw (long, ap brought (kind_function (drop at f) (kind_at f at ∙ h.0)), z) at
      (stands_on f us ok at k s (length_of one 2) (record_at one (drop at f)) (read_kind f at 2 h.0 (omega (arith, long)) (omega (arith, long, h.1))))

-- ---- no more functions than bytes

functions_put : (t : List ℕ) (r : Rest) (k : ℕ) → u8_at t 0 ≡ k → 0 < length_of one k → length (put (record_at one t) r).functions ≤ suc (length r.functions)
unfolding put put_step header_at instruction_at terminator_at
functions_put t r zero e l = rw (kind_header t e) (omega arith)
functions_put t r (suc zero) e l = rw (kind_storage t e) (omega arith)
functions_put t r (suc (suc zero)) e l = rw (kind_function t e) (omega arith)
functions_put t r (suc (suc (suc zero))) e l = rw (kind_abi t e) (omega arith)
functions_put t r (suc (suc (suc (suc zero)))) e l = rw (kind_block t e) (omega arith)
functions_put t r (suc (suc (suc (suc (suc zero))))) e l = rw (kind_instruction t e) (omega arith)
functions_put t r (suc (suc (suc (suc (suc (suc zero)))))) e l = rw (kind_operand t e) (omega arith)
functions_put t r (suc (suc (suc (suc (suc (suc (suc zero))))))) e l = rw (kind_terminator t e) (omega arith)
functions_put t r (suc (suc (suc (suc (suc (suc (suc (suc zero)))))))) e l = rw (kind_target t e) (omega arith)
functions_put t r (suc (suc (suc (suc (suc (suc (suc (suc (suc zero))))))))) e l = rw (kind_end t e) (omega arith)
functions_put t r (suc (suc (suc (suc (suc (suc (suc (suc (suc (suc k)))))))))) e l = absurd (omega (arith, length_none (suc (suc (suc (suc (suc (suc (suc (suc (suc (suc k)))))))))) (omega arith)))

functions_few : (f : List ℕ) (fuel at : ℕ) → length f ≤ at + fuel → length (from f at).functions ≤ fuel
functions_few f zero at l = rw (from_past f at (omega arith)) (omega arith)
functions_few f (suc fuel) at l =
    from_by (λ r. length r.functions ≤ suc fuel) f at (omega arith)
    (λ len e.
    let w = read_whole one (drop at f) len _ e in
    let ih = functions_few f fuel (at + len) (omega (arith, w.some)) in
    let s = functions_put (drop at f) (from f (at + len)) (u8_at (drop at f) 0) refl (omega (arith, w.some, w.long)) in
    omega (arith, ih, s))

-- ---- lists that grow at the end

each_more : {A B : Type 0} (g : A → List B) (l : List A) (x : A) → each g (l ++ (x ∷ [])) ≡ each g l ++ g x
unfolding each
each_more g [] x = append-nil (g x)
each_more g (a ∷ l) x = ap (λ r. g a ++ r) (each_more g l x) ∙ sym (append_assoc (g a) (each g l) (g x))

sum_more : (g : Function → ℕ) (l : List Function) (x : Function) → sum (map g (l ++ (x ∷ []))) ≡ sum (map g l) + g x
unfolding sum
sum_more g [] x = omega arith
sum_more g (a ∷ l) x = omega (arith, sum_more g l x)

last_more : (f us : List ℕ) (l : List Function) (x : Function) → last_live one us (program one f) (l ++ (x ∷ [])) ≡ live_words one us (liveness one (program one f) x).sets
unfolding last_live
last_more f us [] x = refl
last_more f us (a ∷ []) x = refl
last_more f us (a ∷ b ∷ l) x = last_more f us (b ∷ l) x

-- ---- the walk

pub blank_length : (l : List ℕ) (n : ℕ) → l ≡ blank n → length l ≡ n
unfolding blank
blank_length l n e = ap length e ∙ length-replicate {A = ℕ} n 0

-- Words are cleared: one that is not among them stays.
cleared : (d : List ℕ) (at n j : ℕ) → at + n ≤ length d → ((j < at) ⊎ (at + n ≤ j) → get_or d j 0 ≡ 0) → get_or (W.put d at (replicate n 0)) j 0 ≡ 0
cleared d at n j h o = go (lt_or_ge j at) (lt_or_ge j (at + n))
  where
    size : length {A = ℕ} (replicate n 0) ≡ n
    size = length-replicate {A = ℕ} n 0

    out : (j < at) ⊎ (at + n ≤ j) → get_or (W.put d at (replicate n 0)) j 0 ≡ 0
    out p = get_or_put_out d at (replicate n 0) (rw size h) j (rw size p) ∙ o p

    go : (j < at) ⊎ (at ≤ j) → (j < at + n) ⊎ (at + n ≤ j) → get_or (W.put d at (replicate n 0)) j 0 ≡ 0
    go (inl p) q = out (inl p)
    go (inr p) (inr q) = out (inr q)
    go (inr p) (inl q) =
        let e : at + (j - at) ≡ j = omega arith in
        ap (λ (x : ℕ). get_or (W.put d at (replicate n 0)) x 0) (sym e)
        ∙ get_or_put_in d at (replicate n 0) (rw size h) (j - at) (rw size (omega arith)) ∙ get_or_none n (j - at)

-- Rows that hold something for so many blocks only are blank once those are cleared.
module _ (l l' l'' : List ℕ) (count : ℕ) (held : Held l count) (few : count ≤ 128) (e : l' ≡ W.put l 0 (replicate (count * 8) 0))
    (e' : l'' ≡ W.put l' 1024 (replicate (count * 8) 0)) (n' : length l' ≡ 2048) (n'' : length l'' ≡ 2048) where
  first_cleared : (i : ℕ) → (i < 1024) ⊎ (1024 + count * 8 ≤ i) → get_or l' i 0 ≡ 0
  first_cleared i o = rw e (cleared l 0 (count * 8) i (omega (arith, held.len)) (λ p. past o p))
    where
      past : (i < 1024) ⊎ (1024 + count * 8 ≤ i) → (i < 0) ⊎ (0 + count * 8 ≤ i) → get_or l i 0 ≡ 0
      past (inl q) (inl p) = absurd (omega arith)
      past (inl q) (inr p) = held.past_ins i (omega arith) q
      past (inr q) p = held.past_outs i q

  pub rows_blank : l'' ≡ blank 2048
  unfolding blank
  rows_blank =
      let z : length {A = ℕ} (replicate 2048 0) ≡ 2048 = length-replicate {A = ℕ} 2048 0 in
      sym (row_whole l'' 2048 (omega arith))
      ∙ row_ext l'' (replicate 2048 0) 0 2048 (n'' ∙ sym z)
      (λ i h. rw e' (cleared l' 1024 (count * 8) (0 + i) (omega arith) (first_cleared (0 + i))) ∙ sym (get_or_none 2048 (0 + i)))
      ∙ row_whole (replicate 2048 0) 2048 (omega (arith, z))

module _ (basis : Basis) (us : List ℕ) (g : Granted basis us) where
  abbrev f : List ℕ
  f = file basis

  pub walked_none : (c : Cursor) (rows : List ℕ) (sketch : Sketch) → Came f false 0 0 c.at c.k → Stopped f false c.at → rows ≡ blank 2048 → Fresh sketch → Walked f us c 0 rows sketch
  unfolding blank last_live laid program each sum
  walked_none c rows sketch came st er z = record {
    done = [];
    splits = sym came.sought.function;
    stands = came.stands us g.ready.accepted (stands_start f);
    last = st.function refl;
    noted = record {
      gathered = rw z.meets (gathered_none us);
      paired = rw z.copies paired_none;
      taken = rw z.addressed addressed_none;
    };
    sums = refl;
    few = omega arith;
    live = er;
  }

  module _ (c own : Cursor) (n : ℕ) (rows : List ℕ) (sketch : Sketch) (w : Walked f us c n rows sketch) (h : FunctionHere f c.at) (ea : own.at ≡ c.at + 2) (ek : own.k ≡ c.k) where
    abbrev fn : Function
    fn = function_from f (u8_at (drop c.at f) 1) own.at

    next_are : (from f c.at).functions ≡ fn ∷ (from f own.at).functions
    next_are = rw ea (functions_there f c.at h)

    next_in : Memᴰ fn (program one f).functions
    next_in = subst (λ (l : List Function). Memᴰ fn l) (sym (w.splits ∙ ap (λ (l : List Function). w.done ++ l) next_are)) (Memᴰ.append_right w.done (Memᴰ.head refl))

    own_stands : StandsAt f own
    own_stands = rw (ea, ek) (stands_there f c.at h us c.k g.ready.accepted w.stands)

    pub next_owner : Owner basis own
    next_owner = record { us = us; fn = fn; ready = g.ready; stands = own_stands; member = next_in; abis = refl; blocks = refl }

    pub next_room : length f ≤ 16384 → n + 130 ≤ 130 * 16385
    unfolding program
    next_room l =
        omega (arith, w.few, functions_few f 16384 0 (omega arith), ap length w.splits, length-append w.done (from f c.at).functions)

    module _ (after : Cursor) (passes' blocks' : ℕ) (rows' : List ℕ) (sketch' : Sketch) (t : FunctionTaken basis own sketch rows' sketch' passes' blocks' after) where
      told : Told basis us fn own
      told = record { ready = g.ready; stands = own_stands; abis = refl; numbered = g.numbered; rows = g.rows }

      pub walked_more : Walked f us after (n + passes') rows' sketch'
      walked_more =
          let q = t.noted us fn (stops_by f w.done) told next_in refl w.noted in
          record {
            done = w.done ++ (fn ∷ []);
            splits = w.splits ∙ ap (λ (l : List Function). w.done ++ l) (next_are ∙ ap (λ (l : List Function). fn ∷ l) (sym q.3.1)) ∙ sym (append_assoc w.done (fn ∷ []) (from f after.at).functions);
            stands = q.3.0;
            last = q.3.2;
            noted = subst (λ (l : List Stop). Noted us l sketch') (sym (each_more (λ (x : Function). stops_of (flows one (program one f) x)) w.done fn)) q.0;
            sums = ap₂ (λ (x y : ℕ). x + y) w.sums q.1 ∙ sym (sum_more (λ (x : Function). (liveness one (program one f) x).passes) w.done fn);
            few = omega (arith, w.few, t.few, length-append w.done (fn ∷ []));
            live = q.2 ∙ sym (last_more f us w.done fn);
          }

      pub next_less : length (from f after.at).functions < length (from f c.at).functions
      next_less =
          let q = t.noted us fn (stops_by f w.done) told next_in refl w.noted in
          omega (arith, ap length q.3.1, ap length next_are)

  pub walked_all : (c : Cursor) (n : ℕ) (rows : List ℕ) (sketch : Sketch) → Walked f us c n rows sketch → (FunctionHere f c.at → ⊥) → AllTaken f us n rows sketch
  unfolding stops passes
  walked_all c n rows sketch w away =
      let e : w.done ≡ (program one f).functions = sym (w.splits ∙ ap (λ (l : List Function). w.done ++ l) (w.last away) ∙ append-nil w.done) in
      record {
        noted = subst (λ (l : List Function). Noted us (stops_by f l) sketch) e w.noted;
        sums = w.sums ∙ ap (passes_by f) e;
        live = w.live ∙ ap (last_live one us (program one f)) e;
      }
