-- The buffers and the definitions agree. A row's numbers stand for a set's words, so storages of the one are storages of the other; each step adds to the
-- buffers what it adds to the relations, so after all steps the meetings are the clashes, the pairs the copies, the row the addressed storages.
use mathlib.Core.Path.{◌≡◌, refl, sym, ap, ap₂, ◌∙◌, subst}
use mathlib.Core.Logic.{◌⊎◌, inl, inr}
use mathlib.Core.Bool.{Bool, true, false, not, ◌&&◌, ◌||◌, or_comm, and-eq-true_iff, and-or_distrib_left}
use mathlib.Core.List.Memᴰ
use mathlib.Core.List.{List, [], ◌∷◌, ◌++◌, map, Memᴰ}
use Prim.Native.Nat.{ℕ, ◌+◌, ◌-◌, ◌*◌, ◌/◌, ◌%◌, ◌≤◌, ◌<◌, min, max}
use native.Mathlib.Omega.{arith}
use lib.Bits.{bit_or}
use lib.Dec.{eqb, ltb}
use lib.ListN.{length, get_or, drop, replicate, length-replicate, length-append, get_or-append}
use borrow.Author.Tests.{eqb-true, eq-eqb, lt-ltb, ltb-true}
use Rattle.rows.specs.Row.{bit, member, member_at, row, or_row}
use Rattle.rows.proofs.Tests.{either, same_test}
use Rattle.rows.proofs.Rows.{length_row, length_zip}
use Rattle.rows.proofs.Digit.{bit_zero}
use Rattle.rows.proofs.Members.{get_or_none, words_none, member_row, member_or}
use Rattle.rows.proofs.Pack.{length_pack, member_pack}
use Rattle.fields.specs.Pick.{pick, pick_yes, pick_no, has}
use Rattle.fields.specs.Edition.{Edition, one}
use Rattle.records.specs.Outcome.{laid}
use Rattle.records.specs.Program.{Function, Program}
use Rattle.fields.proofs.Front.{and_is}
use Rattle.units.specs.Sets.{select, any, each}
use Rattle.units.specs.Uses.{storage_of, storages_of, is_instruction}
use Rattle.units.specs.Rows.{listed, unit_row}
use Rattle.liveness.specs.Flow.{Use, Flow, flows}
use Rattle.liveness.specs.Settle.{before, settled_by}
use Rattle.liveness.proofs.SetLaws.{eqb_sym, any_cons, any_nil, any_append, any_map, any_each, any_same, has_any, has_append}
use Rattle.graph.specs.Graph.{has_pair, in_storage, is_copy, spared, clash, clashes_at, clashes_in, clashes_from, clashes_of, clashes, copies_at}
use Rattle.meetings.specs.Members.{members}
use Rattle.meetings.specs.Meeting.{storage_at, storages_at, unit_rows, less_rows, wanted, met, pairs_to, copy_pairs, copies_noted, addressed_noted}
use Rattle.meetings.specs.Closing.{Above}
use Rattle.graph.specs.Gathered.{Stop, stops_in, stops_from, stops_of, stops, Numbered, Within, UnitRows, wants, Gathered, Paired, Addressed}
use Rattle.graph.proofs.PairLaws.{pair_each, pair_append}
use Rattle.graph.proofs.Anys.{and_in, not_eqb, not_eqb_out, any_out, any_in_lem, mem_select, select_mem, has_mem, mem_has, has_map_out, has_map_in, has_at, pair_map, pair_nil}
use Rattle.graph.proofs.Buffers.{members_out, members_in, storages_low, Low, Fit, fit_append, length_paired, words_paired, member_paired, member_units, member_less_rows, length_less_rows, length_poured, member_poured}

-- ---- the storages of a row are the storages of its set

pub at_none : (w i n : ℕ) → member_at (replicate w 0) i n ≡ false
unfolding member_at
at_none w i n = ap (λ (x : ℕ). bit x (n % 64)) (get_or_none w (i + n / 64)) ∙ bit_zero (n % 64)

module _ {us words : List ℕ} (k : Numbered us words) where
  pub word_at : (n : ℕ) → n < length us → get_or words n 0 ≡ get_or us n 0
  unfolding laid
  word_at n h = ap (λ (l : List ℕ). get_or l n 0) k.words_are
      ∙ get_or-append (us ++ replicate (512 - length us) 0) (drop 512 []) 0 n (omega (arith, length-append us (replicate {A = ℕ} (512 - length us) 0)))
      ∙ get_or-append us (replicate (512 - length us) 0) 0 n h

  row_length : (set : List ℕ) → length (unit_row one us set) ≡ 8
  unfolding unit_row
  row_length set = length_pack 8 (listed us set)

  row_member : (set : List ℕ) (n : ℕ) → n < 512 → member (unit_row one us set) n ≡ (ltb n (length us) && has (get_or us n 0) set)
  unfolding unit_row
  row_member set n h = member_pack 8 (listed us set) n h ∙ and_is (ltb n (length us)) (has (get_or us n 0) set)

  pub row_storages : (set : List ℕ) → Within us set → (i : ℕ) → has i (storages_at words (members (unit_row one us set))) ≡ in_storage one set i
  unfolding storages_at storages_of
  row_storages set w i = same_test (has i (storages_at words (members r))) (in_storage one set i) to from
    where
      r : List ℕ
      r = unit_row one us set

      to : has i (storages_at words (members (unit_row one us set))) ≡ true → in_storage one set i ≡ true
      to h =
          let a = has_map_out (storage_at words) i (members (unit_row one us set)) h in
          let b = members_out (unit_row one us set) a.0 a.1 in
          let c = (and-eq-true_iff (ltb a.0 (length us)) (has (get_or us a.0 0) set)).0 (sym (row_member set a.0 (omega (arith, b.0, row_length set))) ∙ b.1) in
          has_map_in (storage_of one) i (get_or us a.0 0) set c.1
          (ap (storage_of one) (sym (word_at a.0 (ltb-true a.0 (length us) c.0))) ∙ a.2)

      from : in_storage one set i ≡ true → has i (storages_at words (members (unit_row one us set))) ≡ true
      from h =
          let a = has_map_out (storage_of one) i set h in
          let b = has_at a.0 us (w a.0 a.1) in
          let low : b.0 < 512 = omega (arith, b.1, k.few) in
          let m : member (unit_row one us set) b.0 ≡ true =
          row_member set b.0 low ∙ and_in _ _ (lt-ltb b.0 (length us) b.1) (ap (λ (u : ℕ). has u set) b.2 ∙ a.1) in
          has_map_in (storage_at words) i b.0 (members (unit_row one us set))
          (members_in (unit_row one us set) b.0 (omega (arith, row_length set)) m)
          (ap (storage_of one) (word_at b.0 b.1 ∙ b.2) ∙ a.2)

-- ---- what a step adds to the meetings

both_rows : (a x y : Bool) → ((a && y) || (a && x)) ≡ (a && (x || y))
both_rows a x y = sym (and-or_distrib_left a y x) ∙ ap (λ (t : Bool). a && t) (or_comm y x)

step_under : (a x y : Bool) → (a ≡ true → x ≡ y) → (a && x) ≡ (a && y)
step_under true x y h = h refl
step_under false x y h = refl

regroup : (a x y : Bool) → ((a && x) && y) ≡ (a && (x && y))
regroup true x y = refl
regroup false x y = refl

keep_true : (x : Bool) → x ≡ (x && true)
keep_true true = refl
keep_true false = refl

module _ {us words units : List ℕ} (k : Numbered us words) (u : UnitRows us words units) where
  units_length : length units ≡ 2048
  unfolding unit_rows
  units_length = ap length u ∙ length_paired 8 _ (replicate 2048 0) ∙ length-replicate {A = ℕ} 2048 0

  units_member : (i n : ℕ) → n < 512 → member_at units (i * 8) n ≡ (ltb n (length us) && eqb (storage_at words n) i)
  units_member i n h =
      ap (λ (l : List ℕ). member_at l (i * 8) n) u
      ∙ member_units words (length us) i n (replicate 2048 0) k.few (length-replicate {A = ℕ} 2048 0) h (at_none 2048 (i * 8) n)

  module _ (s : Use) (live : List ℕ) (wr : Within us s.reads) where
    abbrev lived : List ℕ
    lived = unit_row one us live

    abbrev read : List ℕ
    read = unit_row one us s.reads

    both_length : length lived ≡ length read
    both_length = row_length k live ∙ sym (row_length k s.reads)

    in_either : (n : ℕ) → n < 512 → member (or_row lived read) n ≡ (ltb n (length us) && has (get_or us n 0) (s.reads ++ live))
    in_either n h =
        member_or lived read n both_length ∙ ap₂ (λ (x y : Bool). x || y) (row_member k live n h) (row_member k s.reads n h)
        ∙ both_rows (ltb n (length us)) (has (get_or us n 0) s.reads) (has (get_or us n 0) live)
        ∙ ap (λ (x : Bool). ltb n (length us) && x) (sym (has_append (get_or us n 0) s.reads live))

    gone : (n : ℕ) → n < 512 → n < length us
        → any (λ (i : ℕ). member_at units (i * 8) n) (storages_at words (members read)) ≡ in_storage one s.reads (storage_of one (get_or us n 0))
    gone n h l =
        any_same (λ (i : ℕ). member_at units (i * 8) n) (eqb (storage_at words n)) (storages_at words (members read))
        (λ i. units_member i n h ∙ ap (λ (x : Bool). x && eqb (storage_at words n) i) (lt-ltb n (length us) l))
        ∙ sym (has_any (storage_at words n) (storages_at words (members read)))
        ∙ row_storages k s.reads wr (storage_at words n) ∙ ap (λ (w : ℕ). in_storage one s.reads (storage_of one w)) (word_at k n l)

    wanted_length : length (wanted units words lived read (is_copy s)) ≡ 8
    unfolding wanted pick
    wanted_length = go (is_copy s)
      where
        o : length (or_row (unit_row one us live) (unit_row one us s.reads)) ≡ 8
        o = length_zip bit_or (unit_row one us live) (unit_row one us s.reads) both_length ∙ row_length k live

        go : (b : Bool) → length (pick b (less_rows units (storages_at words (members (unit_row one us s.reads))) (or_row (unit_row one us live) (unit_row one us s.reads))) (or_row (unit_row one us live) (unit_row one us s.reads))) ≡ 8
        go true = length_less_rows units units_length _ _ o (storages_low words (members (unit_row one us s.reads)))
        go false = o

    wanted_member : (n : ℕ) → n < 512 → member (wanted units words lived read (is_copy s)) n ≡ wants us s live n
    unfolding wanted wants spared pick
    wanted_member n h = go (is_copy s)
      where
        o : length (or_row (unit_row one us live) (unit_row one us s.reads)) ≡ 8
        o = length_zip bit_or (unit_row one us live) (unit_row one us s.reads) both_length ∙ row_length k live

        go : (b : Bool) → member (pick b (less_rows units (storages_at words (members (unit_row one us s.reads))) (or_row (unit_row one us live) (unit_row one us s.reads))) (or_row (unit_row one us live) (unit_row one us s.reads))) n
            ≡ (ltb n (length us) && (has (get_or us n 0) (s.reads ++ live) && not (b && in_storage one s.reads (storage_of one (get_or us n 0)))))
        go true =
            member_less_rows units units_length (storages_at words (members (unit_row one us s.reads))) (or_row (unit_row one us live) (unit_row one us s.reads)) n o
            (storages_low words (members (unit_row one us s.reads))) h
            ∙ ap (λ (x : Bool). x && not (any (λ (i : ℕ). member_at units (i * 8) n) (storages_at words (members (unit_row one us s.reads))))) (in_either n h)
            ∙ regroup (ltb n (length us)) (has (get_or us n 0) (s.reads ++ live)) _
            ∙ step_under (ltb n (length us)) _ _ (λ t. ap (λ (x : Bool). has (get_or us n 0) (s.reads ++ live) && not x) (gone n h (ltb-true n (length us) t)))
        go false = in_either n h ∙ ap (λ (x : Bool). ltb n (length us) && x) (keep_true (has (get_or us n 0) (s.reads ++ live)))

    pub meet_length : (meets : List ℕ) → length meets ≡ 2048 → length (met meets units words lived read (unit_row one us s.writes) (is_copy s)) ≡ 2048
    unfolding met
    meet_length meets l =
        length_poured (wanted units words lived read (is_copy s)) wanted_length (storages_at words (members (unit_row one us s.writes))) meets l
        (storages_low words (members (unit_row one us s.writes)))

    pub meet_adds : Within us s.writes → (meets : List ℕ) (i n : ℕ) → length meets ≡ 2048 → n < 512
        → member_at (met meets units words lived read (unit_row one us s.writes) (is_copy s)) (i * 8) n
        ≡ ((in_storage one s.writes i && wants us s live n) || member_at meets (i * 8) n)
    unfolding met
    meet_adds ww meets i n l h =
        member_poured (wanted units words lived read (is_copy s)) wanted_length (storages_at words (members (unit_row one us s.writes))) meets i n l
        (storages_low words (members (unit_row one us s.writes))) h
        ∙ ap₂ (λ (x y : Bool). (x && y) || member_at meets (i * 8) n) (row_storages k s.writes ww i) (wanted_member n h)

-- ---- the meetings of all steps so far

pub gathered_none : (us : List ℕ) → Gathered us [] (replicate 2048 0)
gathered_none us = record {
  len = length-replicate {A = ℕ} 2048 0;
  known = λ p m. absurd (Memᴰ.not-nil m);
  written = λ p m. absurd (Memᴰ.not-nil m);
  holds = λ i n h. at_none 2048 (i * 8) n ∙ sym (any_nil _);
}

pub gathered_on : {us words units : List ℕ} {ps : List Stop} {meets : List ℕ} → Numbered us words → UnitRows us words units → Gathered us ps meets
    → (s : Use) (live : List ℕ) → Within us s.reads → Within us s.writes → Within us live
    → Gathered us ((s, live) ∷ ps) (met meets units words (unit_row one us live) (unit_row one us s.reads) (unit_row one us s.writes) (is_copy s))
gathered_on {us} {words} {units} {ps} {meets} k u g s live wr ww wl = record {
  len = meet_length k u s live wr meets g.len;
  known = known;
  written = written;
  holds = λ i n h.
      meet_adds k u s live wr ww meets i n g.len h
      ∙ ap (λ (x : Bool). (in_storage one s.writes i && wants us s live n) || x) (g.holds i n h)
      ∙ sym (any_cons (λ (p : Stop). in_storage one p.0.writes i && wants us p.0 p.1 n) (s, live) ps);
}
  where
    here : (v : ℕ) → (has v s.reads ≡ true) ⊎ (has v live ≡ true) → has v us ≡ true
    here v (inl q) = wr v q
    here v (inr q) = wl v q

    known : (p : Stop) → Memᴰ p ((s, live) ∷ ps) → Within us (p.0.reads ++ p.1)
    known p (Memᴰ.head e) v h = here v (either _ _ (sym (has_append v s.reads live) ∙ subst (λ (q : Stop). has v (q.0.reads ++ q.1) ≡ true) e h))
    known p (Memᴰ.tail m) v h = g.known p m v h

    written : (p : Stop) → Memᴰ p ((s, live) ∷ ps) → Within us p.0.writes
    written p (Memᴰ.head e) v h = ww v (subst (λ (q : Stop). has v q.0.writes ≡ true) e h)
    written p (Memᴰ.tail m) v h = g.written p m v h

-- The order of the steps does not matter.
pub gathered_swap : {us : List ℕ} {meets : List ℕ} (ps qs : List Stop) → Gathered us (ps ++ qs) meets → Gathered us (qs ++ ps) meets
gathered_swap {us} ps qs g = record {
  len = g.len;
  known = λ p m. g.known p (turn p (Memᴰ.append_cases qs m));
  written = λ p m. g.written p (turn p (Memᴰ.append_cases qs m));
  holds = λ i n h. g.holds i n h ∙ any_append _ ps qs ∙ or_comm (any _ ps) (any _ qs) ∙ sym (any_append _ qs ps);
}
  where
    turn : (p : Stop) → Memᴰ p qs ⊎ Memᴰ p ps → Memᴰ p (ps ++ qs)
    turn p (inl m) = Memᴰ.append_right ps m
    turn p (inr m) = Memᴰ.append_left qs m

-- ---- the pairs of a step, as units

pub record Clash (s : Use) (live : List ℕ) (i j : ℕ) : Type 0 where
  pub w : ℕ
  pub writes : has w s.writes ≡ true
  pub of_i : storage_of one w ≡ i
  pub v : ℕ
  pub wanted_there : has v (s.reads ++ live) ≡ true
  pub of_j : storage_of one v ≡ j
  pub unspared : not (spared one s v) ≡ true

module _ (s : Use) (live : List ℕ) (i j : ℕ) where
  clash_any : has_pair (clashes_at one s live) i j
      ≡ any (λ (w : ℕ). any (λ (v : ℕ). eqb (storage_of one w) i && eqb (storage_of one v) j) (select (clash one s w) (s.reads ++ live))) s.writes
  unfolding clashes_at
  clash_any =
      pair_each (λ (w : ℕ). map (λ (v : ℕ). (storage_of one w, storage_of one v)) (select (clash one s w) (s.reads ++ live))) s.writes i j
      ∙ any_same _ _ s.writes (λ w. pair_map (λ (v : ℕ). (storage_of one w, storage_of one v)) (select (clash one s w) (s.reads ++ live)) i j)

  pub clash_out : has_pair (clashes_at one s live) i j ≡ true → Clash s live i j × ¬ (i ≡ j)
  clash_out h =
      let a = any_out _ s.writes (sym clash_any ∙ h) in
      let b = any_out _ (select (clash one s a.0) (s.reads ++ live)) a.2 in
      let c = mem_select (clash one s a.0) (s.reads ++ live) b.1 in
      let d = (and-eq-true_iff _ _).0 b.2 in
      let f = (and-eq-true_iff _ _).0 c.1 in
      let di : storage_of one a.0 ≡ i = eqb-true _ _ d.0 in
      let dj : storage_of one b.0 ≡ j = eqb-true _ _ d.1 in (
        record {
          w = a.0;
          writes = mem_has a.0 s.writes a.1;
          of_i = di;
          v = b.0;
          wanted_there = mem_has b.0 (s.reads ++ live) c.0;
          of_j = dj;
          unspared = f.1;
        },
        λ e. not_eqb_out (storage_of one a.0) (storage_of one b.0) f.0 (di ∙ e ∙ sym dj),
      )

  pub clash_in : ¬ (i ≡ j) → Clash s live i j → has_pair (clashes_at one s live) i j ≡ true
  clash_in d c =
      clash_any
      ∙ any_in_lem _ (has_mem c.w s.writes c.writes)
      (any_in_lem _ (select_mem (clash one s c.w) (has_mem c.v (s.reads ++ live) c.wanted_there)
      (and_in _ _ (not_eqb (storage_of one c.w) (storage_of one c.v) (λ e. d (sym c.of_i ∙ e ∙ c.of_j))) c.unspared))
      (and_in _ _ (eq-eqb _ _ c.of_i) (eq-eqb _ _ c.of_j)))

-- Where all units are of storages below n, no storage from n on clashes: a step writes units of the file alone.
pub none_above : {us words meets : List ℕ} {ps : List Stop} (n : ℕ) → Numbered us words → Above words (length us) n → Gathered us ps meets → (i j : ℕ) → n ≤ i
    → any (λ (p : Stop). has_pair (clashes_at one p.0 p.1) i j) ps ≡ true → ⊥
none_above {us} {words} {ps = ps} n k above g i j high h =
    let a = any_out (λ (p : Stop). has_pair (clashes_at one p.0 p.1) i j) ps h in
    let c = (clash_out a.0.0 a.0.1 i j a.2).0 in
    let b = has_at c.w us (g.written a.0 a.1 c.w c.writes) in
    omega (arith, above.below b.0 b.1, ap (storage_of one) (word_at k b.0 b.1 ∙ b.2) ∙ c.of_i)

-- ---- the meetings are the clashes

pub gathered_clashes : {us words meets : List ℕ} {ps : List Stop} → Numbered us words → Gathered us ps meets → (i j : ℕ) → i < 256
    → any (λ (p : Stop). has_pair (clashes_at one p.0 p.1) i j) ps ≡ (not (eqb i j) && has j (storages_at words (members (row meets (i * 8) 8))))
unfolding storages_at wants storages_of
gathered_clashes {us} {words} {meets} {ps} k g i j low = same_test _ _ to from
  where
    full : length (row meets (i * 8) 8) ≡ 8
    full = length_row meets (i * 8) 8 (omega (arith, g.len))

    to : any (λ (p : Stop). has_pair (clashes_at one p.0 p.1) i j) ps ≡ true
        → (not (eqb i j) && has j (storages_at words (members (row meets (i * 8) 8)))) ≡ true
    to h =
        let a = any_out (λ (p : Stop). has_pair (clashes_at one p.0 p.1) i j) ps h in
        let s = a.0.0 in
        let live = a.0.1 in
        let q = clash_out s live i j a.2 in
        let c = q.0 in
        let b = has_at c.v us (g.known a.0 a.1 c.v c.wanted_there) in
        let l : b.0 < 512 = omega (arith, b.1, k.few) in
        let w : wants us s live b.0 ≡ true =
        and_in _ _ (lt-ltb b.0 (length us) b.1)
        (and_in _ _ (ap (λ (x : ℕ). has x (s.reads ++ live)) b.2 ∙ c.wanted_there) (ap (λ (x : ℕ). not (spared one s x)) b.2 ∙ c.unspared)) in
        let m : member_at meets (i * 8) b.0 ≡ true =
        g.holds i b.0 l ∙ any_in_lem (λ (p : Stop). in_storage one p.0.writes i && wants us p.0 p.1 b.0) a.1
        (and_in _ _ (has_map_in (storage_of one) i c.w s.writes c.writes c.of_i) w) in
        and_in _ _ (not_eqb i j q.1)
        (has_map_in (storage_at words) j b.0 (members (row meets (i * 8) 8))
        (members_in (row meets (i * 8) 8) b.0 (omega (arith, full)) (member_row meets (i * 8) 8 b.0 l ∙ m))
        (ap (storage_of one) (word_at k b.0 b.1 ∙ b.2) ∙ c.of_j))

    from : (not (eqb i j) && has j (storages_at words (members (row meets (i * 8) 8)))) ≡ true
        → any (λ (p : Stop). has_pair (clashes_at one p.0 p.1) i j) ps ≡ true
    from h =
        let d = (and-eq-true_iff (not (eqb i j)) (has j (storages_at words (members (row meets (i * 8) 8))))).0 h in
        let a = has_map_out (storage_at words) j (members (row meets (i * 8) 8)) d.1 in
        let b = members_out (row meets (i * 8) 8) a.0 a.1 in
        let l : a.0 < 512 = omega (arith, b.0, full) in
        let c = any_out (λ (p : Stop). in_storage one p.0.writes i && wants us p.0 p.1 a.0) ps
        (sym (g.holds i a.0 l) ∙ sym (member_row meets (i * 8) 8 a.0 l) ∙ b.1) in
        let s = c.0.0 in
        let live = c.0.1 in
        let e = (and-eq-true_iff (in_storage one s.writes i) (wants us s live a.0)).0 c.2 in
        let f = (and-eq-true_iff (ltb a.0 (length us)) (has (get_or us a.0 0) (s.reads ++ live) && not (spared one s (get_or us a.0 0)))).0 e.1 in
        let f' = (and-eq-true_iff (has (get_or us a.0 0) (s.reads ++ live)) (not (spared one s (get_or us a.0 0)))).0 f.1 in
        let w = has_map_out (storage_of one) i s.writes e.0 in
        any_in_lem (λ (p : Stop). has_pair (clashes_at one p.0 p.1) i j) c.1
        (clash_in s live i j (not_eqb_out i j d.0) (record {
          w = w.0;
          writes = w.1;
          of_i = w.2;
          v = get_or us a.0 0;
          wanted_there = f'.0;
          of_j = ap (storage_of one) (sym (word_at k a.0 (ltb-true _ _ f.0))) ∙ a.2;
          unspared = f'.1;
        }))

-- ---- the clashes of a program are those of its steps, each with what is live after it

module _ (e : Edition) (i j : ℕ) where
  abbrev at : Stop → Bool
  at p = has_pair (clashes_at e p.0 p.1) i j

  stops_in_lem : (ss : List Use) (out : List ℕ) → has_pair (clashes_in e ss out) i j ≡ any at (stops_in ss out)
  unfolding clashes_in stops_in
  stops_in_lem [] out = pair_nil i j ∙ sym (any_nil at)
  stops_in_lem (s ∷ ss) out =
      pair_append (clashes_at e s (before ss out)) (clashes_in e ss out) i j ∙ ap (λ (x : Bool). has_pair (clashes_at e s (before ss out)) i j || x) (stops_in_lem ss out)
      ∙ sym (any_cons at (s, before ss out) (stops_in ss out))

  stops_from_lem : (bs : List Flow) (os : List (List ℕ)) → has_pair (clashes_from e bs os) i j ≡ any at (stops_from bs os)
  unfolding clashes_from stops_from
  stops_from_lem [] os = pair_nil i j ∙ sym (any_nil at)
  stops_from_lem (b ∷ bs) [] = pair_nil i j ∙ sym (any_nil at)
  stops_from_lem (b ∷ bs) (o ∷ os) =
      pair_append (clashes_in e b.uses o) (clashes_from e bs os) i j
      ∙ ap₂ (λ (x y : Bool). x || y) (stops_in_lem b.uses o) (stops_from_lem bs os)
      ∙ sym (any_append at (stops_in b.uses o) (stops_from bs os))

  pub stops_clashes : (p : Program) → has_pair (clashes e p) i j ≡ any at (stops e p)
  unfolding clashes clashes_of stops stops_of
  stops_clashes p =
      pair_each (λ (f : Function). clashes_of e (flows e p f)) p.functions i j
      ∙ any_same _ _ p.functions (λ f. stops_from_lem (flows e p f) (settled_by (flows e p f)).sets.outs)
      ∙ sym (any_each at (λ (f : Function). stops_of (flows e p f)) p.functions)

-- ---- the pairs of all steps so far

any_has_same : (t : ℕ → Bool) (l m : List ℕ) → ((x : ℕ) → has x l ≡ has x m) → any t l ≡ any t m
any_has_same t l m e = same_test (any t l) (any t m)
    (λ h. let a = any_out t l h in any_in_lem t (has_mem a.0 m (sym (e a.0) ∙ mem_has a.0 l a.1)) a.2)
    (λ h. let a = any_out t m h in any_in_lem t (has_mem a.0 l (e a.0 ∙ mem_has a.0 m a.1)) a.2)

fit_to : (a : ℕ) (l : List ℕ) → a < 256 → Low 256 l → Fit 256 256 (pairs_to a l)
unfolding pairs_to
fit_to a [] h f = tt
fit_to a (b ∷ l) h f = (omega (arith, f.0), omega (arith, f.0), fit_to a l h f.1)

fit_copies : (to from : List ℕ) → Low 256 to → Low 256 from → Fit 256 256 (copy_pairs to from)
unfolding copy_pairs each
fit_copies [] from f g = tt
fit_copies (a ∷ to) from f g = fit_append 256 256 (pairs_to a from) (copy_pairs to from) (fit_to a from f.0 g) (fit_copies to from f.1 g)

module _ (i j : ℕ) where
  abbrev pair_at : ℕ → ℕ → Bool
  pair_at a b = eqb (min a b) i && eqb (max a b) j

  pairs_any : (to from : List ℕ) → has_pair (copy_pairs to from) i j ≡ any (λ (a : ℕ). any (pair_at a) from) to
  unfolding copy_pairs pairs_to
  pairs_any to from =
      pair_each (λ (a : ℕ). pairs_to a from) to i j ∙ any_same _ _ to (λ a. pair_map (λ (b : ℕ). (min a b, max a b)) from i j)

  copies_any : (s : Use) → is_copy s ≡ true → has_pair (copies_at one s) i j ≡ any (λ (a : ℕ). any (pair_at a) (storages_of one s.reads)) (storages_of one s.writes)
  unfolding copies_at storages_of
  copies_any s c =
      ap (λ (ps : List (ℕ × ℕ)). has_pair ps i j) (pick_yes (is_copy s) _ _ c)
      ∙ pair_each (λ (w : ℕ). map (λ (v : ℕ). (min (storage_of one w) (storage_of one v), max (storage_of one w) (storage_of one v))) s.reads) s.writes i j
      ∙ any_same _ _ s.writes (λ w.
      pair_map (λ (v : ℕ). (min (storage_of one w) (storage_of one v), max (storage_of one w) (storage_of one v))) s.reads i j
      ∙ sym (any_map (pair_at (storage_of one w)) (storage_of one) s.reads))
      ∙ sym (any_map (λ (a : ℕ). any (pair_at a) (map (storage_of one) s.reads)) (storage_of one) s.writes)

pub paired_none : Paired [] (replicate 1024 0)
paired_none = record { len = length-replicate {A = ℕ} 1024 0; words = words_none 1024; holds = λ i j h. at_none 1024 (i * 4) j ∙ sym (any_nil _) }

-- A step that is no copy leaves the pairs.
pub paired_skip : {ss : List Use} {copies : List ℕ} → Paired ss copies → (s : Use) → is_copy s ≡ false → Paired (s ∷ ss) copies
unfolding copies_at
paired_skip {ss} {copies} p s c = record {
  len = p.len;
  words = p.words;
  holds = λ i j h.
      p.holds i j h
      ∙ sym (any_cons (λ (t : Use). has_pair (copies_at one t) i j) s ss
      ∙ ap (λ (x : Bool). x || any (λ (t : Use). has_pair (copies_at one t) i j) ss) (ap (λ (ps : List (ℕ × ℕ)). has_pair ps i j) (pick_no (is_copy s) _ _ c) ∙ pair_nil i j));
}

pub paired_on : {us words : List ℕ} {ss : List Use} {copies : List ℕ} → Numbered us words → Paired ss copies
    → (s : Use) → is_copy s ≡ true → Within us s.reads → Within us s.writes
    → Paired (s ∷ ss) (copies_noted copies words (unit_row one us s.reads) (unit_row one us s.writes))
unfolding copies_noted
paired_on {us} {words} {ss} {copies} k p s c wr ww = record {
  len = length_paired 4 _ copies ∙ p.len;
  words = words_paired 4 _ copies p.words;
  holds = λ i j h.
      member_paired 4 256 i j (copy_pairs to from) copies (omega (arith, p.len)) (fit_copies to from (storages_low words _) (storages_low words _)) h
      ∙ ap₂ (λ (x y : Bool). x || y) (same i j) (p.holds i j h)
      ∙ sym (any_cons (λ (t : Use). has_pair (copies_at one t) i j) s ss);
}
  where
    to : List ℕ
    to = storages_at words (members (unit_row one us s.writes))

    from : List ℕ
    from = storages_at words (members (unit_row one us s.reads))

    same : (i j : ℕ) → has_pair (copy_pairs (storages_at words (members (unit_row one us s.writes))) (storages_at words (members (unit_row one us s.reads)))) i j ≡ has_pair (copies_at one s) i j
    same i j =
        pairs_any i j _ _
        ∙ any_has_same _ _ (storages_of one s.writes) (row_storages k s.writes ww)
        ∙ any_same _ _ (storages_of one s.writes) (λ a. any_has_same (pair_at i j a) _ (storages_of one s.reads) (row_storages k s.reads wr))
        ∙ sym (copies_any i j s c)

pub paired_swap : {copies : List ℕ} (ss ts : List Use) → Paired (ss ++ ts) copies → Paired (ts ++ ss) copies
paired_swap ss ts p = record {
  len = p.len;
  words = p.words;
  holds = λ i j h. p.holds i j h ∙ any_append _ ss ts ∙ or_comm (any _ ss) (any _ ts) ∙ sym (any_append _ ts ss);
}

-- ---- the addressed storages of all steps so far

abbrev takes : ℕ → Use → Bool
takes i s = is_instruction 16 s.step && in_storage one s.reads i

pub addressed_none : Addressed [] (replicate 4 0)
addressed_none = record { len = length-replicate {A = ℕ} 4 0; holds = λ i h. at_none 4 0 i ∙ sym (any_nil _) }

pub addressed_skip : {ss : List Use} {r : List ℕ} → Addressed ss r → (s : Use) → is_instruction 16 s.step ≡ false → Addressed (s ∷ ss) r
addressed_skip {ss} {r} a s c = record {
  len = a.len;
  holds = λ i h.
      a.holds i h
      ∙ sym (any_cons (takes i) s ss ∙ ap (λ (x : Bool). (x && in_storage one s.reads i) || any (takes i) ss) c);
}

fit_row : (l : List ℕ) → Low 256 l → Fit 1 256 (map (λ (j : ℕ). (0, j)) l)
fit_row [] f = tt
fit_row (a ∷ l) f = (omega arith, f.0, fit_row l f.1)

pub addressed_on : {us words : List ℕ} {ss : List Use} {r : List ℕ} → Numbered us words → Addressed ss r
    → (s : Use) → is_instruction 16 s.step ≡ true → Within us s.reads → Addressed (s ∷ ss) (addressed_noted r words (unit_row one us s.reads))
unfolding addressed_noted
addressed_on {us} {words} {ss} {r} k a s c wr = record {
  len = length_paired 4 _ r ∙ a.len;
  holds = λ i h.
      member_paired 4 1 0 i (map (λ (j : ℕ). (0, j)) is) r (omega (arith, a.len)) (fit_row is (storages_low words _)) h
      ∙ ap₂ (λ (x y : Bool). x || y) (same i) (a.holds i h)
      ∙ ap (λ (x : Bool). (x && in_storage one s.reads i) || any (takes i) ss) (sym c)
      ∙ sym (any_cons (takes i) s ss);
}
  where
    is : List ℕ
    is = storages_at words (members (unit_row one us s.reads))

    same : (i : ℕ) → has_pair (map (λ (j : ℕ). (0, j)) (storages_at words (members (unit_row one us s.reads)))) 0 i ≡ in_storage one s.reads i
    same i =
        pair_map (λ (j : ℕ). (0, j)) (storages_at words (members (unit_row one us s.reads))) 0 i
        ∙ any_same _ (eqb i) _ (λ j. eqb_sym j i) ∙ sym (has_any i _) ∙ row_storages k s.reads wr i

pub addressed_swap : {r : List ℕ} (ss ts : List Use) → Addressed (ss ++ ts) r → Addressed (ts ++ ss) r
addressed_swap ss ts a = record {
  len = a.len;
  holds = λ i h. a.holds i h ∙ any_append _ ss ts ∙ or_comm (any _ ss) (any _ ts) ∙ sym (any_append _ ts ss);
}
