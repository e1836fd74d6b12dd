-- What is promised of a placing: of two storages that touch a common bit, and of one at its place. Every state of placing keeps these promises
-- (Keeping.antt, Taking.antt), and each step adds its storage at the end, so they hold of the result, storage by storage.
use Rattle.std.specs.Prelude.{Option, Some, None, Result, Ok, Err}
use mathlib.Core.Path.{◌≡◌, sym, ap, ◌∙◌, subst}
use mathlib.Core.Logic.{◌⊎◌, inl, inr}
use mathlib.Core.Bool.{Bool, true, false, not}
use mathlib.Core.List.{List, [], ◌∷◌, ◌++◌, map, map-append, append-nil}
use Prim.Native.Nat.{ℕ, ◌≤◌, ◌<◌}
use native.Mathlib.Omega.{arith}
use native.Mathlib.Decide.{dec_lt}
use lib.Dec.{T, eqb, eqb→eq}
use lib.ListN.{length, get_or, length-map, get_or-map}
use lib.Seq.{append_snoc}
use Rattle.fields.specs.Pick.{pick, ◌and◌, ◌or◌, All}
use Rattle.storages.specs.declared.Placement.{Placement}
use Rattle.storages.specs.declared.Storage.{Storage}
use Rattle.storages.specs.declared.Space.{Space}
use Rattle.storages.specs.declared.Space.TheVariants.{App}
use Rattle.storages.specs.Placement.{code_of}
use Rattle.storages.specs.Storage.{a_byte, a_carry, is_bit, bit_code, bytes_code, kind_matches}
use Rattle.storages.specs.Room.{room, touches}
use Rattle.places.specs.Place.{Given, Placed, State, Outcome, done, refused, take_room, step, and_then, place_from, start, place}
use Rattle.places.specs.Legal.{right_form, LegalBy, Legal, Inside, FixedSmall, Sharing, MayShare, Pairs, Fine}
use Rattle.places.proofs.Tests.{or_cases, or_l, or_r, and_r, all_at, pairs_at}
use Rattle.turns.proofs.Turns.{After, step_cases}
use Rattle.allocator.proofs.Keeping.{Keeps, start_keeps}
use Rattle.allocator.proofs.Taking.{place_keeps}
use Rattle.records.specs.declared.Refusal.{Refusal}

abbrev pub storage_of : Placed → Storage
storage_of y = y.what

-- One placement for each storage, in file order; the promises of two; the promises of one.
pub record Sound (g : Given) (a f w : ℕ) (ss : List Storage) (x : State) : Type 0 where
  pub whole : map storage_of x.placed ≡ ss
  pub sharing : Pairs (MayShare g) x.placed
  pub fine : All (Fine a f w) x.placed

-- ---- Each storage is placed, in order

step_whole : (g : Given) (s : Storage) (x : State) → After (λ y. map storage_of y.placed ≡ map storage_of x.placed ++ (s ∷ [])) (step g s x)
step_whole g s x = step_cases (λ y. map storage_of y.placed ≡ map storage_of x.placed ++ (s ∷ [])) g s x taken (λ k. map-append storage_of x.placed _)
  where
    taken : (c : Result Placement Refusal) → After (λ y. map storage_of y.placed ≡ map storage_of x.placed ++ (s ∷ [])) (take_room s x c)
    taken (Err r) = tt
    taken (Ok p) = map-append storage_of x.placed _

place_whole : (g : Given) (ss : List Storage) (x : State) → After (λ y. map storage_of y.placed ≡ map storage_of x.placed ++ ss) (place_from g ss x)
unfolding place_from
place_whole g [] x = sym (append-nil (map storage_of x.placed))
place_whole g (s ∷ ss) x = go (step g s x) (step_whole g s x) (λ y. place_whole g ss y)
  where
    go : (r : Outcome) → After (λ y. map storage_of y.placed ≡ map storage_of x.placed ++ (s ∷ [])) r
        → ((y : State) → After (λ z. map storage_of z.placed ≡ map storage_of y.placed ++ ss) (place_from g ss y))
        → After (λ y. map storage_of y.placed ≡ map storage_of x.placed ++ s ∷ ss) (and_then r (λ y. place_from g ss y))
    go (refused r) e f = tt
    go (done y) e f = last (place_from g ss y) (f y)
      where
        last : (r : Outcome) → After (λ z. map storage_of z.placed ≡ map storage_of y.placed ++ ss) r → After (λ z. map storage_of z.placed ≡ map storage_of x.placed ++ s ∷ ss) r
        last (refused r) q = tt
        last (done z) q = q ∙ ap {B = List Storage} (λ r. r ++ ss) e ∙ append_snoc (map storage_of x.placed) s ss

-- An accepted file has F ≤ A and no fixed bit over 7, and the search for a bit ends at A.
pub placing_sound : (g : Given) (a f w : ℕ) (ss : List Storage) (x : State) → f ≤ a → g.hi ≤ a → All (λ s. FixedSmall s.len s.fixed) ss
    → place g a f w ss ≡ done x → Sound g a f w ss x
unfolding place
placing_sound g a f w ss x l m b e =
    let k = subst (After (Keeps g a f w)) e (place_keeps g a f w ss (start a f w) m b (start_keeps g a f w l)) in
    record { whole = subst (After (λ y. map storage_of y.placed ≡ ss)) e (place_whole g ss (start a f w)); sharing = k.sharing; fine = k.fine }

-- ---- By position in the file

-- Interference that goes both ways, as the graph's does.
sharing_swap : (g : Given) → ((i j : ℕ) → g.meets i j ≡ g.meets j i) → (s t : Storage) → Sharing g s t → Sharing g t s
sharing_swap g both s t h =
    record {
      free_s = h.free_t;
      free_t = h.free_s;
      owners = sym h.owners;
      owned = λ e. h.owned (sym h.owners ∙ e);
      kinds = sym h.kinds;
      lengths = sym h.lengths;
      carry = λ e. h.carry (sym h.kinds ∙ e);
      apart = subst (λ (b : Bool). T (not b)) (both t.id s.id) h.apart;
    }

module _ (g : Given) (a f w : ℕ) (ss : List Storage) (x : State) (h : Sound g a f w ss x) (nothing : Placed) where
  abbrev pub nth : ℕ → Placed
  nth i = get_or x.placed i nothing

  pub as_many : length x.placed ≡ length ss
  as_many = sym (length-map x.placed storage_of) ∙ ap length h.whole

  pub in_order : (i : ℕ) → (nth i).what ≡ get_or ss i nothing.what
  in_order i = sym (get_or-map storage_of x.placed i nothing) ∙ ap (λ (l : List Storage). get_or l i nothing.what) h.whole

  bound : (i : ℕ) → i < length ss → i < length x.placed
  bound i l = omega (arith, as_many)

  -- Two storages touch a common bit only if both are unfixed, of one function, one kind and length, no Carry, and do not interfere.
  pub shares_only : (i j : ℕ) → i < j → j < length ss → (sp : Space) (n k : ℕ)
      → T (touches (nth i).what (nth i).spot sp n k) → T (touches (nth j).what (nth j).spot sp n k) → Sharing g (nth i).what (nth j).what
  shares_only i j l b = pairs_at (MayShare g) x.placed nothing h.sharing i j l (bound j b)

  pub shares_only_any : ((i j : ℕ) → g.meets i j ≡ g.meets j i) → (i j : ℕ) → ¬ (i ≡ j) → i < length ss → j < length ss → (sp : Space) (n k : ℕ)
      → T (touches (nth i).what (nth i).spot sp n k) → T (touches (nth j).what (nth j).spot sp n k) → Sharing g (nth i).what (nth j).what
  shares_only_any both i j d p q sp n k t u = go (dec_lt i j)
    where
      go : Dec (i < j) → Sharing g (nth i).what (nth j).what
      go (yes l) = shares_only i j l q sp n k t u
      go (no l) = sharing_swap g both (nth j).what (nth i).what (shares_only j i (omega arith) p sp n k u t)

  fine_at : (i : ℕ) → i < length ss → Fine a f w (nth i)
  fine_at i l = all_at (Fine a f w) x.placed nothing h.fine i (bound i l)

  -- No storage touches a byte of application RAM below F.
  pub low_bytes_free : (i : ℕ) → i < length ss → (n k : ℕ) → T (touches (nth i).what (nth i).spot App n k) → f ≤ n
  unfolding touches
  low_bytes_free i l n k t = (fine_at i l).off n k t

  -- Every placement lies inside A or W.
  pub lies_inside : (i : ℕ) → i < length ss → Inside a w (room (nth i).what.len (nth i).spot)
  lies_inside i l = (fine_at i l).inside

  -- An unfixed storage sits in an allowed region in the right form, a fixed one at its place.
  pub lies_legally : (i : ℕ) → i < length ss → Legal (nth i).what (nth i).spot
  lies_legally i l = (fine_at i l).legal

-- ---- Kinds match for unfixed storages too: the right form is one of the codes that a fixed storage of that kind may have

byte_codes : (P : ℕ → Type 0) → P 3 → P 5 → P 10 → P 11 → (c : ℕ) → T ((eqb c 3 or eqb c 5) or (eqb c 10 or eqb c 11)) → P c
byte_codes P p q r t c h = go (or_cases (eqb c 3 or eqb c 5) (eqb c 10 or eqb c 11) h)
  where
    two : (i j : ℕ) → P i → P j → T (eqb c i) ⊎ T (eqb c j) → P c
    two i j u v (inl e) = subst P (sym (eqb→eq c i e)) u
    two i j u v (inr e) = subst P (sym (eqb→eq c j e)) v

    go : T (eqb c 3 or eqb c 5) ⊎ T (eqb c 10 or eqb c 11) → P c
    go (inl e) = two 3 5 p q (or_cases (eqb c 3) (eqb c 5) e)
    go (inr e) = two 10 11 r t (or_cases (eqb c 10) (eqb c 11) e)

form_matches : (kind n c : ℕ) → T (right_form kind c) → T (kind_matches kind n c)
unfolding right_form kind_matches bit_code bytes_code pick
form_matches kind n c = go (is_bit kind) (eqb kind a_byte)
  where
    bits : T (eqb c 4 or (eqb c 6 or eqb c 7)) ⊎ T (eqb kind a_carry and eqb c 2) → T (bit_code c)
    bits (inl t) = or_r (eqb c 2) (eqb c 4 or (eqb c 6 or eqb c 7)) t
    bits (inr t) = or_l (eqb c 2) (eqb c 4 or (eqb c 6 or eqb c 7)) (and_r (eqb kind a_carry) (eqb c 2) t)

    go : (b v : Bool) → T (pick b ((eqb c 4 or (eqb c 6 or eqb c 7)) or (eqb kind a_carry and eqb c 2)) ((eqb c 3 or eqb c 5) or (eqb c 10 or eqb c 11)))
        → T (pick b (bit_code c) (pick v (not (bit_code c)) (eqb n 1 or bytes_code c)))
    go true v t = bits (or_cases (eqb c 4 or (eqb c 6 or eqb c 7)) (eqb kind a_carry and eqb c 2) t)
    go false true t = byte_codes (λ m. T (not (bit_code m))) tt tt tt tt c t
    go false false t = byte_codes (λ m. T (eqb n 1 or bytes_code m)) (or_r (eqb n 1) true tt) (or_r (eqb n 1) true tt) (or_r (eqb n 1) true tt) (or_r (eqb n 1) true tt) c t

pub kinds_match : (s : Storage) (p : Placement) → Legal s p → T (kind_matches s.kind s.len (code_of p))
kinds_match s p = go s.fixed
  where
    go : (x : Option Placement) → LegalBy s p x → T (kind_matches s.kind s.len (code_of p))
    go None h = form_matches s.kind s.len (code_of p) h.1
    go (Some q) h = h.1
