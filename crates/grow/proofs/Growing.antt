-- A list of ids that gains each cut lane's second half: the pairs of cut lanes and their numbers, and one turn of the loop from the back. Assumes nothing.
use Rattle.std.specs.Prelude.{Option, None, Some}
use mathlib.Core.Path.{◌≡◌, refl, sym, ap, ◌∙◌}
use Prim.Native.Nat.{ℕ, zero, suc, ◌+◌, ◌-◌, ◌≤◌, ◌<◌}
use native.Mathlib.Numerals.{add-one}
use native.Mathlib.Omega.{arith}
use mathlib.Core.Bool.{Bool, true, false, ◌||◌, cond, true≢false}
use mathlib.Core.List.{List, [], ◌∷◌, ◌++◌, map, append-nil}
use lib.Dec.{eqb}
use lib.ListN.{length, get_or, set, take, drop, length-append, length-map, take-append-drop, drop_of_length-le}
use lib.Seq.{length-take-le, take_all, take-suc, take-take, get_or-take}
use borrow.Author.Tests.{eq-eqb, ne_eqb}
use Rattle.grow.specs.declared.Moved.{Moved}
use Rattle.lists.specs.Select.{keep, any, find, each, has, second_of, with_second, insert_after, numbered, behind_first, written_behind}
use Rattle.lists.specs.Rows.{over, keys, later, row_with}
use Rattle.grow.specs.Moves.{moved_to}
use Rattle.lists.proofs.Booleans.{or_left, or_right}
use Rattle.lists.proofs.Select.{any_append, second-lacks, after-cons, after-append, after_more, after-step, after-still, length-after, behind-append, behind-none, length-behind, some-kept}
use Rattle.lists.proofs.Rows.{length_over, get_d_over-before, over-nil, over-front, over-ahead, over-kept, store_at, store-before, one_found}

-- ---- ids beside their numbers

-- the number of the row that was found
abbrev pub number_at : ℕ → Option ℕ → Option ℕ
number_at next (Some r) = Some (next + r)
number_at next None = None

pub firsts-numbered : (next : ℕ) (cut : List ℕ) → map (λ h. h.0) (numbered next cut) ≡ cut
unfolding numbered
firsts-numbered next [] = refl
firsts-numbered next (c ∷ cut) = ap (λ (cs : List ℕ). c ∷ cs) (firsts-numbered (suc next) cut)

pub length-numbered : (next : ℕ) (cut : List ℕ) → length (numbered next cut) ≡ length cut
unfolding numbered
length-numbered next [] = refl
length-numbered next (c ∷ cut) = ap suc (length-numbered (suc next) cut)

pub seconds-numbered : (next : ℕ) (cut : List ℕ) → length (map (λ h. h.1) (numbered next cut)) ≡ length cut
seconds-numbered next cut = length-map (numbered next cut) (λ h. h.1) ∙ length-numbered next cut

-- an id's number is counted from `next` on by its row
pub second-numbered : (next i : ℕ) (cut : List ℕ) → second_of (numbered next cut) i ≡ number_at next (row_with i cut)
unfolding numbered row_with find
second-numbered next i [] = refl
second-numbered next i (c ∷ cut) = go (eqb c i) (find (λ h. eqb h.0 i) (numbered (suc next) cut)) (row_with i cut) (second-numbered (suc next) i cut)
  where
    number : Option (ℕ × ℕ) → Option ℕ
    number o = elim o [ None ↦ None | Some h ↦ Some h.1 ]

    go : (b : Bool) (o : Option (ℕ × ℕ)) (r : Option ℕ) → number o ≡ number_at (suc next) r → number (cond b (Some (c, next)) o) ≡ number_at next (cond b (Some 0) (later r))
    go true o r h = let e : next ≡ next + 0 = omega arith in ap Some e
    go false o (Some r) h = let e : suc next + r ≡ next + suc r = omega arith in h ∙ ap Some e
    go false o None h = h

-- an id with its number behind it
abbrev beside : ℕ → Option ℕ → List ℕ
beside i None = i ∷ []
beside i (Some j) = i ∷ j ∷ []

by-beside : (hs : List (ℕ × ℕ)) (i : ℕ) (o : Option ℕ) → second_of hs i ≡ o → with_second hs i ≡ beside i o
by-beside hs i None e = ap (λ (q : Option ℕ). elim q as (λ p. List ℕ) [ None ↦ i ∷ [] | Some j ↦ i ∷ j ∷ [] ]) e
by-beside hs i (Some j) e = ap (λ (q : Option ℕ). elim q as (λ p. List ℕ) [ None ↦ i ∷ [] | Some k ↦ i ∷ k ∷ [] ]) e

module _ (next i : ℕ) (cut : List ℕ) where
  pub second-cut : (r : ℕ) → row_with i cut ≡ Some r → with_second (numbered next cut) i ≡ i ∷ (next + r) ∷ []
  second-cut r e = by-beside (numbered next cut) i (Some (next + r)) (second-numbered next i cut ∙ ap (number_at next) e)

  pub second-uncut : row_with i cut ≡ None → with_second (numbered next cut) i ≡ i ∷ []
  second-uncut e = by-beside (numbered next cut) i None (second-numbered next i cut ∙ ap (number_at next) e)

-- ---- an id moved up with its second half

module _ (w cut : List ℕ) (next i to : ℕ) (h : i + 1 < to) (m : to ≤ length w) (f : Option ℕ) (e : f ≡ row_with (get_or w i 0) (keys 1 (length cut) cut)) where
  abbrev becomes : List ℕ
  becomes = with_second (numbered next cut) (get_or w i 0)

  pub moved-one : f ≡ None → (◌≡◌ {A = Moved} (record { to = to - 1; written = 1 }) (moved_to i to becomes)) × (set w (to - 1) (get_or w i 0) ≡ over w (to - 1) becomes)
  moved-one q =
      let u : becomes ≡ get_or w i 0 ∷ [] = second-uncut next (get_or w i 0) cut (one_found (get_or w i 0) cut f e ∙ q) in
      rw u (rw (ne_eqb (to - 1) i (λ z. omega arith)), store_at w (to - 1) (get_or w i 0) (omega arith))

  module _ (r : ℕ) (q : f ≡ Some r) where
    two : becomes ≡ get_or w i 0 ∷ (next + r) ∷ []
    two = second-cut next (get_or w i 0) cut r (one_found (get_or w i 0) cut f e ∙ q)

    put : set w (to - 1) (next + r) ≡ over w (to - 2 + 1) ((next + r) ∷ [])
    put = let n : to - 2 + 1 ≡ to - 1 = omega arith in rw n (store_at w (to - 1) (next + r) (omega arith))

    pub moved-met : i + 2 ≡ to → (◌≡◌ {A = Moved} (record { to = i; written = 1 }) (moved_to i to becomes)) × (set w (to - 1) (next + r) ≡ over w i becomes)
    moved-met g =
        let n : to - 2 ≡ i = omega arith in
        let k = put ∙ ap (λ (a : ℕ). over w (a + 1) ((next + r) ∷ [])) n ∙ over-kept w i ((next + r) ∷ []) 0 (omega arith) in
        rw two (rw (n, eq-eqb i i refl), k)

    pub moved-two : (i + 2 ≡ to → ⊥)
        → (◌≡◌ {A = Moved} (record { to = to - 2; written = 2 }) (moved_to i to becomes)) × (set (set w (to - 1) (next + r)) (to - 2) (get_or w i 0) ≡ over w (to - 2) becomes)
    moved-two g =
        let k = ap (λ (v : List ℕ). set v (to - 2) (get_or w i 0)) put ∙ store-before w (to - 2) ((next + r) ∷ []) (get_or w i 0) (omega arith) in
        rw two (rw (ne_eqb (to - 2) i (λ z. g (omega arith))), k)

-- how long the list becomes, by the count of cut ids
pub length_cut : (next : ℕ) (cut ids : List ℕ) → length (insert_after (numbered next cut) ids) ≡ length ids + length (keep (λ i. has i cut) ids)
length_cut next cut ids =
    length-after (numbered next cut) ids ∙ ap (λ (fs : List ℕ). length ids + length (keep (λ i. has i fs) ids)) (firsts-numbered next cut)

-- ---- how many ids are written

module _ (hs : List (ℕ × ℕ)) where
  abbrev first : ℕ → Bool
  first i = has i (map (λ h. h.0) hs)

  -- an id stands before its second half
  first_any : (z : ℕ) (o : Option ℕ) → first z ≡ true → any first (beside z o) ≡ true
  unfolding any
  first_any z None h = or_left (first z) false h
  first_any z (Some j) h = or_left (first z) (any first (j ∷ [])) h

  any-after : (xs : List ℕ) → any first xs ≡ true → any first (insert_after hs xs) ≡ true
  unfolding any
  any-after [] h = absurd (true≢false (sym h))
  any-after (z ∷ xs) h = rw (after-cons hs z xs, any_append first (with_second hs z) (insert_after hs xs)) (go (first z) refl (λ r. any-after xs r))
    where
      go : (b : Bool) → first z ≡ b → (any first xs ≡ true → any first (insert_after hs xs) ≡ true) → (any first (with_second hs z) || any first (insert_after hs xs)) ≡ true
      go true e r = or_left (any first (with_second hs z)) (any first (insert_after hs xs)) (ap (any first) (by-beside hs z (second_of hs z) refl) ∙ first_any z (second_of hs z) e)
      go false e r = or_right (any first (with_second hs z)) (any first (insert_after hs xs)) (r (rw e at h))

  -- of an id and its second half the second half stands behind the first cut lane
  first-behind : (z : ℕ) (o : Option ℕ) → first z ≡ true → length (behind_first first (beside z o)) ≡ length (beside z o) - 1
  unfolding behind_first
  first-behind z None h = rw h
  first-behind z (Some j) h = rw h

  second-behind : (z : ℕ) → length (behind_first first (with_second hs z)) ≡ length (with_second hs z) - 1
  second-behind z = go (first z) refl
    where
      go : (b : Bool) → first z ≡ b → length (behind_first first (with_second hs z)) ≡ length (with_second hs z) - 1
      go true e = rw (by-beside hs z (second_of hs z) refl) (first-behind z (second_of hs z) e)
      go false e = rw (second-lacks z hs e) (unfold behind_first in rw e)

  -- one id more: what it becomes is written, but the id itself where nothing before it is cut
  pub written-more : (xs : List ℕ) (z : ℕ)
      → written_behind hs (xs ++ (z ∷ [])) ≡ written_behind hs xs + cond (eqb (length (insert_after hs xs)) (length xs)) (length (with_second hs z) - 1) (length (with_second hs z))
  unfolding written_behind
  written-more xs z = ap (λ (u : List ℕ). length (behind_first first u)) grown ∙ go (any first xs) refl
    where
      u : List ℕ
      u = with_second hs z

      rest : List ℕ
      rest = insert_after hs xs

      grown : insert_after hs (xs ++ (z ∷ [])) ≡ rest ++ u
      grown = after-append hs xs (z ∷ []) ∙ ap (λ (v : List ℕ). rest ++ v) (after-cons hs z [] ∙ (unfold insert_after each in append-nil u))

      go : (b : Bool) → any first xs ≡ b → length (behind_first first (rest ++ u)) ≡ length (behind_first first rest) + cond (eqb (length rest) (length xs)) (length u - 1) (length u)
      go true e =
          let more : length xs < length rest = omega (arith, length-after hs xs, some-kept first xs e) in
          rw (behind-append first rest u, any-after xs e, length-append, ne_eqb (length rest) (length xs) (λ q. omega arith))
      go false e =
          let still : rest ≡ xs = after-still hs xs e in
          let n : any first rest ≡ false = ap (any first) still ∙ e in
          rw (behind-append first rest u, n, behind-none first rest n, eq-eqb (length rest) (length xs) (ap length still)) (omega (arith, second-behind z))

  -- a list that does not grow is the same, and nothing of it is written
  pub after_same : (xs : List ℕ) → length (insert_after hs xs) ≡ length xs → (insert_after hs xs ≡ xs) × (written_behind hs xs ≡ 0)
  unfolding written_behind
  after_same xs h = go (any first xs) refl
    where
      go : (b : Bool) → any first xs ≡ b → (insert_after hs xs ≡ xs) × (length (behind_first first (insert_after hs xs)) ≡ 0)
      go true e = absurd (omega (arith, length-after hs xs, some-kept first xs e))
      go false e = let still = after-still hs xs e in (still, ap (λ (ys : List ℕ). length (behind_first first ys)) still ∙ ap length (behind-none first xs e))

  pub written-few : (xs : List ℕ) → written_behind hs xs ≤ length (insert_after hs xs)
  unfolding written_behind
  written-few xs = length-behind first (insert_after hs xs)

-- ---- the loop: of the first n ids of w those from i on stand where they go, from `to` on, and `done` ids were written

pub record Grows (hs : List (ℕ × ℕ)) (w : List ℕ) (n : ℕ) (l : List ℕ) (i to done : ℕ) : Type 0 where
  pub few : i ≤ n
  pub front : i ≤ to
  pub room : to ≤ length w
  pub long : length l ≡ length w
  pub place : to ≡ length (insert_after hs (take i (take n w)))
  pub list : l ≡ over w to (insert_after hs (drop i (take n w)))
  pub written : written_behind hs (take n w) ≡ done + written_behind hs (take i (take n w))

module _ (hs : List (ℕ × ℕ)) (w : List ℕ) (n : ℕ) (b : n ≤ length w) (r : length (insert_after hs (take n w)) ≤ length w) where
  abbrev v : List ℕ
  v = take n w

  size : length v ≡ n
  size = length-take-le n w b

  -- before the first turn
  pub grows_start : (to : ℕ) → to ≡ length (insert_after hs v) → Grows hs w n w n to 0
  grows_start to t =
      let f : take n v ≡ v = take_all n v (omega (arith, size)) in
      let k : length v ≤ n = omega (arith, size) in
      let g : drop n v ≡ [] = drop_of_length-le v k in
      record {
        few = omega arith;
        front = omega (arith, size, length-after hs v);
        room = omega arith;
        long = refl;
        place = rw f t;
        list = rw g (unfold insert_after each in sym (over-nil w to));
        written = rw f (omega arith);
      }

  module _ (l : List ℕ) (i j to done : ℕ) (o : i + 1 ≡ j) (s : Grows hs w n l j to done) where
    split : insert_after hs v ≡ insert_after hs (take j v) ++ insert_after hs (drop j v)
    split = ap (insert_after hs) (sym (take-append-drop j v)) ∙ after-append hs (take j v) (drop j v)

    some-room : to + length (insert_after hs (drop j v)) ≤ length w
    some-room = omega (arith, s.place, ap length split ∙ length-append (insert_after hs (take j v)) (insert_after hs (drop j v)))

    read_back : get_or l i 0 ≡ get_or v i 0
    read_back =
        let h : i < n = omega (arith, s.few) in
        ap (λ (k : List ℕ). get_or k i 0) s.list
        ∙ (get_d_over-before w to (insert_after hs (drop j v)) i 0 (omega (arith, s.front)) s.room ∙ sym (get_or-take n w i 0 h))

    abbrev here : List ℕ
    here = with_second hs (get_or l i 0)

    at : i < length v
    at = omega (arith, size, s.few)

    same_here : with_second hs (get_or v i 0) ≡ here
    same_here = ap (with_second hs) (sym read_back)

    -- what the id becomes comes off the front, and goes before what is done
    before_here : insert_after hs (take j v) ≡ insert_after hs (take i v) ++ here
    before_here = ap (λ (k : ℕ). insert_after hs (take k v)) (sym o) ∙ (after_more hs v i at ∙ ap (λ (u : List ℕ). insert_after hs (take i v) ++ u) same_here)

    behind-here : insert_after hs (drop i v) ≡ here ++ insert_after hs (drop j v)
    behind-here = after-step hs v i at ∙ (ap (λ (u : List ℕ). u ++ insert_after hs (drop (i + 1) v)) same_here ∙ ap (λ (k : ℕ). here ++ insert_after hs (drop k v)) o)

    from : length (insert_after hs (take i v)) + length here ≡ to
    from = sym (s.place ∙ (ap length before_here ∙ length-append (insert_after hs (take i v)) here))

    written-here : written_behind hs v ≡ done + cond (eqb (to - length here) i) (length here - 1) (length here) + written_behind hs (take i v)
    written-here =
        let f : length (take i v) ≡ i = length-take-le i v (omega (arith, at)) in
        let h : to - length here ≡ length (insert_after hs (take i v)) = omega (arith, from) in
        let g : take j v ≡ take i v ++ (get_or l i 0 ∷ []) =
        ap (λ (k : ℕ). take k v) (sym o ∙ add-one i) ∙ (take-suc v i 0 at ∙ ap (λ (x : ℕ). take i v ++ (x ∷ [])) (sym read_back)) in
        let k = ap (written_behind hs) g ∙ written-more hs (take i v) (get_or l i 0) in
        let q : cond (eqb (length (insert_after hs (take i v))) (length (take i v))) (length here - 1) (length here) ≡ cond (eqb (to - length here) i) (length here - 1) (length here) =
        rw (f, h) in
        omega (arith, s.written)

    -- one turn
    pub grows-turn : (m : Moved) (k : List ℕ) → m ≡ moved_to i to here → k ≡ over l m.to here → Grows hs w n k i m.to (done + m.written)
    grows-turn m k e g =
        let x : m.to ≡ to - length here = ap (λ (z : Moved). z.to) e in
        let y : m.written ≡ cond (eqb (to - length here) i) (length here - 1) (length here) = ap (λ (z : Moved). z.written) e in
        let f : length (take i v) ≡ i = length-take-le i v (omega (arith, at)) in
        let made : k ≡ over w m.to (insert_after hs (drop i v)) =
        g ∙ (ap (λ (z : List ℕ). over z m.to here) s.list
        ∙ (over-ahead w m.to to here (insert_after hs (drop j v)) (omega (arith, from)) some-room ∙ ap (over w m.to) (sym behind-here))) in
        record {
          few = omega (arith, s.few);
          front = omega (arith, from, length-after hs (take i v));
          room = omega (arith, s.room);
          long = ap length made ∙ length_over w m.to (insert_after hs (drop i v)) (omega (arith, from, some-room, ap length behind-here ∙ length-append here (insert_after hs (drop j v))));
          place = omega (arith, from);
          list = made;
          written = rw y written-here;
        }

  -- a cut id is left in front
  pub grows_some : {l : List ℕ} {i to done : ℕ} → Grows hs w n l i to done → i < to → 1 ≤ i
  grows_some {i = zero} s h = absurd (none_left s.place h)
    where
      none_left : {to : ℕ} → to ≡ length (insert_after hs []) → 0 < to → ⊥
      none_left e h = let z : length (insert_after hs []) ≡ 0 = unfold insert_after each in refl in omega arith
  grows_some {i = suc i} s h = omega arith

  -- the places have met: no id before them is cut
  pub grows_end : (l : List ℕ) (i to done : ℕ) → Grows hs w n l i to done → to ≤ i → (done ≡ written_behind hs v) × (l ≡ over w 0 (insert_after hs v))
  grows_end l i to done s h =
      let f : length (take i v) ≡ i = length-take-le i v (omega (arith, size, s.few)) in
      let x : to ≡ i = omega (arith, s.front) in
      let same = after_same hs (take i v) (omega (arith, s.place)) in
      let k : insert_after hs v ≡ take i w ++ insert_after hs (drop i v) =
      ap (insert_after hs) (sym (take-append-drop i v)) ∙ (after-append hs (take i v) (drop i v)
      ∙ ap (λ (u : List ℕ). u ++ insert_after hs (drop i v)) (same.0 ∙ take-take i n w s.few)) in (
        omega (arith, s.written, same.1),
        s.list ∙ (ap (λ (q : ℕ). over w q (insert_after hs (drop i v))) x ∙ (over-front w i (insert_after hs (drop i v)) (omega (arith, s.room)) ∙ ap (over w 0) (sym k))),
      )
