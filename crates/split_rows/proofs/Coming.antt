-- Predecessors of a lane after a split: a cut lane's second half in its place, behind those that stay. Assumes nothing.
use Rattle.std.specs.Prelude.{Option, None, Some}
use mathlib.Core.Path.{◌≡◌, refl, sym, ap, ◌∙◌}
use Prim.Native.Nat.{ℕ, suc, ◌+◌, ◌≤◌, ◌<◌}
use native.Mathlib.Omega.{arith}
use mathlib.Core.Bool.{Bool, true, false, not, ◌||◌, cond, true≢false}
use mathlib.Core.List.{List, [], ◌∷◌, ◌++◌, map, append-nil}
use lib.Dec.{eqb, ltb}
use lib.ListN.{length, get_or, set, take, drop, length-append}
use lib.Seq.{length-take-le, take_all, get_or-take, get_or-drop}
use borrow.Author.Tests.{eqb-true, ltb-true}
use Rattle.lists.specs.Rows.{over, keys, later, row_with}
use Rattle.lists.specs.Select.{keep, each, has, above, ascending, numbered}
use Rattle.lists.proofs.Rows.{there, found-has, one_found, length_over, take-over, over-over, over-kept, over-nil, store-behind, get_d_over-behind}
use Rattle.lists.proofs.Select.{all-has, above-all, ascending-tail, keep-more, each_more}
use Rattle.rules.specs.Split.{came_from}
use Rattle.tables.specs.View.{word, ids_at}
use Rattle.store.specs.Rows.{set_list}
use Rattle.store.proofs.Lists.{ids-many}
use Rattle.grow.proofs.Growing.{firsts-numbered}
use Rattle.split_rows.specs.Halves.{Cuts, RowCame, came_row}

-- ---- second halves in the order of the ids

-- the second half of a lane that was found among the cut ones
abbrev number_in : ℕ → Option ℕ → List ℕ
number_in next (Some r) = (next + r) ∷ []
number_in next None = []

-- the second halves of the cut ones among ids, in the ids' order
unfoldable pub seconds_of : ℕ → List ℕ → List ℕ → List ℕ
seconds_of next cut ids = each (λ i. number_in next (row_with i cut)) ids

-- the others
unfoldable pub uncut_of : List ℕ → List ℕ → List ℕ
uncut_of cut ids = keep (λ i. not (has i cut)) ids

number-later : (next : ℕ) (r : Option ℕ) → number_in next (later r) ≡ number_in (suc next) r
number-later next (Some r) = let e : next + suc r ≡ suc next + r = omega arith in ap (λ n. n ∷ []) e
number-later next None = refl

lacks : (c i : ℕ) (ys : List ℕ) → above c ys ≡ true → i ≤ c → has i ys ≡ false
lacks c i ys a l = go (has i ys) refl
  where
    go : (b : Bool) → has i ys ≡ b → b ≡ false
    go true h = let g = ltb-true c i (all-has (ltb c) i ys (above-all c ys a) h) in absurd (omega arith)
    go false h = refl

not_found : (i : ℕ) (ks : List ℕ) → has i ks ≡ false → row_with i ks ≡ None
not_found i ks h = go (row_with i ks) (sym (found-has i ks) ∙ h)
  where
    go : (r : Option ℕ) → there r ≡ false → r ≡ None
    go (Some j) e = absurd (true≢false e)
    go None e = refl

module _ (c : ℕ) (cut : List ℕ) (up : above c cut ≡ true) (next : ℕ) where
  -- the smallest cut lane's second half comes first
  seconds-cons : (ids : List ℕ) → ascending ids ≡ true
      → seconds_of next (c ∷ cut) ids ≡ cond (has c ids) (next ∷ seconds_of (suc next) cut ids) (seconds_of (suc next) cut ids)
  unfolding seconds_of each row_with has ascending
  seconds-cons [] u = refl
  seconds-cons (i ∷ ids) u = go (seconds-cons ids (ascending-tail i ids u)) (eqb c i) refl (has c ids) refl
    where
      go : seconds_of next (c ∷ cut) ids ≡ cond (has c ids) (next ∷ seconds_of (suc next) cut ids) (seconds_of (suc next) cut ids)
          → (b : Bool) → eqb c i ≡ b → (h : Bool) → has c ids ≡ h
          → (number_in next (cond b (Some 0) (later (row_with i cut))) ++ seconds_of next (c ∷ cut) ids)
          ≡ cond (b || h) (next ∷ (number_in (suc next) (row_with i cut) ++ seconds_of (suc next) cut ids)) (number_in (suc next) (row_with i cut) ++ seconds_of (suc next) cut ids)
      go rest true e h g =
          let z : i ≡ c = sym (eqb-true c i e) in
          let n : row_with i cut ≡ None = not_found i cut (lacks c i cut up (omega arith)) in
          let a : has c ids ≡ false = lacks i c ids u (omega arith) in
          let o : next + 0 ≡ next = omega arith in
          rw (n, o, rest, a)
      go rest false e true g =
          let l : i < c = ltb-true i c (all-has (ltb i) c ids (above-all i ids u) g) in
          let n : row_with i cut ≡ None = not_found i cut (lacks c i cut up (omega arith)) in
          rw (n, rest, g)
      go rest false e false g = rw (number-later next (row_with i cut), rest, g)

seconds-none : (next : ℕ) (ids : List ℕ) → seconds_of next [] ids ≡ []
unfolding seconds_of each row_with
seconds-none next [] = refl
seconds-none next (i ∷ ids) = seconds-none next ids

-- ids and cut lanes both ascend, so the second halves come in the ids' own order
pub came-once : (next : ℕ) (cut ids : List ℕ) → ascending ids ≡ true → ascending cut ≡ true
    → map (λ h. h.1) (keep (λ h. has h.0 ids) (numbered next cut)) ≡ seconds_of next cut ids
unfolding numbered keep ascending
came-once next [] ids u v = sym (seconds-none next ids)
came-once next (c ∷ cut) ids u v = go (came-once (suc next) cut ids u (ascending-tail c cut v)) (has c ids) ∙ sym (seconds-cons c cut v next ids u)
  where
    rest : List (ℕ × ℕ)
    rest = keep (λ h. has h.0 ids) (numbered (suc next) cut)

    go : map (λ h. h.1) rest ≡ seconds_of (suc next) cut ids
        → (b : Bool) → map (λ (h : ℕ × ℕ). h.1) (cond b ((c, next) ∷ rest) rest) ≡ cond b (next ∷ seconds_of (suc next) cut ids) (seconds_of (suc next) cut ids)
    go less true = ap (λ xs. next ∷ xs) less
    go less false = less

pub came_from_lem : (next : ℕ) (cut ids : List ℕ) → ascending ids ≡ true → ascending cut ≡ true → came_from (numbered next cut) ids ≡ uncut_of cut ids ++ seconds_of next cut ids
unfolding came_from uncut_of
came_from_lem next cut ids u v = rw (firsts-numbered next cut, came-once next cut ids u v)

-- as many as there were
pub came-many : (next : ℕ) (cut ids : List ℕ) → length (uncut_of cut ids) + length (seconds_of next cut ids) ≡ length ids
unfolding uncut_of seconds_of keep each
came-many next cut [] = refl
came-many next cut (i ∷ ids) = go (came-many next cut ids) (row_with i cut) (has i cut) (found-has i cut)
  where
    go : length (uncut_of cut ids) + length (seconds_of next cut ids) ≡ length ids
        → (r : Option ℕ) (b : Bool) → b ≡ there r → length (cond (not b) (i ∷ uncut_of cut ids) (uncut_of cut ids)) + length (number_in next r ++ seconds_of next cut ids) ≡ suc (length ids)
    go less (Some r) b e = rw e (omega (arith, less))
    go less None b e = rw e (omega (arith, less))

-- ---- one turn of the loop

-- the first i ids of row w are passed: those that stay stand at the front of the list, and the second halves of the others in an array s
pub record Coming (cut : List ℕ) (next : ℕ) (w s row seconds : List ℕ) (left came i : ℕ) : Type 0 where
  pub upto : i ≤ word 18 w
  pub kept : left ≡ length (uncut_of cut (take i (ids_at 18 w)))
  pub gone : came ≡ length (seconds_of next cut (take i (ids_at 18 w)))
  pub words : row ≡ over w 19 (uncut_of cut (take i (ids_at 18 w)))
  pub found : seconds ≡ over s 0 (seconds_of next cut (take i (ids_at 18 w)))

module _ (cut : List ℕ) (next : ℕ) (w s : List ℕ) (f : Cuts next cut) (r : RowCame w) (long : length s ≡ 16) where
  abbrev ids : List ℕ
  ids = ids_at 18 w

  few : word 18 w ≤ 16
  few = r.few

  many : length ids ≡ word 18 w
  many = ids-many w 18 (omega (arith, r.words, few))

  pub coming-none : Coming cut next w s w s 0 0 0
  unfolding uncut_of seconds_of keep each
  coming-none = record { upto = omega arith; kept = refl; gone = refl; words = sym (over-nil w 19); found = sym (over-nil s 0) }

  module _ (row seconds : List ℕ) (left came i : ℕ) (c : Coming cut next w s row seconds left came i) where
    coming-all : left + came ≡ i
    coming-all = omega (arith, c.kept, c.gone, came-many next cut (take i ids), length-take-le i ids (omega (arith, many, c.upto)))

    row-long : length row ≡ 52
    row-long = ap length c.words ∙ (length_over w 19 (uncut_of cut (take i ids)) (omega (arith, c.kept, coming-all, c.upto, few, r.words)) ∙ r.words)

    seconds-long : length seconds ≡ 16
    seconds-long = ap length c.found ∙ (length_over s 0 (seconds_of next cut (take i ids)) (omega (arith, c.gone, coming-all, c.upto, few)) ∙ long)

    pub coming-bounds : (length row ≡ 52) × ((length seconds ≡ 16) × ((left + came ≡ i) × (word 18 w ≤ 16)))
    coming-bounds = (row-long, (seconds-long, (coming-all, few)))

    module _ (l : i < word 18 w) where
      short : i < length ids
      short = omega (arith, many)

      read : word (19 + i) row ≡ get_or ids i 0
      read =
          ap (word (19 + i)) c.words
          ∙ (get_d_over-behind w 19 (uncut_of cut (take i ids)) (19 + i) 0 (omega (arith, c.kept, coming-all)) (omega (arith, c.kept, coming-all, few, r.words))
          ∙ (sym (get_or-drop 19 w i 0) ∙ sym (get_or-take (word 18 w) (drop 19 w) i 0 l)))

      module _ (q : Option ℕ) (e : q ≡ row_with (word (19 + i) row) (keys 1 (length cut) cut)) where
        place : row_with (get_or ids i 0) cut ≡ q
        place = ap (λ j. row_with j cut) (sym read) ∙ one_found (word (19 + i) row) cut q e

        is_cut : has (get_or ids i 0) cut ≡ there q
        is_cut = found-has (get_or ids i 0) cut ∙ ap there place

        seconds-more : seconds_of next cut (take (i + 1) ids) ≡ seconds_of next cut (take i ids) ++ number_in next q
        unfolding seconds_of
        seconds-more = each_more (λ j. number_in next (row_with j cut)) ids i 0 short ∙ ap (λ z. seconds_of next cut (take i ids) ++ number_in next z) place

        uncut-more : uncut_of cut (take (i + 1) ids) ≡ uncut_of cut (take i ids) ++ cond (not (there q)) (get_or ids i 0 ∷ []) []
        unfolding uncut_of
        uncut-more =
            keep-more (λ j. not (has j cut)) ids i 0 short
            ∙ ap (λ z. uncut_of cut (take i ids) ++ cond (not z) (get_or ids i 0 ∷ []) []) is_cut

        turn-cut : (x : ℕ) → q ≡ Some x → Coming cut next w s row (set seconds came (next + x)) left (came + 1) (i + 1)
        turn-cut x t =
            let a : uncut_of cut (take (i + 1) ids) ≡ uncut_of cut (take i ids) = uncut-more ∙ (ap (λ z. uncut_of cut (take i ids) ++ cond (not (there z)) (get_or ids i 0 ∷ []) []) t ∙ append-nil (uncut_of cut (take i ids))) in
            let b : seconds_of next cut (take (i + 1) ids) ≡ seconds_of next cut (take i ids) ++ ((next + x) ∷ []) = seconds-more ∙ ap (λ z. seconds_of next cut (take i ids) ++ number_in next z) t in
            record {
              upto = omega arith;
              kept = rw a c.kept;
              gone = rw (b, length-append) (omega (arith, c.gone));
              words = rw a c.words;
              found = rw b (ap (λ z. set z came (next + x)) c.found ∙ store-behind s 0 came (seconds_of next cut (take i ids)) (next + x) (omega (arith, c.gone)) (omega (arith, coming-all, few)));
            }

        turn-stays : q ≡ None → Coming cut next w s (set row (19 + left) (word (19 + i) row)) seconds (left + 1) came (i + 1)
        turn-stays t =
            let a : uncut_of cut (take (i + 1) ids) ≡ uncut_of cut (take i ids) ++ (word (19 + i) row ∷ []) =
            uncut-more ∙ (ap (λ z. uncut_of cut (take i ids) ++ cond (not (there z)) (get_or ids i 0 ∷ []) []) t ∙ ap (λ z. uncut_of cut (take i ids) ++ (z ∷ [])) (sym read)) in
            let b : seconds_of next cut (take (i + 1) ids) ≡ seconds_of next cut (take i ids) = seconds-more ∙ (ap (λ z. seconds_of next cut (take i ids) ++ number_in next z) t ∙ append-nil (seconds_of next cut (take i ids))) in
            record {
              upto = omega arith;
              kept = rw (a, length-append) (omega (arith, c.kept));
              gone = rw b c.gone;
              words =
                  rw a
                  (ap (λ z. set z (19 + left) (word (19 + i) row)) c.words
                  ∙ store-behind w 19 (19 + left) (uncut_of cut (take i ids)) (word (19 + i) row) (omega (arith, c.kept)) (omega (arith, coming-all, few, r.words)));
              found = rw b c.found;
            }

        module _ (u v : List ℕ) (m n : ℕ) where
          pub coming-cut : (x : ℕ) → q ≡ Some x → u ≡ row → v ≡ set seconds came (next + x) → m ≡ left → n ≡ came + 1 → Coming cut next w s u v m n (i + 1)
          coming-cut x t a b d g = rw (a, b, d, g) (turn-cut x t)

          pub coming-stays : q ≡ None → u ≡ set row (19 + left) (word (19 + i) row) → v ≡ seconds → m ≡ left + 1 → n ≡ came → Coming cut next w s u v m n (i + 1)
          coming-stays t a b d g = rw (a, b, d, g) (turn-stays t)

    -- the second halves behind those that stay: the list is as long as it was, so its count stays
    pub coming-done : word 18 w ≤ i → over row (19 + left) (take came seconds) ≡ came_row cut next w
    unfolding set_list
    coming-done l =
        let whole : take i ids ≡ ids = take_all i ids (omega (arith, many)) in
        let a = uncut_of cut ids in
        let b = seconds_of next cut ids in
        let n : length (a ++ b) ≡ word 18 w = length-append a b ∙ (came-many next cut ids ∙ many) in
        let p : row ≡ over w 19 a = rw (← whole) c.words in
        let q : left ≡ length a = rw (← whole) c.kept in
        let z : came ≡ length b = rw (← whole) c.gone in
        let y : seconds ≡ over s 0 b = rw (← whole) c.found in
        let o : came ≡ 0 + length b = omega (arith, z) in
        let x : take came seconds ≡ b = ap (take came) y ∙ (ap (λ k. take k (over s 0 b)) o ∙ take-over s 0 b (omega (arith, z, coming-all, c.upto, few))) in
        ap (λ u. over u (19 + left) (take came seconds)) p
        ∙ (ap (over (over w 19 a) (19 + left)) x
        ∙ (over-over w 19 (19 + left) a b (omega (arith, q)) (omega (arith, coming-all, c.upto, few, r.words))
        ∙ (over-kept w 18 (a ++ b) 0 (omega (arith, n, few, r.words))
        ∙ (ap (λ k. over w 18 (k ∷ (a ++ b))) (sym n) ∙ sym (ap (λ u. over w 18 (length u ∷ u)) (came_from_lem next cut ids r.ascend f.ascend))))))

-- the row keeps its length
pub came-long : (cut : List ℕ) (next : ℕ) (w : List ℕ) → Cuts next cut → RowCame w → length (came_row cut next w) ≡ 52
unfolding set_list
came-long cut next w f r =
    let ids = ids_at 18 w in
    let bs = came_from (numbered next cut) ids in
    let n : length bs ≡ length ids =
    ap length (came_from_lem next cut ids r.ascend f.ascend) ∙ (length-append (uncut_of cut ids) (seconds_of next cut ids) ∙ came-many next cut ids) in
    let m : length ids ≡ word 18 w = ids-many w 18 (omega (arith, r.words, r.few)) in
    length_over w 18 (length bs ∷ bs) (omega (arith, n, m, r.words, r.few)) ∙ r.words
