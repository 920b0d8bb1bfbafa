-- The rows of lanes after a split: second halves behind the last row, first halves in place, and the count. Assumes nothing.
use mathlib.Core.Path.{◌≡◌, refl, sym, ap, ◌∙◌}
use Prim.Native.Nat.{ℕ, suc, ◌+◌, ◌-◌, ◌*◌, ◌≤◌, ◌<◌}
use native.Mathlib.Omega.{arith}
use mathlib.Core.Bool.{Bool, true, false}
use mathlib.Core.List.{List, [], ◌∷◌, ◌++◌, append-nil}
use lib.ListN.{length, get_or, set, take, drop, length-append, length-drop, take-append-drop, drop_of_length-le}
use lib.Seq.{length-take-le, take_all, take_at, drop_at, drop-cons, drop-set-lt, set-set, set-get_or}
use borrow.Rule.Slice.PartMut.{put_mid}
use Rattle.lists.specs.Rows.{over}
use Rattle.tables.specs.View.{word, rows}
use Rattle.tables.specs.Formed.{counted, lane_formed}
use Rattle.row_tests.proofs.Tables.{row_of, table-room}
use Rattle.lookup.specs.Lookup.{row_at}
use Rattle.store.specs.Store.{writes}
use Rattle.store.specs.Rows.{map_rows, on_rows, appended_rows}
use Rattle.store.proofs.Rows.{front-over}
use Rattle.store.proofs.Back.{RowsFit, rows-fit-append}
use Rattle.store.proofs.Lists.{put-over}
use Rattle.store.proofs.Turns.{over-table}
use Rattle.store.proofs.Growing.{appended-count, appended-none, appended-length, appended_then, appended_one}
use Rattle.mentions.proofs.Turns.{row-there}
use Rattle.mentions.proofs.Whole.{kept, rows_long}
use Rattle.merge_draw.proofs.Turns.{Keeping}
use Rattle.split_plan.specs.Placing.{picked, marked_rows}
use Rattle.split_plan.proofs.Marked.{picked_none, pick-one, pick-none, pick-rest}
use Rattle.split_rows.specs.Halves.{second_row, lane_cut, Halved, RowCuts}
use Rattle.split_rows.proofs.Written.{second-long, lane-long}
use Rattle.split_tables.specs.Cut.{ranked, second_onto, halves_put, lanes_cut, RowsCut, LanesCut}
use Rattle.split_tables.proofs.Behind.{row-among, front_kept, appended-row, read-row, rows-many, map-front}

-- ---- one second half

-- a row copied over as many words
copied : (z x : List ℕ) → length z ≡ 52 → length x ≡ 52 → over z 0 x ≡ x
copied z x h k = let l : length z ≤ 52 = omega arith in front-over 52 z x k ∙ (ap (λ y. x ++ y) (drop_of_length-le z l) ∙ append-nil x)

module _ (t : List ℕ) (i at : ℕ) (l : i < at) (room : 1 + at * 52 + 52 ≤ length t) where
  row_words : (k : ℕ) → 1 + k * 52 + 52 ≤ length t → length (row_at 52 t k) ≡ 52
  row_words k r = length-take-le 52 (drop (1 + k * 52) t) (rw length-drop (omega arith))

  module _ (z o : List ℕ) (h : length z ≡ 52) (e : o ≡ over z 0 (row_of 52 t i)) where
    pub old_row : o ≡ row_at 52 t i
    old_row = e ∙ (ap (over z 0) (row-there 52 t i) ∙ copied z (row_at 52 t i) h (row_words i (omega arith)))

    pub old-long : length o ≡ 52
    old-long = ap length old_row ∙ row_words i (omega arith)

    pub onto-long : length (row_of 52 t at) ≡ 52
    onto-long = ap length (row-there 52 t at) ∙ row_words at room

    pub half-put : (g : List ℕ → List ℕ → List ℕ) (v : List ℕ) → length v ≡ length (row_of 52 t at) → v ≡ g o (row_of 52 t at)
        → put_mid (1 + at * 52) (1 + at * 52 + 52 - (1 + at * 52)) t v ≡ over t (1 + at * 52) (g (row_at 52 t i) (row_at 52 t at))
    half-put g v n q =
        let k : 1 + at * 52 + length v ≡ 1 + at * 52 + 52 = omega (arith, n, onto-long) in
        put-over t v (1 + at * 52) (1 + at * 52 + 52) k (omega arith)
        ∙ ap (over t (1 + at * 52)) (q ∙ (ap (λ y. g y (row_of 52 t at)) old_row ∙ ap (g (row_at 52 t i)) (row-there 52 t at)))

-- ---- second halves one after the other

ranked-more : (r : ℕ) (ws : List (List ℕ)) (w : List ℕ) → ranked r (ws ++ (w ∷ [])) ≡ ranked r ws ++ ((r + length ws, w) ∷ [])
unfolding ranked
ranked-more r [] w = let e : r + 0 ≡ r = omega arith in rw e
ranked-more r (v ∷ ws) w = let e : suc r + length ws ≡ r + suc (length ws) = omega arith in ap (λ z. (r, v) ∷ z) (ranked-more (suc r) ws w ∙ rw e)

pub ranked-many : (r : ℕ) (ws : List (List ℕ)) → length (ranked r ws) ≡ length ws
unfolding ranked
ranked-many r [] = refl
ranked-many r (w ∷ ws) = ap suc (ranked-many (suc r) ws)

-- the rows of marked lanes before row i
abbrev marked : List Bool → List ℕ → ℕ → List (List ℕ)
marked seen t i = picked seen (take i (rows 52 (λ w. w) t))

-- a record whose lane is a formed row
abbrev Formed : List ℕ → ℕ × List ℕ → Type 0
Formed w r = (length r.1 ≡ 52) × (lane_formed r.1 ≡ true)

-- their second halves stand behind the last row, and the count is as it was
pub record Halving (pieces : List ℕ) (m : ℕ) (cut : List ℕ) (next : ℕ) (centers : List ℕ) (seen : List Bool) (t₀ t : List ℕ) (rank i : ℕ) : Type 0 where
  pub upto : i ≤ word 0 t₀
  pub many : rank ≡ length (marked seen t₀ i)
  pub long : length t ≡ length t₀
  pub fits : RowsFit 52 Formed (drop (word 0 t₀ * 52) (drop 1 t₀)) (ranked 0 (marked seen t₀ i))
  pub words : t ≡ set (appended_rows 52 (second_onto pieces m cut next centers) (ranked 0 (marked seen t₀ i)) t₀) 0 (word 0 t₀)

module _ (pieces : List ℕ) (m : ℕ) (cut : List ℕ) (next : ℕ) (centers : List ℕ) (seen : List Bool) (t₀ : List ℕ) (f : LanesCut pieces m cut next centers seen t₀) where
  abbrev onto : List ℕ → ℕ × List ℕ → List ℕ
  onto = second_onto pieces m cut next centers

  abbrev every : List (List ℕ)
  every = rows 52 (λ w. w) t₀

  abbrev before : ℕ → List (ℕ × List ℕ)
  before i = ranked 0 (marked seen t₀ i)

  room₀ : 1 + word 0 t₀ * 52 ≤ length t₀
  room₀ = table-room 1024 52 t₀ f.counts

  pub halving_none : Halving pieces m cut next centers seen t₀ t₀ 0 0
  halving_none =
      let e : marked seen t₀ 0 ≡ [] = picked_none seen in
      record {
        upto = omega arith;
        many = rw e;
        long = refl;
        fits = rw e (unfold ranked RowsFit in refl);
        words = rw e (unfold ranked in sym (ap (λ z. set z 0 (word 0 t₀)) (appended-none 52 onto t₀ (omega (arith, room₀))) ∙ set-get_or t₀ 0 0));
      }

  onto-long_as : (w : List ℕ) → length w ≡ 52 → (r : ℕ × List ℕ) → Formed w r → length (onto w r) ≡ 52
  onto-long_as w h r g = second-long pieces m cut next centers r.0 r.1 w h g.0 g.1

  module _ (t : List ℕ) (rank i : ℕ) (a : Halving pieces m cut next centers seen t₀ t rank i) where
    module _ (l : i < word 0 t₀) where
      short : i < length every
      short = omega (arith, rows-many 52 t₀)

      pub seen-there : i < length seen
      seen-there = omega (arith, f.marked)

      pub halving_skip : get_or seen i false ≡ false → (v : List ℕ) (k : ℕ) → v ≡ t → k ≡ rank → Halving pieces m cut next centers seen t₀ v k (i + 1)
      halving_skip q v k p o =
          let e : marked seen t₀ (i + 1) ≡ marked seen t₀ i = pick-none seen every i [] short seen-there q in
          record { upto = omega arith; many = rw e (o ∙ a.many); long = ap length p ∙ a.long; fits = rw e a.fits; words = rw e (p ∙ a.words) }

      module _ (q : get_or seen i false ≡ true) where
        abbrev row₀ : List ℕ
        row₀ = row_at 52 t₀ i

        abbrev behind : List ℕ
        behind = drop (word 0 t₀ * 52) (drop 1 t₀)

        read : get_or every i [] ≡ row₀
        read = read-row 52 t₀ i l

        step : marked seen t₀ (i + 1) ≡ marked seen t₀ i ++ (row₀ ∷ [])
        step = pick-one seen every i [] short seen-there q ∙ rw read

        pub halving_few : rank < length cut
        halving_few =
            let rest = picked (drop (i + 1) seen) (drop (i + 1) every) in
            omega
            (arith, f.many, ap length (pick-rest seen every i [] short seen-there q), length-append (marked seen t₀ i) (get_or every i [] ∷ rest), a.many)

        ranks : before (i + 1) ≡ before i ++ ((rank, row₀) ∷ [])
        ranks =
            let e : 0 + length (marked seen t₀ i) ≡ rank = omega (arith, a.many) in
            ap (ranked 0) step ∙ (ranked-more 0 (marked seen t₀ i) row₀ ∙ ap (λ k. before i ++ ((k, row₀) ∷ [])) e)

        number : length (before i) ≡ rank
        number = ranked-many 0 (marked seen t₀ i) ∙ sym a.many

        so_far : (word 0 t₀ + length (before i)) * 52 ≤ length (drop 1 t₀)
        so_far = rw (length-drop, number) (omega (arith, halving_few, f.room))

        abbrev u : List ℕ
        u = appended_rows 52 onto (before i) t₀

        u-count : word 0 u ≡ word 0 t₀ + rank
        u-count = appended-count 52 onto (before i) t₀ ∙ ap (λ k. word 0 t₀ + k) number

        u-long : length u ≡ length t₀
        u-long = appended-length 52 onto Formed onto-long_as t₀ (before i) so_far a.fits (omega (arith, room₀))

        behind-head : (k : ℕ) → row_at 52 t k ≡ row_at 52 u k
        behind-head k = ap (λ z. row_at 52 z k) a.words ∙ ap (take 52) (drop-set-lt (1 + k * 52) u 0 (word 0 t₀) (omega arith))

        same_row : row_at 52 t i ≡ row₀
        same_row = behind-head i ∙ appended-row 52 t₀ room₀ onto (before i) i l

        good : RowCuts next row₀
        good = f.rows i l

        pub halving_asks : (Halved pieces m cut next centers) × ((rank < length cut) × ((i < word 0 t₀ + rank) × ((1 + (word 0 t₀ + rank) * 52 + 52 ≤ length t) × (lane_formed (row_at 52 t i) ≡ true))))
        halving_asks = (f.halved, (halving_few, (omega arith, (omega (arith, halving_few, a.long, f.room), ap lane_formed same_row ∙ good.formed))))

        abbrev place : ℕ
        place = 1 + (word 0 t₀ + rank) * 52

        abbrev half : List ℕ
        half = second_row pieces m cut next centers rank row₀ (row_at 52 u (word 0 t₀ + rank))

        half-long : length half ≡ 52
        half-long =
            let r : length (row_at 52 u (word 0 t₀ + rank)) ≡ 52 =
            length-take-le 52 (drop place u) (rw (length-drop, u-long) (omega (arith, halving_few, f.room))) in
            second-long pieces m cut next centers rank row₀ (row_at 52 u (word 0 t₀ + rank)) r good.words good.formed

        one_more : appended_rows 52 onto (before (i + 1)) t₀ ≡ set (over u place half) 0 (word 0 u + 1)
        one_more =
            let r : 1 + (word 0 u + 1) * 52 ≤ length u = rw (u-count, u-long) (omega (arith, halving_few, f.room)) in
            let h : length (onto (take 52 (drop (1 + word 0 u * 52) u)) (rank, row₀)) ≡ 52 = rw u-count half-long in
            ap (λ z. appended_rows 52 onto z t₀) ranks
            ∙ (appended_then 52 onto Formed onto-long_as t₀ (before i) so_far a.fits ((rank, row₀) ∷ [])
            ∙ (appended_one 52 onto u (rank, row₀) r h ∙ ap (λ k. set (over u (1 + k * 52) (second_row pieces m cut next centers rank row₀ (row_at 52 u k))) 0 (word 0 u + 1)) u-count))

        -- the count is written over and the row lies behind it
        behind-count : over (set u 0 (word 0 t₀)) place half ≡ set (over u place half) 0 (word 0 t₀)
        behind-count =
            let e : u ≡ word 0 u ∷ drop 1 u = drop-cons u 0 0 (omega (arith, u-long, room₀)) in
            ap (λ z. over (set z 0 (word 0 t₀)) place half) e
            ∙ (over-table (word 0 t₀) (drop 1 u) ((word 0 t₀ + rank) * 52) half
            ∙ sym (ap (λ z. set (over z place half) 0 (word 0 t₀)) e ∙ ap (λ z. set z 0 (word 0 t₀)) (over-table (word 0 u) (drop 1 u) ((word 0 t₀ + rank) * 52) half)))

        pub halving_turn : (v : List ℕ) (k : ℕ) → length v ≡ length t → k ≡ rank + 1
            → v ≡ over t place (second_row pieces m cut next centers rank (row_at 52 t i) (row_at 52 t (word 0 t₀ + rank))) → Halving pieces m cut next centers seen t₀ v k (i + 1)
        halving_turn v k n o e =
            record {
              upto = omega arith;
              many = rw (step, length-append) (omega (arith, o, a.many));
              long = n ∙ a.long;
              fits = rw ranks (rows-fit-append 52 Formed behind (before i) ((rank, row₀) ∷ []) a.fits (unfold RowsFit in ((good.words, good.formed), refl)));
              words =
                  e
                  ∙ (ap (λ z. over t place (second_row pieces m cut next centers rank z (row_at 52 t (word 0 t₀ + rank)))) same_row
                  ∙ (ap (λ z. over t place (second_row pieces m cut next centers rank row₀ z)) (behind-head (word 0 t₀ + rank))
                  ∙ (ap (λ z. over z place half) a.words
                  ∙ (behind-count ∙ sym (ap (λ z. set z 0 (word 0 t₀)) one_more ∙ set-set (over u place half) 0 (word 0 u + 1) (word 0 t₀))))));
            }

    pub halving_all : word 0 t₀ ≤ i → t ≡ halves_put pieces m cut next centers seen t₀
    unfolding halves_put appended_rows
    halving_all l =
        let e : take i every ≡ every = take_all i every (omega (arith, rows-many 52 t₀)) in
        a.words ∙ ap (λ z. set (appended_rows 52 onto (ranked 0 (picked seen z)) t₀) 0 (word 0 t₀)) e

-- ---- every row that is counted

module _ (pieces : List ℕ) (m : ℕ) (cut : List ℕ) (next : ℕ) (centers : List ℕ) (t : List ℕ) (h : Halved pieces m cut next centers) (rs : RowsCut next t) where
  pub cut_keeps : Keeping 52 (lane_cut pieces m cut next centers) t
  cut_keeps j l = lane-long pieces m cut next centers (row_at 52 t j) (rs j l) h.cuts

  pub row-asks : (j : ℕ) → j < word 0 t → (r : List ℕ) → r ≡ row_at 52 t j → (Halved pieces m cut next centers) × (RowCuts next r)
  row-asks j l r e = rw e (h, rs j l)

-- ---- both

module _ (pieces : List ℕ) (m : ℕ) (cut : List ℕ) (next : ℕ) (centers : List ℕ) (seen : List Bool) (t : List ℕ) (f : LanesCut pieces m cut next centers seen t)
    (u : List ℕ) (e : u ≡ halves_put pieces m cut next centers seen t) (long : length u ≡ length t) where
  abbrev g : List ℕ → List ℕ
  g = lane_cut pieces m cut next centers

  abbrev size : ℕ
  size = word 0 t * 52

  abbrev w : List ℕ
  w = drop 1 t

  abbrev new : List (ℕ × List ℕ)
  new = ranked 0 (marked_rows seen t)

  abbrev halves : List ℕ
  halves = writes 52 (second_onto pieces m cut next centers) (drop size w) new

  table : 1 + word 0 t * 52 ≤ length t
  table = table-room 1024 52 t f.counts

  put-words : u ≡ word 0 t ∷ take size w ++ halves
  unfolding halves_put
  put-words = e

  put_count : word 0 u ≡ word 0 t
  put_count = ap (word 0) put-words

  put-row : (j : ℕ) → j < word 0 t → row_at 52 u j ≡ row_at 52 t j
  put-row j l = ap (λ z. row_at 52 z j) put-words ∙ front_kept 52 t table (word 0 t) halves j l

  pub lanes_ask : (Halved pieces m cut next centers) × ((counted 1024 52 u ≡ true) × RowsCut next u)
  lanes_ask =
      (f.halved, (rw (long, put_count) f.counts, λ j l. let k : j < word 0 t = omega (arith, put_count) in rw (put-row j k) (f.rows j k)))

  words_long : size ≤ length w
  words_long = rw length-drop (omega (arith, table))

  front_long : length (take size w) ≡ size
  front_long = length-take-le size w words_long

  all-kept : kept 52 g (word 0 t) w
  all-kept j l = ap (λ z. length (g z)) (sym (row-among 52 t j)) ∙ lane-long pieces m cut next centers (row_at 52 t j) (f.rows j l) f.halved.cuts

  -- the rows changed, and what lies behind them
  changed : map_rows 52 g (word 0 t) w ≡ map_rows 52 g (word 0 t) (take size w) ++ drop size w
  changed = ap (map_rows 52 g (word 0 t)) (sym (take-append-drop size w)) ∙ map-front 52 g (word 0 t) (take size w) (drop size w) front_long

  changed-long : length (map_rows 52 g (word 0 t) (take size w)) ≡ size
  changed-long =
      omega
      (arith, rows_long 52 g (word 0 t) w words_long all-kept, ap length changed, length-append (map_rows 52 g (word 0 t) (take size w)) (drop size w), length-drop size w, words_long)

  module _ (v : List ℕ) (q : v ≡ on_rows 52 g u) where
    cut-words : v ≡ word 0 t ∷ map_rows 52 g (word 0 t) (take size w) ++ halves
    unfolding on_rows
    cut-words =
        q ∙ (ap (on_rows 52 g) put-words ∙ ap (λ z. word 0 t ∷ z) (map-front 52 g (word 0 t) (take size w) halves front_long))

    pub cut-count : word 0 v ≡ word 0 t
    cut-count = ap (word 0) cut-words

    pub lanes-counted : set v 0 (word 0 v + length cut) ≡ lanes_cut pieces m cut next centers seen t
    unfolding lanes_cut appended_rows on_rows
    lanes-counted =
        let c : word 0 v + length cut ≡ word 0 t + length new = omega (arith, cut-count, ranked-many 0 (marked_rows seen t), f.many) in
        let x : take size (map_rows 52 g (word 0 t) w) ≡ map_rows 52 g (word 0 t) (take size w) =
        ap (take size) changed ∙ take_at (map_rows 52 g (word 0 t) (take size w)) (drop size w) size changed-long in
        let y : drop size (map_rows 52 g (word 0 t) w) ≡ drop size w =
        ap (drop size) changed ∙ drop_at (map_rows 52 g (word 0 t) (take size w)) (drop size w) size changed-long in
        ap (λ z. set v 0 z) c
        ∙ (ap (λ z. set z 0 (word 0 t + length new)) cut-words
        ∙ sym
        (ap (λ z. (word 0 t + length new) ∷ z ++ writes 52 (second_onto pieces m cut next centers) (drop size (map_rows 52 g (word 0 t) w)) new) x
        ∙ ap (λ z. (word 0 t + length new) ∷ map_rows 52 g (word 0 t) (take size w) ++ writes 52 (second_onto pieces m cut next centers) z new) y))
