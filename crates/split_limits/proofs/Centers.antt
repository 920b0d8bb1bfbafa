-- The points of the explicit centrelines after a split are as many as the numbers say, and the lines as short. Assumes nothing.
use Rattle.std.specs.Prelude.{Option, None, Some}
use mathlib.Core.Path.{◌≡◌, refl, sym, ap, ◌∙◌}
use Prim.Native.Nat.{ℕ, suc, ◌+◌, ◌*◌, ◌≤◌, ◌<◌}
use native.Mathlib.Omega.{arith}
use mathlib.Core.Bool.{Bool, true, false, not, ◌&&◌, ◌||◌, cond}
use mathlib.Core.List.{List, [], ◌∷◌, ◌++◌, map, map-append}
use lib.Dec.{eqb, leb, ltb}
use lib.Ieee.{Float}
use lib.ListN.{length, drop}
use borrow.Author.Tests.{ltb-true, leb-true, le-leb, eq-eqb, ne_eqb}
use Rattle.lists.specs.Every.{all}
use Rattle.lists.specs.Rows.{keys}
use Rattle.lists.specs.Select.{each, find, second_of, ascending}
use Rattle.lists.proofs.Booleans.{and-false, and-fst, and-snd}
use Rattle.lists.proofs.Every.{all_head, all_tail}
use Rattle.lists.proofs.Rows.{length-reads, mapped-reads}
use Rattle.lists.proofs.Select.{all_map, all_of, all-weaken, above-all, ascending-tail, map-twice}
use Rattle.entities.specs.Records.{Line, Lane, Map}
use Rattle.rules.specs.Sound.{total, optional_line}
use Rattle.rules.specs.Split.{LanePlan, Piece, halves, plan_for, uncut, first_half, cut_lane, second_halves, cut_map}
use Rattle.tables.specs.View.{word, mark, line_at, rows, lane_of}
use Rattle.tables.specs.Formed.{span_at, stored}
use Rattle.lookup.specs.Lookup.{points_or, centers_stored}
use Rattle.row_tests.proofs.Relations.{all-reads}
use Rattle.store.specs.Laid.{points_of}
use Rattle.layout.proofs.Standing.{line-long}
use Rattle.split_plan.specs.Placing.{picked}
use Rattle.split_room.specs.Fitting.{center_points, lane_points, pieces_fit}
use Rattle.split_laws.proofs.Chosen.{all-picked}
use Rattle.split_limits.proofs.Boundaries.{all_both, total-both}

-- points of a centreline, none where it is absent
abbrev size : Option Line → ℕ
size o = length (points_or o)

abbrev short : Option Line → Bool
short o = leb (size o) 256

-- row r of the measures of centrelines tells of a plan
pub record PlanTold (centers : List ℕ) (r : ℕ) (x : LanePlan) : Type 0 where
  pub first-size : word (r * 3 + 1) centers ≡ length (points_or x.first_center)
  pub second-size : word (r * 3 + 2) centers ≡ length (points_or x.second_center)

unfoldable pub AllPlans : List ℕ → ℕ → List LanePlan → Type 0
AllPlans centers r [] = ◌≡◌ {A = ℕ} 0 0
AllPlans centers r (x ∷ ps) = PlanTold centers r x × AllPlans centers (suc r) ps

module _ (c : List Float) (centers : List ℕ) (g : List ℕ → Option Line) where
  abbrev good : List ℕ → Bool
  good w = not (mark 6 w) || (stored c (span_at 7 w) && leb (word 8 w) 256)

  -- marked rows in turn are those of the plans from row r on, with the first pieces for centrelines; the others stay
  unfoldable Lined : ℕ → List Bool → List (List ℕ) → List LanePlan → Type 0
  Lined r [] [] ps = ps ≡ []
  Lined r [] (w ∷ ws) ps = ◌≡◌ {A = ℕ} 0 1
  Lined r (b ∷ bs) [] ps = ps ≡ []
  Lined r (false ∷ bs) (w ∷ ws) ps = (g w ≡ (lane_of c w).centerline) × Lined r bs ws ps
  Lined r (true ∷ bs) (w ∷ ws) [] = ◌≡◌ {A = ℕ} 0 1
  Lined r (true ∷ bs) (w ∷ ws) (x ∷ ps) = (g w ≡ x.first_center) × (PlanTold centers r x × Lined (suc r) bs ws ps)

  row-size : (w : List ℕ) → good w ≡ true → (size (lane_of c w).centerline ≡ center_points w) × (short (lane_of c w).centerline ≡ true)
  unfolding lane_of
  row-size w h = go (mark 6 w) h
    where
      go : (b : Bool) → (not b || (stored c (span_at 7 w) && leb (word 8 w) 256)) ≡ true
          → (size (cond b (Some (line_at c 7 w)) None) ≡ cond b (word 8 w) 0) × (short (cond b (Some (line_at c 7 w)) None) ≡ true)
      go true e = let l = line-long c (span_at 7 w) (and-fst (stored c (span_at 7 w)) (leb (word 8 w) 256) e) in (l, ap (λ n. leb n 256) l ∙ and-snd (stored c (span_at 7 w)) (leb (word 8 w) 256) e)
      go false e = (refl, refl)

  lane-points : (r : ℕ) (bs : List Bool) (ws : List (List ℕ)) (ps : List LanePlan) → Lined r bs ws ps → all good ws ≡ true
      → total (map (λ w. size (g w)) ws) + total (map (λ x. size x.second_center) ps) ≡ lane_points centers r bs ws
  unfolding Lined lane_points total
  lane-points r [] [] ps h s = rw h
  lane-points r [] (w ∷ ws) ps h s = absurd (omega (arith, h))
  lane-points r (b ∷ bs) [] ps h s = rw h
  lane-points r (false ∷ bs) (w ∷ ws) ps h s =
      let i = lane-points r bs ws ps h.1 (all_tail good w ws s) in
      let e : size (g w) ≡ center_points w = ap size h.0 ∙ (row-size w (all_head good w ws s)).0 in
      omega (arith, i, e)
  lane-points r (true ∷ bs) (w ∷ ws) [] h s = absurd (omega (arith, h))
  lane-points r (true ∷ bs) (w ∷ ws) (x ∷ ps) h s =
      let i = lane-points (suc r) bs ws ps h.1.1 (all_tail good w ws s) in
      let e : size (g w) ≡ size x.first_center = ap size h.0 in
      omega (arith, i, e, h.1.0.first-size, h.1.0.second-size)

  lane_lines : (r : ℕ) (bs : List Bool) (ws : List (List ℕ)) (ps : List LanePlan) → Lined r bs ws ps → all good ws ≡ true
      → (all (λ w. short (g w)) ws && all (λ x. short x.second_center) ps) ≡ pieces_fit centers r (length ps)
  unfolding Lined pieces_fit all
  lane_lines r [] [] ps h s = rw h
  lane_lines r [] (w ∷ ws) ps h s = absurd (omega (arith, h))
  lane_lines r (b ∷ bs) [] ps h s = rw h
  lane_lines r (false ∷ bs) (w ∷ ws) ps h s = rw (h.0, (row-size w (and-fst (good w) (all good ws) s)).1) (lane_lines r bs ws ps h.1 (and-snd (good w) (all good ws) s))
  lane_lines r (true ∷ bs) (w ∷ ws) [] h s = absurd (omega (arith, h))
  lane_lines r (true ∷ bs) (w ∷ ws) (x ∷ ps) h s =
      rw (h.0, h.1.0.first-size, h.1.0.second-size)
      (go (short x.first_center) (all (λ w. short (g w)) ws) (short x.second_center) (all (λ x. short x.second_center) ps) (pieces_fit centers (suc r) (length ps))
      (lane_lines (suc r) bs ws ps h.1.1 (and-snd (good w) (all good ws) s)))
    where
      go : (a r b n p : Bool) → (r && n) ≡ p → ((a && r) && (b && n)) ≡ (a && (b && p))
      go false r b n p e = refl
      go true r false n p e = and-false r
      go true r true n p e = e

-- ---- the cut of a map has them so

none-planned : (i : ℕ) (ps : List LanePlan) → all (λ x. ltb i x.of.id) ps ≡ true → plan_for ps i ≡ None
unfolding find all
none-planned i [] h = refl
none-planned i (x ∷ ps) h =
    let l = ltb-true i x.of.id (and-fst (ltb i x.of.id) (all (λ x. ltb i x.of.id) ps) h) in
    rw (ne_eqb x.of.id i (λ e. omega arith), none-planned i ps (and-snd (ltb i x.of.id) (all (λ x. ltb i x.of.id) ps) h))

second-there : (next i : ℕ) (ps : List LanePlan) (x : LanePlan) → plan_for ps i ≡ Some x → (j : ℕ) × (second_of (halves next ps) i ≡ Some j)
unfolding halves find
second-there next i [] x e = let z : ◌≡◌ {A = ℕ} 0 1 = cc in absurd (omega arith)
second-there next i (y ∷ ps) x e = go (eqb y.of.id i) (second-there (suc next) i ps x) e
  where
    go : (b : Bool) → (plan_for ps i ≡ Some x → (j : ℕ) × (second_of (halves (suc next) ps) i ≡ Some j)) → cond b (Some y) (plan_for ps i) ≡ Some x
        → (j : ℕ) × (◌≡◌ {A = Option ℕ} (elim (cond b (Some (y.of.id, next)) (find (λ h. eqb h.0 i) (halves (suc next) ps))) [ None ↦ None | Some h ↦ Some h.1 ]) (Some j))
    go true k q = (next, refl)
    go false k q = k q

module _ (c : List Float) (centers : List ℕ) (xs : List Piece) (next : ℕ) (qs : List LanePlan) where
  abbrev after : List ℕ → Option Line
  after w = (cut_lane qs xs (halves next qs) (lane_of c w)).centerline

  no-plans : (ps : List LanePlan) → [] ≡ map (λ x. x.of) ps → ps ≡ []
  no-plans [] e = refl
  no-plans (x ∷ ps) e = let z : ◌≡◌ {A = ℕ} 0 1 = cc in absurd (omega arith)

  stays-uncut : (l : Lane) → plan_for qs l.id ≡ None → cut_lane qs xs (halves next qs) l ≡ uncut (halves next qs) l
  stays-uncut l e =
      ap (λ (o : Option LanePlan). elim o [ None ↦ uncut (halves next qs) l | Some x ↦ elim (second_of (halves next qs) l.id) [ None ↦ uncut (halves next qs) l | Some j ↦ first_half xs (halves next qs) j x ] ]) e

  stays : (l : Lane) → plan_for qs l.id ≡ None → (cut_lane qs xs (halves next qs) l).centerline ≡ l.centerline
  stays l e = ap (λ (k : Lane). k.centerline) (stays-uncut l e)

  is-half : (l : Lane) (x : LanePlan) → plan_for qs l.id ≡ Some x → (j : ℕ) → second_of (halves next qs) l.id ≡ Some j → cut_lane qs xs (halves next qs) l ≡ first_half xs (halves next qs) j x
  is-half l x e j s = go (plan_for qs l.id) e (second_of (halves next qs) l.id) s
    where
      go : (o : Option LanePlan) → o ≡ Some x → (q : Option ℕ) → q ≡ Some j
          → ◌≡◌ {A = Lane} (elim o [ None ↦ uncut (halves next qs) l | Some x ↦ elim q [ None ↦ uncut (halves next qs) l | Some j ↦ first_half xs (halves next qs) j x ] ]) (first_half xs (halves next qs) j x)
      go None e q s = let z : ◌≡◌ {A = ℕ} 0 1 = cc in absurd (omega arith)
      go (Some y) e None s = let z : ◌≡◌ {A = ℕ} 0 1 = cc in absurd (omega arith)
      go (Some y) e (Some k) s = let a : y ≡ x = cc in let b : k ≡ j = cc in rw (a, b)

  drawn : (l : Lane) (x : LanePlan) → plan_for qs l.id ≡ Some x → (cut_lane qs xs (halves next qs) l).centerline ≡ x.first_center
  drawn l x e = let s = second-there next l.id qs x e in ap (λ (k : Lane). k.centerline) (is-half l x e s.0 s.1)

  id-is : (w : List ℕ) → (lane_of c w).id ≡ word 0 w
  unfolding lane_of
  id-is w = refl

  later : (i : ℕ) (bs : List Bool) (ws : List (List ℕ)) (ps : List LanePlan) → all (λ w. ltb i (word 0 w)) ws ≡ true → map (lane_of c) (picked bs ws) ≡ map (λ x. x.of) ps → all (λ x. ltb i x.of.id) ps ≡ true
  unfolding lane_of
  later i bs ws ps a whose =
      sym (all_map (λ (l : Lane). ltb i l.id) (λ (x : LanePlan). x.of) ps)
      ∙ (ap (all (λ (l : Lane). ltb i l.id)) (sym whose) ∙ (all_map (λ (l : Lane). ltb i l.id) (lane_of c) (picked bs ws) ∙ all-picked (λ w. ltb i (word 0 w)) bs ws a))

  here : (x : LanePlan) (ps : List LanePlan) (i : ℕ) → x.of.id ≡ i → plan_for (x ∷ ps) i ≡ Some x
  unfolding find
  here x ps i e = rw (eq-eqb x.of.id i e)

  skipped : (x : LanePlan) (ps : List LanePlan) (k : ℕ) → x.of.id < k → plan_for (x ∷ ps) k ≡ plan_for ps k
  unfolding find
  skipped x ps k l = rw (ne_eqb x.of.id k (λ e. omega arith))

  ids-above : (w : List ℕ) (ws : List (List ℕ)) → ascending (map (word 0) (w ∷ ws)) ≡ true → all (λ v. ltb (word 0 w) (word 0 v)) ws ≡ true
  unfolding ascending
  ids-above w ws up = sym (all_map (ltb (word 0 w)) (word 0) ws) ∙ above-all (word 0 w) (map (word 0) ws) up

  ids_up : (w : List ℕ) (ws : List (List ℕ)) → ascending (map (word 0) (w ∷ ws)) ≡ true → ascending (map (word 0) ws) ≡ true
  unfolding ascending
  ids_up w ws up = ascending-tail (word 0 w) (map (word 0) ws) up

  lined : (lo r : ℕ) (bs : List Bool) (ws : List (List ℕ)) (ps : List LanePlan) → ((k : ℕ) → lo ≤ k → plan_for qs k ≡ plan_for ps k)
      → all (λ w. leb lo (word 0 w)) ws ≡ true → ascending (map (word 0) ws) ≡ true → length ws ≤ length bs → map (lane_of c) (picked bs ws) ≡ map (λ x. x.of) ps → AllPlans centers r ps
      → Lined c centers after r bs ws ps
  unfolding Lined AllPlans picked
  lined lo r [] [] ps look near up l whose told = no-plans ps whose
  lined lo r [] (w ∷ ws) ps look near up l whose told = absurd (omega arith)
  lined lo r (b ∷ bs) [] ps look near up l whose told = no-plans ps whose
  lined lo r (false ∷ bs) (w ∷ ws) ps look near up l whose told =
      let i = word 0 w in
      let n : plan_for qs i ≡ None = look i (leb-true lo i (all_head (λ w. leb lo (word 0 w)) w ws near)) ∙ none-planned i ps (later i bs ws ps (ids-above w ws up) whose) in
      (stays (lane_of c w) (ap (plan_for qs) (id-is w) ∙ n), lined lo r bs ws ps look (all_tail (λ w. leb lo (word 0 w)) w ws near) (ids_up w ws up) (omega arith) whose told)
  lined lo r (true ∷ bs) (w ∷ ws) [] look near up l whose told = let z : ◌≡◌ {A = ℕ} 0 1 = cc in absurd (omega arith)
  lined lo r (true ∷ bs) (w ∷ ws) (x ∷ ps) look near up l whose told =
      let i = word 0 w in
      let o : lane_of c w ≡ x.of = cc in
      let t : map (lane_of c) (picked bs ws) ≡ map (λ x. x.of) ps = cc in
      let e : x.of.id ≡ i = ap (λ (l : Lane). l.id) (sym o) ∙ id-is w in
      let h = leb-true lo i (all_head (λ w. leb lo (word 0 w)) w ws near) in
      let p : plan_for qs i ≡ Some x = look i h ∙ here x ps i e in (
        drawn (lane_of c w) x (ap (plan_for qs) (id-is w) ∙ p),
        (
          told.0,
          lined (suc i) (suc r) bs ws ps (λ k g. look k (omega arith) ∙ skipped x ps k (omega arith))
              (all-weaken (λ v. ltb i (word 0 v)) (λ v. leb (suc i) (word 0 v)) ws (λ v t. let q = ltb-true i (word 0 v) t in le-leb (suc i) (word 0 v) (omega arith)) (ids-above w ws up)) (ids_up w ws up) (omega arith) t told.1,
        ),
      )

-- ---- the centrelines of a map after the cut

-- by their lanes
center_total : (ls : List Lane) → points_of (each (λ l. optional_line l.centerline) ls) ≡ total (map (λ l. length (points_or l.centerline)) ls)
unfolding each total
center_total [] = refl
center_total (l ∷ ls) = go l.centerline (center_total ls)
  where
    go : (o : Option Line) → points_of (each (λ l. optional_line l.centerline) ls) ≡ total (map (λ l. length (points_or l.centerline)) ls)
        → points_of (optional_line o ++ each (λ l. optional_line l.centerline) ls) ≡ length (points_or o) + total (map (λ l. length (points_or l.centerline)) ls)
    go None e = omega (arith, e)
    go (Some c) e = omega (arith, e)

center_all : (ls : List Lane) → all (λ c. leb (length c) 256) (each (λ l. optional_line l.centerline) ls) ≡ all (λ l. leb (length (points_or l.centerline)) 256) ls
unfolding each all
center_all [] = refl
center_all (l ∷ ls) = go l.centerline (center_all ls)
  where
    go : (o : Option Line) → all (λ c. leb (length c) 256) (each (λ l. optional_line l.centerline) ls) ≡ all (λ l. leb (length (points_or l.centerline)) 256) ls
        → all (λ c. leb (length c) 256) (optional_line o ++ each (λ l. optional_line l.centerline) ls) ≡ (leb (length (points_or o)) 256 && all (λ l. leb (length (points_or l.centerline)) 256) ls)
    go None e = e
    go (Some c) e = ap (λ b. leb (length c) 256 && b) e

module _ (xs : List Piece) (hs : List (ℕ × ℕ)) where
  half-centers : (n : ℕ) (ps : List LanePlan) → map (λ l. l.centerline) (second_halves xs hs n ps) ≡ map (λ x. x.second_center) ps
  unfolding second_halves
  half-centers n [] = refl
  half-centers n (x ∷ ps) = ap (λ ls. x.second_center ∷ ls) (half-centers (suc n) ps)

module _ (c : List Float) (centers : List ℕ) (m : Map) (ps : List LanePlan) (xs : List Piece) (next : ℕ) (t : List ℕ) (seen : List Bool)
    (own : m.lanes ≡ rows 52 (lane_of c) t) (up : ascending (keys 52 (word 0 t) (drop 1 t)) ≡ true) (there : word 0 t ≤ length seen)
    (whose : map (lane_of c) (picked seen (rows 52 (λ w. w) t)) ≡ map (λ x. x.of) ps) (told : AllPlans centers 0 ps) (fine : centers_stored c t ≡ true) where
  abbrev ws : List (List ℕ)
  ws = rows 52 (λ w. w) t

  abbrev firsts : List Lane
  firsts = map (cut_lane ps xs (halves next ps)) m.lanes

  abbrev seconds : List Lane
  seconds = second_halves xs (halves next ps) next ps

  rows-lined : Lined c centers (after c centers xs next ps) 0 seen ws ps
  unfolding rows keys
  rows-lined =
      lined c centers xs next ps 0 0 seen ws ps (λ k l. refl) (all_of (λ w. leb 0 (word 0 w)) ws (λ w q. le-leb 0 (word 0 w) (omega arith)))
      (ap ascending (mapped-reads 52 (λ (w : List ℕ). w) (word 0) (word 0 t) (drop 1 t)) ∙ up) (rw (length-reads 52 (λ (w : List ℕ). w) (word 0 t) (drop 1 t)) there) whose told

  rows-good : all (good c centers (after c centers xs next ps)) ws ≡ true
  unfolding rows centers_stored
  rows-good = all-reads 52 (λ (w : List ℕ). w) (good c centers (after c centers xs next ps)) (word 0 t) (drop 1 t) ∙ fine

  -- the centrelines of the first halves and of the uncut, and of the second halves
  firsts-are : map (λ l. l.centerline) firsts ≡ map (after c centers xs next ps) ws
  unfolding rows
  firsts-are =
      map-twice (cut_lane ps xs (halves next ps)) (λ (l : Lane). l.centerline) m.lanes
      ∙ (ap (map (λ l. (cut_lane ps xs (halves next ps) l).centerline)) (own ∙ sym (mapped-reads 52 (λ (w : List ℕ). w) (lane_of c) (word 0 t) (drop 1 t)))
      ∙ map-twice (lane_of c) (λ l. (cut_lane ps xs (halves next ps) l).centerline) ws)

  sums : (g : Option Line → ℕ) → map (λ l. g l.centerline) (firsts ++ seconds) ≡ map (λ w. g (after c centers xs next ps w)) ws ++ map (λ x. g x.second_center) ps
  sums g =
      map-append (λ (l : Lane). g l.centerline) firsts seconds
      ∙ (ap (λ ns. ns ++ map (λ l. g l.centerline) seconds) (sym (map-twice (λ (l : Lane). l.centerline) g firsts) ∙ (ap (map g) firsts-are ∙ map-twice (after c centers xs next ps) g ws))
      ∙ ap (λ ns. map (λ w. g (after c centers xs next ps w)) ws ++ ns) (sym (map-twice (λ (l : Lane). l.centerline) g seconds) ∙ (ap (map g) (half-centers xs (halves next ps) next ps) ∙ map-twice (λ (x : LanePlan). x.second_center) g ps)))

  pub centers-cut : points_of (each (λ l. optional_line l.centerline) (cut_map m ps xs (halves next ps) next).lanes) ≡ lane_points centers 0 seen (rows 52 (λ w. w) t)
  unfolding cut_map
  centers-cut =
      center_total (firsts ++ seconds)
      ∙ (ap total (sums (λ o. length (points_or o)))
      ∙ (total-both (map (λ w. length (points_or (after c centers xs next ps w))) ws) (map (λ x. length (points_or x.second_center)) ps)
      ∙ lane-points c centers (after c centers xs next ps) 0 seen ws ps rows-lined rows-good))

  pub center_lines-cut : all (λ c. leb (length c) 256) (each (λ l. optional_line l.centerline) (cut_map m ps xs (halves next ps) next).lanes) ≡ pieces_fit centers 0 (length ps)
  unfolding cut_map
  center_lines-cut =
      let p : Option Line → Bool = λ o. leb (length (points_or o)) 256 in
      let f = sym (all_map p (λ (l : Lane). l.centerline) firsts) ∙ (ap (all p) firsts-are ∙ all_map p (after c centers xs next ps) ws) in
      let s = sym (all_map p (λ (l : Lane). l.centerline) seconds) ∙ (ap (all p) (half-centers xs (halves next ps) next ps) ∙ all_map p (λ (x : LanePlan). x.second_center) ps) in
      center_all (firsts ++ seconds)
      ∙ (all_both (λ (l : Lane). p l.centerline) firsts seconds
      ∙ (ap (λ b. b && all (λ (l : Lane). p l.centerline) seconds) f
      ∙ (ap (λ b. all (λ w. p (after c centers xs next ps w)) ws && b) s
      ∙ lane_lines c centers (after c centers xs next ps) 0 seen ws ps rows-lined rows-good)))
