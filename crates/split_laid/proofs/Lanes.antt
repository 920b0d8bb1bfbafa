-- The table of lanes that a split leaves is the cut map's lanes written over it, each with where its centreline starts. Assumes nothing.
use Rattle.std.specs.Prelude.{Option, None, Some}
use mathlib.Core.Path.{◌≡◌, refl, sym, ap, ◌∙◌}
use Prim.Native.Nat.{ℕ, suc, ◌+◌, ◌*◌, ◌≤◌, ◌<◌}
use native.Mathlib.Omega.{arith}
use mathlib.Core.Bool.{Bool, true, false, not, ◌&&◌, cond}
use mathlib.Core.List.{List, [], ◌∷◌, ◌++◌, map}
use lib.Dec.{eqb, leb}
use lib.Ieee.{Float}
use lib.ListN.{length, take, drop, length-drop}
use lib.Seq.{length-take-le, drop-drop}
use borrow.Author.Tests.{leb-true, eqb-true}
use Rattle.lists.specs.Every.{all}
use Rattle.lists.specs.Rows.{keys, row_with}
use Rattle.lists.specs.Select.{find, has, numbered, second_of}
use Rattle.lists.proofs.Booleans.{and-fst, and-snd}
use Rattle.lists.proofs.Select.{all_map}
use Rattle.entities.specs.Records.{Lane}
use Rattle.rules.specs.Split.{Piece, LanePlan, plan_for, cut_lane, came_from, first_half, second_half, second_halves, uncut}
use Rattle.tables.specs.View.{word, ids_at, rows, lane_of}
use Rattle.tables.specs.Formed.{lane_formed}
use Rattle.store.specs.Store.{writes, store_rows}
use Rattle.store.specs.Laid.{lane_laid}
use Rattle.store.specs.Rows.{on_rows, appended_rows}
use Rattle.store.proofs.Marks.{lane-marks}
use Rattle.store.proofs.Rows.{rows-agree-at, rows-length}
use Rattle.store.proofs.Growing.{store-more}
use Rattle.store.proofs.LaidRows.{lane-laid-length}
use Rattle.grow.proofs.Growing.{second-numbered, number_at}
use Rattle.lookup.specs.Lookup.{row_at}
use Rattle.split_plan.specs.Placing.{marked_rows}
use Rattle.split_rows.specs.Halves.{first_start, first_size, second_size, lane_cut, row_cut, second_row}
use Rattle.split_tables.specs.Cut.{ranked, second_onto, lanes_cut}
use Rattle.split_laid.proofs.Rows.{HalfWords, Cuttable, ids_few, second-laid, uncut-laid, first-laid}

-- ---- rows written by two hands

-- records and records' likes, of which each pair leaves the same of any s words
unfoldable Alike : {R Q : Type 0} → ℕ → (List ℕ → R → List ℕ) → (List ℕ → Q → List ℕ) → List R → List Q → Type 0
Alike s f g [] [] = ◌≡◌ {A = ℕ} 0 0
Alike s f g [] (q ∷ qs) = ⊥
Alike s f g (r ∷ rs) [] = ⊥
Alike s f g (r ∷ rs) (q ∷ qs) = ((w : List ℕ) → length w ≡ s → f w r ≡ g w q) × Alike s f g rs qs

module _ {R Q : Type 0} (s : ℕ) (f : List ℕ → R → List ℕ) (g : List ℕ → Q → List ℕ) where
  alike-many : (rs : List R) (qs : List Q) → Alike s f g rs qs → length rs ≡ length qs
  unfolding Alike
  alike-many [] [] h = refl
  alike-many [] (q ∷ qs) h = absurd h
  alike-many (r ∷ rs) [] h = absurd h
  alike-many (r ∷ rs) (q ∷ qs) h = ap suc (alike-many rs qs h.1)

  alike-writes : (rs : List R) (qs : List Q) → Alike s f g rs qs → (w : List ℕ) → length rs * s ≤ length w → writes s f w rs ≡ writes s g w qs
  unfolding Alike writes
  alike-writes [] [] h w l = refl
  alike-writes [] (q ∷ qs) h w l = absurd h
  alike-writes (r ∷ rs) [] h w l = absurd h
  alike-writes (r ∷ rs) (q ∷ qs) h w l =
      let i : s ≤ length w = omega arith in
      let j : length rs * s ≤ length (drop s w) = rw length-drop (omega arith) in
      rw (h.0 (take s w) (length-take-le s w i), alike-writes rs qs h.1 (drop s w) j)

  alike-appended : (rs : List R) (qs : List Q) → Alike s f g rs qs → (t : List ℕ) → (word 0 t + length rs) * s ≤ length (drop 1 t) → appended_rows s f rs t ≡ appended_rows s g qs t
  unfolding appended_rows
  alike-appended rs qs h t l =
      let j : length rs * s ≤ length (drop (word 0 t * s) (drop 1 t)) = rw length-drop (omega arith) in
      rw (alike-writes rs qs h (drop (word 0 t * s) (drop 1 t)) j, alike-many rs qs h)

-- ---- a split

module _ (pieces : List ℕ) (m : ℕ) (centers : List ℕ) (next : ℕ) (ps : List LanePlan) (xs : List Piece) (c : List Float) where
  abbrev cut : List ℕ
  cut = map (λ x. x.of.id) ps

  abbrev hs : List (ℕ × ℕ)
  hs = numbered next cut

  -- a plan at place `rank`, and the row that it is of
  pub record PlanRow (rank : ℕ) (x : LanePlan) (v : List ℕ) : Type 0 where
    pub of : x.of ≡ lane_of c v
    pub words : length v ≡ 52
    pub formed : lane_formed v ≡ true
    pub first : HalfWords pieces m false xs (first_size centers rank) x.first_center v
    pub second : HalfWords pieces m true xs (second_size centers rank) x.second_center v

  unfoldable pub PlanRows : ℕ → List LanePlan → List (List ℕ) → Type 0
  PlanRows rank [] [] = ◌≡◌ {A = ℕ} 0 0
  PlanRows rank [] (v ∷ vs) = ⊥
  PlanRows rank (x ∷ ps) [] = ⊥
  PlanRows rank (x ∷ ps) (v ∷ vs) = PlanRow rank x v × PlanRows (suc rank) ps vs

  -- ---- second halves

  abbrev second_start : ℕ → ℕ
  second_start rank = first_start centers rank + first_size centers rank

  unfoldable pub second_starts : ℕ → List LanePlan → List (ℕ × Lane)
  second_starts rank [] = []
  second_starts rank (x ∷ qs) = (second_start rank, second_half xs hs (next + rank) x) ∷ second_starts (suc rank) qs

  pub starts-second : (rank : ℕ) (qs : List LanePlan) → map (λ r. r.1) (second_starts rank qs) ≡ second_halves xs hs (next + rank) qs
  unfolding second_starts second_halves
  starts-second rank [] = refl
  starts-second rank (x ∷ qs) = let e : next + suc rank ≡ suc (next + rank) = omega arith in ap (λ z. second_half xs hs (next + rank) x ∷ z) (starts-second (suc rank) qs ∙ rw e)

  halves-alike : (rank : ℕ) (qs : List LanePlan) (vs : List (List ℕ)) → PlanRows rank qs vs → Alike 52 lane_laid (second_onto pieces m cut next centers) (second_starts rank qs) (ranked rank vs)
  unfolding PlanRows second_starts ranked Alike
  halves-alike rank [] [] h = refl
  halves-alike rank [] (v ∷ vs) h = absurd h
  halves-alike rank (x ∷ qs) [] h = absurd h
  halves-alike rank (x ∷ qs) (v ∷ vs) h = (one, halves-alike (suc rank) qs vs h.1)
    where
      p : PlanRow rank x v
      p = h.0

      one : (w : List ℕ) → length w ≡ 52 → lane_laid w (second_start rank, second_half xs hs (next + rank) x) ≡ second_row pieces m cut next centers rank v w
      one w l = rw p.of (second-laid pieces m cut next centers rank c xs x.second_center v p.words p.formed (ids_few 35 v (lane-marks v p.formed).after) p.second w l)

  -- ---- rows that are there

  abbrev pub start_by : ℕ → Option ℕ → ℕ
  start_by s (Some rank) = first_start centers rank
  start_by s None = s

  -- a lane after the cut, with where its centreline starts
  abbrev pub lane_after : ℕ × Lane → ℕ × Lane
  lane_after r = (start_by r.0 (row_with r.1.id cut), cut_lane ps xs hs r.1)

  -- what is known of the plan of the lane in row w
  abbrev pub PlanFound : List ℕ → Option ℕ → Type 0
  PlanFound w (Some rank) = (x : LanePlan) × (plan_for ps (word 0 w) ≡ Some x) × (x.of ≡ lane_of c w) × HalfWords pieces m false xs (first_size centers rank) x.first_center w
  PlanFound w None = plan_for ps (word 0 w) ≡ None

  pub record RowPlan (w : List ℕ) : Type 0 where
    pub cuttable : Cuttable c hs w
    pub plan : PlanFound w (row_with (word 0 w) cut)

  -- by what is found of its plan and of its second half
  abbrev pub cut_by : Lane → Option LanePlan → Option ℕ → Lane
  cut_by l None o = uncut hs l
  cut_by l (Some x) None = uncut hs l
  cut_by l (Some x) (Some j) = first_half xs hs j x

  pub by-found : (l : Lane) → cut_lane ps xs hs l ≡ cut_by l (plan_for ps l.id) (second_of hs l.id)
  by-found l = go (plan_for ps l.id) (second_of hs l.id)
    where
      go : (p : Option LanePlan) (o : Option ℕ) → elim p [ None ↦ uncut hs l | Some x ↦ elim o [ None ↦ uncut hs l | Some j ↦ first_half xs hs j x ] ] ≡ cut_by l p o
      go None o = refl
      go (Some x) None = refl
      go (Some x) (Some j) = refl

  row_cut_lem : (w : List ℕ) → length w ≡ 52 → RowPlan w → lane_laid w (lane_after (word 7 w, lane_of c w)) ≡ lane_cut pieces m cut next centers w
  unfolding lane_of
  row_cut_lem w l h = ap (λ z. lane_laid w (start_by (word 7 w) (row_with (word 0 w) cut), z)) (by-found (lane_of c w)) ∙ go (row_with (word 0 w) cut) refl h.plan
    where
      go : (r : Option ℕ) → row_with (word 0 w) cut ≡ r → PlanFound w r → lane_laid w (start_by (word 7 w) r, cut_by (lane_of c w) (plan_for ps (word 0 w)) (second_of hs (word 0 w))) ≡ row_cut pieces m cut next centers r w
      go None e p = rw p (uncut-laid pieces m cut next centers c xs w l h.cuttable)
      go (Some rank) e p = rw (p.1, second-numbered next (word 0 w) cut ∙ ap (number_at next) e, p.2) (first-laid pieces m cut next centers c xs rank p.0.first_center w l h.cuttable p.3)

  -- what is found has the id that is looked for
  plan-id : (qs : List LanePlan) (k : ℕ) (x : LanePlan) → plan_for qs k ≡ Some x → x.of.id ≡ k
  unfolding find
  plan-id [] k x e = absurd (none-some x e)
    where
      none-some : (x : LanePlan) → ◌≡◌ {A = Option LanePlan} None (Some x) → ⊥
      none-some x e = let z : ◌≡◌ {A = ℕ} 0 1 = cc in omega arith
  plan-id (y ∷ qs) k x e = go (eqb y.of.id k) refl (plan-id qs k x) e
    where
      go : (b : Bool) → eqb y.of.id k ≡ b → (plan_for qs k ≡ Some x → x.of.id ≡ k) → cond b (Some y) (plan_for qs k) ≡ Some x → x.of.id ≡ k
      go true i r q = let z : y ≡ x = cc in ap (λ (v : LanePlan). v.of.id) (sym z) ∙ eqb-true y.of.id k i
      go false i r q = r q

  cut-id : (l : Lane) → (cut_lane ps xs hs l).id ≡ l.id
  cut-id l = ap (λ (z : Lane). z.id) (by-found l) ∙ go (plan_for ps l.id) refl (second_of hs l.id)
    where
      go : (p : Option LanePlan) → plan_for ps l.id ≡ p → (o : Option ℕ) → (cut_by l p o).id ≡ l.id
      go None e o = refl
      go (Some x) e None = refl
      go (Some x) e (Some j) = plan-id ps l.id x e

  starts-many : (rank : ℕ) (qs : List LanePlan) → length (second_starts rank qs) ≡ length qs
  unfolding second_starts
  starts-many rank [] = refl
  starts-many rank (x ∷ qs) = ap suc (starts-many (suc rank) qs)

  -- ---- the table

  -- the links of a lane after the cut fit
  unfoldable pub PlansFew : Type 0
  PlansFew = (k : ℕ) (x : LanePlan) → plan_for ps k ≡ Some x → length (came_from hs x.of.predecessors) ≤ 16

  abbrev row_few : List ℕ → Bool
  row_few w = lane_formed w && leb (length (came_from hs (ids_at 18 w))) 16

  cut-length : PlansFew → (w : List ℕ) → length w ≡ 52 → row_few w ≡ true → length (lane_laid w (lane_after (word 7 w, lane_of c w))) ≡ 52
  unfolding lane_of PlansFew
  cut-length few w l g =
      lane-laid-length w l (lane_after (word 7 w, lane_of c w)).0 (cut_lane ps xs hs (lane_of c w)) (rw (by-found (lane_of c w)) (before (plan_for ps (word 0 w)) refl (second_of hs (word 0 w))))
      (rw (by-found (lane_of c w)) (after (plan_for ps (word 0 w)) (second_of hs (word 0 w))))
    where
      formed : lane_formed w ≡ true
      formed = and-fst (lane_formed w) (leb (length (came_from hs (ids_at 18 w))) 16) g

      own : length (came_from hs (ids_at 18 w)) ≤ 16
      own = leb-true (length (came_from hs (ids_at 18 w))) 16 (and-snd (lane_formed w) (leb (length (came_from hs (ids_at 18 w))) 16) g)

      behind : length (ids_at 35 w) ≤ 16
      behind = ids_few 35 w (lane-marks w formed).after

      before : (p : Option LanePlan) → plan_for ps (word 0 w) ≡ p → (o : Option ℕ) → length (cut_by (lane_of c w) p o).predecessors ≤ 16
      before None e o = own
      before (Some x) e None = own
      before (Some x) e (Some j) = few (word 0 w) x e

      after : (p : Option LanePlan) (o : Option ℕ) → length (cut_by (lane_of c w) p o).successors ≤ 16
      after None o = behind
      after (Some x) None = behind
      after (Some x) (Some j) = omega arith

  module _ (t : List ℕ) (seen : List Bool) (planned : PlanRows 0 ps (marked_rows seen t)) (rows-planned : (j : ℕ) → j < word 0 t → RowPlan (row_at 52 t j)) (few : PlansFew)
      (room : 1 + (word 0 t + length ps) * 52 ≤ length t) (fine : all (λ b. b) (rows 52 row_few t) ≡ true)
      (fresh : all (λ l. not (has l.id (keys 52 (word 0 t) (drop 1 t)))) (second_halves xs hs next ps) ≡ true) where
    abbrev dec : List ℕ → ℕ × Lane
    dec w = (word 7 w, lane_of c w)

    -- the lanes after the cut, each with where its centreline starts
    abbrev pub lane_starts : List (ℕ × Lane)
    lane_starts = map lane_after (rows 52 dec t) ++ second_starts 0 ps

    abbrev changed : List ℕ → List ℕ
    changed w = lane_laid w (lane_after (dec w))

    held : word 0 t * 52 ≤ length (drop 1 t)
    held = rw length-drop (omega arith)

    starts-are : map (λ r. r.1) (second_starts 0 ps) ≡ second_halves xs hs next ps
    starts-are = let e : next + 0 ≡ next = omega arith in starts-second 0 ps ∙ rw e

    grown : store_rows 52 lane_laid (λ r. r.1.id) t lane_starts ≡ appended_rows 52 lane_laid (second_starts 0 ps) (on_rows 52 changed t)
    unfolding rows
    grown =
        store-more 52 lane_laid (λ r. r.1.id) dec t (omega arith) row_few lane_after (second_starts 0 ps) (λ w. unfold lane_of in refl) (λ r. cut-id r.1) (cut-length few) fine
        (sym (all_map (λ (l : Lane). not (has l.id (keys 52 (word 0 t) (drop 1 t)))) (λ (r : ℕ × Lane). r.1) (second_starts 0 ps)) ∙ (ap (all (λ (l : Lane). not (has l.id (keys 52 (word 0 t) (drop 1 t))))) starts-are ∙ fresh))

    table : on_rows 52 changed t ≡ on_rows 52 (lane_cut pieces m cut next centers) t
    unfolding on_rows
    table = ap (λ z. word 0 t ∷ z) (rows-agree-at 52 changed (lane_cut pieces m cut next centers) (word 0 t) (drop 1 t) (λ j l. same j l))
      where
        same : (j : ℕ) → j < word 0 t → changed (take 52 (drop (j * 52) (drop 1 t))) ≡ lane_cut pieces m cut next centers (take 52 (drop (j * 52) (drop 1 t)))
        same j l =
            let e : drop (j * 52) (drop 1 t) ≡ drop (1 + j * 52) t = drop-drop (j * 52) 1 t in
            let i : 52 ≤ length (drop (1 + j * 52) t) = rw length-drop (omega arith) in
            rw e (row_cut_lem (row_at 52 t j) (length-take-le 52 (drop (1 + j * 52) t) i) (rows-planned j l))

    space : (word 0 (on_rows 52 changed t) + length (second_starts 0 ps)) * 52 ≤ length (drop 1 (on_rows 52 changed t))
    unfolding on_rows rows
    space = let e = rows-length 52 row_few changed (cut-length few) (word 0 t) (drop 1 t) held fine in omega (arith, e, starts-many 0 ps, length-drop 1 t)

    -- THE LAW
    pub lanes_are_cut : store_rows 52 lane_laid (λ r. r.1.id) t lane_starts ≡ lanes_cut pieces m cut next centers seen t
    unfolding lanes_cut
    lanes_are_cut =
        grown
        ∙ (alike-appended 52 lane_laid (second_onto pieces m cut next centers) (second_starts 0 ps) (ranked 0 (marked_rows seen t)) (halves-alike 0 ps (marked_rows seen t) planned) (on_rows 52 changed t) space
        ∙ ap (appended_rows 52 (second_onto pieces m cut next centers) (ranked 0 (marked_rows seen t))) table)
