-- The table of lanes that a merge leaves is the merged lanes written over it, each with where its centreline starts. Assumes nothing.
use Rattle.std.specs.Prelude.{Some}
use mathlib.Core.Path.{◌≡◌, refl, sym, ap, ◌∙◌}
use Prim.Native.Nat.{ℕ, ◌≤◌}
use mathlib.Core.Bool.{Bool, true, false, not, ◌&&◌, ◌||◌, true≢false}
use mathlib.Core.List.{List, [], ◌∷◌, map}
use lib.Dec.{eqb}
use lib.Ieee.{Float}
use lib.ListN.{length}
use borrow.Author.Tests.{eq-eqb, eqb-true}
use Rattle.lists.specs.Every.{all}
use Rattle.lists.specs.Select.{keep, any, find, has, ascending, same_numbers}
use Rattle.lists.proofs.Booleans.{and-fst, and-snd, and_both, or-false, neither}
use Rattle.lists.proofs.Select.{on_found, any-one, keep-map, keep_same, map-twice, map_same}
use Rattle.entities.specs.Records.{Lane}
use Rattle.rules.specs.Names.{Tolerance}
use Rattle.rules.specs.Merge.{SidePlan, after_merge}
use Rattle.tables.specs.View.{word, ids_at, rows, lane_of}
use Rattle.tables.specs.Formed.{center_span, counted, stored, lane_formed}
use Rattle.store.specs.Store.{store_rows}
use Rattle.store.specs.Laid.{lane_laid}
use Rattle.store.specs.Rows.{kept_rows}
use Rattle.store.proofs.Packing.{store_kept, kept-passing, kept-room}
use Rattle.store.proofs.Rows.{table-agree}
use Rattle.laws.proofs.Merge.{after-id}
use Rattle.layout.proofs.Standing.{mapped-rows}
use Rattle.sound_facts.proofs.Stored.{rows-room}
use Rattle.merge_draw.specs.Redrawing.{row_merged}
use Rattle.merge_redraw.specs.Relaying.{taken_of, lanes_redrawn}
use Rattle.merge_laid.proofs.Rows.{plan_of, Takes, lane_after, row-merged}

-- ---- general

-- what is read from the rows that stay, each changed, without where its line starts
pub changed-records : {R : Type 0} (s : ℕ) (start : List ℕ → ℕ) (dec : List ℕ → R) (key : R → ℕ) (f : ℕ × R → ℕ × R) (g : R → R) → ((r : ℕ × R) → (f r).1 ≡ g r.1) → (q : ℕ → Bool) (t : List ℕ)
    → map (λ r. r.1) (map f (keep (λ r. q (key r.1)) (rows s (λ w. (start w, dec w)) t))) ≡ map g (keep (λ x. q (key x)) (rows s dec t))
changed-records {R} s start dec key f g same q t =
    let rs : List (ℕ × R) = rows s (λ w. (start w, dec w)) t in
    let k = keep (λ r. q (key r.1)) rs in
    let e : rows s dec t ≡ map (λ r. r.1) rs = sym (mapped-rows s (λ w. (start w, dec w)) (λ (r : ℕ × R). r.1) t) in
    map-twice f (λ r. r.1) k
    ∙ (map_same (λ r. (f r).1) (λ r. g r.1) k same
    ∙ (sym (map-twice (λ r. r.1) g k) ∙ ap (map g) (sym (ap (keep (λ x. q (key x))) e ∙ keep-map (λ x. q (key x)) (λ (r : ℕ × R). r.1) rs))))

-- where none passes one test, all pass another
all-of-none : {A : Type 0} (p q : A → Bool) → ((x : A) → p x ≡ false → q x ≡ true) → (xs : List A) → any p xs ≡ false → all q xs ≡ true
unfolding any all
all-of-none p q h [] e = refl
all-of-none p q h (x ∷ xs) e = let (a, b) = neither (p x) (any p xs) e in and_both (q x) (all q xs) (h x a) (all-of-none p q h xs b)

-- keys ascend: the one with a key passes a test
pub all_one : {A : Type 0} (key : A → ℕ) (i : ℕ) (q : A → Bool) (xs : List A) (x : A) → ascending (map key xs) ≡ true → find (λ y. eqb (key y) i) xs ≡ Some x → q x ≡ true
    → all (λ y. not (eqb (key y) i) || q y) xs ≡ true
all_one {A} key i q xs x up e h =
    all-of-none (λ y. eqb (key y) i && not (q y)) (λ y. not (eqb (key y) i) || q y) (λ y. go (eqb (key y) i) (q y)) xs
    (any-one key i (λ y. not (q y)) xs up ∙ (ap (on_found (λ y. not (q y))) e ∙ ap not h))
  where
    go : (a b : Bool) → (a && not b) ≡ false → (not a || b) ≡ true
    go true true t = refl
    go true false t = absurd (true≢false t)
    go false b t = refl

one_number : (xs : List ℕ) (y : ℕ) → same_numbers xs (y ∷ []) ≡ true → xs ≡ y ∷ []
unfolding same_numbers
one_number [] y h = absurd (true≢false (sym h))
one_number (x ∷ []) y h = ap (λ z. z ∷ []) (eqb-true x y (and-fst (eqb x y) true h))
one_number (x ∷ z ∷ xs) y h = absurd (true≢false (sym (and-snd (eqb x y) false h)))

-- ---- rows that may be merged

-- a row of the first lane says that the second alone comes after it
abbrev pub leads_only : Lane → Lane → List ℕ → Bool
leads_only a b w = not (eqb (word 0 w) a.id) || same_numbers (ids_at 35 w) (b.id ∷ [])

abbrev pub takes_row : List Float → Lane → Lane → List ℕ → Bool
takes_row c a b w = lane_formed w && (ascending (ids_at 18 w) && (all (stored c) (center_span w) && leads_only a b w))

takes : (c : List Float) (a b : Lane) (w : List ℕ) → takes_row c a b w ≡ true → Takes c a b w
takes c a b w h =
    let x = lane_formed w in
    let y = ascending (ids_at 18 w) in
    let z = all (stored c) (center_span w) in
    let u = leads_only a b w in
    let r = and-snd x (y && (z && u)) h in
    let v = and-snd y (z && u) r in
    record { formed = and-fst x (y && (z && u)) h; before = and-fst y (z && u) r; center = and-fst z u v; out = λ e. one_number (ids_at 35 w) b.id (only e (and-snd z u v)) }
  where
    only : word 0 w ≡ a.id → leads_only a b w ≡ true → same_numbers (ids_at 35 w) (b.id ∷ []) ≡ true
    only e t = ap (λ i. not i || same_numbers (ids_at 35 w) (b.id ∷ [])) (sym (eq-eqb (word 0 w) a.id e)) ∙ t

-- ---- the table

-- the lanes that stay, with where their centrelines start
abbrev pub lane_starts : Tolerance → ℕ → ℕ → List Float → Lane → Lane → SidePlan → SidePlan → List ℕ → List (ℕ × Lane)
lane_starts tol next reach c a b pl pr t = map (lane_after tol next reach a b pl pr) (keep (λ r. not (has r.1.id (b.id ∷ []))) (rows 52 (λ w. (word 7 w, lane_of c w)) t))

module _ (tol : Tolerance) (next reach : ℕ) (c : List Float) (a b : Lane) (pl pr : SidePlan) (few : length b.successors ≤ 16) (t : List ℕ) (h : counted 1024 52 t ≡ true)
    (fine : all (λ b. b) (rows 52 (takes_row c a b) t) ≡ true) where
  abbrev stays : ℕ → Bool
  stays n = not (has n (b.id ∷ []))

  abbrev starts : List (ℕ × Lane)
  starts = lane_starts tol next reach c a b pl pr t

  -- THE LAW of the table of lanes
  pub lanes-redrawn : store_rows 52 lane_laid (λ r. r.1.id) t starts ≡ lanes_redrawn a.id b.id (taken_of (plan_of tol a b pl pr) next reach) b.successors t
  unfolding lanes_redrawn lane_of
  lanes-redrawn =
      let room = rows-room 1024 52 t h in
      store_kept 52 lane_laid (λ r. r.1.id) (λ w. (word 7 w, lane_of c w)) t room stays (lane_after tol next reach a b pl pr) (λ w. refl) (λ r. after-id tol next a b pl pr r.1)
      ∙ table-agree 52 (takes_row c a b) (λ w. lane_laid w (lane_after tol next reach a b pl pr (word 7 w, lane_of c w))) (row_merged a.id b.id (taken_of (plan_of tol a b pl pr) next reach) b.successors)
      (λ w l g. row-merged tol next reach c a b pl pr few w l (takes c a b w g)) (kept_rows 52 stays t) (kept-room 52 stays t room) (unfold rows in kept-passing 52 stays t room (takes_row c a b) fine)

  -- the records are those of the merged map
  pub lanes-read : map (λ r. r.1) starts ≡ map (after_merge tol next a b pl pr) (keep (λ l. not (eqb l.id b.id)) (rows 52 (lane_of c) t))
  lanes-read =
      changed-records 52 (word 7) (lane_of c) (λ l. l.id) (lane_after tol next reach a b pl pr) (after_merge tol next a b pl pr) (λ r. refl) stays t
      ∙ ap (map (after_merge tol next a b pl pr)) (keep_same (λ l. stays l.id) (λ l. not (eqb l.id b.id)) (rows 52 (lane_of c) t) (λ l. unfold has in ap not (or-false (eqb l.id b.id))))
