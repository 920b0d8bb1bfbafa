-- The tables of stop lines and crosswalks, of which nothing changes but where their lines lie: what is read from each, where its lines lie, its count and its
-- length. Assumes nothing.
use mathlib.Core.Path.{◌≡◌, refl, sym, ap, ◌∙◌}
use Prim.Native.Nat.{ℕ, ◌*◌, ◌≤◌}
use native.Mathlib.Omega.{arith}
use mathlib.Core.Bool.{true}
use mathlib.Core.List.{List, [], ◌∷◌, map}
use lib.Ieee.{Float}
use lib.ListN.{length, get_or, drop}
use Rattle.lists.specs.Rows.{reads}
use Rattle.lists.specs.Select.{each}
use Rattle.lists.proofs.Select.{map-itself}
use Rattle.entities.specs.Records.{Line, StopLine, Crosswalk}
use Rattle.tables.specs.View.{word, rows, stop_line_of, crosswalk_of}
use Rattle.tables.specs.Formed.{Span, span_at, counted}
use Rattle.row_tests.proofs.Tables.{table-few}
use Rattle.store.specs.Store.{store_rows, packed}
use Rattle.store.specs.Laid.{placed, stop_laid, crosswalk_laid}
use Rattle.store.proofs.Back.{RowsFit, TableFits, rows_fit}
use Rattle.store.proofs.LaidRows as L
use Rattle.store.proofs.LaidRows.{Held, settled, StopKept, CrosswalkKept}
use Rattle.store.proofs.LaidTables.{each-one, rows-placed, placed-map, placed-count, placed-spans, table-read, packed-same}
use Rattle.soundness.proofs.Words.{reads_true}
use Rattle.soundness.proofs.Whole.{rows-count}
use Rattle.sound_facts.proofs.Stored.{rows-room}
use Rattle.sound_facts.proofs.LaidTables.{Wrote, wrote, wrote_as}

-- ---- general

-- records lie over the rows that they were read from
rows-own : {R : Type 0} (s : ℕ) (key : R → ℕ) (dec : List ℕ → R) (ok : List ℕ → R → Type 0) (t ids : List ℕ) → ((w : List ℕ) → key (dec w) ≡ get_or w 0 0) → ((w : List ℕ) → ok w (dec w))
    → word 0 t * s ≤ length (drop 1 t) → (rs : List R) → rs ≡ rows s dec t → ids ≡ map key rs → RowsFit s ok (packed s ids (word 0 t) (drop 1 t)) rs
rows-own s key dec ok t ids keys fit room rs e i =
    let p = packed-same s key dec t ids keys room (i ∙ ap (map key) e) in
    let n = word 0 t in
    let w = drop 1 t in
    let f = rows_fit s ok dec (λ r. r) (λ r. true) (λ w l g. fit w) n w room (reads_true s n w) in
    let q : map (λ r. r) (reads s dec n w) ≡ rs = map-itself (reads s dec n w) ∙ sym (e ∙ (unfold rows in refl)) in
    rw p (rw q at f)

-- ---- stop lines

abbrev stop_line : StopLine → List Line
stop_line s = s.geometry ∷ []

module _ (old c : List Float) (t : List ℕ) (h : counted 512 4 t ≡ true) (ss : List StopLine) (e : ss ≡ rows 4 (stop_line_of old) t) (at : ℕ) (k : Held c at (map (λ s. s.geometry) ss)) where
  abbrev stops : List (ℕ × StopLine)
  stops = placed stop_line at ss

  abbrev stop_key : ℕ × StopLine → ℕ
  stop_key r = r.1.id

  abbrev StopOk : List ℕ → ℕ × StopLine → Type 0
  StopOk w r = Held c r.0 (stop_line r.1) × StopKept w r.1

  stop-count : length ss ≡ word 0 t
  stop-count = ap length e ∙ rows-count 4 (stop_line_of old) t

  stop-long : (w : List ℕ) → length w ≡ 4 → (r : ℕ × StopLine) → StopOk w r → length (stop_laid w r) ≡ 4
  stop-long w l r g = L.stop-laid-length w l r.0 r.1

  stops-fit : TableFits (ℕ × StopLine) 4 stop_key StopOk t stops
  unfolding stop_line_of
  stops-fit =
      let room = rows-room 512 4 t h in
      let ids = map stop_key stops in
      let w = packed 4 ids (word 0 t) (drop 1 t) in
      record {
        held = room;
        room = rw (placed-count stop_line at ss, stop-count) room;
        rows = rows-placed 4 StopKept c stop_line at w ss (rw (each-one (λ (s : StopLine). s.geometry) ss) k)
            (rows-own 4 (λ (s : StopLine). s.id) (stop_line_of old) StopKept t ids (λ w. refl) (λ w. record { id = refl; attributes = refl }) room ss e (placed-map stop_line (λ s. s.id) at ss));
      }

  pub stops-wrote : Wrote 512 4 (stop_line_of c) (λ w. true) ss t (store_rows 4 stop_laid stop_key t stops)
  stops-wrote =
      let f : ℕ × StopLine → StopLine = λ r. r.1 in
      let few : length ss ≤ 512 = omega (arith, stop-count, table-few 512 4 t h) in
      wrote_as 512 4 (stop_line_of c) (λ w. true) (map f stops) ss t (store_rows 4 stop_laid stop_key t stops) (placed-map stop_line (λ s. s) at ss ∙ map-itself ss)
      (wrote 512 4 stop_laid stop_key StopOk (stop_line_of c) (λ w. true) f stop-long (λ w l r g. L.stop-laid-back w l r.0 r.1 c g.1 g.0)
      (λ w l r g. refl) t h stops (rw (placed-count stop_line at ss) few) stops-fit)

  pub stops-spans : rows 4 (span_at 1) (store_rows 4 stop_laid stop_key t stops) ≡ settled at (map (λ s. s.geometry) ss)
  stops-spans =
      let f : ℕ × StopLine → Span = λ r. record { start = r.0; size = length r.1.geometry } in
      table-read 4 stop_laid StopOk stop-long stop_key t stops stops-fit (span_at 1) f (λ w l r g. L.stop-laid-span w l r.0 r.1)
      ∙ placed-spans (λ (s : StopLine). s.geometry) at ss

-- ---- crosswalks

abbrev left_line : Crosswalk → List Line
left_line x = x.left_edge ∷ []

abbrev right_line : ℕ × Crosswalk → List Line
right_line r = r.1.right_edge ∷ []

module _ (old c : List Float) (t : List ℕ) (h : counted 128 7 t ≡ true) (xs : List Crosswalk) (e : xs ≡ rows 7 (crosswalk_of old) t) (left right : ℕ)
    (j : Held c left (map (λ x. x.left_edge) xs)) (k : Held c right (map (λ x. x.right_edge) xs)) where
  abbrev lefts : List (ℕ × Crosswalk)
  lefts = placed left_line left xs

  abbrev walks : List (ℕ × (ℕ × Crosswalk))
  walks = placed right_line right lefts

  abbrev walk_key : ℕ × (ℕ × Crosswalk) → ℕ
  walk_key r = r.1.1.id

  abbrev LeftOk : List ℕ → ℕ × Crosswalk → Type 0
  LeftOk w r = Held c r.0 (left_line r.1) × CrosswalkKept w r.1

  abbrev WalkOk : List ℕ → ℕ × (ℕ × Crosswalk) → Type 0
  WalkOk w r = Held c r.0 (right_line r.1) × LeftOk w r.1

  -- what is said of crosswalks alone
  walks-map : {B : Type 0} (g : Crosswalk → B) → map (λ r. g r.1.1) walks ≡ map g xs
  walks-map g = placed-map right_line (λ (r : ℕ × Crosswalk). g r.1) right lefts ∙ placed-map left_line g left xs

  walk-count : length xs ≡ word 0 t
  walk-count = ap length e ∙ rows-count 7 (crosswalk_of old) t

  walks-count : length walks ≡ word 0 t
  walks-count = placed-count right_line right lefts ∙ (placed-count left_line left xs ∙ walk-count)

  walk-long : (w : List ℕ) → length w ≡ 7 → (r : ℕ × (ℕ × Crosswalk)) → WalkOk w r → length (crosswalk_laid w r) ≡ 7
  walk-long w l r g = L.crosswalk-laid-length w l r.0 r.1.0 r.1.1

  rights-held : Held c right (each right_line lefts)
  rights-held = rw (each-one (λ (r : ℕ × Crosswalk). r.1.right_edge) lefts, placed-map left_line (λ x. x.right_edge) left xs) k

  walks-fit : TableFits (ℕ × (ℕ × Crosswalk)) 7 walk_key WalkOk t walks
  unfolding crosswalk_of
  walks-fit =
      let room = rows-room 128 7 t h in
      let ids = map walk_key walks in
      let w = packed 7 ids (word 0 t) (drop 1 t) in
      record {
        held = room;
        room = rw walks-count room;
        rows = rows-placed 7 LeftOk c right_line right w lefts rights-held
            (rows-placed 7 CrosswalkKept c left_line left w xs (rw (each-one (λ (x : Crosswalk). x.left_edge) xs) j)
            (rows-own 7 (λ (x : Crosswalk). x.id) (crosswalk_of old) CrosswalkKept t ids (λ w. refl) (λ w. record { id = refl; outline = refl; attributes = refl }) room xs e (walks-map (λ x. x.id))));
      }

  pub walks-wrote : Wrote 128 7 (crosswalk_of c) (λ w. true) xs t (store_rows 7 crosswalk_laid walk_key t walks)
  walks-wrote =
      let f : ℕ × (ℕ × Crosswalk) → Crosswalk = λ r. r.1.1 in
      let few : length walks ≤ 128 = omega (arith, walks-count, table-few 128 7 t h) in
      wrote_as 128 7 (crosswalk_of c) (λ w. true) (map f walks) xs t (store_rows 7 crosswalk_laid walk_key t walks) (walks-map (λ x. x) ∙ map-itself xs)
      (wrote 128 7 crosswalk_laid walk_key WalkOk (crosswalk_of c) (λ w. true) f walk-long (λ w l r g. L.crosswalk-laid-back w l r.0 r.1.0 r.1.1 c g.1.1 g.1.0 g.0)
      (λ w l r g. refl) t h walks few walks-fit)

  pub lefts-spans : rows 7 (span_at 1) (store_rows 7 crosswalk_laid walk_key t walks) ≡ settled left (map (λ x. x.left_edge) xs)
  lefts-spans =
      let g : ℕ × Crosswalk → Span = λ r. record { start = r.0; size = length r.1.left_edge } in
      table-read 7 crosswalk_laid WalkOk walk-long walk_key t walks walks-fit (span_at 1) (λ r. g r.1) (λ w l r q. L.left-laid-span w l r.0 r.1.0 r.1.1)
      ∙ (placed-map right_line g right lefts ∙ placed-spans (λ (x : Crosswalk). x.left_edge) left xs)

  pub rights-spans : rows 7 (span_at 3) (store_rows 7 crosswalk_laid walk_key t walks) ≡ settled right (map (λ x. x.right_edge) xs)
  rights-spans =
      let f : ℕ × (ℕ × Crosswalk) → Span = λ r. record { start = r.0; size = length r.1.1.right_edge } in
      table-read 7 crosswalk_laid WalkOk walk-long walk_key t walks walks-fit (span_at 3) f (λ w l r q. L.right-laid-span w l r.0 r.1.0 r.1.1)
      ∙ (placed-spans (λ (r : ℕ × Crosswalk). r.1.right_edge) right lefts ∙ ap (settled right) (placed-map left_line (λ x. x.right_edge) left xs))
