-- The steps of a split put together: measures, room, lists, tables and the answer. Assumes nothing.
use Rattle.report.specs.Report.{Answer}
use Rattle.std.specs.Prelude.{Option, Some, Err}
use mathlib.Core.Path.{◌≡◌, refl, sym, ap, ◌∙◌}
use Prim.Native.Nat.{ℕ, ◌+◌, ◌*◌, ◌/◌, ◌^◌, ◌≤◌, ◌<◌}
use native.Mathlib.Omega.{arith}
use mathlib.Core.Bool.{Bool, true, false, not, ◌&&◌}
use mathlib.Core.List.{List}
use lib.Dec.{leb}
use lib.Ieee.{Float}
use lib.ListN.{length}
use Rattle.lists.specs.Rows.{over, keys, row_with}
use Rattle.lists.specs.Select.{ascending}
use Rattle.lists.proofs.Rows.{keys-one, one_found, found_within}
use Rattle.lists.proofs.Booleans.{and-fst, and-snd}
use Rattle.entities.specs.Records.{Line}
use Rattle.rules.specs.Names.{Point2, NoRoom}
use Rattle.tables.specs.View.{Tables, rows, tables_of}
use Rattle.tables.specs.Columns.{junction_lanes_at, junction_words, road_lanes_at, road_words, rule_words}
use Rattle.row_tests.specs.Good.{all_rows}
use Rattle.store.specs.Rows.{on_rows}
use Rattle.report.specs.declared.Counts.{Counts}
use Rattle.report.proofs.Warnings.{room}
use Rattle.room.specs.Room.{points_fit, lists_fit}
use Rattle.grows.specs.Growing.{grows_at}
use Rattle.follows.specs.Following.{rules_follow}
use Rattle.split_lines.specs.Cut.{drawn_pieces, measured}
use Rattle.split_room.specs.Fitting.{list_fits, pieces_fit, points_after, rules_fit}
use Rattle.split_relay.specs.Relaying.{Cutting, blank, relaid, work_floats}
use Rattle.split_made.specs.declared.Drawn.{Drawn}
use Rattle.split_made.specs.Made.{Listable, Notable, Noted, answer_of, counts_of, fits_after, left, lined, lists_written, modified_in, noted, split_made, tables_cut, warnings_in}

-- ---- the answer

pub cut-asks : (cut : List ℕ) → ascending cut ≡ true → (0 < 1) × ((length cut * 1 ≤ length cut) × (ascending (keys 1 (length cut) cut) ≡ true))
cut-asks cut h = (omega arith, (omega arith, rw (keys-one cut) h))

module _ (cut : List ℕ) (next own : ℕ) (r : Option ℕ) (e : r ≡ row_with own (keys 1 (length cut) cut)) where
  pub second_fits : next + length cut < 2 ^ 64 → (k : ℕ) → r ≡ Some k → next + k < 2 ^ 64
  second_fits h k t = omega (arith, found_within own cut k (one_found own cut r e ∙ t))

  pub answered : (n : Counts) (f : Option ℕ) → r ≡ f → answer_of n next f ≡ answer_of n next (row_with own cut)
  answered n f t = ap (answer_of n next) (sym (one_found own cut r e ∙ t))

-- ---- measures

-- centrelines are measured behind the boundaries' pieces
pub measured-both : (point : Point2) (ls cs : List Line) (reach b r : ℕ) (w w' v v' : List ℕ) → b ≡ reach + length (drawn_pieces point ls) → w' ≡ over w 0 (measured point reach ls)
    → r ≡ b + length (drawn_pieces point cs) → v' ≡ over v 0 (measured point b cs)
    → (r ≡ reach + length (drawn_pieces point ls) + length (drawn_pieces point cs)) × ((w' ≡ over w 0 (measured point reach ls)) × (v' ≡ over v 0 (measured point (reach + length (drawn_pieces point ls)) cs)))
measured-both point ls cs reach b r w w' v v' e f g h = (g ∙ ap (λ z. z + length (drawn_pieces point cs)) e, (f, h ∙ ap (λ z. over v 0 (measured point z cs)) e))

-- ---- room

module _ (k : Cutting) (anchored : List Bool) (t : Tables) where
  abbrev lists-fit : Bool
  lists-fit = (all_rows road_words (list_fits k.cut road_lanes_at) t.roads && all_rows junction_words (list_fits k.cut junction_lanes_at) t.junctions) && rules_fit anchored k.cut 0 (rows rule_words (λ w. w) t.rules)

  abbrev pieces-fit : Bool
  pieces-fit = pieces_fit k.lines 0 k.many && pieces_fit k.centers 0 (length k.cut)

  abbrev points : ℕ
  points = points_after k.pieces k.lines k.centers k.marks k.seen t.lanes t.boundaries t.stop_lines t.crosswalks

  abbrev lines_fit_lem : Bool
  lines_fit_lem = pieces-fit && points_fit points t.coordinates

  pub all_fit : (p : ℕ) (a b c q ls f g h d l m : Bool) → p ≡ points → a ≡ pieces_fit k.lines 0 k.many → b ≡ pieces_fit k.centers 0 (length k.cut) → c ≡ (a && b) → q ≡ points_fit p t.coordinates → ls ≡ (c && q)
      → f ≡ all_rows road_words (list_fits k.cut road_lanes_at) t.roads → g ≡ all_rows junction_words (list_fits k.cut junction_lanes_at) t.junctions → h ≡ rules_fit anchored k.cut 0 (rows rule_words (λ w. w) t.rules) → d ≡ (f && g)
      → l ≡ (d && h) → m ≡ (ls && l) → m ≡ fits_after k anchored t
  all_fit p a b c q ls f g h d l m pe ae be ce qe se fe ge he de le me =
      let x : ls ≡ lines_fit_lem = se ∙ both (ce ∙ both ae be) (qe ∙ ap (λ z. points_fit z t.coordinates) pe) in
      let y : l ≡ lists-fit = le ∙ both (de ∙ both fe ge) he in
      me ∙ both x y
    where
      both : {a b c d : Bool} → a ≡ b → c ≡ d → (a && c) ≡ (b && d)
      both e f = rw (e, f)

-- ---- parts side by side

pub counted : (ids : ℕ) (k : Cutting) (anchored past : List Bool) (t : Tables) (m w : ℕ) → m ≡ length (modified_in k anchored past t) → w ≡ length (warnings_in k t)
    → ◌≡◌ {A = Counts} (record { created = ids + length k.cut; modified = m; deleted = 0; warnings = w }) (counts_of ids k anchored past t)
counted ids k anchored past t m w e f = rw (e, f)

pub three-lists : {a b c a' b' c' : List ℕ} → a ≡ a' → b ≡ b' → c ≡ c' → noted a b c ≡ noted a' b' c'
three-lists e f g = rw (e, f, g)

-- ---- tables

module _ (k : Cutting) (points : ℕ) (anchored past : List Bool) (t : Tables) where
  tables-fields : {l l₁ o o₁ r r₁ u u₁ v v₁ s s₁ x x₁ : List ℕ} {c c₁ : List Float} → l ≡ l₁ → o ≡ o₁ → r ≡ r₁ → u ≡ u₁ → v ≡ v₁ → s ≡ s₁ → x ≡ x₁ → c ≡ c₁
      → tables_of l o r u v s x c ≡ tables_of l₁ o₁ r₁ u₁ v₁ s₁ x₁ c₁
  tables-fields a b c d e f g h = rw (a, b, c, d, e, f, g, h)

  -- the tables with lines as `z` has them
  pub all-written : (rs js us : List ℕ) → rs ≡ on_rows road_words (grows_at k.next k.cut road_lanes_at) t.roads → js ≡ on_rows junction_words (grows_at k.next k.cut junction_lanes_at) t.junctions
      → us ≡ rules_follow anchored past k.next k.cut t.rules → (z : Tables) → z ≡ relaid k (blank (work_floats (length k.cut) points)) (lined t)
      → (ls bs ss xs : List ℕ) (c : List Float) → ls ≡ z.lanes → bs ≡ z.boundaries → ss ≡ z.stop_lines → xs ≡ z.crosswalks → c ≡ z.coordinates → tables_of ls bs rs js us ss xs c ≡ tables_cut k points anchored past t
  unfolding tables_cut
  all-written rs js us er ej eu z e ls bs ss xs c el eb es ex ec =
      tables-fields (el ∙ ap (λ (x : Tables). x.lanes) e) (eb ∙ ap (λ (x : Tables). x.boundaries) e) er ej eu (es ∙ ap (λ (x : Tables). x.stop_lines) e) (ex ∙ ap (λ (x : Tables). x.crosswalks) e) (ec ∙ ap (λ (x : Tables). x.coordinates) e)

-- ---- the test of the lists' room

pub off : (b : Bool) → not b ≡ true → b ≡ false
off true e = sym e
off false e = refl

pub on : (b : Bool) → not b ≡ false → b ≡ true
on true e = refl
on false e = sym e

-- an accepted call's end, part by part
left-same : {u v : Tables} {a b : Noted} (deleted : List ℕ) {q r : Answer} → u ≡ v → a ≡ b → q ≡ r → left u a.created a.modified deleted a.warnings q ≡ left v b.created b.modified deleted b.warnings r
left-same deleted e f g = rw (e, f, g)

module _ (d : Drawn) (k : Cutting) (anchored past : List Bool) (t : Tables) where
  module _ (created modified deleted warnings : List ℕ) (m : Counts) (me : m ≡ counts_of d.ids k anchored past t) (q : Bool) (qe : q ≡ lists_fit m created modified deleted warnings) where
    abbrev n : Counts
    n = counts_of d.ids k anchored past t

    placed : q ≡ lists_fit n created modified deleted warnings
    placed = qe ∙ ap (λ (z : Counts). lists_fit z created modified deleted warnings) me

    pub no-list-room : q ≡ false → left t created modified deleted warnings (Err NoRoom) ≡ split_made d k anchored past t created modified deleted warnings
    unfolding split_made
    no-list-room h = rw (sym placed ∙ h)

    module _ (h : q ≡ true) where
      abbrev a1 : Bool
      a1 = leb n.created (length created / 2)

      abbrev a2 : Bool
      a2 = leb n.modified (length modified / 2)

      abbrev a3 : Bool
      a3 = leb n.deleted (length deleted / 2)

      abbrev a4 : Bool
      a4 = leb n.warnings (length warnings / 10)

      all_placed : (a1 && a2 && a3 && a4) ≡ true
      all_placed = sym placed ∙ h

      pub lists-ask : Notable d.first d.ids k anchored past t → Listable d.first d.ids k anchored past t (noted created modified warnings)
      lists-ask f =
          record {
            notable = f;
            created = room n.created (length created) 2 (and-fst a1 a2 (and-fst (a1 && a2) a3 (and-fst (a1 && a2 && a3) a4 all_placed)));
            modified = room n.modified (length modified) 2 (and-snd a1 a2 (and-fst (a1 && a2) a3 (and-fst (a1 && a2 && a3) a4 all_placed)));
            warnings = room n.warnings (length warnings) 10 (and-snd (a1 && a2 && a3) a4 all_placed);
          }

      pub split-made : (u : Tables) → u ≡ tables_cut k d.points anchored past t → (c e w : List ℕ) → noted c e w ≡ lists_written d.first d.ids k anchored past t (noted created modified warnings)
          → (r : Answer) → r ≡ answer_of m k.next (row_with d.own k.cut) → left u c e deleted w r ≡ split_made d k anchored past t created modified deleted warnings
      unfolding split_made
      split-made u ue c e w le r re = rw (sym placed ∙ h) (left-same deleted ue le (re ∙ ap (λ (z : Counts). answer_of z k.next (row_with d.own k.cut)) me))
