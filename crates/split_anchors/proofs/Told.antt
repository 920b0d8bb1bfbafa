-- The marks that are found before the cut say of every rule what document 01 says of it in the map after the cut. Assumes nothing.
use Rattle.std.specs.Prelude.{Option, None, Some}
use mathlib.Core.Path.{◌≡◌, refl, sym, ap, ◌∙◌}
use mathlib.Core.Logic.{◌⊎◌, inl, inr}
use Prim.Native.Nat.{ℕ, suc, ◌<◌}
use mathlib.Core.Bool.{Bool, true, false, cond}
use mathlib.Core.List.{List, [], ◌∷◌, map}
use lib.Ieee.{Float}
use lib.ListN.{length, get_or, take, length-map}
use lib.Seq.{get_or-take}
use Rattle.lists.specs.Rows.{over, row_with}
use Rattle.lists.specs.Select.{any, ascending, has}
use Rattle.lists.proofs.Rows.{row-at}
use Rattle.geometry.specs.Float.{zeroᶠ}
use Rattle.entities.specs.Records.{Lane, Rule, Map}
use Rattle.rules.specs.Names.{Point2}
use Rattle.rules.specs.Map.{lane, rule_anchor}
use Rattle.rules.specs.Split.{LanePlan, on_second, cut_map}
use Rattle.laws.proofs.Find.{no-some, some_is, numbered, numbered-list}
use Rattle.laws.proofs.SplitLanes.{map-map, Numbered, firsts-up}
use Rattle.tables.specs.View.{word, ids_at, rows, lane_of, boundary_of, rule_of, stop_line_of, crosswalk_of}
use Rattle.lookup.specs.Lookup.{place_of, row_at, crossed}
use Rattle.lookup.proofs.Laws.{find_at, find_none}
use Rattle.anchors.proofs.Anchor.{anchor_crossed}
use Rattle.follows.specs.Following.{marks_of}
use Rattle.split_rules.specs.Past.{found_past, rank_past, lane_past, anchor_of, is_there, anchored_by, past_by, Marking}
use Rattle.split_named.proofs.Words.{is_some, cut_ids, Marks}
use Rattle.split_named.proofs.Rules.{RuleMarked}
use Rattle.split_laws.proofs.Members.{In, here, there, place_in, place-within, place_map}
use Rattle.split_anchors.proofs.Sides.{next, after}
use Rattle.split_anchors.proofs.Centers.{Cut, planned, lane-before, past_is}
use Rattle.split_anchors.proofs.Places.{anchored-at, mark-at}

-- ---- general

pub marks-each : (side : LanePlan → ℕ → Bool) (past : List Bool) (ids : List ℕ) (n : ℕ) (ps : List LanePlan)
    → ((j : ℕ) (x : LanePlan) → In (j, x) (numbered n ps) → (k : ℕ) → k < length ids → get_or ids k 0 ≡ x.of.id → get_or past k false ≡ side x j) → Marks side past ids n ps
unfolding Marks numbered
marks-each side past ids n [] h = refl
marks-each side past ids n (x ∷ ps) h = (h n x here, marks-each side past ids (suc n) ps (λ j y i. h j y (there i)))

there-some : (o : Option Point2) → is_there o ≡ is_some o
there-some None = refl
there-some (Some a) = refl

lane-key : (c : List Float) (w : List ℕ) → (lane_of c w).id ≡ word 0 w
unfolding lane_of
lane-key c w = refl

-- ---- the cut

module _ (m : Map) (ps : List LanePlan) (group : List ℕ) (ls : List Lane) (p : Point2) (start : ℕ) (h : Cut m ps group ls p start) where
  abbrev new : ℕ
  new = next m ps group ls p start

  abbrev then : Map
  then = after m ps group ls p start

  pub cuts-up : ascending (cut_ids ps) ≡ true
  cuts-up =
      ap ascending (ap (map (λ x. x.of.id)) (sym (numbered-list new ps)) ∙ map-map (λ x. x.of.id) (λ (z : Numbered). z.1) (numbered new ps))
      ∙ firsts-up m ps new h.lanes.choice

  -- a cut leaves stop lines and crosswalks
  pub anchor_after : (c : List Float) (stops crosswalks : List ℕ) → m.stop_lines ≡ rows 4 (stop_line_of c) stops → m.crosswalks ≡ rows 7 (crosswalk_of c) crosswalks
      → (r : Rule) → rule_anchor then r ≡ rule_anchor (crossed c stops crosswalks) r
  unfolding cut_map
  anchor_after c stops crosswalks e f r = anchor_crossed c stops crosswalks then r e f

  module _ (c : List Float) (lanes boundaries : List ℕ) (same-lanes : m.lanes ≡ rows 52 (lane_of c) lanes) (same_lines : m.boundaries ≡ rows 5 (boundary_of c) boundaries)
      (stations : List Float) (placed : take (length ps) stations ≡ map (λ x. x.station) ps) (join : Float) where
    abbrev passes : Point2 → ℕ → Bool
    passes a id = lane_past join c lanes boundaries p (cut_ids ps) stations a id

    -- a lane's mark
    pub lane-marked : (j : ℕ) (x : LanePlan) → In (j, x) (numbered new ps) → (a : Point2) → passes a x.of.id ≡ on_second join then x j a
    lane-marked j x i a =
        let pl = planned m ps group ls p start h c boundaries same_lines j x i in
        let r = place_in ps x pl in
        let l : r < length ps = place-within ps x pl in
        let k : r < length (cut_ids ps) = rw length-map l in
        let e : row_with x.of.id (cut_ids ps) ≡ Some r = row-at x.of.id r (cut_ids ps) cuts-up k (place_map (λ x. x.of.id) 0 ps x pl) in
        let s : get_or stations r zeroᶠ ≡ x.station = sym (get_or-take (length ps) stations r zeroᶠ l) ∙ (ap (λ ss. get_or ss r zeroᶠ) placed ∙ place_map (λ x. x.station) zeroᶠ ps x pl) in
        ap (rank_past join c lanes boundaries p stations a x.of.id) e
        ∙ (ap (λ s. found_past join c lanes boundaries p s a (place_of 52 lanes x.of.id)) s ∙ go (place_of 52 lanes x.of.id) refl)
      where
        before : lane m x.of.id ≡ Some x.of
        before = lane-before m ps group ls p start h c boundaries same_lines j x i

        none-there : place_of 52 lanes x.of.id ≡ None → lane m x.of.id ≡ None
        none-there q = unfold lane in rw same-lanes (find_none 52 (lane_of c) (λ l. l.id) (lane-key c) lanes x.of.id q)

        one-there : (k : ℕ) → place_of 52 lanes x.of.id ≡ Some k → lane m x.of.id ≡ Some (lane_of c (row_at 52 lanes k))
        one-there k q = unfold lane in rw same-lanes (find_at 52 (lane_of c) (λ l. l.id) (lane-key c) lanes x.of.id k q)

        go : (f : Option ℕ) → place_of 52 lanes x.of.id ≡ f → found_past join c lanes boundaries p x.station a f ≡ on_second join then x j a
        go None q = absurd (no-some x.of (sym (none-there q) ∙ before))
        go (Some k) q = sym (past_is m ps group ls p start h c boundaries same_lines j x i join lanes k (some_is (sym (one-there k q) ∙ before)) a)

    -- the marks of a rule's row: those that document 01 asks for, or it names no cut lane
    module _ (stops crosswalks : List ℕ) (same-stops : m.stop_lines ≡ rows 4 (stop_line_of c) stops) (same-crosswalks : m.crosswalks ≡ rows 7 (crosswalk_of c) crosswalks)
        (t : List ℕ) (anchored past : List Bool) (g : Marking c lanes boundaries (cut_ids ps) stations t stops crosswalks anchored past) (i : ℕ) (d : i < word 0 t) where
      abbrev row : List ℕ
      row = row_at 330 t i

      abbrev named : Bool
      named = any (λ k. has k (cut_ids ps)) (ids_at 5 row)

      abbrev has_anchor : Bool
      has_anchor = get_or (over anchored 0 (anchored_by c stops crosswalks (cut_ids ps) t)) i false

      abbrev marks : List Bool
      marks = marks_of (past_by join c lanes boundaries p (cut_ids ps) stations stops crosswalks t past) i

      anchor_named : named ≡ true → anchor_of c stops crosswalks (cut_ids ps) row ≡ rule_anchor then (rule_of row)
      anchor_named q = ap (λ b. cond b (rule_anchor (crossed c stops crosswalks) (rule_of row)) None) q ∙ sym (anchor_after c stops crosswalks same-stops same-crosswalks (rule_of row))

      pub rule-marked : named ≡ true → RuleMarked join then has_anchor marks new ps row
      rule-marked q =
          record {
            anchor = anchored-at join c lanes boundaries p (cut_ids ps) stations stops crosswalks t anchored past g i d ∙ (ap is_there (anchor_named q) ∙ there-some (rule_anchor then (rule_of row)));
            marks = λ a e.
                marks-each (λ x j. on_second join then x j a) marks (ids_at 5 row) new ps (λ j x n k l z.
                mark-at join c lanes boundaries p (cut_ids ps) stations stops crosswalks t anchored past g i d a (anchor_named q ∙ e) k l ∙ (ap (passes a) z ∙ lane-marked j x n a));
          }

      -- one that names none is told to have no anchor
      pub rule-unmarked : named ≡ false → has_anchor ≡ false
      rule-unmarked q =
          anchored-at join c lanes boundaries p (cut_ids ps) stations stops crosswalks t anchored past g i d
          ∙ ap (λ b. is_there (cond b (rule_anchor (crossed c stops crosswalks) (rule_of row)) None)) q

      pub rule_told : (RuleMarked join then has_anchor marks new ps row) ⊎ ((named ≡ false) × (has_anchor ≡ false))
      rule_told = go named refl
        where
          go : (b : Bool) → named ≡ b → (RuleMarked join then has_anchor marks new ps row) ⊎ ((named ≡ false) × (has_anchor ≡ false))
          go true q = inl (rule-marked q)
          go false q = inr (q, rule-unmarked q)
