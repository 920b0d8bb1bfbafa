-- merge_lanes: what names neither lane is as it was, and what is joined in place stays. Assumes nothing.
use Rattle.std.specs.Prelude.{None, Some}
use mathlib.Core.Path.{◌≡◌, refl, sym, ap, ◌∙◌}
use mathlib.Core.Bool.{Bool, true, false, not, ◌&&◌, ◌||◌, cond, true≢false}
use mathlib.Core.List.{List, [], ◌∷◌, map}
use Prim.Native.Nat.{ℕ, ◌+◌}
use lib.Dec.{eqb}
use borrow.Author.Tests.{eq-eqb}
use Rattle.lists.specs.Select.{keep, any, find, has, place, without}
use Rattle.lists.proofs.Place.{without-absent}
use Rattle.lists.proofs.Select.{any-map}
use Rattle.lists.proofs.Booleans.{neither}
use Rattle.entities.specs.declared.Tolerance.{Tolerance}
use Rattle.entities.specs.declared.BoundaryRef.{BoundaryRef}
use Rattle.entities.specs.Records.{Lane, Boundary, Rule, Map}
use Rattle.rules.specs.Map.{lane, uses, beside}
use Rattle.rules.specs.Edit.{relinked}
use Rattle.rules.specs.Lane.{mentions, freed, rule_lanes, rule_names_lane}
use Rattle.rules.specs.Merge.{SidePlan, kept, in_place, fresh, plan_ids, plan_ref, plan_joins, plan_line, redrawn, joined_boundary, read, replace_lane, links_after, merged_lane, after_merge}
use Rattle.laws.proofs.Links.{found-any, eqb_swap}
use Rattle.laws.proofs.Forgotten.{forgetting-still}
use Rattle.laws.proofs.RemoveLinks.{other}
use Rattle.laws.proofs.Merge.{merged_lanes, still_used, find-other}

-- ---- lists and rules

read-still : (a b : ℕ) (ids : List ℕ) → has b ids ≡ false → map (read a b) ids ≡ ids
unfolding has
read-still a b [] h = refl
read-still a b (i ∷ ids) h =
    let (e, r) = neither (eqb b i) (has b ids) h in
    ap (λ c. cond c a i ∷ map (read a b) ids) (eqb_swap i b ∙ e) ∙ ap (λ xs. i ∷ xs) (read-still a b ids r)

replaced-still : (a b : ℕ) (ids : List ℕ) → has b ids ≡ false → replace_lane a b ids ≡ ids
unfolding replace_lane
replaced-still a b ids h = go (has a ids)
  where
    go : (c : Bool) → cond c (without b ids) (map (read a b) ids) ≡ ids
    go true = without-absent b ids h
    go false = read-still a b ids h

pub rule-unread : (a b : ℕ) (r : Rule) → rule_names_lane b r ≡ false → rule_lanes (replace_lane a b) (replace_lane a b) r ≡ r
rule-unread a b r t =
    let f = replace_lane a b in
    let (lp, ys) = neither (has b r.lanes || has b r.priority) (has b r.yielding) t in
    let (ls, ps) = neither (has b r.lanes) (has b r.priority) lp in
    ap (λ xs. with xs (f r.priority) (f r.yielding)) (replaced-still a b r.lanes ls)
    ∙ (ap (λ xs. with r.lanes xs (f r.yielding)) (replaced-still a b r.priority ps)
    ∙ ap (λ xs. with r.lanes r.priority xs) (replaced-still a b r.yielding ys))
  where
    with : List ℕ → List ℕ → List ℕ → Rule
    with xs ys zs =
        record {
          id = r.id;
          kind = r.kind;
          content = r.content;
          attributes = r.attributes;
          crosswalk = r.crosswalk;
          lanes = xs;
          controlled_crosswalks = r.controlled_crosswalks;
          stop_lines = r.stop_lines;
          priority = ys;
          yielding = zs;
        }

-- ---- lanes and boundaries

-- a lane that a merge may change
abbrev pub takes_part : Lane → Lane → Lane → Bool
takes_part a b l = eqb l.id a.id || mentions b.id l

-- a boundary that a side joins in place
abbrev pub joined_here : SidePlan → SidePlan → Lane → Boundary → Bool
joined_here pl pr a x = plan_joins pl a.left x.id || plan_joins pr a.right x.id

pub boundary-still : (pl pr : SidePlan) (a : Lane) (x : Boundary) → joined_here pl pr a x ≡ false → joined_boundary pl pr a x ≡ x
boundary-still pl pr a x t =
    let (l, r) = neither (plan_joins pl a.left x.id) (plan_joins pr a.right x.id) t in
    ap (λ c. cond c (redrawn (plan_line pr a.right) x) (cond (plan_joins pl a.left x.id) (redrawn (plan_line pl a.left) x) x)) r
    ∙ ap (λ c. cond c (redrawn (plan_line pl a.left) x) x) l

module _ (tol : Tolerance) (next : ℕ) (a b : Lane) (pl pr : SidePlan) where
  pub lane-still : (l : Lane) → takes_part a b l ≡ false → after_merge tol next a b pl pr l ≡ l
  lane-still l t =
      let (e, t1) = neither (eqb l.id a.id) (mentions b.id l) t in
      let (links, slots) = neither (has b.id l.predecessors || has b.id l.successors) (beside l b.id) t1 in
      let (ps, ss) = neither (has b.id l.predecessors) (has b.id l.successors) links in
      ap (λ c. cond c (merged_lane tol.join pl pr next a b (links_after a.id b l)) (links_after a.id b l)) e
      ∙ (ap (λ c. with (cond c (place a.id (without b.id l.predecessors)) (without b.id l.predecessors)) (cond (eqb l.id a.id) b.successors (without b.id l.successors))) ps
      ∙ (ap (λ c. with (without b.id l.predecessors) (cond c b.successors (without b.id l.successors))) e ∙ forgetting-still b.id l t1))
    where
      with : List ℕ → List ℕ → Lane
      with xs ys = relinked l (freed b.id l.left_neighbor) (freed b.id l.right_neighbor) xs ys

  -- ---- a boundary joined in place is the lane's own still

  joins-ref : (p : SidePlan) (k : ℕ) (r : BoundaryRef) (i : ℕ) → plan_joins p r i ≡ true → eqb (plan_ref p k r).boundary i ≡ true
  joins-ref kept k r i h = absurd (true≢false (sym h))
  joins-ref (in_place c) k r i h = h
  joins-ref (fresh c) k r i h = absurd (true≢false (sym h))

  module _ (m : Map) (ea : lane m a.id ≡ Some a) (apart : eqb a.id b.id ≡ false) where
    a-left : find (λ l. eqb l.id a.id) (keep (other b.id) m.lanes) ≡ Some a
    unfolding lane
    a-left = find-other b.id a.id m.lanes ∙ (ap (λ c. cond c None (find (λ l. eqb l.id a.id) m.lanes)) apart ∙ ea)

    a-uses : (i : ℕ) → (plan_joins pl a.left i || plan_joins pr a.right i) ≡ true → uses i (after_merge tol next a b pl pr a) ≡ true
    a-uses i h =
        ap (λ c. uses i (cond c (merged_lane tol.join pl pr next a b (links_after a.id b a)) (links_after a.id b a))) (eq-eqb a.id a.id refl)
        ∙ go (plan_joins pl a.left i) (plan_joins pr a.right i) refl refl h
      where
        or_right : (p q : Bool) → q ≡ true → (p || q) ≡ true
        or_right true q t = refl
        or_right false q t = t

        go : (c d : Bool) → plan_joins pl a.left i ≡ c → plan_joins pr a.right i ≡ d → (c || d) ≡ true
            → (eqb (plan_ref pl next a.left).boundary i || eqb (plan_ref pr (next + plan_ids pl) a.right).boundary i) ≡ true
        go true d e f t = ap (λ c. c || eqb (plan_ref pr (next + plan_ids pl) a.right).boundary i) (joins-ref pl next a.left i e)
        go false true e f t =
            or_right (eqb (plan_ref pl next a.left).boundary i) (eqb (plan_ref pr (next + plan_ids pl) a.right).boundary i) (joins-ref pr (next + plan_ids pl) a.right i f)
        go false false e f t = absurd (true≢false (sym t))

    pub joined-stays : (x : Boundary) → joined_here pl pr a x ≡ true → still_used tol next m a b pl pr x ≡ true
    joined-stays x h = ap (λ c. not (any (uses x.id) (a ∷ b ∷ []) && not c)) used ∙ not-and (any (uses x.id) (a ∷ b ∷ []))
      where
        used : any (uses x.id) (merged_lanes tol next m a b pl pr) ≡ true
        used =
            any-map (uses x.id) (after_merge tol next a b pl pr) (keep (other b.id) m.lanes)
            ∙ found-any (λ l. eqb l.id a.id) (keep (other b.id) m.lanes) a a-left (λ l. uses x.id (after_merge tol next a b pl pr l)) (a-uses x.id h)

        not-and : (p : Bool) → not (p && false) ≡ true
        not-and true = refl
        not-and false = refl
