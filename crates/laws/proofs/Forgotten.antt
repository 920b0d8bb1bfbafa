-- A lane is forgotten: what does not name it is as it was. Assumes nothing.
use Rattle.std.specs.Prelude.{Option, None, Some}
use mathlib.Core.Path.{◌≡◌, refl, ap, ◌∙◌}
use mathlib.Core.Bool.{false, ◌||◌, cond}
use mathlib.Core.List.{List}
use Prim.Native.Nat.{ℕ}
use Rattle.lists.specs.Select.{has, without}
use Rattle.lists.proofs.Place.{without-absent}
use Rattle.lists.proofs.Booleans.{neither}
use Rattle.entities.specs.declared.Neighbor.{Neighbor}
use Rattle.entities.specs.Records.{Lane, Road, Junction, Rule}
use Rattle.rules.specs.Map.{names, beside}
use Rattle.rules.specs.Edit.{relinked}
use Rattle.rules.specs.Lane.{mentions, freed, forgetting, road_lanes, junction_lanes, rule_lanes, rule_names_lane}

-- ---- what does not name the lane is as it was

freed-still : (a : ℕ) (o : Option Neighbor) → names o a ≡ false → freed a o ≡ o
freed-still a None t = refl
freed-still a (Some n) t = ap (λ b. cond b None (Some n)) t

pub forgetting-still : (a : ℕ) (l : Lane) → mentions a l ≡ false → forgetting a l ≡ l
forgetting-still a l t =
    let (links, slots) = neither (has a l.predecessors || has a l.successors) (beside l a) t in
    let (ps, ss) = neither (has a l.predecessors) (has a l.successors) links in
    let (ln, rn) = neither (names l.left_neighbor a) (names l.right_neighbor a) slots in
    ap (λ o. relinked l o (freed a l.right_neighbor) (without a l.predecessors) (without a l.successors)) (freed-still a l.left_neighbor ln)
    ∙ (ap (λ o. relinked l l.left_neighbor o (without a l.predecessors) (without a l.successors)) (freed-still a l.right_neighbor rn)
    ∙ (ap (λ xs. relinked l l.left_neighbor l.right_neighbor xs (without a l.successors)) (without-absent a l.predecessors ps)
    ∙ ap (λ xs. relinked l l.left_neighbor l.right_neighbor l.predecessors xs) (without-absent a l.successors ss)))

pub road_still : (a : ℕ) (r : Road) → has a r.lanes ≡ false → road_lanes (without a) r ≡ r
road_still a r t = ap (λ xs. road_lanes (λ ys. xs) r) (without-absent a r.lanes t)

pub junction_still : (a : ℕ) (j : Junction) → has a j.lanes ≡ false → junction_lanes (without a) j ≡ j
junction_still a j t = ap (λ xs. junction_lanes (λ ys. xs) j) (without-absent a j.lanes t)

pub rule-still : (a : ℕ) (r : Rule) → rule_names_lane a r ≡ false → rule_lanes (without a) (without a) r ≡ r
rule-still a r t =
    let (lp, ys) = neither (has a r.lanes || has a r.priority) (has a r.yielding) t in
    let (ls, ps) = neither (has a r.lanes) (has a r.priority) lp in
    ap (λ xs. with xs (without a r.priority) (without a r.yielding)) (without-absent a r.lanes ls)
    ∙ (ap (λ xs. with r.lanes xs (without a r.yielding)) (without-absent a r.priority ps)
    ∙ ap (λ xs. with r.lanes r.priority xs) (without-absent a r.yielding ys))
  where
    with : List ℕ → List ℕ → List ℕ → Rule
    with xs ys zs =
        record {
          id = r.id;
          kind = r.kind;
          content = r.content;
          attributes = r.attributes;
          crosswalk = r.crosswalk;
          lanes = xs;
          controlled_crosswalks = r.controlled_crosswalks;
          stop_lines = r.stop_lines;
          priority = ys;
          yielding = zs;
        }
