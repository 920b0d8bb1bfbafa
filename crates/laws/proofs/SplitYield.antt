-- split_lane: what an accepted call yields, how many ids it allocates, and that its links are the link book's entry, whatever the counter. Assumes nothing.
use Rattle.std.specs.Prelude.{Some, Ok}
use mathlib.Core.Path.{◌≡◌, refl, sym, ap, ◌∙◌}
use mathlib.Core.Bool.{Bool, true, cond}
use mathlib.Core.List.{List, [], ◌++◌, map}
use Prim.Native.Nat.{ℕ, ◌+◌, ◌<◌, ◌≤◌}
use native.Mathlib.Omega.{arith}
use lib.Dec.{leb}
use lib.Ieee.{Float}
use lib.ListN.{length, length-map}
use borrow.Author.Tests.{ne_eqb, leb-true}
use Rattle.lists.specs.Select.{keep, any, each, has, ascending, second_of}
use Rattle.geometry.specs.declared.Point2.{Point2}
use Rattle.entities.specs.declared.Tolerance.{Tolerance}
use Rattle.entities.specs.declared.EntityKind.TheVariants as K
use Rattle.entities.specs.Records.{Lane, Boundary, Rule, Map}
use Rattle.rules.specs.Map.{lane, lane_ids, leads_to, uses, rule_anchor}
use Rattle.rules.specs.Sound.{next_id, last_counter}
use Rattle.rules.specs.Edit.{Edited, refs}
use Rattle.rules.specs.Split.{LanePlan, Piece, lane_plans, pieces, pieces_ids, halves, new_pieces, unshared_piece, dropped_all, follow, cut_map, cut, group_of}
use Rattle.rules.specs.Ops.{counter_after}
use Rattle.rules.specs.Book.{pairs, created_lanes, book_split}
use Rattle.laws.proofs.Find.{numbered}
use Rattle.laws.proofs.GrowRows.{changed_rows}
use Rattle.laws.proofs.SplitLanes.{map-map, half_pair, halves-numbered, Chosen, firsts-are}
use Rattle.laws.proofs.SplitBook.{split-leads}
use Rattle.laws.proofs.SplitSound.{divided}
use Rattle.laws.proofs.SplitExact.{cut_tests, seconds}
use Rattle.laws.proofs.SplitGroup.{group-has, group-ids, has_some, created-lanes, pairs_of}
use Rattle.laws.proofs.SplitPlans.{plans-of}

-- ---- what is cut

abbrev pub cut_of : Map → List ℕ → List Lane
cut_of m group = keep (λ x. has x.id group) m.lanes

abbrev pub drawn_of : Map → List ℕ → List Boundary
drawn_of m group = keep (λ b. any (uses b.id) (cut_of m group)) m.boundaries

abbrev pub pieces_of : Map → List ℕ → Point2 → ℕ → List Piece
pieces_of m group p start = pieces group m.lanes p start (drawn_of m group)

-- what becomes of a rule's own lanes
abbrev pub following : Tolerance → Map → List LanePlan → List Piece → ℕ → Rule → List ℕ → List ℕ
following tol m ps xs next r =
    let hs = halves next ps in
    let after = cut_map m ps xs hs next in
    follow tol.join after ps hs (rule_anchor after r)

-- ---- what is yielded

abbrev pub yielded : Tolerance → ℕ → Map → ℕ → List ℕ → List LanePlan → List Piece → Edited
yielded tol start m i group ps xs =
    let next = start + pieces_ids xs in
    record {
      result = divided (following tol m ps xs next) m ps xs next;
      ids = pieces_ids xs + length ps;
      second = second_of (halves next ps) i;
      changes =
          record {
            created = refs K.Lane (seconds ps next) ++ refs K.Boundary (map (λ b. b.id) (each new_pieces xs));
            modified = changed_rows (cut_tests (following tol m ps xs next) m ps xs next group) m;
            deleted = [];
            warnings = each unshared_piece xs ++ dropped_all (halves next ps) next ps;
          };
    }

pub cut-yields : (tol : Tolerance) (start : ℕ) (m : Map) (i : ℕ) (group : List ℕ) (ps : List LanePlan) (xs : List Piece)
    → cut tol start m i group ps xs ≡ yielded tol start m i group ps xs
unfolding cut cut_map
cut-yields tol start m i group ps xs = refl

-- ---- an accepted call

module _ (tol : Tolerance) (counter : ℕ) (m : Map) (up : ascending (lane_ids m) ≡ true) (i : ℕ) (l : Lane) (found : lane m i ≡ Some l) (neighbors : Bool) (at : Float) (p : Point2)
    (ps : List LanePlan) (plans : lane_plans tol m i at p (cut_of m (group_of m i neighbors)) ≡ Ok ps) where
  abbrev group : List ℕ
  group = group_of m i neighbors

  pub choice : Chosen m ps
  choice = record { up = up; chosen = λ x. has x.id group; planned = plans-of tol m i at p (cut_of m group) ps plans }

  -- the halves' first ids are the group
  pub firsts-group : (next : ℕ) → map (λ (h : ℕ × ℕ). h.0) (halves next ps) ≡ group
  unfolding choice
  firsts-group next =
      ap (λ ks. map (λ (h : ℕ × ℕ). h.0) ks) (halves-numbered next ps)
      ∙ (map-map (λ (h : ℕ × ℕ). h.0) half_pair (numbered next ps) ∙ (firsts-are m ps next choice ∙ group-ids m i l found up neighbors))

  -- ---- how many ids are allocated

  some-cut : 0 < length ps
  some-cut =
      let cuts = cut_of m (group_of m i neighbors) in
      let a = has_some i (map (λ k. k.id) cuts) (ap (has i) (group-ids m i l found up neighbors) ∙ group-has m i l found up neighbors) in
      positive (length ps) (length (map (λ x. x.of) ps)) (length cuts) (length (map (λ k. k.id) cuts)) (length-map ps (λ x. x.of))
      (ap length (plans-of tol m i at p cuts ps plans))
      (length-map cuts (λ k. k.id)) a
    where
      positive : (a b c d : ℕ) → b ≡ a → b ≡ c → d ≡ c → 0 < d → 0 < a
      positive a b c d e f g h = omega arith

  -- at least the lane's own second half has one
  pub counter-is : (k : ℕ) → counter_after counter (k + length ps) ≡ next_id counter + (k + length ps)
  counter-is k = ap (λ b. cond b counter (next_id counter + (k + length ps))) (ne_eqb (k + length ps) 0 (λ e. none-cut (length ps) k some-cut e))
    where
      none-cut : (a b : ℕ) → 0 < a → b + a ≡ 0 → ⊥
      none-cut a b h e = omega arith

  -- so an accepted call finds the counter below its last value
  pub ids_are_left : (k last : ℕ) → last ≡ last_counter → leb (counter_after counter (k + length ps)) last_counter ≡ true → next_id counter < last
  ids_are_left k last e h =
      left (next_id counter) k (length ps) last some-cut (leb-true (next_id counter + (k + length ps)) last
      (ap (λ c. leb (next_id counter + (k + length ps)) c) e ∙ (ap (λ c. leb c last_counter) (sym (counter-is k)) ∙ h)))
    where
      left : (n k a c : ℕ) → 0 < a → n + (k + a) ≤ c → n < c
      left n k a c p q = omega arith

  -- ---- the link book's entry

  pub split_books : (start : ℕ) (xs : List Piece) (x y : ℕ)
      → leads_to (yielded tol start m i group ps xs).result x y ≡ book_split (pairs group (created_lanes (yielded tol start m i group ps xs).changes.created)) (leads_to m) x y
  split_books start xs x y =
      let next = start + pieces_ids xs in
      split-leads m ps next choice xs (divided (following tol m ps xs next) m ps xs next) refl x y
      ∙ ap (λ hs. book_split hs (leads_to m) x y)
      (sym
      (ap (pairs group) (created-lanes (seconds ps next) (map (λ b. b.id) (each new_pieces xs)))
      ∙ (ap (λ g. pairs g (seconds ps next)) (sym (firsts-group next)) ∙ pairs_of (halves next ps))))
