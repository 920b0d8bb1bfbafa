-- merge_lanes obeys the law of one accepted call. Assumes nothing.
use Rattle.std.specs.Prelude.{Some, Err, Ok}
use mathlib.Core.Path.{◌≡◌, refl, sym, ap, ◌∙◌, subst}
use mathlib.Core.Bool.{true, false, not, true≢false}
use mathlib.Core.List.{List, [], ◌∷◌}
use Prim.Native.Nat.{ℕ, ◌+◌}
use lib.Dec.{eqb, leb}
use borrow.Author.Tests.{eqb-true, not-true}
use Rattle.lists.specs.Select.{same_numbers}
use Rattle.lists.proofs.Booleans.{and-fst, and-snd}
use Rattle.entities.specs.declared.Tolerance.{Tolerance}
use Rattle.entities.specs.declared.Side.TheVariants as S
use Rattle.entities.specs.declared.Refusal.TheVariants as R
use Rattle.entities.specs.Records.{Lane}
use Rattle.rules.specs.Map.{lane}
use Rattle.rules.specs.Sound.{sound, next_id, last_counter}
use Rattle.rules.specs.Edit.{Res, ◌>>=◌, check, Edited, require_lane}
use Rattle.rules.specs.Merge.{SidePlan, side_plan, plan_ids, merged, merge_lanes}
use Rattle.rules.specs.Ops.{MergeLanes, State, edit, counter_after}
use Rattle.rules.specs.Demand.{Exact}
use Rattle.rules.proofs.Facts.{sound-facts}
use Rattle.laws.proofs.Links.{lane-id, eqb_swap}
use Rattle.laws.proofs.Entities.{keys_of}
use Rattle.laws.proofs.Law.{Law, Lawful}
use Rattle.laws.proofs.Lawful.{yields, no-yield, required, checked}
use Rattle.laws.proofs.MergePlans.{Planned, side-planned}
use Rattle.laws.proofs.MergeLinks.{merge-leads}
use Rattle.laws.proofs.MergeCounter.{counter-free}
use Rattle.laws.proofs.MergeSound.{merge-sound}
use Rattle.laws.proofs.MergeExact.{merge-exact}

-- ---- general

-- what a step yields, where the whole yields
bound : {A B : Type 0} (r : Res A) (k : A → Res B) (e : B) → (r >>= k) ≡ Ok e → (x : A) × (r ≡ Ok x) × (k x ≡ Ok e)
bound (Err r) k e h = absurd (no-yield r e h)
bound (Ok x) k e h = (x, refl, h)

same-numbers : (xs ys : List ℕ) → same_numbers xs ys ≡ true → xs ≡ ys
unfolding same_numbers
same-numbers [] [] h = refl
same-numbers [] (y ∷ ys) h = absurd (true≢false (sym h))
same-numbers (x ∷ xs) [] h = absurd (true≢false (sym h))
same-numbers (x ∷ xs) (y ∷ ys) h =
    let e : x ≡ y = eqb-true x y (and-fst (eqb x y) (same_numbers xs ys) h) in
    ap (λ z. z ∷ xs) e ∙ ap (λ zs. y ∷ zs) (same-numbers xs ys (and-snd (eqb x y) (same_numbers xs ys) h))

-- ---- an accepted merge

-- The law of the finished map, once both lanes are found and both sides planned.
module _ (tol : Tolerance) (s : State) (sane : sound s.counter s.map ≡ true) (a b : Lane) (ea : lane s.map a.id ≡ Some a) (eb : lane s.map b.id ≡ Some b)
    (apart : eqb a.id b.id ≡ false) (out : a.successors ≡ b.id ∷ []) (into : b.predecessors ≡ a.id ∷ []) (pl pr : SidePlan)
    (fl : Planned s.map a.left.boundary pl) (fr : Planned s.map a.right.boundary pr) where
  abbrev e : Edited
  e = merged tol (next_id s.counter) s.map a b pl pr

  apart' : eqb b.id a.id ≡ false
  apart' = eqb_swap b.id a.id ∙ apart

  lists : leb (counter_after s.counter e.ids) last_counter ≡ true → Exact s.map e.changes e.result
  unfolding merged
  lists room =
      let f = sound-facts s.counter s.map sane in
      merge-exact tol (next_id s.counter) s.map a b pl pr ea eb apart fl fr (counter-free s.counter (plan_ids pl + plan_ids pr) s.map f.counter-above room) f.ids
      e.changes.warnings

  merged-law : Law (MergeLanes a.id b.id) s e
  unfolding merged
  merged-law =
      let f = sound-facts s.counter s.map sane in
      record {
        stays_sound = merge-sound tol s.counter s.map a b pl pr ea eb apart' out into fl fr sane;
        books = merge-leads tol (next_id s.counter) s.map a b pl pr ea eb apart' (keys_of s.map f.ids).lanes-up f.links out into;
        lists-exact = lists;
      }

-- the same by the ids that were named, of what the definition yields
named-law : (tol : Tolerance) (a b : ℕ) (s : State) → sound s.counter s.map ≡ true → (la lb : Lane) → lane s.map a ≡ Some la → lane s.map b ≡ Some lb
    → not (eqb a b) ≡ true → same_numbers la.successors (b ∷ []) ≡ true → same_numbers lb.predecessors (a ∷ []) ≡ true → (pl pr : SidePlan)
    → side_plan tol s.map S.Left la lb ≡ Ok pl → side_plan tol s.map S.Right la lb ≡ Ok pr → (e : Edited)
    → ◌≡◌ {A = Res Edited} (Ok (merged tol (next_id s.counter) s.map la lb pl pr)) (Ok e) → Law (MergeLanes a b) s e
named-law tol a b s sane la lb ea eb apart out into pl pr el er e h =
    let m = s.map in
    let ia : la.id ≡ a = lane-id m a la ea in
    let ib : lb.id ≡ b = lane-id m b lb eb in
    let reach = (sound-facts s.counter m sane).reach in
    subst (λ x. Law (MergeLanes a b) s x) (yields h)
    (subst (λ i. Law (MergeLanes i b) s (merged tol (next_id s.counter) m la lb pl pr)) ia
    (subst (λ j. Law (MergeLanes la.id j) s (merged tol (next_id s.counter) m la lb pl pr)) ib
    (merged-law tol s sane la lb (ap (lane m) ia ∙ ea) (ap (lane m) ib ∙ eb)
    (ap (λ i. eqb i lb.id) ia ∙ (ap (eqb a) ib ∙ not-true (eqb a b) apart))
    (same-numbers la.successors (b ∷ []) out ∙ ap (λ j. j ∷ []) (sym ib))
    (same-numbers lb.predecessors (a ∷ []) into ∙ ap (λ i. i ∷ []) (sym ia)) pl pr
    (side-planned m reach tol S.Left la lb pl el) (side-planned m reach tol S.Right la lb pr er))))

module _ (tol : Tolerance) (a b : ℕ) where
  pub merge-lawful : Lawful tol (MergeLanes a b)
  unfolding edit merge_lanes
  merge-lawful s sane e h =
      let m = s.map in
      let (la, ea, h1) = required m a (λ la. require_lane m b >>= (λ lb. tests s la lb)) e h in
      let (lb, eb, h2) = required m b (λ lb. tests s la lb) e h1 in
      let (apart, h3) = checked (not (eqb a b)) (R.NotMergeable a) (λ ok. second s la lb) e h2 in
      let (out, h4) = checked (same_numbers la.successors (b ∷ [])) (R.NotMergeable a) (λ ok. third s la lb) e h3 in
      let (into, h5) = checked (same_numbers lb.predecessors (a ∷ [])) (R.NotMergeable a) (λ ok. sides s la lb) e h4 in
      let (pl, el, h6) = bound (side_plan tol m S.Left la lb) (λ pl. side_plan tol m S.Right la lb >>= (λ pr. finished s la lb pl pr)) e h5 in
      let (pr, er, h7) = bound (side_plan tol m S.Right la lb) (λ pr. finished s la lb pl pr) e h6 in
      named-law tol a b s sane la lb ea eb apart out into pl pr el er e h7
    where
      finished : State → Lane → Lane → SidePlan → SidePlan → Res Edited
      finished s la lb pl pr = Ok (merged tol (next_id s.counter) s.map la lb pl pr)

      sides : State → Lane → Lane → Res Edited
      sides s la lb = side_plan tol s.map S.Left la lb >>= (λ pl. side_plan tol s.map S.Right la lb >>= (λ pr. finished s la lb pl pr))

      third : State → Lane → Lane → Res Edited
      third s la lb = check (same_numbers lb.predecessors (a ∷ [])) (R.NotMergeable a) >>= (λ ok. sides s la lb)

      second : State → Lane → Lane → Res Edited
      second s la lb = check (same_numbers la.successors (b ∷ [])) (R.NotMergeable a) >>= (λ ok. third s la lb)

      tests : State → Lane → Lane → Res Edited
      tests s la lb = check (not (eqb a b)) (R.NotMergeable a) >>= (λ ok. second s la lb)
