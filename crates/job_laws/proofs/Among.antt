-- What is kept of a list of entities, and what stands in a map: general laws for the net lists. Assumes nothing.
use mathlib.Core.Path.{◌≡◌, refl, sym, ap, ◌∙◌}
use mathlib.Core.Bool.{Bool, true, false, not, ◌&&◌, ◌||◌, cond}
use mathlib.Core.List.{List, [], ◌∷◌, map}
use Prim.Native.Nat.{ℕ}
use lib.Dec.{eqb}
use borrow.Author.Tests.{eqb-true}
use Rattle.lists.specs.Every.{all}
use Rattle.lists.specs.Select.{keep, any, each}
use Rattle.lists.proofs.Booleans.{and-fst, and-snd, and-false}
use Rattle.lists.proofs.Every.{all_nil, all_head}
use Rattle.lists.proofs.Select.{any-keep, all_map, all-each, all-weaken, kept-pass}
use Rattle.entities.specs.Types.{kind_number}
use Rattle.entities.specs.declared.EntityKind.{EntityKind}
use Rattle.entities.specs.declared.EntityKind.TheVariants as K
use Rattle.entities.specs.declared.EntityRef.{EntityRef}
use Rattle.entities.specs.Records.{Map}
use Rattle.rules.specs.Sound.{ids_named, lane_names, rule_names}
use Rattle.rules.specs.Demand.{same_entity, among, apart_from}
use Rattle.laws.proofs.Entities.{ids_of}
use Rattle.laws.proofs.MergePlans.{both_of}
use Rattle.laws.proofs.Shrink.{none_of}

-- ---- one entity

-- the kind that has a number
abbrev kind_at : ℕ → EntityKind
kind_at n =
    cond (eqb n 0) K.Lane (cond (eqb n 1) K.Boundary (cond (eqb n 2) K.Road (cond (eqb n 3) K.Junction (cond (eqb n 4) K.StopLine
    (cond (eqb n 5) K.TrafficSignal (cond (eqb n 6) K.Crosswalk K.RegulatoryElement))))))

numbered-back : (k : EntityKind) → kind_at (kind_number k) ≡ k
numbered-back K.Lane = refl
numbered-back K.Boundary = refl
numbered-back K.Road = refl
numbered-back K.Junction = refl
numbered-back K.StopLine = refl
numbered-back K.TrafficSignal = refl
numbered-back K.Crosswalk = refl
numbered-back K.RegulatoryElement = refl

-- two names of one entity are the same
pub same-is : (e f : EntityRef) → same_entity e f ≡ true → f ≡ e
same-is e f t =
    let a = eqb (kind_number e.kind) (kind_number f.kind) in
    let b = eqb e.id f.id in
    let n : kind_number e.kind ≡ kind_number f.kind = eqb-true (kind_number e.kind) (kind_number f.kind) (and-fst a b t) in
    let i : e.id ≡ f.id = eqb-true e.id f.id (and-snd a b t) in
    let k : e.kind ≡ f.kind = sym (numbered-back e.kind) ∙ (ap kind_at n ∙ numbered-back f.kind) in
    λ j. record { kind = sym k j; id = sym i j }

-- ---- what is kept of a list

-- an entity that passes, by its name
passing : (e : EntityRef) (p : EntityRef → Bool) (es : List EntityRef) → any (λ f. p f && same_entity e f) es ≡ (any (same_entity e) es && p e)
unfolding any
passing e p [] = refl
passing e p (f ∷ es) =
    step (same_entity e f) (p f) (p e) (any (λ g. p g && same_entity e g) es) (any (same_entity e) es) (λ t. ap p (same-is e f t)) (passing e p es)
  where
    step : (same here own x y : Bool) → (same ≡ true → here ≡ own) → x ≡ (y && own) → (here && same || x) ≡ ((same || y) && own)
    step true true own x y h r = h refl
    step true false own x y h r = r ∙ (ap (λ b. y && b) (sym (h refl)) ∙ (and-false y ∙ h refl))
    step false true own x y h r = r
    step false false own x y h r = r

-- an entity is among those that pass where it is among them all and passes
pub among-keep : (e : EntityRef) (p : EntityRef → Bool) (es : List EntityRef) → among e (keep p es) ≡ (among e es && p e)
unfolding among
among-keep e p es = any-keep (same_entity e) p es ∙ passing e p es

-- those that pass are apart from another list where none that passes is among it
pub kept-apart : (p : EntityRef → Bool) (es fs : List EntityRef) → ((e : EntityRef) → p e ≡ true → among e fs ≡ false) → apart_from (keep p es) fs ≡ true
unfolding apart_from
kept-apart p es fs h = ap not (none_of (λ e. among e fs) (keep p es) (all-weaken p (λ e. not (among e fs)) (keep p es) (λ e t. ap not (h e t)) (kept-pass p es)))

-- ---- ids that a map names

module _ (p : ℕ → Bool) where
  key-passes : {A : Type 0} (g : A → List ℕ) (key : A → ℕ) → ((x : A) → all p (g x) ≡ true → p (key x) ≡ true) → (xs : List A)
      → all p (each g xs) ≡ true → all p (map key xs) ≡ true
  key-passes g key h xs t = all_map p key xs ∙ all-weaken (λ x. all p (g x)) (λ x. p (key x)) xs h (sym (all-each p g xs) ∙ t)

  -- what every named id passes, every id of a table passes
  pub named-pass : (m : Map) → all p (ids_named m) ≡ true → (k : EntityKind) → all p (ids_of m k) ≡ true
  unfolding ids_named
  named-pass m h k =
      let (lanes, h1) = both_of p (each lane_names m.lanes) _ h in
      let (boundaries, h2) = both_of p (map (λ b. b.id) m.boundaries) _ h1 in
      let (roads, h3) = both_of p (each (λ r. r.id ∷ r.lanes) m.roads) _ h2 in
      let (junctions, h4) = both_of p (each (λ j. j.id ∷ j.lanes) m.junctions) _ h3 in
      let (rules, h5) = both_of p (each rule_names m.rules) _ h4 in
      let (stop_lines, crosswalks) = both_of p (map (λ s. s.id) m.stop_lines) _ h5 in
      elim k as (λ j. all p (ids_of m j) ≡ true) [
        | K.Lane ↦ key-passes lane_names (λ l. l.id) (λ l. all_head p l.id _) m.lanes lanes
        | K.Boundary ↦ boundaries
        | K.Road ↦ key-passes (λ r. r.id ∷ r.lanes) (λ r. r.id) (λ r. all_head p r.id r.lanes) m.roads roads
        | K.Junction ↦ key-passes (λ j. j.id ∷ j.lanes) (λ j. j.id) (λ j. all_head p j.id j.lanes) m.junctions junctions
        | K.StopLine ↦ stop_lines
        | K.TrafficSignal ↦ all_nil p
        | K.Crosswalk ↦ crosswalks
        | K.RegulatoryElement ↦ key-passes rule_names (λ r. r.id) (λ r. all_head p r.id _) m.rules rules
      ]
