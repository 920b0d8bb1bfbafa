-- The lists of an edit that adds lanes and boundaries and takes nothing away. Assumes nothing.
use mathlib.Core.Path.{◌≡◌, refl, sym, ap, ◌∙◌, subst}
use mathlib.Core.Bool.{Bool, true, false, not, ◌&&◌, true≢false}
use mathlib.Core.List.{List, [], ◌∷◌, ◌++◌, map, append-nil}
use Prim.Native.Nat.{ℕ}
use Rattle.lists.specs.Every.{all}
use Rattle.lists.specs.Select.{keep, any, has}
use Rattle.lists.proofs.Booleans.{and_both}
use Rattle.lists.proofs.Select.{keep_append, keep-none, keep_all, all-numbers, all-weaken, keep-map, keep_same}
use Rattle.entities.specs.declared.EntityKind.{EntityKind}
use Rattle.entities.specs.declared.EntityKind.TheVariants as K
use Rattle.entities.specs.declared.EntityRef.{EntityRef}
use Rattle.entities.specs.Records.{Lane, Boundary, Road, Junction, Map, Issue}
use Rattle.rules.specs.Map.{lane_ids}
use Rattle.rules.specs.Edit.{refs}
use Rattle.rules.specs.Demand.{entities, same_entity, among, appeared, vanished, row, sorted, apart_from, Exact}
use Rattle.laws.proofs.Part.{Part, done, also, less, part-whole, part-keep, part-map, part-append, part-twice, all-part, any_part}
use Rattle.laws.proofs.Order.{sorted_part}
use Rattle.laws.proofs.Entities.{all_among, among-kind, ids_of, from_roads}
use Rattle.laws.proofs.Shrink.{none_of, left-apart}

-- ---- general

pub part-nil : {A : Type 0} (xs : List A) → Part [] xs
part-nil [] = done
part-nil (x ∷ xs) = less (part-nil xs)

-- a list before another is a part of both
pub part-front : {A : Type 0} (xs ys : List A) → Part xs (xs ++ ys)
part-front [] ys = part-nil ys
part-front (x ∷ xs) ys = also (part-front xs ys)

-- ---- an edit that only adds

-- The first map's entities are among the second's, the modified ones are among the first's, and the rest of the first's is unchanged.
module _ (m n : Map) (more : Part (entities m) (entities n)) (up : sorted (entities n) ≡ true) (mods adds : List EntityRef) (was : Part mods (entities m))
    (came : adds ≡ appeared m n) (rows : (e : EntityRef) → among e (entities m) ≡ true → among e mods ≡ false → row m e ≡ row n e) where
  -- nothing vanishes
  none-gone : [] ≡ vanished m n
  unfolding vanished appeared
  none-gone = sym (keep-none (λ e. not (among e (entities n))) (entities m) (all-weaken (λ e. among e (entities n)) (λ e. not (not (among e (entities n)))) (entities m)
      (λ e t. rw t) (all-part (λ e. among e (entities n)) more (all_among (entities n)))))

  new-sorted : sorted adds ≡ true
  unfolding appeared
  new-sorted = rw came (sorted_part (part-keep (λ e. not (among e (entities m))) (entities n)) up)

  -- what was there is not created
  not-created : (e : EntityRef) → among e (entities m) ≡ true → among e adds ≡ false
  unfolding appeared
  not-created e t = rw came (left-apart e (entities n) (entities m) t)

  there : (es : List EntityRef) → Part mods es → (e : EntityRef) → among e mods ≡ true → among e es ≡ true
  unfolding among
  there es r e t = any_part (same_entity e) r t

  -- a created entity is not modified
  apart-adds : apart_from adds mods ≡ true
  unfolding apart_from
  apart-adds = ap not (none_of (λ e. among e mods) adds (all-weaken (λ e. among e adds) (λ e. not (among e mods)) adds (λ e t. go e t (among e mods) refl) (all_among adds)))
    where
      clash : (a : Bool) → a ≡ true → a ≡ false → ⊥
      clash a p q = nothing (sym p ∙ q)
        where
          nothing : true ≡ false → ⊥
          nothing r = true≢false r

      go : (e : EntityRef) → among e adds ≡ true → (b : Bool) → among e mods ≡ b → not b ≡ true
      go e t false q = refl
      go e t true q = absurd (clash (among e adds) t (not-created e (there (entities m) was e q)))

  apart_none : (es : List EntityRef) → apart_from es [] ≡ true
  unfolding apart_from among any
  apart_none es = ap not (none es)
    where
      none : (es : List EntityRef) → any (λ e. false) es ≡ false
      none [] = refl
      none (e ∷ es) = none es

  pub grow-exact : (ws : List Issue) → Exact m (record { created = adds; modified = mods; deleted = []; warnings = ws }) n
  grow-exact ws =
      record {
        created_is = came;
        deleted_is = none-gone;
        modified_survives = λ e t. (there (entities m) was e t, there (entities n) (part-twice was more) e t);
        unmodified_same = λ e a b t. rows e a t;
        created_sorted = new-sorted;
        modified_sorted = sorted_part was (sorted_part more up);
        deleted_sorted = unfold sorted in refl;
        disjoint = and_both (apart_from adds mods && apart_from adds []) (apart_from mods []) (and_both (apart_from adds mods) (apart_from adds []) apart-adds (apart_none adds))
            (apart_none mods);
      }

-- ---- new lanes and boundaries

-- the ids of each kind: new ones behind the old ones
pub record More (m n : Map) (ls bs : List ℕ) : Type 0 where
  pub lanes-are : lane_ids n ≡ lane_ids m ++ ls
  pub boundaries-are : map (λ b. b.id) n.boundaries ≡ map (λ b. b.id) m.boundaries ++ bs
  pub roads-are : map (λ r. r.id) n.roads ≡ map (λ r. r.id) m.roads
  pub junctions-are : map (λ j. j.id) n.junctions ≡ map (λ j. j.id) m.junctions
  pub rules-are : map (λ r. r.id) n.rules ≡ map (λ r. r.id) m.rules
  pub stop-lines-are : map (λ s. s.id) n.stop_lines ≡ map (λ s. s.id) m.stop_lines
  pub crosswalks-are : map (λ c. c.id) n.crosswalks ≡ map (λ c. c.id) m.crosswalks
  pub lanes-new : all (λ i. not (has i (lane_ids m))) ls ≡ true
  pub boundaries-new : all (λ i. not (has i (map (λ b. b.id) m.boundaries))) bs ≡ true

module _ (m n : Map) (ls bs : List ℕ) (g : More m n ls bs) where
  abbrev gained : List EntityRef
  gained = refs K.Lane (lane_ids m ++ ls) ++ (refs K.Boundary (ids_of m K.Boundary ++ bs) ++ from_roads m)

  entities_gained : entities n ≡ gained
  unfolding entities
  entities_gained = rw (g.lanes-are, g.boundaries-are, g.roads-are, g.junctions-are, g.rules-are, g.stop-lines-are, g.crosswalks-are)

  front : (k : EntityKind) (is js : List ℕ) → Part (refs k is) (refs k (is ++ js))
  front k is js = part-map (λ i. record { kind = k; id = i }) (part-front is js)

  pub more-entities : Part (entities m) (entities n)
  unfolding entities
  more-entities =
      subst (λ es. Part (entities m) es) (sym entities_gained)
      (part-append (front K.Lane (lane_ids m) ls) (part-append (front K.Boundary (ids_of m K.Boundary) bs) (part-whole (from_roads m))))

  abbrev fresh : EntityRef → Bool
  fresh e = not (among e (entities m))

  fresh-of : (k : EntityKind) (ids : List ℕ) → keep fresh (refs k ids) ≡ refs k (keep (λ i. not (has i (ids_of m k))) ids)
  fresh-of k ids =
      keep-map fresh (λ i. record { kind = k; id = i }) ids
      ∙ ap (refs k) (keep_same (λ i. fresh (record { kind = k; id = i })) (λ i. not (has i (ids_of m k))) ids (λ i. ap not (among-kind m (record { kind = k; id = i }))))

  none_old : (ids : List ℕ) → keep (λ i. not (has i ids)) ids ≡ []
  none_old ids = keep-none (λ i. not (has i ids)) ids (all-numbers (λ i. not (not (has i ids))) ids (λ i t. ap (λ b. not (not b)) t))

  none-of-kind : (k : EntityKind) → keep fresh (refs k (ids_of m k)) ≡ []
  none-of-kind k = fresh-of k (ids_of m k) ∙ ap (refs k) (none_old (ids_of m k))

  new-of-kind : (k : EntityKind) (new : List ℕ) → all (λ i. not (has i (ids_of m k))) new ≡ true → keep fresh (refs k (ids_of m k ++ new)) ≡ refs k new
  new-of-kind k new h =
      fresh-of k (ids_of m k ++ new)
      ∙ ap (refs k)
      (keep_append (λ i. not (has i (ids_of m k))) (ids_of m k) new
      ∙ (ap (λ is. is ++ keep (λ i. not (has i (ids_of m k))) new) (none_old (ids_of m k)) ∙ keep_all (λ i. not (has i (ids_of m k))) new h))

  pub came_in : refs K.Lane ls ++ refs K.Boundary bs ≡ appeared m n
  unfolding appeared
  came_in = sym (ap (keep fresh) entities_gained ∙ all_new)
    where
      all_new : keep fresh gained ≡ refs K.Lane ls ++ refs K.Boundary bs
      all_new =
          rw (
            keep_append fresh,
            keep_append fresh,
            keep_append fresh,
            keep_append fresh,
            keep_append fresh,
            keep_append fresh,
            new-of-kind K.Lane ls g.lanes-new,
            new-of-kind K.Boundary bs g.boundaries-new,
            none-of-kind K.Road,
            none-of-kind K.Junction,
            none-of-kind K.StopLine,
            none-of-kind K.Crosswalk,
            none-of-kind K.RegulatoryElement,
            append-nil,
          )
