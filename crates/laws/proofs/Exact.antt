-- The lists of an edit that changes lanes' links and neighbours alone: nothing appears, nothing vanishes, and what differs is in modified.
use Rattle.std.specs.Prelude.{Option, None, Some}
use mathlib.Core.Path.{◌≡◌, refl, sym, ap, ◌∙◌}
use mathlib.Core.Bool.{Bool, true, false, not, ◌&&◌, ◌||◌, cond}
use mathlib.Core.List.{List, [], ◌∷◌, ◌++◌, map}
use Prim.Native.Nat.{ℕ}
use lib.Dec.{eqb, ltb}
use borrow.Author.Tests.{eqb-true, eq-eqb}
use Rattle.lists.specs.Every.{all}
use Rattle.lists.specs.Select.{keep, any, find, has, above, ascending}
use Rattle.lists.proofs.Booleans.{and_both, and-fst, and-snd, or_left}
use Rattle.lists.proofs.Select.{any_append, any-map, any-keep, has-any, all_of, keys-map, keys-keep}
use Rattle.entities.specs.Types.{kind_number}
use Rattle.entities.specs.Records.{Lane, Map, Issue, ChangeSet}
use Rattle.entities.specs.declared.EntityKind.{EntityKind}
use Rattle.entities.specs.declared.EntityKind.TheVariants as K
use Rattle.entities.specs.declared.EntityRef.{EntityRef}
use Rattle.rules.specs.Map.{lane, lane_ids}
use Rattle.rules.specs.Edit.{refs, lanes_where, with_lanes}
use Rattle.rules.specs.Demand.{entities, same_entity, among, appeared, vanished, lane_row, row_of, row_in, row, before, sorted_after, sorted, apart_from, Exact}
use Rattle.laws.proofs.Links.{found-passes, found-any}

-- ---- entities

pub same_self : (e : EntityRef) → same_entity e e ≡ true
same_self e = and_both (eqb (kind_number e.kind) (kind_number e.kind)) (eqb e.id e.id) (eq-eqb (kind_number e.kind) (kind_number e.kind) refl) (eq-eqb e.id e.id refl)

-- a test that every element passes keeps nothing of its opposite
keep-none : {A : Type 0} (p : A → Bool) (xs : List A) → all p xs ≡ true → keep (λ x. not (p x)) xs ≡ []
unfolding keep all
keep-none p [] h = refl
keep-none p (x ∷ xs) h = rw (and-fst (p x) (all p xs) h) (keep-none p xs (and-snd (p x) (all p xs) h))

-- nothing appears in the same list of entities
pub none-appeared : (m n : Map) → entities n ≡ entities m → appeared m n ≡ []
unfolding appeared
none-appeared m n e =
    rw e (keep-none (λ x. among x (entities m)) (entities m) (all_of (λ x. among x (entities m)) (entities m) (λ x here. unfold among in here (same_entity x) (same_self x))))

-- the entities that are no lanes
abbrev rest : Map → List EntityRef
rest m =
    refs K.Boundary (map (λ b. b.id) m.boundaries)
    ++ (refs K.Road (map (λ r. r.id) m.roads)
    ++ (refs K.Junction (map (λ j. j.id) m.junctions)
    ++ (refs K.StopLine (map (λ s. s.id) m.stop_lines)
    ++ (refs K.Crosswalk (map (λ c. c.id) m.crosswalks) ++ refs K.RegulatoryElement (map (λ r. r.id) m.rules)))))

-- ---- sorted lists

sorted-refs-after : (k : EntityKind) (i : ℕ) (ids : List ℕ) → above i ids ≡ true → sorted_after (record { kind = k; id = i }) (refs k ids) ≡ true
unfolding sorted_after above
sorted-refs-after k i [] h = refl
sorted-refs-after k i (j ∷ ids) h =
    and_both (before (record { kind = k; id = i }) (record { kind = k; id = j })) (sorted_after (record { kind = k; id = j }) (refs k ids))
    (or-last (ltb (kind_number k) (kind_number k)) (eqb (kind_number k) (kind_number k)) (ltb i j) (eq-eqb (kind_number k) (kind_number k) refl) (and-fst (ltb i j) (above j ids) h))
    (sorted-refs-after k j ids (and-snd (ltb i j) (above j ids) h))
  where
    or-last : (a b c : Bool) → b ≡ true → c ≡ true → (a || (b && c)) ≡ true
    or-last true b c p q = refl
    or-last false b c p q = rw (p, q)

pub sorted-refs : (k : EntityKind) (ids : List ℕ) → ascending ids ≡ true → sorted (refs k ids) ≡ true
unfolding sorted ascending
sorted-refs k [] h = refl
sorted-refs k (i ∷ ids) h = sorted-refs-after k i ids h

-- ---- rows

abbrev pub changed_by : {A : Type 0} → (A → A) → Option A → Option A
changed_by f None = None
changed_by f (Some x) = Some (f x)

-- the found row after a change that keeps keys
pub found_map : {A : Type 0} (key : A → ℕ) (f : A → A) → ((x : A) → key (f x) ≡ key x) → (i : ℕ) (xs : List A)
    → find (λ x. eqb (key x) i) (map f xs) ≡ changed_by f (find (λ x. eqb (key x) i) xs)
unfolding find
found_map key f h i [] = refl
found_map key f h i (x ∷ xs) = rw (h x) (go (eqb (key x) i) (found_map key f h i xs))
  where
    go : (b : Bool) → find (λ y. eqb (key y) i) (map f xs) ≡ changed_by f (find (λ y. eqb (key y) i) xs)
        → cond b (Some (f x)) (find (λ y. eqb (key y) i) (map f xs)) ≡ changed_by f (cond b (Some x) (find (λ y. eqb (key y) i) xs))
    go true r = refl
    go false r = r

-- an entity of a list of ids of one kind
pub among-refs : (e : EntityRef) (k : EntityKind) (ids : List ℕ) → among e (refs k ids) ≡ (eqb (kind_number e.kind) (kind_number k) && has e.id ids)
unfolding among has any
among-refs e k [] = sym (and-false (eqb (kind_number e.kind) (kind_number k)))
  where
    and-false : (a : Bool) → (a && false) ≡ false
    and-false true = refl
    and-false false = refl
among-refs e k (i ∷ ids) = rw (among-refs e k ids) (share (eqb (kind_number e.kind) (kind_number k)) (eqb e.id i) (has e.id ids))
  where
    share : (a b c : Bool) → (a && b || a && c) ≡ (a && (b || c))
    share true b c = refl
    share false b c = refl

any_none : {A : Type 0} (xs : List A) → any (λ x. false) xs ≡ false
unfolding any
any_none [] = refl
any_none (x ∷ xs) = any_none xs

apart_none : (es : List EntityRef) → (apart_from [] es && apart_from [] [] && apart_from es []) ≡ true
unfolding apart_from among any
apart_none es = ap not (any_none es)

-- an id among the rows that pass
pub has_kept : {A : Type 0} (key : A → ℕ) (p : A → Bool) (i : ℕ) (xs : List A) → has i (map key (keep p xs)) ≡ any (λ x. p x && eqb i (key x)) xs
has_kept key p i xs = has-any i (map key (keep p xs)) ∙ any-map (eqb i) key (keep p xs) ∙ any-keep (λ x. eqb i (key x)) p xs

pub has_key : {A : Type 0} (key : A → ℕ) (i : ℕ) (xs : List A) → has i (map key xs) ≡ any (λ x. eqb i (key x)) xs
has_key key i xs = has-any i (map key xs) ∙ any-map (eqb i) key xs

pub any-weaken : {A : Type 0} (p q : A → Bool) (xs : List A) → ((x : A) → p x ≡ true → q x ≡ true) → any p xs ≡ true → any q xs ≡ true
unfolding any
any-weaken p q [] h t = t
any-weaken p q (x ∷ xs) h t = go (p x) refl (any-weaken p q xs h)
  where
    go : (b : Bool) → p x ≡ b → (any p xs ≡ true → any q xs ≡ true) → (q x || any q xs) ≡ true
    go true e r = rw (h x e)
    go false e r = or_right (q x) (any q xs) (r (rw e at t))
      where
        or_right : (a b : Bool) → b ≡ true → (a || b) ≡ true
        or_right true b t = refl
        or_right false b t = t

-- ---- an edit of links and neighbours alone

-- The lists of a change f of the lanes that keeps their ids: modified is the lanes that pass p, and every other lane is as it was.
module _ (m : Map) (f : Lane → Lane) (ids : (l : Lane) → (f l).id ≡ l.id) (p : Lane → Bool) (up : ascending (lane_ids m) ≡ true)
    (still : (i : ℕ) (l : Lane) → lane m i ≡ Some l → p l ≡ false → f l ≡ l) where
  abbrev after : Map
  after = with_lanes (map f m.lanes) m

  same-entities : entities after ≡ entities m
  unfolding entities
  same-entities = rw (keys-map (λ l. l.id) f ids m.lanes)

  -- a lane of modified is in the map
  modified-there : (e : EntityRef) → among e (lanes_where p m.lanes) ≡ true → among e (entities m) ≡ true
  unfolding entities among
  modified-there e t =
      let u = sym (among-refs e K.Lane (map (λ l. l.id) (keep p m.lanes))) ∙ t in
      let kind = eqb (kind_number e.kind) 0 in
      let v = sym (has_kept (λ l. l.id) p e.id m.lanes) ∙ and-snd kind (has e.id (map (λ l. l.id) (keep p m.lanes))) u in
      let w = any-weaken (λ l. p l && eqb e.id l.id) (λ l. eqb e.id l.id) m.lanes (λ l. and-snd (p l) (eqb e.id l.id)) v in
      let x : among e (refs K.Lane (lane_ids m)) ≡ true =
      among-refs e K.Lane (lane_ids m)
      ∙ and_both kind (has e.id (lane_ids m)) (and-fst kind (has e.id (map (λ l. l.id) (keep p m.lanes))) u) (has_key (λ l. l.id) e.id m.lanes ∙ w) in
      any_append (same_entity e) (refs K.Lane (lane_ids m)) (rest m) ∙ or_left (any (same_entity e) (refs K.Lane (lane_ids m))) (any (same_entity e) (rest m)) x

  -- a lane that is found and not in modified does not pass
  not-passed : (i : ℕ) (l : Lane) → lane m i ≡ Some l → has i (map (λ l. l.id) (keep p m.lanes)) ≡ false → p l ≡ false
  unfolding lane
  not-passed i l e h = go (p l) refl
    where
      go : (b : Bool) → p l ≡ b → b ≡ false
      go true t =
          let j : l.id ≡ i = eqb-true l.id i (found-passes (λ x. eqb x.id i) m.lanes l e) in
          let u = found-any (λ x. eqb x.id i) m.lanes l e (λ x. p x && eqb i x.id) (and_both (p l) (eqb i l.id) t (eq-eqb i l.id (sym j))) in
          sym (has_kept (λ x. x.id) p i m.lanes ∙ u) ∙ h
      go false t = refl

  -- the row of a lane that is not in modified
  lane-still : (i : ℕ) → has i (map (λ l. l.id) (keep p m.lanes)) ≡ false → row_in m K.Lane i ≡ row_in after K.Lane i
  lane-still i h = rw (found_map (λ l. l.id) f ids i m.lanes) (go (find (λ l. eqb l.id i) m.lanes) refl)
    where
      go : (o : Option Lane) → find (λ l. eqb l.id i) m.lanes ≡ o → row_of lane_row o ≡ row_of lane_row (changed_by f o)
      go None e = refl
      go (Some l) e =
          let found : lane m i ≡ Some l = unfold lane in e in
          ap (λ k. Some (lane_row k)) (sym (still i l found (not-passed i l found h)))

  abbrev pub listed : List Issue → ChangeSet
  listed ws = record { created = []; modified = lanes_where p m.lanes; deleted = []; warnings = ws }

  row-still : (e : EntityRef) → among e (lanes_where p m.lanes) ≡ false → row m e ≡ row after e
  unfolding row
  row-still e t = go e.kind refl
    where
      kept : List ℕ
      kept = map (λ l. l.id) (keep p m.lanes)

      not-here : (k h : Bool) → k ≡ true → among e (refs K.Lane kept) ≡ (k && h) → among e (refs K.Lane kept) ≡ h
      not-here k h u v = v ∙ rw u

      go : (k : EntityKind) → e.kind ≡ k → row_in m k e.id ≡ row_in after k e.id
      go K.Lane q = lane-still e.id (sym (not-here (eqb (kind_number e.kind) 0) (has e.id kept) (eq-eqb (kind_number e.kind) 0 (ap kind_number q)) (among-refs e K.Lane kept)) ∙ t)
      go K.Boundary q = refl
      go K.Road q = refl
      go K.Junction q = refl
      go K.StopLine q = refl
      go K.TrafficSignal q = refl
      go K.Crosswalk q = refl
      go K.RegulatoryElement q = refl

  pub relink-exact : (ws : List Issue) → Exact m (listed ws) after
  relink-exact ws =
      record {
        created_is = sym (none-appeared m after same-entities);
        deleted_is = sym (unfold vanished in none-appeared after m (sym same-entities));
        modified_survives = λ e t. (modified-there e t, rw same-entities (modified-there e t));
        unmodified_same = λ e a b t. row-still e t;
        created_sorted = unfold sorted in refl;
        modified_sorted = sorted-refs K.Lane (map (λ l. l.id) (keep p m.lanes)) (keys-keep (λ l. l.id) p m.lanes up);
        deleted_sorted = unfold sorted in refl;
        disjoint = apart_none (lanes_where p m.lanes);
      }
