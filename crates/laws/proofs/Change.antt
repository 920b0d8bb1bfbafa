-- The lists of an edit that takes away and adds: what appears and what vanishes, kind by kind, and that the lists are exact. Assumes nothing.
use Rattle.std.specs.Prelude.{Some}
use mathlib.Core.Path.{◌≡◌, refl, sym, ap, ◌∙◌, subst}
use mathlib.Core.Bool.{Bool, true, false, not, ◌&&◌, cond, true≢false}
use mathlib.Core.List.{List, [], ◌∷◌, ◌++◌, map}
use Prim.Native.Nat.{ℕ}
use lib.Dec.{eqb}
use Rattle.lists.specs.Every.{all}
use Rattle.lists.specs.Select.{keep, find, has}
use Rattle.lists.proofs.Booleans.{and_both}
use Rattle.lists.proofs.Select.{all-weaken, all-numbers, kept-pass, keep_all, keep-none, keep-map, keep_same}
use Rattle.entities.specs.declared.EntityKind.{EntityKind}
use Rattle.entities.specs.declared.EntityRef.{EntityRef}
use Rattle.entities.specs.Records.{Map, Issue}
use Rattle.rules.specs.Edit.{refs}
use Rattle.rules.specs.Demand.{entities, same_entity, among, appeared, vanished, row, sorted, apart_from, Exact}
use Rattle.laws.proofs.Links.{eqb_swap}
use Rattle.laws.proofs.Part.{Part, done, also, less, part-keep, all-part, any_part}
use Rattle.laws.proofs.Order.{sorted_part}
use Rattle.laws.proofs.Entities.{all_among, among-kind, ids_of}
use Rattle.laws.proofs.Shrink.{none_of, left-apart}

-- ---- general

pub part_none : {A : Type 0} (xs : List A) → Part [] xs
part_none [] = done
part_none (x ∷ xs) = less (part_none xs)

-- what stands behind is left out
pub part-front : {A : Type 0} (zs : List A) {ys xs : List A} → Part ys xs → Part ys (xs ++ zs)
part-front zs done = part_none zs
part-front zs (also r) = also (part-front zs r)
part-front zs (less r) = less (part-front zs r)

-- those that pass a stricter test
pub part_stricter : {A : Type 0} (p q : A → Bool) (xs : List A) → ((x : A) → p x ≡ true → q x ≡ true) → Part (keep p xs) (keep q xs)
unfolding keep
part_stricter p q [] h = done
part_stricter p q (x ∷ xs) h = go (p x) (q x) refl refl (part_stricter p q xs h)
  where
    go : (c d : Bool) → p x ≡ c → q x ≡ d → Part (keep p xs) (keep q xs) → Part (cond c (x ∷ keep p xs) (keep p xs)) (cond d (x ∷ keep q xs) (keep q xs))
    go true true e f r = also r
    go true false e f r = let z : true ≡ false = sym (h x e) ∙ f in absurd (true≢false z)
    go false true e f r = less r
    go false false e f r = r

-- a row of a table is found where others follow it
pub found_before : {A : Type 0} (key : A → ℕ) (i : ℕ) (xs ys : List A) → has i (map key xs) ≡ true → find (λ x. eqb (key x) i) xs ≡ find (λ x. eqb (key x) i) (xs ++ ys)
unfolding find has
found_before key i [] ys h = absurd (true≢false (sym h))
found_before key i (x ∷ xs) ys h = go (eqb (key x) i) (eqb_swap i (key x)) (found_before key i xs ys)
  where
    go : (c : Bool) → eqb i (key x) ≡ c → (has i (map key xs) ≡ true → find (λ x. eqb (key x) i) xs ≡ find (λ x. eqb (key x) i) (xs ++ ys))
        → cond c (Some x) (find (λ x. eqb (key x) i) xs) ≡ cond c (Some x) (find (λ x. eqb (key x) i) (xs ++ ys))
    go true e r = refl
    go false e r = r (rw e at h)

-- ---- what is not in a map, kind by kind

abbrev pub absent : Map → EntityRef → Bool
absent m e = not (among e (entities m))

pub absent-of : (m : Map) (k : EntityKind) (ids : List ℕ) → keep (absent m) (refs k ids) ≡ refs k (keep (λ i. not (has i (ids_of m k))) ids)
absent-of m k ids =
    keep-map (absent m) (λ i. record { kind = k; id = i }) ids
    ∙ ap (refs k) (keep_same (λ i. absent m (record { kind = k; id = i })) (λ i. not (has i (ids_of m k))) ids (λ i. ap not (among-kind m (record { kind = k; id = i }))))

pub none-absent : (m : Map) (k : EntityKind) (ids : List ℕ) → ((i : ℕ) → has i ids ≡ true → has i (ids_of m k) ≡ true) → keep (absent m) (refs k ids) ≡ []
none-absent m k ids h =
    absent-of m k ids
    ∙ ap (refs k) (keep-none (λ i. not (has i (ids_of m k))) ids (all-numbers (λ i. not (not (has i (ids_of m k)))) ids (λ i t. ap (λ b. not (not b)) (h i t))))

pub all-absent : (m : Map) (k : EntityKind) (ids : List ℕ) → ((i : ℕ) → has i ids ≡ true → has i (ids_of m k) ≡ false) → keep (absent m) (refs k ids) ≡ refs k ids
all-absent m k ids h =
    absent-of m k ids ∙ ap (refs k) (keep_all (λ i. not (has i (ids_of m k))) ids (all-numbers (λ i. not (has i (ids_of m k))) ids (λ i t. ap not (h i t))))

-- ---- the lists

-- Both maps' entities are sorted; the modified ones are among both, and the rest of what survives is unchanged.
module _ (m n : Map) (up : sorted (entities m) ≡ true) (up' : sorted (entities n) ≡ true) (made mods dels : List EntityRef) (came : made ≡ appeared m n)
    (went : dels ≡ vanished m n) (was : Part mods (entities m)) (is : Part mods (entities n))
    (rows : (e : EntityRef) → among e (entities m) ≡ true → among e (entities n) ≡ true → among e mods ≡ false → row m e ≡ row n e) where
  there : (es fs : List EntityRef) → Part es fs → (e : EntityRef) → among e es ≡ true → among e fs ≡ true
  unfolding among
  there es fs r e t = any_part (same_entity e) r t

  made-part : Part made (entities n)
  unfolding appeared
  made-part = subst (λ es. Part es (entities n)) (sym came) (part-keep (absent m) (entities n))

  gone-part : Part dels (entities m)
  unfolding vanished appeared
  gone-part = subst (λ es. Part es (entities m)) (sym went) (part-keep (absent n) (entities m))

  -- what is made is in no list of what was there
  made-apart : (es : List EntityRef) → Part es (entities m) → apart_from made es ≡ true
  unfolding apart_from appeared
  made-apart es r =
      ap not (none_of (λ e. among e es) made (all-weaken (absent m) (λ e. not (among e es)) made not_there (subst (λ fs. all (absent m) fs ≡ true) (sym came) (kept-pass (absent m) (entities n)))))
    where
      not_there : (e : EntityRef) → absent m e ≡ true → not (among e es) ≡ true
      not_there e t = go (among e es) refl
        where
          go : (b : Bool) → among e es ≡ b → not b ≡ true
          go true u = let v : absent m e ≡ false = ap not (there es (entities m) r e u) in sym v ∙ t
          go false u = refl

  mods_apart : apart_from mods dels ≡ true
  unfolding apart_from vanished appeared
  mods_apart =
      ap not (none_of (λ e. among e dels) mods (all-weaken (λ e. among e (entities n)) (λ e. not (among e dels)) mods
      (λ e t. ap not (ap (among e) went ∙ left-apart e (entities m) (entities n) t)) (all-part (λ e. among e (entities n)) is (all_among (entities n)))))

  pub change-exact : (ws : List Issue) → Exact m (record { created = made; modified = mods; deleted = dels; warnings = ws }) n
  change-exact ws =
      record {
        created_is = came;
        deleted_is = went;
        modified_survives = λ e t. (there mods (entities m) was e t, there mods (entities n) is e t);
        unmodified_same = rows;
        created_sorted = sorted_part made-part up';
        modified_sorted = sorted_part was up;
        deleted_sorted = sorted_part gone-part up;
        disjoint =
            and_both (apart_from made mods && apart_from made dels) (apart_from mods dels)
            (and_both (apart_from made mods) (apart_from made dels) (made-apart mods was) (made-apart dels gone-part)) mods_apart;
      }
