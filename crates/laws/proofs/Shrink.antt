-- The lists of an edit that only takes away: nothing appears, and what vanishes is in no other list. Assumes nothing.
use mathlib.Core.Path.{◌≡◌, refl, sym, ap, ◌∙◌}
use mathlib.Core.Bool.{Bool, true, false, not, ◌&&◌}
use mathlib.Core.List.{List, [], ◌∷◌}
use lib.Dec.{eqb}
use borrow.Author.Tests.{eqb-true, not-true}
use Rattle.lists.specs.Every.{all}
use Rattle.lists.specs.Select.{keep, any}
use Rattle.lists.proofs.Booleans.{and-fst, and-snd}
use Rattle.lists.proofs.Select.{any_same, any-keep, any-implies, keep-none, all-weaken}
use Rattle.entities.specs.Types.{kind_number}
use Rattle.entities.specs.declared.EntityRef.{EntityRef}
use Rattle.entities.specs.Records.{Map, Issue}
use Rattle.rules.specs.Demand.{entities, same_entity, among, appeared, vanished, row, sorted, apart_from, Exact}
use Rattle.laws.proofs.Part.{Part, part-keep, all-part, any_part}
use Rattle.laws.proofs.Order.{sorted_part}
use Rattle.laws.proofs.Entities.{all_among}

-- ---- general

-- every one of a list fails a test
pub none_of : {A : Type 0} (p : A → Bool) (xs : List A) → all (λ x. not (p x)) xs ≡ true → any p xs ≡ false
unfolding all any
none_of p [] a = refl
none_of p (x ∷ xs) a = rw (not-true (p x) (and-fst (not (p x)) (all (λ y. not (p y)) xs) a)) (none_of p xs (and-snd (not (p x)) (all (λ y. not (p y)) xs) a))

-- ---- lists of entities

-- one entity named twice is among the same lists
same-among : (e f : EntityRef) (es : List EntityRef) → same_entity e f ≡ true → among e es ≡ among f es
unfolding among
same-among e f es t =
    let k : kind_number e.kind ≡ kind_number f.kind = eqb-true (kind_number e.kind) (kind_number f.kind) (and-fst (eqb (kind_number e.kind) (kind_number f.kind)) (eqb e.id f.id) t) in
    let i : e.id ≡ f.id = eqb-true e.id f.id (and-snd (eqb (kind_number e.kind) (kind_number f.kind)) (eqb e.id f.id) t) in
    any_same (same_entity e) (same_entity f) es (λ g. rw (k, i))

-- what is left out of a list for not being among another, is not among the other
pub left-apart : (e : EntityRef) (es fs : List EntityRef) → among e fs ≡ true → among e (keep (λ f. not (among f fs)) es) ≡ false
unfolding among
left-apart e es fs t = go (any (same_entity e) (keep (λ f. not (among f fs)) es)) refl
  where
    clash : (f : EntityRef) → (not (among f fs) && same_entity e f) ≡ true → false ≡ true
    clash f u =
        sym (not-true (among f fs) (and-fst (not (among f fs)) (same_entity e f) u))
        ∙ (sym (same-among e f fs (and-snd (not (among f fs)) (same_entity e f) u)) ∙ t)

    go : (b : Bool) → any (same_entity e) (keep (λ f. not (among f fs)) es) ≡ b → b ≡ false
    go true u = sym (any-implies (λ f. not (among f fs) && same_entity e f) false es clash (sym (any-keep (same_entity e) (λ f. not (among f fs)) es) ∙ u))
    go false u = refl

-- ---- an edit that only takes away

-- The second map's entities are among the first's, as are the modified ones, which are among the second's too; the rest of the second's is unchanged.
module _ (m n : Map) (fewer : Part (entities n) (entities m)) (up : sorted (entities m) ≡ true) (mods dels : List EntityRef) (was : Part mods (entities m))
    (is : Part mods (entities n)) (went : dels ≡ vanished m n)
    (rows : (e : EntityRef) → among e (entities n) ≡ true → among e mods ≡ false → row m e ≡ row n e) where
  -- nothing appears
  none-new : [] ≡ appeared m n
  unfolding appeared
  none-new = sym (keep-none (λ e. not (among e (entities m))) (entities n) (all-weaken (λ e. among e (entities m)) (λ e. not (not (among e (entities m)))) (entities n)
      (λ e t. rw t) (all-part (λ e. among e (entities m)) fewer (all_among (entities m)))))

  gone-sorted : sorted dels ≡ true
  unfolding vanished appeared
  gone-sorted = rw went (sorted_part (part-keep (λ e. not (among e (entities n))) (entities m)) up)

  -- a survivor is not deleted
  survives : (e : EntityRef) → among e (entities n) ≡ true → among e dels ≡ false
  unfolding vanished appeared
  survives e t = rw went (left-apart e (entities m) (entities n) t)

  lists-apart : (apart_from [] mods && apart_from [] dels && apart_from mods dels) ≡ true
  unfolding apart_from any
  lists-apart =
      ap not (none_of (λ e. among e dels) mods (all-weaken (λ e. among e (entities n)) (λ e. not (among e dels)) mods (λ e t. ap not (survives e t))
      (all-part (λ e. among e (entities n)) is (all_among (entities n)))))

  there : (es : List EntityRef) → Part mods es → (e : EntityRef) → among e mods ≡ true → among e es ≡ true
  unfolding among
  there es r e t = any_part (same_entity e) r t

  pub shrink-exact : (ws : List Issue) → Exact m (record { created = []; modified = mods; deleted = dels; warnings = ws }) n
  shrink-exact ws =
      record {
        created_is = none-new;
        deleted_is = went;
        modified_survives = λ e t. (there (entities m) was e t, there (entities n) is e t);
        unmodified_same = λ e a b t. rows e b t;
        created_sorted = unfold sorted in refl;
        modified_sorted = sorted_part was up;
        deleted_sorted = gone-sorted;
        disjoint = lists-apart;
      }
