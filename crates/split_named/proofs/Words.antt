-- A rule's own lanes that follow its anchor, by marks: what following in turns makes of them, and when they differ. Assumes nothing.
use Rattle.std.specs.Prelude.{Option, None, Some}
use mathlib.Core.Path.{◌≡◌, refl, sym, ap, ◌∙◌}
use Prim.Native.Nat.{ℕ, suc, ◌≤◌, ◌<◌}
use native.Mathlib.Omega.{arith}
use mathlib.Core.Bool.{Bool, true, false, ◌&&◌, cond}
use mathlib.Core.List.{List, [], ◌∷◌, map}
use lib.Dec.{eqb, ltb}
use lib.Ieee.{Float}
use lib.ListN.{length, get_or, set, length-set}
use lib.Seq.{get_or-set_same, get_or-set_other}
use borrow.Author.Tests.{eqb-true, eqb-false, ltb-true}
use Rattle.lists.specs.Every.{all}
use Rattle.lists.specs.Select.{has}
use Rattle.lists.proofs.Every.{all_head, all_tail}
use Rattle.entities.specs.Records.{Map}
use Rattle.rules.specs.Names.{Point2}
use Rattle.rules.specs.Split.{LanePlan, on_second}
use Rattle.rules.specs.Turns.{swap_first, follow_all}
use Rattle.follows.specs.Following.{first_place, followed, followed_all}
use Rattle.follows.proofs.Places.{has-place, place_at, swap-set}

abbrev pub is_some : {A : Type 0} → Option A → Bool
is_some None = false
is_some (Some a) = true

-- the ids of the lanes that are cut
abbrev pub cut_ids : List LanePlan → List ℕ
cut_ids ps = map (λ x. x.of.id) ps

-- ids before the first new one
abbrev pub below : ℕ → List ℕ → Type 0
below next ids = all (λ i. ltb i next) ids ≡ true

-- where a plan's lane stands in a list of ids, the mark says on which half the rule goes on
unfoldable pub Marks : (LanePlan → ℕ → Bool) → List Bool → List ℕ → ℕ → List LanePlan → Type 0
Marks side past ids next [] = next ≡ next
Marks side past ids next (x ∷ ps) = ((p : ℕ) → p < length ids → get_or ids p 0 ≡ x.of.id → get_or past p false ≡ side x next) × Marks side past ids (suc next) ps

-- ---- with an anchor

-- a list in whose places stand the ids of another, or new ones
record Kept (base : ℕ) (ids now : List ℕ) : Type 0 where
  long : length now ≡ length ids
  old : (p : ℕ) → p < length now → get_or now p 0 < base → get_or ids p 0 ≡ get_or now p 0

-- a new id put in some place
kept_set : (base : ℕ) (ids now : List ℕ) → Kept base ids now → (q j : ℕ) → base ≤ j → q < length now → Kept base ids (set now q j)
kept_set base ids now k q j h l =
    record {
      long = length-set now q j ∙ k.long;
      old = λ p m u. go (eqb p q) p refl m u;
    }
  where
    go : (b : Bool) (p : ℕ) → eqb p q ≡ b → p < length (set now q j) → get_or (set now q j) p 0 < base → get_or ids p 0 ≡ get_or (set now q j) p 0
    go true p e m u =
        let z : get_or (set now q j) p 0 ≡ j = ap (λ i. get_or (set now q j) i 0) (eqb-true p q e) ∙ get_or-set_same now q j 0 l in
        absurd (omega arith)
    go false p e m u =
        let z : get_or (set now q j) p 0 ≡ get_or now p 0 = get_or-set_other now q p j 0 (eqb-false p q e) in
        let n = length-set now q j in
        k.old p (omega arith) (omega arith) ∙ sym z

module _ (side : LanePlan → ℕ → Bool) (past : List Bool) (base : ℕ) (ids : List ℕ) where
  -- one cut lane, by what its half says
  abbrev sided : LanePlan → ℕ → List ℕ → List ℕ
  sided x j now = cond (has x.of.id now && side x j) (swap_first x.of.id (j ∷ []) now) now

  unfoldable sided_all : ℕ → List LanePlan → List ℕ → List ℕ
  sided_all next [] now = now
  sided_all next (x ∷ ps) now = sided_all (suc next) ps (sided x next now)

  -- the mark of the first place in the list as it is
  sided-marked : (x : LanePlan) (j : ℕ) (now : List ℕ) → Kept base ids now → x.of.id < base
      → ((p : ℕ) → p < length ids → get_or ids p 0 ≡ x.of.id → get_or past p false ≡ side x j)
      → (has x.of.id now && side x j) ≡ (has x.of.id now && get_or past (first_place x.of.id now) false)
  sided-marked x j now k l marks = go (has x.of.id now) refl
    where
      i : ℕ
      i = x.of.id

      go : (b : Bool) → has i now ≡ b → (b && side x j) ≡ (b && get_or past (first_place i now) false)
      go true e =
          let h = has-place i now e in
          let z = place_at i now h in
          sym (marks (first_place i now) (omega (arith, k.long)) (k.old (first_place i now) h (omega arith) ∙ z))
      go false e = refl

  sided-kept : (x : LanePlan) (j : ℕ) (now : List ℕ) → base ≤ j → Kept base ids now → Kept base ids (sided x j now)
  sided-kept x j now h k = go (has x.of.id now) refl (side x j)
    where
      go : (b : Bool) → has x.of.id now ≡ b → (c : Bool) → Kept base ids (cond (b && c) (swap_first x.of.id (j ∷ []) now) now)
      go true e true = let l = has-place x.of.id now e in rw (swap-set x.of.id j now l) (kept_set base ids now k (first_place x.of.id now) j h l)
      go true e false = k
      go false e c = k

  sided-all : (next : ℕ) (ps : List LanePlan) (now : List ℕ) → base ≤ next → below base (cut_ids ps) → Marks side past ids next ps → Kept base ids now
      → sided_all next ps now ≡ followed_all true past next (cut_ids ps) now
  unfolding sided_all followed_all Marks
  sided-all next [] now h b m k = refl
  sided-all next (x ∷ ps) now h b m k =
      let i = x.of.id in
      let c = sided-marked x next now k (ltb-true i base (all_head (λ i. ltb i base) i (cut_ids ps) b)) m.0 in
      let e : sided x next now ≡ followed true past i next now = ap (λ z. cond z (swap_first i (next ∷ []) now) now) c in
      sided-all (suc next) ps (sided x next now) (omega arith) (all_tail (λ i. ltb i base) i (cut_ids ps) b) m.1 (sided-kept x next now h k)
      ∙ ap (followed_all true past (suc next) (cut_ids ps)) e

-- ---- document 01's lanes, by the marks

module _ (join : Float) (m : Map) (past : List Bool) where
  follow-none : (next : ℕ) (ps : List LanePlan) (ids : List ℕ) → follow_all join m None next ps ids ≡ followed_all false past next (cut_ids ps) ids
  unfolding follow_all followed_all
  follow-none next [] ids = refl
  follow-none next (x ∷ ps) ids = follow-none (suc next) ps (swap_first x.of.id (x.of.id ∷ next ∷ []) ids)

  follow-some : (a : Point2) (base next : ℕ) (ps : List LanePlan) (ids now : List ℕ) → follow_all join m (Some a) next ps now ≡ sided_all (λ x j. on_second join m x j a) past base ids next ps now
  unfolding follow_all sided_all
  follow-some a base next [] ids now = refl
  follow-some a base next (x ∷ ps) ids now = follow-some a base (suc next) ps ids (sided (λ x j. on_second join m x j a) past base ids x next now)

  pub follow-words : (anchor : Option Point2) (next : ℕ) (ps : List LanePlan) (ids : List ℕ) → below next (cut_ids ps)
      → ((a : Point2) → anchor ≡ Some a → Marks (λ x j. on_second join m x j a) past ids next ps)
      → follow_all join m anchor next ps ids ≡ followed_all (is_some anchor) past next (cut_ids ps) ids
  follow-words None next ps ids b marks = follow-none next ps ids
  follow-words (Some a) next ps ids b marks =
      follow-some a next next ps ids ids
      ∙ sided-all (λ x j. on_second join m x j a) past next ids next ps ids (omega arith) b (marks a refl) (record { long = refl; old = λ p l u. refl })
