-- The lists of a merge, written one kind behind the other. Assumes nothing.
use mathlib.Core.Path.{◌≡◌, refl, sym, ap, ◌∙◌}
use Prim.Native.Nat.{ℕ, ◌+◌, ◌-◌, ◌*◌, ◌≤◌, ◌<◌}
use native.Mathlib.Omega.{arith}
use mathlib.Core.Bool.{Bool, true, false}
use mathlib.Core.List.{List, [], ◌∷◌, ◌++◌, append_assoc}
use lib.ListN.{length, take, drop, length-append}
use lib.Seq.{drop-drop, drop_at, length-take-le}
use Rattle.lists.specs.Rows.{over}
use Rattle.lists.specs.Select.{each, has, place, ascending}
use Rattle.lists.proofs.Rows.{length_over, over-itself, take-over}
use Rattle.lists.proofs.Place.{place-present, length-place}
use Rattle.lists.proofs.Select.{ascending-place}
use Rattle.rules.specs.Names.{EntityRef, LaneKind, BoundaryKind, RoadKind, JunctionKind, RuleKind}
use Rattle.rules.specs.Edit.{refs}
use Rattle.tables.specs.View.{word}
use Rattle.report.specs.Report.{entity_words, listed}
use Rattle.mentions.specs.declared.Rows.{Rows}
use Rattle.mentions.specs.declared.Rows.TheVariants.{Lanes, Roads, Junctions, Rules}
use Rattle.mentions.specs.Naming.{table_formed, naming}
use Rattle.mentions.proofs.Turns.{formed-few, named-few, named-all}
use Rattle.merge_plan.specs.declared.Joined.{Joined}
use Rattle.merge_plan.specs.declared.Joined.TheVariants.{Kept, InPlace, Fresh}
use Rattle.merge_lists.specs.Changes.{Formed, touched, leaving, with_joined, joined_ids}
use Rattle.merge_lists.proofs.Standing.{length-refs, Stands, none-stand, stand-room, stand-more}

naming-few : (k : Rows) (a : ℕ) (t : List ℕ) → table_formed k t ≡ true → length (naming k a t) ≤ 1024
naming-few k a t h = omega (arith, ap length (named-all k a t (word 0 t) refl), named-few k a t (word 0 t), formed-few k t h)

-- ---- modified

module _ (b : ℕ) (joined ls rs js us : List ℕ) where
  touched-count : length (touched b joined ls rs js us) ≡ length (naming Lanes b ls) + length joined + length (naming Roads b rs) + length (naming Junctions b js) + length (naming Rules b us)
  unfolding touched
  touched-count =
      let l = refs LaneKind (naming Lanes b ls) in
      let o = refs BoundaryKind joined in
      let r = refs RoadKind (naming Roads b rs) in
      let j = refs JunctionKind (naming Junctions b js) in
      let u = refs RuleKind (naming Rules b us) in
      omega (
        arith,
        length-append l (o ++ (r ++ (j ++ u))),
        length-append o (r ++ (j ++ u)),
        length-append r (j ++ u),
        length-append j u,
        length-refs LaneKind (naming Lanes b ls),
        length-refs BoundaryKind joined,
        length-refs RoadKind (naming Roads b rs),
        length-refs JunctionKind (naming Junctions b js),
        length-refs RuleKind (naming Rules b us),
      )

  module _ (f : Formed ls rs js us) (few : length joined ≤ 2) (k m n o : ℕ) (ke : k ≡ length (naming Lanes b ls)) (me : m ≡ length (naming Roads b rs)) (ne : n ≡ length (naming Junctions b js)) (oe : o ≡ length (naming Rules b us)) where
    -- a sum that no word is too small for
    pub counts-small : k + length joined + m + n + o ≤ 4098
    counts-small = omega (arith, few, naming-few Lanes b ls f.lanes, naming-few Roads b rs f.roads, naming-few Junctions b js f.junctions, naming-few Rules b us f.rules)

    pub counts_all : k + length joined + m + n + o ≡ length (touched b joined ls rs js us)
    counts_all = omega (arith, touched-count)

  -- one kind behind the other
  module _ (w : List ℕ) (h : length (touched b joined ls rs js us) * 2 ≤ length w) where
    abbrev lanes : List EntityRef
    lanes = refs LaneKind (naming Lanes b ls)

    abbrev boundaries : List EntityRef
    boundaries = lanes ++ refs BoundaryKind joined

    abbrev roads : List EntityRef
    roads = boundaries ++ refs RoadKind (naming Roads b rs)

    abbrev junctions : List EntityRef
    junctions = roads ++ refs JunctionKind (naming Junctions b js)

    pub lanes-room : (0 + length (naming Lanes b ls)) * 2 ≤ length w
    lanes-room = omega (arith, touched-count)

    module _ (n1 : ℕ) (v1 : List ℕ) (e1 : n1 ≡ 0 + length (naming Lanes b ls)) (w1 : v1 ≡ over w (0 * 2) (each entity_words lanes)) where
      s1 : Stands w lanes v1 n1
      s1 = stand-more w [] w 0 (none-stand w) LaneKind (naming Lanes b ls) lanes-room n1 v1 e1 w1

      r1 : (length lanes + length joined) * 2 ≤ length w
      r1 = omega (arith, touched-count, length-refs LaneKind (naming Lanes b ls))

      pub joined-room : (n1 + length joined) * 2 ≤ length v1
      joined-room = stand-room w lanes v1 n1 s1 BoundaryKind joined r1

      module _ (n2 : ℕ) (v2 : List ℕ) (e2 : n2 ≡ n1 + length joined) (w2 : v2 ≡ over v1 (n1 * 2) (each entity_words (refs BoundaryKind joined))) where
        s2 : Stands w boundaries v2 n2
        s2 = stand-more w lanes v1 n1 s1 BoundaryKind joined r1 n2 v2 e2 w2

        r2 : (length boundaries + length (naming Roads b rs)) * 2 ≤ length w
        r2 = omega (arith, touched-count, s2.0, s1.0)

        pub roads-room : (n2 + length (naming Roads b rs)) * 2 ≤ length v2
        roads-room = stand-room w boundaries v2 n2 s2 RoadKind (naming Roads b rs) r2

        module _ (n3 : ℕ) (v3 : List ℕ) (e3 : n3 ≡ n2 + length (naming Roads b rs)) (w3 : v3 ≡ over v2 (n2 * 2) (each entity_words (refs RoadKind (naming Roads b rs)))) where
          s3 : Stands w roads v3 n3
          s3 = stand-more w boundaries v2 n2 s2 RoadKind (naming Roads b rs) r2 n3 v3 e3 w3

          r3 : (length roads + length (naming Junctions b js)) * 2 ≤ length w
          r3 = omega (arith, touched-count, s3.0)

          pub junctions-room : (n3 + length (naming Junctions b js)) * 2 ≤ length v3
          junctions-room = stand-room w roads v3 n3 s3 JunctionKind (naming Junctions b js) r3

          module _ (n4 : ℕ) (v4 : List ℕ) (e4 : n4 ≡ n3 + length (naming Junctions b js)) (w4 : v4 ≡ over v3 (n3 * 2) (each entity_words (refs JunctionKind (naming Junctions b js)))) where
            s4 : Stands w junctions v4 n4
            s4 = stand-more w roads v3 n3 s3 JunctionKind (naming Junctions b js) r3 n4 v4 e4 w4

            r4 : (length junctions + length (naming Rules b us)) * 2 ≤ length w
            r4 = omega (arith, touched-count, s4.0)

            pub rules-room : (n4 + length (naming Rules b us)) * 2 ≤ length v4
            rules-room = stand-room w junctions v4 n4 s4 RuleKind (naming Rules b us) r4

            pub modified-listed : (n5 : ℕ) (v5 : List ℕ) → n5 ≡ n4 + length (naming Rules b us) → v5 ≡ over v4 (n4 * 2) (each entity_words (refs RuleKind (naming Rules b us))) → v5 ≡ listed w (touched b joined ls rs js us)
            unfolding touched
            modified-listed n5 v5 e5 w5 =
                let o = refs BoundaryKind joined in
                let r = refs RoadKind (naming Roads b rs) in
                let j = refs JunctionKind (naming Junctions b js) in
                let u = refs RuleKind (naming Rules b us) in
                (stand-more w junctions v4 n4 s4 RuleKind (naming Rules b us) r4 n5 v5 e5 w5).1
                ∙ ap (listed w) (append_assoc ((lanes ++ o) ++ r) j u ∙ (append_assoc (lanes ++ o) r (j ++ u) ∙ append_assoc lanes o (r ++ (j ++ u))))

-- ---- deleted

module _ (b : ℕ) (gone w : List ℕ) (h : length (leaving b gone) * 2 ≤ length w) where
  gone-count : length (leaving b gone) ≡ 1 + length gone
  gone-count = omega (arith, length-append (refs LaneKind (b ∷ [])) (refs BoundaryKind gone), length-refs BoundaryKind gone)

  pub lane_room : (0 + 1) * 2 ≤ length w
  lane_room = omega (arith, gone-count)

  module _ (n : ℕ) (v : List ℕ) (e : n ≡ 0 + 1) (p : v ≡ over w (0 * 2) (each entity_words (refs LaneKind (b ∷ [])))) where
    lane-stands : Stands w (refs LaneKind (b ∷ [])) v n
    lane-stands = stand-more w [] w 0 (none-stand w) LaneKind (b ∷ []) lane_room n v e p

    pub gone-room : (n + length gone) * 2 ≤ length v
    gone-room = stand-room w (refs LaneKind (b ∷ [])) v n lane-stands BoundaryKind gone (omega (arith, gone-count))

    pub deleted-listed : (m : ℕ) (u : List ℕ) → m ≡ n + length gone → u ≡ over v (n * 2) (each entity_words (refs BoundaryKind gone)) → u ≡ listed w (leaving b gone)
    deleted-listed m u f q = (stand-more w (refs LaneKind (b ∷ [])) v n lane-stands BoundaryKind gone (omega (arith, gone-count)) m u f q).1

-- ---- boundaries joined in place

-- a list written over the front of an array, and a longer one over it
pub front-again : (w xs ys : List ℕ) → length xs ≤ length ys → over (over w 0 xs) 0 ys ≡ over w 0 ys
unfolding over
front-again w xs ys h =
    let d = length ys - length xs in
    let v = xs ++ drop (0 + length xs) w in
    let e : 0 + length ys ≡ length xs + d = omega arith in
    let z : 0 + length xs + d ≡ 0 + length ys = omega arith in
    let p : drop (0 + length ys) v ≡ drop (0 + length ys) w =
    ap (λ n. drop n v) e ∙ (sym (drop-drop d (length xs) v) ∙ (ap (drop d) (drop_at xs (drop (0 + length xs) w) (length xs) refl) ∙ (drop-drop d (0 + length xs) w ∙ ap (λ n. drop n w) z))) in
    ap (λ z. ys ++ z) p

-- what stands among the first n, as long as it is
module _ (plan : Joined) (id n : ℕ) (out : List ℕ) (l : n < length out) where
  same : (n ≡ length (take n out)) × (out ≡ over out 0 (take n out))
  same = let h : n ≤ length out = omega arith in (sym (length-take-le n out h), sym (over-itself out n h))

  pub kept-none : plan ≡ Kept → (n ≡ length (with_joined plan id (take n out))) × (out ≡ over out 0 (with_joined plan id (take n out)))
  kept-none e = rw e same

  pub fresh-none : (m : ℕ) → plan ≡ Fresh m → (n ≡ length (with_joined plan id (take n out))) × (out ≡ over out 0 (with_joined plan id (take n out)))
  fresh-none m e = rw e same

  pub in_place-put : (m : ℕ) → plan ≡ InPlace m → (v : List ℕ) (r : ℕ) → (v ≡ over out 0 (place id (take n out))) × (r ≡ length (place id (take n out)))
      → (r ≡ length (with_joined plan id (take n out))) × (v ≡ over out 0 (with_joined plan id (take n out)))
  in_place-put m e v r h = rw e (h.1, h.0)

-- one more at most, in order
placed-more : (id : ℕ) (ids : List ℕ) → ascending ids ≡ true → (length ids ≤ length (place id ids)) × ((length (place id ids) ≤ length ids + 1) × (ascending (place id ids) ≡ true))
placed-more id ids up = go (has id ids) refl
  where
    go : (b : Bool) → has id ids ≡ b → (length ids ≤ length (place id ids)) × ((length (place id ids) ≤ length ids + 1) × (ascending (place id ids) ≡ true))
    go true e = let p = place-present id ids up e in (omega (arith, ap length p), (omega (arith, ap length p), ap ascending p ∙ up))
    go false e = (omega (arith, length-place id ids e), (omega (arith, length-place id ids e), ascending-place id ids up))

pub joined-more : (plan : Joined) (id : ℕ) (ids : List ℕ) → ascending ids ≡ true
    → (length ids ≤ length (with_joined plan id ids)) × ((length (with_joined plan id ids) ≤ length ids + 1) × (ascending (with_joined plan id ids) ≡ true))
joined-more Kept id ids up = (omega arith, (omega arith, up))
joined-more (InPlace n) id ids up = placed-more id ids up
joined-more (Fresh n) id ids up = (omega arith, (omega arith, up))

none-up : ascending [] ≡ true
unfolding ascending
none-up = refl

-- both sides
module _ (l : Joined) (a : ℕ) (r : Joined) (b : ℕ) (out : List ℕ) (room : 2 ≤ length out) where
  pub first-asks : (0 < length out) × (ascending (take 0 out) ≡ true)
  first-asks = (omega arith, none-up)

  abbrev one : List ℕ
  one = with_joined l a []

  module _ (n : ℕ) (v : List ℕ) (e : n ≡ length one) (p : v ≡ over out 0 one) where
    few : length one ≤ 1
    few = omega (arith, (joined-more l a [] none-up).1.0)

    long : length v ≡ length out
    long = ap length p ∙ length_over out 0 one (omega (arith, few))

    front : take n v ≡ one
    front =
        let z : 0 + length one ≡ length one = omega arith in
        let h : 0 + length one ≤ length out = omega (arith, few) in
        ap (λ k. take k v) e ∙ (ap (take (length one)) p ∙ (rw z at (take-over out 0 one h)))

    pub second-asks : (n < length v) × (ascending (take n v) ≡ true)
    second-asks = (omega (arith, e, few, long), ap ascending front ∙ (joined-more l a [] none-up).1.1)

    pub both-joined : (m : ℕ) (u : List ℕ) → (m ≡ length (with_joined r b (take n v))) × (u ≡ over v 0 (with_joined r b (take n v)))
        → (m ≡ length (joined_ids l a r b)) × (u ≡ over out 0 (joined_ids l a r b))
    both-joined m u h =
        let q : with_joined r b (take n v) ≡ joined_ids l a r b = ap (with_joined r b) front in
        let more = (joined-more r b one (joined-more l a [] none-up).1.1).0 in
        (h.0 ∙ ap length q, h.1 ∙ (ap (over v 0) q ∙ (ap (λ z. over z 0 (joined_ids l a r b)) p ∙ front-again out one (joined_ids l a r b) more)))
