-- Lists of a removal, written one behind the other. Assumes nothing.
use mathlib.Core.Path.{◌≡◌, refl, sym, ap, ◌∙◌}
use Prim.Native.Nat.{ℕ, zero, suc, ◌+◌, ◌*◌, ◌≤◌}
use native.Mathlib.Omega.{arith}
use mathlib.Core.Bool.{true}
use mathlib.Core.List.{List, [], ◌∷◌, ◌++◌, map-append, append_assoc}
use lib.Dec.{ltb}
use lib.ListN.{length, take, length-append, length-map}
use lib.Seq.{take-nil}
use borrow.Author.Tests.{lt-ltb}
use Rattle.lists.specs.Rows.{over}
use Rattle.lists.specs.Select.{each}
use Rattle.lists.proofs.Rows.{over-over, length_over}
use Rattle.lists.proofs.Select.{each_append}
use Rattle.entities.specs.Types.{kind_number}
use Rattle.rules.specs.Names.{EntityKind, EntityRef, LaneKind, BoundaryKind, RoadKind, JunctionKind, RuleKind}
use Rattle.rules.specs.Edit.{refs, when}
use Rattle.tables.specs.View.{word}
use Rattle.report.specs.Report.{entity_words, listed}
use Rattle.report.proofs.Laws.{listed_nil}
use Rattle.mentions.specs.declared.Rows.{Rows}
use Rattle.mentions.specs.declared.Rows.TheVariants.{Lanes, Roads, Junctions, Rules}
use Rattle.mentions.specs.Naming.{table_formed, naming}
use Rattle.mentions.proofs.Turns.{formed-few, named-few, named-all}
use Rattle.unused.specs.Parts.{Formed, leaving, touched}

-- ---- general

length-words : (es : List EntityRef) → length (each entity_words es) ≡ length es * 2
unfolding each
length-words [] = refl
length-words (e ∷ es) = let r = length-words es in omega arith

length-refs : (q : EntityKind) (ids : List ℕ) → length (refs q ids) ≡ length ids
length-refs q ids = length-map ids (λ (i : ℕ). record { kind = q; id = i })

-- entities of one kind in words
refs-words : (q : EntityKind) (x : ℕ) (ids : List ℕ) → x ≡ kind_number q → each (λ i. x ∷ i ∷ []) ids ≡ each entity_words (refs q ids)
unfolding each
refs-words q x [] e = refl
refs-words q x (i ∷ ids) e = ap (λ z. z ∷ i ∷ each (λ i. x ∷ i ∷ []) ids) e ∙ ap (λ z. kind_number q ∷ i ∷ z) (refs-words q x ids e)

-- the list v is w with `es` written at its front, and `at` is the place behind them
abbrev Stands : List ℕ → List EntityRef → List ℕ → ℕ → Type 0
Stands w es v at = (at ≡ length es) × (v ≡ listed w es)

none-stand : (w : List ℕ) → Stands w [] w 0
none-stand w = (refl, sym (listed_nil w))

-- entities of one kind written behind those that stand there
module _ (w : List ℕ) (es : List EntityRef) (v : List ℕ) (at : ℕ) (s : Stands w es v at) (q : EntityKind) (ids : List ℕ) (room : (length es + length ids) * 2 ≤ length w) where
  stand-room : (at + length ids) * 2 ≤ length v
  unfolding listed
  stand-room = omega (arith, s.0, ap length s.1, length_over w 0 (each entity_words es) (omega (arith, length-words es)))

  module _ (n : ℕ) (u : List ℕ) (e : n ≡ at + length ids) where
    stand-more : u ≡ over v (at * 2) (each entity_words (refs q ids)) → Stands w (es ++ refs q ids) u n
    unfolding listed
    stand-more f =
        let m : n ≡ length (es ++ refs q ids) = omega (arith, s.0, length-append es (refs q ids), length-refs q ids) in
        let l : 0 + length (each entity_words es) ≡ at * 2 = omega (arith, s.0, length-words es) in
        let h : at * 2 ≤ length w = omega (arith, s.0) in (
          m,
          f
              ∙ (ap (λ z. over z (at * 2) (each entity_words (refs q ids))) s.1
              ∙ (over-over w 0 (at * 2) (each entity_words es) (each entity_words (refs q ids)) l h ∙ ap (over w 0) (sym (each_append entity_words es (refs q ids))))),
        )

    stand-put : (x : ℕ) → x ≡ kind_number q → u ≡ over v (at * 2) (each (λ i. x ∷ i ∷ []) ids) → Stands w (es ++ refs q ids) u n
    stand-put x xe f = stand-more (f ∙ ap (over v (at * 2)) (refs-words q x ids xe))

-- ---- the lane and its boundaries

first-of : (n p q : ℕ) → take n (p ∷ q ∷ []) ≡ when (ltb 0 n) p ++ when (ltb 1 n) q
first-of zero p q = refl
first-of (suc zero) p q = refl
first-of (suc (suc n)) p q = rw (lt-ltb 0 (suc (suc n)) (omega arith), lt-ltb 1 (suc (suc n)) (omega arith)) (ap (λ z. p ∷ q ∷ z) (take-nil n))

module _ (w : List ℕ) (a n p q : ℕ) (room : length (leaving a (take n (p ∷ q ∷ []))) * 2 ≤ length w) where
  abbrev front : List ℕ
  front = when (ltb 0 n) p

  abbrev last : List ℕ
  last = when (ltb 1 n) q

  leaving-room : (1 + length front + length last) * 2 ≤ length w
  leaving-room =
      let e = length-refs BoundaryKind (take n (p ∷ q ∷ [])) in
      let f = ap length (first-of n p q) ∙ length-append front last in
      let g : length (leaving a (take n (p ∷ q ∷ []))) ≡ suc (length (refs BoundaryKind (take n (p ∷ q ∷ [])))) = refl in
      omega arith

  module _ (x y : ℕ) (xe : x ≡ kind_number LaneKind) (ye : y ≡ kind_number BoundaryKind) (one : ℕ) (v : List ℕ) (m : one ≡ 0 + length (when true a))
      (put : v ≡ over w (0 * 2) (each (λ i. x ∷ i ∷ []) (when true a))) where
    lane-stands : Stands w (refs LaneKind (a ∷ [])) v one
    lane-stands = stand-put w [] w 0 (none-stand w) LaneKind (a ∷ []) (omega (arith, leaving-room)) one v m x xe put

    pub front-room : (one + length front) * 2 ≤ length v
    front-room = stand-room w (refs LaneKind (a ∷ [])) v one lane-stands BoundaryKind front (omega (arith, leaving-room))

    module _ (two : ℕ) (u : List ℕ) (k : two ≡ one + length front) (more : u ≡ over v (one * 2) (each (λ i. y ∷ i ∷ []) front)) where
      abbrev ahead : List EntityRef
      ahead = refs LaneKind (a ∷ []) ++ refs BoundaryKind front

      front-stands : Stands w ahead u two
      front-stands = stand-put w (refs LaneKind (a ∷ [])) v one lane-stands BoundaryKind front (omega (arith, leaving-room)) two u k y ye more

      ahead-room : (length ahead + length last) * 2 ≤ length w
      ahead-room = let e = length-refs BoundaryKind front in omega (arith, leaving-room)

      pub last-room : (two + length last) * 2 ≤ length u
      last-room = stand-room w ahead u two front-stands BoundaryKind last ahead-room

      pub gone-listed : (three : ℕ) (r : List ℕ) → three ≡ two + length last → r ≡ over u (two * 2) (each (λ i. y ∷ i ∷ []) last) → r ≡ listed w (leaving a (take n (p ∷ q ∷ [])))
      gone-listed three r j e =
          (stand-put w ahead u two front-stands BoundaryKind last ahead-room three r j y ye e).1
          ∙ ap (λ z. listed w (record { kind = LaneKind; id = a } ∷ z)) (sym (ap (refs BoundaryKind) (first-of n p q) ∙ map-append (λ i. record { kind = BoundaryKind; id = i }) front last))

-- ---- what names the lane

naming-few : (k : Rows) (a : ℕ) (t : List ℕ) → table_formed k t ≡ true → length (naming k a t) ≤ 1024
naming-few k a t h = omega (arith, ap length (named-all k a t (word 0 t) refl), named-few k a t (word 0 t), formed-few k t h)

module _ (a : ℕ) (ls rs js us : List ℕ) where
  touched-count : length (touched a ls rs js us) ≡ length (naming Lanes a ls) + length (naming Roads a rs) + length (naming Junctions a js) + length (naming Rules a us)
  unfolding touched
  touched-count =
      let l = refs LaneKind (naming Lanes a ls) in
      let r = refs RoadKind (naming Roads a rs) in
      let j = refs JunctionKind (naming Junctions a js) in
      let u = refs RuleKind (naming Rules a us) in
      omega (
        arith,
        length-append l (r ++ (j ++ u)),
        length-append r (j ++ u),
        length-append j u,
        length-refs LaneKind (naming Lanes a ls),
        length-refs RoadKind (naming Roads a rs),
        length-refs JunctionKind (naming Junctions a js),
        length-refs RuleKind (naming Rules a us),
      )

  module _ (f : Formed ls rs js us) (k m n o : ℕ) (ke : k ≡ length (naming Lanes a ls)) (me : m ≡ length (naming Roads a rs)) (ne : n ≡ length (naming Junctions a js)) (oe : o ≡ length (naming Rules a us)) where
    -- a sum that no word is too small for
    pub counts-small : k + m + n + o ≤ 4096
    counts-small = omega (arith, naming-few Lanes a ls f.lanes, naming-few Roads a rs f.roads, naming-few Junctions a js f.junctions, naming-few Rules a us f.rules)

    pub counts_all : k + m + n + o ≡ length (touched a ls rs js us)
    counts_all = omega (arith, touched-count)

  -- their lists, one behind the other
  module _ (w : List ℕ) (h : length (touched a ls rs js us) * 2 ≤ length w) where
    abbrev lanes : List EntityRef
    lanes = refs LaneKind (naming Lanes a ls)

    abbrev roads : List EntityRef
    roads = lanes ++ refs RoadKind (naming Roads a rs)

    abbrev junctions : List EntityRef
    junctions = roads ++ refs JunctionKind (naming Junctions a js)

    pub lanes-room : (0 + length (naming Lanes a ls)) * 2 ≤ length w
    lanes-room = omega (arith, touched-count)

    module _ (one : ℕ) (v : List ℕ) (m : one ≡ 0 + length (naming Lanes a ls)) (first : v ≡ over w (0 * 2) (each entity_words lanes)) where
      lanes-stand : Stands w lanes v one
      lanes-stand = stand-more w [] w 0 (none-stand w) LaneKind (naming Lanes a ls) lanes-room one v m first

      behind-lanes : (length lanes + length (naming Roads a rs)) * 2 ≤ length w
      behind-lanes = omega (arith, touched-count, length-refs LaneKind (naming Lanes a ls))

      pub roads-room : (one + length (naming Roads a rs)) * 2 ≤ length v
      roads-room = stand-room w lanes v one lanes-stand RoadKind (naming Roads a rs) behind-lanes

      module _ (two : ℕ) (u : List ℕ) (k : two ≡ one + length (naming Roads a rs)) (second : u ≡ over v (one * 2) (each entity_words (refs RoadKind (naming Roads a rs)))) where
        roads-stand : Stands w roads u two
        roads-stand = stand-more w lanes v one lanes-stand RoadKind (naming Roads a rs) behind-lanes two u k second

        behind-roads : (length roads + length (naming Junctions a js)) * 2 ≤ length w
        behind-roads = omega (arith, touched-count, roads-stand.0)

        pub junctions-room : (two + length (naming Junctions a js)) * 2 ≤ length u
        junctions-room = stand-room w roads u two roads-stand JunctionKind (naming Junctions a js) behind-roads

        module _ (three : ℕ) (r : List ℕ) (j : three ≡ two + length (naming Junctions a js)) (third : r ≡ over u (two * 2) (each entity_words (refs JunctionKind (naming Junctions a js)))) where
          junctions-stand : Stands w junctions r three
          junctions-stand = stand-more w roads u two roads-stand JunctionKind (naming Junctions a js) behind-roads three r j third

          behind-junctions : (length junctions + length (naming Rules a us)) * 2 ≤ length w
          behind-junctions = omega (arith, touched-count, junctions-stand.0)

          pub rules-room : (three + length (naming Rules a us)) * 2 ≤ length r
          rules-room = stand-room w junctions r three junctions-stand RuleKind (naming Rules a us) behind-junctions

          pub named-listed : (four : ℕ) (q : List ℕ) → four ≡ three + length (naming Rules a us) → q ≡ over r (three * 2) (each entity_words (refs RuleKind (naming Rules a us))) → q ≡ listed w (touched a ls rs js us)
          unfolding touched
          named-listed four q i e =
              let b = refs RoadKind (naming Roads a rs) in
              let c = refs JunctionKind (naming Junctions a js) in
              let d = refs RuleKind (naming Rules a us) in
              (stand-more w junctions r three junctions-stand RuleKind (naming Rules a us) behind-junctions four q i e).1
              ∙ ap (listed w) (append_assoc (lanes ++ b) c d ∙ append_assoc lanes b (c ++ d))
