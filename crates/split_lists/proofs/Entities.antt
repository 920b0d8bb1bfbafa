-- Entities in a lent list: those of marked rows, and one kind behind the other. Assumes nothing.
use mathlib.Core.Path.{◌≡◌, refl, sym, ap, ◌∙◌}
use Prim.Native.Nat.{ℕ, ◌+◌, ◌*◌, ◌≤◌, ◌<◌}
use native.Mathlib.Omega.{arith}
use mathlib.Core.Bool.{Bool, true, false}
use mathlib.Core.List.{List, [], ◌∷◌, ◌++◌, map, map-append, append_assoc}
use lib.ListN.{length, get_or, set, take, drop, length-append, length-map}
use lib.Seq.{take_all, drop-drop}
use borrow.Author.Tests.{le-leb}
use Rattle.lists.specs.Rows.{over}
use Rattle.lists.specs.Select.{each}
use Rattle.lists.proofs.Rows.{length-reads, get_d_reads, over-nil, over-over, length_over}
use Rattle.lists.proofs.Select.{each_append}
use Rattle.entities.specs.Types.{kind_number}
use Rattle.rules.specs.Names.{EntityKind, EntityRef, LaneKind, BoundaryKind, RoadKind, JunctionKind, RuleKind}
use Rattle.rules.specs.Edit.{refs, up_from}
use Rattle.tables.specs.View.{word, rows}
use Rattle.row_tests.proofs.Tables.{table-some, table-few, table-room, row_room}
use Rattle.lookup.specs.Lookup.{row_at}
use Rattle.lookup.proofs.Laws.{word_in}
use Rattle.report.specs.Report.{entity_words, listed}
use Rattle.report.proofs.Laws.{length-entities, listed_nil, length_up, pairs_of, pairs-are, length_pairs, list-more}
use Rattle.split_plan.specs.Placing.{picked}
use Rattle.split_plan.proofs.Marked.{picked_none, pick-one, pick-none, pick-rest}
use Rattle.split_lists.specs.Changes.{created_by, marked_ids, Listed}

length-refs : (q : EntityKind) (ids : List ℕ) → length (refs q ids) ≡ length ids
length-refs q ids = length-map ids (λ (i : ℕ). record { kind = q; id = i })

-- ---- one kind behind the other

-- the list v is w with `es` written at its front, and `at` is the place behind them
abbrev Stands : List ℕ → List EntityRef → List ℕ → ℕ → Type 0
Stands w es v at = (at ≡ length es) × (v ≡ listed w es)

none-stand : (w : List ℕ) → Stands w [] w 0
none-stand w = (refl, sym (listed_nil w))

module _ (w : List ℕ) (es : List EntityRef) (v : List ℕ) (at : ℕ) (s : Stands w es v at) (q : EntityKind) (ids : List ℕ) (room : (length es + length ids) * 2 ≤ length w) where
  stand-room : (at + length ids) * 2 ≤ length v
  unfolding listed
  stand-room = omega (arith, s.0, ap length s.1, length_over w 0 (each entity_words es) (omega (arith, length-entities es)))

  stand-more : (n : ℕ) (u : List ℕ) → n ≡ at + length ids → u ≡ over v (at * 2) (each entity_words (refs q ids)) → Stands w (es ++ refs q ids) u n
  unfolding listed
  stand-more n u e f =
      let m : n ≡ length (es ++ refs q ids) = omega (arith, s.0, length-append es (refs q ids), length-refs q ids) in
      let l : 0 + length (each entity_words es) ≡ at * 2 = omega (arith, s.0, length-entities es) in
      let h : at * 2 ≤ length w = omega (arith, s.0) in (
        m,
        f ∙ ap (λ z. over z (at * 2) (each entity_words (refs q ids))) s.1
            ∙ over-over w 0 (at * 2) (each entity_words es) (each entity_words (refs q ids)) l h
            ∙ ap (over w 0) (sym (each_append entity_words es (refs q ids))),
      )

-- ---- created

module _ (next ids lanes : ℕ) (w : List ℕ) (room : (ids + lanes) * 2 ≤ length w) (n : ℕ) (v : List ℕ) (e : n ≡ 0 + lanes) (p : v ≡ over w (0 * 2) (each entity_words (refs LaneKind (up_from (next + ids) lanes)))) where
  abbrev second : List EntityRef
  second = refs LaneKind (up_from (next + ids) lanes)

  lanes-stand : Stands w second v n
  lanes-stand = stand-more w [] w 0 (none-stand w) LaneKind (up_from (next + ids) lanes) (omega (arith, length_up (next + ids) lanes)) n v (omega (arith, length_up (next + ids) lanes)) p

  both-fit : (length second + length (up_from next ids)) * 2 ≤ length w
  both-fit = omega (arith, length-refs LaneKind (up_from (next + ids) lanes), length_up (next + ids) lanes, length_up next ids)

  pub created-listed : (m : ℕ) (u : List ℕ) → m ≡ n + ids → u ≡ over v (n * 2) (each entity_words (refs BoundaryKind (up_from next ids))) → u ≡ listed w (created_by next ids lanes)
  created-listed m u f q = (stand-more w second v n lanes-stand BoundaryKind (up_from next ids) both-fit m u (omega (arith, length_up next ids)) q).1

-- ---- marked rows

module _ (s : ℕ) (marks : List Bool) (t : List ℕ) where
  abbrev every_row : List (List ℕ)
  every_row = rows s (λ (w : List ℕ). w) t

  rows_long : length every_row ≡ word 0 t
  unfolding rows
  rows_long = length-reads s (λ (w : List ℕ). w) (word 0 t) (drop 1 t)

  -- the ids of the marked rows before row i
  abbrev first_ids : ℕ → List ℕ
  first_ids i = map (word 0) (picked marks (take i every_row))

  first_count : (i : ℕ) → length (first_ids i) ≡ length (picked marks (take i every_row))
  first_count i = length-map (picked marks (take i every_row)) (word 0)

  module _ (i : ℕ) (l : i < word 0 t) (c : word 0 t ≤ length marks) where
    within : i < length every_row
    within = omega (arith, rows_long)

    id-is : 0 < s → word 0 (get_or every_row i []) ≡ get_or t (1 + i * s) 0
    unfolding rows
    id-is z =
        let e : 1 + i * s + 0 ≡ 1 + i * s = omega arith in
        let r : get_or every_row i [] ≡ row_at s t i = get_d_reads s (λ (w : List ℕ). w) (word 0 t) i (drop 1 t) [] l ∙ rw drop-drop in
        ap (word 0) r ∙ sym (word_in s t i 0 z) ∙ ap (λ k. get_or t k 0) e

    first_more : 0 < s → get_or marks i false ≡ true → first_ids (i + 1) ≡ first_ids i ++ (get_or t (1 + i * s) 0 ∷ [])
    first_more z m =
        ap (map (word 0)) (pick-one marks every_row i [] within (omega arith) m)
        ∙ map-append (word 0) (picked marks (take i every_row)) (get_or every_row i [] ∷ [])
        ∙ ap (λ k. first_ids i ++ (k ∷ [])) (id-is z)

    first-same : get_or marks i false ≡ false → first_ids (i + 1) ≡ first_ids i
    first-same m = ap (map (word 0)) (pick-none marks every_row i [] within (omega arith) m)

    first-room : get_or marks i false ≡ true → length (first_ids i) + 1 ≤ length (marked_ids s marks t)
    first-room m =
        let rest = picked (drop (i + 1) marks) (drop (i + 1) every_row) in
        omega (
          arith,
          first_count i,
          length-map (picked marks every_row) (word 0),
          ap length (pick-rest marks every_row i [] within (omega arith) m),
          length-append (picked marks (take i every_row)) (get_or every_row i [] ∷ rest),
        )

  module _ (x at : ℕ) (w : List ℕ) where
    -- those of the rows before row i are listed in v, and `place` is the place behind them
    pub record Listing (i place : ℕ) (v : List ℕ) : Type 0 where
      pub upto : i ≤ word 0 t
      pub front : place ≤ at + i
      pub many : place ≡ at + length (first_ids i)
      pub words : v ≡ over w (at * 2) (pairs_of x (first_ids i))

    pub listing_begins : Listing 0 at w
    listing_begins =
        record {
          upto = omega arith;
          front = omega arith;
          many = rw (picked_none marks) (omega arith);
          words = rw (picked_none marks) (unfold each in sym (over-nil w (at * 2)));
        }

    module _ (q : EntityKind) (e : x ≡ kind_number q) (h : Listed s 4096 t marks) (room : (at + length (marked_ids s marks t)) * 2 ≤ length w) where
      pub listing-some : 1 ≤ length t
      listing-some = table-some 4096 s t h.counts

      module _ (i place : ℕ) (v : List ℕ) (g : Listing i place v) where
        pub listing-ends : word 0 t ≤ i → (place ≡ at + length (marked_ids s marks t)) × (v ≡ over w (at * 2) (each entity_words (refs q (marked_ids s marks t))))
        listing-ends l =
            let a : take i every_row ≡ every_row = take_all i every_row (omega (arith, rows_long)) in
            let b : first_ids i ≡ marked_ids s marks t = ap (λ (ws : List (List ℕ)). map (word 0) (picked marks ws)) a in
            (g.many ∙ ap (λ (ids : List ℕ). at + length ids) b, g.words ∙ ap (λ (ids : List ℕ). over w (at * 2) (pairs_of x ids)) b ∙ ap (over w (at * 2)) (pairs-are q x (marked_ids s marks t) e))

        listing-few : length (first_ids i) ≤ length (marked_ids s marks t) → length v ≡ length w
        listing-few f =
            ap length g.words
            ∙ length_over w (at * 2) (pairs_of x (first_ids i)) (omega (arith, ap length (pairs-are q x (first_ids i) e), length_pairs q (first_ids i)))

        pub listing-whole : word 0 t ≤ i → length v ≡ length w
        listing-whole l = listing-few (omega (arith, g.many, (listing-ends l).0))

        module _ (l : i < word 0 t) where
          pub listing-row : 1 + i * s + s ≤ length t
          listing-row = row_room 4096 s t h.counts i l

          pub listing-rows : i < 4096
          listing-rows = omega (arith, table-few 4096 s t h.counts)

          pub listing_none : get_or marks i false ≡ false → (z : ℕ) (u : List ℕ) → z ≡ place → u ≡ v → Listing (i + 1) z u
          listing_none m z u a b =
              let k : first_ids i ≡ first_ids (i + 1) = sym (first-same i l h.marks_there m) in
              record {
                upto = omega arith;
                front = omega (arith, g.front);
                many = a ∙ g.many ∙ ap (λ (ids : List ℕ). at + length ids) k;
                words = b ∙ g.words ∙ ap (λ (ids : List ℕ). over w (at * 2) (pairs_of x ids)) k;
              }

          module _ (m : get_or marks i false ≡ true) where
            pub place-room : (place + 1) * 2 ≤ length w
            place-room = omega (arith, g.many, first-room i l h.marks_there m)

            pub listing-long : length v ≡ length w
            listing-long = listing-few (omega (arith, first-room i l h.marks_there m))

            pub listing-one : (z : ℕ) (u : List ℕ) → z ≡ place + 1 → u ≡ set (set v (place * 2) x) (place * 2 + 1) (get_or t (1 + i * s) 0) → Listing (i + 1) z u
            listing-one z u a b =
                let k = get_or t (1 + i * s) 0 in
                let f = first_more i l h.marks_there h.some_words m in
                record {
                  upto = omega arith;
                  front = omega (arith, g.front);
                  many = rw f (omega (arith, g.many, length-append (first_ids i) (k ∷ [])));
                  words = rw f (b ∙ list-more x w v (first_ids i) at place k g.many place-room g.words);
                }

-- ---- modified

pub all_listed : (s limit : ℕ) (t : List ℕ) (marks : List Bool) → Listed s limit t marks → Listed s 4096 t marks
all_listed s limit t marks h =
    let some = table-some limit s t h.counts in
    let few : word 0 t ≤ 4096 = omega (arith, table-few limit s t h.counts, h.few) in
    let room = table-room limit s t h.counts in
    record {
      some_words = h.some_words;
      narrow = h.narrow;
      few = omega arith;
      counts = rw (le-leb 1 (length t) some, le-leb (word 0 t) 4096 few, le-leb (1 + word 0 t * s) (length t) room);
      marks_there = h.marks_there;
    }

-- the ids of five kinds
module _ (ls bs rs js us w : List ℕ) where
  abbrev pub kinds : List EntityRef
  kinds = refs LaneKind ls ++ (refs BoundaryKind bs ++ (refs RoadKind rs ++ (refs JunctionKind js ++ refs RuleKind us)))

  kinds-count : length kinds ≡ length ls + length bs + length rs + length js + length us
  kinds-count =
      let l = refs LaneKind ls in
      let b = refs BoundaryKind bs in
      let r = refs RoadKind rs in
      let j = refs JunctionKind js in
      let u = refs RuleKind us in
      omega (
        arith,
        length-append l (b ++ (r ++ (j ++ u))),
        length-append b (r ++ (j ++ u)),
        length-append r (j ++ u),
        length-append j u,
        length-refs LaneKind ls,
        length-refs BoundaryKind bs,
        length-refs RoadKind rs,
        length-refs JunctionKind js,
        length-refs RuleKind us,
      )

  module _ (h : length kinds * 2 ≤ length w) where
    pub room_1 : (0 + length ls) * 2 ≤ length w
    room_1 = omega (arith, kinds-count)

    module _ (n1 : ℕ) (v1 : List ℕ) (e1 : n1 ≡ 0 + length ls) (w1 : v1 ≡ over w (0 * 2) (each entity_words (refs LaneKind ls))) where
      s1 : Stands w (refs LaneKind ls) v1 n1
      s1 = stand-more w [] w 0 (none-stand w) LaneKind ls room_1 n1 v1 e1 w1

      r1 : (length (refs LaneKind ls) + length bs) * 2 ≤ length w
      r1 = omega (arith, kinds-count, s1.0)

      pub room_2 : (n1 + length bs) * 2 ≤ length v1
      room_2 = stand-room w (refs LaneKind ls) v1 n1 s1 BoundaryKind bs r1

      module _ (n2 : ℕ) (v2 : List ℕ) (e2 : n2 ≡ n1 + length bs) (w2 : v2 ≡ over v1 (n1 * 2) (each entity_words (refs BoundaryKind bs))) where
        abbrev two : List EntityRef
        two = refs LaneKind ls ++ refs BoundaryKind bs

        s2 : Stands w two v2 n2
        s2 = stand-more w (refs LaneKind ls) v1 n1 s1 BoundaryKind bs r1 n2 v2 e2 w2

        r2 : (length two + length rs) * 2 ≤ length w
        r2 = omega (arith, kinds-count, s2.0)

        pub room_3 : (n2 + length rs) * 2 ≤ length v2
        room_3 = stand-room w two v2 n2 s2 RoadKind rs r2

        module _ (n3 : ℕ) (v3 : List ℕ) (e3 : n3 ≡ n2 + length rs) (w3 : v3 ≡ over v2 (n2 * 2) (each entity_words (refs RoadKind rs))) where
          abbrev three : List EntityRef
          three = two ++ refs RoadKind rs

          s3 : Stands w three v3 n3
          s3 = stand-more w two v2 n2 s2 RoadKind rs r2 n3 v3 e3 w3

          r3 : (length three + length js) * 2 ≤ length w
          r3 = omega (arith, kinds-count, s3.0)

          pub room_4 : (n3 + length js) * 2 ≤ length v3
          room_4 = stand-room w three v3 n3 s3 JunctionKind js r3

          module _ (n4 : ℕ) (v4 : List ℕ) (e4 : n4 ≡ n3 + length js) (w4 : v4 ≡ over v3 (n3 * 2) (each entity_words (refs JunctionKind js))) where
            abbrev four : List EntityRef
            four = three ++ refs JunctionKind js

            s4 : Stands w four v4 n4
            s4 = stand-more w three v3 n3 s3 JunctionKind js r3 n4 v4 e4 w4

            r4 : (length four + length us) * 2 ≤ length w
            r4 = omega (arith, kinds-count, s4.0)

            pub room_5 : (n4 + length us) * 2 ≤ length v4
            room_5 = stand-room w four v4 n4 s4 RuleKind us r4

            pub kinds-listed : (n5 : ℕ) (v5 : List ℕ) → n5 ≡ n4 + length us → v5 ≡ over v4 (n4 * 2) (each entity_words (refs RuleKind us)) → v5 ≡ listed w kinds
            kinds-listed n5 v5 e5 w5 =
                let l = refs LaneKind ls in
                let b = refs BoundaryKind bs in
                let r = refs RoadKind rs in
                let j = refs JunctionKind js in
                let u = refs RuleKind us in
                (stand-more w four v4 n4 s4 RuleKind us r4 n5 v5 e5 w5).1
                ∙ ap (listed w) (append_assoc ((l ++ b) ++ r) j u ∙ (append_assoc (l ++ b) r (j ++ u) ∙ append_assoc l b (r ++ (j ++ u))))
