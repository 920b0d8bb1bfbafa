-- Soundness as a record of facts, and back.
use mathlib.Core.Path.{◌≡◌}
use mathlib.Core.Bool.{true, ◌&&◌}
use Prim.Native.Nat.{ℕ}
use Rattle.lists.proofs.Booleans.{and-fst, and-snd}
use Rattle.entities.specs.Records.{Map}
use Rattle.rules.specs.Sound.{sound, within_limits, ids_ascend, counter_above, lines_in_reach, kinds_legal, handles_legal, links_ascend, links_reciprocal, neighbors_reciprocal, repeat_free}

pub record Sound (counter : ℕ) (m : Map) : Type 0 where
  pub limits : within_limits m ≡ true
  pub ids : ids_ascend m ≡ true
  pub counter-above : counter_above counter m ≡ true
  pub reach : lines_in_reach m ≡ true
  pub kinds : kinds_legal m ≡ true
  pub handles : handles_legal m ≡ true
  pub links-ascend : links_ascend m ≡ true
  pub links : links_reciprocal m ≡ true
  pub neighbors : neighbors_reciprocal m ≡ true
  pub once : repeat_free m ≡ true

pub sound-facts : (c : ℕ) (m : Map) → sound c m ≡ true → Sound c m
unfolding sound
sound-facts c m h =
    let a1 = within_limits m in
    let a2 = a1 && ids_ascend m in
    let a3 = a2 && counter_above c m in
    let a4 = a3 && lines_in_reach m in
    let a5 = a4 && kinds_legal m in
    let a6 = a5 && handles_legal m in
    let a7 = a6 && links_ascend m in
    let a8 = a7 && links_reciprocal m in
    let a9 = a8 && neighbors_reciprocal m in
    let h9 = and-fst a9 (repeat_free m) h in
    let h8 = and-fst a8 (neighbors_reciprocal m) h9 in
    let h7 = and-fst a7 (links_reciprocal m) h8 in
    let h6 = and-fst a6 (links_ascend m) h7 in
    let h5 = and-fst a5 (handles_legal m) h6 in
    let h4 = and-fst a4 (kinds_legal m) h5 in
    let h3 = and-fst a3 (lines_in_reach m) h4 in
    let h2 = and-fst a2 (counter_above c m) h3 in
    record {
      limits = and-fst a1 (ids_ascend m) h2;
      ids = and-snd a1 (ids_ascend m) h2;
      counter-above = and-snd a2 (counter_above c m) h3;
      reach = and-snd a3 (lines_in_reach m) h4;
      kinds = and-snd a4 (kinds_legal m) h5;
      handles = and-snd a5 (handles_legal m) h6;
      links-ascend = and-snd a6 (links_ascend m) h7;
      links = and-snd a7 (links_reciprocal m) h8;
      neighbors = and-snd a8 (neighbors_reciprocal m) h9;
      once = and-snd a9 (repeat_free m) h;
    }

pub facts-sound : (c : ℕ) (m : Map) → Sound c m → sound c m ≡ true
unfolding sound
facts-sound c m s =
    rw (s.limits, s.ids, s.counter-above, s.reach, s.kinds, s.handles, s.links-ascend, s.links, s.neighbors, s.once)
