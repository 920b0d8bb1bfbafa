-- `follows::insert_behind` meets its contract: the ids behind the first place stand one slot later. Assumes nothing.
use Rattle.std.proofs.Common.{◌≡◌, ◌++◌, ◌+◌, ◌-◌, ◌≤◌, ◌<◌, ℕ, List, length, take, drop, ◌∙◌, arith, append_assoc, length-take, length-drop}
use Rattle.std.specs.List.{copy_within}
use Rattle.lists.specs.Rows.{over}
use Rattle.lists.proofs.Rows.{drop-take}
use Rattle.follows.proofs.Places.{behind-put}
use Rattle.follows.proofs.insert_behind.Goals as goal

-- what is copied within, as `over` puts it
moved : (w : List ℕ) (p n : ℕ) → n < length w → copy_within w (p + 1) n (p + 2) ≡ over w (p + 1 + 1) (drop (p + 1) (take n w))
unfolding over
moved w p n h =
    let two : p + 2 ≡ p + 1 + 1 = omega arith in
    let few : length (take (n - (p + 1)) (drop (p + 1) w)) ≡ n - (p + 1) = omega (arith, length-take (n - (p + 1)) (drop (p + 1) w), length-drop (p + 1) w) in
    rw (two, drop-take (p + 1) n w, few) (append_assoc (take (p + 1 + 1) w) (take (n - (p + 1)) (drop (p + 1) w)) (drop (p + 1 + 1 + (n - (p + 1))) w))

pub returns : goal.returns
returns c =
    let a = c.args in
    behind-put a.slots.now c.copy_within.new.self a.n (a.p + 1) a.id a.second c.requires.0 (c.copy_within.ensures.after ∙ moved a.slots.now a.p a.n c.requires.0) (omega (arith, c.requires.1.1)) (omega (arith, c.requires.1.0))
