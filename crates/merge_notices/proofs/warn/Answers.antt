use Rattle.merge_notices.proofs.Noted.{all-warned}
use Rattle.merge_notices.proofs.warn.Goals as goal

-- src/lib.rt:192:1
pub returns : goal.returns
returns c = let s = c in all-warned s.args.notices s.args.warnings.now s.requires c.note-a.result c.note-a.new.warnings c.note-a.ensures.0 c.note-a.ensures.1 c.note-b.result c.note-b.new.warnings c.note-b.ensures.0 c.note-b.ensures.1 c.note-c.result c.note-c.new.warnings c.note-c.ensures.0 c.note-c.ensures.1 c.note-d.result c.note-d.new.warnings c.note-d.ensures.0 c.note-d.ensures.1 c.note.result c.note.new.warnings c.note.ensures.0 c.note.ensures.1
