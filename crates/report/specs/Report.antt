-- A change set in the slices lent for it.
use Rattle.std.specs.Prelude.{ℕ, ◌*◌, ◌/◌, Bool, true, ◌&&◌, List, [], ◌∷◌, ◌++◌, leb, length, take, drop, Option, None, Some, Result, Ok, Err}
use Rattle.lists.specs.Rows.{over}
use Rattle.lists.specs.Select.{each}
use Rattle.entities.specs.Types.{kind_number, severity_number, code_number, lane_entity, boundary_entity, refusal_number, refusal_entity}
use Rattle.entities.specs.Records.{Issue, ChangeSet}
use Rattle.rules.specs.Ops.{counter_after}
use Rattle.rules.specs.Names.{EntityKind, EntityRef, RuleKind, Severity, Warning, IssueCode, BoundaryUnshared, OrphanRule, Refusal}
use Rattle.rules.specs.Edit.{warning, no_op}
use Rattle.store.specs.Store.{flag, writes}
use Rattle.report.specs.declared.Counts.{Counts}
use Rattle.report.specs.declared.Change.{Change}
use Rattle.report.specs.declared.Notice.{Notice}
use Rattle.report.specs.declared.Notice.TheVariants.{NoOp, Pair, Unshared, Pieces}

-- ---- answers

-- What a call answers: the change that it made, or its refusal.
abbrev pub Answer : Type 0
Answer = Result Change Refusal

-- an accepted call's answer; a split's, with the second half of its lane
abbrev pub changed : Counts → Answer
changed n = Ok (record { counts = n; second = None })

abbrev pub divided : Counts → ℕ → Answer
divided n second = Ok (record { counts = n; second = Some second })

-- The paper's number and entity of an answer: 0 and none of an accepted call.
abbrev pub answer_number : Answer → ℕ
answer_number (Ok change) = 0
answer_number (Err r) = refusal_number r

abbrev pub answer_entity : Answer → Option EntityRef
answer_entity (Ok change) = None
answer_entity (Err r) = refusal_entity r

abbrev pub answer_counts : Answer → Counts
answer_counts (Ok change) = change.counts
answer_counts (Err r) = record { created = 0; modified = 0; deleted = 0; warnings = 0 }

-- The counter behind a call: what is created has the ids that were allocated, and a refusal allocates none.
abbrev pub counter_behind : ℕ → Answer → ℕ
counter_behind counter a = counter_after counter (answer_counts a).created

-- ---- words

-- a kind and an id
abbrev pub entity_words : EntityRef → List ℕ
entity_words e = kind_number e.kind ∷ e.id ∷ []

-- "A warning has severity, code, entity, related entities and a mark for the removal fix": ten words, two pairs of them for related entities.
unfoldable pub issue_onto : List ℕ → Issue → List ℕ
issue_onto w i =
    severity_number i.severity
    ∷ code_number i.code
    ∷ kind_number i.entity.kind
    ∷ i.entity.id
    ∷ length i.related
    ∷ over (take 4 (drop 5 w)) 0 (each entity_words i.related) ++ (flag i.fix ∷ [])

-- a list of an answer in the slice lent for it; what lies past it stays
unfoldable pub listed : List ℕ → List EntityRef → List ℕ
listed w es = over w 0 (each entity_words es)

unfoldable pub warned : List ℕ → List Issue → List ℕ
warned w issues = writes 10 issue_onto w issues

abbrev pub counts : ChangeSet → Counts
counts cs = record { created = length cs.created; modified = length cs.modified; deleted = length cs.deleted; warnings = length cs.warnings }

-- the answer of an accepted call: the four counts, and of a split the second half of its lane
abbrev pub accepting : ChangeSet → Option ℕ → Answer
accepting cs second = Ok (record { counts = counts cs; second = second })

-- ---- the parts of a report; nothing that a host calls rests on these

-- the warning that a notice stands for, and those of one that may be missing
abbrev pub issue_of : Notice → Issue
issue_of (NoOp l) = no_op l
issue_of (Pair code l other) = warning code (lane_entity l) (lane_entity other ∷ [])
issue_of (Unshared b) = warning BoundaryUnshared (boundary_entity b) []
issue_of (Pieces b x y) = warning BoundaryUnshared (boundary_entity b) (boundary_entity x ∷ boundary_entity y ∷ [])

abbrev pub issues : Option Notice → List Issue
issues None = []
issues (Some n) = issue_of n ∷ []

-- a warning of one entity; of a rule that a removal leaves with no lane
abbrev pub single : Severity → IssueCode → EntityKind → ℕ → Bool → Issue
single severity code kind i fix = record { severity = severity; code = code; entity = record { kind = kind; id = i }; related = []; fix = fix }

abbrev pub orphan_rule : ℕ → Issue
orphan_rule i = single Warning OrphanRule RuleKind i true

-- warnings written from row `at` on
unfoldable pub warned_at : ℕ → List ℕ → List Issue → List ℕ
warned_at at w is = take (at * 10) w ++ warned (drop (at * 10) w) is

-- the lists have places for so many lanes and warnings
abbrev pub report_fits : ℕ → ℕ → List ℕ → List ℕ → Bool
report_fits ids ws modified warnings = leb ids (length modified / 2) && leb ws (length warnings / 10)
