use Rattle.std.proofs.Common.{◌≡◌, List, ℕ, true, false, length, IfSome, sym, ◌∙◌, subst, rules}
use Rattle.graph.specs.Links.{links_of}
use Rattle.judge.specs.Dues.{due_at, AreSourcesIn}
use Rattle.judge.specs.Lacks.{IsFirstIn, IsSourceOf}
use Rattle.std.proofs.lemmas.Bool.{false≢true}
use Rattle.judge.specs.KeptDues.{AreSourcesSeen}
use Rattle.judge.proofs.SourcesSeen.{if_none_then}
use Rattle.judge.proofs.NumbersAsTexts.{within_by, if_ok_then, if_some_so}
use Rattle.judge.proofs.Lacking.{first_for, source_for}
use Rattle.judge.proofs.looks.Looks.missing_of_edge.Goals as goal

pub first_missing-requires-clause-within : goal.first_missing-requires-clause-within
first_missing-requires-clause-within g c =
    let graph = c.args.graph.now in
    within_by (length graph.manifest.paths) ((links_of graph).inputs c.args.edge) c.inputs.result.now c.inputs.ensures (c.lists_stand.ensures.inputs_within c.args.edge)

pub returns-then-due-index-clause-first : goal.returns-then-due-index-clause-first
returns-then-due-index-clause-first g c =
    let marked : due_at c.args.due.now c.args.edge ≡ true = search rules in
    if_ok_then c.first_missing.result c.first_missing.ensures.first (λ found said told set kept seen files same fit.
    first_for c.args.graph.now c.args.due.now files c.lists_stand.ensures c.args.edge marked found
    (subst (λ (l : List ℕ). IsFirstIn c.args.graph.now l files found) c.inputs.ensures (said told set kept seen files same (subst (AreSourcesIn set c.args.graph.now) (sym {A = List ℕ} c.inputs.ensures) fit))))

pub returns-then-due-index-clause-marked : goal.returns-then-due-index-clause-marked
returns-then-due-index-clause-marked g c =
    let marked : due_at c.args.due.now c.args.edge ≡ true = search rules in
    if_ok_then c.first_missing.result c.first_missing.ensures.within (λ found named. if_some_so found marked)

pub returns-then-due-index-clause-within : goal.returns-then-due-index-clause-within
returns-then-due-index-clause-within g c =
    let graph = c.args.graph.now in
    if_ok_then c.first_missing.result c.first_missing.ensures.within (λ found named. source_for graph c.lists_stand.ensures c.args.edge found
    (subst (λ (l : List ℕ). IfSome found (IsSourceOf graph l)) c.inputs.ensures named))

-- what was asked for is there
pub returns-then-due-index-clause-there : goal.returns-then-due-index-clause-there
returns-then-due-index-clause-there g c =
    if_ok_then c.first_missing.result c.first_missing.ensures.there (λ found said. if_none_then found said (λ there marked. subst (λ (l : List ℕ). AreSourcesSeen c.args.graph.now c.first_missing.new.self.seen.items l) c.inputs.ensures there))

pub returns-else-due-index-clause-there : goal.returns-else-due-index-clause-there
returns-else-due-index-clause-there g c is_due =
    let not : due_at c.args.due.now c.args.edge ≡ false = search rules in
    absurd (false≢true (sym not ∙ is_due))
