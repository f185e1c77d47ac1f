use Rattle.std.proofs.Common.{◌<◌, ◌∙◌, ℕ, List, Option, ap, length, subst, sym}
use Rattle.seen.specs.Beginning.{started_by}
use Rattle.seen.proofs.Entered.{entry_is}
use Rattle.seen.proofs.Starting.{length_replicated, none_replicated}
use Rattle.seen.proofs.notes.entry_of.Goals as goal

pub returns-clause-unbegun : goal.returns-clause-unbegun
returns-clause-unbegun c = λ jobs table. record {
  table = table;
  room = λ p job is. subst (λ (n : ℕ). job < n) (sym (ap length c.in_ok-starts.ensures ∙ (length_replicated c.count.result ∙ c.count.ensures))) (jobs p job is);
  none = λ maker. ap (λ (l : List (Option ℕ)). started_by l maker) c.in_ok-starts.ensures ∙ none_replicated c.count.result maker;
}

pub returns-clause-text : goal.returns-clause-text
returns-clause-text c =
    let parsed = c.in_ok-notes.ensures in
    entry_is c.args.text.now _ _ parsed.0 c.in_ok-notes.tail parsed.1 parsed.2 (c.in_ok-base.ensures parsed.0 parsed.1 parsed.2)
