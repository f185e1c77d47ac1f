use Rattle.std.proofs.Common.{◌≤◌, ◌++◌, ◌∷◌, [], List, ℕ, subst, ap, ◌∙◌, map, length, arith}
use Rattle.std.proofs.lemmas.List.{take_all}
use Rattle.seen_log.specs.Log.{IsLog}
use Rattle.seen_log.specs.Keeping.{entry_note}
use Rattle.seen_log.proofs.Writing.{log_of_none}
use Rattle.seen_log.proofs.log.LogRecords.compacted.Goals as goal

pub loop-place-init : goal.loop-place-init
loop-place-init c = log_of_none c.push.new.self.items (c.in_ok-push.ensures.items ∙ ap (λ (xs : List ℕ). xs ++ 10 ∷ []) (c.in_ok-text.ensures.items ∙ c.first_line.ensures))

pub returns : goal.returns
returns c = λ records keeps.
    let entries = c.args.self.now.last.entries in
    let past : length entries ≤ c.loop-place.place = omega arith in
    subst (IsLog c.loop-place.text.items) (ap (map entry_note) (take_all c.loop-place.place entries past) ∙ keeps.in_force) c.loop-place.invariant
