use Rattle.std.proofs.Common.{string_bytes}
use Rattle.std.proofs.lemmas.Map.Text.{hash_map_updates_text}
use Rattle.scopes.proofs.at_use.Known.learn.Goals as goal

pub returns-clause-value : goal.returns-clause-value
returns-clause-value c = λ template is. (
  c.in_ok-value.value,
  (λ other. rw c.in_ok-from_str.ensures.ok at (hash_map_updates_text (string_bytes c.in_ok-from_str.field-0) c.args.self.now.values c.insert.new.self _ c.in_ok-insert.ensures.updates other)),
  λ past at. c.in_ok-value.ensures.value template is past at,
)
