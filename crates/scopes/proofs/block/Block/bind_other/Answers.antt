use Rattle.std.proofs.Common.{string_bytes, bytes_eq}
use Rattle.std.proofs.lemmas.Map.Text.{hash_map_updates_text}
use Rattle.std.specs.Box.{with_value}
use Rattle.indexmap.specs.IndexMap.{get_by_text}
use Rattle.scopes.specs.Block.{last_value, first_value}
use Rattle.scopes.specs.Moves.{or_else}
use Rattle.scopes.proofs.LastBound.{behind_bound}
use Rattle.scopes.proofs.block.Block.bind_other.Goals as goal

pub returns-in_ok-insert-in-Some-clause-ok : goal.returns-in_ok-insert-in-Some-clause-ok
returns-in_ok-insert-in-Some-clause-ok c = λ other.
    let told = rw c.in_ok-name.ensures.ok at (hash_map_updates_text (string_bytes c.in_ok-name.name) c.deref_mut.result.now c.insert.new.self _ c.in_ok-insert-in-Some.ensures.updates other) in
    behind_bound (λ others. get_by_text others.value other) (or_else (last_value c.args.self.now.few.items other) (first_value c.args.self.now.first other)) (bytes_eq c.args.name.now other) c.args.value c.args.self.now.others c.in-Some.others (with_value c.in-Some.others c.insert.new.self) c.in-Some.is (rw c.deref_mut.ensures.value at told)
