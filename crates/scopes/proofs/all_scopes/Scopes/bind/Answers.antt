use Rattle.std.proofs.Common.{rules, refl, ap, ◌≡◌, ◌<◌, length, slice_get, Some, string_bytes}
use Rattle.std.proofs.lemmas.Option.{slice_get_read}
use Rattle.std.proofs.lemmas.Map.Text.{hash_map_updates_text}
use Rattle.std.proofs.lemmas.Result.{err_from_is_err_and}
use Rattle.std.specs.Map.{lookup}
use Rattle.std.specs.Str.{bytes_eq}
use Rattle.scopes.proofs.Keeping.{at_bind, at_same}
use Rattle.scopes.proofs.all_scopes.Scopes.bind.Goals as goal

pub returns-clause-ok : goal.returns-clause-ok
returns-clause-ok c = λ past at.
    let within : c.args.self.now.present < length c.args.self.now.scopes.items = search rules in
    let here : slice_get c.args.self.now.scopes.items c.args.self.now.present ≡ Some c.index_mut.result.now = slice_get_read _ (length c.args.self.now.scopes.items) _ _ refl within (search rules) in
    at_bind c.args.self.now.scopes.items c.args.self.now.present c.args.self.now.outer.items past at c.index_mut.result.now _ here within refl c.args.name.now c.args.value
    (λ q. rw c.in_ok-name.ensures.ok at
    (hash_map_updates_text (string_bytes c.in_ok-name.name) c.index_mut.result.now.variables c.insert.new.self _ c.in_ok-insert.ensures.updates q))
    (λ q. refl)

pub returns-in_err-insert-clause-err : goal.returns-in_err-insert-clause-err
returns-in_err-insert-clause-err c =
    let p = err_from_is_err_and c.from_residual-in_err-insert.result c.from_residual-in_err-insert.ensures.1 in
    let within : c.args.self.now.present < length c.args.self.now.scopes.items = search rules in
    let here : slice_get c.args.self.now.scopes.items c.args.self.now.present ≡ Some c.index_mut.result.now = slice_get_read _ (length c.args.self.now.scopes.items) _ _ refl within (search rules) in
    rw p.1
    (λ past at. at_same c.args.self.now.scopes.items c.args.self.now.present c.args.self.now.outer.items past at c.index_mut.result.now _ here within refl
    (λ q. ap (lookup (λ k. bytes_eq q (string_bytes k))) c.in_err-insert.ensures.err) (λ q. refl))
