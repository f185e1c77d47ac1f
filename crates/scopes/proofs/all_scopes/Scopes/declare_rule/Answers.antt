use Rattle.std.proofs.Common.{rules, refl, ap, ◌∙◌, Bool, true, false, cond, Option, Global, ◌≡◌, ◌<◌, length, slice_get, Some, string_bytes}
use Rattle.std.proofs.lemmas.Option.{slice_get_read}
use Rattle.std.proofs.lemmas.Map.Text.{hash_map_updates_text}
use Rattle.std.proofs.lemmas.Result.{err_from_is_err_and}
use Rattle.std.specs.declared.rc.Rc.{Rc}
use Rattle.scopes.specs.declared.template.Rule.{Rule}
use Rattle.std.specs.Map.{lookup}
use Rattle.std.specs.Option.{option_map}
use Rattle.std.specs.Str.{bytes_eq}
use Rattle.scopes.proofs.Keeping.{at_declare, at_same}
use Rattle.scopes.proofs.all_scopes.Scopes.declare_rule.Goals as goal

pub returns-in_err-insert-clause-err : goal.returns-in_err-insert-clause-err
returns-in_err-insert-clause-err c =
    let p = err_from_is_err_and c.from_residual-in_err-insert.result c.from_residual-in_err-insert.ensures.1 in
    let within : c.args.self.now.present < length c.args.self.now.scopes.items = search rules in
    let here : slice_get c.args.self.now.scopes.items c.args.self.now.present ≡ Some c.index_mut.result.now = slice_get_read _ (length c.args.self.now.scopes.items) _ _ refl within (search rules) in
    rw p.1
    (λ past at. at_same c.args.self.now.scopes.items c.args.self.now.present c.args.self.now.outer.items past at c.index_mut.result.now _ here within refl
    (λ q. refl) (λ q. ap (λ es. option_map (λ found. found.value) (lookup (λ k. bytes_eq q (string_bytes k)) es)) c.in_err-insert.ensures.err))

written : (b : Bool) (kept : Rc Rule Global) (rule : Rule) (old : Option (Rc Rule Global)) → kept.value ≡ rule → option_map (λ found. found.value) (cond b (Some kept) old) ≡ cond b (Some rule) (option_map (λ found. found.value) old)
written true kept rule old is = ap Some is
written false kept rule old is = refl

pub returns-clause-ok : goal.returns-clause-ok
returns-clause-ok c = λ past at.
    let within : c.args.self.now.present < length c.args.self.now.scopes.items = search rules in
    let here : slice_get c.args.self.now.scopes.items c.args.self.now.present ≡ Some c.index_mut.result.now = slice_get_read _ (length c.args.self.now.scopes.items) _ _ refl within (search rules) in
    let is_rule : c.in_ok-rule.rule.value ≡ c.args.rule = search rules in
    at_declare c.args.self.now.scopes.items c.args.self.now.present c.args.self.now.outer.items past at c.index_mut.result.now _ here within refl c.args.name.now c.args.rule
    (λ q. ap (option_map (λ found. found.value)) (rw c.in_ok-name.ensures.ok at
    (hash_map_updates_text (string_bytes c.in_ok-name.name) c.index_mut.result.now.rules c.insert.new.self _ c.in_ok-insert.ensures.updates q))
    ∙ written (bytes_eq c.args.name.now q) c.in_ok-rule.rule c.args.rule _ is_rule)
    (λ q. refl)

pub returns-clause-once : goal.returns-clause-once
returns-clause-once c = c.is_taken.ensures.once (search rules)
