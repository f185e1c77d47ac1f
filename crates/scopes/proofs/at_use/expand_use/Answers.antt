use Rattle.std.proofs.Common.{rules, ◌≡◌, false, None, Some, Err, List, ℕ, [], sym, subst, ap, ◌∙◌, string_bytes, ◌++◌}
use Rattle.scopes.specs.declared.all_scopes.Scopes.{Scopes}
use Rattle.scopes.specs.declared.usage.Use.{Use}
use Rattle.scopes.specs.declared.template.Part.{Part}
use Rattle.scopes.specs.declared.fault.ExpandFault.TheVariants.{TooLarge as Larger}
use Rattle.scopes.specs.Block.{block_value}
use Rattle.scopes.specs.Rule.{template_of}
use Rattle.scopes.specs.Scopes.{IsScopesOf}
use Rattle.scopes.specs.Steps.{AllDone}
use Rattle.scopes.specs.Texts.{expansion}
use Rattle.scopes.specs.Known.{known_value, text_of}
use Rattle.scopes.specs.Use.{opened, is_special}
use Rattle.scopes.proofs.Knowing.{knows_none}
use Rattle.scopes.proofs.Alone.{opened_is, bound_is, bound_large, unbound_is, unbound_large, alone_is}
use Rattle.scopes.proofs.at_use.expand_use.Goals as goal

pub returns-in_err-copied-clause-large : goal.returns-in_err-copied-clause-large
returns-in_err-copied-clause-large c = λ same past is.
    let plain : is_special c.args.asked.now ≡ false = c.begins_as_special.ensures c.if-begins_as_special.false in
    let bound : block_value c.args.at.now.block.now c.args.asked.now ≡ Some c.as_str.result.now = search rules in
    let failed : c.copied.result ≡ Err Larger = search rules in
    bound_large c.args.at.now c.args.asked.now plain past c.as_str.result.now bound (c.copied.ensures.large failed)

pub returns-in-Some-clause-value : goal.returns-in-Some-clause-value
returns-in-Some-clause-value c = λ past is.
    let plain : is_special c.args.asked.now ≡ false = c.begins_as_special.ensures c.if-begins_as_special.false in
    let bound : block_value c.args.at.now.block.now c.args.asked.now ≡ Some c.as_str.result.now = search rules in
    bound_is c.args.at.now c.args.asked.now plain past c.as_str.result.now bound c.in_ok-copied.field-0 c.in_ok-copied.ensures.value

pub returns-in_err-copied-2-clause-large : goal.returns-in_err-copied-2-clause-large
returns-in_err-copied-2-clause-large c = λ same past is.
    let plain : is_special c.args.asked.now ≡ false = c.begins_as_special.ensures c.if-begins_as_special.false in
    let bound : block_value c.args.at.now.block.now c.args.asked.now ≡ None = search rules in
    let named : template_of c.args.at.now.rule.now c.args.asked.now ≡ None = search rules in
    let failed : c.copied-in_default-get.result ≡ Err Larger = search rules in
    unbound_large c.args.at.now c.args.asked.now plain past bound named c.in_scope-value.result.now (c.in_scope-value.ensures past is) (c.copied-in_default-get.ensures.large failed)

pub returns-in_default-get-clause-value : goal.returns-in_default-get-clause-value
returns-in_default-get-clause-value c = λ past is.
    let plain : is_special c.args.asked.now ≡ false = c.begins_as_special.ensures c.if-begins_as_special.false in
    let bound : block_value c.args.at.now.block.now c.args.asked.now ≡ None = search rules in
    let named : template_of c.args.at.now.rule.now c.args.asked.now ≡ None = search rules in
    unbound_is c.args.at.now c.args.asked.now plain past bound named c.in_ok-copied-2.field-0 (c.in_ok-copied-2.ensures.value ∙ c.in_scope-value.ensures past is)

pub returns-then-branch-clause-value : goal.returns-then-branch-clause-value
returns-then-branch-clause-value c = λ past is.
    let plain : is_special c.args.asked.now ≡ false = c.begins_as_special.ensures c.if-begins_as_special.false in
    let bound : block_value c.args.at.now.block.now c.args.asked.now ≡ None = search rules in
    let named : template_of c.args.at.now.rule.now c.args.asked.now ≡ Some c.in-Some-get.template.now = search rules in
    let knows = knows_none c.args.scopes.now c.args.at.now c.args.asked.now c.new-known.result c.new-known.ensures.scopes c.new-known.ensures.at c.new-known.ensures.paths c.new-known.ensures.none in
    let done : AllDone (opened c.args.at.now) [] c.in-Some-get.template.now.parts =
    subst (λ (u : Use). AllDone (opened u) [] c.in-Some-get.template.now.parts) c.new-known.ensures.at
    (subst (λ (parts : List Part). AllDone (opened c.new-known.result.at.now) [] parts) c.as_slice.ensures (c.in_ok-append_alone.ensures.alone c.if-branch.true)) in
    let put : string_bytes c.append_alone.new.text ≡ expansion (known_value c.new-known.result past) c.as_slice.result.now =
    c.in_ok-append_alone.ensures.value c.if-branch.true past (subst (λ (s : Scopes). IsScopesOf s past) (sym c.new-known.ensures.scopes) is)
    ∙ ap (λ (front : List ℕ). front ++ expansion (known_value c.new-known.result past) c.as_slice.result.now) c.clear.ensures.bytes in
    let text : c.in_ok-from_str.field-0 ≡ text_of c.new-known.result past c.in-Some-get.template.now =
    c.in_ok-from_str.ensures ∙ (c.as_str-then-branch.ensures.value ∙ (put ∙ ap (λ (parts : List Part). expansion (known_value c.new-known.result past) parts) c.as_slice.ensures)) in
    alone_is c.args.scopes.now c.args.at.now c.args.asked.now c.new-known.result knows past is c.in-Some-get.template.now (opened_is c.args.at.now c.args.asked.now plain None (Some c.in-Some-get.template.now) bound named) done c.in_ok-from_str.field-0 text
