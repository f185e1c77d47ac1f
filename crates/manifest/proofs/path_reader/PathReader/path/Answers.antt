use Rattle.std.proofs.Common.{rules, ◌≡◌, ◌<◌, ◌≤◌, ℕ, List, length, Err, refl, sym, subst, ◌∙◌}
use Rattle.std.proofs.lemmas.Result.{on_ok_weaker, IfOk-weaker}
use Rattle.lexer.specs.Said.{fragments_of}
use Rattle.scopes.specs.declared.fault.ExpandFault.TheVariants.{TooLarge as Larger}
use Rattle.scopes.specs.Place.{value_of_name}
use Rattle.scopes.specs.Texts.{largest_value}
use Rattle.manifest.specs.Expansion.{text_of}
use Rattle.manifest.proofs.TextLemmas.{text_of_pieces}
use Rattle.manifest.proofs.FlagLemmas.{flags_small, flags_large, large_some, found_same}
use Rattle.manifest.proofs.path_reader.PathReader.path.Goals as goal

pub returns-in-Some-clause-flags : goal.returns-in-Some-clause-flags
returns-in-Some-clause-flags c = on_ok_weaker c.canonical.result (λ empty past at.
    let same : c.in-Some.text.now ≡ text_of (value_of_name c.args.self.now.block.now past) (fragments_of c.args.value.now) = c.in-Some.ensures.value _ ∙ sym (text_of_pieces _ c.args.value.now.pieces) in
    flags_small c.args.self.now c.canonical.new.self _ (fragments_of c.args.value.now) c.in-Some.text.now same c.in-Some.ensures.size c.canonical.ensures.large empty)
    c.canonical.ensures.empty

pub returns-in-Some-clause-found : goal.returns-in-Some-clause-found
returns-in-Some-clause-found c = IfOk-weaker c.canonical.result _ _ (λ path found past at empty large.
    let same : c.in-Some.text.now ≡ text_of (value_of_name c.args.self.now.block.now past) (fragments_of c.args.value.now) = c.in-Some.ensures.value _ ∙ sym (text_of_pieces _ c.args.value.now.pieces) in
    found_same _ _ path same (found empty)) c.canonical.ensures.found

pub returns-in-Ok-clause-flags : goal.returns-in-Ok-clause-flags
returns-in-Ok-clause-flags c = on_ok_weaker c.canonical-in-Ok.result (λ empty past at.
    let same : c.as_str.result.now ≡ text_of (value_of_name c.args.self.now.block.now past) (fragments_of c.args.value.now) =
    c.as_str.ensures ∙ c.in-Ok.ensures.value past at ∙ sym (text_of_pieces _ c.args.value.now.pieces) in
    let small : length c.as_str.result.now ≤ largest_value = subst (λ (text : List ℕ). length text ≤ largest_value) (sym c.as_str.ensures) c.in-Ok.ensures.size in
    flags_small c.args.self.now c.canonical-in-Ok.new.self _ (fragments_of c.args.value.now) c.as_str.result.now same small c.canonical-in-Ok.ensures.large empty)
    c.canonical-in-Ok.ensures.empty

pub returns-in-Ok-clause-found : goal.returns-in-Ok-clause-found
returns-in-Ok-clause-found c = IfOk-weaker c.canonical-in-Ok.result _ _ (λ path found past at empty large.
    let same : c.as_str.result.now ≡ text_of (value_of_name c.args.self.now.block.now past) (fragments_of c.args.value.now) =
    c.as_str.ensures ∙ c.in-Ok.ensures.value past at ∙ sym (text_of_pieces _ c.args.value.now.pieces) in
    found_same _ _ path same (found empty)) c.canonical-in-Ok.ensures.found

pub returns-in-Err-TooLarge-clause-flags : goal.returns-in-Err-TooLarge-clause-flags
returns-in-Err-TooLarge-clause-flags c = λ past at.
    let failed : c.expand.result ≡ Err Larger = search rules in
    let value = value_of_name c.args.self.now.block.now past in
    let large : largest_value < length (text_of (value_of_name c.args.self.now.block.now past) (fragments_of c.args.value.now)) =
    subst (λ (text : List ℕ). largest_value < length text) (sym (text_of_pieces _ c.args.value.now.pieces)) (c.expand.ensures.large failed past at) in
    flags_large c.args.self.now _ _ (fragments_of c.args.value.now) large (large_some _ large) refl refl
