use Rattle.std.proofs.Common.{rules, ◌≡◌, ◌<◌, ◌≤◌, ℕ, List, length, ap, subst, ◌∙◌, Err}
use Rattle.lexer.specs.declared.fault.FaultKind.TheVariants.{TooLarge}
use Rattle.lexer.specs.Said.{fragments_of}
use Rattle.scopes.specs.declared.fault.ExpandFault.TheVariants.{TooLarge as Larger}
use Rattle.scopes.specs.Texts.{largest_value}
use Rattle.manifest.specs.declared.fault.FaultKind.TheVariants.{Line}
use Rattle.manifest.specs.Readings.{Give}
use Rattle.manifest.specs.Readings.Outcome.{Reached}
use Rattle.manifest.specs.Places.{place_of}
use Rattle.manifest.specs.Expansion.{text_at}
use Rattle.manifest.proofs.TextLemmas.{expanded_at, large_true, large_false, not_true}
use Rattle.manifest.proofs.Binds.{unless_at, unless_ok}
use Rattle.manifest.proofs.kept.Declared.expand.Goals as goal

pub returns-in-Ok : goal.returns-in-Ok
returns-in-Ok c = λ state is_state.
    let same : c.in-Ok.text ≡ text_at state.past (fragments_of c.args.value.now) =
    c.in-Ok.ensures.value state.past is_state.scopes ∙ expanded_at c.new.result state.past c.new.ensures c.args.value.now in
    let small : length (text_at state.past (fragments_of c.args.value.now)) ≤ largest_value = subst (λ (text : List ℕ). length text ≤ largest_value) same c.in-Ok.ensures.size in
    unless_ok _ _ _ (Reached c.in-Ok.text) (not_true _ (large_false _ small)) (ap Reached same)

pub returns : goal.returns
returns c = λ state is_state.
    let failed : c.expand.result ≡ Err Larger = search rules in
    let large : largest_value < length (text_at state.past (fragments_of c.args.value.now)) =
    subst (λ (text : List ℕ). largest_value < length text) (expanded_at c.new.result state.past c.new.ensures c.args.value.now) (c.expand.ensures.large failed state.past is_state.scopes) in
    unless_at _ (Give (text_at state.past (fragments_of c.args.value.now))) (place_of c.args.place.now) (Line TooLarge) c.too_large.result (large_true _ large) c.too_large.ensures
