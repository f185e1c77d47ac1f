use Rattle.std.proofs.Common.{List, ℕ, Option, None, get_or, ◌∷◌, [], ◌++◌, sym, ◌∙◌, ap, Bor}
use Rattle.std.specs.Option.{option_map}
use Rattle.log_text.specs.Kept.{if_some}
use Rattle.work.specs.Recorded.{texts_of}
use Rattle.work.proofs.Numbering.{just_more, just_insert, just_is}
use Rattle.work.proofs.recorded.Numbers.push_input.Goals as goal

pub returns-in_err-number-clause-numbered : goal.returns-in_err-number-clause-numbered
returns-in_err-number-clause-numbered c are k n is = c.number_of.ensures.numbered (texts_of c.args.records.now) (sym c.deps_path.ensures ∙ ap (option_map (λ (t : Bor (List ℕ)). t.now)) c.in-Some-deps_path.is) are k n is

pub returns-in_err-insert-clause-numbered : goal.returns-in_err-insert-clause-numbered
returns-in_err-insert-clause-numbered c are k n is = are k n is

pub returns-in_err-insert-2-clause-numbered : goal.returns-in_err-insert-2-clause-numbered
returns-in_err-insert-2-clause-numbered c are k n is = c.number_of.ensures.numbered (texts_of c.args.records.now) (sym c.deps_path.ensures ∙ ap (option_map (λ (t : Bor (List ℕ)). t.now)) c.in-Some-deps_path.is) are k n is

pub returns-clause-numbered : goal.returns-clause-numbered
returns-clause-numbered c are k n is = c.number_of.ensures.numbered (texts_of c.args.records.now) (sym c.deps_path.ensures ∙ ap (option_map (λ (t : Bor (List ℕ)). t.now)) c.in-Some-deps_path.is) are k n is

-- its number is known
pub returns-in-Some-clause-inputs : goal.returns-in-Some-clause-inputs
returns-in-Some-clause-inputs c paths are just =
    let graph = c.args.graph.now in
    let number = c.in-Some.number in
    let held = are c.args.path number (ap (λ (l : List (Option ℕ)). get_or l c.args.path None) (sym c.deref.ensures.value) ∙ (sym c.number_at.ensures ∙ c.in-Some.is)) in
    just_is graph c.insert.new.self _ _ (ap (λ (o : Option (List ℕ)). paths ++ if_some o) (sym held.1)) (just_insert graph c.args.inputs.now c.insert.new.self paths number just held.0 c.in_ok-insert.ensures.either)

pub returns-clause-inputs : goal.returns-clause-inputs
returns-clause-inputs c paths are just =
    let old = c.args.graph.now in
    let new = c.number_of.new.graph in
    let texts = texts_of c.args.records.now in
    let number = c.in_ok-number.number in
    let there = sym c.deps_path.ensures ∙ ap (option_map (λ (t : Bor (List ℕ)). t.now)) c.in-Some-deps_path.is in
    let its = c.in_ok-number.ensures.number texts there are in
    just_is new c.insert-2.new.self _ _ (ap (λ (t : List ℕ). paths ++ t ∷ []) its.1 ∙ ap (λ (o : Option (List ℕ)). paths ++ if_some o) (sym there))
    (just_insert new c.args.inputs.now c.insert-2.new.self paths number (just_more old new c.number_of.ensures.grown.grown c.args.inputs.now paths just) its.0 c.in_ok-insert-2.ensures.either)
