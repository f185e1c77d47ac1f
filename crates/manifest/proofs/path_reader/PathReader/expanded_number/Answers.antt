use Rattle.std.proofs.Common.{◌≡◌, ℕ, List, Option, Some, ap, sym, subst, ◌∙◌}
use Rattle.lexer.specs.Said.{fragments_of}
use Rattle.paths.specs.Told.{text_at}
use Rattle.scopes.specs.Place.{value_of_name}
use Rattle.manifest.specs.Expansion.{text_of}
use Rattle.manifest.specs.Flags.{IsPathFound}
use Rattle.manifest.proofs.Added.{added_one, at_is}
use Rattle.manifest.proofs.path_reader.PathReader.expanded_number.Goals as goal

pub returns-in_ok-add-in-Some-clause-added : goal.returns-in_ok-add-in-Some-clause-added
returns-in_ok-add-in-Some-clause-added c = added_one _ _ c.as_str.result.now _ c.in_ok-add-in-Some.ensures.added

pub returns-in_ok-add-in-Some-clause-found : goal.returns-in_ok-add-in-Some-clause-found
returns-in_ok-add-in-Some-clause-found c = λ past at empty large.
    let same : c.in-Some.path ≡ text_at c.add.new.self c.in_ok-add-in-Some.field-0 =
    sym c.as_str.ensures ∙ sym (at_is c.add.new.self c.in_ok-add-in-Some.field-0 c.as_str.result.now c.in_ok-add-in-Some.ensures.added.at).1 in
    subst (λ (o : Option (List ℕ)). IsPathFound (text_of (value_of_name c.args.self.now.block.now past) (fragments_of c.args.value.now)) o) (c.in-Some.is ∙ ap (λ (p : List ℕ). Some p) same)
    (c.in_ok-path.ensures.found past at empty large)
