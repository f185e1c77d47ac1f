use Rattle.std.proofs.Common.{◌≡◌, List, ℕ, sym, ◌∙◌}
use Rattle.lexer.specs.Said.{fragments_of}
use Rattle.scopes.specs.Place.{value_of_name}
use Rattle.manifest.specs.Expansion.{text_of}
use Rattle.manifest.proofs.Added.{added_one, at_is}
use Rattle.manifest.proofs.FlagLemmas.{flags_settled, found_settled}
use Rattle.manifest.proofs.TextLemmas.{text_of_pieces}
use Rattle.manifest.proofs.path_reader.PathReader.number.Goals as goal

pub returns-in_ok-add-in-Some-clause-flags : goal.returns-in_ok-add-in-Some-clause-flags
returns-in_ok-add-in-Some-clause-flags c = λ past at.
    let same : c.in-Some.text.now ≡ text_of (value_of_name c.args.self.now.block.now past) (fragments_of c.args.value.now) = c.in-Some.ensures.value _ ∙ sym (text_of_pieces _ c.args.value.now.pieces) in
    flags_settled c.args.self.now _ (fragments_of c.args.value.now) c.in-Some.text.now same c.in-Some.ensures.size c.in-Some.ensures.some

pub returns-in_ok-add-in-Some-clause-added : goal.returns-in_ok-add-in-Some-clause-added
returns-in_ok-add-in-Some-clause-added c = added_one _ _ c.in-Some.text.now _ c.in_ok-add-in-Some.ensures.added

pub returns-in_ok-add-in-Some-clause-found : goal.returns-in_ok-add-in-Some-clause-found
returns-in_ok-add-in-Some-clause-found c = λ past at empty large.
    let same : c.in-Some.text.now ≡ text_of (value_of_name c.args.self.now.block.now past) (fragments_of c.args.value.now) = c.in-Some.ensures.value _ ∙ sym (text_of_pieces _ c.args.value.now.pieces) in
    found_settled c.in-Some.text.now _ _ same (at_is c.add.new.self c.in_ok-add-in-Some.field-0 c.in-Some.text.now c.in_ok-add-in-Some.ensures.added.at).1 c.in-Some.ensures.canonical
