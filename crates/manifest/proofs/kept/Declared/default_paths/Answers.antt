use Rattle.std.proofs.Common.{[], refl, sym, ◌∙◌}
use Rattle.std.proofs.lemmas.Result.{err_from_is_err_and}
use Rattle.lexer.specs.Said.{paths_of}
use Rattle.scopes.specs.Scopes.{IsScopesOf}
use Rattle.manifest.specs.Places.{place_of}
use Rattle.manifest.specs.Expansion.{is_empty, is_large}
use Rattle.manifest.proofs.TextLemmas.{here_same, some_text_same, paths_same}
use Rattle.manifest.proofs.Binds.{where_ok}
use Rattle.manifest.proofs.CheckLemmas.{noted_fault, none_noted, none_wrong, flags_fresh}
use Rattle.manifest.proofs.kept.Declared.default_paths.Goals as goal

pub returns-in_err-check : goal.returns-in_err-check
returns-in_err-check c = λ state is_state.
    let here = here_same c.new-reader.result.block.now [] state.past (rw c.new-reader.ensures.block c.new-block.ensures) in
    let at : IsScopesOf c.new-reader.result.scopes.now state.past = rw c.new-reader.ensures.scopes is_state.scopes in
    let noted = flags_fresh c.new-reader.result c.paths.new.self _ (paths_of c.args.values.now) c.new-reader.ensures.empty c.new-reader.ensures.large (c.in_ok-paths.ensures.flags state.past at) in
    let failed = err_from_is_err_and c.from_residual-in_err-check.result c.from_residual-in_err-check.ensures.1 in
    rw (failed.1, failed.2) (noted_fault (place_of c.args.place.now) _ _ _ _ _ c.in_err-check.field-0.0
    (noted.0 ∙ some_text_same is_empty _ _ here (paths_of c.args.values.now)) (noted.1 ∙ some_text_same is_large _ _ here (paths_of c.args.values.now)) c.in_err-check.ensures)

pub returns : goal.returns
returns c = λ state is_state.
    let here = here_same c.new-reader.result.block.now [] state.past (rw c.new-reader.ensures.block c.new-block.ensures) in
    let at : IsScopesOf c.new-reader.result.scopes.now state.past = rw c.new-reader.ensures.scopes is_state.scopes in
    let noted = flags_fresh c.new-reader.result c.paths.new.self _ (paths_of c.args.values.now) c.new-reader.ensures.empty c.new-reader.ensures.large (c.in_ok-paths.ensures.flags state.past at) in
    let none = none_noted (place_of c.args.place.now) c.paths.new.self.has_empty c.paths.new.self.has_large c.in_ok-check.ensures in
    none_wrong (place_of c.args.place.now) _ _ _ _ (sym (some_text_same is_empty _ _ here (paths_of c.args.values.now)) ∙ sym noted.0 ∙ none.0)
    (sym (some_text_same is_large _ _ here (paths_of c.args.values.now)) ∙ sym noted.1 ∙ none.1)
    (where_ok _ _ _ _ (paths_same _ _ here _ _ (c.in_ok-paths.ensures.paths state.past at none.0 none.1)) refl)
