use Rattle.lexer.specs.Said.{fragments_of}
use Rattle.manifest.specs.Answer.{IsAnswerOf}
use Rattle.manifest.specs.Files.{NameOf}
use Rattle.manifest.specs.Places.{place_of}
use Rattle.std.specs.Prelude.{string_bytes}
use Rattle.manifest.proofs.Including.{name_passed, name_kept, name_of_nothing, err_is, ok_is_no_err}
use Rattle.manifest.proofs.kept.Declared.file_name.Goals as goal

pub returns-in_err-text : goal.returns-in_err-text
returns-in_err-text c = λ state is.
    name_passed (place_of c.args.place.now) (fragments_of c.args.path.now) state _ c.from_residual.result (IsAnswerOf (NameOf (place_of c.args.place.now) (fragments_of c.args.path.now) state)) (λ error fault. fault)
    c.from_residual.ensures.1 (c.in_err-text.ensures state is)

pub returns-in-Ok : goal.returns-in-Ok
returns-in-Ok c = λ state is.
    name_kept (place_of c.args.place.now) (fragments_of c.args.path.now) state c.in_ok-text.text c.as_str.result.now (string_bytes c.in-Ok.name) c.from_string.result (c.in_ok-text.ensures state is)
    c.as_str.ensures c.from_string.ensures (λ none. ok_is_no_err _ _ _ c.in-Ok.is (c.canonical.ensures.empty.1 none)) c.in-Ok.ensures.found

pub returns : goal.returns
returns c = λ state is.
    name_of_nothing (place_of c.args.place.now) (fragments_of c.args.path.now) state c.in_ok-text.text c.as_str.result.now c.fault.result (c.in_ok-text.ensures state is)
    c.as_str.ensures (c.canonical.ensures.empty.0 (err_is _ _ _ c.in-Err-EmptyPath.is c.in-Err-EmptyPath.field-0-is)) c.fault.ensures
