use Rattle.std.proofs.Common.{rules, ◌≡◌, None, Result, IfOk, Err, sym, subst}
use Rattle.std.proofs.lemmas.Result.{err_from_is_err_and}
use Rattle.model.specs.Calls.{HasCause}
use Rattle.paths.specs.declared.manifest.Manifest.{Manifest}
use Rattle.manifest.specs.Answer.{in_texts, site_part, IsGraph, ReadsFile}
use Rattle.manifest.specs.Described.{manifest_in}
use Rattle.manifest.specs.Graphs.{AtEnd}
use Rattle.manifest.specs.States.{nothing}
use Rattle.manifest.specs.declared.fault.ReadError.{ReadError}
use Rattle.manifest.specs.declared.fault.ReadError.TheVariants.{Memory}
use Rattle.manifest.proofs.Describing.{describes_both, err_in}
use Rattle.manifest.proofs.Looking.{looks_then, covers_before, covers_after}
use Rattle.manifest.proofs.ReadMain.{main_cause, texts_cause, formed_new, read_absent, read_broken, read_done}
use Rattle.manifest.proofs.reader.read_described.Goals as goal

pub returns-in_default-clause-file : goal.returns-in_default-clause-file
returns-in_default-clause-file g c = λ told.
    let same : c.in_ok-file.file.value ≡ c.args.name.now = search rules in
    let none : c.in_ok-content.content ≡ None = search rules in
    read_absent (g.R.Texts.world c.args.texts.now) (g.R.Texts.world c.read.new.self) c.args.name.now c.in_ok-file.file.value same c.in_ok-content.content (c.in_ok-content.ensures.content told) c.absent.result none c.absent.ensures

pub returns-in_err-read_bytes-clause-looks : goal.returns-in_err-read_bytes-clause-looks
returns-in_err-read_bytes-clause-looks g c = looks_then _ _ _ _ c.read.ensures.looks c.read_bytes.ensures.looks

pub returns-in_err-read_bytes-clause-cause : goal.returns-in_err-read_bytes-clause-cause
returns-in_err-read_bytes-clause-cause g c =
    let failed = err_from_is_err_and c.from_residual-in_err-read_bytes.result c.from_residual-in_err-read_bytes.ensures.1 in
    let inner = c.in_err-read_bytes.ensures.cause (nothing, c.in_ok-declared.ensures) in
    rw (failed.1, failed.2) (main_cause {U = Manifest} _ _ _ _ _ (Err c.in_err-read_bytes.field-0.0) c.read.ensures.cause c.in_ok-content.was inner)

pub returns-in_err-read_bytes-clause-file : goal.returns-in_err-read_bytes-clause-file
returns-in_err-read_bytes-clause-file g c = λ told.
    let same : c.in_ok-file.file.value ≡ c.args.name.now = search rules in
    let old = g.R.Texts.world c.args.texts.now in let mid = g.R.Texts.world c.read.new.self in let new = g.R.Texts.world c.read_bytes.new.texts in
    read_broken old new c.args.name.now c.in_ok-file.file.value same c.in_ok-content.content
    (covers_before g.R.Texts.tells old new old mid new told c.read_bytes.ensures.looks (λ name content sees. sees) _ _ (c.in_ok-content.ensures.content told))
    c.in-Some.bytes c.as_slice.result.now c.in-Some.is c.as_slice.ensures _ (manifest_in c.from_residual-in_err-read_bytes.result) (err_in c.from_residual-in_err-read_bytes.result _ c.from_residual-in_err-read_bytes.ensures.1)
    (c.in_err-read_bytes.ensures.said told old new (covers_after g.R.Texts.tells old new old mid new told c.read.ensures.looks (λ name content sees. sees)) nothing c.in_ok-declared.ensures)

pub of-requires-clause-formed : goal.of-requires-clause-formed
of-requires-clause-formed g c = c.in_ok-read_bytes.ensures.formed (formed_new _ c.in_ok-declared.ensures)

pub of-requires-clause-stated : goal.of-requires-clause-stated
of-requires-clause-stated g c = c.in_ok-read_bytes.ensures.stated (nothing, c.in_ok-declared.ensures)

pub returns-in_err-described-clause-looks : goal.returns-in_err-described-clause-looks
returns-in_err-described-clause-looks g c = looks_then _ _ _ _ c.read.ensures.looks c.read_bytes.ensures.looks

pub returns-in_err-described-clause-cause : goal.returns-in_err-described-clause-cause
returns-in_err-described-clause-cause g c =
    let failed = err_from_is_err_and c.from_residual-in_err-described.result c.from_residual-in_err-described.ensures.1 in
    rw (failed.1, failed.2) (main_cause {U = Manifest} _ _ _ _ _ (Err Memory) c.read.ensures.cause c.in_ok-content.was (c.in_ok-read_bytes.ensures.cause (nothing, c.in_ok-declared.ensures)))

pub returns-in_err-described-clause-file : goal.returns-in_err-described-clause-file
returns-in_err-described-clause-file g c = λ told.
    let failed = err_from_is_err_and c.from_residual-in_err-described.result c.from_residual-in_err-described.ensures.1 in
    rw (failed.1, failed.2) tt

pub finish-requires-clause-formed : goal.finish-requires-clause-formed
finish-requires-clause-formed g c = c.in_ok-read_bytes.ensures.formed (formed_new _ c.in_ok-declared.ensures)

pub finish-requires-clause-stated : goal.finish-requires-clause-stated
finish-requires-clause-stated g c = c.in_ok-read_bytes.ensures.stated (nothing, c.in_ok-declared.ensures)

pub returns-clause-looks : goal.returns-clause-looks
returns-clause-looks g c = looks_then _ _ _ _ c.read.ensures.looks c.read_bytes.ensures.looks

pub returns-clause-cause : goal.returns-clause-cause
returns-clause-cause g c =
    let old = g.R.Texts.world c.args.texts.now in let new = g.R.Texts.world c.read_bytes.new.texts in
    let stated = c.in_ok-read_bytes.ensures.stated (nothing, c.in_ok-declared.ensures) in
    subst (λ (r : Result Manifest ReadError). HasCause old new (site_part r)) (sym c.beside.ensures.read)
    (main_cause _ _ _ _ _ c.finish.result c.read.ensures.cause c.in_ok-content.was
    (texts_cause (g.R.Texts.world c.read.new.self) new (AtEnd stated.0) c.finish.result (c.in_ok-read_bytes.ensures.cause (nothing, c.in_ok-declared.ensures)) (c.finish.ensures.said stated.0 stated.1)))

pub returns-clause-file : goal.returns-clause-file
returns-clause-file g c = λ told.
    let same : c.in_ok-file.file.value ≡ c.args.name.now = search rules in
    let old = g.R.Texts.world c.args.texts.now in let mid = g.R.Texts.world c.read.new.self in let new = g.R.Texts.world c.read_bytes.new.texts in
    let inner = c.in_ok-read_bytes.ensures.said told old new (covers_after g.R.Texts.tells old new old mid new told c.read.ensures.looks (λ name content sees. sees)) nothing c.in_ok-declared.ensures in
    subst (λ (r : Result Manifest ReadError). ReadsFile c.args.name.now old.history new.history (in_texts r)) (sym c.beside.ensures.read)
    (read_done old new c.args.name.now c.in_ok-file.file.value same c.in_ok-content.content
    (covers_before g.R.Texts.tells old new old mid new told c.read_bytes.ensures.looks (λ name content sees. sees) _ _ (c.in_ok-content.ensures.content told))
    c.in-Some.bytes c.as_slice.result.now c.in-Some.is c.as_slice.ensures inner.0 (in_texts c.finish.result) inner.2 (c.finish.ensures.said inner.0 inner.1))

pub returns-clause-graph : goal.returns-clause-graph
returns-clause-graph g c = subst (λ (r : Result Manifest ReadError). IfOk (in_texts r) IsGraph) (sym c.beside.ensures.read) c.finish.ensures.graph

pub returns-clause-described : goal.returns-clause-described
returns-clause-described g c = describes_both c.beside.result c.finish.result c.read_bytes.new.declared.paths.lines c.in_ok-described.described c.beside.ensures.read c.beside.ensures.beside c.finish.ensures.lines c.in_ok-described.ensures.fits
