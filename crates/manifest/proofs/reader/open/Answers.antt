use Rattle.std.proofs.Common.{◌<◌, Some, None, arith}
use Rattle.lexer.specs.Said.{fragments_of}
use Rattle.manifest.specs.Files.{too_deep_at}
use Rattle.manifest.specs.Seen.{seen}
use Rattle.manifest.specs.Places.{place_of}
use Rattle.manifest.proofs.Looking.{covers_name}
use Rattle.manifest.proofs.Including.{open_unnamed, open_absent, open_deep, open_found, deep_at_none, deep_below}
use Rattle.manifest.proofs.reader.open.Goals as goal

pub returns-in_err-name-clause-opened : goal.returns-in_err-name-clause-opened
returns-in_err-name-clause-opened g c = λ told entry exit covered state is.
    open_unnamed (place_of c.args.place.now) (seen entry exit) (too_deep_at c.args.levels) (fragments_of c.args.path.now) state _ c.from_residual.result c.from_residual.ensures.1 (c.in_err-name.ensures state is)

pub returns-in-None-clause-opened : goal.returns-in-None-clause-opened
returns-in-None-clause-opened g c = λ told entry exit covered state is.
    open_absent (place_of c.args.place.now) (seen entry exit) (too_deep_at c.args.levels) (fragments_of c.args.path.now) state c.in_ok-name.name (c.in_ok-name.ensures state is) c.fault.result
    (covers_name entry exit (g.R.Texts.world c.args.texts.now) (g.R.Texts.world c.read.new.self) c.in_ok-name.name c.as_str.result.now None c.in_ok-read.field-0 c.as_str.ensures c.in-None.is covered (c.in_ok-read.ensures.content told))
    c.fault.ensures

pub returns-in-Some-clause-opened : goal.returns-in-Some-clause-opened
returns-in-Some-clause-opened g c = λ told entry exit covered state is.
    open_deep (place_of c.args.place.now) (seen entry exit) (too_deep_at c.args.levels) (fragments_of c.args.path.now) state c.in_ok-name.name c.in-Some.field-0 c.fault-in-Some.result (c.in_ok-name.ensures state is)
    (covers_name entry exit (g.R.Texts.world c.args.texts.now) (g.R.Texts.world c.read.new.self) c.in_ok-name.name c.as_str.result.now (Some c.in-Some.field-0) c.in_ok-read.field-0 c.as_str.ensures c.in-Some.is covered (c.in_ok-read.ensures.content told))
    (deep_at_none c.args.levels c.if-levels-eq0.true) c.fault-in-Some.ensures

pub returns-in_ok-new-in-Some-2-clause-opened : goal.returns-in_ok-new-in-Some-2-clause-opened
returns-in_ok-new-in-Some-2-clause-opened g c = λ told entry exit covered state is.
    let deep : 0 < c.args.levels = omega (arith, c.if-levels-eq0.false) in
    open_found (place_of c.args.place.now) (seen entry exit) (too_deep_at c.args.levels) (fragments_of c.args.path.now) state c.in_ok-name.name c.in_ok-new-in-Some-2.field-0.value c.in-Some.field-0 (c.in_ok-name.ensures state is)
    (covers_name entry exit (g.R.Texts.world c.args.texts.now) (g.R.Texts.world c.read.new.self) c.in_ok-name.name c.as_str.result.now (Some c.in-Some.field-0) c.in_ok-read.field-0 c.as_str.ensures c.in-Some.is covered (c.in_ok-read.ensures.content told))
    (deep_below c.args.levels deep) c.in_ok-new-in-Some-2.ensures.ok
