use Rattle.std.proofs.Common.{◌≢◌, slice_get, sym, ◌∙◌}
use Rattle.std.proofs.lemmas.Bool.{false≢true}
use Rattle.std.proofs.lemmas.Slice.Eq.{bytes_eq-Decides}
use Rattle.tools.proofs.Lacking.{made_file, made_past, made_push, made_source, made_unknown}
use Rattle.tools.proofs.missing.push_made.Goals as goal

pub returns-in_default : goal.returns-in_default
returns-in_default c =
    made_past c.args.logged.declared.now.graph c.args.output c.args.file.now (slice_get c.args.logged.records.now.logs.deps_log.log.outputs c.args.number) c.args.made.now.items c.in_default.ensures

pub returns-then-eq : goal.returns-then-eq
returns-then-eq c =
    let path = c.in-Some.path.now in
    made_file c.args.logged.declared.now.graph c.args.output c.args.file.now (slice_get c.args.logged.records.now.logs.deps_log.log.outputs c.args.number) path c.args.made.now.items c.in-Some.ensures
    ((bytes_eq-Decides path c.args.file.now).0 (sym c.eq.ensures ∙ c.if-eq.true))

pub returns-in_default-number_of : goal.returns-in_default-number_of
returns-in_default-number_of c =
    made_unknown c.args.logged.declared.now.graph c.args.output c.args.file.now (slice_get c.args.logged.records.now.logs.deps_log.log.outputs c.args.number) c.in-Some.path.now c.args.made.now.items c.in-Some.ensures c.in_default-number_of.ensures.place

pub returns-in_default-maker : goal.returns-in_default-maker
returns-in_default-maker c =
    made_source c.args.logged.declared.now.graph c.args.output c.args.file.now (slice_get c.args.logged.records.now.logs.deps_log.log.outputs c.args.number) c.in-Some.path.now c.in-Some-number_of.input c.args.made.now.items
    c.in-Some.ensures c.number_of.ensures.once c.in-Some-number_of.ensures.place c.in_default-maker.ensures.value

pub returns : goal.returns
returns c =
    let path = c.in-Some.path.now in
    let file = c.args.file.now in
    let other : path ≢ file = λ same. false≢true (sym c.if-eq.false ∙ (c.eq.ensures ∙ (bytes_eq-Decides path file).1 same)) in
    made_push c.args.logged.declared.now.graph c.args.output file (slice_get c.args.logged.records.now.logs.deps_log.log.outputs c.args.number) path c.in-Some-number_of.input c.in-Some-maker.maker c.args.made.now.items c.push.new.self.items
    c.in-Some.ensures other c.number_of.ensures.once c.in-Some-number_of.ensures.place c.in-Some-maker.ensures.value c.in_ok-push.ensures.items
