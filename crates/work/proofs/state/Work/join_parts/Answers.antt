use Rattle.std.proofs.Common.{◌≡◌, ◌<◌, ap, length, List, refl, sym, ◌∙◌, subst, arith, Option}
use Rattle.std.proofs.lemmas.List.{take_all}
use Rattle.model.specs.Records.{recorded_inputs}
use Rattle.graph.specs.Told.{declared_by}
use Rattle.graph.specs.declared.cone.Cone.{Cone}
use Rattle.graph.specs.declared.graph.Graph.{Graph}
use Rattle.graph.specs.LoadedEdges.{numbers_in}
use Rattle.paths.specs.declared.line.Line.{Line}
use Rattle.paths.specs.Told.{text_at}
use Rattle.judge.specs.KeptDues.{NotesGrown}
use Rattle.records.specs.declared.records.Records.{Records}
use Rattle.records.specs.Known.{AreKnown}
use Rattle.work.specs.Joined.{cone_then, MayShrink, UnjoinedOver, GoesOnWith}
use Rattle.work.specs.Recorded.{HasGrownAt}
use Rattle.work.specs.Standing.{IfRefused}
use Rattle.work.proofs.FileJoins.{numbers_within, to_join, recorded_now, joined_file, asked_now, asked_same, targets_within, targets_are, circle_by, may_go_on_by, may_keep, seen_fits}
use Rattle.work.proofs.Joining.{known_more}
use Rattle.work.proofs.Results.{on_err}
use Rattle.work.proofs.StopCases.{refused_then, passed}
use Rattle.work.proofs.state.Work.join_parts.Goals as goal

pub join_inputs-requires-clause-edges : goal.join_inputs-requires-clause-edges
join_inputs-requires-clause-edges c e there =
    let j = c.requires.loaded.3 in
    numbers_within j.may j.undoes j.has c.files_stand.ensures e there

pub join_inputs-requires-clause-known : goal.join_inputs-requires-clause-known
join_inputs-requires-clause-known c =
    let store = c.requires.loaded.1 in
    let j = c.requires.loaded.3 in
    (c.requires.loaded.2, j.has.added, store.records, store.deps, j.has.paths, j.may.known)

pub returns-in_err-join_inputs-clause-beside : goal.returns-in_err-join_inputs-clause-beside
returns-in_err-join_inputs-clause-beside c = record { logs = c.join_inputs.ensures.logs; tick = refl; starts = refl; failed = refl }

pub returns-in_err-join_inputs-clause-grown : goal.returns-in_err-join_inputs-clause-grown
returns-in_err-join_inputs-clause-grown c = on_err c.from_residual.result c.join_inputs.ensures.grown

pub returns-in_err-join_inputs-clause-looks : goal.returns-in_err-join_inputs-clause-looks
returns-in_err-join_inputs-clause-looks c =
    let seen = c.args.self.now.looks.seen.items in
    on_err c.from_residual.result (take_all (length seen) seen (omega arith))

pub returns-in_err-join_inputs-clause-kept : goal.returns-in_err-join_inputs-clause-kept
returns-in_err-join_inputs-clause-kept c = on_err c.from_residual.result c.join_inputs.ensures.kept

pub cone_again-requires-clause-targets : goal.cone_again-requires-clause-targets
cone_again-requires-clause-targets c k d lt =
    let graph = c.requires.loaded.2 in
    let store = c.requires.loaded.1 in
    let j = c.requires.loaded.3 in
    let joined = c.in_ok-join_inputs.ensures.joined graph j.has.added j.has.paths store.records store.deps j.may.known (to_join j.may j.undoes j.has) in
    targets_within j.may j.undoes j.has c.files_stand.ensures joined k d lt

pub cone_again-requires-clause-asked : goal.cone_again-requires-clause-asked
cone_again-requires-clause-asked c =
    let graph = c.requires.loaded.2 in
    let store = c.requires.loaded.1 in
    let j = c.requires.loaded.3 in
    let joined = c.in_ok-join_inputs.ensures.joined graph j.has.added j.has.paths store.records store.deps j.may.known (to_join j.may j.undoes j.has) in (
      asked_now j.may j.undoes j.has c.files_stand.ensures joined,
      store,
      asked_same j.may j.undoes j.has c.files_stand.ensures joined,
      targets_are j.may j.undoes j.has c.files_stand.ensures joined,
      recorded_now j.may j.undoes j.has c.files_stand.ensures joined,
    )

pub cone_again-requires-clause-kept : goal.cone_again-requires-clause-kept
cone_again-requires-clause-kept c =
    let graph = c.requires.loaded.2 in
    let store = c.requires.loaded.1 in
    let j = c.requires.loaded.3 in
    let joined = c.in_ok-join_inputs.ensures.joined graph j.has.added j.has.paths store.records store.deps j.may.known (to_join j.may j.undoes j.has) in
    let by = c.loads_go_on_by.ensures graph c.args.self.now.graph (text_at graph.manifest.paths j.file) j.additions c.args.self.now.plan c.args.before.now j.may.over j.may.some j.has j.alone in
    may_keep j.may j.undoes j.has c.files_stand.ensures joined (may_go_on_by j.may j.undoes j.has c.files_stand.ensures joined by)

pub returns-in_err-grown-clause-beside : goal.returns-in_err-grown-clause-beside
returns-in_err-grown-clause-beside c = record { logs = c.join_inputs.ensures.logs; tick = refl; starts = refl; failed = refl }

pub returns-in_err-grown-clause-grown : goal.returns-in_err-grown-clause-grown
returns-in_err-grown-clause-grown c = on_err c.from_residual-in_err-grown.result c.join_inputs.ensures.grown

pub returns-in_err-grown-clause-looks : goal.returns-in_err-grown-clause-looks
returns-in_err-grown-clause-looks c =
    let seen = c.args.self.now.looks.seen.items in
    on_err c.from_residual-in_err-grown.result (take_all (length seen) seen (omega arith))

pub returns-in_err-grown-clause-kept : goal.returns-in_err-grown-clause-kept
returns-in_err-grown-clause-kept c = on_err c.from_residual-in_err-grown.result c.join_inputs.ensures.kept

-- a circle is one of what was asked, over the edges as they are now
pub returns-in_err-grown-clause-cause : goal.returns-in_err-grown-clause-cause
returns-in_err-grown-clause-cause c =
    passed (λ s. IfRefused s (UnjoinedOver c.args.before.now c.args.self.now.graph c.args.self.now)) c.in_err-grown.field-0.0 c.from_residual-in_err-grown.result c.from_residual-in_err-grown.ensures.1
    (refused_then c.in_err-grown.field-0.0 c.in_err-grown.ensures.refused (λ refusal circle asked store graph j.
    let joined = c.in_ok-join_inputs.ensures.joined graph j.has.added j.has.paths store.records store.deps j.may.known (to_join j.may j.undoes j.has) in
    circle_by j.may j.undoes j.has c.files_stand.ensures joined refusal
    (circle (asked_now j.may j.undoes j.has c.files_stand.ensures joined) store (asked_same j.may j.undoes j.has c.files_stand.ensures joined) (targets_are j.may j.undoes j.has c.files_stand.ensures joined) (recorded_now j.may j.undoes j.has c.files_stand.ensures joined))))

pub grow-requires-clause-may : goal.grow-requires-clause-may
grow-requires-clause-may c =
    let graph = c.requires.loaded.2 in
    let store = c.requires.loaded.1 in
    let j = c.requires.loaded.3 in
    let joined = c.in_ok-join_inputs.ensures.joined graph j.has.added j.has.paths store.records store.deps j.may.known (to_join j.may j.undoes j.has) in
    let by = c.loads_go_on_by.ensures graph c.args.self.now.graph (text_at graph.manifest.paths j.file) j.additions c.args.self.now.plan c.args.before.now j.may.over j.may.some j.has j.alone in
    (graph, may_go_on_by j.may j.undoes j.has c.files_stand.ensures joined by)

pub grow-requires-clause-fits : goal.grow-requires-clause-fits
grow-requires-clause-fits c =
    let graph = c.requires.loaded.2 in
    let store = c.requires.loaded.1 in
    let j = c.requires.loaded.3 in
    let joined = c.in_ok-join_inputs.ensures.joined graph j.has.added j.has.paths store.records store.deps j.may.known (to_join j.may j.undoes j.has) in
    seen_fits j.may j.undoes j.has c.files_stand.ensures joined

pub grow-requires-clause-edges : goal.grow-requires-clause-edges
grow-requires-clause-edges c e there =
    let j = c.requires.loaded.3 in
    subst (λ (l : List Line). e < length l) (sym {A = List Line} c.join_inputs.ensures.grown.grown.lines) (numbers_within j.may j.undoes j.has c.files_stand.ensures e there)

pub grow-requires-clause-places : goal.grow-requires-clause-places
grow-requires-clause-places c = c.requires.places

-- what the load changes of flags is noted, where the cone is the one that was
pub returns-clause-notes : goal.returns-clause-notes
returns-clause-notes c on =
    let state = c.args.self.now in
    let made : Option Cone = c.in_ok-grown.grown in
    let still = c.in_ok-grow.ensures.notes on in
    let put : c.put_cone.new.cone ≡ cone_then state.cone made = c.put_cone.ensures ∙ ap (λ (kept : Cone). cone_then kept made) c.grow.ensures.cone in
    record {
      cone = put ∙ ap (cone_then state.cone) still.none;
      known = still.known;
      noted = subst (λ (of : Graph). NotesGrown of state.cone (numbers_in c.args.before.now.edges.items) state.looks.sums.answers.dues c.grow.new.self.looks.sums.answers.dues) (sym {A = Graph} c.grow.ensures.graph) still.noted;
    }

pub returns-in_err-grow-clause-beside : goal.returns-in_err-grow-clause-beside
returns-in_err-grow-clause-beside c = record {
  logs = ap (λ (r : Records). r.logs) c.grow.ensures.records ∙ c.join_inputs.ensures.logs;
  tick = c.grow.ensures.beside.tick;
  starts = c.grow.ensures.beside.starts;
  failed = c.grow.ensures.beside.failed;
}

pub returns-in_err-grow-clause-grown : goal.returns-in_err-grow-clause-grown
returns-in_err-grow-clause-grown c =
    on_err c.from_residual-in_err-grow.result (subst (λ (of : Graph). HasGrownAt (numbers_in c.args.before.now.edges.items) c.args.self.now.graph of) (sym {A = Graph} c.grow.ensures.graph) c.join_inputs.ensures.grown)

pub returns-in_err-grow-clause-cone : goal.returns-in_err-grow-clause-cone
returns-in_err-grow-clause-cone c = on_err c.from_residual-in_err-grow.result c.grow.ensures.cone

pub returns-in_err-grow-clause-plan : goal.returns-in_err-grow-clause-plan
returns-in_err-grow-clause-plan c = on_err c.from_residual-in_err-grow.result c.in_err-grow.ensures.plan

pub returns-in_err-grow-clause-looks : goal.returns-in_err-grow-clause-looks
returns-in_err-grow-clause-looks c = on_err c.from_residual-in_err-grow.result c.grow.ensures.looks

pub returns-in_err-grow-clause-kept : goal.returns-in_err-grow-clause-kept
returns-in_err-grow-clause-kept c =
    on_err c.from_residual-in_err-grow.result
    (subst (λ (r : Records). MayShrink c.args.self.now.graph c.args.self.now.records r) (sym {A = Records} c.grow.ensures.records) c.join_inputs.ensures.kept)

pub returns-clause-goes : goal.returns-clause-goes
returns-clause-goes c asked store graph j =
    let joined = c.in_ok-join_inputs.ensures.joined graph j.has.added j.has.paths store.records store.deps j.may.known (to_join j.may j.undoes j.has) in
    let recorded = recorded_now j.may j.undoes j.has c.files_stand.ensures joined in
    let by = c.loads_go_on_by.ensures graph c.args.self.now.graph (text_at graph.manifest.paths j.file) j.additions c.args.self.now.plan c.args.before.now j.may.over j.may.some j.has j.alone in
    let targets = c.args.self.now.cone.targets.items in
    let file = text_at graph.manifest.paths j.file in
    let made : Option Cone = c.in_ok-grown.grown in
    let put : c.put_cone.new.cone ≡ cone_then c.args.self.now.cone made = c.put_cone.ensures ∙ ap (λ (kept : Cone). cone_then kept made) c.grow.ensures.cone in
    subst (λ (cone : Cone). GoesOnWith store graph c.grow.new.self.graph targets cone c.args.self.now.plan c.grow.new.self.plan file j.additions) (sym {A = Cone} put)
    (subst (λ (of : Graph). GoesOnWith store graph of targets (cone_then c.args.self.now.cone made) c.args.self.now.plan c.grow.new.self.plan file j.additions) (sym {A = Graph} c.grow.ensures.graph)
    (record {
      joined = joined_file j.may j.undoes j.has c.files_stand.ensures joined;
      cone_of = c.in_ok-grown.ensures.cone (recorded_inputs store (declared_by c.join_inputs.new.graph).edges) recorded;
      planned = c.in_ok-grow.ensures.planned graph (may_go_on_by j.may j.undoes j.has c.files_stand.ensures joined by);
    }))

pub returns-clause-room : goal.returns-clause-room
returns-clause-room c =
    let room = c.in_ok-grow.ensures.room in
    record { fits = room.fits ∙ ap (λ (of : Graph). length of.manifest.paths) (sym {A = Graph} c.grow.ensures.graph); looks = room.looks; changed = room.changed; tick = room.tick; starts = room.starts; failed = room.failed }

pub returns-clause-known : goal.returns-clause-known
returns-clause-known c was more is rs ds known =
    subst (λ (of : Graph). AreKnown of rs ds c.grow.new.self.records) (sym {A = Graph} c.grow.ensures.graph)
    (subst (λ (r : Records). AreKnown c.join_inputs.new.graph rs ds r) (sym {A = Records} c.grow.ensures.records)
    (known_more c.args.self.now.graph c.join_inputs.new.graph c.join_inputs.ensures.grown.grown rs ds c.join_inputs.new.records (c.in_ok-join_inputs.ensures.known was more is rs ds known)))

pub returns-clause-beside : goal.returns-clause-beside
returns-clause-beside c = record {
  logs = ap (λ (r : Records). r.logs) c.grow.ensures.records ∙ c.join_inputs.ensures.logs;
  tick = c.grow.ensures.beside.tick;
  starts = c.grow.ensures.beside.starts;
  failed = c.grow.ensures.beside.failed;
}

pub returns-clause-stays : goal.returns-clause-stays
returns-clause-stays c = subst (λ (of : Graph). HasGrownAt (numbers_in c.args.before.now.edges.items) c.args.self.now.graph of) (sym {A = Graph} c.grow.ensures.graph) c.join_inputs.ensures.grown

pub returns-clause-answers : goal.returns-clause-answers
returns-clause-answers c = c.in_ok-grow.ensures.answers
