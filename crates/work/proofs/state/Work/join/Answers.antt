use Rattle.std.proofs.Common.{ℕ, length, take, map, refl, sym, ◌∙◌, ap, subst}
use Rattle.graph.specs.declared.graph.Graph.{Graph}
use Rattle.graph.specs.Extended.{addition_of}
use Rattle.records.specs.Known.{AreStillKnown}
use Rattle.graph.specs.LoadedEdges.{numbers_in}
use Rattle.work.proofs.FileJoins.{has_grown_by, may_take_back, may_over, known_shrunk}
use Rattle.work.proofs.Results.{on_err}
use Rattle.work.proofs.StopCases.{refused_then}
use Rattle.work.proofs.state.Work.join.Goals as goal

-- nothing was changed yet
pub returns-in_err-before-clause-undone : goal.returns-in_err-before-clause-undone
returns-in_err-before-clause-undone c = on_err c.from_residual.result (record {
  graph_is = c.in_err-before.ensures.err;
  state = record { cone = refl; plan = refl; looks = refl; logs = refl; tick = refl; starts = refl; failed = refl };
  known = λ rs ds known. known;
})

pub join_parts-requires-clause-loaded : goal.join_parts-requires-clause-loaded
join_parts-requires-clause-loaded c =
    let may = c.requires.may in (
      may.0,
      may.1,
      c.args.self.now.graph,
      record { file = c.args.file; additions = map addition_of c.args.additions.now; may = may_over c.extend.new.graph may.2; undoes = c.in_ok-before.ensures.before; has = c.in_ok-before.ensures.loaded; alone = c.in_ok-before.ensures.alone },
    )

pub take_back-requires : goal.take_back-requires
take_back-requires c = (c.args.self.now.graph, (c.extend.new.graph, may_take_back c.requires.may.2 c.in_ok-before.ensures.before c.in_ok-before.ensures.loaded c.in-Err.ensures.grown))

pub returns-in-Ok-clause-goes : goal.returns-in-Ok-clause-goes
returns-in-Ok-clause-goes c asked store may =
    c.in-Ok.ensures.goes asked store c.args.self.now.graph
    (record { file = c.args.file; additions = map addition_of c.args.additions.now; may = may_over c.extend.new.graph may; undoes = c.in_ok-before.ensures.before; has = c.in_ok-before.ensures.loaded; alone = c.in_ok-before.ensures.alone })

pub returns-in-Ok-clause-known : goal.returns-in-Ok-clause-known
returns-in-Ok-clause-known c rs ds known =
    let has_it = c.in_ok-before.ensures.loaded in
    c.in-Ok.ensures.known c.args.self.now.graph has_it.added has_it.paths rs ds known

pub returns-in-Ok-clause-logs : goal.returns-in-Ok-clause-logs
returns-in-Ok-clause-logs c = c.join_parts.ensures.beside.logs

-- all is undone
pub returns-in-Err-clause-undone : goal.returns-in-Err-clause-undone
returns-in-Err-clause-undone c =
    let may = c.requires.may.2 in
    let undoes = c.in_ok-before.ensures.before in
    let has_it = c.in_ok-before.ensures.loaded in
    let back = c.take_back.ensures c.args.self.now.graph c.extend.new.graph (may_take_back may undoes has_it c.in-Err.ensures.grown) in
    let now = c.join_parts.new.self in
    record {
      graph_is = back;
      state = record {
        cone = c.in-Err.ensures.cone;
        plan = c.in-Err.ensures.plan;
        looks = c.shrink-in-Err.ensures
            ∙ (ap (λ (g : Graph). take (length g.manifest.paths) now.looks.seen.items) back
            ∙ (ap (λ (n : ℕ). take n now.looks.seen.items) (sym may.seen)
            ∙ c.in-Err.ensures.looks));
        logs = c.shrink.ensures.logs ∙ c.join_parts.ensures.beside.logs;
        tick = c.join_parts.ensures.beside.tick;
        starts = c.join_parts.ensures.beside.starts;
        failed = c.join_parts.ensures.beside.failed;
      };
      known = known_shrunk c.args.self.now.graph has_it.added c.extend.new.graph has_it.paths c.args.self.now.records now.records c.shrink.new.self c.in-Err.ensures.kept
          (c.shrink.ensures.logs ∙ c.join_parts.ensures.beside.logs)
          (c.shrink.ensures.places ∙ ap (λ (g : Graph). take (length g.manifest.paths) now.records.places.items) back)
          (c.shrink.ensures.deps_places ∙ ap (λ (g : Graph). take (length g.manifest.paths) now.records.deps_places.items) back)
          (subst (λ (g : Graph). AreStillKnown g now.records c.shrink.new.self) back c.shrink.ensures.known);
    }

pub returns-in-Err-clause-cause : goal.returns-in-Err-clause-cause
returns-in-Err-clause-cause c =
    refused_then c.in-Err.stop c.in-Err.ensures.cause (λ refusal cause asked store may.
    cause asked store c.args.self.now.graph (record { file = c.args.file; additions = map addition_of c.args.additions.now; may = may_over c.extend.new.graph may; undoes = c.in_ok-before.ensures.before; has = c.in_ok-before.ensures.loaded; alone = c.in_ok-before.ensures.alone }))

pub returns-in-Ok-clause-room : goal.returns-in-Ok-clause-room
returns-in-Ok-clause-room c =
    let room = c.in-Ok.ensures.room in
    record { fits = room.fits; looks = room.looks; changed = room.changed; tick = room.tick; starts = room.starts; failed = room.failed }

pub returns-in-Ok-clause-left : goal.returns-in-Ok-clause-left
returns-in-Ok-clause-left c = record {
  edges = numbers_in c.in_ok-before.before.edges.items;
  grown = has_grown_by c.requires.may.2 c.in_ok-before.ensures.before c.in_ok-before.ensures.loaded c.files_stand.ensures c.in-Ok.ensures.stays;
  forgets = c.in-Ok.ensures.answers;
  notes = λ on.
      let noted = c.in-Ok.ensures.notes on in
      record { cone = noted.cone; known = noted.known; noted = noted.noted };
}

pub join_parts-requires-clause-places : goal.join_parts-requires-clause-places
join_parts-requires-clause-places c = c.requires.places
