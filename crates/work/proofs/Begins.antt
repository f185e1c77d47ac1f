-- An edge is taken in hand, and the log says that it is begun.
use Rattle.std.proofs.Common.{◌≡◌, ◌≢◌, ℕ, suc, Bool, true, List, [], Some, None, inl, inr, refl, sym, ap, subst}
use Rattle.model.specs.declared.graph.BuildGraph.{BuildGraph}
use Rattle.model.specs.declared.graph.Edge.{Edge}
use Rattle.model.specs.World.{World}
use Rattle.model.specs.Calls.{OnlyLooks}
use Rattle.model.specs.Graph.{edge_at, outputs, IsCommand, IsMadeOnce}
use Rattle.model.specs.Outcome.{Behaviour}
use Rattle.model.specs.Records.{LogFormat, OwnFiles, Store}
use Rattle.model.specs.Schedule.{Step as Done}
use Rattle.theory.specs.Writes.{WritesAt}
use Rattle.work.specs.declared.display.Display.{Display}
use Rattle.graph.specs.declared.graph.Graph.{Graph}
use Rattle.graph.specs.Told.{declared_by}
use Rattle.plan.specs.declared.step.Step.TheVariants.{Start}
use Rattle.plan.specs.Planned.{IsNext}
use Rattle.records.specs.declared.records.Records.{Records}
use Rattle.records.specs.Logging.{AreSameLogs, IsLogging, IsLoggedStill, NoneInForce}
use Rattle.records.specs.Laws.{LogStays}
use Rattle.work.specs.declared.state.Work.{Work}
use Rattle.work.specs.Course.{Course, goes_on, Suits, edges_of, IsOn}
use Rattle.work.specs.Going.{IsSaid, IsCut}
use Rattle.work.specs.Starting.{IsBegun}
use Rattle.work.proofs.Onward.{said_next}
use Rattle.work.proofs.Keeping.{stale_is_command, looks_carried, on_looks, on_hand, on_log, log_carried, build_log_writes, cut_free, cut_met}

module _ (tells : Bool) (course : Course) (graph : Graph) (suits : Suits course graph) where
  pub declared_once : IsMadeOnce (declared_by graph).edges
  declared_once = subst (λ (b : BuildGraph). IsMadeOnce b.edges) suits.same suits.once

  pub declared_some : (i : ℕ) → IsCommand (declared_by graph).edges i → outputs (edge_at (declared_by graph).edges i) ≢ []
  declared_some = subst (λ (b : BuildGraph). (i : ℕ) → IsCommand b.edges i → outputs (edge_at b.edges i) ≢ []) suits.same suits.some

  same_edges : edges_of course ≡ (declared_by graph).edges
  same_edges = ap (λ (b : BuildGraph). b.edges) suits.same

  module _ (stays : LogStays) (state : Work) (now : World) (e : ℕ) (on : IsOn tells course graph None state now) (goes : goes_on course ≡ true) (next : IsNext state.plan (Start e)) where
    said : IsSaid course graph on.steps (Start e)
    said = said_next course graph state.plan (Start e) on.steps goes on.planned on.taken next

    -- it is a command of the graph
    pub next_command : IsCommand (declared_by graph).edges (suc e)
    next_command = subst (λ (b : BuildGraph). IsCommand b.edges (suc e)) suits.same (stale_is_command tells course graph on.steps None now on.carried (suc e) said.lawful.1.stale)

    -- a fault before anything is written
    pub cut_looking : (new : World) → OnlyLooks tells now new → IsCut tells course graph state.plan new
    cut_looking new looks = cut_free tells course graph state.plan new on.steps on.planned on.taken on.since (looks_carried tells course graph stays None state now new on looks)

    module _ (mid new : World) (looks : OnlyLooks tells now mid) (writes : WritesAt tells state.records.logs.build_log.path mid new) where
      abbrev pub on_mid : IsOn tells course graph (Some (suc e)) state mid
      on_mid = on_hand tells course graph state mid (suc e) (on_looks tells course graph stays None state now mid on suits.once looks)

      log_writes : WritesAt tells course.own.build_log mid new
      log_writes = build_log_writes tells course graph on.steps (Some (suc e)) mid mid new state.records.logs on_mid.logging writes

      -- the logs over the edges that the graph declares
      declared_logging : IsLogging tells course.behaviour course.format course.own (declared_by graph).edges on.steps (Some (suc e)) course.store course.entry mid state.records.logs
      declared_logging = subst (λ (edges : List Edge). IsLogging tells course.behaviour course.format course.own edges on.steps (Some (suc e)) course.store course.entry mid state.records.logs) same_edges on_mid.logging

      -- the record could not be put there
      pub cut_beginning : ((B : Behaviour) (format : LogFormat) (own : OwnFiles) (steps : List Done) (entry : Store) (first : World)
          → IsLogging tells B format own (declared_by graph).edges steps (Some (suc e)) entry first mid state.records.logs → IsLoggedStill tells B format own (declared_by graph).edges steps (Some (suc e)) entry first new)
          → IsCut tells course graph state.plan new
      cut_beginning logged =
          cut_met tells course graph state.plan new on.steps (suc e) (record { under_way = inr (said.lawful.0, said.lawful.1); stale = said.lawful.1.stale; taken_in = inl said.lawful.1.once }) on.planned on.taken on.since
          (log_carried tells course graph (Some (suc e)) (Some (suc e)) state mid new on_mid course.own.build_log suits.log_owned log_writes
          (subst (λ (edges : List Edge). IsLoggedStill tells course.behaviour course.format course.own edges on.steps (Some (suc e)) course.store course.entry new) (sym same_edges)
          (logged course.behaviour course.format course.own on.steps course.store course.entry declared_logging)))

      -- it stands there
      pub begun_now : (records : Records) (display : Display) → AreSameLogs state.records.logs records.logs → records.places.items ≡ state.records.places.items → records.deps_places.items ≡ state.records.deps_places.items
          → ((B : Behaviour) (format : LogFormat) (own : OwnFiles) (steps : List Done) (entry : Store) (first : World)
          → IsLogging tells B format own (declared_by graph).edges steps (Some (suc e)) entry first mid state.records.logs
          → IsLogging tells B format own (declared_by graph).edges steps (Some (suc e)) entry first new records.logs × NoneInForce tells format own (declared_by graph).edges (suc e) first new)
          → IsBegun tells course graph (suc e) (record { alloc = state.alloc; graph = state.graph; cone = state.cone; plan = state.plan; looks = state.looks; records = records; display = display; tick = state.tick; due = state.due; starts = state.starts; failed = state.failed }) new
      begun_now records display same places deps_places begun =
          let told = begun course.behaviour course.format course.own on.steps course.store course.entry declared_logging in
          let logging = subst (λ (edges : List Edge). IsLogging tells course.behaviour course.format course.own edges on.steps (Some (suc e)) course.store course.entry new records.logs) (sym same_edges) told.0 in
          let after = on_log tells course graph (Some (suc e)) (Some (suc e)) state mid new on_mid course.own.build_log suits.log_owned log_writes suits.once records same places deps_places logging refl in
          record {
            on = record {
              steps = on.steps;
              planned = on.planned;
              taken = on.taken;
              since = on.since;
              carried = after.carried;
              logging = after.logging;
              told = record { records = after.told.records; deps = after.told.deps; known = after.told.known; same = after.told.same };
              seen = after.seen;
              anew = after.anew;
              before = after.before;
              started = after.started;
              removed = after.removed;
              room = record { looks = on.room.looks; starts = on.room.starts };
              cone = on.cone;
              ticking = on.ticking;
              noted = on.noted;
            };
            next = said.lawful;
            unloaded = said.loads;
            goes = said.goes;
            begun = subst (λ (edges : List Edge). NoneInForce tells course.format course.own edges (suc e) course.entry new) (sym same_edges) told.1;
          }
