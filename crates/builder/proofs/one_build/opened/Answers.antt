use Rattle.std.proofs.Common.{◌≡◌, List, ℕ, refl, sym, subst}
use Rattle.model.specs.declared.graph.BuildGraph.{BuildGraph}
use Rattle.model.specs.World.{view_of}
use Rattle.model.specs.Graph.{IsMadeOnce}
use Rattle.model.specs.Records.{Store, store_in}
use Rattle.model.specs.SingleBuild.{NamesOther}
use Rattle.theory.proofs.SiteCalls.{cause_then}
use Rattle.theory.proofs.Looks.{looks_then}
use Rattle.graph.specs.declared.graph.Graph.{Graph}
use Rattle.graph.specs.Told.{declared_by}
use Rattle.records.specs.declared.records.Records.{Records}
use Rattle.work.specs.declared.report.Report.{Report}
use Rattle.work.specs.declared.report.Report.TheVariants.{Fault}
use Rattle.model.specs.declared.fault.SiteFault.TheVariants.{Memory}
use Rattle.builder.specs.Build.{Builds, asked_of}
use Rattle.builder.specs.Parts.{BuildsAsked}
use Rattle.builder.specs.Reported.{IsFresh}
use Rattle.builder.specs.Reports.{HasRead, IsConeRecorded, course_of}
use Rattle.builder.proofs.Builds.{builds_fault, builds_memory, builds_uncut, looked_more}
use Rattle.builder.proofs.Opening.{has_read}
use Rattle.builder.proofs.Stages.{refused_by}
use Rattle.builder.proofs.one_build.opened.Goals as goal

-- the logs were not read
pub returns-in_err-records-clause-refused : goal.returns-in_err-records-clause-refused
returns-in_err-records-clause-refused g c =
    let tells = g.S.Texts.tells in
    let graph = declared_by c.args.graph in
    let asked = c.args.asked.now in
    let old = g.S.Texts.world c.args.site.now in
    let read = g.S.Texts.world c.read_records.new.site in
    let says = c.in_err-records.ensures.fault in
    refused_by (λ (r : Report). BuildsAsked tells graph asked old read r) c.in_err-records.field-0.0 c.from_residual.result c.from_residual.ensures.1 (
      graph.edges,
      λ B format own entry depfiles dyndeps reads owned idle looked.
          subst (λ (r : Report). Builds tells B format own graph asked.folder asked.limits asked.given.now asked.targets graph.edges entry read r) (sym {A = Report} says.says)
          (builds_fault tells B format own graph asked.folder asked.limits asked.given.now asked.targets (store_in format own (view_of entry.history)) entry read (λ tell edits. refl) idle
          (looks_then tells entry old read looked.looks c.read_records.ensures.looks) says.fault (cause_then entry old read _ looked.unrefused says.cause)),
    )

pub join_recorded-requires : goal.join_recorded-requires
join_recorded-requires g c = let read = c.in_ok-records.ensures.read in record { known = (read.0, read.1, read.2) }

-- there was no memory for recorded inputs
pub returns-in_err-join_recorded-clause-refused : goal.returns-in_err-join_recorded-clause-refused
returns-in_err-join_recorded-clause-refused g c =
    let tells = g.S.Texts.tells in
    let graph = declared_by c.args.graph in
    let asked = c.args.asked.now in
    let old = g.S.Texts.world c.args.site.now in
    let read = g.S.Texts.world c.read_records.new.site in
    refused_by (λ (r : Report). BuildsAsked tells graph asked old read r) (Fault Memory) c.from_residual-in_err-join_recorded.result c.from_residual-in_err-join_recorded.ensures.1 (
      graph.edges,
      λ B format own entry depfiles dyndeps reads owned idle looked.
          builds_memory tells B format own graph asked.folder asked.limits asked.given.now asked.targets (store_in format own (view_of entry.history)) entry read (λ tell edits. refl) idle
          (looked_more tells entry old read looked c.read_records.ensures.looks c.in_ok-records.ensures.unrefused),
    )

-- the targets have no cone, or there was no memory for what a run changes
pub returns-in_err-state-clause-refused : goal.returns-in_err-state-clause-refused
returns-in_err-state-clause-refused g c =
    let tells = g.S.Texts.tells in
    let asked = c.args.asked.now in
    let graph = c.args.graph in
    let new = c.join_recorded.new.graph in
    let records = c.in_ok-records.records in
    let old = g.S.Texts.world c.args.site.now in
    let read = g.S.Texts.world c.read_records.new.site in
    let were = c.in_ok-records.ensures.read in
    let joined = c.in_ok-join_recorded.ensures were.0 were.1 were.2 c.requires.linked.unrecorded in
    let told = c.in_err-state.field-0.0 in
    refused_by (λ (r : Report). BuildsAsked tells (declared_by graph) asked old read r) told c.from_residual-in_err-state.result c.from_residual-in_err-state.ensures.1 (
      (declared_by new).edges,
      λ B format own entry depfiles dyndeps reads owned idle looked.
          let store : Store = record { records = were.0; deps = were.1 } in
          let has = has_read c.log_begins.ensures tells graph new asked records were.0 were.1 old read c.read_records.ensures.looks c.in_ok-records.ensures.unrefused c.in_ok-records.ensures.build_log c.in_ok-records.ensures.deps_log were.3 joined
          B format own entry depfiles dyndeps reads owned idle looked in
          subst (λ (b : BuildGraph). Builds tells B format own b asked.folder asked.limits asked.given.now asked.targets (declared_by new).edges entry read told) joined.grown.declared
          (builds_uncut tells B format own (declared_by new) asked.folder asked.limits asked.given.now asked.targets store entry read has.found idle
          (record {
            once = subst (λ (b : BuildGraph). IsMadeOnce b.edges) (sym {A = BuildGraph} joined.grown.declared) c.requires.linked.once;
            inputs = subst (λ (b : BuildGraph). (file : List ℕ) → NamesOther b.edges file → ⊥) (sym {A = BuildGraph} joined.grown.declared) c.requires.linked.inputs;
          }) has.looked new refl has.in_use told c.in_err-state.ensures.refused),
    )

pub returns-clause-running : goal.returns-clause-running
returns-clause-running g c = c.in_ok-records.ensures.unrefused.goes_on

pub returns-clause-opened : goal.returns-clause-opened
returns-clause-opened g c =
    let tells = g.S.Texts.tells in
    let asked = c.args.asked.now in
    let new = c.join_recorded.new.graph in
    let read = g.S.Texts.world c.read_records.new.site in
    let were = c.in_ok-records.ensures.read in
    let joined = c.in_ok-join_recorded.ensures were.0 were.1 were.2 c.requires.linked.unrecorded in
    let state = c.in_ok-state.state in
    let at = sym {A = Graph} c.in_ok-state.ensures.graph in
    record {
      same = subst (λ (of : Graph). declared_by of ≡ declared_by c.args.graph) at joined.grown.declared;
      fresh = subst (λ (of : Graph). IsFresh of asked state) at c.in_ok-state.ensures.fresh;
      coned = subst (λ (of : Graph). IsConeRecorded of asked.targets state.cone) at c.in_ok-state.ensures.cone;
      store = record { records = were.0; deps = were.1 };
      read = λ B format own entry depfiles dyndeps reads owned idle looked.
          subst (λ (of : Graph). HasRead tells of asked state.records (course_of B format own (asked_of (declared_by of) asked.folder asked.limits asked.targets) (record { records = were.0; deps = were.1 }) entry) read) at
          (subst (λ (r : Records). HasRead tells new asked r (course_of B format own (asked_of (declared_by new) asked.folder asked.limits asked.targets) (record { records = were.0; deps = were.1 }) entry) read) (sym {A = Records} c.in_ok-state.ensures.records)
          (has_read c.log_begins.ensures tells c.args.graph new asked c.in_ok-records.records were.0 were.1 (g.S.Texts.world c.args.site.now) read c.read_records.ensures.looks c.in_ok-records.ensures.unrefused c.in_ok-records.ensures.build_log c.in_ok-records.ensures.deps_log were.3 joined
          B format own entry depfiles dyndeps reads owned idle looked));
    }

pub returns-clause-known : goal.returns-clause-known
returns-clause-known g c = c.in_ok-state.ensures.known
