-- Where nothing was built yet.
use Rattle.std.proofs.Common.{◌≡◌, inr, ℕ, List, [], Option, Some, None, sym, ◌∙◌, ap, subst}
use Rattle.model.specs.declared.event.Moment.{Moment}
use Rattle.model.specs.declared.graph.Edge.{Edge}
use Rattle.model.specs.Faithful.{IsFaithfulStore}
use Rattle.model.specs.Records.{deps_in_force, in_force, read_log, store_in}
use Rattle.model.specs.World.{File, World, content_of, file_at, view_of}
use Rattle.seen_law.specs.Retold.{told_file}
use Rattle.seen_builds.specs.From.{telling_in}
use Rattle.seen_builds.specs.Fresh.{BeginsFresh, FreshIsMet}
use Rattle.seen_builds.specs.Runs.{Conventions, HasLateNumber, OthersCountSoundly, Run, entry_in}
use Rattle.seen_builds.proofs.Beginning.{nowhere}
use Rattle.seen_builds.proofs.Entering.{entry_files}

none_some : {X : Type 0} {x : X} → None ≡ Some x → ⊥
none_some e = cc

module _ (here : Conventions) (edges : List Edge) (first : World) (empty : first.history ≡ []) where
  none_faithful : IsFaithfulStore here.does here.format here.own edges first
  none_faithful = record {
    build_log = λ content is. absurd (none_some (sym (ap (λ (h : List Moment). view_of h here.own.build_log) empty) ∙ is));
    deps_log = λ content is. absurd (none_some (sym (ap (λ (h : List Moment). view_of h here.own.deps_log) empty) ∙ is));
    records = λ o made is. absurd (none_some (sym (ap (λ (h : List Moment). in_force (store_in here.format here.own (view_of h)).records o) empty) ∙ is));
    deps = λ o told is. absurd (none_some (sym (ap (λ (h : List Moment). deps_in_force (store_in here.format here.own (view_of h)).deps o) empty) ∙ is));
    running = λ job o runs makes. ap (λ (h : List Moment). in_force (store_in here.format here.own (view_of h)).records o) empty;
  }

module _ (here : Conventions) (run : Run) (fresh : BeginsFresh here run) where
  counts : OthersCountSoundly here [] run
  counts = record {
    build_log = ap (λ (f : Option File). content_of (told_file (telling_in run.counts).counts None here.own.build_log f)) fresh.build_log;
    deps_log = ap (λ (f : Option File). content_of (told_file (telling_in run.counts).counts None here.own.deps_log f)) fresh.deps_log;
    elsewhere = nowhere (telling_in run.counts) [] run.entry.history;
    files = λ p file is. ∣ inr (λ o made in_record. absurd (none_some in_record)) ∣₁;
    outputs = λ o made in_record. absurd (none_some in_record);
  }

  -- no record is found
  no_log : (log : List ℕ) → file_at run.entry.history log ≡ None → view_of (entry_in run).history log ≡ None
  no_log log none =
      ap (λ (f : Option File). content_of f) (entry_files run log ∙ ap (λ (f : Option File). told_file (telling_in run.counts).counts None log f) none)

  late : HasLateNumber here run
  late = record {
    records = λ o made in_record.
        absurd (none_some (sym (ap (λ (held : Option (List ℕ)). in_force (read_log here.format.records held) o) (no_log here.own.build_log fresh.build_log)) ∙ in_record));
    deps = λ o deps in_record.
        absurd (none_some (sym (ap (λ (held : Option (List ℕ)). deps_in_force (read_log here.format.deps held) o) (no_log here.own.deps_log fresh.deps_log)) ∙ in_record));
  }

pub fresh_law : FreshIsMet
fresh_law here edges first run empty fresh = (
  none_faithful here edges first empty,
  subst (λ (h : List Moment). OthersCountSoundly here h run) (sym empty) (counts here run fresh),
  late here run fresh,
)
