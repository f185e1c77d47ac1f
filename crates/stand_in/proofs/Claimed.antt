-- A run goes on with faithful logs, so that its last build is as the headline says.
use Rattle.std.proofs.Common.{◌≡◌, ◌⊎◌, inl, inr, ℕ, Bool, true, false, IsTrue, List, [], sym, ◌∙◌, ap, subst}
use Rattle.std.proofs.lemmas.Bool.{false≢true}
use Rattle.model.specs.declared.act.Act.{Act}
use Rattle.model.specs.declared.event.Event.{Event}
use Rattle.model.specs.declared.graph.Edge.{Edge}
use Rattle.model.specs.declared.outcome.Outcome.{Outcome}
use Rattle.model.specs.Calls.{IsRestart}
use Rattle.model.specs.Faithful.{IsFaithfulStore}
use Rattle.model.specs.Outcome.{Behaviour}
use Rattle.model.specs.Premises.{HaveEnded}
use Rattle.model.specs.Records.{LogFormat, OwnFiles}
use Rattle.model.specs.SingleBuild.{Answer, is_fault}
use Rattle.model.specs.World.{View, World, runs}
use Rattle.theory.proofs.Edits.{nothing_keeps, others_keep, restarted_idle}
use Rattle.manifest.specs.declared.fault.ReadError.{ReadError}
use Rattle.manifest.specs.declared.fault.ReadError.TheVariants as read
use Rattle.builder.specs.Build.{IsBuilt, IsUnread, Says, limits_of}
use Rattle.work.specs.Ends.{unread}
use Rattle.builder.specs.declared.asked.Limits.{Limits}
use Rattle.work.specs.declared.report.Options.{Options}
use Rattle.work.specs.declared.report.Report.{Report}
use Rattle.work.specs.declared.report.Report.TheVariants.{Success}
use Rattle.stand_in.specs.Laws.{AreFaithful, IsBetween, IsBuiltAsClaimed, KeepsFirst, KeepsPrepared, KeepsRecordsEither, KeepsRecordsIn, RunsAreAsClaimed, Way, asked_in, behaviour_in, builds_in}
use Rattle.stand_in.specs.Moves.{IsPrepared, MayBeBuiltFirst, WasBuiltFirst}

-- where no command runs, the edges do not matter
for_others : (B : Behaviour) (format : LogFormat) (own : OwnFiles) (edges others : List Edge) (world : World) → HaveEnded world → IsFaithfulStore B format own edges world → IsFaithfulStore B format own others world
for_others B format own edges others world ended believed = record {
  build_log = believed.build_log;
  deps_log = believed.deps_log;
  records = believed.records;
  deps = believed.deps;
  running = λ job o is makes. absurd (false≢true (sym (ended job) ∙ is));
}

-- a report of success says that there was no fault
no_fault : (edges : List Edge) (given targets : List (List ℕ)) (report : Report) (answer : Answer) (started : ℕ) → report ≡ Success started → Says edges given targets report answer → is_fault answer ≡ false
no_fault edges given targets report answer started is says = ap is_fault (subst (λ (r : Report). Says edges given targets r answer) is says)

-- what was not read has no success
no_success : (error : ReadError) (started : ℕ) → unread error ≡ Success started → ⊥
no_success read.Memory started is = absurd (cc)
no_success (read.Site fault) started is = absurd (cc)
no_success (read.Refused fault) started is = absurd (cc)

module _ (tells : Bool) (outcome : Act → View → Outcome) (way : Way) (tell : IsTrue tells) where
  -- a build that succeeded, and a restart behind it
  built_keeps : {name : List ℕ} {limits : Limits} {given : List (List ℕ)} {old end new : World} {report : Report} (started : ℕ) (built : IsBuilt tells outcome name limits given old end report) → report ≡ Success started → IsRestart tells end new
      → HaveEnded old → AreFaithful outcome way old → KeepsRecordsIn way built → IsBetween way end new → AreFaithful outcome way new
  built_keeps {given = given} {old = old} {end = end} {new = new} {report = report} started built success restart ended faith keeps between =
      let B = behaviour_in outcome way in
      let builds = builds_in way built keeps.0 in
      let edges = (asked_in way built).graph.edges in
      let idle : HaveEnded end = builds.build.idle (no_fault built.graph.edges given built.targets report builds.answer started success builds.said) in
      let stays : IsFaithfulStore B way.format way.own edges end = builds.headline.stays tell (for_others B way.format way.own [] edges old ended faith) keeps.1 in
      others_keep B way.format way.own [] end new (λ job is. absurd (false≢true (sym (idle job) ∙ is))) (restart.history tell) (restarted_idle tells end new restart) between
      (for_others B way.format way.own edges [] end idle stays)

  first_keeps : {options : Options} {old new : World} (first : MayBeBuiltFirst tells outcome options old new) → HaveEnded old → AreFaithful outcome way old → KeepsFirst way first → AreFaithful outcome way new × HaveEnded new
  first_keeps (inl same) ended faith keeps = (subst (λ (w : World). AreFaithful outcome way w) (sym same) faith, subst (λ (w : World). HaveEnded w) (sym same) ended)
  first_keeps {options = options} {old = old} {new = new} (inr first) ended faith keeps = (
    by first.built.1 keeps.0,
    restarted_idle tells first.end new first.restarted,
  )
    where
      by : (built : IsUnread tells options.file old first.end first.report ⊎ IsBuilt tells outcome options.file (limits_of options) first.built.0 old first.end first.report) → KeepsRecordsEither way built → AreFaithful outcome way new
      by (inl none) kept = absurd (no_success none.error first.success.0 (sym none.is ∙ first.success.1))
      by (inr built) kept = built_keeps first.success.0 built first.success.1 first.restarted ended faith kept keeps.1

  prepared_keeps : {options : Options} {old entry : World} (prepared : IsPrepared tells outcome options old entry) → HaveEnded old → AreFaithful outcome way old → KeepsPrepared way prepared → AreFaithful outcome way entry × HaveEnded entry
  prepared_keeps {old = old} {entry = entry} prepared ended faith keeps =
      let B = behaviour_in outcome way in
      let at_entry = nothing_keeps B way.format way.own [] old prepared.entry faith prepared.before.events ended keeps.before (prepared.before.history tell) in
      let after = first_keeps prepared.built (λ job. ap (λ (l : List Event). runs job l) prepared.before.events ∙ ended job) at_entry keeps.built in (
        nothing_keeps B way.format way.own [] prepared.first entry after.0 prepared.edits.events after.1 keeps.edits (prepared.edits.history tell),
        λ job. ap (λ (l : List Event). runs job l) prepared.edits.events ∙ after.1 job,
      )

  as_claimed : {name : List ℕ} {limits : Limits} {given : List (List ℕ)} {old new : World} {report : Report} (built : IsBuilt tells outcome name limits given old new report) → HaveEnded old → AreFaithful outcome way old → IsBuiltAsClaimed way built
  as_claimed {old = old} built ended faith = λ fits keeps. (
    (builds_in way built fits).headline.stale tell keeps.files.kept keeps.files.recorded_apart keeps.files.dyndep.inputs,
    λ success. (builds_in way built fits).headline.clean tell (for_others (behaviour_in outcome way) way.format way.own [] (asked_in way built).graph.edges old ended faith) keeps success,
  )

pub runs_are_as_claimed : RunsAreAsClaimed
runs_are_as_claimed tells outcome options targets old entry new report way tell ended faith prepared keeps =
    let after = prepared_keeps tells outcome way tell prepared ended faith keeps in
    (after.0, λ built. as_claimed tells outcome way tell built after.1 after.0)
