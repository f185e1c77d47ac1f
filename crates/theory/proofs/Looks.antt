-- Calls that only look, before the first judgement.
use Rattle.std.proofs.Common.{◌≡◌, inl, inr, ℕ, Bool, false, bytes_eq, IsTrue, List, [], ◌∷◌, ◌++◌, Option, refl, sym, ◌∙◌, ap, subst, append_assoc}
use Rattle.std.specs.List.{AllByRecursion}
use Rattle.std.proofs.lemmas.List.{append-nil}
use Rattle.std.proofs.lemmas.Bool.{false≢true, cases_Bool, false_from_ne_true}
use Rattle.model.specs.declared.graph.Edge.{Edge}
use Rattle.model.specs.declared.event.Event.{Event}
use Rattle.model.specs.declared.event.Event.TheVariants.{Start}
use Rattle.model.specs.declared.event.Moment.{Moment}
use Rattle.model.specs.declared.event.Moment.TheVariants.{Wrote, Happened}
use Rattle.model.specs.declared.event.Writer.TheVariants.{Program, Command, Someone}
use Rattle.model.specs.World.{World, file_at, content_of, view_of, runs, IsRunning, IsIdle}
use Rattle.model.specs.Calls.{IsByOthers, AllByOthers, OthersWrote, OnlyLooks, Sees}
use Rattle.model.specs.Records.{OwnFiles}
use Rattle.model.specs.Premises.{LogsAreLeft, FilesAreKept, OnlyFreeIsEdited, NothingIsEdited, none_free, KeepToOutputs, AllSince, IsNoEdit, IsWithinEdge}
use Rattle.model.specs.Schedule.{Step, Judged}
use Rattle.model.specs.SingleBuild.{IsOfBuild, IsFrame}
use Rattle.theory.proofs.Lists.{same_bytes, same_rest, all_append, all_parts}
use Rattle.theory.proofs.Files.{IsElsewhere, file_stays}

-- ---- calls that only look

pub looks_nothing : (tells : Bool) (world : World) → OnlyLooks tells world world
looks_nothing tells world = record { events = refl; ticked = refl; at_start = refl; history = λ tell. record { more = []; grows = sym (append-nil world.history); all = tt } }

-- one such call after another
pub looks_then : (tells : Bool) (old mid new : World) → OnlyLooks tells old mid → OnlyLooks tells mid new → OnlyLooks tells old new
looks_then tells old mid new a b = record {
  events = b.events ∙ a.events;
  ticked = b.ticked ∙ a.ticked;
  at_start = b.at_start ∙ a.at_start;
  history = λ tell.
      let first = a.history tell in
      let second = b.history tell in
      record {
        more = first.more ++ second.more;
        grows = second.grows ∙ (ap (λ (l : List Moment). l ++ second.more) first.grows ∙ append_assoc old.history first.more second.more);
        all = all_append (IsByOthers (IsRunning old.events)) first.more second.more first.all (subst (λ (l : List Event). AllByOthers (IsRunning l) second.more) a.events second.all);
      };
}

-- ---- before the first judgement

module _ (tells : Bool) (own : OwnFiles) (edges : List Edge) (old new : World) (idle : IsIdle old.events) (looks : OnlyLooks tells old new) where
  by_someone : (ms : List Moment) → AllByOthers (IsRunning old.events) ms → AllByRecursion (IsOfBuild own edges []) ms
  by_someone [] a = tt
  by_someone (Wrote Program path content stamp ∷ ms) a = absurd a.0
  by_someone (Wrote (Command job) path content stamp ∷ ms) a = absurd (false≢true (sym (idle job) ∙ a.0))
  by_someone (Wrote Someone path content stamp ∷ ms) a = (tt, by_someone ms a.1)
  by_someone (Happened event ∷ ms) a = absurd a.0

  pub untouched : (free : List ℕ → Bool) (p : List ℕ) → free p ≡ false → (ms : List Moment) → AllByOthers (IsRunning old.events) ms → AllByRecursion (IsNoEdit free) ms → AllByRecursion (IsElsewhere p) ms
  untouched free p bound [] a edits = tt
  untouched free p bound (Wrote Program path content stamp ∷ ms) a edits = absurd a.0
  untouched free p bound (Wrote (Command job) path content stamp ∷ ms) a edits = absurd (false≢true (sym (idle job) ∙ a.0))
  untouched free p bound (Wrote Someone path content stamp ∷ ms) a edits =
      (false_from_ne_true (bytes_eq path p) (λ here. false≢true (sym bound ∙ (ap free (sym (same_bytes path p here)) ∙ edits.0))), untouched free p bound ms a.1 edits.1)
  untouched free p bound (Happened event ∷ ms) a edits = absurd a.0

  none_happened : (ms : List Moment) → AllByOthers (IsRunning old.events) ms → (before : List Moment) (event : Event) (after : List Moment) → ms ≡ before ++ Happened event ∷ after → ⊥
  none_happened ms a before event after splits =
      (all_parts (IsByOthers (IsRunning old.events)) before (Happened event ∷ after) (subst (λ (l : List Moment). AllByOthers (IsRunning old.events) l) splits a)).1.0

  none_judged : (before : List Step) (step : Step) (after : List Step) → [] ≡ before ++ step ∷ after → ⊥
  none_judged [] step after is = cc
  none_judged (s ∷ before) step after is = cc

  -- a build that has only looked, on a site that was idle, changes nothing
  pub frame_of_looks : IsTrue tells → IsFrame own edges [] old.history new.history
  frame_of_looks tell = record {
    more = call.more;
    grows = call.grows;
    writes = by_someone call.more call.all;
    unchanged = λ free within edits p. elim (cases_Bool (free p)) [
      | inl is_free ↦ inr (inr is_free)
      | inr bound ↦ inl (ap (λ (h : List Moment). file_at h p) call.grows ∙ file_stays p old.history call.more (untouched free p bound call.more call.all (edits call.more call.grows)))
    ];
    until_start = λ files i stamp act o before after splits is_output. absurd (none_happened call.more call.all before (Start i act stamp) after splits);
    until_judged = λ files before after i out_of_date splits. absurd (none_judged before (Judged i out_of_date) after splits);
    at_start = λ files i stamp act before after splits. absurd (none_happened call.more call.all before (Start i act stamp) after splits);
  }
    where
      call : OthersWrote (IsRunning old.events) old.history new.history
      call = looks.history tell

-- ---- on an idle site that nobody edits

-- what is kept up to the exit is kept up to each point before it
all_before : (kind : Moment → Type 0) (old mid new later : List Moment) → new ≡ mid ++ later → AllSince kind old new → AllSince kind old mid
all_before kind old mid new later grows all more is =
    (all_parts kind more later (all (more ++ later) (grows ∙ (ap (λ (l : List Moment). l ++ later) is ∙ append_assoc old more later)))).0

pub edits_before : (free : List ℕ → Bool) (old mid new later : List Moment) → new ≡ mid ++ later → OnlyFreeIsEdited free old new → OnlyFreeIsEdited free old mid
edits_before free old mid new later grows edits = all_before (IsNoEdit free) old mid new later grows edits

pub commands_before : (free : List ℕ → Bool) (edges : List Edge) (old mid new later : List Moment) → new ≡ mid ++ later → KeepToOutputs free edges old new → KeepToOutputs free edges old mid
commands_before free edges old mid new later grows commands = all_before (IsWithinEdge free edges) old mid new later grows commands

abbrev pub kept_before : (own : OwnFiles) (edges : List Edge) (old mid new later : List Moment) → new ≡ mid ++ later → FilesAreKept own edges old new → FilesAreKept own edges old mid
kept_before own edges old mid new later grows kept =
    record {
      free = kept.free;
      free_apart = kept.free_apart;
      commands = commands_before kept.free edges old mid new later grows kept.commands;
      own_files = kept.own_files;
      edits = edits_before kept.free old mid new later grows kept.edits;
    }

-- others leave the logs, where files are kept
pub logs_left : (own : OwnFiles) (edges : List Edge) (old new : List Moment) → FilesAreKept own edges old new → LogsAreLeft own old new
logs_left own edges old new kept = record {
  free = kept.free;
  build_log = kept.free_apart.set own.build_log (kept.own_files.within own.build_log kept.own_files.build_log);
  deps_log = kept.free_apart.set own.deps_log (kept.own_files.within own.deps_log kept.own_files.deps_log);
  edits = kept.edits;
}

-- and where nobody edits
pub logs_unedited : (own : OwnFiles) (old new : List Moment) → NothingIsEdited old new → LogsAreLeft own old new
logs_unedited own old new edits = record { free = none_free; build_log = refl; deps_log = refl; edits = edits }

pub none_wrote : (running : ℕ → Type 0) (ms : List Moment) → ((job : ℕ) → running job → ⊥) → AllByOthers running ms → AllByRecursion (IsNoEdit none_free) ms → ms ≡ []
none_wrote running [] idle all edits = refl
none_wrote running (Wrote Program path content stamp ∷ ms) idle all edits = absurd all.0
none_wrote running (Wrote (Command job) path content stamp ∷ ms) idle all edits = absurd (idle job all.0)
none_wrote running (Wrote Someone path content stamp ∷ ms) idle all edits = absurd (false≢true edits.0)
none_wrote running (Happened event ∷ ms) idle all edits = absurd all.0

-- a call that only looks leaves each file as it is that others may not write
pub looks_keep_file : (tells : Bool) (own : OwnFiles) (edges : List Edge) (old new : World) → IsIdle old.events → OnlyLooks tells old new → IsTrue tells → (free : List ℕ → Bool) → OnlyFreeIsEdited free old.history new.history
    → (p : List ℕ) → free p ≡ false → file_at new.history p ≡ file_at old.history p
looks_keep_file tells own edges old new idle looks tell free edits p bound =
    let call = looks.history tell in
    ap (λ (h : List Moment). file_at h p) call.grows ∙ file_stays p old.history call.more (untouched tells own edges old new idle looks free p bound call.more call.all (edits call.more call.grows))

-- what was seen of such a file at some moment of a call that only looks is what it held at the entry
pub looks_saw : (tells : Bool) (own : OwnFiles) (edges : List Edge) (first old new : World) → IsIdle first.events → OnlyLooks tells first old → OnlyLooks tells old new → IsTrue tells
    → (free : List ℕ → Bool) → OnlyFreeIsEdited free first.history new.history → (p : List ℕ) → free p ≡ false
    → (content : Option (List ℕ)) → Sees (λ history. content_of (file_at history p)) content old.history new.history → content ≡ view_of first.history p
looks_saw tells own edges first old new idle one two tell free edits p bound content seen =
    seen.is
    ∙ ap content_of (file_stays p old.history seen.earlier elsewhere
    ∙ looks_keep_file tells own edges first old idle one tell free (edits_before free first.history old.history new.history call.more call.grows edits) p bound)
  where
    before : OthersWrote (IsRunning first.events) first.history old.history
    before = one.history tell

    call : OthersWrote (IsRunning old.events) old.history new.history
    call = two.history tell

    none_runs : IsIdle old.events
    none_runs job = subst (λ (es : List Event). runs job es ≡ false) (sym one.events) (idle job)

    of_call : AllByRecursion (IsNoEdit free) call.more
    of_call = (all_parts (IsNoEdit free) before.more call.more
        (edits (before.more ++ call.more) (call.grows ∙ (ap (λ (h : List Moment). h ++ call.more) before.grows ∙ append_assoc first.history before.more call.more)))).1

    same : call.more ≡ seen.earlier ++ seen.later
    same = same_rest old.history call.more (seen.earlier ++ seen.later) (sym call.grows ∙ seen.grows)

    elsewhere : AllByRecursion (IsElsewhere p) seen.earlier
    elsewhere = (all_parts (IsElsewhere p) seen.earlier seen.later (subst (λ (ms : List Moment). AllByRecursion (IsElsewhere p) ms) same
        (untouched tells own edges old new none_runs two free p bound call.more call.all of_call))).0
