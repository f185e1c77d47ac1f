-- Each call leaves the depfiles and response files of running commands alone.
use Rattle.std.proofs.Common.{◌≡◌, ◌≢◌, inl, inr, ℕ, true, false, List, [], ◌∷◌, ◌++◌, Option, sym, ◌∙◌, ap, subst, append_assoc}
use Rattle.std.specs.List.{AllByRecursion}
use Rattle.std.proofs.lemmas.List.{append-nil}
use Rattle.std.proofs.lemmas.Bool.{false≢true, false_from_ne_true}
use Rattle.model.specs.declared.event.Event.{Event}
use Rattle.model.specs.declared.event.Moment.{Moment}
use Rattle.model.specs.declared.event.Moment.TheVariants.{Wrote, Happened}
use Rattle.model.specs.declared.event.Writer.TheVariants.{Program, Command, Someone}
use Rattle.model.specs.declared.graph.Edge.{Edge}
use Rattle.model.specs.World.{runs, runs_from, IsIdle, events_in}
use Rattle.model.specs.Calls.{IsByOthers, AllByOthers, OthersWrote, Adds}
use Rattle.model.specs.Graph.{has_number, edge_at, IsCommand}
use Rattle.model.specs.Records.{OwnFiles}
use Rattle.model.specs.Schedule.{Step, started_in, ended_in, running_in}
use Rattle.model.specs.Premises.{LiesIn, OwnFilesApart}
use Rattle.theory.proofs.Lists.{same_rest, all_parts, all_append, all_weaker, place_in}
use Rattle.theory.proofs.Events.{runs_from-append}
use Rattle.theory.proofs.Moments.{events_in-append}
use Rattle.theory.proofs.Steps.{running_parts}
use Rattle.theory.specs.Writes.{IsAtOrByOthers, GrewAt}
use Rattle.theory.specs.Alone.{IsNoFileOf, AreLeftAlone}
use Rattle.theory.proofs.Writing.{no_events_at}

-- ---- which commands run

-- on a site that was idle, those that its later events say
pub runs_idle : (j : ℕ) (old events : List Event) → IsIdle old → runs j (old ++ events) ≡ runs j events
runs_idle j old events idle = runs_from-append j false old events ∙ ap (λ b. runs_from j b events) (idle j)

-- one that was not started does not run
pub rests_unstarted : (steps : List Step) (i : ℕ) → has_number (started_in steps) i ≡ false → has_number (running_in steps) i ≡ false
rests_unstarted steps i unstarted = false_from_ne_true (has_number (running_in steps) i) (λ running. false≢true (sym unstarted ∙ (running_parts steps i running).0))

-- nor does one that has ended
pub rests_ended : (steps : List Step) (i : ℕ) → has_number (ended_in steps) i ≡ true → has_number (running_in steps) i ≡ false
rests_ended steps i ended = false_from_ne_true (has_number (running_in steps) i) (λ running. false≢true (sym (running_parts steps i running).1 ∙ ended))

-- ---- moments without a write of the program

abbrev IsNoOwn : Moment → Type 0
IsNoOwn (Wrote Program path content stamp) = ⊥
IsNoOwn (Wrote (Command job) path content stamp) = Unit {0}
IsNoOwn (Wrote Someone path content stamp) = Unit {0}
IsNoOwn (Happened event) = Unit {0}

no_own : (running : ℕ → Type 0) (ms : List Moment) → AllByOthers running ms → AllByRecursion IsNoOwn ms
no_own running ms all = all_weaker (IsByOthers running) IsNoOwn weaker ms all
  where
    weaker : (m : Moment) → IsByOthers running m → IsNoOwn m
    weaker (Wrote Program path content stamp) h = absurd h
    weaker (Wrote (Command job) path content stamp) h = tt
    weaker (Wrote Someone path content stamp) h = tt
    weaker (Happened event) h = absurd h

-- ---- the history grows

module _ (edges : List Edge) (old : List Moment) where
  pub alone_nothing : AreLeftAlone edges old old
  alone_nothing before after path content stamp is =
      absurd (nothing before (same_rest old [] (before ++ Wrote Program path content stamp ∷ after) (append-nil old ∙ is)))
    where
      nothing : (xs : List Moment) → [] ≡ xs ++ Wrote Program path content stamp ∷ after → ⊥
      nothing [] is = cc
      nothing (x ∷ xs) is = cc

  module _ (now so_far new : List Moment) (was : now ≡ old ++ so_far) where
    -- what the program wrote since then is no file of a command that ran
    alone_on : (ms : List Moment) → new ≡ now ++ ms
        → ((before after : List Moment) (path : List ℕ) (content : Option (List ℕ)) (stamp : ℕ) → ms ≡ before ++ Wrote Program path content stamp ∷ after
        → (i : ℕ) → runs i (events_in (so_far ++ before)) ≡ true → IsNoFileOf edges i path)
        → AreLeftAlone edges old now → AreLeftAlone edges old new
    alone_on ms grows each alone before after path content stamp is i ran =
        elim (place_in so_far ms before after (Wrote Program path content stamp) all) [
          | inl (rest, first) ↦ alone before rest path content stamp (was ∙ ap (λ (l : List Moment). old ++ l) first) i ran
          | inr (rest, first, second) ↦ each rest after path content stamp second i (subst (λ (l : List Moment). runs i (events_in l) ≡ true) first ran)
        ]
      where
        all : so_far ++ ms ≡ before ++ Wrote Program path content stamp ∷ after
        all = same_rest old (so_far ++ ms) (before ++ Wrote Program path content stamp ∷ after)
            (sym (append_assoc old so_far ms) ∙ (ap (λ (l : List Moment). l ++ ms) (sym was) ∙ (sym grows ∙ is)))

    alone_without : (ms : List Moment) → new ≡ now ++ ms → AllByRecursion IsNoOwn ms → AreLeftAlone edges old now → AreLeftAlone edges old new
    alone_without ms grows none = alone_on ms grows
        (λ before after path content stamp is i ran. absurd (all_parts IsNoOwn before (Wrote Program path content stamp ∷ after) (subst (λ (l : List Moment). AllByRecursion IsNoOwn l) is none)).1.0)

    -- others write while a call only looks
    pub alone_looks : (running : ℕ → Type 0) → OthersWrote running now new → AreLeftAlone edges old now → AreLeftAlone edges old new
    alone_looks running wrote = alone_without wrote.more wrote.grows (no_own running wrote.more wrote.all)

    -- a command is started or taken in
    pub alone_adds : (before after : ℕ → Type 0) (event : Event) → Adds before after (Happened event) now new → AreLeftAlone edges old now → AreLeftAlone edges old new
    alone_adds before after event adds = alone_without (adds.earlier ++ Happened event ∷ adds.later) adds.grows
        (all_append IsNoOwn adds.earlier (Happened event ∷ adds.later) (no_own before adds.earlier adds.all_earlier) (tt, no_own after adds.later adds.all_later))

    -- the program writes at one path, which is no file of a command that runs
    pub alone_at : (path : List ℕ) (running : ℕ → Type 0) → GrewAt path running now new → ((i : ℕ) → runs i (events_in so_far) ≡ true → IsNoFileOf edges i path)
        → AreLeftAlone edges old now → AreLeftAlone edges old new
    alone_at path running grew apart = alone_on grew.more grew.grows each
      where
        each : (before after : List Moment) (at : List ℕ) (content : Option (List ℕ)) (stamp : ℕ) → grew.more ≡ before ++ Wrote Program at content stamp ∷ after
            → (i : ℕ) → runs i (events_in (so_far ++ before)) ≡ true → IsNoFileOf edges i at
        each before after at content stamp is i ran =
            let parts = all_parts (IsAtOrByOthers path running) before (Wrote Program at content stamp ∷ after) (subst (λ (l : List Moment). AllByRecursion (IsAtOrByOthers path running) l) is grew.all) in
            subst (λ (p : List ℕ). IsNoFileOf edges i p) (sym parts.1.0) (apart i
            (subst (λ (l : List Event). runs i l ≡ true)
            (events_in-append so_far before ∙ (ap (λ (l : List Event). events_in so_far ++ l) (no_events_at path running before parts.0) ∙ append-nil (events_in so_far))) ran))

-- ---- which paths are no files of a command that runs

module _ (own : OwnFiles) (edges : List Edge) (files : OwnFilesApart own edges) (j : ℕ) (command : IsCommand edges j) where
  -- files of the program's own
  pub own_apart : (path : List ℕ) → own.files path ≡ true → IsNoFileOf edges j path
  own_apart path mine = (other (edge_at edges j).act.depfile (files.depfiles j command), other (edge_at edges j).act.response_path (files.responses j command))
    where
      other : (p : List ℕ) → LiesIn own p → p ≢ [] → p ≢ path
      other p lies named same = false≢true (sym lies.1 ∙ (ap own.files same ∙ mine))

  module _ (i : ℕ) (theirs : IsCommand edges i) (apart : j ≢ i) where
    -- the response file of another edge
    pub response_apart : IsNoFileOf edges j (edge_at edges i).act.response_path
    response_apart = ((files.apart j i command theirs apart).2, (files.apart j i command theirs apart).1)

    -- the depfile of another edge
    pub depfile_apart : IsNoFileOf edges j (edge_at edges i).act.depfile
    depfile_apart = (
      (files.apart j i command theirs apart).0,
      λ named same. (files.apart i j theirs command (λ one. apart (sym one))).2 (λ none. named (same ∙ none)) (sym same),
    )
