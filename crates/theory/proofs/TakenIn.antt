-- What the depfile of a command said that was just taken in: it is read as it was when the command ended.
use Rattle.std.proofs.Common.{◌≡◌, ◌≢◌, inl, inr, ℕ, ◌==◌, Bool, true, false, IsTrue, List, [], ◌∷◌, ◌++◌, Option, Some, None, refl, sym, ◌∙◌, ap, subst, append_assoc}
use Rattle.std.specs.List.{AllByRecursion}
use Rattle.std.proofs.lemmas.Bool.{false≢true, cond-true, eq-eqb}
use Rattle.model.specs.declared.event.Event.{Event}
use Rattle.model.specs.declared.event.Event.TheVariants.{Finish}
use Rattle.model.specs.declared.event.Moment.{Moment}
use Rattle.model.specs.declared.event.Moment.TheVariants.{Happened}
use Rattle.model.specs.World.{World, View, file_at, content_of, view_of, runs, IsRunning, IsIdle, events_in}
use Rattle.model.specs.Calls.{IsByOthers, AllByOthers, OthersWrote, Adds, OnlyLooks, Sees, Finishes}
use Rattle.model.specs.Graph.{edge_at}
use Rattle.model.specs.Outcome.{Behaviour, read_depfile, depfile_in, is_accepted}
use Rattle.model.specs.Records.{Store, LogFormat, OwnFiles}
use Rattle.model.specs.Schedule.{Step}
use Rattle.model.specs.Premises.{FilesAreKept, EndedAt, AllSince, IsWithinEdge, IsNoEdit}
use Rattle.model.specs.Phases.{Phase}
use Rattle.model.specs.SingleBuild.{Asked, task_of, IsByOther, IsReadBehind}
use Rattle.theory.specs.Run.{IsRunOrRest}
use Rattle.theory.proofs.Lists.{same_rest, place_in, all_append, all_parts}
use Rattle.theory.proofs.Events.{runs_push}
use Rattle.theory.proofs.Files.{IsElsewhere, file_stays}
use Rattle.theory.proofs.Moments.{events_in-append}
use Rattle.theory.proofs.Runs.{rest_begins, rest_looks, rest_finishes}
use Rattle.theory.proofs.Starting.{OthersRun, private_elsewhere}
use Rattle.theory.specs.Ledger.{IsCarried}
use Rattle.theory.proofs.Growing.{longer}
use Rattle.theory.proofs.AsRead.{by_other}
use Rattle.theory.proofs.Ledger.{SaysAtEnd, ReadAtEnd, command_of}
use Rattle.theory.proofs.Once.{not_ended_again, one_end}

module _ (tells : Bool) (B : Behaviour) (format : LogFormat) (own : OwnFiles) (asked : Asked) (store : Store) (old : World) (phases : List Phase) (goes_on : Bool) (steps : List Step) (now mid new : World) (i : ℕ) (ok : Bool)
    (finish : Finishes tells i ok now mid) (looks : OnlyLooks tells mid new) (carried : IsCarried tells B format own asked store phases goes_on steps None old now) where
  idle : IsIdle old.events
  idle = carried.beside.idle

  abbrev rest : IsRunOrRest tells own (task_of asked store) steps old now
  rest = rest_begins tells own (task_of asked store) old steps now carried.run

  rest_mid : IsRunOrRest tells own (task_of asked store) steps old mid
  rest_mid = rest_finishes tells own (task_of asked store) old steps now mid i ok rest finish

  rest_new : IsRunOrRest tells own (task_of asked store) steps old new
  rest_new = rest_looks tells own (task_of asked store) old steps mid new rest_mid looks

  -- a command that failed did not end well by itself
  pub no_good_end : ok ≡ false → IsTrue tells → (at : List Moment) → EndedAt i old.history new.history at → ⊥
  no_good_end failed tell at ended = elim (place_in carried.run.events (Finish i ok ∷ []) (events_in ended.before) (events_in ended.after) (Finish i true) (sym events_are ∙ splits)) [
    | inl (between, first) ↦ not_ended_again tells own (task_of asked store) steps old new idle rest_new (events_in ended.before) between [] i true ok
        (events_are ∙ (ap (λ (l : List Event). l ++ Finish i ok ∷ []) first ∙ append_assoc (events_in ended.before) (Finish i true ∷ between) (Finish i ok ∷ [])))
    | inr (between, first, second) ↦ by_place between second
  ]
    where
      events_are : rest_new.first ++ rest_new.later ≡ carried.run.events ++ Finish i ok ∷ []
      events_are = same_rest old.events (rest_new.first ++ rest_new.later) (carried.run.events ++ Finish i ok ∷ [])
          (sym rest_new.grows ∙ (looks.events ∙ (finish.events ∙ (ap (λ (l : List Event). l ++ Finish i ok ∷ []) carried.run.grows ∙ append_assoc old.events carried.run.events (Finish i ok ∷ [])))))

      splits : rest_new.first ++ rest_new.later ≡ events_in ended.before ++ Finish i true ∷ events_in ended.after
      splits =
          let told = rest_new.history tell in
          sym told.happened ∙ (ap events_in (same_rest old.history told.more (ended.before ++ Happened (Finish i true) ∷ ended.after) (sym told.grows ∙ ended.splits))
          ∙ events_in-append ended.before (Happened (Finish i true) ∷ ended.after))

      by_place : (between : List Event) → Finish i ok ∷ [] ≡ between ++ Finish i true ∷ events_in ended.after → ⊥
      by_place [] is =
          let went : ok ≡ true = cc in
          false≢true (sym failed ∙ went)
      by_place (x ∷ xs) is = nothing xs is
        where
          nothing : (xs : List Event) → Finish i ok ∷ [] ≡ x ∷ (xs ++ Finish i true ∷ events_in ended.after) → ⊥
          nothing [] is = cc
          nothing (y ∷ ys) is = cc

  -- what is said at the end of one that failed, and of one without a depfile
  pub says_failed : (w : Bool) → ok ≡ false → SaysAtEnd tells B format own asked store old i w new
  says_failed w failed tell files at ended = absurd (no_good_end failed tell at ended)

  pub read_failed : (w : Bool) → ok ≡ false → ReadAtEnd tells B format own asked store old i w new
  read_failed w failed tell at ended = absurd (no_good_end failed tell at ended)

  none_refused : (edge_at asked.graph.edges i).act.depfile ≡ [] → (files : View) → true ≡ is_accepted (depfile_in B (edge_at asked.graph.edges i).act files)
  none_refused none files =
      sym (ap (λ (d : List ℕ). is_accepted (elim d [ [] ↦ Some [] | q ∷ qs ↦ read_depfile B.depfile (files (edge_at asked.graph.edges i).act.depfile) ])) none)

  pub says_nothing : (edge_at asked.graph.edges i).act.depfile ≡ [] → SaysAtEnd tells B format own asked store old i true new
  says_nothing none tell files at ended = none_refused none (view_of at)

  pub read_nothing : (edge_at asked.graph.edges i).act.depfile ≡ [] → ReadAtEnd tells B format own asked store old i true new
  read_nothing none tell at ended = record {
    between = [];
    later = ended.after;
    grows = ended.splits ∙ (sym (append_assoc old.history ended.before (Happened (Finish i true) ∷ ended.after)) ∙ ap (λ (l : List Moment). l ++ Happened (Finish i true) ∷ ended.after) (sym ended.is));
    others = tt;
    is = none_refused none (view_of (at ++ Happened (Finish i true) ∷ []));
  }

  -- ---- the moment of its end

  module _ (tell : IsTrue tells) where
    abbrev adds : Adds (IsRunning now.events) (IsRunning mid.events) (Happened (Finish i ok)) now.history mid.history
    adds = finish.history tell

    abbrev wrote : OthersWrote (IsRunning mid.events) mid.history new.history
    wrote = looks.history tell

    abbrev so_far : List Moment
    so_far = (rest.history tell).more

    abbrev at_end : List Moment
    at_end = old.history ++ (so_far ++ adds.earlier)

    mid_splits : mid.history ≡ old.history ++ ((so_far ++ adds.earlier) ++ Happened (Finish i ok) ∷ adds.later)
    mid_splits =
        adds.grows ∙ (ap (λ (l : List Moment). l ++ (adds.earlier ++ Happened (Finish i ok) ∷ adds.later)) (rest.history tell).grows
        ∙ (append_assoc old.history so_far (adds.earlier ++ Happened (Finish i ok) ∷ adds.later)
        ∙ ap (λ (l : List Moment). old.history ++ l) (sym (append_assoc so_far adds.earlier (Happened (Finish i ok) ∷ adds.later)))))

    new_splits : new.history ≡ old.history ++ ((so_far ++ adds.earlier) ++ Happened (Finish i ok) ∷ (adds.later ++ wrote.more))
    new_splits = longer old.history (so_far ++ adds.earlier) (Happened (Finish i ok)) adds.later wrote.more mid.history new.history wrote.grows mid_splits

    pub ended_here : ok ≡ true → EndedAt i old.history new.history at_end
    ended_here went = record {
      before = so_far ++ adds.earlier;
      after = adds.later ++ wrote.more;
      is = refl;
      splits = new_splits ∙ ap (λ (b : Bool). old.history ++ ((so_far ++ adds.earlier) ++ Happened (Finish i b) ∷ (adds.later ++ wrote.more))) went;
    }

  module _ (went : ok ≡ true) (named : (edge_at asked.graph.edges i).act.depfile ≢ []) (tell : IsTrue tells) (files : FilesAreKept own asked.graph.edges old.history new.history) where
    abbrev depfile : List ℕ
    depfile = (edge_at asked.graph.edges i).act.depfile

    others : OthersRun asked.graph.edges i (IsRunning mid.events)
    others job is = (
      command_of tells B format own asked store old steps mid idle rest_mid job is,
      λ same. false≢true (sym stopped ∙ (ap (λ (n : ℕ). runs n mid.events) (sym same) ∙ is)),
    )
      where
        stopped : runs i mid.events ≡ false
        stopped = ap (λ (l : List Event). runs i l) finish.events ∙ (runs_push i now.events (Finish i ok) ∙ cond-true (i == i) false (runs i now.events) (eq-eqb i i refl))

    part : (kind : Moment → Type 0) → AllSince kind old.history new.history → AllByRecursion kind ((adds tell).later ++ (wrote tell).more)
    part kind all = (all_parts kind (so_far tell ++ (adds tell).earlier) (Happened (Finish i ok) ∷ ((adds tell).later ++ (wrote tell).more)) (all ((so_far tell ++ (adds tell).earlier) ++ Happened (Finish i ok) ∷ ((adds tell).later ++ (wrote tell).more)) (new_splits tell))).1.1

    elsewhere : AllByRecursion (IsElsewhere depfile) ((adds tell).later ++ (wrote tell).more)
    elsewhere = private_elsewhere own asked.graph.edges files.own_files files.free files.free_apart i (command_of tells B format own asked store old steps now idle rest i finish.ran) depfile (record { named = named; is = inl refl })
        (IsRunning mid.events) others ((adds tell).later ++ (wrote tell).more) (all_append (IsByOthers (IsRunning mid.events)) (adds tell).later (wrote tell).more (adds tell).all_later (wrote tell).all)
        (part (IsWithinEdge files.free asked.graph.edges) files.commands) (part (IsNoEdit files.free) files.edits)

    -- since the end it holds what it held then
    pub depfile_since : (before after at : List Moment) → new.history ≡ mid.history ++ (before ++ after) → EndedAt i old.history new.history at → view_of (mid.history ++ before) (edge_at asked.graph.edges i).act.depfile ≡ view_of at (edge_at asked.graph.edges i).act.depfile
    depfile_since before after at grows ended =
        ap content_of (ap (λ (h : List Moment). file_at h depfile) here ∙ file_stays depfile (old.history ++ (so_far tell ++ (adds tell).earlier)) (Happened (Finish i ok) ∷ ((adds tell).later ++ before)) (tt, first))
        ∙ ap (λ (h : List Moment). view_of h depfile) (one_end tells own (task_of asked store) steps old new idle rest_new tell i (old.history ++ (so_far tell ++ (adds tell).earlier)) at (ended_here tell went) ended)
      where
        here : mid.history ++ before ≡ (old.history ++ (so_far tell ++ (adds tell).earlier)) ++ Happened (Finish i ok) ∷ ((adds tell).later ++ before)
        here = longer old.history (so_far tell ++ (adds tell).earlier) (Happened (Finish i ok)) (adds tell).later before mid.history (mid.history ++ before) refl (mid_splits tell)
            ∙ sym (append_assoc old.history (so_far tell ++ (adds tell).earlier) (Happened (Finish i ok) ∷ ((adds tell).later ++ before)))

        more : (wrote tell).more ≡ before ++ after
        more = same_rest mid.history (wrote tell).more (before ++ after) (sym (wrote tell).grows ∙ grows)

        first : AllByRecursion (IsElsewhere depfile) ((adds tell).later ++ before)
        first = (all_parts (IsElsewhere depfile) ((adds tell).later ++ before) after
            (subst (λ (l : List Moment). AllByRecursion (IsElsewhere depfile) l) (ap (λ (l : List Moment). (adds tell).later ++ l) more ∙ sym (append_assoc (adds tell).later before after)) elsewhere)).0

  -- A read of the depfile since then saw it at a moment behind the end.
  pub read_seen : ok ≡ true → (content : Option (List ℕ)) (first last : World) → OnlyLooks tells mid first
      → (IsTrue tells → Sees (λ history. content_of (file_at history (edge_at asked.graph.edges i).act.depfile)) content first.history last.history) → OnlyLooks tells last new
      → (w : Bool) → w ≡ is_accepted (depfile_in B (edge_at asked.graph.edges i).act (λ p. content)) → ReadAtEnd tells B format own asked store old i w new
  read_seen went content first last before sees after w says tell at ended =
      subst (λ (l : List Moment). IsReadBehind B (edge_at asked.graph.edges i).act i l new.history w) (one_end tells own (task_of asked store) steps old new idle rest_new tell i (at_end tell) at (ended_here tell went) ended) (record {
        between = between;
        later = later;
        grows = whole;
        others = (all_parts IsByOther between later (by_other (IsRunning mid.events) (between ++ later) by_others)).0;
        is = says ∙ ap is_accepted (ap (λ (held : Option (List ℕ)). elim (edge_at asked.graph.edges i).act.depfile [ [] ↦ Some [] | q ∷ qs ↦ read_depfile B.depfile held ])
            (seen.is ∙ ap (λ (h : List Moment). view_of h (edge_at asked.graph.edges i).act.depfile) here));
      })
    where
      seen : Sees (λ history. content_of (file_at history (edge_at asked.graph.edges i).act.depfile)) content first.history last.history
      seen = sees tell

      early : OthersWrote (IsRunning mid.events) mid.history first.history
      early = before.history tell

      late : OthersWrote (IsRunning last.events) last.history new.history
      late = after.history tell

      between : List Moment
      between = (adds tell).later ++ (early.more ++ seen.earlier)

      later : List Moment
      later = seen.later ++ late.more

      -- the history at the end, and the end
      behind : mid.history ≡ at_end tell ++ Happened (Finish i true) ∷ (adds tell).later
      behind =
          mid_splits tell ∙ (ap (λ (b : Bool). old.history ++ ((so_far tell ++ (adds tell).earlier) ++ Happened (Finish i b) ∷ (adds tell).later)) went
          ∙ sym (append_assoc old.history (so_far tell ++ (adds tell).earlier) (Happened (Finish i true) ∷ (adds tell).later)))

      here : first.history ++ seen.earlier ≡ at_end tell ++ Happened (Finish i true) ∷ between
      here =
          ap (λ (l : List Moment). l ++ seen.earlier) early.grows ∙ (append_assoc mid.history early.more seen.earlier
          ∙ (ap (λ (l : List Moment). l ++ (early.more ++ seen.earlier)) behind ∙ append_assoc (at_end tell) (Happened (Finish i true) ∷ (adds tell).later) (early.more ++ seen.earlier)))

      whole : new.history ≡ at_end tell ++ Happened (Finish i true) ∷ (between ++ later)
      whole =
          late.grows ∙ (ap (λ (l : List Moment). l ++ late.more) (seen.grows ∙ sym (append_assoc first.history seen.earlier seen.later))
          ∙ (append_assoc (first.history ++ seen.earlier) seen.later late.more
          ∙ (ap (λ (l : List Moment). l ++ later) here ∙ append_assoc (at_end tell) (Happened (Finish i true) ∷ between) later)))

      -- all that was written since then was written by others
      rest_is : (adds tell).later ++ (wrote tell).more ≡ between ++ later
      rest_is = same_rest (at_end tell ++ Happened (Finish i true) ∷ []) ((adds tell).later ++ (wrote tell).more) (between ++ later)
          (append_assoc (at_end tell) (Happened (Finish i true) ∷ []) ((adds tell).later ++ (wrote tell).more)
          ∙ (sym (append_assoc (at_end tell) (Happened (Finish i true) ∷ (adds tell).later) (wrote tell).more)
          ∙ (ap (λ (l : List Moment). l ++ (wrote tell).more) (sym behind) ∙ (sym (wrote tell).grows ∙ (whole ∙ sym (append_assoc (at_end tell) (Happened (Finish i true) ∷ []) (between ++ later)))))))

      by_others : AllByOthers (IsRunning mid.events) (between ++ later)
      by_others = subst (λ (l : List Moment). AllByOthers (IsRunning mid.events) l) rest_is (all_append (IsByOthers (IsRunning mid.events)) (adds tell).later (wrote tell).more (adds tell).all_later (wrote tell).all)

  -- A read of the depfile since then saw what it held at the end.
  pub depfile_seen : ok ≡ true → (edge_at asked.graph.edges i).act.depfile ≢ [] → (content : Option (List ℕ)) (first last : World) → OnlyLooks tells mid first
      → (IsTrue tells → Sees (λ history. content_of (file_at history (edge_at asked.graph.edges i).act.depfile)) content first.history last.history) → OnlyLooks tells last new
      → IsTrue tells → FilesAreKept own asked.graph.edges old.history new.history → (at : List Moment) → EndedAt i old.history new.history at
      → depfile_in B (edge_at asked.graph.edges i).act (λ p. content) ≡ depfile_in B (edge_at asked.graph.edges i).act (view_of at)
  depfile_seen went named content first last before sees after tell files at ended =
      ap (λ (held : Option (List ℕ)). elim (edge_at asked.graph.edges i).act.depfile [ [] ↦ Some [] | q ∷ qs ↦ read_depfile B.depfile held ])
      (seen.is ∙ (ap (λ (h : List Moment). view_of h (edge_at asked.graph.edges i).act.depfile) here
      ∙ depfile_since went named tell files (early.more ++ seen.earlier) (seen.later ++ late.more) at grows ended))
    where
      seen : Sees (λ history. content_of (file_at history (edge_at asked.graph.edges i).act.depfile)) content first.history last.history
      seen = sees tell

      early : OthersWrote (IsRunning mid.events) mid.history first.history
      early = before.history tell

      late : OthersWrote (IsRunning last.events) last.history new.history
      late = after.history tell

      here : first.history ++ seen.earlier ≡ mid.history ++ (early.more ++ seen.earlier)
      here = ap (λ (l : List Moment). l ++ seen.earlier) early.grows ∙ append_assoc mid.history early.more seen.earlier

      grows : new.history ≡ mid.history ++ ((early.more ++ seen.earlier) ++ (seen.later ++ late.more))
      grows = late.grows ∙ (ap (λ (l : List Moment). l ++ late.more) (seen.grows ∙ (sym (append_assoc first.history seen.earlier seen.later) ∙ (ap (λ (l : List Moment). l ++ seen.later) here ∙ append_assoc mid.history (early.more ++ seen.earlier) seen.later)))
          ∙ (append_assoc mid.history ((early.more ++ seen.earlier) ++ seen.later) late.more ∙ ap (λ (l : List Moment). mid.history ++ l) (append_assoc (early.more ++ seen.earlier) seen.later late.more)))

  pub says_seen : ok ≡ true → (edge_at asked.graph.edges i).act.depfile ≢ [] → (content : Option (List ℕ)) (first last : World) → OnlyLooks tells mid first
      → (IsTrue tells → Sees (λ history. content_of (file_at history (edge_at asked.graph.edges i).act.depfile)) content first.history last.history) → OnlyLooks tells last new
      → (w : Bool) → w ≡ is_accepted (depfile_in B (edge_at asked.graph.edges i).act (λ p. content)) → SaysAtEnd tells B format own asked store old i w new
  says_seen went named content first last before sees after w says tell files at ended =
      says ∙ ap is_accepted (depfile_seen went named content first last before sees after tell files at ended)
