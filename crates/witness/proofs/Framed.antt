-- The frame of a build, decided by going through its moments and steps.
use Rattle.std.proofs.Common.{◌≡◌, ◌⊎◌, inl, inr, ℕ, ◌&&◌, ◌||◌, not, Bool, true, List, [], ◌∷◌, ◌++◌, Option, Some, refl, sym, ◌∙◌, subst, bytes_eq}
use Rattle.std.specs.List.{AllByRecursion}
use Rattle.std.proofs.lemmas.Bool.{false≢true, cases_Bool, and_parts, or_cases, not-true}
use Rattle.model.specs.declared.act.Act.{Act}
use Rattle.model.specs.declared.event.Event.TheVariants.{Start, Finish}
use Rattle.model.specs.declared.event.Moment.{Moment}
use Rattle.model.specs.declared.event.Moment.TheVariants.{Wrote, Happened}
use Rattle.model.specs.declared.event.Writer.TheVariants.{Program, Command, Someone}
use Rattle.model.specs.declared.graph.Edge.{Edge}
use Rattle.model.specs.World.{file_at, view_of}
use Rattle.model.specs.Graph.{has, has_number, edge_at, outputs}
use Rattle.model.specs.Records.{OwnFiles, IsOwnIn, build_log_name, tick_name}
use Rattle.model.specs.Judgement.{is_empty_text}
use Rattle.model.specs.Schedule.{Step, Judged, Started, Ended, started_in, out_of_date_in}
use Rattle.model.specs.Phases.{IsPointAfter}
use Rattle.model.specs.Premises.{IsWithinEdge, IsNoEdit}
use Rattle.model.specs.SingleBuild.{IsOfBuild, IsOwnWrite, MayChange, IsReadyFor, IsMadeBy, IsFrame}
use Rattle.witness.proofs.RichLists.{same_bytes, every, every_path, some_of, some_number, same_content, contents_same, at_each, at_split}
use Rattle.witness.proofs.Moments.{written_in, still, so_far, is_point, point}

empty_text : (q : List ℕ) → is_empty_text q ≡ true → q ≡ []
empty_text [] is = refl
empty_text (c ∷ cs) is = absurd (false≢true is)

module _ (es : List Edge) (steps : List Step) where
  -- ---- who writes what

  -- the program writes its log, the file of its ticks, and response files of commands that are out of date
  abbrev pub is_own : List ℕ → Bool
  is_own path = bytes_eq build_log_name path || (bytes_eq tick_name path || some_of (λ i. bytes_eq (edge_at es i).act.response_path path) (out_of_date_in steps))

  abbrev pub is_of_build : Moment → Bool
  is_of_build (Wrote Program path content stamp) = is_own path
  is_of_build (Wrote (Command job) path content stamp) = has_number (started_in steps) job && has_number (out_of_date_in steps) job
  is_of_build (Wrote Someone path content stamp) = true
  is_of_build (Happened event) = true

  -- ---- what is ready at a start, and untouched up to a judgement

  abbrev pub are_unwritten : ℕ → List Moment → Bool
  are_unwritten i ms = every (λ o. not (has (written_in ms) o)) (outputs (edge_at es i))

  abbrev pub is_ready : List Moment → List Moment → Moment → Bool
  is_ready old front (Wrote by path content stamp) = true
  is_ready old front (Happened (Start i act stamp)) =
      are_unwritten i front
      && (is_empty_text act.depfile && (is_empty_text act.response_path || same_content (view_of (old ++ front) act.response_path) (Some act.response_content)))
  is_ready old front (Happened (Finish i ok)) = true

  abbrev pub is_untouched : List Moment → List Step → Step → Bool
  is_untouched more before (Judged i out_of_date) = is_point before more && are_unwritten i (so_far before more)
  is_untouched more before (Started i) = true
  is_untouched more before (Ended i well) = true

  unwritten : (i : ℕ) (old ms : List Moment) → are_unwritten i ms ≡ true → (o : List ℕ) → has (outputs (edge_at es i)) o ≡ true → file_at (old ++ ms) o ≡ file_at old o
  unwritten i old ms test o h = still o old ms (not-true (has (written_in ms) o) (every_path (λ p. not (has (written_in ms) p)) (outputs (edge_at es i)) o test h))

  module _ (all : OwnFiles) (fits : IsOwnIn all []) where
    own_write : (path : List ℕ) (content : Option (List ℕ)) → is_own path ≡ true → IsOwnWrite all es steps path content
    own_write path content test = elim (or_cases (bytes_eq build_log_name path) (bytes_eq tick_name path || some_of (λ i. bytes_eq (edge_at es i).act.response_path path) (out_of_date_in steps)) test) [
      | inl log ↦ inl (subst (λ (p : List ℕ). all.files p ≡ true) (same_bytes build_log_name path log) fits.is_log)
      | inr other ↦ elim (or_cases (bytes_eq tick_name path) (some_of (λ i. bytes_eq (edge_at es i).act.response_path path) (out_of_date_in steps)) other) [
        | inl tick ↦ inl (subst (λ (p : List ℕ). all.files p ≡ true) (same_bytes tick_name path tick) fits.tick)
        | inr response ↦
            let one = some_number (λ i. bytes_eq (edge_at es i).act.response_path path) (out_of_date_in steps) response in
            inr (inr (one.number, one.here, sym (same_bytes (edge_at es one.number).act.response_path path one.passes)))
      ]
    ]

    own_change : (path : List ℕ) → is_own path ≡ true → MayChange all es steps path
    own_change path test = elim (or_cases (bytes_eq build_log_name path) (bytes_eq tick_name path || some_of (λ i. bytes_eq (edge_at es i).act.response_path path) (out_of_date_in steps)) test) [
      | inl log ↦ inl (subst (λ (p : List ℕ). all.files p ≡ true) (same_bytes build_log_name path log) fits.is_log)
      | inr other ↦ elim (or_cases (bytes_eq tick_name path) (some_of (λ i. bytes_eq (edge_at es i).act.response_path path) (out_of_date_in steps)) other) [
        | inl tick ↦ inl (subst (λ (p : List ℕ). all.files p ≡ true) (same_bytes tick_name path tick) fits.tick)
        | inr response ↦
            let one = some_number (λ i. bytes_eq (edge_at es i).act.response_path path) (out_of_date_in steps) response in
            inr (inr (inr (one.number, one.here, sym (same_bytes (edge_at es one.number).act.response_path path one.passes))))
      ]
    ]

    of_build : (ms : List Moment) → every is_of_build ms ≡ true → AllByRecursion (IsOfBuild all es steps) ms
    of_build [] test = tt
    of_build (Wrote Program path content stamp ∷ ms) test =
        let both = and_parts (is_own path) (every is_of_build ms) test in
        (own_write path content both.0, of_build ms both.1)
    of_build (Wrote (Command job) path content stamp ∷ ms) test =
        let both = and_parts (has_number (started_in steps) job && has_number (out_of_date_in steps) job) (every is_of_build ms) test in
        ((and_parts (has_number (started_in steps) job) (has_number (out_of_date_in steps) job) both.0).0, of_build ms both.1)
    of_build (Wrote Someone path content stamp ∷ ms) test = (tt, of_build ms test)
    of_build (Happened event ∷ ms) test = (tt, of_build ms test)

    -- a path that is written is one that a build may change, or free
    module _ (free : List ℕ → Bool) where
      by_command : (job : ℕ) (path : List ℕ) → (has_number (started_in steps) job && has_number (out_of_date_in steps) job) ≡ true
          → (has (outputs (edge_at es job)) path ≡ true) ⊎ (path ≡ (edge_at es job).act.depfile) ⊎ (free path ≡ true) → MayChange all es steps path ⊎ (free path ≡ true)
      by_command job path test (inl output) = inl (inr (inl (job, (and_parts (has_number (started_in steps) job) (has_number (out_of_date_in steps) job) test).0, output)))
      by_command job path test (inr (inl told)) = inl (inr (inr (inl (job, (and_parts (has_number (started_in steps) job) (has_number (out_of_date_in steps) job) test).1, told))))
      by_command job path test (inr (inr is_free)) = inr is_free

      changes : (ms : List Moment) → every is_of_build ms ≡ true → AllByRecursion (IsWithinEdge free es) ms → AllByRecursion (IsNoEdit free) ms → (p : List ℕ)
          → has (written_in ms) p ≡ true → MayChange all es steps p ⊎ (free p ≡ true)
      changes [] test kept edits p h = absurd (false≢true h)
      changes (Wrote Program path content stamp ∷ ms) test kept edits p h =
          let both = and_parts (is_own path) (every is_of_build ms) test in
          elim (or_cases (bytes_eq path p) (has (written_in ms) p) h) [
            | inl here ↦ subst (λ (q : List ℕ). MayChange all es steps q ⊎ (free q ≡ true)) (same_bytes path p here) (inl (own_change path both.0))
            | inr there ↦ changes ms both.1 kept.1 edits.1 p there
          ]
      changes (Wrote (Command job) path content stamp ∷ ms) test kept edits p h =
          let both = and_parts (has_number (started_in steps) job && has_number (out_of_date_in steps) job) (every is_of_build ms) test in
          elim (or_cases (bytes_eq path p) (has (written_in ms) p) h) [
            | inl here ↦ subst (λ (q : List ℕ). MayChange all es steps q ⊎ (free q ≡ true)) (same_bytes path p here) (by_command job path both.0 kept.0)
            | inr there ↦ changes ms both.1 kept.1 edits.1 p there
          ]
      changes (Wrote Someone path content stamp ∷ ms) test kept edits p h = elim (or_cases (bytes_eq path p) (has (written_in ms) p) h) [
        | inl here ↦ subst (λ (q : List ℕ). MayChange all es steps q ⊎ (free q ≡ true)) (same_bytes path p here) (inr edits.0)
        | inr there ↦ changes ms test kept.1 edits.1 p there
      ]
      changes (Happened event ∷ ms) test kept edits p h = changes ms test kept.1 edits.1 p h

    module _ (old more : List Moment) (no_depfile : (i : ℕ) → (edge_at es i).act.depfile ≡ []) where
      made_untouched : (i : ℕ) (ms : List Moment) → are_unwritten i ms ≡ true → (p : List ℕ) → IsMadeBy (edge_at es i) p → file_at (old ++ ms) p ≡ file_at old p
      made_untouched i ms test p (inl output) = unwritten i old ms test p output
      made_untouched i ms test p (inr told) = absurd (told.0 (told.1 ∙ no_depfile i))

      ready : (i stamp : ℕ) (act : Act) (before after : List Moment) → at_each (is_ready old) [] more ≡ true → more ≡ before ++ Happened (Start i act stamp) ∷ after
          → (are_unwritten i before ≡ true) × IsReadyFor act (view_of (old ++ before))
      ready i stamp act before after test is =
          let here = at_split (is_ready old) more before after (Happened (Start i act stamp)) is test in
          let a = and_parts (are_unwritten i before)
          (is_empty_text act.depfile && (is_empty_text act.response_path || same_content (view_of (old ++ before) act.response_path) (Some act.response_content))) here in
          let b = and_parts (is_empty_text act.depfile) (is_empty_text act.response_path || same_content (view_of (old ++ before) act.response_path) (Some act.response_content)) a.1 in (
            a.0,
            record {
              depfile = λ some two. absurd (some (empty_text act.depfile b.0));
              response = λ some. elim (or_cases (is_empty_text act.response_path) (same_content (view_of (old ++ before) act.response_path) (Some act.response_content)) b.1) [
                | inl nothing ↦ absurd (some (empty_text act.response_path nothing))
                | inr same ↦ contents_same (view_of (old ++ before) act.response_path) (Some act.response_content) same
              ];
            },
          )

      untouched : (before after : List Step) (i : ℕ) (out_of_date : Bool) → at_each (is_untouched more) [] steps ≡ true → steps ≡ before ++ Judged i out_of_date ∷ after
          → (at : List Moment) × IsPointAfter before old (old ++ more) at × ((p : List ℕ) → IsMadeBy (edge_at es i) p → file_at at p ≡ file_at old p)
      untouched before after i out_of_date test is =
          let here = at_split (is_untouched more) steps before after (Judged i out_of_date) is test in
          let a = and_parts (is_point before more) (are_unwritten i (so_far before more)) here in
          (old ++ so_far before more, point before old more a.0, λ p made. made_untouched i (so_far before more) a.1 p made)

      pub frame : every is_of_build more ≡ true → at_each (is_ready old) [] more ≡ true → at_each (is_untouched more) [] steps ≡ true → IsFrame all es steps old (old ++ more)
      frame writes starts judged = record {
        more = more;
        grows = refl;
        writes = of_build more writes;
        unchanged = λ free within edits p. elim (cases_Bool (has (written_in more) p)) [
          | inl here ↦ inr (changes free more writes (within more refl) (edits more refl) p here)
          | inr none ↦ inl (still p old more none)
        ];
        until_start = λ files i stamp act o before after is h. unwritten i old before (ready i stamp act before after starts is).0 o h;
        until_judged = λ files before after i out_of_date is. untouched before after i out_of_date judged is;
        at_start = λ files i stamp act before after is. (ready i stamp act before after starts is).1;
      }
