-- What commands left, and that files are kept, decided by going through the moments of a build.
use Rattle.std.proofs.Common.{◌≡◌, inl, inr, ℕ, ◌==◌, ◌&&◌, ◌||◌, not, Bool, true, false, List, [], ◌∷◌, ◌++◌, Option, Some, None, is_some, refl, sym, ◌∙◌, ap, subst, append_assoc}
use Rattle.std.specs.List.{AllByRecursion}
use Rattle.std.proofs.lemmas.Bool.{false≢true, cases_Bool, and_parts, or_cases, not-true, eq-eqb}
use Rattle.std.proofs.lemmas.List.{append_cancel_left}
use Rattle.model.specs.declared.act.Act.{Act}
use Rattle.model.specs.declared.event.Event.TheVariants.{Start, Finish}
use Rattle.model.specs.declared.event.Moment.{Moment}
use Rattle.model.specs.declared.event.Moment.TheVariants.{Wrote, Happened}
use Rattle.model.specs.declared.event.Writer.TheVariants.{Program, Command, Someone}
use Rattle.model.specs.declared.graph.Edge.{Edge}
use Rattle.model.specs.World.{View, IsNotAt, content_of, file_at, view_of}
use Rattle.model.specs.Graph.{has, edge_at, outputs, maker}
use Rattle.model.specs.Outcome.{Behaviour, left, depfile_in, listed, ends_well, given}
use Rattle.model.specs.Records.{OwnFiles}
use Rattle.model.specs.Schedule.{Step}
use Rattle.model.specs.Premises.{LeftOutcome, LeaveOutcomes, IsWithinEdge, IsNoEdit, FreeApart, OwnFilesApart, FilesAreKept, IsReported, ReportsComeFromAbove, IsFromAbove}
use Rattle.witness.proofs.RichLists.{every, every_path, all_from_has, same_content, contents_same, at_each, at_split, other_of}
use Rattle.witness.proofs.Graphs.{makes_all, made_by}
use Rattle.witness.proofs.Moments.{unmoved, from_append}

-- ---- what commands left

module _ (B : Behaviour) (es : List Edge) (no_depfile : (i : ℕ) → (edge_at es i).act.depfile ≡ []) where
  pub nothing_told : (i : ℕ) (view : View) → depfile_in B (edge_at es i).act view ≡ Some []
  nothing_told i view = rw (no_depfile i, depfile_in) refl

  pub none_reported : (steps : List Step) (old new : List Moment) (i : ℕ) (p : List ℕ) → IsReported B es steps old new i p → ⊥
  none_reported steps old new i p reported = false≢true (subst (λ (o : Option (List (List ℕ))). has (listed o) p ≡ true) (nothing_told i (view_of reported.at)) reported.told)

  pub reports_none : (own : OwnFiles) (recorded : ℕ → List (List ℕ)) (steps : List Step) (old new : List Moment) → ReportsComeFromAbove B own es recorded steps old new
  reports_none own recorded steps old new i at ended well =
      subst (λ (o : Option (List (List ℕ))). AllByRecursion (IsFromAbove own es recorded i) (listed o)) (sym (nothing_told i (view_of at))) tt

module _ (B : Behaviour) (es : List Edge) (old more : List Moment) where
  abbrev pub left_well : ℕ → View → View → Bool
  left_well i seen at = ends_well B (edge_at es i).act seen && every (λ o. same_content (at o) (given B (edge_at es i).act seen o)) (outputs (edge_at es i))

  -- where edge i was started behind these moments
  abbrev pub ends_left : ℕ → List Moment → List Moment → Moment → Bool
  ends_left i start front (Wrote by path content stamp) = true
  ends_left i start front (Happened (Start job act stamp)) = true
  ends_left i start front (Happened (Finish job ok)) = not (job == i) || left_well i (view_of (old ++ start)) (view_of (old ++ front))

  abbrev pub starts_left : List Moment → Moment → Bool
  starts_left front (Wrote by path content stamp) = true
  starts_left front (Happened (Start i act stamp)) = at_each (ends_left i front) [] more
  starts_left front (Happened (Finish job ok)) = true

  as_at_start : (p : List ℕ) (before since : List Moment) (i : ℕ) (act : Act) (stamp : ℕ) → more ≡ before ++ Happened (Start i act stamp) ∷ since → AllByRecursion (IsNotAt p) since
      → view_of (old ++ before) p ≡ view_of (old ++ more) p
  as_at_start p before since i act stamp is none =
      let apart : file_at ((old ++ before) ++ Happened (Start i act stamp) ∷ since) p ≡ file_at (old ++ before) p =
      from_append p None (old ++ before) (Happened (Start i act stamp) ∷ since) ∙ unmoved p (file_at (old ++ before) p) since none in
      let whole : file_at (old ++ more) p ≡ file_at (old ++ before) p =
      ap (λ (l : List Moment). file_at (old ++ l) p) is ∙ (ap (λ (l : List Moment). file_at l p) (sym (append_assoc old before (Happened (Start i act stamp) ∷ since))) ∙ apart) in
      sym (ap content_of whole)

  module _ (no_depfile : (i : ℕ) → (edge_at es i).act.depfile ≡ []) (steps : List Step) where
    left_by : (i : ℕ) (before since front : List Moment) (act : Act) (stamp : ℕ) → more ≡ before ++ Happened (Start i act stamp) ∷ since
        → left_well i (view_of (old ++ before)) (view_of (old ++ front)) ≡ true → LeftOutcome B es since (old ++ more) (old ++ front) i
    left_by i before since front act stamp is test =
        let both = and_parts (ends_well B (edge_at es i).act (view_of (old ++ before)))
        (every (λ o. same_content (view_of (old ++ front) o) (given B (edge_at es i).act (view_of (old ++ before)) o)) (outputs (edge_at es i))) test in
        record {
          seen = view_of (old ++ before);
          well = both.0;
          unwritten = λ p none. as_at_start p before since i act stamp is none;
          contents = all_from_has (λ o. view_of (old ++ front) o ≡ given B (edge_at es i).act (view_of (old ++ before)) o) (outputs (edge_at es i))
              (λ o h. contents_same (view_of (old ++ front) o) (given B (edge_at es i).act (view_of (old ++ before)) o)
              (every_path (λ q. same_content (view_of (old ++ front) q) (given B (edge_at es i).act (view_of (old ++ before)) q)) (outputs (edge_at es i)) o both.1 h));
          depfile = nothing_told B es no_depfile i (view_of (old ++ front))
              ∙ sym (ap (λ (o : Option (List (List ℕ))). Some (listed o)) (nothing_told B es no_depfile i (left (B.outcome (edge_at es i).act (view_of (old ++ before))))));
        }

    pub outcomes : at_each starts_left [] more ≡ true → LeaveOutcomes B es steps old (old ++ more)
    outcomes test i at ended well before since act stamp is =
        let started = append_cancel_left old more (before ++ Happened (Start i act stamp) ∷ since) is in
        let finished = append_cancel_left old more (ended.before ++ Happened (Finish i true) ∷ ended.after) ended.splits in
        let first = at_split starts_left more before since (Happened (Start i act stamp)) started test in
        let second = at_split (ends_left i before) more ended.before ended.after (Happened (Finish i true)) finished first in
        let here = other_of (not (i == i)) (left_well i (view_of (old ++ before)) (view_of (old ++ ended.before))) second (ap not (eq-eqb i i refl)) in
        subst (λ (l : List Moment). LeftOutcome B es since (old ++ more) l i) (sym ended.is) (left_by i before since ended.before act stamp started here)

-- ---- files are kept

module _ (es : List Edge) (free : List (List ℕ)) where
  abbrev pub keeps_to : Moment → Bool
  keeps_to (Wrote Program path content stamp) = true
  keeps_to (Wrote (Command job) path content stamp) = has (outputs (edge_at es job)) path || has free path
  keeps_to (Wrote Someone path content stamp) = has free path
  keeps_to (Happened event) = true

  pub within_edges : (ms : List Moment) → every keeps_to ms ≡ true → AllByRecursion (IsWithinEdge (has free) es) ms
  within_edges [] test = tt
  within_edges (Wrote Program path content stamp ∷ ms) test = (tt, within_edges ms test)
  within_edges (Wrote (Command job) path content stamp ∷ ms) test =
      let both = and_parts (has (outputs (edge_at es job)) path || has free path) (every keeps_to ms) test in (
        elim (or_cases (has (outputs (edge_at es job)) path) (has free path) both.0) [ inl output ↦ inl output | inr is_free ↦ inr (inr is_free) ],
        within_edges ms both.1,
      )
  within_edges (Wrote Someone path content stamp ∷ ms) test = (tt, within_edges ms (and_parts (has free path) (every keeps_to ms) test).1)
  within_edges (Happened event ∷ ms) test = (tt, within_edges ms test)

  pub only_free : (ms : List Moment) → every keeps_to ms ≡ true → AllByRecursion (IsNoEdit (has free)) ms
  only_free [] test = tt
  only_free (Wrote Program path content stamp ∷ ms) test = (tt, only_free ms test)
  only_free (Wrote (Command job) path content stamp ∷ ms) test = (tt, only_free ms (and_parts (has (outputs (edge_at es job)) path || has free path) (every keeps_to ms) test).1)
  only_free (Wrote Someone path content stamp ∷ ms) test = let both = and_parts (has free path) (every keeps_to ms) test in (both.0, only_free ms both.1)
  only_free (Happened event ∷ ms) test = (tt, only_free ms test)

  not_free : (P : List ℕ → Bool) (p : List ℕ) → every (λ q. not (P q)) free ≡ true → P p ≡ true → has free p ≡ false
  not_free P p test so = elim (cases_Bool (has free p)) [
    | inl here ↦ absurd (false≢true (sym (not-true (P p) (every_path (λ q. not (P q)) free p test here)) ∙ so))
    | inr none ↦ none
  ]

  module _ (own : OwnFiles) (all_made : makes_all es ≡ true) (apart : every (λ q. not (own.set q)) free ≡ true) (unmade : every (λ q. not (is_some (maker es q))) free ≡ true) where
    pub free_apart : FreeApart (has free) own es
    free_apart = record {
      set = λ p so. not_free own.set p apart so;
      outputs = λ i p making h. not_free (λ q. is_some (maker es q)) p unmade (ap is_some (made_by es all_made i p h));
    }

    abbrev pub kept_of : OwnFilesApart own es → (old more : List Moment) → every keeps_to more ≡ true → FilesAreKept own es old (old ++ more)
    kept_of own_files old more test = record {
      free = has free;
      free_apart = free_apart;
      commands = λ added is. subst (AllByRecursion (IsWithinEdge (has free) es)) (append_cancel_left old more added is) (within_edges more test);
      own_files = own_files;
      edits = λ added is. subst (AllByRecursion (IsNoEdit (has free))) (append_cancel_left old more added is) (only_free more test);
    }
