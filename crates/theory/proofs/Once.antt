-- In a run each command starts once and ends once.
use Rattle.std.proofs.Common.{◌≡◌, ◌⊎◌, inl, inr, ℕ, ◌==◌, Bool, true, false, IsTrue, List, [], ◌∷◌, ◌++◌, refl, sym, ◌∙◌, ap, subst, append_assoc}
use Rattle.std.proofs.lemmas.List.{append-nil}
use Rattle.std.proofs.lemmas.Bool.{false≢true, false_from_ne_true, cond-true, eq-eqb}
use Rattle.model.specs.declared.act.Act.{Act}
use Rattle.model.specs.declared.event.Event.{Event}
use Rattle.model.specs.declared.event.Event.TheVariants.{Start, Finish}
use Rattle.model.specs.declared.event.Moment.{Moment}
use Rattle.model.specs.declared.event.Moment.TheVariants.{Happened}
use Rattle.model.specs.World.{World, runs, IsIdle, events_in}
use Rattle.model.specs.Graph.{has_number}
use Rattle.model.specs.Records.{OwnFiles}
use Rattle.model.specs.Schedule.{Task, Step, Judged, Started, Ended, started_in, running_in, AreEventsOf, AreFinishes}
use Rattle.model.specs.Premises.{EndedAt}
use Rattle.model.specs.Kept.{StartedUnder}
use Rattle.model.specs.SingleBuild.{WasTakenIn}
use Rattle.theory.specs.Run.{starts_in, IsToldBy, IsRunOrRest}
use Rattle.theory.proofs.Lists.{same_rest, place_of, has_number-left, has_number-right, has_number-one}
use Rattle.theory.specs.Order.{IsOrderlyFrom, IsOrderly}
use Rattle.theory.proofs.Orderly.{orderly_push}
use Rattle.theory.proofs.Events.{starts-append, starts_of_all, runs_since, runs_never, runs_now, runs_push, events-append}
use Rattle.theory.proofs.Moments.{events_in-append}
use Rattle.theory.proofs.Exit.{distinct_from}

-- ---- a list split in two ways

abbrev pub SplitsApart : {X : Type 0} → List X → List X → List X → List X → X → X → Type 0
SplitsApart {X} b c d e x y = (b ≡ d) ⊎ ((m : List X) × (c ≡ m ++ y ∷ e)) ⊎ ((m : List X) × (e ≡ m ++ x ∷ c))

split_twice : {X : Type 0} (b c d e : List X) (x y : X) → b ++ x ∷ c ≡ d ++ y ∷ e → SplitsApart b c d e x y
split_twice [] c [] e x y is = inl refl
split_twice [] c (z ∷ d) e x y is = let tail : c ≡ d ++ y ∷ e = cc in inr (inl (d, tail))
split_twice (z ∷ b) c [] e x y is = let tail : b ++ x ∷ c ≡ e = cc in inr (inr (b, sym tail))
split_twice {X} (z ∷ b) c (w ∷ d) e x y is =
    let head : z ≡ w = cc in
    let tail : b ++ x ∷ c ≡ d ++ y ∷ e = cc in
    elim (split_twice b c d e x y tail) [
      | inl same ↦ inl (ap (λ (v : X). v ∷ b) head ∙ ap (λ (l : List X). w ∷ l) same)
      | inr apart ↦ inr apart
    ]

-- ---- what ends was running

abbrev AllRan : List Event → List Event → Type 0
AllRan before [] = Unit {0}
AllRan before (Start job act stamp ∷ es) = AllRan (before ++ Start job act stamp ∷ []) es
AllRan before (Finish job ok ∷ es) = (runs job before ≡ true) × AllRan (before ++ Finish job ok ∷ []) es

ran_of_finishes : (before later : List Event) → AreFinishes before later → AllRan before later
ran_of_finishes before [] a = tt
ran_of_finishes before (Start job act stamp ∷ later) a = absurd a
ran_of_finishes before (Finish job ok ∷ later) a = (a.0, ran_of_finishes (before ++ Finish job ok ∷ []) later a.1)

ran_append : (before xs ys : List Event) → AllRan before xs → AllRan (before ++ xs) ys → AllRan before (xs ++ ys)
ran_append before [] ys a b = subst (λ (l : List Event). AllRan l ys) (append-nil before) b
ran_append before (Start job act stamp ∷ xs) ys a b =
    ran_append (before ++ Start job act stamp ∷ []) xs ys a (subst (λ (l : List Event). AllRan l ys) (sym (append_assoc before (Start job act stamp ∷ []) xs)) b)
ran_append before (Finish job ok ∷ xs) ys a b =
    (a.0, ran_append (before ++ Finish job ok ∷ []) xs ys a.1 (subst (λ (l : List Event). AllRan l ys) (sym (append_assoc before (Finish job ok ∷ []) xs)) b))

ran_rest : (before xs ys : List Event) → AllRan before (xs ++ ys) → AllRan (before ++ xs) ys
ran_rest before [] ys a = subst (λ (l : List Event). AllRan l ys) (sym (append-nil before)) a
ran_rest before (Start job act stamp ∷ xs) ys a =
    subst (λ (l : List Event). AllRan l ys) (append_assoc before (Start job act stamp ∷ []) xs) (ran_rest (before ++ Start job act stamp ∷ []) xs ys a)
ran_rest before (Finish job ok ∷ xs) ys a =
    subst (λ (l : List Event). AllRan l ys) (append_assoc before (Finish job ok ∷ []) xs) (ran_rest (before ++ Finish job ok ∷ []) xs ys a.1)

module _ (task : Task) (old : List Event) (idle : IsIdle old) where
  ran_of_steps : (done : List Step) (so_far : List Event) (steps : List Step) (es : List Event) → IsOrderly task.graph.edges done → AreEventsOf task.graph.edges done so_far → IsOrderlyFrom task.graph.edges done steps → AreEventsOf task.graph.edges steps es
      → AllRan (old ++ so_far) es
  ran_of_steps done so_far [] [] lawful was next a = tt
  ran_of_steps done so_far [] (e ∷ es) lawful was next a = absurd a
  ran_of_steps done so_far (Judged i b ∷ steps) es lawful was next a =
      ran_of_steps (done ++ Judged i b ∷ []) so_far steps es (orderly_push task.graph.edges done (Judged i b) lawful next.0)
      (subst (λ (l : List Event). AreEventsOf task.graph.edges (done ++ Judged i b ∷ []) l) (append-nil so_far) (events-append task.graph.edges done (Judged i b ∷ []) so_far [] was tt)) next.1 a
  ran_of_steps done so_far (Started i ∷ steps) [] lawful was next a = absurd a
  ran_of_steps done so_far (Started i ∷ steps) (Start job act stamp ∷ es) lawful was next a =
      subst (λ (l : List Event). AllRan l es) (sym (append_assoc old so_far (Start job act stamp ∷ [])))
      (ran_of_steps (done ++ Started i ∷ []) (so_far ++ Start job act stamp ∷ []) steps es (orderly_push task.graph.edges done (Started i) lawful next.0)
      (events-append task.graph.edges done (Started i ∷ []) so_far (Start job act stamp ∷ []) was (a.0, a.1, tt)) next.1 a.2)
  ran_of_steps done so_far (Started i ∷ steps) (Finish job ok ∷ es) lawful was next a = absurd a
  ran_of_steps done so_far (Ended i w ∷ steps) [] lawful was next a = absurd a
  ran_of_steps done so_far (Ended i w ∷ steps) (Start job act stamp ∷ es) lawful was next a = absurd a
  ran_of_steps done so_far (Ended i w ∷ steps) (Finish job ok ∷ es) lawful was next a = (
    runs_now task done old so_far idle lawful was job ∙ (ap (λ (k : ℕ). has_number (running_in done) k) a.0 ∙ next.0),
    subst (λ (l : List Event). AllRan l es) (sym (append_assoc old so_far (Finish job ok ∷ [])))
        (ran_of_steps (done ++ Ended i w ∷ []) (so_far ++ Finish job ok ∷ []) steps es (orderly_push task.graph.edges done (Ended i w) lawful next.0)
        (events-append task.graph.edges done (Ended i w ∷ []) so_far (Finish job ok ∷ []) was (a.0, a.1, tt)) next.1 a.2),
  )

module _ (tells : Bool) (own : OwnFiles) (task : Task) (steps : List Step) (old now : World) (idle : IsIdle old.events) (rest : IsRunOrRest tells own task steps old now) where
  all : List Event
  all = rest.first ++ rest.later

  ran : AllRan old.events (rest.first ++ rest.later)
  ran = ran_append old.events rest.first rest.later
      (subst (λ (l : List Event). AllRan l rest.first) (append-nil old.events) (ran_of_steps task old.events idle [] [] steps rest.first tt tt rest.orderly rest.of_steps))
      (ran_of_finishes (old.events ++ rest.first) rest.later rest.finishes)

  starts_are : starts_in (rest.first ++ rest.later) ≡ started_in steps
  starts_are =
      starts_of_all task.graph.edges steps rest.first (old.events ++ rest.first) rest.later rest.of_steps rest.finishes

  -- what was started is not started later
  not_again : (xs ys : List Event) (i : ℕ) → rest.first ++ rest.later ≡ xs ++ ys → has_number (starts_in xs) i ≡ true → has_number (starts_in ys) i ≡ true → ⊥
  not_again xs ys i splits was again =
      let place = place_of (starts_in ys) i again in
      false≢true (sym (distinct_from task.graph.edges [] steps rest.orderly (starts_in xs ++ place.before) place.after i
      (sym starts_are ∙ (ap starts_in splits ∙ (starts-append xs ys ∙ (ap (λ (l : List ℕ). starts_in xs ++ l) place.splits ∙ sym (append_assoc (starts_in xs) place.before (i ∷ place.after)))))))
      ∙ has_number-left (starts_in xs) place.before i was)

  -- what was taken in was started
  pub taken_in_started : (i : ℕ) → WasTakenIn i old now → has_number (started_in steps) i ≡ true
  taken_in_started i taken =
      ap (λ (l : List ℕ). has_number l i) (sym starts_are ∙ (ap starts_in splits ∙ starts-append taken.before (Finish i taken.ok ∷ taken.after)))
      ∙ has_number-left (starts_in taken.before) (starts_in taken.after) i
      (runs_since i old.events taken.before idle (ran_rest old.events taken.before (Finish i taken.ok ∷ taken.after) (subst (λ (l : List Event). AllRan old.events l) splits ran)).0)
    where
      splits : rest.first ++ rest.later ≡ taken.before ++ Finish i taken.ok ∷ taken.after
      splits = same_rest old.events (rest.first ++ rest.later) (taken.before ++ Finish i taken.ok ∷ taken.after) (sym rest.grows ∙ taken.splits)

  -- no command ends twice
  pub not_ended_again : (xs ys zs : List Event) (i : ℕ) (a b : Bool) → rest.first ++ rest.later ≡ xs ++ Finish i a ∷ (ys ++ Finish i b ∷ zs) → ⊥
  not_ended_again xs ys zs i a b splits = false≢true (sym still ∙ second.0)
    where
      first : (runs i (old.events ++ xs) ≡ true) × AllRan ((old.events ++ xs) ++ Finish i a ∷ []) (ys ++ Finish i b ∷ zs)
      first = ran_rest old.events xs (Finish i a ∷ (ys ++ Finish i b ∷ zs)) (subst (λ (l : List Event). AllRan old.events l) splits ran)

      second : (runs i (((old.events ++ xs) ++ Finish i a ∷ []) ++ ys) ≡ true) × AllRan ((((old.events ++ xs) ++ Finish i a ∷ []) ++ ys) ++ Finish i b ∷ []) zs
      second = ran_rest ((old.events ++ xs) ++ Finish i a ∷ []) ys (Finish i b ∷ zs) first.1

      none : has_number (starts_in ys) i ≡ false
      none = false_from_ne_true (has_number (starts_in ys) i) (λ again.
          not_again xs (Finish i a ∷ (ys ++ Finish i b ∷ zs)) i splits (runs_since i old.events xs idle first.0)
          (ap (λ (l : List ℕ). has_number l i) (starts-append ys (Finish i b ∷ zs)) ∙ has_number-left (starts_in ys) (starts_in zs) i again))

      still : runs i (((old.events ++ xs) ++ Finish i a ∷ []) ++ ys) ≡ false
      still = runs_never i ((old.events ++ xs) ++ Finish i a ∷ []) ys (runs_push i (old.events ++ xs) (Finish i a) ∙ cond-true (i == i) false (runs i (old.events ++ xs)) (eq-eqb i i refl)) none

  since_then : (es fs : List Event) → now.events ≡ old.events ++ es → now.events ≡ old.events ++ fs → es ≡ fs
  since_then es fs a b = same_rest old.events es fs (sym a ∙ b)

  -- a command is started under one stamp
  pub one_stamp : (i s t : ℕ) → StartedUnder i s old now → StartedUnder i t old now → s ≡ t
  one_stamp i s t a b = by_case (split_twice a.before a.after b.before b.after (Start i a.act s) (Start i b.act t) both)
    where
      both : a.before ++ Start i a.act s ∷ a.after ≡ b.before ++ Start i b.act t ∷ b.after
      both = since_then (a.before ++ Start i a.act s ∷ a.after) (b.before ++ Start i b.act t ∷ b.after) a.splits b.splits

      twice : (xs ys zs : List Event) (c d : Act) (u v : ℕ) → rest.first ++ rest.later ≡ xs ++ Start i c u ∷ (ys ++ Start i d v ∷ zs) → ⊥
      twice xs ys zs c d u v splits = not_again (xs ++ Start i c u ∷ []) (ys ++ Start i d v ∷ zs) i (splits ∙ sym (append_assoc xs (Start i c u ∷ []) (ys ++ Start i d v ∷ zs)))
          (ap (λ (l : List ℕ). has_number l i) (starts-append xs (Start i c u ∷ [])) ∙ has_number-right (starts_in xs) (i ∷ []) i (has_number-one i))
          (ap (λ (l : List ℕ). has_number l i) (starts-append ys (Start i d v ∷ zs)) ∙ has_number-right (starts_in ys) (i ∷ starts_in zs) i (has_number-left (i ∷ []) (starts_in zs) i (has_number-one i)))

      now_is : (es : List Event) → now.events ≡ old.events ++ es → rest.first ++ rest.later ≡ es
      now_is es is = since_then (rest.first ++ rest.later) es rest.grows is

      stamps : (c d : Act) (xs ys : List Event) → Start i c s ∷ xs ≡ Start i d t ∷ ys → s ≡ t
      stamps c d xs ys is = cc

      by_case : SplitsApart a.before a.after b.before b.after (Start i a.act s) (Start i b.act t) → s ≡ t
      by_case (inl same) = stamps a.act b.act a.after b.after
          (same_rest b.before (Start i a.act s ∷ a.after) (Start i b.act t ∷ b.after) (ap (λ (l : List Event). l ++ Start i a.act s ∷ a.after) (sym same) ∙ both))
      by_case (inr (inl (m, is))) = absurd (twice a.before m b.after a.act b.act s t
          (now_is (a.before ++ Start i a.act s ∷ a.after) a.splits ∙ ap (λ (l : List Event). a.before ++ Start i a.act s ∷ l) is))
      by_case (inr (inr (m, is))) = absurd (twice b.before m a.after b.act a.act t s
          (now_is (b.before ++ Start i b.act t ∷ b.after) b.splits ∙ ap (λ (l : List Event). b.before ++ Start i b.act t ∷ l) is))

  -- a command ends at one point
  pub one_end : IsTrue tells → (i : ℕ) (at bt : List Moment) → EndedAt i old.history now.history at → EndedAt i old.history now.history bt → at ≡ bt
  one_end tell i at bt a b = a.is ∙ (ap (λ (l : List Moment). old.history ++ l) (by_case (split_twice a.before a.after b.before b.after (Happened (Finish i true)) (Happened (Finish i true)) both)) ∙ sym b.is)
    where
      told : IsToldBy own task.graph.edges steps old.events (rest.first ++ rest.later) old.history now.history
      told = rest.history tell

      both : a.before ++ Happened (Finish i true) ∷ a.after ≡ b.before ++ Happened (Finish i true) ∷ b.after
      both = same_rest old.history (a.before ++ Happened (Finish i true) ∷ a.after) (b.before ++ Happened (Finish i true) ∷ b.after) (sym a.splits ∙ b.splits)

      twice : (xs ys zs : List Moment) → told.more ≡ xs ++ Happened (Finish i true) ∷ (ys ++ Happened (Finish i true) ∷ zs) → ⊥
      twice xs ys zs splits = not_ended_again (events_in xs) (events_in ys) (events_in zs) i true true
          (sym told.happened ∙ (ap events_in splits ∙ (events_in-append xs (Happened (Finish i true) ∷ (ys ++ Happened (Finish i true) ∷ zs))
          ∙ ap (λ (l : List Event). events_in xs ++ Finish i true ∷ l) (events_in-append ys (Happened (Finish i true) ∷ zs)))))

      more_is : (ms : List Moment) → now.history ≡ old.history ++ ms → told.more ≡ ms
      more_is ms is = same_rest old.history told.more ms (sym told.grows ∙ is)

      by_case : SplitsApart a.before a.after b.before b.after (Happened (Finish i true)) (Happened (Finish i true)) → a.before ≡ b.before
      by_case (inl same) = same
      by_case (inr (inl (m, is))) = absurd (twice a.before m b.after
          (more_is (a.before ++ Happened (Finish i true) ∷ a.after) a.splits ∙ ap (λ (l : List Moment). a.before ++ Happened (Finish i true) ∷ l) is))
      by_case (inr (inr (m, is))) = absurd (twice b.before m a.after
          (more_is (b.before ++ Happened (Finish i true) ∷ b.after) b.splits ∙ ap (λ (l : List Moment). b.before ++ Happened (Finish i true) ∷ l) is))
