-- What an edge needs is stamped before its command is started.
use Rattle.std.proofs.Common.{◌≡◌, ◌⊎◌, inl, inr, ℕ, suc, ◌<◌, ◌≤◌, max, cond, Bool, true, false, IsTrue, List, [], ◌∷◌, ◌++◌, Option, Some, None, bytes_eq, sym, ◌∙◌, ap, subst, arith, append_assoc}
use Rattle.std.specs.Prelude.{nat_lt}
use Rattle.std.specs.List.{AllByRecursion}
use Rattle.std.proofs.Math.Nat.{le-max_left, le-max_right, max-eq_right}
use Rattle.std.proofs.lemmas.Bool.{cases_Bool, cond-true, cond-false, ltb-true, ltb-false}
use Rattle.model.specs.declared.act.Act.{Act}
use Rattle.model.specs.declared.event.Writer.{Writer}
use Rattle.model.specs.declared.event.Moment.{Moment}
use Rattle.model.specs.declared.event.Event.TheVariants.{Start, Finish}
use Rattle.model.specs.declared.event.Moment.TheVariants.{Wrote, Happened}
use Rattle.model.specs.World.{World, File, written, file_from, file_at, next_from, next_stamp, IsNotAt, IsIdle}
use Rattle.model.specs.Graph.{has_number, maker, IsMadeOnce, IsCommand}
use Rattle.model.specs.Records.{Store, OwnFiles}
use Rattle.model.specs.Schedule.{Step, Judged, done_in}
use Rattle.model.specs.Premises.{FilesAreKept, StampsGrow, Increases}
use Rattle.model.specs.SingleBuild.{Asked, task_of}
use Rattle.theory.specs.Order.{settled_in, IsReadAfter, AreReadFirst}
use Rattle.theory.specs.Run.{IsRunOrRest, IsToldBy}
use Rattle.theory.proofs.Steps.{in_left, settled-append, settled_done, done_settled}
use Rattle.theory.proofs.Lists.{bytes_same, same_bytes}
use Rattle.theory.proofs.Files.{file_from-append}
use Rattle.theory.proofs.Events.{HasStep}
use Rattle.theory.proofs.Ready.{out_of_date_step}
use Rattle.theory.specs.Logged.{WasStamped}
use Rattle.theory.proofs.Starts.{TickedAfter}
use Rattle.theory.proofs.Stamps.{early_file, next_grows, next_from-append, stamp_lies}
use Rattle.theory.proofs.Carried.{settled_stays}

-- ---- no file is stamped later than what may be given next

pub written_stamp : (content : Option (List ℕ)) (stamp : ℕ) (file : File) → written content stamp ≡ Some file → file.stamp ≡ stamp
written_stamp None stamp file is = cc
written_stamp (Some content) stamp file is = cc

stamped_within : (p : List ℕ) (n : ℕ) (held : Option File) → ((file : File) → held ≡ Some file → file.stamp ≤ n) → (ms : List Moment) (file : File) → file_from p held ms ≡ Some file → file.stamp ≤ next_from n ms
stamped_within p n held le [] file is = le file is
stamped_within p n held le (Happened (Start job act stamp) ∷ ms) file is = stamped_within p (max n (suc stamp)) held (λ f at. let low = le f at in omega (arith, low, le-max_left n (suc stamp))) ms file is
stamped_within p n held le (Happened (Finish job ok) ∷ ms) file is = stamped_within p n held le ms file is
stamped_within p n held le (Wrote by path content stamp ∷ ms) file is =
    stamped_within p (max n stamp) (cond (bytes_eq path p) (written content stamp) held)
    (λ f at. elim (cases_Bool (bytes_eq path p)) [
      | inl here ↦
          let same : f.stamp ≡ stamp = written_stamp content stamp f (sym (cond-true (bytes_eq path p) (written content stamp) held here) ∙ at) in
          omega (arith, same, le-max_right n stamp)
      | inr there ↦
          let before : f.stamp ≤ n = le f (sym (cond-false (bytes_eq path p) (written content stamp) held there) ∙ at) in
          omega (arith, before, le-max_left n stamp)
    ]) ms file is

no_file : (file : File) → None ≡ Some file → file.stamp ≤ 0
no_file file is = cc

pub file_within : (history : List Moment) (p : List ℕ) (file : File) → file_at history p ≡ Some file → file.stamp ≤ next_stamp history
file_within history p file is = stamped_within p 0 None no_file history file is

-- stamps grow from each later point too
pub increases_rest : (n : ℕ) (xs ys : List Moment) → Increases n (xs ++ ys) → Increases (next_from n xs) ys
increases_rest n [] ys a = a
increases_rest n (Happened (Start job act stamp) ∷ xs) ys a = increases_rest (max n (suc stamp)) xs ys a
increases_rest n (Happened (Finish job ok) ∷ xs) ys a = increases_rest n xs ys a
increases_rest n (Wrote by path content stamp ∷ xs) ys a =
    subst (λ (k : ℕ). Increases (next_from k xs) ys) (sym (max-eq_right a.0)) (increases_rest stamp xs ys a.1)

pub stamps_since : (old so_far mid new : List Moment) → mid ≡ old ++ so_far → StampsGrow old new → StampsGrow mid new
stamps_since old so_far mid new was grows more is =
    subst (λ (n : ℕ). Increases n more) (sym (ap next_stamp was ∙ next_from-append 0 old so_far))
    (increases_rest (next_stamp old) so_far more (grows (so_far ++ more) (is ∙ (ap (λ (l : List Moment). l ++ more) was ∙ append_assoc old so_far more))))

-- ---- what is written later is stamped later

-- where a file was written since then, it is stamped no earlier than that
pub written_from : (n : ℕ) (before after : List Moment) (by : Writer) (o : List ℕ) (content : Option (List ℕ)) (stamp : ℕ) (held : Option File) → Increases n (before ++ Wrote by o content stamp ∷ after)
    → (file : File) → file_from o held (before ++ Wrote by o content stamp ∷ after) ≡ Some file → n ≤ file.stamp
written_from n before after by o content stamp held grows file is = elim (cases_Bool (nat_lt file.stamp n)) [
  | inl lt ↦
      let early : file.stamp < n = ltb-true file.stamp n lt in
      let was : written content stamp ≡ Some file = early_file o stamp (written content stamp) after rest.1 file there (omega (arith, early, rest.0, next_grows n before)) in
      let same : file.stamp ≡ stamp = written_stamp content stamp file was in
      absurd (omega (arith, early, same, rest.0, next_grows n before))
  | inr other ↦ ltb-false file.stamp n other
]
  where
    rest : Increases (next_from n before) (Wrote by o content stamp ∷ after)
    rest = increases_rest n before (Wrote by o content stamp ∷ after) grows

    there : file_from o (written content stamp) after ≡ Some file
    there =
        sym (file_from-append o held before (Wrote by o content stamp ∷ after)
        ∙ ap (λ (f : Option File). file_from o f after) (cond-true (bytes_eq o o) (written content stamp) (file_from o held before) (bytes_same o)))
        ∙ is

-- moments in which nothing is written at the path, or a write of it
record IsWrittenIn (p : List ℕ) (ms : List Moment) : Type 0 where
  before : List Moment
  by : Writer
  content : Option (List ℕ)
  stamp : ℕ
  after : List Moment
  splits : ms ≡ before ++ Wrote by p content stamp ∷ after

written_or_not : (p : List ℕ) (ms : List Moment) → AllByRecursion (IsNotAt p) ms ⊎ IsWrittenIn p ms
written_or_not p [] = inl tt
written_or_not p (Happened event ∷ ms) = elim (written_or_not p ms) [
  | inl none ↦ inl (tt, none)
  | inr w ↦ inr (record { before = Happened event ∷ w.before; by = w.by; content = w.content; stamp = w.stamp; after = w.after; splits = ap (λ (l : List Moment). Happened event ∷ l) w.splits })
]
written_or_not p (Wrote by path content stamp ∷ ms) = elim (cases_Bool (bytes_eq path p)) [
  | inl here ↦ inr (record { before = []; by = by; content = content; stamp = stamp; after = ms; splits = ap (λ (q : List ℕ). Wrote by q content stamp ∷ ms) (same_bytes path p here) })
  | inr other ↦ elim (written_or_not p ms) [
    | inl none ↦ inl (other, none)
    | inr w ↦ inr (record { before = Wrote by path content stamp ∷ w.before; by = w.by; content = w.content; stamp = w.stamp; after = w.after; splits = ap (λ (l : List Moment). Wrote by path content stamp ∷ l) w.splits })
  ]
]

-- a file that is stamped no later than a start was not written since then
pub unwritten_since : (old new before after : List Moment) (i : ℕ) (act : Act) (stamp : ℕ) → new ≡ old ++ (before ++ Happened (Start i act stamp) ∷ after) → StampsGrow old new
    → (p : List ℕ) (file : File) → file_at new p ≡ Some file → file.stamp ≤ stamp → AllByRecursion (IsNotAt p) after
unwritten_since old new before after i act stamp splits stamps p file is early = elim (written_or_not p after) [
  | inl none ↦ none
  | inr w ↦ absurd (late w)
]
  where
    grows : Increases (max (next_from (next_stamp old) before) (suc stamp)) after
    grows = increases_rest (next_stamp old) before (Happened (Start i act stamp) ∷ after) (stamps (before ++ Happened (Start i act stamp) ∷ after) splits)

    there : file_from p (file_from p (file_at old p) before) after ≡ Some file
    there = sym (ap (λ (h : List Moment). file_at h p) splits
        ∙ (file_from-append p None old (before ++ Happened (Start i act stamp) ∷ after) ∙ file_from-append p (file_at old p) before (Happened (Start i act stamp) ∷ after))) ∙ is

    late : IsWrittenIn p after → ⊥
    late w =
        let from = written_from (max (next_from (next_stamp old) before) (suc stamp)) w.before w.after w.by p w.content w.stamp (file_from p (file_at old p) before)
        (subst (λ (l : List Moment). Increases (max (next_from (next_stamp old) before) (suc stamp)) l) w.splits grows) file
        (ap (λ (l : List Moment). file_from p (file_from p (file_at old p) before) l) (sym w.splits) ∙ there) in
        omega (arith, from, early, le-max_right (next_from (next_stamp old) before) (suc stamp))

module _ (tells : Bool) (own : OwnFiles) (asked : Asked) (store : Store) (steps : List Step) (old now : World)
    (tell : IsTrue tells) (idle : IsIdle old.events) (once : IsMadeOnce asked.graph.edges)
    (last : IsRunOrRest tells own (task_of asked store) steps old now) (files : FilesAreKept own asked.graph.edges old.history now.history) (stamps : StampsGrow old.history now.history)
    (i stamp : ℕ) (ticked : TickedAfter tells own (task_of asked store) steps i stamp old now) where
  told : IsToldBy own asked.graph.edges ticked.done old.events (ticked.run.first ++ ticked.run.later) old.history ticked.mid.history
  told = ticked.run.history tell

  was_stamped : WasStamped stamp ticked.mid.history now.history
  was_stamped = record {
    before = ticked.stamped.before;
    by = ticked.stamped.by;
    path = ticked.stamped.path;
    content = ticked.stamped.content;
    between = ticked.stamped.between;
    job = i;
    act = ticked.stamped.act;
    after = ticked.stamped.after;
    splits = ticked.stamped.splits;
  }

  -- what was settled before the tick is stamped no later
  pub settled_early : (p : List ℕ) → own.set p ≡ false → files.free p ≡ false → ((j : ℕ) → maker asked.graph.edges p ≡ Some j → IsCommand asked.graph.edges j → has_number (done_in ticked.done) j ≡ true) → (file : File) → file_at now.history p ≡ Some file → file.stamp ≤ stamp
  settled_early p outside bound settled file is =
      let same = settled_stays tells own asked store ticked.done ticked.later old ticked.mid now (was_stamped.before ++ Wrote was_stamped.by was_stamped.path was_stamped.content stamp ∷ (was_stamped.between ++ Happened (Start was_stamped.job was_stamped.act stamp) ∷ was_stamped.after)) tell idle once
      ticked.run (subst (λ (l : List Step). IsRunOrRest tells own (task_of asked store) l old now) ticked.splits last) was_stamped.splits files p outside bound settled in
      let within = file_within ticked.mid.history p file (sym same ∙ is) in
      let lies = stamp_lies stamp ticked.mid.history now.history was_stamped (stamps_since old.history told.more ticked.mid.history now.history told.grows stamps) in
      omega (arith, within, lies.0)

  -- the commands that make what the edge reads were done then
  pub reads_early : (Reads : ℕ → List ℕ → Type 0) → AreReadFirst asked.graph.edges Reads steps → IsReadAfter asked.graph.edges Reads (done_in ticked.done) i
  reads_early Reads first p j reads made command = by_step (out_of_date_step ticked.done i ticked.judged)
    where
      by_step : HasStep ticked.done (Judged i true) → has_number (done_in ticked.done) j ≡ true
      by_step step =
          let all : steps ≡ step.before ++ Judged i true ∷ (step.after ++ ticked.later) =
          ticked.splits ∙ (ap (λ (l : List Step). l ++ ticked.later) step.splits ∙ append_assoc step.before (Judged i true ∷ step.after) ticked.later) in
          let done = first step.before (step.after ++ ticked.later) i true all p j reads made command in
          subst (λ (l : List Step). has_number (done_in l) j ≡ true) (sym step.splits)
          (settled_done (step.before ++ Judged i true ∷ step.after) j
          (in_left settled_in settled-append step.before (Judged i true ∷ step.after) j (done_settled step.before j done)))
