-- The beginning of a build behind another one, where what counts does so soundly.
use Rattle.std.proofs.Common.{◌≡◌, ◌⊎◌, inl, inr, ℕ, ◌<◌, ◌≤◌, ◌||◌, Bool, true, false, List, [], ◌∷◌, Option, Some, None, bytes_eq, refl, sym, ◌∙◌, ap, subst, arith}
use Rattle.std.proofs.Math.Logic.{∥∥₁_elim}
use Rattle.std.proofs.Props.{props}
use Rattle.std.proofs.lemmas.List.{append-nil}
use Rattle.std.proofs.lemmas.Bool.{false≢true, cases_Bool, cond-true, cond-false}
use Rattle.model.specs.declared.event.Moment.{Moment}
use Rattle.model.specs.declared.event.Writer.{Writer}
use Rattle.model.specs.declared.event.Writer.TheVariants.{Someone}
use Rattle.model.specs.declared.graph.Edge.{Edge}
use Rattle.model.specs.World.{World, File, IsIdle, written, file_after, file_from, file_at, content_of, next_stamp, view_of, runs}
use Rattle.model.specs.Calls.{AllByOthers, OthersWrote}
use Rattle.model.specs.Graph.{has, outputs}
use Rattle.model.specs.Outcome.{Behaviour}
use Rattle.model.specs.Records.{LogFormat, Made, OwnFiles, Store, in_force, read_log, store_in}
use Rattle.model.specs.Faithful.{IsFaithfulRecord, IsFaithfulStore, IsReadable, DepsHaveStarted}
use Rattle.theory.proofs.Lists.{same_bytes, bytes_same, same_some, some_none}
use Rattle.theory.proofs.Files.{file_from-append}
use Rattle.theory.proofs.Stamps.{next_later}
use Rattle.seen_law.specs.Retold.{Telling, stamp_or, wrote_as, with_history, retold, BeginsSo}
use Rattle.seen_law.specs.Meanwhile.{counted_at, edits, told_next, no_command, CountRightly}
use Rattle.seen_true.specs.Soundly.{CountSoundly, IsLaterThanRecords, NextBeginsSoundly, RightlyIsSoundly, WasTold}

-- what a view holds is the same in one way
one_view : (a b : Option (List ℕ)) → IsProp (a ≡ b)
one_view a b = hlevel props

-- ---- one write

written_as : (file : Option File) (stamp : ℕ) → written (content_of file) (stamp_or stamp file) ≡ file
written_as None stamp = refl
written_as (Some file) stamp = refl

wrote_here : (by : Writer) (p : List ℕ) (file now : Option File) (stamp : ℕ) → file_after p now (wrote_as by p file stamp) ≡ file
wrote_here by p file now stamp = cond-true (bytes_eq p p) (written (content_of file) (stamp_or stamp file)) now (bytes_same p) ∙ written_as file stamp

wrote_there : (by : Writer) (q p : List ℕ) (file now : Option File) (stamp : ℕ) → bytes_eq q p ≡ false → file_after p now (wrote_as by q file stamp) ≡ now
wrote_there by q p file now stamp there = cond-false (bytes_eq q p) (written (content_of file) (stamp_or stamp file)) now there

module _ (t : Telling) (told real : List Moment) where
  -- where what counts stands already, it stands behind all writes of what counts
  stands : (p : List ℕ) (paths : List (List ℕ)) → file_from p (counted_at t real p) (edits t told real paths) ≡ counted_at t real p
  stands p [] = refl
  stands p (q ∷ paths) = ap (λ (f : Option File). file_from p f (edits t told real paths)) one ∙ stands p paths
    where
      one : file_after p (counted_at t real p) (wrote_as Someone q (counted_at t real q) (next_stamp told)) ≡ counted_at t real p
      one = elim (cases_Bool (bytes_eq q p)) [
        | inl here ↦ subst (λ (r : List ℕ). file_after p (counted_at t real p) (wrote_as Someone r (counted_at t real r) (next_stamp told)) ≡ counted_at t real p) (sym (same_bytes q p here))
            (wrote_here Someone p (counted_at t real p) (counted_at t real p) (next_stamp told))
        | inr there ↦ wrote_there Someone q p (counted_at t real q) (counted_at t real p) (next_stamp told) there
      ]

  -- a path of the list is written
  writes_one : (p : List ℕ) (file : Option File) (paths : List (List ℕ)) → has paths p ≡ true → file_from p file (edits t told real paths) ≡ counted_at t real p
  writes_one p file [] is = absurd (false≢true is)
  writes_one p file (q ∷ paths) is = elim (cases_Bool (bytes_eq q p)) [
    | inl here ↦ ap (λ (f : Option File). file_from p f (edits t told real paths))
        (subst (λ (r : List ℕ). file_after p file (wrote_as Someone r (counted_at t real r) (next_stamp told)) ≡ counted_at t real p) (sym (same_bytes q p here))
        (wrote_here Someone p (counted_at t real p) file (next_stamp told)))
        ∙ stands p paths
    | inr there ↦ ap (λ (f : Option File). file_from p f (edits t told real paths)) (wrote_there Someone q p (counted_at t real q) file (next_stamp told) there)
        ∙ writes_one p file paths (sym (ap (λ (b : Bool). b || has paths p) there) ∙ is)
  ]

  -- no other path is
  leaves_one : (p : List ℕ) (file : Option File) (paths : List (List ℕ)) → has paths p ≡ false → file_from p file (edits t told real paths) ≡ file
  leaves_one p file [] is = refl
  leaves_one p file (q ∷ paths) is = elim (cases_Bool (bytes_eq q p)) [
    | inl here ↦ absurd (false≢true (sym is ∙ ap (λ (b : Bool). b || has paths p) here))
    | inr there ↦ ap (λ (f : Option File). file_from p f (edits t told real paths)) (wrote_there Someone q p (counted_at t real q) file (next_stamp told) there)
        ∙ leaves_one p file paths (sym (ap (λ (b : Bool). b || has paths p) there) ∙ is)
  ]

  by_others : (running : ℕ → Type 0) (paths : List (List ℕ)) → AllByOthers running (edits t told real paths)
  by_others running [] = tt
  by_others running (q ∷ paths) = (tt, by_others running paths)

module _ (B : Behaviour) (format : LogFormat) (own : OwnFiles) (edges others : List Edge) (t : Telling) (last entry : World) (told : List Moment) (paths : List (List ℕ))
    (was : last.history ≡ told) (idle : IsIdle entry.events) (soundly : CountSoundly format own t told entry.history paths) (faithful : IsFaithfulStore B format own edges last) where
  abbrev next : List Moment
  next = told_next t told entry.history paths

  begins : BeginsSo t entry.history next
  begins p = file_from-append p None told (edits t told entry.history paths) ∙ elim (cases_Bool (has paths p)) [
    | inl listed ↦ writes_one t told entry.history p (file_at told p) paths listed
    | inr not_listed ↦ leaves_one t told entry.history p (file_at told p) paths not_listed ∙ soundly.elsewhere p not_listed
  ]

  wrote : OthersWrote no_command told next
  wrote = record { more = edits t told entry.history paths; grows = refl; all = by_others t told entry.history no_command paths }

  -- what the log holds
  log_same : (log : List ℕ) → content_of (counted_at t entry.history log) ≡ view_of told log → view_of next log ≡ view_of told log
  log_same log holds = ap content_of (begins log) ∙ holds

  abbrev before : Store
  before = store_in format own (view_of told)

  same : store_in format own (view_of next) ≡ before
  same = λ i. record { records = read_log format.records (log_same own.build_log soundly.build_log i); deps = read_log format.deps (log_same own.deps_log soundly.deps_log i) }

  later : next_stamp told ≤ next_stamp next
  later = next_later told next (edits t told entry.history paths) refl

  -- the records as they were told
  abbrev Believed : List Moment → Type 0
  Believed history = (o : List ℕ) (made : Made) → in_force (store_in format own (view_of history)).records o ≡ Some made
      → IsFaithfulRecord B (store_in format own (view_of history)) history o made × (own.set o ≡ false)

  believed : Believed told
  believed = subst Believed was faithful.records

  some_content : (file : Option File) (content : List ℕ) → content_of file ≡ Some content → (found : File) × (file ≡ Some found) × (found.content ≡ content)
  some_content None content is = absurd (some_none content (sym is))
  some_content (Some file) content is = (file, refl, same_some file.content content is)

  module _ (o : List ℕ) (made : Made) (is : in_force before.records o ≡ Some made) where
    abbrev held : IsFaithfulRecord B before told o made
    held = (believed o made is).0

    not_both : (stamp : ℕ) → stamp ≤ made.start → made.start < stamp → ⊥
    not_both stamp no_later late = absurd (omega (arith, no_later, late))

    by_case : (p : List ℕ) (file : File) → file.stamp ≤ made.start → WasTold told p file ⊎ IsLaterThanRecords format own told file.stamp → held.seen p ≡ Some file.content
    by_case p file no_later (inl told_so) = held.older p told_so.was told_so.there (omega (arith, no_later, told_so.no_later)) ∙ ap Some told_so.holds
    by_case p file no_later (inr late) = absurd (not_both file.stamp no_later (late o made is))

    by_file : (p : List ℕ) (file : File) → file.stamp ≤ made.start → ∥ WasTold told p file ⊎ IsLaterThanRecords format own told file.stamp ∥₁ → held.seen p ≡ Some file.content
    by_file p file no_later so = ∥∥₁_elim so (one_view (held.seen p) (Some file.content)) (by_case p file no_later)

    record_stays : IsFaithfulRecord B before next o made
    record_stays = record {
      seen = held.seen;
      well = held.well;
      holds = λ content there.
          let found = some_content (counted_at t entry.history o) content (ap content_of (sym (begins o)) ∙ there) in
          held.holds content (soundly.outputs o made is found.0 found.1 ∙ ap Some found.2);
      reports = held.reports;
      older = λ p file there no_later. by_file p file no_later (soundly.files p file (sym (begins p) ∙ there));
      clock = omega (arith, held.clock, later);
    }

  abbrev RecordsIn : Store → Type 0
  RecordsIn store = (o : List ℕ) (made : Made) → in_force store.records o ≡ Some made → IsFaithfulRecord B store next o made × (own.set o ≡ false)

  records_stay : RecordsIn before
  records_stay o made is = (record_stays o made is, (believed o made is).1)

  deps_stay : DepsHaveStarted before next
  deps_stay o deps is =
      let held_deps : deps.start < next_stamp told = subst (λ (h : List Moment). DepsHaveStarted (store_in format own (view_of h)) h) was faithful.deps o deps is in
      omega (arith, held_deps, later)

  readable : {A : Type 0} (reading : List ℕ → Option (List A)) (log : List ℕ) → content_of (counted_at t entry.history log) ≡ view_of told log → IsReadable reading (view_of last.history log) → IsReadable reading (view_of next log)
  readable reading log holds is =
      subst (IsReadable reading) (sym (log_same log holds)) (subst (λ (h : List Moment). IsReadable reading (view_of h log)) was is)

  stays : IsFaithfulStore B format own others (with_history next entry)
  stays = record {
    build_log = readable format.records own.build_log soundly.build_log faithful.build_log;
    deps_log = readable format.deps own.deps_log soundly.deps_log faithful.deps_log;
    records = subst RecordsIn (sym same) records_stay;
    deps = subst (λ (s : Store). DepsHaveStarted s next) (sym same) deps_stay;
    running = λ job o runs makes. absurd (false≢true (sym (idle job) ∙ runs));
  }

  stays_told : IsFaithfulStore B format own others (retold t entry.history next [] entry)
  stays_told = subst (λ (h : List Moment). IsFaithfulStore B format own others (with_history h entry)) (sym (append-nil next)) stays

pub begins_law : NextBeginsSoundly
begins_law B format own edges others t last entry told paths was idle soundly faithful = (
  begins B format own edges others t last entry told paths was idle soundly faithful,
  wrote B format own edges others t last entry told paths was idle soundly faithful,
  stays_told B format own edges others t last entry told paths was idle soundly faithful,
)

-- ---- it is less than is asked

module _ (B : Behaviour) (format : LogFormat) (own : OwnFiles) (edges : List Edge) (t : Telling) (last : World) (real : List Moment) (paths : List (List ℕ))
    (faithful : IsFaithfulStore B format own edges last) (rightly : CountRightly format own t last.history real paths) where
  one_file : (p : List ℕ) (file : File) → (file_at last.history p ≡ Some file) ⊎ (next_stamp last.history ≤ file.stamp) → WasTold last.history p file ⊎ IsLaterThanRecords format own last.history file.stamp
  one_file p file (inl there) = inl (record { was = file; there = there; holds = refl; no_later = omega arith })
  one_file p file (inr late) = inr (λ o made is. let held = (faithful.records o made is).0 in omega (arith, held.clock, late))

  is_sound : CountSoundly format own t last.history real paths
  is_sound = record {
    build_log = rightly.build_log;
    deps_log = rightly.deps_log;
    elsewhere = rightly.elsewhere;
    files = λ p file is. ∣ one_file p file (rightly.files p file is) ∣₁;
    outputs = rightly.outputs;
  }

pub rightly_law : RightlyIsSoundly
rightly_law B format own edges t last real paths faithful rightly = is_sound B format own edges t last real paths faithful rightly
