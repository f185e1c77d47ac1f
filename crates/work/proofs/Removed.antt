-- What becomes of the files of commands that ended well goes on over the calls of a site.
use Rattle.std.proofs.Common.{◌≡◌, ◌≢◌, inl, inr, ℕ, ◌==◌, Bool, true, false, IsTrue, List, [], ◌∷◌, ◌++◌, Option, Some, None, bytes_eq, refl, sym, ◌∙◌, ap, subst}
use Rattle.std.specs.List.{AllByRecursion}
use Rattle.std.proofs.lemmas.Bool.{false≢true, cases_Bool, eqb-true, eq-eqb}
use Rattle.model.specs.declared.event.Event.{Event}
use Rattle.model.specs.declared.event.Event.TheVariants.{Finish}
use Rattle.model.specs.declared.event.Moment.{Moment}
use Rattle.model.specs.declared.event.Moment.TheVariants.{Happened}
use Rattle.model.specs.declared.graph.Deps.TheVariants.{Unset, Gcc}
use Rattle.model.specs.declared.graph.Edge.{Edge}
use Rattle.model.specs.World.{World, file_at, content_of, view_of, IsRunning, events_in}
use Rattle.model.specs.Calls.{AllByOthers, Adds, OnlyLooks, Writes}
use Rattle.model.specs.Graph.{has_number, edge_at, IsCommand}
use Rattle.model.specs.Records.{OwnFiles}
use Rattle.model.specs.Schedule.{Step as Done, well_in}
use Rattle.model.specs.Premises.{FilesAreKept, OwnFilesApart, IsWithinEdge, IsNoEdit, EndedAt}
use Rattle.theory.proofs.Lists.{all_parts, all_append, same_bytes, bytes_same}
use Rattle.theory.proofs.Files.{IsElsewhere, file_stays}
use Rattle.theory.proofs.Looks.{kept_before}
use Rattle.theory.proofs.Moments.{events_in-append}
use Rattle.theory.proofs.Starting.{IsPrivate, OthersRun, since, private_elsewhere, private_written}
use Rattle.theory.specs.Writes.{GrewAt}
use Rattle.theory.specs.Ledger.{HoldsStill}
use Rattle.theory.proofs.JudgedAtExit.{ended_back}
use Rattle.theory.proofs.Ledger.{GrewBy, grew_at, grew_adding}
use Rattle.theory.proofs.Writing.{at_elsewhere, looks_at}
use Rattle.work.specs.Removing.{DepfilesStay, AreRemoved}

-- ---- one path

-- a file of edge i, whose command does not run, over one call
module _ (tells : Bool) (own : OwnFiles) (edges : List Edge) (first now new : World) (grown : IsTrue tells → (so_far : List Moment) × (now.history ≡ first.history ++ so_far))
    (i : ℕ) (command : IsCommand edges i) (before : OthersRun edges i (IsRunning now.events)) (q : List ℕ) (private : IsPrivate edges i q) (held : Option (List ℕ)) where
  abbrev Holds : World → Type 0
  Holds world = HoldsStill tells own edges q held first world

  theirs : (files : FilesAreKept own edges first.history new.history) (running : ℕ → Type 0) → OthersRun edges i running → (ms : List Moment) → AllByOthers running ms → AllByRecursion (IsWithinEdge files.free edges) ms → AllByRecursion (IsNoEdit files.free) ms → AllByRecursion (IsElsewhere q) ms
  theirs files running others ms all within edits = private_elsewhere own edges files.own_files files.free files.free_apart i command q private running others ms all within edits

  -- where all that is written is elsewhere
  stays_by : (tell : IsTrue tells) (more : List Moment) → new.history ≡ now.history ++ more
      → ((files : FilesAreKept own edges first.history new.history) → AllByRecursion (IsWithinEdge files.free edges) more → AllByRecursion (IsNoEdit files.free) more → AllByRecursion (IsElsewhere q) more)
      → Holds now → Holds new
  stays_by tell more grows each holds told files =
      ap content_of (ap (λ (h : List Moment). file_at h q) grows
      ∙ file_stays q now.history more (each files (since (IsWithinEdge files.free edges) first.history (grown tell).0 now.history more new.history (grown tell).1 grows files.commands)
      (since (IsNoEdit files.free) first.history (grown tell).0 now.history more new.history (grown tell).1 grows files.edits)))
      ∙ holds tell (kept_before own edges first.history now.history new.history more grows files)

  -- the program writes at another path alone
  stays_at : (path : List ℕ) → (FilesAreKept own edges first.history new.history → path ≢ q) → (IsTrue tells → GrewAt path (IsRunning now.events) now.history new.history) → Holds now → Holds new
  stays_at path apart grew holds tell =
      let call = grew tell in
      stays_by tell call.more call.grows (λ files within edits. at_elsewhere files.free edges (IsRunning now.events) path q (apart files) (theirs files (IsRunning now.events) before) call.more call.all within edits) holds tell

  -- a command is started or taken in
  stays_adds : OthersRun edges i (IsRunning new.events) → (event : Event) → (IsTrue tells → Adds (IsRunning now.events) (IsRunning new.events) (Happened event) now.history new.history) → Holds now → Holds new
  stays_adds after event adds holds tell =
      let call = adds tell in
      stays_by tell (call.earlier ++ Happened event ∷ call.later) call.grows (λ files within edits.
      let w = all_parts (IsWithinEdge files.free edges) call.earlier (Happened event ∷ call.later) within in
      let e = all_parts (IsNoEdit files.free) call.earlier (Happened event ∷ call.later) edits in
      all_append (IsElsewhere q) call.earlier (Happened event ∷ call.later) (theirs files (IsRunning now.events) before call.earlier call.all_earlier w.0 e.0)
      (tt, theirs files (IsRunning new.events) after call.later call.all_later w.1.1 e.1.1)) holds tell

-- the program removes it
pub is_removed : (tells : Bool) (own : OwnFiles) (edges : List Edge) (first now new : World) (grown : IsTrue tells → (so_far : List Moment) × (now.history ≡ first.history ++ so_far))
    (i : ℕ) (command : IsCommand edges i) (before : OthersRun edges i (IsRunning now.events)) (q : List ℕ) (private : IsPrivate edges i q) → Writes tells q None now new → HoldsStill tells own edges q None first new
is_removed tells own edges first now new grown i command before q private writes tell =
    let call = writes.history tell in
    private_written own edges first.history (grown tell).0 now.history new.history (grown tell).1 i command q private (IsRunning now.events) before None call.0 call.1

-- ---- a depfile since the end of its command

-- it holds what it held then
abbrev pub StaysSinceEnd : Bool → OwnFiles → List Edge → World → ℕ → World → Type 0
StaysSinceEnd tells own edges first i world =
    (at : List Moment) → EndedAt i first.history world.history at → HoldsStill tells own edges (edge_at edges i).act.depfile (view_of at (edge_at edges i).act.depfile) first world

-- so it does over a call in which it stays, and that command does not end
stays_since : (tells : Bool) (own : OwnFiles) (edges : List Edge) (first now new : World) (grown : IsTrue tells → (so_far : List Moment) × (now.history ≡ first.history ++ so_far)) (i : ℕ)
    (es : List Event) → ((xs ys : List Event) → es ≡ xs ++ Finish i true ∷ ys → ⊥) → (IsTrue tells → GrewBy es now.history new.history)
    → ((held : Option (List ℕ)) → HoldsStill tells own edges (edge_at edges i).act.depfile held first now → HoldsStill tells own edges (edge_at edges i).act.depfile held first new)
    → StaysSinceEnd tells own edges first i now → StaysSinceEnd tells own edges first i new
stays_since tells own edges first now new grown i es none grew keeps stays at ended tell files =
    keeps (view_of at (edge_at edges i).act.depfile) (λ t. stays at (ended_now t) t) tell files
  where
    ended_now : IsTrue tells → EndedAt i first.history now.history at
    ended_now t = elim (ended_back i at first.history (grown t).0 now.history (grew t).more new.history (grown t).1 (grew t).grows ended) [
      | inl before ↦ before
      | inr (before, after, is, splits) ↦ absurd (none (events_in before) (events_in after) (sym (grew t).happened ∙ (ap events_in splits ∙ events_in-append before (Happened (Finish i true) ∷ after))))
    ]

none_ends : (i : ℕ) (xs ys : List Event) → [] ≡ xs ++ Finish i true ∷ ys → ⊥
none_ends i [] ys is = cc
none_ends i (x ∷ xs) ys is = cc

-- ---- the files of all commands that ended well

-- an edge that ended well is that of a command, which does not run
abbrev pub WellRest : List Edge → List Done → World → Type 0
WellRest edges steps now = (i : ℕ) → has_number (well_in steps) i ≡ true → IsCommand edges i × OthersRun edges i (IsRunning now.events)

-- no response file is the depfile of another edge
no_depfile : (own : OwnFiles) (edges : List Edge) → OwnFilesApart own edges → (j : ℕ) → IsCommand edges j → (i : ℕ) → IsCommand edges i → i ≢ j → (edge_at edges i).act.depfile ≢ [] → (edge_at edges j).act.response_path ≢ (edge_at edges i).act.depfile
no_depfile own edges files j command i theirs other named same = (files.apart i j theirs command other).2 named (sym same)

module _ (tells : Bool) (own : OwnFiles) (edges : List Edge) (steps : List Done) (first now new : World) (grown : IsTrue tells → (so_far : List Moment) × (now.history ≡ first.history ++ so_far)) (rest : WellRest edges steps now) where
  abbrev response : ℕ → List ℕ
  response i = (edge_at edges i).act.response_path

  abbrev depfile : ℕ → List ℕ
  depfile i = (edge_at edges i).act.depfile

  response_of : (i : ℕ) → response i ≢ [] → IsPrivate edges i (response i)
  response_of i named = record { named = named; is = inr refl }

  depfile_of : (i : ℕ) → depfile i ≢ [] → IsPrivate edges i (depfile i)
  depfile_of i named = record { named = named; is = inl refl }

  abbrev Kept : Type 0
  Kept = FilesAreKept own edges first.history new.history

  abbrev Removed : Option ℕ → World → Type 0
  Removed hand world = AreRemoved tells own edges steps hand first world

  abbrev Well : ℕ → Type 0
  Well i = has_number (well_in steps) i ≡ true

  abbrev Grew : List ℕ → Type 0
  Grew path = IsTrue tells → GrewAt path (IsRunning now.events) now.history new.history

  stay_at : (path : List ℕ) → Grew path → (i : ℕ) → Well i → depfile i ≢ [] → (Kept → path ≢ depfile i) → StaysSinceEnd tells own edges first i now → StaysSinceEnd tells own edges first i new
  stay_at path grew i well named apart =
      stays_since tells own edges first now new grown i [] (none_ends i) (λ tell. grew_at path (IsRunning now.events) now.history new.history (grew tell))
      (λ held. stays_at tells own edges first now new grown i (rest i well).0 (rest i well).1 (depfile i) (depfile_of i named) held path apart grew)

  module _ (hand : Option ℕ) (removed : Removed hand now) where
    abbrev Free : ℕ → Type 0
    Free i = hand ≡ Some i → ⊥

    responses_at : (path : List ℕ) → Grew path → (i : ℕ) → Well i → Free i → (named : response i ≢ []) → (Kept → path ≢ response i) → HoldsStill tells own edges (response i) None first new
    responses_at path grew i well free named apart =
        stays_at tells own edges first now new grown i (rest i well).0 (rest i well).1 (response i) (response_of i named) None path apart grew (removed.responses i well free named)

    depfiles_at : (path : List ℕ) → Grew path → (i : ℕ) → Well i → Free i → (edge_at edges i).deps ≡ Gcc → (named : depfile i ≢ []) → (Kept → path ≢ depfile i) → HoldsStill tells own edges (depfile i) None first new
    depfiles_at path grew i well free gcc named apart =
        stays_at tells own edges first now new grown i (rest i well).0 (rest i well).1 (depfile i) (depfile_of i named) None path apart grew (removed.depfiles i well free gcc named)

    -- the program writes at a path that is none of those
    removed_at : (path : List ℕ) → Grew path → ((i : ℕ) → Well i → response i ≢ [] → Kept → path ≢ response i) → ((i : ℕ) → Well i → depfile i ≢ [] → Kept → path ≢ depfile i) → Removed hand new
    removed_at path grew no_response none_told = record {
      responses = λ i well free named. responses_at path grew i well free named (no_response i well named);
      depfiles = λ i well free gcc named. depfiles_at path grew i well free gcc named (none_told i well named);
      stay = λ i well unset named two. stay_at path grew i well named (none_told i well named) (removed.stay i well unset named two);
    }

    -- calls that only look
    pub removed_looks : OnlyLooks tells now new → Removed hand new
    removed_looks looks = removed_at [] (looks_at tells [] now new looks).history (λ i well named files none. named (sym none)) (λ i well named files none. named (sym none))

    -- it writes one of its own files: a tick, a log
    pub removed_own : (path : List ℕ) → own.files path ≡ true → Grew path → Removed hand new
    removed_own path mine grew = removed_at path grew
        (λ i well named files same. false≢true (sym (files.own_files.responses i (rest i well).0).1 ∙ (ap own.files (sym same) ∙ mine)))
        (λ i well named files same. false≢true (sym (files.own_files.depfiles i (rest i well).0).1 ∙ (ap own.files (sym same) ∙ mine)))

    module _ (j : ℕ) (is : hand ≡ Some j) (command : IsCommand edges j) where
      other_than : (i : ℕ) → Free i → j ≢ i
      other_than i free here = free (is ∙ ap (λ (n : ℕ). Some n) here)

      -- it writes or removes the response file of the edge in hand
      other_responses : (i : ℕ) → Well i → Free i → response i ≢ [] → Kept → response j ≢ response i
      other_responses i well free named files same = (files.own_files.apart j i command (rest i well).0 (other_than i free)).1 (λ none. named (sym same ∙ none)) same

      -- which is no depfile of another edge
      told_elsewhere : (i : ℕ) → Well i → Free i → depfile i ≢ [] → Kept → response j ≢ depfile i
      told_elsewhere i well free named files = no_depfile own edges files.own_files j command i (rest i well).0 (λ one. other_than i free (sym one)) named

      -- and not its own, where they are two paths
      told_apart : (i : ℕ) → Well i → depfile i ≢ [] → depfile i ≢ response i → Kept → response j ≢ depfile i
      told_apart i well named two files same = elim (cases_Bool (j == i)) [
        | inl here ↦ two (sym same ∙ ap response (eqb-true j i here))
        | inr apart ↦ no_depfile own edges files.own_files j command i (rest i well).0 (λ one. false≢true (sym apart ∙ eq-eqb j i (sym one))) named same
      ]

      pub removed_response : Grew (response j) → Removed hand new
      removed_response grew = record {
        responses = λ i well free named. responses_at (response j) grew i well free named (other_responses i well free named);
        depfiles = λ i well free gcc named. depfiles_at (response j) grew i well free gcc named (told_elsewhere i well free named);
        stay = λ i well unset named two. stay_at (response j) grew i well named (told_apart i well named two) (removed.stay i well unset named two);
      }

      -- it removes the depfile of the edge in hand, or not, but leaves one alone that is to stay behind a good end
      pub removed_depfile : (Well j → (edge_at edges j).deps ≡ Unset → new ≡ now) → Grew (depfile j) → Removed hand new
      removed_depfile spares grew = record {
        responses = λ i well free named. responses_at (depfile j) grew i well free named (λ files same. no_depfile own edges files.own_files i (rest i well).0 j command (other_than i free) (λ none. named (sym same ∙ none)) (sym same));
        depfiles = λ i well free gcc named. depfiles_at (depfile j) grew i well free gcc named (other_depfiles i well (other_than i free) named);
        stay = λ i well unset named two. elim (cases_Bool (j == i)) [
          | inl here ↦ left_alone i (eqb-true j i here) well unset (removed.stay i well unset named two)
          | inr apart ↦ stay_at (depfile j) grew i well named (other_depfiles i well (λ one. false≢true (sym apart ∙ eq-eqb j i one)) named) (removed.stay i well unset named two)
        ];
      }
        where
          other_depfiles : (i : ℕ) → Well i → j ≢ i → depfile i ≢ [] → Kept → depfile j ≢ depfile i
          other_depfiles i well other named files same = (files.own_files.apart j i command (rest i well).0 other).0 (λ none. named (sym same ∙ none)) same

          left_alone : (i : ℕ) → j ≡ i → Well i → (edge_at edges i).deps ≡ Unset → StaysSinceEnd tells own edges first i now → StaysSinceEnd tells own edges first i new
          left_alone i one well unset stays =
              subst (λ (w : World). StaysSinceEnd tells own edges first i w) (sym {A = World} (spares (subst (λ (n : ℕ). Well n) (sym one) well) (ap (λ (n : ℕ). (edge_at edges n).deps) one ∙ unset))) stays

      -- it removes the response file of the edge in hand, which is in hand no more; its depfile is gone, where it is not to stay
      pub removed_last : ((edge_at edges j).deps ≡ Gcc → depfile j ≢ [] → HoldsStill tells own edges (depfile j) None first now) → (response j ≢ [] → Writes tells (response j) None now new) → Grew (response j) → Removed None new
      removed_last gone writes grew = record {
        responses = λ i well none named. elim (cases_Bool (j == i)) [
          | inl here ↦ response_gone i (eqb-true j i here) well named
          | inr apart ↦ responses_at (response j) grew i well (free i apart) named (other_responses i well (free i apart) named)
        ];
        depfiles = λ i well none gcc named. elim (cases_Bool (j == i)) [
          | inl here ↦ depfile_gone i (eqb-true j i here) well gcc named
          | inr apart ↦ depfiles_at (response j) grew i well (free i apart) gcc named (told_elsewhere i well (free i apart) named)
        ];
        stay = (removed_response grew).stay;
      }
        where
          some_same : (m n : ℕ) → Some m ≡ Some n → m ≡ n
          some_same m n same = cc

          free : (i : ℕ) → (j == i) ≡ false → Free i
          free i apart held =
              let same : j ≡ i = some_same j i (sym is ∙ held) in
              false≢true (sym apart ∙ eq-eqb j i same)

          response_gone : (i : ℕ) → j ≡ i → Well i → response i ≢ [] → HoldsStill tells own edges (response i) None first new
          response_gone i one well named = is_removed tells own edges first now new grown i (rest i well).0 (rest i well).1 (response i) (response_of i named)
              (subst (λ (n : ℕ). response n ≢ [] → Writes tells (response n) None now new) one writes named)

          depfile_gone : (i : ℕ) → j ≡ i → Well i → (edge_at edges i).deps ≡ Gcc → depfile i ≢ [] → HoldsStill tells own edges (depfile i) None first new
          depfile_gone i one well gcc named = elim (cases_Bool (bytes_eq (response j) (depfile i))) [
            | inl here ↦
                let same : response j ≡ depfile i = same_bytes (response j) (depfile i) here in
                is_removed tells own edges first now new grown i (rest i well).0 (rest i well).1 (depfile i) (depfile_of i named)
                (subst (λ (q : List ℕ). Writes tells q None now new) same (writes (λ none. named (sym same ∙ none))))
            | inr two ↦ stays_at tells own edges first now new grown i (rest i well).0 (rest i well).1 (depfile i) (depfile_of i named) None (response j)
                (λ files same. false≢true (sym two ∙ subst (λ (q : List ℕ). bytes_eq (response j) q ≡ true) same (bytes_same (response j)))) grew
                (subst (λ (n : ℕ). (edge_at edges n).deps ≡ Gcc → depfile n ≢ [] → HoldsStill tells own edges (depfile n) None first now) one gone gcc named)
          ]

    -- a command is started or taken in
    module _ (many : List Done) (next : Option ℕ) (after : WellRest edges many new) (event : Event) (adds : IsTrue tells → Adds (IsRunning now.events) (IsRunning new.events) (Happened event) now.history new.history) where
      -- the depfile of one that ended well before stays
      pub stay_adds : (i : ℕ) → Well i → has_number (well_in many) i ≡ true → (event ≡ Finish i true → ⊥) → (edge_at edges i).deps ≡ Unset → depfile i ≢ [] → depfile i ≢ response i → StaysSinceEnd tells own edges first i new
      stay_adds i well still other unset named two =
          stays_since tells own edges first now new grown i (event ∷ []) one_other (λ tell. grew_adding own edges (IsRunning now.events) (IsRunning new.events) event now.history new.history (adds tell))
          (λ held. stays_adds tells own edges first now new grown i (rest i well).0 (rest i well).1 (depfile i) (depfile_of i named) held (after i still).1 event adds) (removed.stay i well unset named two)
        where
          one_other : (xs ys : List Event) → event ∷ [] ≡ xs ++ Finish i true ∷ ys → ⊥
          one_other [] ys is =
              let same : event ≡ Finish i true = cc in
              other same
          one_other (x ∷ xs) ys is =
              let tail : [] ≡ xs ++ Finish i true ∷ ys = cc in
              none_ends i xs ys tail

      pub removed_adds : ((i : ℕ) → has_number (well_in many) i ≡ true → (next ≡ Some i → ⊥) → Well i × Free i) → DepfilesStay tells own edges many first new → AreRemoved tells own edges many next first new
      removed_adds were stay = record {
        responses = λ i well free named.
            let was = were i well free in
            stays_adds tells own edges first now new grown i (rest i was.0).0 (rest i was.0).1 (response i) (response_of i named) None (after i well).1 event adds (removed.responses i was.0 was.1 named);
        depfiles = λ i well free gcc named.
            let was = were i well free in
            stays_adds tells own edges first now new grown i (rest i was.0).0 (rest i was.0).1 (depfile i) (depfile_of i named) None (after i well).1 event adds (removed.depfiles i was.0 was.1 gcc named);
        stay = stay;
      }

-- another edge is taken in hand
pub removed_hand : (tells : Bool) (own : OwnFiles) (edges : List Edge) (steps : List Done) (first now : World) (hand : Option ℕ) → AreRemoved tells own edges steps None first now → AreRemoved tells own edges steps hand first now
removed_hand tells own edges steps first now hand removed =
    record { responses = λ i well free. removed.responses i well (nothing i); depfiles = λ i well free. removed.depfiles i well (nothing i); stay = removed.stay }
  where
    nothing : (i : ℕ) → None ≡ Some i → ⊥
    nothing i is = cc

-- of other steps in which the same commands ended well
pub removed_steps : (tells : Bool) (own : OwnFiles) (edges : List Edge) (steps many : List Done) (first now : World) (hand : Option ℕ) → well_in many ≡ well_in steps → AreRemoved tells own edges steps hand first now → AreRemoved tells own edges many hand first now
removed_steps tells own edges steps many first now hand same removed =
    record { responses = λ i well. removed.responses i (before i well); depfiles = λ i well. removed.depfiles i (before i well); stay = λ i well. removed.stay i (before i well) }
  where
    before : (i : ℕ) → has_number (well_in many) i ≡ true → has_number (well_in steps) i ≡ true
    before i well = ap (λ (l : List ℕ). has_number l i) (sym same) ∙ well
