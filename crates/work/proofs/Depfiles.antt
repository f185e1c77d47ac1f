-- What was read in the depfile of a command is what it told when it ended.
use Rattle.std.proofs.Common.{◌≡◌, ◌≢◌, inl, inr, ℕ, ◌&&◌, ◌||◌, not, Bool, true, false, IsTrue, List, [], ◌∷◌, ◌++◌, filter, bytes_eq, Option, Some, None, Result, Ok, Err, IfOk, refl, sym, ◌∙◌, ap, subst, append_assoc}
use Rattle.std.specs.List.{list_any}
use Rattle.std.proofs.lemmas.Bool.{false≢true, or_cases, or_from, or_left, or_parts}
use Rattle.std.proofs.lemmas.Map.Views.{any-filter_same}
use Rattle.theory.proofs.Lists.{bytes_same, same_bytes, has-right}
use Rattle.model.specs.declared.act.Act.{Act}
use Rattle.model.specs.declared.fault.SiteFault.{SiteFault}
use Rattle.model.specs.declared.event.Moment.{Moment}
use Rattle.model.specs.World.{World, file_at, content_of, view_of}
use Rattle.model.specs.Calls.{OnlyLooks, Sees, Finishes}
use Rattle.model.specs.Graph.{has, edge_at, StandsTwice}
use Rattle.model.specs.Outcome.{read_depfile, depfile_in, is_accepted, listed}
use Rattle.model.specs.Records.{ListsOnce}
use Rattle.model.specs.Premises.{FilesAreKept, EndedAt}
use Rattle.theory.proofs.SiteCalls.{looks_none}
use Rattle.theory.proofs.Ledger.{SaysAtEnd, ReadAtEnd}
use Rattle.theory.proofs.TakenIn.{says_failed, says_nothing, read_failed, read_nothing, read_seen, depfile_seen}
use Rattle.graph.specs.declared.graph.Graph.{Graph}
use Rattle.depfile.specs.declared.fault.DepFault.{DepFault}
use Rattle.depfile.specs.Depfile.{IsRead, IsReading, accepted, firsts}
use Rattle.work.specs.declared.reported.Told.{Told}
use Rattle.work.specs.declared.reported.Told.TheVariants.{Nothing, Inputs, Refused}
use Rattle.work.specs.declared.state.Work.{Work}
use Rattle.work.specs.Course.{Course, goes_on, Suits, edges_of, IsOn}
use Rattle.work.specs.Telling.{Says, WasRead, ended_well, HasTold}

-- ---- each path once

abbrev AreOnce : List (List ℕ) → Type 0
AreOnce [] = Unit {0}
AreOnce (p ∷ ps) = (has ps p ≡ false) × AreOnce ps

not_twice : (before after : List (List ℕ)) (p : List ℕ) → AreOnce (before ++ p ∷ after) → has before p ≡ true → ⊥
not_twice [] after p once there = false≢true there
not_twice (b ∷ before) after p once there = elim (or_cases (bytes_eq b p) (has before p) there) [
  | inl here ↦ false≢true (sym once.0 ∙ (ap (has (before ++ p ∷ after)) (same_bytes b p here) ∙ has-right before (p ∷ after) p (or_left (bytes_eq p p) (has after p) (bytes_same p))))
  | inr later ↦ not_twice before after p once.1 later
]

apart_of_once : (ps : List (List ℕ)) → AreOnce ps → (p : List ℕ) → StandsTwice ps p → ⊥
apart_of_once ps once p twice = not_twice twice.before twice.after p (subst AreOnce twice.splits once) twice.earlier

abbrev others : List ℕ → List (List ℕ) → List (List ℕ)
others x = filter (λ other. not (bytes_eq x other))

has_is_any : (ps : List (List ℕ)) (p : List ℕ) → has ps p ≡ list_any (λ q. bytes_eq q p) ps
has_is_any [] p = refl
has_is_any (q ∷ qs) p = ap (λ (b : Bool). bytes_eq q p || b) (has_is_any qs p)

no_others : (x : List ℕ) (ps : List (List ℕ)) → has (others x ps) x ≡ false
no_others x ps = has_is_any (others x ps) x ∙ any-filter_same (λ q. bytes_eq q x) (λ other. not (bytes_eq x other)) false (λ k same. ap not (ap (bytes_eq x) (same_bytes k x same) ∙ bytes_same x)) ps

fewer : (x p : List ℕ) (ps : List (List ℕ)) → has ps p ≡ false → has (others x ps) p ≡ false
fewer x p [] none = refl
fewer x p (q ∷ qs) none = by (not (bytes_eq x q)) refl (fewer x p qs (or_parts (bytes_eq q p) (has qs p) none).1)
  where
    by : (b : Bool) → not (bytes_eq x q) ≡ b → has (others x qs) p ≡ false → has (others x (q ∷ qs)) p ≡ false
    by true is rest = rw is (or_from (bytes_eq q p) (has (others x qs) p) (or_parts (bytes_eq q p) (has qs p) none).0 rest)
    by false is rest = rw is rest

others_once : (x : List ℕ) (ps : List (List ℕ)) → AreOnce ps → AreOnce (others x ps)
others_once x [] once = tt
others_once x (q ∷ qs) once = by (not (bytes_eq x q)) refl (others_once x qs once.1)
  where
    by : (b : Bool) → not (bytes_eq x q) ≡ b → AreOnce (others x qs) → AreOnce (others x (q ∷ qs))
    by true is rest = rw is (fewer x q qs once.0, rest)
    by false is rest = rw is rest

firsts_once : (all : List (List ℕ)) → AreOnce (firsts all)
firsts_once [] = tt
firsts_once (p ∷ all) = (no_others p (firsts all), others_once p (firsts all) (firsts_once all))

-- ---- what a depfile says

abbrev pub OneAnswer : Type 0
OneAnswer = (bytes : List ℕ) (a b : Result (List (List ℕ)) DepFault) → IsRead bytes a → IsRead bytes b → a ≡ b

-- the inputs that were told
abbrev inputs_in : Told → Option (List (List ℕ))
inputs_in Nothing = Some []
inputs_in (Inputs paths) = Some paths
inputs_in (Refused fault) = None

module _ (reading : List ℕ → Option (List (List ℕ))) (reads : IsReading reading) (one : OneAnswer) where
  reading_is : (bytes : List ℕ) (said : Result (List (List ℕ)) DepFault) → IsRead bytes said → reading bytes ≡ accepted said
  reading_is bytes said is = let by = reads bytes in by.2 ∙ ap accepted (one bytes by.0 said by.1 is)

  read_says : (content : Option (List ℕ)) (told : Told) → Says content told → read_depfile reading content ≡ inputs_in told
  read_says content Nothing says = absurd says
  read_says None (Inputs paths) says = ap (λ (ps : List (List ℕ)). Some ps) (sym says)
  read_says (Some bytes) (Inputs paths) says = reading_is bytes (Ok paths) says
  read_says None (Refused fault) says = absurd says
  read_says (Some bytes) (Refused fault) says = reading_is bytes (Err fault) says

-- what is listed stands once
once_in : (content : Option (List ℕ)) (paths : List (List ℕ)) → Says content (Inputs paths) → ListsOnce paths paths
once_in None paths says = record { same = λ p. refl; once = apart_of_once paths (subst AreOnce (sym says) tt) }
once_in (Some bytes) paths says = record { same = λ p. refl; once = apart_of_once paths (subst AreOnce (sym says.3.once) (firsts_once says.3.all)) }

named_so : (d : List ℕ) (read : Option (List (List ℕ))) → d ≢ [] → elim d [ [] ↦ Some [] | q ∷ qs ↦ read ] ≡ read
named_so [] read some = absurd (some refl)
named_so (q ∷ qs) read some = refl

-- what was read of the one that an act names
pub was_read : (tells : Bool) (act : Act) (ok : Bool) (old new : World) (path : List ℕ) (content : Option (List ℕ)) (bytes : List ℕ) (r : Result Told SiteFault) → ok ≡ true → act.depfile ≢ [] → path ≡ act.depfile → content ≡ Some bytes
    → (IsTrue tells → Sees (λ history. content_of (file_at history path)) content old.history new.history) → IfOk r (Says (Some bytes)) → IfOk r (WasRead tells act ok old new)
was_read tells act ok old new path content bytes (Err fault) went named path_is is sees says = tt
was_read tells act ok old new path content bytes (Ok told) went named path_is is sees says = by_told told says
  where
    seen : IsTrue tells → Sees (λ history. content_of (file_at history act.depfile)) (Some bytes) old.history new.history
    seen tell = subst (λ (p : List ℕ). Sees (λ history. content_of (file_at history p)) (Some bytes) old.history new.history) path_is
        (subst (λ (c : Option (List ℕ)). Sees (λ history. content_of (file_at history path)) c old.history new.history) is (sees tell))

    by_told : (told : Told) → Says (Some bytes) told → WasRead tells act ok old new told
    by_told Nothing says = absurd says
    by_told (Inputs paths) says = (went, named, λ tell. (Some bytes, seen tell, says))
    by_told (Refused fault) says = (went, named, λ tell. (Some bytes, seen tell, says))

-- so it is where the program only looks on
pub was_read_before : (tells : Bool) (act : Act) (ok : Bool) (old mid new : World) (told : Told) → OnlyLooks tells mid new → WasRead tells act ok old mid told → WasRead tells act ok old new told
was_read_before tells act ok old mid new told looks = by_told told
  where
    seen_on : (content : Option (List ℕ)) → IsTrue tells → Sees (λ history. content_of (file_at history act.depfile)) content old.history mid.history → Sees (λ history. content_of (file_at history act.depfile)) content old.history new.history
    seen_on content tell seen =
        let call = looks.history tell in
        record {
          earlier = seen.earlier;
          later = seen.later ++ call.more;
          grows = call.grows ∙ (ap (λ (l : List Moment). l ++ call.more) seen.grows ∙ (append_assoc old.history (seen.earlier ++ seen.later) call.more ∙ ap (λ (l : List Moment). old.history ++ l) (append_assoc seen.earlier seen.later call.more)));
          is = seen.is;
        }

    by_told : (told : Told) → WasRead tells act ok old mid told → WasRead tells act ok old new told
    by_told Nothing read = read
    by_told (Inputs paths) read = (read.0, read.1, λ tell. let was = read.2 tell in (was.0, seen_on was.0 tell was.1, was.2))
    by_told (Refused fault) read = (read.0, read.1, λ tell. let was = read.2 tell in (was.0, seen_on was.0 tell was.1, was.2))

-- ---- what that of a command said that was taken in

abbrev pub went_well : (ok : Bool) (told : Told) → ended_well ok told ≡ true → ok ≡ true
went_well true told went = refl
went_well false told went = absurd (false≢true went)

module _ (tells : Bool) (course : Course) (graph : Graph) (suits : Suits course graph) (one : OneAnswer) (state : Work) (now mid new : World) (i : ℕ) (ok : Bool) (on : IsOn tells course graph None state now)
    (finish : Finishes tells i ok now mid) (looks : OnlyLooks tells mid new) where
  abbrev act : Act
  act = (edge_at (edges_of course) i).act

  abbrev Read : Told → Type 0
  Read told = (content : Option (List ℕ)) × Sees (λ history. content_of (file_at history act.depfile)) content mid.history new.history × Says content told

  abbrev Said : Bool → Type 0
  Said well = SaysAtEnd tells course.behaviour course.format course.own course.asked course.store course.entry i well new

  -- what it held when it was read, as it is read
  held_says : act.depfile ≢ [] → (told : Told) (read : Read told) → depfile_in course.behaviour act (λ p. read.0) ≡ inputs_in told
  held_says named told read = named_so act.depfile (read_depfile course.behaviour.depfile read.0) named ∙ read_says course.behaviour.depfile suits.depfiles one read.0 told read.2

  -- so it did when the command ended
  end_says : ok ≡ true → act.depfile ≢ [] → (told : Told) → Read told → IsTrue tells → FilesAreKept course.own (edges_of course) course.entry.history new.history → (at : List Moment) → EndedAt i course.entry.history new.history at
      → depfile_in course.behaviour act (view_of at) ≡ inputs_in told
  end_says went named told read tell files at ended =
      sym (depfile_seen tells course.behaviour course.format course.own course.asked course.store course.entry course.phases (goes_on course) on.steps now mid new i ok finish looks on.carried went named read.0 mid new (looks_none tells mid) (λ t. read.1)
      (looks_none tells new) tell files at ended)
      ∙ held_says named told read

  -- whether it was accepted
  pub said_by : (told : Told) → WasRead tells act ok mid new told → Said (ended_well ok told)
  said_by Nothing read = by_end ok refl
    where
      by_end : (b : Bool) → ok ≡ b → Said (b && true)
      by_end true went = says_nothing tells course.behaviour course.format course.own course.asked course.store course.entry course.phases (goes_on course) on.steps now mid new i ok finish looks on.carried (read went)
      by_end false failed = says_failed tells course.behaviour course.format course.own course.asked course.store course.entry course.phases (goes_on course) on.steps now mid new i ok finish looks on.carried false failed
  said_by (Inputs paths) read = λ tell files at ended. ap (λ (b : Bool). b && true) read.0 ∙ sym (ap is_accepted (end_says read.0 read.1 (Inputs paths) (read.2 tell) tell files at ended))
  said_by (Refused fault) read = λ tell files at ended. ap (λ (b : Bool). b && false) read.0 ∙ sym (ap is_accepted (end_says read.0 read.1 (Refused fault) (read.2 tell) tell files at ended))

  -- and so it was when it was read
  abbrev pub ReadSo : Bool → Type 0
  ReadSo well = ReadAtEnd tells course.behaviour course.format course.own course.asked course.store course.entry i well new

  seen_so : ok ≡ true → (told : Told) (read : Read told) → ended_well ok told ≡ is_accepted (depfile_in course.behaviour act (λ p. read.0)) → ReadSo (ended_well ok told)
  seen_so went told read says =
      read_seen tells course.behaviour course.format course.own course.asked course.store course.entry course.phases (goes_on course) on.steps now mid new i ok finish looks on.carried went read.0 mid new (looks_none tells mid) (λ t. read.1)
      (looks_none tells new) (ended_well ok told) says

  pub read_by : (told : Told) → WasRead tells act ok mid new told → ReadSo (ended_well ok told)
  read_by Nothing read = by_end ok refl
    where
      by_end : (b : Bool) → ok ≡ b → ReadSo (b && true)
      by_end true went = read_nothing tells course.behaviour course.format course.own course.asked course.store course.entry course.phases (goes_on course) on.steps now mid new i ok finish looks on.carried (read went)
      by_end false failed = read_failed tells course.behaviour course.format course.own course.asked course.store course.entry course.phases (goes_on course) on.steps now mid new i ok finish looks on.carried false failed
  read_by (Inputs paths) read = λ tell. seen_so read.0 (Inputs paths) (read.2 tell) (ap (λ (b : Bool). b && true) read.0 ∙ sym (ap is_accepted (held_says read.1 (Inputs paths) (read.2 tell)))) tell
  read_by (Refused fault) read = λ tell. seen_so read.0 (Refused fault) (read.2 tell) (ap (λ (b : Bool). b && false) read.0 ∙ sym (ap is_accepted (held_says read.1 (Refused fault) (read.2 tell)))) tell

  -- a command that names no depfile ended as it was told
  pub unnamed_end : (told : Told) → WasRead tells act ok mid new told → act.depfile ≡ [] → ended_well ok told ≡ false → ok ≡ false
  unnamed_end Nothing read none failed = by_end ok failed
    where
      by_end : (b : Bool) → (b && true) ≡ false → b ≡ false
      by_end true failed = absurd (false≢true (sym failed))
      by_end false failed = refl
  unnamed_end (Inputs paths) read none failed = absurd (read.1 none)
  unnamed_end (Refused fault) read none failed = absurd (read.1 none)

  -- what it told
  pub has_told : (told : Told) → WasRead tells act ok mid new told → ended_well ok told ≡ true → HasTold tells course i told new
  has_told Nothing read went = read (went_well ok Nothing went)
  has_told (Inputs paths) read went = (
    read.1,
    λ tell files at ended. subst (λ (ps : List (List ℕ)). ListsOnce paths ps) (sym (ap listed (end_says read.0 read.1 (Inputs paths) (read.2 tell) tell files at ended))) (once_in (read.2 tell).0 paths (read.2 tell).2),
  )
  has_told (Refused fault) read went = by_end ok went
    where
      by_end : (b : Bool) → (b && false) ≡ true → ⊥
      by_end true went = false≢true went
      by_end false went = false≢true went
