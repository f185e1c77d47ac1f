-- Each call, by the moments that it adds.
use Rattle.std.proofs.Common.{◌≡◌, ℕ, Bool, true, false, List, [], ◌∷◌, ◌++◌, Option, Some, None, bytes_eq, refl, ◌∙◌, ap, subst, append_assoc}
use Rattle.std.specs.List.{AllByRecursion}
use Rattle.model.specs.declared.act.Act.{Act}
use Rattle.model.specs.declared.event.Event.TheVariants.{Start, Finish}
use Rattle.model.specs.declared.event.Moment.{Moment}
use Rattle.model.specs.declared.event.Moment.TheVariants.{Wrote, Happened}
use Rattle.model.specs.declared.event.Writer.TheVariants.{Program, Command, Someone}
use Rattle.model.specs.World.{World, IsNotAt, IsRunning, file_at}
use Rattle.model.specs.Calls.{AllByOthers, Appends, Extends, Finishes, IsRestart, OnlyLooks, OthersWrote, Starts, Ticks, Writes, content_or_empty}
use Rattle.theory.proofs.Lists.{all_append, all_parts}
use Rattle.log_text.specs.Laws.{FrontOfLines}
use Rattle.seen_log.specs.Record.{forms}
use Rattle.seen_true.specs.Notes.{Course, NotesAreKept, NotesAreTrue, grown, notes_text, real}
use Rattle.seen_true.specs.Calls.{CallsKeepNotes, EndsTrue, IsCallIn, IsLeftByOthers, KeepsOn, NoteCallsKeepNotes}
use Rattle.seen_true.proofs.Keeping.{all_put, kept_on, notes_on, put_again, put_once, some_put}

-- what others wrote is not at a path that they leave
apart_of : (running : ℕ → Type 0) (p : List ℕ) (ms : List Moment) → AllByOthers running ms → AllByRecursion (IsLeftByOthers p) ms → AllByRecursion (IsNotAt p) ms
apart_of running p [] all left = tt
apart_of running p (Wrote Program path content stamp ∷ ms) all left = absurd all.0
apart_of running p (Wrote (Command job) path content stamp ∷ ms) all left = (left.0, apart_of running p ms all.1 left.1)
apart_of running p (Wrote Someone path content stamp ∷ ms) all left = (left.0, apart_of running p ms all.1 left.1)
apart_of running p (Happened event ∷ ms) all left = absurd all.0

-- the history went on by moments of which none writes the notes
pub record Passes (c : Course) (new : List Moment) : Type 0 where
  pub more : List Moment
  pub goes_on : new ≡ real (grown c more)
  pub apart : AllByRecursion (IsNotAt c.knows.seen) more

pub keeps_by : (c : Course) (base : Option (List ℕ)) (lines : List ℕ) (new : List Moment) → NotesAreKept c base lines → Passes c new → KeepsOn c base lines new
keeps_by c base lines new keeps passes = record { more = passes.more; goes_on = passes.goes_on; keeps = kept_on c passes.more passes.apart base lines keeps }

pub stands_by : (c : Course) (new : List Moment) → NotesAreTrue c → Passes c new → EndsTrue c new
stands_by c new notes passes = record { more = passes.more; goes_on = passes.goes_on; notes = notes_on c passes.more passes.apart notes }

-- ---- one after the other

grown_twice : (c : Course) (xs ys : List Moment) → grown (grown c xs) ys ≡ grown c (xs ++ ys)
grown_twice c xs ys = λ i. record { knows = c.knows; first = c.first; before = c.before; more = append_assoc c.more xs ys i }

module _ (c : Course) (old new : World) (call : IsCallIn c old new) where
  on : (ms : List Moment) → new.history ≡ old.history ++ ms → new.history ≡ real (grown c ms)
  on ms grows = grows ∙ (ap (λ (h : List Moment). h ++ ms) call.so_far ∙ append_assoc c.first c.more ms)

  -- others wrote, before and after a moment of the call
  module _ (before after : ℕ → Type 0) (m : Moment) (earlier later : List Moment) (grows : new.history ≡ old.history ++ (earlier ++ m ∷ later))
      (all_earlier : AllByOthers before earlier) (all_later : AllByOthers after later) where
    left_parts : AllByRecursion (IsLeftByOthers c.knows.seen) earlier × AllByRecursion (IsLeftByOthers c.knows.seen) (m ∷ later)
    left_parts = all_parts (IsLeftByOthers c.knows.seen) earlier (m ∷ later) (call.left (earlier ++ m ∷ later) grows)

    apart_earlier : AllByRecursion (IsNotAt c.knows.seen) earlier
    apart_earlier = apart_of before c.knows.seen earlier all_earlier left_parts.0

    apart_later : AllByRecursion (IsNotAt c.knows.seen) later
    apart_later = apart_of after c.knows.seen later all_later left_parts.1.1

    around : IsNotAt c.knows.seen m → Passes c new.history
    around apart = record {
      more = earlier ++ m ∷ later;
      goes_on = on (earlier ++ m ∷ later) grows;
      apart = all_append (IsNotAt c.knows.seen) earlier (m ∷ later) apart_earlier (apart, apart_later);
    }

    -- the moment writes the notes
    abbrev until : Course
    until = grown c earlier

    together : (P : Course → Type 0) → P (grown (grown until (m ∷ [])) later) → P (grown c (earlier ++ m ∷ later))
    together P is = subst P (grown_twice until (m ∷ []) later ∙ grown_twice c earlier (m ∷ later)) is

    written_on : (base : Option (List ℕ)) (lines : List ℕ) → NotesAreKept (grown until (m ∷ [])) base lines → KeepsOn c base lines new.history
    written_on base lines keeps = record {
      more = earlier ++ m ∷ later;
      goes_on = on (earlier ++ m ∷ later) grows;
      keeps = together (λ (d : Course). NotesAreKept d base lines) (kept_on (grown until (m ∷ [])) later apart_later base lines keeps);
    }

  others_pass : (running : ℕ → Type 0) → OthersWrote running old.history new.history → Passes c new.history
  others_pass running wrote = record {
    more = wrote.more;
    goes_on = on wrote.more wrote.grows;
    apart = apart_of running c.knows.seen wrote.more wrote.all (call.left wrote.more wrote.grows);
  }

  pub looks_pass : OnlyLooks true old new → Passes c new.history
  looks_pass looks = others_pass (IsRunning old.events) (looks.history refl)

  pub writes_pass : (p : List ℕ) (content : Option (List ℕ)) → bytes_eq p c.knows.seen ≡ false → Writes true p content old new → Passes c new.history
  writes_pass p content apart writes = let adds = (writes.history refl).1 in
      around (IsRunning old.events) (IsRunning old.events) (Wrote Program p content (writes.history refl).0) adds.earlier adds.later adds.grows adds.all_earlier adds.all_later apart

  pub appends_pass : (p bytes : List ℕ) → bytes_eq p c.knows.seen ≡ false → Appends true p bytes old new → Passes c new.history
  appends_pass p bytes apart appends = let adds = appends.history refl in
      around (IsRunning old.events) (IsRunning old.events) (Wrote Program p (Some (content_or_empty (file_at (old.history ++ adds.earlier) p) ++ bytes)) adds.stamp) adds.earlier adds.later adds.grows
      adds.all_earlier adds.all_later apart

  pub ticks_pass : (p : List ℕ) (stamp : ℕ) → bytes_eq p c.knows.seen ≡ false → Ticks true p stamp old new → Passes c new.history
  ticks_pass p stamp apart ticks = let adds = ticks.history refl in
      around (IsRunning old.events) (IsRunning old.events) (Wrote Program p (Some (content_or_empty (file_at (old.history ++ adds.earlier) p))) stamp) adds.earlier adds.later adds.grows
      adds.all_earlier adds.all_later apart

  pub starts_pass : (job : ℕ) (act : Act) → Starts true job act old new → Passes c new.history
  starts_pass job act starts = let adds = starts.history refl in
      around (IsRunning old.events) (IsRunning new.events) (Happened (Start job act old.ticked)) adds.earlier adds.later adds.grows adds.all_earlier adds.all_later tt

  pub finishes_pass : (job : ℕ) (ok : Bool) → Finishes true job ok old new → Passes c new.history
  finishes_pass job ok finishes = let adds = finishes.history refl in
      around (IsRunning old.events) (IsRunning new.events) (Happened (Finish job ok)) adds.earlier adds.later adds.grows adds.all_earlier adds.all_later tt

  pub restarts_pass : IsRestart true old new → Passes c new.history
  restarts_pass restarts = others_pass (IsRunning old.events) (restarts.history refl)

pub calls_law : CallsKeepNotes
calls_law c base lines old new call keeps = (
  λ looks. keeps_by c base lines new.history keeps (looks_pass c old new call looks),
  λ p content apart writes. keeps_by c base lines new.history keeps (writes_pass c old new call p content apart writes),
  λ p bytes apart appends. keeps_by c base lines new.history keeps (appends_pass c old new call p bytes apart appends),
  λ p stamp apart ticks. keeps_by c base lines new.history keeps (ticks_pass c old new call p stamp apart ticks),
  λ job act starts. keeps_by c base lines new.history keeps (starts_pass c old new call job act starts),
  λ job ok finishes. keeps_by c base lines new.history keeps (finishes_pass c old new call job ok finishes),
  λ restarts. keeps_by c base lines new.history keeps (restarts_pass c old new call restarts),
)

-- ---- calls that write the notes

module _ (front : FrontOfLines forms) (c : Course) (lines : List ℕ) (old new : World) (call : IsCallIn c old new) where
  -- what stood there just before
  text_before : (earlier : List Moment) → content_or_empty (file_at (old.history ++ earlier) c.knows.seen) ≡ notes_text (grown c earlier)
  text_before earlier =
      ap (λ (h : List Moment). content_or_empty (file_at h c.knows.seen))
      (ap (λ (h : List Moment). h ++ earlier) call.so_far ∙ append_assoc c.first c.more earlier)

  module _ (bytes : List ℕ) (appends : Appends true c.knows.seen bytes old new) where
    abbrev adds : Extends (IsRunning old.events) c.knows.seen bytes old.history new.history
    adds = appends.history refl

    abbrev put : Moment
    put = Wrote Program c.knows.seen (Some (notes_text (grown c adds.earlier) ++ bytes)) adds.stamp

    grows_so : new.history ≡ old.history ++ (adds.earlier ++ put ∷ adds.later)
    grows_so = adds.grows ∙ ap (λ (held : List ℕ). old.history ++ (adds.earlier ++ Wrote Program c.knows.seen (Some (held ++ bytes)) adds.stamp ∷ adds.later)) (text_before adds.earlier)

    until_then : (base : Option (List ℕ)) (kept : List ℕ) → NotesAreKept c base kept → NotesAreKept (grown c adds.earlier) base kept
    until_then base kept keeps =
        kept_on c adds.earlier (apart_earlier c old new call (IsRunning old.events) (IsRunning old.events) put adds.earlier adds.later grows_so adds.all_earlier adds.all_later) base kept keeps

  whole : NotesAreKept c None lines → Appends true c.knows.seen lines old new → KeepsOn c None [] new.history
  whole keeps appends =
      let adds = appends.history refl in
      written_on c old new call (IsRunning old.events) (IsRunning old.events) (put lines appends) adds.earlier adds.later (grows_so lines appends) adds.all_earlier adds.all_later None []
      (all_put front (grown c adds.earlier) lines adds.stamp (until_then lines appends None lines keeps))

  partly : (part rest : List ℕ) → part ++ rest ≡ lines → NotesAreKept c None lines → Appends true c.knows.seen part old new → EndsTrue c new.history
  partly part rest is keeps appends =
      let adds = appends.history refl in
      record {
        more = adds.earlier ++ put part appends ∷ adds.later;
        goes_on = on c old new call (adds.earlier ++ put part appends ∷ adds.later) (grows_so part appends);
        notes = together c old new call (IsRunning old.events) (IsRunning old.events) (put part appends) adds.earlier adds.later (grows_so part appends) adds.all_earlier adds.all_later NotesAreTrue
            (notes_on (grown (grown c adds.earlier) (put part appends ∷ [])) adds.later
            (apart_later c old new call (IsRunning old.events) (IsRunning old.events) (put part appends) adds.earlier adds.later (grows_so part appends) adds.all_earlier adds.all_later)
            (some_put front (grown c adds.earlier) lines adds.stamp (until_then part appends None lines keeps) part rest is));
      }

  module _ (text : List ℕ) (keeps : NotesAreKept c (Some text) lines) (writes : Writes true c.knows.seen (Some text) old new) where
    replaced : KeepsOn c None lines new.history × KeepsOn c (Some text) lines new.history
    replaced =
        let stamp = (writes.history refl).0 in
        let adds = (writes.history refl).1 in
        let m : Moment = Wrote Program c.knows.seen (Some text) stamp in
        let before = kept_on c adds.earlier (apart_earlier c old new call (IsRunning old.events) (IsRunning old.events) m adds.earlier adds.later adds.grows adds.all_earlier adds.all_later) (Some text) lines keeps in (
          written_on c old new call (IsRunning old.events) (IsRunning old.events) m adds.earlier adds.later adds.grows adds.all_earlier adds.all_later None lines
              (put_once (grown c adds.earlier) text lines stamp before),
          written_on c old new call (IsRunning old.events) (IsRunning old.events) m adds.earlier adds.later adds.grows adds.all_earlier adds.all_later (Some text) lines
              (put_again (grown c adds.earlier) text lines stamp before),
        )

pub note_calls_law : FrontOfLines forms → NoteCallsKeepNotes
note_calls_law front c lines old new call = (
  whole front c lines old new call,
  partly front c lines old new call,
  λ text keeps writes. replaced front c lines old new call text keeps writes,
)
