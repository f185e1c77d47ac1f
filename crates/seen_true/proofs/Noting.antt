-- From one build to the next, and what a site keeps.
use Rattle.std.proofs.Common.{◌≡◌, inl, inr, ℕ, true, false, List, [], ◌∷◌, ◌++◌, Option, Some, None, drop, length, refl, sym, ◌∙◌, ap, subst, append_assoc, append-nil}
use Rattle.std.specs.List.{AllByRecursion}
use Rattle.std.proofs.Math.Logic.{∥∥₁_map}
use Rattle.std.proofs.Math.Seq.{drop-append_seam, drop-length}
use Rattle.log_text.specs.declared.form.Version.TheVariants.{Two}
use Rattle.log_text.specs.Form.{IsAppended}
use Rattle.log_text.specs.Laws.{FrontOfLines, OneReading}
use Rattle.model.specs.declared.event.Moment.{Moment}
use Rattle.model.specs.declared.event.Moment.TheVariants.{Wrote, Happened}
use Rattle.model.specs.declared.event.Writer.TheVariants.{Program, Command, Someone}
use Rattle.model.specs.World.{World, IsNotAt, file_at}
use Rattle.log_text.specs.Text.{IsRead}
use Rattle.model.specs.Calls.{content_or_empty, AppendsOrNot, Appends, OnlyLooks, Writes, WritesOrNot}
use Rattle.theory.proofs.Lists.{all_parts, same_rest}
use Rattle.theory.proofs.Files.{file_stays}
use Rattle.seen_law.specs.Laws.{FilesAreTold, started_so}
use Rattle.seen_log.specs.declared.note.Kind.{Kind}
use Rattle.seen_log.specs.declared.note.Note.{Note}
use Rattle.seen_log.specs.declared.note.Noted.{Noted}
use Rattle.seen_log.specs.Record.{forms, noting}
use Rattle.seen_law.specs.Retold.{BeginsSo, stamp_told, under}
use Rattle.seen_true.specs.Counting.{Knowing, telling}
use Rattle.seen_true.specs.Soundly.{written_in}
use Rattle.seen_true.specs.Notes.{Course, IsTrueNote, IsWhole, NotesAreKept, NotesAreTrue, Sighting, grown, note_of, notes_text, real, told}
use Rattle.seen_true.specs.Laws.{found_number, number_of}
use Rattle.seen_true.specs.Calls.{EndsTrue, IsCallIn, IsLeftByOthers, IsLeftByProgram, KeepsOn}
use Rattle.seen_true.specs.Going.{AbsenceNotes, BaseIsWhole, CallsNote, CallsStand, Entered, EntersAt, EntersBy, EntersNoted, EntersStay, Found, FoundInCall, LinesNote, NextIsNoted, NoneInCall, NoteCallsNote, Notes, NotesStand, course, entering, since, since_asked}
use Rattle.seen_true.proofs.Keeping.{entry_law, line_law}
use Rattle.seen_true.proofs.Truth.{away_law, look_law, told_law}
use Rattle.seen_true.proofs.Ending.{ending_law}
use Rattle.seen_true.proofs.Sound.{begins_law}
use Rattle.seen_true.proofs.Calling.{Passes, appends_pass, calls_law, finishes_pass, looks_pass, note_calls_law, restarts_pass, stands_by, starts_pass, ticks_pass, writes_pass}

-- ---- from one build to the next

pub next_law : FilesAreTold → OneReading forms → NextIsNoted
next_law files_law one_reading B format own edges others c next last entry notes was idle fit reads wrote later faithful =
    let soundly = ending_law files_law one_reading format own c next entry.history notes fit reads wrote later in
    let begins = begins_law B format own edges others (telling next) last entry (told c) (written_in (told c) ++ written_in entry.history) was idle soundly faithful in (
      begins.0,
      begins.1,
      begins.2,
      record {
        begins = begins.0;
        sightings = [];
        all = tt;
        file = record {
          records = reads.records;
          tail = reads.tail;
          read = subst (λ (h : List Moment). IsRead forms (content_or_empty (file_at h next.seen)) reads.records reads.tail) (sym (append-nil entry.history)) reads.read;
          tells = λ p. sym (reads.is p);
        };
      },
    )

-- ---- what a site keeps

never : false ≡ true → ⊥
never e = cc

-- a site that does not tell its files keeps nothing
none_told : (e : Entered) (base : Option (List ℕ)) (lines : List ℕ) (world : World) → Notes false e base lines world
none_told e base lines world = record { goes_on = λ is. absurd (never is); kept = λ is left. absurd (never is) }

none_stand : (e : Entered) (world : World) → NotesStand false e world
none_stand e world = record { goes_on = λ is. absurd (never is); kept = λ is left. absurd (never is) }

module _ (e : Entered) (old new : World) (goes_on : old.history ≡ e.first ++ since e old) where
  -- behind these moments
  module _ (ms : List Moment) (goes : new.history ≡ real (grown (course e old) ms)) where
    since_is : since e new ≡ since e old ++ ms
    since_is = ap (λ (h : List Moment). drop (length e.first) h) goes ∙ drop-append_seam e.first (since e old ++ ms)

    goes_then : new.history ≡ e.first ++ since e new
    goes_then = goes ∙ ap (λ (h : List Moment). e.first ++ h) (sym since_is)

    course_is : grown (course e old) ms ≡ course e new
    course_is = λ i. record { knows = e.knows; first = e.first; before = e.before; more = sym since_is i }

  module _ (ms : List Moment) (grows : new.history ≡ old.history ++ ms) where
    goes_so : new.history ≡ real (grown (course e old) ms)
    goes_so = grows ∙ (ap (λ (h : List Moment). h ++ ms) goes_on ∙ append_assoc e.first (since e old) ms)

    asked_is : since_asked e new ≡ since_asked e old ++ ms
    asked_is = ap (λ (l : List Moment). entering e ++ l) (since_is ms goes_so) ∙ sym (append_assoc (entering e) (since e old) ms)

    -- where nobody else writes the notes until the end of the call, nobody does in it
    module _ (left : AllByRecursion (IsLeftByOthers e.knows.seen) (since_asked e new)) where
      left_parts : AllByRecursion (IsLeftByOthers e.knows.seen) (since_asked e old) × AllByRecursion (IsLeftByOthers e.knows.seen) ms
      left_parts = all_parts (IsLeftByOthers e.knows.seen) (since_asked e old) ms (subst (λ (l : List Moment). AllByRecursion (IsLeftByOthers e.knows.seen) l) asked_is left)

      is_call : IsCallIn (course e old) old new
      is_call = record {
        so_far = goes_on;
        left = λ more so. subst (λ (l : List Moment). AllByRecursion (IsLeftByOthers e.knows.seen) l) (same_rest old.history ms more (sym grows ∙ so)) left_parts.1;
      }

module _ (e : Entered) (base : Option (List ℕ)) (lines : List ℕ) (old new : World) (notes : Notes true e base lines old) where
  abbrev begun : old.history ≡ e.first ++ since e old
  begun = notes.goes_on refl

  -- a call that added these moments
  by_call : (base_then : Option (List ℕ)) (lines_then : List ℕ) (ms : List Moment) → new.history ≡ old.history ++ ms
      → (IsCallIn (course e old) old new → NotesAreKept (course e old) base lines → KeepsOn (course e old) base_then lines_then new.history)
      → Notes true e base_then lines_then new
  by_call base_then lines_then ms grows keeps = record {
    goes_on = λ is. goes_then e old new begun ms (goes_so e old new begun ms grows);
    kept = λ is left.
        ∥∥₁_map (notes.kept refl (left_parts e old new begun ms grows left).0) (λ kept.
        let on = keeps (is_call e old new begun ms grows left) kept in
        subst (λ (c : Course). NotesAreKept c base_then lines_then) (course_is e old new begun on.more on.goes_on) on.keeps);
  }

  by_end : (ms : List Moment) → new.history ≡ old.history ++ ms
      → (IsCallIn (course e old) old new → NotesAreKept (course e old) base lines → EndsTrue (course e old) new.history) → NotesStand true e new
  by_end ms grows ends = record {
    goes_on = λ is. goes_then e old new begun ms (goes_so e old new begun ms grows);
    kept = λ is left.
        ∥∥₁_map (notes.kept refl (left_parts e old new begun ms grows left).0) (λ kept.
        let on = ends (is_call e old new begun ms grows left) kept in
        subst NotesAreTrue (course_is e old new begun on.more on.goes_on) on.notes);
  }

  looks_note : OnlyLooks true old new → Notes true e base lines new
  looks_note looks = by_call base lines (looks.history refl).more (looks.history refl).grows (λ call keeps. (calls_law (course e old) base lines old new call keeps).0 looks)

pub calls_note_law : CallsNote
calls_note_law false e base lines old new notes = (
  λ looks. none_told e base lines new,
  λ p content apart writes. none_told e base lines new,
  λ p bytes apart appends. none_told e base lines new,
  λ p stamp apart ticks. none_told e base lines new,
  λ job act starts. none_told e base lines new,
  λ job ok finishes. none_told e base lines new,
  λ restarts. none_told e base lines new,
)
calls_note_law true e base lines old new notes = (
  λ looks. looks_note e base lines old new notes looks,
  λ p content apart writes. by_call e base lines old new notes base lines _ (writes.history refl).1.grows (λ call keeps. (calls_law (course e old) base lines old new call keeps).1 p content apart writes),
  λ p bytes apart appends. by_call e base lines old new notes base lines _ (appends.history refl).grows (λ call keeps. (calls_law (course e old) base lines old new call keeps).2 p bytes apart appends),
  λ p stamp apart ticks. by_call e base lines old new notes base lines _ (ticks.history refl).grows (λ call keeps. (calls_law (course e old) base lines old new call keeps).3 p stamp apart ticks),
  λ job act starts. by_call e base lines old new notes base lines _ (starts.history refl).grows (λ call keeps. (calls_law (course e old) base lines old new call keeps).4 job act starts),
  λ job ok finishes. by_call e base lines old new notes base lines _ (finishes.history refl).grows (λ call keeps. (calls_law (course e old) base lines old new call keeps).5 job ok finishes),
  λ restarts. by_call e base lines old new notes base lines _ (restarts.history refl).grows (λ call keeps. (calls_law (course e old) base lines old new call keeps).6 restarts),
)

module _ (e : Entered) (old new : World) (notes : NotesStand true e old) where
  abbrev entered : old.history ≡ e.first ++ since e old
  entered = notes.goes_on refl

  by_pass : (ms : List Moment) → new.history ≡ old.history ++ ms → (IsCallIn (course e old) old new → Passes (course e old) new.history) → NotesStand true e new
  by_pass ms grows passes = record {
    goes_on = λ is. goes_then e old new entered ms (goes_so e old new entered ms grows);
    kept = λ is left.
        ∥∥₁_map (notes.kept refl (left_parts e old new entered ms grows left).0) (λ stands.
        let on = stands_by (course e old) new.history stands (passes (is_call e old new entered ms grows left)) in
        subst NotesAreTrue (course_is e old new entered on.more on.goes_on) on.notes);
  }

pub calls_stand_law : CallsStand
calls_stand_law false e old new notes = (
  λ looks. none_stand e new,
  λ p content apart writes. none_stand e new,
  λ p bytes apart appends. none_stand e new,
  λ p stamp apart ticks. none_stand e new,
  λ job act starts. none_stand e new,
  λ job ok finishes. none_stand e new,
  λ restarts. none_stand e new,
)
calls_stand_law true e old new notes = (
  λ looks. by_pass e old new notes _ (looks.history refl).grows (λ call. looks_pass (course e old) old new call looks),
  λ p content apart writes. by_pass e old new notes _ (writes.history refl).1.grows (λ call. writes_pass (course e old) old new call p content apart writes),
  λ p bytes apart appends. by_pass e old new notes _ (appends.history refl).grows (λ call. appends_pass (course e old) old new call p bytes apart appends),
  λ p stamp apart ticks. by_pass e old new notes _ (ticks.history refl).grows (λ call. ticks_pass (course e old) old new call p stamp apart ticks),
  λ job act starts. by_pass e old new notes _ (starts.history refl).grows (λ call. starts_pass (course e old) old new call job act starts),
  λ job ok finishes. by_pass e old new notes _ (finishes.history refl).grows (λ call. finishes_pass (course e old) old new call job ok finishes),
  λ restarts. by_pass e old new notes _ (restarts.history refl).grows (λ call. restarts_pass (course e old) old new call restarts),
)

stand_of : (e : Entered) (base : Option (List ℕ)) (lines : List ℕ) (world : World) → Notes true e base lines world → NotesStand true e world
stand_of e base lines world notes = record { goes_on = notes.goes_on; kept = λ is left. ∥∥₁_map (notes.kept is left) (λ kept. kept.notes) }

module _ (front : FrontOfLines forms) (e : Entered) (lines : List ℕ) (old new : World) where
  put_all : Notes true e None lines old → Appends true e.knows.seen lines old new → Notes true e None [] new
  put_all notes appends =
      by_call e None lines old new notes None [] _ (appends.history refl).grows (λ call keeps. (note_calls_law front (course e old) lines old new call).0 keeps appends)

  put_some : Notes true e None lines old → AppendsOrNot true e.knows.seen lines old new → NotesStand true e new
  put_some notes (inl looks) = stand_of e None lines new (looks_note e None lines old new notes looks)
  put_some notes (inr partly) =
      by_end e None lines old new notes _ (partly.3.history refl).grows (λ call keeps. (note_calls_law front (course e old) lines old new call).1 partly.0 partly.1 partly.2 keeps partly.3)

  put_base : (text : List ℕ) → Notes true e (Some text) lines old → Writes true e.knows.seen (Some text) old new → Notes true e None lines new
  put_base text notes writes =
      by_call e (Some text) lines old new notes None lines _ (writes.history refl).1.grows (λ call keeps. ((note_calls_law front (course e old) lines old new call).2 text keeps writes).0)

  may_base : (text : List ℕ) → Notes true e (Some text) lines old → WritesOrNot true e.knows.seen (Some text) old new → Notes true e (Some text) lines new
  may_base text notes (inl looks) = looks_note e (Some text) lines old new notes looks
  may_base text notes (inr writes) =
      by_call e (Some text) lines old new notes (Some text) lines _ (writes.history refl).1.grows (λ call keeps. ((note_calls_law front (course e old) lines old new call).2 text keeps writes).1)

pub note_calls_note_law : FrontOfLines forms → NoteCallsNote
note_calls_note_law front false e lines old new = (
  λ notes appends. none_told e None [] new,
  λ notes appends. none_stand e new,
  λ text notes writes. none_told e None lines new,
  λ text notes writes. none_told e (Some text) lines new,
)
note_calls_note_law front true e lines old new = (
  put_all front e lines old new,
  put_some front e lines old new,
  put_base front e lines old new,
  may_base front e lines old new,
)

-- ---- what gets a line

pub found_law : FoundInCall
found_law tells e p stamp size old new goes_on finds is =
    let f = finds is in
    let goes : new.history ≡ real (grown (course e old) (f.earlier ++ f.later)) = goes_so e old new (goes_on is) (f.earlier ++ f.later) f.grows in
    record {
      file = f.file;
      stood = record {
        earlier = since e old ++ f.earlier;
        later = f.later;
        splits = since_is e old new (goes_on is) (f.earlier ++ f.later) goes ∙ sym (append_assoc (since e old) f.earlier f.later);
        there =
            ap (λ (h : List Moment). file_at h p) (sym (append_assoc e.first (since e old) f.earlier) ∙ ap (λ (h : List Moment). h ++ f.earlier) (sym (goes_on is)))
            ∙ f.there;
      };
      of_stamp = f.of_stamp;
      of_size = f.of_size;
    }

pub none_law : NoneInCall
none_law tells e p old new goes_on finds is =
    let f = finds is in
    let goes : new.history ≡ real (grown (course e old) (f.earlier ++ f.later)) = goes_so e old new (goes_on is) (f.earlier ++ f.later) f.grows in
    record {
      earlier = since e old ++ f.earlier;
      later = f.later;
      splits = since_is e old new (goes_on is) (f.earlier ++ f.later) goes ∙ sym (append_assoc (since e old) f.earlier f.later);
      there =
          ap (λ (h : List Moment). file_at h p) (sym (append_assoc e.first (since e old) f.earlier) ∙ ap (λ (h : List Moment). h ++ f.earlier) (sym (goes_on is)))
          ∙ f.none;
    }

pub absence_law : AbsenceNotes
absence_law false e base lines more world p kind notes stood line = none_told e base more world
absence_law true e base lines more world p kind notes stood line = record {
  goes_on = notes.goes_on;
  kept = λ tells left. ∥∥₁_map (notes.kept tells left) (λ kept.
      subst (λ (l : List ℕ). NotesAreKept (course e world) base l) (sym line.text)
      (line_law (course e world) base lines (record { path = p; file = None; kind = kind; number = 0 }) kept (away_law (course e world) p kind (stood refl)) line.has));
}

module _ (e : Entered) (base : Option (List ℕ)) (lines more : List ℕ) (world : World) (p : List ℕ) (kind : Kind) (stamp size : ℕ)
    (notes : Notes true e base lines world) (found : Found (course e world) p stamp size) where
  abbrev noted_as : ℕ → Noted
  noted_as number = record { kind = kind; stamp = stamp; size = size; number = number }

  abbrev sighted : ℕ → Sighting
  sighted number = record { path = p; file = Some found.file; kind = kind; number = number }

  -- the line is of what was found
  note_is : (number : ℕ) → noting p (noted_as number) ≡ note_of (sighted number)
  note_is number = λ i. noting p (record { kind = kind; stamp = sym found.of_stamp i; size = sym found.of_size i; number = number })

  adds : (number : ℕ) → IsTrueNote (course e world) (sighted number) → IsAppended (forms Two) (noting p (noted_as number)) lines more → Notes true e base more world
  adds number is line =
      let same : IsAppended (forms Two) (note_of (sighted number)) lines more = subst (λ (n : Note). IsAppended (forms Two) n lines more) (note_is number) line in
      record {
        goes_on = notes.goes_on;
        kept = λ tells left. ∥∥₁_map (notes.kept tells left) (λ kept.
            subst (λ (l : List ℕ). NotesAreKept (course e world) base l) (sym same.text) (line_law (course e world) base lines (sighted number) kept is same.has));
      }

  by_look : (since_then : Option ℕ) (number : ℕ) → e.knows.is_own p ≡ false → found_number (e.knows.noted p) (e.knows.is_output p) e.knows.number since_then stamp size ≡ Some number
      → IsTrueNote (course e world) (sighted number)
  by_look since_then number bound is =
      look_law (course e world) p found.file since_then kind number found.stood bound
      (ap (λ (s : ℕ). found_number (e.knows.noted p) (e.knows.is_output p) e.knows.number since_then s (length found.file.content)) found.of_stamp
      ∙ (ap (λ (s : ℕ). found_number (e.knows.noted p) (e.knows.is_output p) e.knows.number since_then stamp s) found.of_size ∙ is))

  by_told : (counts : ℕ)
      → stamp_told ((telling e.knows).counts p found.file) (started_so (telling e.knows) (since e world) p) stamp ≡ Some counts
      → IsTrueNote (course e world) (sighted (number_of counts stamp))
  by_told counts is =
      subst (λ (s : ℕ). IsTrueNote (course e world) (sighted (number_of counts s))) found.of_stamp
      (told_law (course e world) p found.file kind counts found.stood
      (ap (λ (s : Option ℕ). under s found.file.content)
      (ap (λ (s : ℕ). stamp_told ((telling e.knows).counts p found.file) (started_so (telling e.knows) (since e world) p) s) found.of_stamp ∙ is)))

pub lines_note_law : LinesNote
lines_note_law false e base lines more world p kind stamp size notes found = (
  λ since_then number bound is line. none_told e base more world,
  λ counts is line. none_told e base more world,
)
lines_note_law true e base lines more world p kind stamp size notes found = (
  λ since_then number bound is line. adds e base lines more world p kind stamp size notes (found refl) number
      (by_look e base lines more world p kind stamp size notes (found refl) since_then number (bound refl) (is refl)) line,
  λ counts is line. adds e base lines more world p kind stamp size notes (found refl) (number_of counts stamp)
      (by_told e base lines more world p kind stamp size notes (found refl) counts (is refl (found refl).file (found refl).of_stamp (found refl).of_size)) line,
)

-- ---- when a site is made that notes

-- what neither the program nor anybody else writes
not_at : (p : List ℕ) (ms : List Moment) → AllByRecursion (IsLeftByProgram p) ms → AllByRecursion (IsLeftByOthers p) ms → AllByRecursion (IsNotAt p) ms
not_at p [] program others = tt
not_at p (Wrote Program path content stamp ∷ ms) program others = (program.0, not_at p ms program.1 others.1)
not_at p (Wrote (Command job) path content stamp ∷ ms) program others = (others.0, not_at p ms program.1 others.1)
not_at p (Wrote Someone path content stamp ∷ ms) program others = (others.0, not_at p ms program.1 others.1)
not_at p (Happened event ∷ ms) program others = (tt, not_at p ms program.1 others.1)

-- what was read of them is what they tell where nothing was written there since
still : (k : Knowing) (base : Option (List ℕ)) (history later : List Moment) → AllByRecursion (IsNotAt k.seen) later → EntersBy k base history → EntersBy k base (history ++ later)
still k base history later apart enters = record {
  reads = record {
    records = enters.reads.records;
    tail = enters.reads.tail;
    read = subst (λ (text : List ℕ). IsRead forms text enters.reads.records enters.reads.tail) (sym text_same) enters.reads.read;
    is = enters.reads.is;
  };
  whole = subst (λ (text : List ℕ). BaseIsWhole text k.noted base) (sym text_same) enters.whole;
}
  where
    text_same : content_or_empty (file_at (history ++ later) k.seen) ≡ content_or_empty (file_at history k.seen)
    text_same = ap content_or_empty (file_stays k.seen history later apart)

module _ (e : Entered) (base : Option (List ℕ)) (enters : EntersAt e.knows base e.asked e.first) (left : AllByRecursion (IsLeftByOthers e.knows.seen) (entering e)) where
  entering_is : entering e ≡ enters.earlier ++ enters.later
  entering_is = ap (λ (h : List Moment). drop (length e.asked) h) enters.grows ∙ drop-append_seam e.asked (enters.earlier ++ enters.later)

  left_later : AllByRecursion (IsLeftByOthers e.knows.seen) enters.later
  left_later =
      (all_parts (IsLeftByOthers e.knows.seen) enters.earlier enters.later
      (subst (λ (l : List Moment). AllByRecursion (IsLeftByOthers e.knows.seen) l) entering_is left)).1

  stays_so : EntersBy e.knows base e.first
  stays_so =
      subst (λ (h : List Moment). EntersBy e.knows base h) (append_assoc e.asked enters.earlier enters.later ∙ sym enters.grows)
      (still e.knows base (e.asked ++ enters.earlier) enters.later (not_at e.knows.seen enters.later enters.left left_later) enters.enters)

pub stay_law : EntersStay
stay_law e base enters left = stays_so e base enters left

module _ (e : Entered) (base : Option (List ℕ)) (begins : BeginsSo (telling e.knows) e.first e.before) (enters : EntersBy e.knows base e.first) where
  abbrev none_yet : Course
  none_yet = record { knows = e.knows; first = e.first; before = e.before; more = [] }

  text_then : notes_text none_yet ≡ content_or_empty (file_at e.first e.knows.seen)
  text_then = ap (λ (h : List Moment). content_or_empty (file_at h e.knows.seen)) (append-nil e.first)

  read_then : IsRead forms (notes_text none_yet) enters.reads.records enters.reads.tail
  read_then = subst (λ (text : List ℕ). IsRead forms text enters.reads.records enters.reads.tail) (sym text_then) enters.reads.read

  kept_by : (b : Option (List ℕ)) → BaseIsWhole (content_or_empty (file_at e.first e.knows.seen)) e.knows.noted b → NotesAreKept none_yet b []
  kept_by None whole =
      (entry_law e.knows e.first e.before enters.reads.records enters.reads.tail begins read_then enters.reads.is).0
      (subst (λ (text : List ℕ). IsWhole text e.knows.noted) (sym text_then) whole)
  kept_by (Some text) whole = (entry_law e.knows e.first e.before enters.reads.records enters.reads.tail begins read_then enters.reads.is).1 text whole

  kept_then : NotesAreKept none_yet base []
  kept_then = kept_by base enters.whole

module _ (e : Entered) (base : Option (List ℕ)) (world : World) (is : world.history ≡ e.first) (begins : BeginsSo (telling e.knows) e.first e.before)
    (enters : EntersAt e.knows base e.asked e.first) where
  nothing_since : since e world ≡ []
  nothing_since = ap (λ (h : List Moment). drop (length e.first) h) is ∙ drop-length e.first

  kept_so : AllByRecursion (IsLeftByOthers e.knows.seen) (since_asked e world) → NotesAreKept (course e world) base []
  kept_so left =
      let so = stays_so e base enters (all_parts (IsLeftByOthers e.knows.seen) (entering e) (since e world) left).0 in
      subst (λ (ms : List Moment). NotesAreKept (record { knows = e.knows; first = e.first; before = e.before; more = ms }) base []) (sym nothing_since) (kept_then e base begins so)

  enters_so : Notes true e base [] world
  enters_so = record {
    goes_on = λ tells. is ∙ (sym (append-nil e.first) ∙ ap (λ (ms : List Moment). e.first ++ ms) (sym nothing_since));
    kept = λ tells left. ∣ kept_so left ∣₁;
  }

pub enters_law : EntersNoted
enters_law false e base world is begins enters = none_told e base [] world
enters_law true e base world is begins enters = enters_so e base world (is refl) (begins refl) (enters refl)
