-- What happens in a build, and what it leaves of the notes.
use Rattle.std.proofs.Common.{◌≡◌, inl, inr, ℕ, List, [], ◌∷◌, ◌++◌, Option, Some, None, bytes_eq, refl, sym, ◌∙◌, ap, subst, append_assoc, append-nil}
use Rattle.std.specs.List.{AllByRecursion}
use Rattle.std.specs.Option.{option_or}
use Rattle.std.proofs.lemmas.Bool.{cond-true}
use Rattle.std.proofs.lemmas.List.{map-append}
use Rattle.log_text.specs.declared.form.Version.TheVariants.{Two}
use Rattle.log_text.specs.declared.tail.Tail.{Tail}
use Rattle.log_text.specs.declared.tail.Tail.TheVariants.{Whole, Torn}
use Rattle.log_text.specs.Form.{HasLine, HaveLines, lines_text, record_line}
use Rattle.log_text.specs.Text.{IsLogOf, IsRead, header}
use Rattle.log_text.specs.Laws.{FrontOfLines, IsEndedOrTorn, KeepsInForce}
use Rattle.model.specs.declared.event.Moment.{Moment}
use Rattle.model.specs.declared.event.Moment.TheVariants.{Wrote}
use Rattle.model.specs.declared.event.Writer.TheVariants.{Program}
use Rattle.model.specs.World.{File, IsNotAt, file_at, written}
use Rattle.model.specs.Calls.{content_or_empty}
use Rattle.theory.proofs.Lists.{all_append, all_parts, all_weaker, bytes_same}
use Rattle.theory.proofs.Files.{file_from-append, file_stays}
use Rattle.seen_log.specs.declared.note.Note.{Note}
use Rattle.seen_log.specs.declared.note.Noted.{Noted}
use Rattle.seen_log.specs.Log.{compaction, noted_in_force}
use Rattle.seen_log.specs.Record.{forms}
use Rattle.seen_law.specs.Retold.{BeginsSo}
use Rattle.seen_true.specs.Counting.{Knowing, telling}
use Rattle.seen_true.specs.Notes.{AreRead, ArePending, AreTrue, BaseFits, Course, IsToldSo, IsTrueNote, IsWhole, NotesAreKept, NotesAreTrue, Sighting, grown, note_of, noted_by, noted_of, notes_of, notes_text, real}
use Rattle.seen_true.specs.Laws.{BaseKeepsNotes, CompactionFits, EntryIsTrue, LineKeepsNotes, LinesKeepNotes, MomentsKeepNotes, writes_notes}
use Rattle.seen_true.proofs.Small.{in_force-append, map-split, or_assoc}
use Rattle.seen_true.proofs.Telling.{told_keeps}

-- ---- what was seen stays true

told_on : (c : Course) (ms : List Moment) (p : List ℕ) (noted : Noted) (held : Option File) → IsToldSo c p noted held → IsToldSo (grown c ms) p noted held
told_on c ms p noted None so = so
told_on c ms p noted (Some file) so = record { stamp = so.stamp; told = told_keeps (telling c.knows) c.more ms p file _ so.told; no_later = so.no_later }

true_on : (c : Course) (ms : List Moment) (s : Sighting) → IsTrueNote c s → IsTrueNote (grown c ms) s
true_on c ms s is = record {
  stood = record {
    earlier = is.stood.earlier;
    later = is.stood.later ++ ms;
    splits = ap (λ (l : List Moment). l ++ ms) is.stood.splits ∙ append_assoc is.stood.earlier is.stood.later ms;
    there = is.stood.there;
  };
  so = told_on c ms s.path (noted_of s.kind s.number s.file) s.file is.so;
}

pub all_true_on : (c : Course) (ms : List Moment) (sightings : List Sighting) → AreTrue c sightings → AreTrue (grown c ms) sightings
all_true_on c ms sightings all = all_weaker (IsTrueNote c) (IsTrueNote (grown c ms)) (true_on c ms) sightings all

pending_on : (c : Course) (ms : List Moment) (lines : List ℕ) → ArePending c lines → ArePending (grown c ms) lines
pending_on c ms lines is = record { sightings = is.sightings; all = all_true_on c ms is.sightings is.all; text = is.text; have = is.have }

-- ---- a whole log

-- it is read as what it tells
read_whole : (c : Course) (sightings : List Sighting) → IsWhole (notes_text c) (noted_by c sightings) → AreRead c sightings
read_whole c sightings is = record { records = is.records; tail = Whole; read = inr is.log; tells = is.same }

-- ---- moments that do not write the notes

module _ (c : Course) (ms : List Moment) (apart : AllByRecursion (IsNotAt c.knows.seen) ms) where
  text_on : notes_text (grown c ms) ≡ notes_text c
  text_on =
      ap content_or_empty
      (ap (λ (h : List Moment). file_at h c.knows.seen) (sym (append_assoc c.first c.more ms))
      ∙ file_stays c.knows.seen (real c) ms apart)

  read_on : (sightings : List Sighting) → AreRead c sightings → AreRead (grown c ms) sightings
  read_on sightings is = record {
    records = is.records;
    tail = is.tail;
    read = subst (λ (text : List ℕ). IsRead forms text is.records is.tail) (sym text_on) is.read;
    tells = is.tells;
  }

  fits_on : (base : Option (List ℕ)) (sightings : List Sighting) → BaseFits c sightings base → BaseFits (grown c ms) sightings base
  fits_on None sightings is = subst (λ (text : List ℕ). IsWhole text (noted_by c sightings)) (sym text_on) is
  fits_on (Some text) sightings is = is

  pub notes_on : NotesAreTrue c → NotesAreTrue (grown c ms)
  notes_on notes = record { begins = notes.begins; sightings = notes.sightings; all = all_true_on c ms notes.sightings notes.all; file = read_on notes.sightings notes.file }

  pub kept_on : (base : Option (List ℕ)) (lines : List ℕ) → NotesAreKept c base lines → NotesAreKept (grown c ms) base lines
  kept_on base lines keeps = record {
    notes = record {
      begins = keeps.notes.begins;
      sightings = keeps.notes.sightings;
      all = all_true_on c ms keeps.notes.sightings keeps.notes.all;
      file = read_on keeps.notes.sightings keeps.notes.file;
    };
    stands = fits_on base keeps.notes.sightings keeps.stands;
    pending = pending_on c ms lines keeps.pending;
  }

pub moments_law : MomentsKeepNotes
moments_law c base lines ms keeps apart = kept_on c ms apart base lines keeps

-- ---- the program writes the notes

module _ (c : Course) (text : List ℕ) (stamp : ℕ) where
  abbrev now : Course
  now = writes_notes c text stamp

  text_now : notes_text now ≡ text
  text_now =
      ap content_or_empty
      (ap (λ (h : List Moment). file_at h c.knows.seen) (sym (append_assoc c.first c.more (Wrote Program c.knows.seen (Some text) stamp ∷ [])))
      ∙ (file_from-append c.knows.seen None (real c) (Wrote Program c.knows.seen (Some text) stamp ∷ [])
      ∙ cond-true (bytes_eq c.knows.seen c.knows.seen) (written (Some text) stamp) (file_at (real c) c.knows.seen) (bytes_same c.knows.seen)))

  whole_now : (sightings : List Sighting) → IsWhole text (noted_by c sightings) → IsWhole (notes_text now) (noted_by now sightings)
  whole_now sightings is = subst (λ (l : List ℕ). IsWhole l (noted_by c sightings)) (sym text_now) is

-- ---- lines behind a log

flat-append : (rs ss : List Note) → lines_text (forms Two) (rs ++ ss) ≡ lines_text (forms Two) rs ++ lines_text (forms Two) ss
flat-append [] ss = refl
flat-append (r ∷ rs) ss =
    ap (λ (l : List ℕ). record_line (forms Two) r ++ l) (flat-append rs ss)
    ∙ sym (append_assoc (record_line (forms Two) r) (lines_text (forms Two) rs) (lines_text (forms Two) ss))

log_on : (text : List ℕ) (old new : List Note) → IsLogOf (forms Two) text old → HaveLines (forms Two) new → IsLogOf (forms Two) (text ++ lines_text (forms Two) new) (old ++ new)
log_on text old new log have = record {
  lines =
      ap (λ (l : List ℕ). l ++ lines_text (forms Two) new) log.lines
      ∙ (append_assoc (header (forms Two)) (lines_text (forms Two) old) (lines_text (forms Two) new)
      ∙ ap (λ (l : List ℕ). header (forms Two) ++ l) (sym (flat-append old new)));
  fit = all_append (HasLine (forms Two)) old new log.fit have;
}

-- what is noted by these, and then by those
noted_then : (c : Course) (xs ys : List Sighting) (records : List Note) → ((p : List ℕ) → noted_in_force records p ≡ noted_by c xs p)
    → (p : List ℕ) → noted_in_force (records ++ notes_of ys) p ≡ noted_by c (xs ++ ys) p
noted_then c xs ys records same p =
    in_force-append records (notes_of ys) p
    ∙ (ap (λ (o : Option Noted). option_or (noted_in_force (notes_of ys) p) o) (same p)
    ∙ (or_assoc (noted_in_force (notes_of ys) p) (noted_in_force (notes_of xs) p) (c.knows.noted p)
    ∙ ap (λ (o : Option Noted). option_or o (c.knows.noted p))
    (sym (in_force-append (notes_of xs) (notes_of ys) p) ∙ ap (λ (rs : List Note). noted_in_force rs p) (sym (map-append note_of xs ys)))))

-- a text that is ended or torn is read so
record Reading (text : List ℕ) (records : List Note) : Type 0 where
  tail : Tail
  read : IsRead forms text records tail

reading : (text : List ℕ) (records : List Note) → IsEndedOrTorn (forms Two) text records → Reading text records
reading text records (inl ended) = record { tail = Whole; read = ended.1 }
reading text records (inr torn) = record { tail = Torn; read = (Two, torn.1) }

module _ (front : FrontOfLines forms) (c : Course) (lines : List ℕ) (stamp : ℕ) (keeps : NotesAreKept c None lines) where
  abbrev before : List Sighting
  before = keeps.notes.sightings

  abbrev fresh : List Sighting
  fresh = keeps.pending.sightings

  -- all of them
  grown_text : notes_text c ++ lines ≡ notes_text c ++ lines_text (forms Two) (notes_of fresh)
  grown_text = ap (λ (l : List ℕ). notes_text c ++ l) keeps.pending.text

  whole_then : IsWhole (notes_text c ++ lines) (noted_by c (before ++ fresh))
  whole_then = record {
    records = keeps.stands.records ++ notes_of fresh;
    log = subst (λ (l : List ℕ). IsLogOf (forms Two) l (keeps.stands.records ++ notes_of fresh)) (sym grown_text)
        (log_on (notes_text c) keeps.stands.records (notes_of fresh) keeps.stands.log keeps.pending.have);
    same = noted_then c before fresh keeps.stands.records keeps.stands.same;
  }

  abbrev pub after : Course
  after = writes_notes c (notes_text c ++ lines) stamp

  pub all_put : NotesAreKept after None []
  all_put = record {
    notes = record {
      begins = keeps.notes.begins;
      sightings = before ++ fresh;
      all = all_true_on c _ (before ++ fresh) (all_append (IsTrueNote c) before fresh keeps.notes.all keeps.pending.all);
      file = read_whole after (before ++ fresh) (whole_now c (notes_text c ++ lines) stamp (before ++ fresh) whole_then);
    };
    stands = whole_now c (notes_text c ++ lines) stamp (before ++ fresh) whole_then;
    pending = record { sightings = []; all = tt; text = refl; have = tt };
  }

  -- or a beginning
  module _ (part rest : List ℕ) (is : part ++ rest ≡ lines) where
    abbrev pub partly : Course
    partly = writes_notes c (notes_text c ++ part) stamp

    pub some_put : NotesAreTrue partly
    some_put =
        let told = front Two (notes_text c) part rest keeps.stands.records (notes_of fresh) keeps.stands.log keeps.pending.have (sym keeps.pending.text ∙ sym is) in
        let split = map-split note_of fresh told.0 told.1 told.2 in
        let is_read = reading (notes_text c ++ part) (keeps.stands.records ++ told.0) told.3 in
        let seen : AreTrue c split.before = (all_parts (IsTrueNote c) split.before split.after (subst (AreTrue c) split.is keeps.pending.all)).0 in
        record {
          begins = keeps.notes.begins;
          sightings = before ++ split.before;
          all = all_true_on c _ (before ++ split.before) (all_append (IsTrueNote c) before split.before keeps.notes.all seen);
          file = record {
            records = keeps.stands.records ++ notes_of split.before;
            tail = is_read.tail;
            read = subst (λ (l : List ℕ). IsRead forms l (keeps.stands.records ++ notes_of split.before) is_read.tail) (sym (text_now c (notes_text c ++ part) stamp))
                (subst (λ (rs : List Note). IsRead forms (notes_text c ++ part) (keeps.stands.records ++ rs) is_read.tail) (sym split.comes) is_read.read);
            tells = noted_then c before split.before keeps.stands.records keeps.stands.same;
          };
        }

pub lines_law : FrontOfLines forms → LinesKeepNotes
lines_law front c lines stamp keeps = (all_put front c lines stamp keeps, λ part rest is. some_put front c lines stamp keeps part rest is)

-- ---- a compaction in their place

module _ (c : Course) (text lines : List ℕ) (stamp : ℕ) (keeps : NotesAreKept c (Some text) lines) where
  abbrev pub ms : List Moment
  ms = Wrote Program c.knows.seen (Some text) stamp ∷ []

  stands_so : IsWhole (notes_text (grown c ms)) c.knows.noted
  stands_so = subst (λ (l : List ℕ). IsWhole l c.knows.noted) (sym (text_now c text stamp)) keeps.stands.1

  -- nothing was noted yet
  abbrev noted_none : NotesAreTrue (grown c ms)
  noted_none = record { begins = keeps.notes.begins; sightings = []; all = tt; file = read_whole (grown c ms) [] stands_so }

  pub put_once : NotesAreKept (grown c ms) None lines
  put_once = record { notes = noted_none; stands = stands_so; pending = pending_on c ms lines keeps.pending }

  pub put_again : NotesAreKept (grown c ms) (Some text) lines
  put_again = record { notes = noted_none; stands = (refl, keeps.stands.1); pending = pending_on c ms lines keeps.pending }

pub base_law : BaseKeepsNotes
base_law c text lines stamp keeps = (put_once c text lines stamp keeps, put_again c text lines stamp keeps)

-- ---- one line more

pub line_law : LineKeepsNotes
line_law c base lines s keeps is has = record {
  notes = keeps.notes;
  stands = keeps.stands;
  pending = record {
    sightings = keeps.pending.sightings ++ s ∷ [];
    all = all_append (IsTrueNote c) keeps.pending.sightings (s ∷ []) keeps.pending.all (is, tt);
    text =
        ap (λ (l : List ℕ). l ++ record_line (forms Two) (note_of s)) keeps.pending.text
        ∙ (ap (λ (l : List ℕ). lines_text (forms Two) (notes_of keeps.pending.sightings) ++ l) (sym (append-nil (record_line (forms Two) (note_of s))))
        ∙ (sym (flat-append (notes_of keeps.pending.sightings) (note_of s ∷ []))
        ∙ ap (λ (rs : List Note). lines_text (forms Two) rs) (sym (map-append note_of keeps.pending.sightings (s ∷ [])))));
    have = subst (HaveLines (forms Two)) (sym (map-append note_of keeps.pending.sightings (s ∷ [])))
        (all_append (HasLine (forms Two)) (notes_of keeps.pending.sightings) (note_of s ∷ []) keeps.pending.have (has, tt));
  };
}

-- ---- the beginning

module _ (k : Knowing) (first before : List Moment) (records : List Note) (tail : Tail) where
  abbrev entered : Course
  entered = record { knows = k; first = first; before = before; more = [] }

  module _ (begins : BeginsSo (telling k) first before) (read : IsRead forms (notes_text entered) records tail) (is : (p : List ℕ) → k.noted p ≡ noted_in_force records p) where
    abbrev true_then : NotesAreTrue entered
    true_then = record { begins = begins; sightings = []; all = tt; file = record { records = records; tail = tail; read = read; tells = λ p. sym (is p) } }

    abbrev none_pending : ArePending entered []
    none_pending = record { sightings = []; all = tt; text = refl; have = tt }

    as_it_is : IsWhole (notes_text entered) k.noted → NotesAreKept entered None []
    as_it_is whole = record { notes = true_then; stands = whole; pending = none_pending }

    with_base : (text : List ℕ) → IsWhole text k.noted → NotesAreKept entered (Some text) []
    with_base text whole = record { notes = true_then; stands = (refl, whole); pending = none_pending }

pub entry_law : EntryIsTrue
entry_law k first before records tail begins read is = (
  as_it_is k first before records tail begins read is,
  with_base k first before records tail begins read is,
)

pub compaction_law : KeepsInForce noted_in_force compaction → CompactionFits
compaction_law keeps records text log = record { records = compaction records; log = log; same = keeps.same records }
