-- What was seen may be noted, and each call keeps the notes true.
use Rattle.std.proofs.Common.{◌≡◌, inl, inr, ℕ, Bool, true, false, if◌then◌else◌, ◌&&◌, not, is_some, List, [], ◌++◌, Option, Some, None, Result, Ok, Err, length, max, refl, sym, ◌∙◌, ap, subst}
use Rattle.std.specs.Prelude.{IsTrue, IfOk, OnErr, OnOk, bytes_eq}
use Rattle.std.proofs.Math.Logic.{∥∥₁_map}
use Rattle.std.proofs.lemmas.Bool.{cases_Bool, cond-true, cond-false, false≢true}
use Rattle.std.proofs.lemmas.Slice.Eq.{bytes_eq-Decides}
use Rattle.model.specs.declared.act.Act.{Act}
use Rattle.model.specs.declared.event.Finished.{Finished}
use Rattle.model.specs.declared.fault.SiteFault.{SiteFault}
use Rattle.model.specs.declared.event.Moment.{Moment}
use Rattle.model.specs.Graph.{has}
use Rattle.model.specs.World.{World, File, file_at, stamp_of}
use Rattle.model.specs.Calls.{Appends, AppendsOrNot, Finishes, IsRestart, OnlyLooks, Sees, SpoilsOrNot, Starts, StartsOrNot, Ticks, TicksOrNot, Writes, WritesOrNot}
use Rattle.seen_log.specs.declared.note.Kind.{Kind}
use Rattle.seen_log.specs.declared.note.Kind.TheVariants.{Made, Source}
use Rattle.seen_log.specs.declared.note.Last.{Last}
use Rattle.seen_log.specs.declared.note.Noted.{Noted}
use Rattle.seen_log.specs.Keeping.{last_of}
use Rattle.seen_log.specs.Log.{counts_of}
use Rattle.seen_law.specs.Retold.{stamp_told, under}
use Rattle.seen_law.specs.Laws.{started_so}
use Rattle.seen_true.specs.Counting.{counts_file, is_as_noted, is_turned, no_size, telling}
use Rattle.seen_true.specs.Laws.{found_number, is_late}
use Rattle.seen_true.specs.Notes.{Stood}
use Rattle.seen_true.specs.Going.{AbsenceNotes, Adds, CallsNote, CallsStand, Found, FoundInCall, LinesNote, NoneInCall, NoteCallsNote, Notes, NotesStand, course, since}
use Rattle.seen.specs.declared.answer.Looked.{Looked}
use Rattle.seen.specs.declared.counts.Counts.{Counts}
use Rattle.seen.specs.declared.judging.Judged.{Judged}
use Rattle.measure.specs.declared.measure.Measure.{Measure}
use Rattle.seen.specs.declared.own.Own.{Own}
use Rattle.seen.specs.Answered.{placed_by}
use Rattle.seen.specs.Beginning.{counts_at, noted_of, past_of, started_by}
use Rattle.seen.specs.Begun.{Begun, GoesOn}
use Rattle.seen.specs.Judged.{judged, left_number, plainly, turned, under as noted_under}
use Rattle.seen.specs.Known.{MayLeave, MaySee, NumbersSo, TellingsAreSame, known_of}
use Rattle.seen.specs.Looking.{KnowsSame, NotesStart, looked_at, looked_by, looked_own, looked_there}
use Rattle.seen.specs.Makers.{made_in, maker_of}
use Rattle.measure.specs.Measured.{measure_of, measured_at}
use Rattle.seen.specs.Noting.{AbsenceOf, AwayOf, LeftOf, LinesOf, NeverOf, UnlessSettled, UnmadeOf, is_absence}
use Rattle.seen.specs.Own.{is_own}
use Rattle.seen.proofs.Seeing.{looked_told, placed_there}

-- ---- what is known

-- what counts, by what is noted, is what counts by what was judged
counts_by : (as_noted is_output is_turned_so : Bool) (before other : ℕ) (kind : Kind)
    → (if as_noted then (if is_output && is_turned_so then None else Some before) else (if is_output then None else Some other))
    ≡ (if as_noted then (if is_output && is_turned_so then plainly None else plainly (Some before)) else (if is_output then plainly None else noted_under other kind)).counts
counts_by true true true before other kind = refl
counts_by true true false before other kind = refl
counts_by true false t before other kind = refl
counts_by false true t before other kind = refl
counts_by false false t before other kind = refl

judged_counts : (noted : Option Noted) (is_output : Bool) (number : ℕ) (file : File)
    → counts_file noted is_output number file ≡ (judged (record { noted = noted; is_output = is_output; since = None }) number (Some (measure_of file))).counts
judged_counts None is_output number file = refl
judged_counts (Some n) is_output number file =
    counts_by (is_as_noted n file.stamp (length file.content)) is_output (is_turned n.kind) (counts_of n) (max number file.stamp) (turned n.kind)

-- so files are told as they count
pub known_counts : (k : Counts) (p : List ℕ) (file : File) → (telling (known_of k)).counts p file ≡ counts_at k.notes k.makers k.own k.number p file
known_counts k p file =
    ap (λ (c : Option ℕ). if is_own k.own p then Some file.stamp else c) (judged_counts (noted_of k.notes p) (is_some (maker_of k.makers p)) k.number file)

pub tellings_law : TellingsAreSame
tellings_law k = λ i. record {
  counts = λ p file. sym (known_counts k p file) i;
  makes = made_in k.makers.listed.items k.makers.listed.items;
  hidden = λ p. bytes_eq k.own.seen p;
}

new_number : (late : Bool) (stamp : ℕ) (a : Judged) → a.number ≡ Some 0 → (if late then Some stamp else Some 0) ≡ (if late then noted_under stamp Source else a).number
new_number true stamp a is = refl
new_number false stamp a is = sym is

noted_number : (as_noted is_output is_turned_so : Bool) (before : Option ℕ) (other : ℕ) (kind : Kind)
    → (if as_noted then None else (if is_output then None else Some other))
    ≡ (if as_noted then (if is_output && is_turned_so then plainly None else plainly before) else (if is_output then plainly None else noted_under other kind)).number
noted_number true true true before other kind = refl
noted_number true true false before other kind = refl
noted_number true false t before other kind = refl
noted_number false true t before other kind = refl
noted_number false false t before other kind = refl

number_is : (noted : Option Noted) (is_output : Bool) (number : ℕ) (s : Option ℕ) (stamp size : ℕ)
    → found_number noted is_output number s stamp size
    ≡ (judged (record { noted = noted; is_output = is_output; since = s }) number (Some (record { stamp = stamp; size = Some size; placed = stamp }))).number
number_is None is_output number s stamp size = new_number (is_late s stamp && not is_output) stamp _ refl
number_is (Some n) is_output number s stamp size =
    noted_number (is_as_noted n stamp size) is_output (is_turned n.kind) (Some (counts_of n)) (max number stamp) (turned n.kind)

pub known_numbers : (k : Counts) → NumbersSo (known_of k) k
known_numbers k p s stamp size = number_is (noted_of k.notes p) (is_some (maker_of k.makers p)) k.number s stamp size

-- and so they are where which edge makes a path is found in another place
pub numbers_same : (b : Begun) (old new : Counts) → KnowsSame old new → NumbersSo b.knows old → NumbersSo b.knows new
numbers_same b old new same is p s stamp size =
    is p s stamp size
    ∙ (λ i. (judged (record { noted = noted_of (sym same.notes i) p; is_output = is_some (sym (same.makers p) i); since = s }) (sym same.number i) (Some (record { stamp = stamp; size = Some size; placed = stamp }))).number)

-- ---- notes of a site that does not tell its files

never : false ≡ true → ⊥
never e = cc

pub notes_untold : (tells : Bool) (b : Begun) (base : Option (List ℕ)) (lines : List ℕ) (w : World) → (IsTrue tells → ⊥) → Notes tells b base lines w
notes_untold tells b base lines w untold_so = record { goes_on = λ is. absurd (untold_so is); kept = λ is left. absurd (untold_so is) }

pub stand_untold : (tells : Bool) (b : Begun) (w : World) → (IsTrue tells → ⊥) → NotesStand tells b w
stand_untold tells b w untold_so = record { goes_on = λ is. absurd (untold_so is); kept = λ is left. absurd (untold_so is) }

pub stand_of : (tells : Bool) (b : Begun) (base : Option (List ℕ)) (lines : List ℕ) (w : World) → Notes tells b base lines w → NotesStand tells b w
stand_of tells b base lines w notes = record { goes_on = notes.goes_on; kept = λ is left. ∥∥₁_map (notes.kept is left) (λ kept. kept.notes) }

-- ---- each call

-- what is kept from the program is not this path
apart_of : (p q : List ℕ) → bytes_eq q p ≡ false → bytes_eq p q ≡ false
apart_of p q apart = elim (cases_Bool (bytes_eq p q)) [
  | inl same ↦ absurd (false≢true (sym apart ∙ (bytes_eq-Decides q p).1 (sym ((bytes_eq-Decides p q).0 same))))
  | inr other ↦ other
]

-- the call keeps the notes true
pub record Keeps (tells : Bool) (b : Begun) (x y : World) : Type 0 where
  pub notes : (base : Option (List ℕ)) (lines : List ℕ) → Notes tells b base lines x → Notes tells b base lines y
  pub stand : NotesStand tells b x → NotesStand tells b y

module _ (tells : Bool) (b : Begun) (x y : World) (calls : CallsNote) (stands : CallsStand) where
  untold : tells ≡ false → Keeps tells b x y
  untold not_told = record {
    notes = λ base lines notes. notes_untold tells b base lines y (λ is. false≢true (sym not_told ∙ is));
    stand = λ stand. stand_untold tells b y (λ is. false≢true (sym not_told ∙ is));
  }

  -- where the path has to be another than that of the notes
  where_told : (IsTrue tells → Keeps tells b x y) → Keeps tells b x y
  where_told told = elim (cases_Bool tells) [
    | inl is ↦ told is
    | inr not_told ↦ untold not_told
  ]

  pub looks_keep : OnlyLooks tells x y → Keeps tells b x y
  looks_keep does = record { notes = λ base lines notes. (calls tells b base lines x y notes).0 does; stand = λ stand. (stands tells b x y stand).0 does }

  pub restarts_keep : IsRestart tells x y → Keeps tells b x y
  restarts_keep does = record { notes = λ base lines notes. (calls tells b base lines x y notes).6 does; stand = λ stand. (stands tells b x y stand).6 does }

  pub starts_keep : (job : ℕ) (act : Act) → Starts tells job act x y → Keeps tells b x y
  starts_keep job act does = record { notes = λ base lines notes. (calls tells b base lines x y notes).4 job act does; stand = λ stand. (stands tells b x y stand).4 job act does }

  pub finishes_keep : (job : ℕ) (ok : Bool) → Finishes tells job ok x y → Keeps tells b x y
  finishes_keep job ok does = record { notes = λ base lines notes. (calls tells b base lines x y notes).5 job ok does; stand = λ stand. (stands tells b x y stand).5 job ok does }

  module _ (p : List ℕ) (hidden : IsTrue tells → bytes_eq b.knows.seen p ≡ false) where
    writes_keep : (content : Option (List ℕ)) → Writes tells p content x y → Keeps tells b x y
    writes_keep content does = where_told (λ is. record {
      notes = λ base lines notes. (calls tells b base lines x y notes).1 p content (apart_of p b.knows.seen (hidden is)) does;
      stand = λ stand. (stands tells b x y stand).1 p content (apart_of p b.knows.seen (hidden is)) does;
    })

    appends_keep : (bytes : List ℕ) → Appends tells p bytes x y → Keeps tells b x y
    appends_keep bytes does = where_told (λ is. record {
      notes = λ base lines notes. (calls tells b base lines x y notes).2 p bytes (apart_of p b.knows.seen (hidden is)) does;
      stand = λ stand. (stands tells b x y stand).2 p bytes (apart_of p b.knows.seen (hidden is)) does;
    })

    ticks_keep : (stamp : ℕ) → Ticks tells p stamp x y → Keeps tells b x y
    ticks_keep stamp does = where_told (λ is. record {
      notes = λ base lines notes. (calls tells b base lines x y notes).3 p stamp (apart_of p b.knows.seen (hidden is)) does;
      stand = λ stand. (stands tells b x y stand).3 p stamp (apart_of p b.knows.seen (hidden is)) does;
    })

    -- ---- by what was answered

    pub wrote_keep : (content : List ℕ) (r : Result (Unit {0}) SiteFault) → OnOk r (Writes tells p (Some content) x y) → OnErr r (SpoilsOrNot tells p x y) → Keeps tells b x y
    wrote_keep content (Ok v) ok err = writes_keep (Some content) ok
    wrote_keep content (Err fault) ok (inl looks) = looks_keep looks
    wrote_keep content (Err fault) ok (inr does) = writes_keep (Some does.0) does.1

    pub replaced_keep : (content : Option (List ℕ)) (r : Result (Unit {0}) SiteFault) → OnOk r (Writes tells p content x y) → OnErr r (WritesOrNot tells p content x y) → Keeps tells b x y
    replaced_keep content (Ok v) ok err = writes_keep content ok
    replaced_keep content (Err fault) ok (inl looks) = looks_keep looks
    replaced_keep content (Err fault) ok (inr does) = writes_keep content does

    pub appended_keep : (bytes : List ℕ) (r : Result (Unit {0}) SiteFault) → OnOk r (Appends tells p bytes x y) → OnErr r (AppendsOrNot tells p bytes x y) → Keeps tells b x y
    appended_keep bytes (Ok v) ok err = appends_keep bytes ok
    appended_keep bytes (Err fault) ok (inl looks) = looks_keep looks
    appended_keep bytes (Err fault) ok (inr does) = appends_keep does.0 does.3

    pub ticked_keep : (r : Result ℕ SiteFault) → IfOk r (λ stamp. Ticks tells p stamp x y) → OnErr r (TicksOrNot tells p x y) → Keeps tells b x y
    ticked_keep (Ok stamp) ok err = ticks_keep stamp ok
    ticked_keep (Err fault) ok (inl looks) = looks_keep looks
    ticked_keep (Err fault) ok (inr does) = ticks_keep does.0 does.1

  pub waited_keep : (r : Result Finished SiteFault) → IfOk r (λ finished. Finishes tells finished.job finished.ok x y) → OnErr r (OnlyLooks tells x y) → Keeps tells b x y
  waited_keep (Ok finished) ok err = finishes_keep finished.job finished.ok ok
  waited_keep (Err fault) ok err = looks_keep err

  pub started_keep : (job : ℕ) (act : Act) (r : Result (Unit {0}) SiteFault) → OnOk r (Starts tells job act x y) → OnErr r (StartsOrNot tells job act x y) → Keeps tells b x y
  started_keep job act (Ok v) ok err = starts_keep job act ok
  started_keep job act (Err fault) ok (inl looks) = looks_keep looks
  started_keep job act (Err fault) ok (inr does) = starts_keep job act does

-- ---- calls that write the notes

module _ (tells : Bool) (b : Begun) (x y : World) (laws : NoteCallsNote) (p : List ℕ) (here : IsTrue tells → b.knows.seen ≡ p) where
  at_notes : (P : List ℕ → Type 0) → IsTrue tells → P p → P b.knows.seen
  at_notes P is held = subst P (sym (here is)) held

  told_or : (Q : Type 0) → ((IsTrue tells → ⊥) → Q) → (IsTrue tells → Q) → Q
  told_or Q other same_so = elim (cases_Bool tells) [
    | inl is ↦ same_so is
    | inr not_told ↦ other (λ is. false≢true (sym not_told ∙ is))
  ]

  -- the lines were put behind them, or some of them were
  pub put_notes : (lines : List ℕ) → Notes tells b None lines x → (r : Result (Unit {0}) SiteFault) → OnOk r (Appends tells p lines x y) → OnOk r (Notes tells b None [] y)
  put_notes lines notes (Ok v) ok =
      told_or (Notes tells b None [] y) (notes_untold tells b None [] y)
      (λ is. (laws tells b lines x y).0 notes (at_notes (λ (q : List ℕ). Appends tells q lines x y) is ok))
  put_notes lines notes (Err fault) ok = tt

  pub put_stand : (lines : List ℕ) → Notes tells b None lines x → (r : Result (Unit {0}) SiteFault) → OnOk r (Appends tells p lines x y) → OnErr r (AppendsOrNot tells p lines x y) → NotesStand tells b y
  put_stand lines notes (Ok v) ok err =
      told_or (NotesStand tells b y) (stand_untold tells b y)
      (λ is. stand_of tells b None [] y ((laws tells b lines x y).0 notes (at_notes (λ (q : List ℕ). Appends tells q lines x y) is ok)))
  put_stand lines notes (Err fault) ok err =
      told_or (NotesStand tells b y) (stand_untold tells b y)
      (λ is. (laws tells b lines x y).1 notes (at_notes (λ (q : List ℕ). AppendsOrNot tells q lines x y) is err))

  -- the text took their place, or it did not
  pub anew_notes : (text lines : List ℕ) → Notes tells b (Some text) lines x → (r : Result (Unit {0}) SiteFault) → OnOk r (Writes tells p (Some text) x y) → OnOk r (Notes tells b None lines y)
  anew_notes text lines notes (Ok v) ok =
      told_or (Notes tells b None lines y) (notes_untold tells b None lines y)
      (λ is. (laws tells b lines x y).2 text notes (at_notes (λ (q : List ℕ). Writes tells q (Some text) x y) is ok))
  anew_notes text lines notes (Err fault) ok = tt

  pub anew_stand : (text lines : List ℕ) → Notes tells b (Some text) lines x → (r : Result (Unit {0}) SiteFault) → OnOk r (Writes tells p (Some text) x y) → OnErr r (WritesOrNot tells p (Some text) x y) → NotesStand tells b y
  anew_stand text lines notes (Ok v) ok err =
      told_or (NotesStand tells b y) (stand_untold tells b y)
      (λ is. stand_of tells b None lines y ((laws tells b lines x y).2 text notes (at_notes (λ (q : List ℕ). Writes tells q (Some text) x y) is ok)))
  anew_stand text lines notes (Err fault) ok err =
      told_or (NotesStand tells b y) (stand_untold tells b y)
      (λ is. stand_of tells b (Some text) lines y ((laws tells b lines x y).3 text notes (at_notes (λ (q : List ℕ). WritesOrNot tells q (Some text) x y) is err)))

-- ---- what was seen

-- a look at the path, in a build that had gone so far, that found what stood there
module _ (b : Begun) (x y : World) (k : Counts) (p : List ℕ) (finds : FoundInCall) (finds_none : NoneInCall) (notes_lines : LinesNote) (notes_absence : AbsenceNotes)
    (goes : GoesOn true b x) (earlier later : List Moment) (grows : y.history ≡ x.history ++ (earlier ++ later)) where
  -- ---- where nothing stood there
  module _ (none : file_at (x.history ++ earlier) p ≡ None) where
    stood_none : IsTrue true → Stood (course b y) p None
    stood_none = finds_none true b p x y goes (λ is. record { earlier = earlier; later = later; grows = grows; none = none })

    away : (kind : Kind) (base : Option (List ℕ)) (lines more : List ℕ) → Adds p kind 0 no_size 0 lines more → Notes true b base lines y → Notes true b base more y
    away kind base lines more adds notes = notes_absence true b base lines more y p kind notes stood_none adds

    same : (base : Option (List ℕ)) (lines more : List ℕ) → more ≡ lines → Notes true b base lines y → Notes true b base more y
    same base lines more is notes = subst (λ (l : List ℕ). Notes true b base l y) (sym is) notes

    absence_may : (is_noted : Bool) (kind : Kind) (base : Option (List ℕ)) (lines more : List ℕ) → AbsenceOf is_noted kind p lines more → Notes true b base lines y → Notes true b base more y
    absence_may true kind base lines more is = same base lines more is
    absence_may false kind base lines more is = away kind base lines more is

    never_may : (number : Option ℕ) (base : Option (List ℕ)) (lines more : List ℕ) → NeverOf number p lines more → Notes true b base lines y → Notes true b base more y
    never_may None base lines more is = same base lines more is
    never_may (Some n) base lines more is = away Source base lines more is

    away_may : (number : Option ℕ) (last : Option Last) (base : Option (List ℕ)) (lines more : List ℕ) → AwayOf number last p lines more → Notes true b base lines y → Notes true b base more y
    away_may number None base lines more is = never_may number base lines more is
    away_may number (Some last) base lines more is = absence_may (is_absence last.noted) last.noted.kind base lines more is

    unmade_may : (last : Option Last) (base : Option (List ℕ)) (lines more : List ℕ) → UnmadeOf last p lines more → Notes true b base lines y → Notes true b base more y
    unmade_may None base lines more is = away Made base lines more is
    unmade_may (Some last) base lines more is = absence_may (is_absence last.noted) Made base lines more is

  -- ---- where a file did
  module _ (file : File) (there : file_at (x.history ++ earlier) p ≡ Some file) where
    found_so : IsTrue true → Found (course b y) p file.stamp (length file.content)
    found_so = finds true b p file.stamp (length file.content) x y goes
        (λ is. record { earlier = earlier; later = later; grows = grows; file = file; there = there; of_stamp = refl; of_size = refl })

    -- it is noted under its number, if it is
    line_may : (kind : Kind) (number s : Option ℕ) → is_own k.own p ≡ false → b.knows.is_own p ≡ is_own k.own p
        → found_number (b.knows.noted p) (b.knows.is_output p) b.knows.number s file.stamp (length file.content) ≡ number
        → (base : Option (List ℕ)) (lines more : List ℕ) → LinesOf kind number p (measure_of file) lines more → Notes true b base lines y → Notes true b base more y
    line_may kind None s other owns is base lines more line notes = subst (λ (l : List ℕ). Notes true b base l y) (sym line) notes
    line_may kind (Some number) s other owns is base lines more line notes =
        (notes_lines true b base lines more y p kind file.stamp (length file.content) notes found_so).0 s number (λ told. owns ∙ other) (λ told. is) line

    -- it is noted under the number under which it is told
    left_may : (counts : Option ℕ) → ((f : File) → f.stamp ≡ file.stamp → length f.content ≡ length file.content
        → stamp_told ((telling b.knows).counts p f) (started_so (telling b.knows) (since b y) p) file.stamp ≡ counts)
        → (base : Option (List ℕ)) (lines more : List ℕ) → LinesOf Made (left_number counts file.stamp) p (measure_of file) lines more → Notes true b base lines y → Notes true b base more y
    left_may None told base lines more line notes = subst (λ (l : List ℕ). Notes true b base l y) (sym line) notes
    left_may (Some counts) told base lines more line notes =
        (notes_lines true b base lines more y p Made file.stamp (length file.content) notes found_so).1 counts (λ is f stamp size. told f stamp size) line

  -- ---- both

  module _ (numbers : NumbersSo b.knows k) (owns : b.knows.is_own p ≡ is_own k.own p) (counted : (f : File) → (telling b.knows).counts p f ≡ counts_at k.notes k.makers k.own k.number p f)
      (started : started_so (telling b.knows) (since b y) p ≡ started_by k.starts.items (maker_of k.makers p)) where
    -- one of the program's own is not noted by a look
    own_may : (held : Option File) → MaySee true b y p (looked_own (measured_at held))
    own_may None base lines more is notes = subst (λ (l : List ℕ). Notes true b base l y) (sym is) notes
    own_may (Some file) base lines more is notes = subst (λ (l : List ℕ). Notes true b base l y) (sym is) notes

    number_there : (file : File) → found_number (b.knows.noted p) (b.knows.is_output p) b.knows.number k.first_start file.stamp (length file.content)
        ≡ (judged (past_of k.notes k.makers k.first_start p) k.number (placed_by (has k.made p) (Some (measure_of file)))).number
    number_there file =
        numbers p k.first_start file.stamp (length file.content)
        ∙ ap (λ (m : Option Measure). (judged (past_of k.notes k.makers k.first_start p) k.number m).number) (sym (placed_there (has k.made p) file))

    there_may : (held : Option File) → file_at (x.history ++ earlier) p ≡ held → is_own k.own p ≡ false → MaySee true b y p (looked_there k p (measured_at held))
    there_may None none other base lines more is notes =
        away_may none (judged (past_of k.notes k.makers k.first_start p) k.number (placed_by (has k.made p) None)).number (last_of k.notes p) base lines more is notes
    there_may (Some file) there other base lines more is notes =
        line_may file there (judged (past_of k.notes k.makers k.first_start p) k.number (placed_by (has k.made p) (Some (measure_of file)))).kind
        (judged (past_of k.notes k.makers k.first_start p) k.number (placed_by (has k.made p) (Some (measure_of file)))).number k.first_start other owns (number_there file) base lines more is notes

    see_held : (held : Option File) → file_at (x.history ++ earlier) p ≡ held → MaySee true b y p (looked_at k p (measured_at held))
    see_held held there = elim (cases_Bool (is_own k.own p)) [
      | inl own ↦ subst (MaySee true b y p) (sym (cond-true (is_own k.own p) (looked_own (measured_at held)) (looked_there k p (measured_at held)) own)) (own_may held)
      | inr other ↦ subst (MaySee true b y p) (sym (cond-false (is_own k.own p) (looked_own (measured_at held)) (looked_there k p (measured_at held)) other)) (there_may held there other)
    ]

    -- what was found there
    found_there : (own : Bool) (found : Option Measure) → (if own then looked_own found else looked_there k p found).found ≡ found
    found_there true found = refl
    found_there false found = refl

    -- what is told of each file that looks as this
    told_alike : (file f : File) → f.stamp ≡ file.stamp → length f.content ≡ length file.content
        → stamp_told ((telling b.knows).counts p f) (started_so (telling b.knows) (since b y) p) file.stamp ≡ (looked_at k p (measured_at (Some file))).counts
    told_alike file f stamp size =
        ap (λ (s : ℕ). stamp_told ((telling b.knows).counts p f) (started_so (telling b.knows) (since b y) p) s) (sym stamp)
        ∙ (ap (λ (s : Option ℕ). stamp_told ((telling b.knows).counts p f) s f.stamp) started
        ∙ (sym (stamp_under (stamp_told ((telling b.knows).counts p f) (started_by k.starts.items (maker_of k.makers p)) f.stamp))
        ∙ (sym (looked_told k p (telling b.knows) counted (Some f))
        ∙ (λ i. (looked_at k p (Some (record { stamp = stamp i; size = Some (size i); placed = stamp i }))).counts))))
      where
        stamp_under : (c : Option ℕ) → stamp_of (under c f.content) ≡ c
        stamp_under None = refl
        stamp_under (Some s) = refl

    left_found : (held : Option File) → file_at (x.history ++ earlier) p ≡ held → (l : Looked) → l.found ≡ measured_at held → l.counts ≡ (looked_at k p (measured_at held)).counts → MayLeave true b y p l
    left_found None none l found counts base lines more is notes =
        unmade_may none l.last base lines more (subst (λ (m : Option Measure). LeftOf m l.counts l.last p lines more) found is) notes
    left_found (Some file) there l found counts base lines more is notes =
        left_may file there l.counts (λ f stamp size. told_alike file f stamp size ∙ sym counts) base lines more
        (subst (λ (m : Option Measure). LeftOf m l.counts l.last p lines more) found is) notes

    left_held : (held : Option File) → file_at (x.history ++ earlier) p ≡ held → MayLeave true b y p (looked_at k p (measured_at held))
    left_held held there = left_found held there (looked_at k p (measured_at held)) (found_there (is_own k.own p) (measured_at held)) refl

-- What a look saw may be noted, as what was found, and as what its command left.
module _ (finds : FoundInCall) (finds_none : NoneInCall) (notes_lines : LinesNote) (notes_absence : AbsenceNotes) (b : Begun) (x y : World) (k : Counts) (p : List ℕ) where
  -- what has to be known of it
  pub record IsLooked (tells : Bool) (begun : Bool) (found : Option Measure) (l : Looked) : Type 0 where
    pub goes : GoesOn tells b x
    pub sees : IsTrue tells → Sees (λ history. measured_at (file_at history p)) found x.history y.history
    pub is : l ≡ looked_by begun k p found
    pub has_begun : IsTrue tells → begun ≡ true
    pub numbers : IsTrue tells → NumbersSo b.knows k
    pub owns : IsTrue tells → b.knows.is_own p ≡ is_own k.own p
    pub counted : IsTrue tells → (f : File) → (telling b.knows).counts p f ≡ counts_at k.notes k.makers k.own k.number p f
    pub started : IsTrue tells → started_so (telling b.knows) (since b y) p ≡ started_by k.starts.items (maker_of k.makers p)

  looked_held : (begun : Bool) (found : Option Measure) (l : Looked) (q : IsLooked true begun found l) → l ≡ looked_at k p (measured_at (file_at (x.history ++ (q.sees refl).earlier) p))
  looked_held begun found l q = q.is ∙ (ap (λ (it : Bool). looked_by it k p found) (q.has_begun refl) ∙ ap (looked_at k p) (q.sees refl).is)

  pub may_see : (tells begun : Bool) (found : Option Measure) (l : Looked) → IsLooked tells begun found l → MaySee tells b y p l
  may_see false begun found l q = λ base lines more is notes. notes_untold false b base more y never
  may_see true begun found l q = subst (MaySee true b y p) (sym (looked_held begun found l q))
      (see_held b x y k p finds finds_none notes_lines notes_absence q.goes (q.sees refl).earlier (q.sees refl).later (q.sees refl).grows (q.numbers refl) (q.owns refl) (q.counted refl) (q.started refl)
      (file_at (x.history ++ (q.sees refl).earlier) p) refl)

  pub may_leave : (tells begun : Bool) (found : Option Measure) (l : Looked) → IsLooked tells begun found l → MayLeave tells b y p l
  may_leave false begun found l q = λ base lines more is notes. notes_untold false b base more y never
  may_leave true begun found l q = subst (MayLeave true b y p) (sym (looked_held begun found l q))
      (left_held b x y k p finds finds_none notes_lines notes_absence q.goes (q.sees refl).earlier (q.sees refl).later (q.sees refl).grows (q.numbers refl) (q.owns refl) (q.counted refl) (q.started refl)
      (file_at (x.history ++ (q.sees refl).earlier) p) refl)

-- what is settled is not noted again
pub unless_settled : (tells : Bool) (b : Begun) (w : World) (p : List ℕ) (l : Looked) → MaySee tells b w p l → (settled : Bool) (base : Option (List ℕ)) (lines more : List ℕ)
    → UnlessSettled settled l p lines more → Notes tells b base lines w → Notes tells b base more w
unless_settled tells b w p l may true base lines more is notes = subst (λ (m : List ℕ). Notes tells b base m w) (sym is) notes
unless_settled tells b w p l may false base lines more is notes = may base lines more is notes

-- ---- what is known of the program's own files, and of numbers, stays

module _ (b : Begun) (old new : Counts) (same : new.own ≡ old.own) where
  pub owns_same : ((p : List ℕ) → b.knows.is_own p ≡ is_own old.own p) → (p : List ℕ) → b.knows.is_own p ≡ is_own new.own p
  owns_same is p = is p ∙ ap (λ (o : Own). is_own o p) (sym same)

  pub here_same : b.knows.seen ≡ old.own.seen → b.knows.seen ≡ new.own.seen
  here_same is = is ∙ ap (λ (o : Own). o.seen) (sym same)

pub numbers_start : (b : Begun) (old new : Counts) (job : ℕ) (start : Option ℕ) → NotesStart job start old new → NumbersSo b.knows old → NumbersSo b.knows new
numbers_start b old new job start notes is p s stamp size =
    is p s stamp size
    ∙ (λ i. (judged (record { noted = noted_of (sym notes.notes i) p; is_output = is_some (maker_of (sym notes.makers i) p); since = s }) (sym notes.number i) (Some (record { stamp = stamp; size = Some size; placed = stamp }))).number)

pub notes_as : (tells : Bool) (b : Begun) (base other : Option (List ℕ)) (lines more : List ℕ) (w : World) → base ≡ other → lines ≡ more → Notes tells b base lines w → Notes tells b other more w
notes_as tells b base other lines more w one two notes = subst (λ (o : Option (List ℕ)). Notes tells b o more w) one (subst (λ (l : List ℕ). Notes tells b base l w) two notes)
