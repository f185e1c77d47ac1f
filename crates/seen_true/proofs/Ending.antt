-- What true notes make of what others did.
use Rattle.std.proofs.Common.{◌≡◌, ◌⊎◌, inl, inr, ℕ, ◌<◌, ◌≤◌, ◌==◌, ◌&&◌, max, Bool, true, false, List, [], ◌∷◌, ◌++◌, Option, Some, None, bytes_eq, length, refl, sym, ◌∙◌, ap, subst, if◌then◌else◌, arith}
use Rattle.std.proofs.Math.Logic.{∥∥₁_elim}
use Rattle.std.proofs.Props.{props}
use Rattle.std.specs.List.{AllByRecursion}
use Rattle.std.specs.Option.{option_or}
use Rattle.std.proofs.lemmas.Bool.{cases_Bool, cond-true, cond-false, eqb-true, false≢true}
use Rattle.log_text.specs.Laws.{OneReading}
use Rattle.log_text.specs.Text.{IsRead}
use Rattle.model.specs.declared.event.Moment.{Moment}
use Rattle.model.specs.World.{World, File, content_of, file_at, view_of}
use Rattle.model.specs.Calls.{content_or_empty}
use Rattle.model.specs.Graph.{has}
use Rattle.model.specs.Records.{LogFormat, Made, OwnFiles}
use Rattle.theory.proofs.Lists.{same_bytes}
use Rattle.theory.proofs.Files.{unmoved}
use Rattle.seen_log.specs.declared.note.Kind.{Kind}
use Rattle.seen_log.specs.declared.note.Note.{Note}
use Rattle.seen_log.specs.declared.note.Noted.{Noted}
use Rattle.seen_log.specs.Log.{counts_of, noted_in_force}
use Rattle.seen_log.specs.Record.{forms}
use Rattle.seen_law.specs.Retold.{Telling, stamp_told, told_file, under}
use Rattle.seen_law.specs.Laws.{FilesAreTold, started_so, told_then}
use Rattle.seen_law.specs.Meanwhile.{counted_at, recorded_at}
use Rattle.seen_true.specs.Counting.{Knowing, absence, is_as_noted, is_turned, no_size, telling}
use Rattle.seen_true.specs.Soundly.{CountSoundly, IsLaterThanRecords, WasTold, written_in}
use Rattle.seen_true.specs.Notes.{Course, IsToldSo, IsTrueNote, NotesAreTrue, Sighting, Stood, note_of, noted_by, noted_of, notes_of, real, told}
use Rattle.seen_true.specs.Others.{IsAs, OthersWroteSo, OwnFit, ReadsNotes}
use Rattle.seen_true.specs.Laws.{NotesTellTruly}
use Rattle.seen_true.proofs.Small.{has_neither, none_some, not_written, or_neither, some_is}
use Rattle.seen_true.proofs.Telling.{counts_other, counts_own, counts_plain, told_plain, told_under}

-- ---- which of what was seen is noted last

-- what was seen at the path, that this is noted of, and is so
record Last (Q : Sighting → Type 0) (p : List ℕ) (n : Noted) : Type 0 where
  sighting : Sighting
  here : sighting.path ≡ p
  noted : (note_of sighting).noted ≡ n
  so : Q sighting

last_of : (Q : Sighting → Type 0) (sightings : List Sighting) → AllByRecursion Q sightings → (p : List ℕ) (n : Noted) → noted_in_force (notes_of sightings) p ≡ Some n → Last Q p n
last_of Q [] all p n is = absurd (none_some is)
last_of Q (s ∷ rest) all p n is = by (last_of Q rest all.1 p n) (noted_in_force (notes_of rest) p) refl
  where
    one : (here : Bool) → bytes_eq s.path p ≡ here → (if here then Some (note_of s).noted else None) ≡ Some n → Last Q p n
    one true here so = record { sighting = s; here = same_bytes s.path p here; noted = some_is so; so = all.0 }
    one false here so = absurd (none_some so)

    by : (noted_in_force (notes_of rest) p ≡ Some n → Last Q p n) → (behind : Option Noted) → noted_in_force (notes_of rest) p ≡ behind → Last Q p n
    by further (Some m) then_is = further (then_is ∙ (ap (λ (o : Option Noted). option_or o (if bytes_eq s.path p then Some (note_of s).noted else None)) (sym then_is) ∙ is))
    by further None then_is = one (bytes_eq s.path p) refl (ap (λ (o : Option Noted). option_or o (if bytes_eq s.path p then Some (note_of s).noted else None)) (sym then_is) ∙ is)

-- ---- the next build

abbrev file_of : List ℕ → ℕ → File
file_of content stamp = record { content = content; stamp = stamp }

same_file : {content : List ℕ} {stamp : ℕ} (file : File) → content ≡ file.content → stamp ≡ file.stamp → Some (file_of content stamp) ≡ Some file
same_file file one two = λ i. Some (file_of (one i) (two i))

stamp_of_counted : (counts : Option ℕ) (file : File) (content : List ℕ) → under counts content ≡ Some file → (counts ≡ Some file.stamp) × (content ≡ file.content)
stamp_of_counted None file content is = absurd (none_some is)
stamp_of_counted (Some stamp) file content is =
    let same : file_of content stamp ≡ file = some_is is in
    (ap (λ (f : File). Some f.stamp) same, ap (λ (f : File). f.content) same)

-- a file that looks as what is absent is noted is as large
not_absent : (kind : Kind) (n : Noted) (file : File) → absence kind ≡ n → IsAs n file → length file.content < no_size → ⊥
not_absent kind n file is looks small = not_less (length file.content) no_size (eqb-true (length file.content) no_size (left_of (length file.content == no_size) _ (ap (λ (m : Noted). is_as_noted m file.stamp (length file.content)) is ∙ looks))) small
  where
    left_of : (a b : Bool) → (a && b) ≡ true → a ≡ true
    left_of true b so = refl
    left_of false b so = so

    not_less : (a b : ℕ) → a ≡ b → a < b → ⊥
    not_less a b same less = absurd (omega (arith, same, less))

told_none : (counts : Option ℕ) (stamp : ℕ) → stamp_told counts None stamp ≡ counts
told_none None stamp = refl
told_none (Some counts) stamp = refl

module _ (files_law : FilesAreTold) (one_reading : OneReading forms) (format : LogFormat) (own : OwnFiles) (c : Course) (notes : NotesAreTrue c) (next : Knowing) (later : List Moment)
    (fit : OwnFit own c.knows next) (reads : ReadsNotes next later) (others : OthersWroteSo format own c next later) (number_later : IsLaterThanRecords format own (told c) next.number) where
  abbrev t : Telling
  t = telling c.knows

  abbrev u : Telling
  u = telling next

  -- ---- what is read back

  reads_same : reads.records ≡ notes.file.records
  reads_same = (one_reading (content_or_empty (file_at later next.seen)) reads.records notes.file.records reads.tail notes.file.tail reads.read
      (subst (λ (text : List ℕ). IsRead forms text notes.file.records notes.file.tail)
      (sym others.notes_left ∙ ap (λ (q : List ℕ). content_or_empty (file_at later q)) (sym fit.seen)) notes.file.read)).0

  knows_same : (p : List ℕ) → next.noted p ≡ noted_by c notes.sightings p
  knows_same p = reads.is p ∙ (ap (λ (rs : List Note). noted_in_force rs p) reads_same ∙ notes.file.tells p)

  -- ---- what is told at the end

  abbrev end : World
  end = record { history = real c; events = []; earlier = []; ticked = 0; failures = 0; failures_at_start = 0; wait_refused = None; stopped = false }

  told_is : (p : List ℕ) → file_at (told c) p ≡ told_then t c.more p (file_at (real c) p)
  told_is p = (files_law t c.first c.before c.more end (record { begins = notes.begins; so_far = refl }) p).0

  -- what was never noted is told as it is, and so is what is the program's own
  was_plain : (p : List ℕ) → (c.knows.is_own p ≡ true) ⊎ (next.noted p ≡ None) → file_at (told c) p ≡ file_at (real c) p
  was_plain p which = told_is p ∙ told_plain t (started_so t c.more p) p (counts_plain c.knows p (by which)) (file_at (real c) p)
    where
      by : (c.knows.is_own p ≡ true) ⊎ (next.noted p ≡ None) → (c.knows.is_own p ≡ true) ⊎ (c.knows.noted p ≡ None)
      by (inl mine) = inl mine
      by (inr none) = inr (or_neither (noted_in_force (notes_of notes.sightings) p) (c.knows.noted p) (sym (knows_same p) ∙ none)).1

  -- what stands there as it is noted was told with what it holds, and under no later stamp; or it was turned, and an output
  as_noted : (p : List ℕ) (n : Noted) (file : File) → c.knows.is_own p ≡ false → next.noted p ≡ Some n → file_at (real c) p ≡ Some file → IsAs n file → length file.content < no_size
      → WasTold (told c) p (file_of file.content (counts_of n)) ⊎ ((is_turned n.kind ≡ true) × (c.knows.is_output p ≡ true))
  as_noted p n file bound noted stands is small = by (noted_in_force (notes_of notes.sightings) p) refl
    where
      known_so : noted_by c notes.sightings p ≡ Some n
      known_so = sym (knows_same p) ∙ noted

      -- it was seen in this build
      of_held : (q : List ℕ) (kind : Kind) (number : ℕ) (held : Option File) → q ≡ p → noted_of kind number held ≡ n → Stood c q held → IsToldSo c q (noted_of kind number held) held
          → WasTold (told c) p (file_of file.content (counts_of n))
      of_held q kind number None here noted_so stood so = absurd (not_absent kind n file noted_so is small)
      of_held q kind number (Some was) here noted_so stood so =
          let same : file ≡ was = others.meanwhile q was (ap c.knows.is_own here ∙ bound) stood file (ap (λ (r : List ℕ). file_at (real c) r) here ∙ stands) (ap (λ (m : Noted). is_as_noted m file.stamp (length file.content)) noted_so ∙ is) in
          record {
            was = file_of was.content so.stamp;
            there = told_is p ∙ (ap (told_then t c.more p) (stands ∙ ap Some same)
                ∙ (ap (λ (r : List ℕ). told_then t c.more r (Some was)) (sym here) ∙ so.told));
            holds = ap (λ (f : File). f.content) (sym same);
            no_later = subst (λ (m : Noted). so.stamp ≤ counts_of m) noted_so so.no_later;
          }

      in_build : Last (IsTrueNote c) p n → WasTold (told c) p (file_of file.content (counts_of n))
      in_build last = let s : Sighting = last.sighting in of_held s.path s.kind s.number s.file last.here last.noted last.so.stood last.so.so

      before_told : c.knows.noted p ≡ Some n → (turned : Bool) → (c.knows.is_output p && is_turned n.kind) ≡ turned
          → WasTold (told c) p (file_of file.content (counts_of n)) ⊎ ((is_turned n.kind ≡ true) × (c.knows.is_output p ≡ true))
      before_told known true both = inr (parts (c.knows.is_output p) (is_turned n.kind) both)
        where
          parts : (a b : Bool) → (a && b) ≡ true → (b ≡ true) × (a ≡ true)
          parts true b so = (so, refl)
          parts false b so = absurd (false≢true so)
      before_told known false plain = inl (record {
        was = file_of file.content (counts_of n);
        there = told_is p ∙ (ap (told_then t c.more p) stands ∙ told_under t (started_so t c.more p) p file (counts_of n)
            (counts_other c.knows p (Some n) known bound file
            ∙ (cond-true (is_as_noted n file.stamp (length file.content)) (if c.knows.is_output p && is_turned n.kind then None else Some (counts_of n))
            (if c.knows.is_output p then None else Some (max c.knows.number file.stamp)) is
            ∙ cond-false (c.knows.is_output p && is_turned n.kind) None (Some (counts_of n)) plain)));
        holds = refl;
        no_later = omega arith;
      })

      by : (in_this : Option Noted) → noted_in_force (notes_of notes.sightings) p ≡ in_this
          → WasTold (told c) p (file_of file.content (counts_of n)) ⊎ ((is_turned n.kind ≡ true) × (c.knows.is_output p ≡ true))
      by (Some m) seen = inl (in_build (last_of (IsTrueNote c) notes.sightings notes.all p n (seen ∙ (ap (λ (o : Option Noted). option_or o (c.knows.noted p)) (sym seen) ∙ known_so))))
      by None none = before_told (ap (λ (o : Option Noted). option_or o (c.knows.noted p)) (sym none) ∙ known_so) (c.knows.is_output p && is_turned n.kind) refl

  -- ---- what counts then

  record Counted (p : List ℕ) (file : File) : Type 0 where
    found : File
    stands : file_at later p ≡ Some found
    counts : u.counts p found ≡ Some file.stamp
    holds : found.content ≡ file.content

  found_at : (p : List ℕ) (file : File) → counted_at u later p ≡ Some file → Counted p file
  found_at p file is = by_file (file_at later p) refl is
    where
      by_file : (at : Option File) → file_at later p ≡ at → told_file u.counts None p at ≡ Some file → Counted p file
      by_file None stands so = absurd (none_some so)
      by_file (Some found) stands so =
          let both = stamp_of_counted (u.counts p found) file found.content (ap (λ (o : Option ℕ). under o found.content) (sym (told_none (u.counts p found) found.stamp)) ∙ so) in
          record { found = found; stands = stands; counts = both.0; holds = both.1 }

  -- of the program's own, or never noted
  module _ (p : List ℕ) (file : File) (k : Counted p file) (which : (c.knows.is_own p ≡ true) ⊎ (next.noted p ≡ None)) where
    next_plain : (next.is_own p ≡ true) ⊎ (next.noted p ≡ None)
    next_plain = by which
      where
        by : (c.knows.is_own p ≡ true) ⊎ (next.noted p ≡ None) → (next.is_own p ≡ true) ⊎ (next.noted p ≡ None)
        by (inl mine) = inl (fit.same p ∙ mine)
        by (inr none) = inr none

    is_file : file_at later p ≡ Some file
    is_file = k.stands ∙ same_file file k.holds (some_is (sym (counts_plain next p next_plain k.found) ∙ k.counts))

    plain_file : WasTold (told c) p file ⊎ IsLaterThanRecords format own (told c) file.stamp
    plain_file = by (others.unnoted p file which is_file)
      where
        by : (file_at (real c) p ≡ Some file) ⊎ IsLaterThanRecords format own (told c) file.stamp → WasTold (told c) p file ⊎ IsLaterThanRecords format own (told c) file.stamp
        by (inl was) = inl (record { was = file; there = was_plain p which ∙ was; holds = refl; no_later = omega arith })
        by (inr late) = inr late

    plain_output : (made : Made) → recorded_at format own (told c) p ≡ Some made → view_of (told c) p ≡ Some file.content
    plain_output made recorded = ap content_of (was_plain p which) ∙ others.unnoted_outputs p made file recorded which is_file

  -- of what is noted
  module _ (p : List ℕ) (file : File) (k : Counted p file) (bound : c.knows.is_own p ≡ false) (n : Noted) (noted : next.noted p ≡ Some n) where
    counts_so : (if is_as_noted n k.found.stamp (length k.found.content) then (if next.is_output p && is_turned n.kind then None else Some (counts_of n))
        else (if next.is_output p then None else Some (max next.number k.found.stamp))) ≡ Some file.stamp
    counts_so = sym (counts_other next p (Some n) noted (fit.same p ∙ bound) k.found) ∙ k.counts

    -- where it is as noted, that was told
    was_told : IsAs n k.found → WasTold (told c) p file
    was_told is = by (as_noted p n was.0 bound noted was.1 was.2 (subst (λ (content : List ℕ). length content < no_size) (sym was.3) (others.small p k.found bound k.stands)))
      where
        was : (it : File) × (file_at (real c) p ≡ Some it) × IsAs n it × (it.content ≡ k.found.content)
        was = others.same p n k.found noted k.stands is

        same_counts : (if next.is_output p && is_turned n.kind then None else Some (counts_of n)) ≡ Some file.stamp
        same_counts =
            sym (cond-true (is_as_noted n k.found.stamp (length k.found.content)) (if next.is_output p && is_turned n.kind then None else Some (counts_of n))
            (if next.is_output p then None else Some (max next.number k.found.stamp)) is) ∙ counts_so

        counts_is : (turned : Bool) → (if turned then None else Some (counts_of n)) ≡ Some file.stamp → counts_of n ≡ file.stamp
        counts_is true so = absurd (none_some so)
        counts_is false so = some_is so

        stamp_is : counts_of n ≡ file.stamp
        stamp_is = counts_is (next.is_output p && is_turned n.kind) same_counts

        both : (a b : Bool) → a ≡ true → b ≡ true → (if a && b then None else Some (counts_of n)) ≡ Some file.stamp → ⊥
        both true true one two so = none_some so
        both true false one two so = false≢true two
        both false b one two so = false≢true one

        by : WasTold (told c) p (file_of was.0.content (counts_of n)) ⊎ ((is_turned n.kind ≡ true) × (c.knows.is_output p ≡ true)) → WasTold (told c) p file
        by (inl so) = record {
          was = so.was;
          there = so.there;
          holds = so.holds ∙ (was.3 ∙ k.holds);
          no_later = subst (λ (stamp : ℕ). so.was.stamp ≤ stamp) stamp_is so.no_later;
        }
        by (inr turned) = absurd (both (next.is_output p) (is_turned n.kind) (others.turned p n k.found noted k.stands is turned.0 turned.1) turned.0 same_counts)

    -- where it is another, it is no output, and counts under the number at least
    is_another : is_as_noted n k.found.stamp (length k.found.content) ≡ false → (next.is_output p ≡ false) × (next.number ≤ file.stamp)
    is_another other = by (next.is_output p) refl
        (sym (cond-false (is_as_noted n k.found.stamp (length k.found.content)) (if next.is_output p && is_turned n.kind then None else Some (counts_of n))
        (if next.is_output p then None else Some (max next.number k.found.stamp)) other) ∙ counts_so)
      where
        by : (out : Bool) → next.is_output p ≡ out → (if out then None else Some (max next.number k.found.stamp)) ≡ Some file.stamp → (next.is_output p ≡ false) × (next.number ≤ file.stamp)
        by true is so = absurd (none_some so)
        by false is so = let counts : max next.number k.found.stamp ≡ file.stamp = some_is so in (is, omega (arith, counts))

    noted_file : WasTold (told c) p file ⊎ IsLaterThanRecords format own (told c) file.stamp
    noted_file = elim (cases_Bool (is_as_noted n k.found.stamp (length k.found.content))) [
      | inl is ↦ inl (was_told is)
      | inr other ↦ inr (λ o made recorded. let early = number_later o made recorded in let least = (is_another other).1 in omega (arith, early, least))
    ]

    noted_output : (made : Made) → recorded_at format own (told c) p ≡ Some made → view_of (told c) p ≡ Some file.content
    noted_output made recorded = elim (cases_Bool (is_as_noted n k.found.stamp (length k.found.content))) [
      | inl is ↦ let so = was_told is in ap content_of so.there ∙ ap Some so.holds
      | inr other ↦ others.dropped p made n k.found recorded noted (is_another other).0 k.stands (λ is. false≢true (sym other ∙ is)) ∙ ap Some k.holds
    ]

  -- ---- each path

  abbrev FileSo : List ℕ → File → Type 0
  FileSo p file = (WasTold (told c) p file ⊎ IsLaterThanRecords format own (told c) file.stamp) × ((made : Made) → recorded_at format own (told c) p ≡ Some made → view_of (told c) p ≡ Some file.content)

  each : (p : List ℕ) (file : File) → counted_at u later p ≡ Some file → FileSo p file
  each p file is = by (c.knows.is_own p) refl (next.noted p) refl
    where
      k : Counted p file
      k = found_at p file is

      by : (mine : Bool) → c.knows.is_own p ≡ mine → (noted : Option Noted) → next.noted p ≡ noted → FileSo p file
      by true own_is noted so = (plain_file p file k (inl own_is), plain_output p file k (inl own_is))
      by false own_is None so = (plain_file p file k (inr so), plain_output p file k (inr so))
      by false own_is (Some n) so = (noted_file p file k own_is n so, noted_output p file k own_is n so)

  -- a log holds what was told
  log_so : (log : List ℕ) → c.knows.is_own log ≡ true → view_of later log ≡ view_of (real c) log → content_of (counted_at u later log) ≡ view_of (told c) log
  log_so log mine left =
      ap content_of (told_plain u None log (counts_own next log (fit.same log ∙ mine)) (file_at later log))
      ∙ (left ∙ ap content_of (sym (was_plain log (inl mine))))

  -- where nobody wrote, nothing is there
  nowhere : (p : List ℕ) → has (written_in (told c) ++ written_in later) p ≡ false → file_at (told c) p ≡ counted_at u later p
  nowhere p not_listed =
      let neither = has_neither (written_in (told c)) (written_in later) p not_listed in
      unmoved p None (told c) (not_written p (told c) neither.0)
      ∙ ap (λ (f : Option File). told_file u.counts None p f) (sym (unmoved p None later (not_written p later neither.1)))

  soundly : CountSoundly format own u (told c) later (written_in (told c) ++ written_in later)
  soundly = record {
    build_log = log_so own.build_log fit.build_log others.build_log;
    deps_log = log_so own.deps_log fit.deps_log others.deps_log;
    elsewhere = nowhere;
    files = λ p file is. ∣ (each p file is).0 ∣₁;
    outputs = λ o made recorded file is. (each o file is).1 made recorded;
  }

-- it is so in one way
one_soundly : (format : LogFormat) (own : OwnFiles) (t : Telling) (told_so real_so : List Moment) (paths : List (List ℕ)) → IsProp (CountSoundly format own t told_so real_so paths)
one_soundly format own t told_so real_so paths = hlevel props

pub ending_law : FilesAreTold → OneReading forms → NotesTellTruly
ending_law files_law one_reading format own c next later some fit reads others number_later =
    ∥∥₁_elim some (one_soundly format own (telling next) (told c) later (written_in (told c) ++ written_in later))
    (λ notes. soundly files_law one_reading format own c notes next later fit reads others number_later)
