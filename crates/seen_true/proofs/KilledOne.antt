-- A build that is killed meets what is supposed.
use Rattle.std.proofs.Common.{◌≡◌, ◌⊎◌, inl, inr, ℕ, zero, suc, decimal, ◌<◌, ◌||◌, Bool, true, false, List, [], ◌∷◌, ◌++◌, Option, Some, None, bytes_eq, length, refl, sym, ◌∙◌, ap, subst, append_assoc, if◌then◌else◌, arith}
use Rattle.std.specs.List.{AllByRecursion}
use Rattle.std.specs.Option.{option_or}
use Rattle.std.proofs.lemmas.Bool.{cases_Bool, cond-true, cond-false, false≢true, ltb-true, true≢false}
use Rattle.std.specs.Str.{IsAscii, IsUtf8}
use Rattle.std.proofs.lemmas.Fmt.{IsAscii-decimal}
use Rattle.std.proofs.lemmas.Str.{IsUtf8-from_ascii}
use Rattle.log_text.specs.declared.form.Version.TheVariants.{Two}
use Rattle.log_text.specs.declared.tail.Tail.TheVariants.{Whole}
use Rattle.log_text.specs.Text.{IsLogOf}
use Rattle.model.specs.declared.event.Event.TheVariants.{Start}
use Rattle.model.specs.declared.event.Moment.{Moment}
use Rattle.model.specs.declared.event.Moment.TheVariants.{Wrote, Happened}
use Rattle.model.specs.declared.event.Writer.TheVariants.{Command, Program, Someone}
use Rattle.model.specs.World.{File, IsNotAt, content_of, file_after, file_at, file_from, view_of, written}
use Rattle.model.specs.Graph.{has}
use Rattle.model.specs.Records.{Made}
use Rattle.theory.proofs.Lists.{all_parts, same_bytes}
use Rattle.theory.proofs.Files.{file_stays}
use Rattle.seen_log.specs.declared.note.Kind.TheVariants.{Source}
use Rattle.seen_log.specs.declared.note.Noted.{Noted}
use Rattle.seen_log.specs.Log.{noted_in_force}
use Rattle.seen_log.specs.Record.{forms}
use Rattle.seen_law.specs.Meanwhile.{recorded_at}
use Rattle.seen_law.specs.Rows.{edited, output, source, was, some_act}
use Rattle.seen_true.specs.Counting.{absence, is_as_noted, is_turned, no_size, telling}
use Rattle.seen_true.specs.Soundly.{IsLaterThanRecords}
use Rattle.seen_true.specs.Notes.{NotesAreTrue, Stood, notes_of, real, told}
use Rattle.seen_true.specs.Others.{OthersWroteSo}
use Rattle.seen_true.specs.Small.{is_log, own, reads, source_then}
use Rattle.seen_true.specs.Killed.{KilledIsMet, before, found, gone, is_mine, killed, knew, later, next, seen, text}
use Rattle.seen_true.proofs.Small.{head_is, no_cons, none_some, or_none, some_is, tail_is}
use Rattle.seen_true.proofs.Telling.{counts_plain, told_plain}

-- ---- the notes

ascii : (byte : ℕ) → byte < 128 → IsAscii (byte ∷ [])
ascii byte low zero = low
ascii byte low (suc i) = omega arith

one : (byte : ℕ) → byte < 128 → IsUtf8 (byte ∷ [])
one byte low = IsUtf8-from_ascii (byte ∷ []) (ascii byte low)

has_log : IsLogOf (forms Two) text (notes_of found)
has_log = record {
  lines = refl;
  fit = (
    record {
      fits = record { stamp = omega arith; size = omega arith; number = omega arith };
      texts = (one 115 (omega arith), (one 97 (omega arith), (IsUtf8-from_ascii (decimal 5) (IsAscii-decimal 5 (omega arith)), (IsUtf8-from_ascii (decimal 1) (IsAscii-decimal 1 (omega arith)), (IsUtf8-from_ascii (decimal 0) (IsAscii-decimal 0 (omega arith)), tt)))));
    },
    (
      record {
        fits = record { stamp = omega arith; size = omega arith; number = omega arith };
        texts = (one 115 (omega arith), (one 103 (omega arith), (IsUtf8-from_ascii (decimal 0) (IsAscii-decimal 0 (omega arith)), (IsUtf8-from_ascii (decimal no_size) (IsAscii-decimal no_size (omega arith)), (IsUtf8-from_ascii (decimal 0) (IsAscii-decimal 0 (omega arith)), tt)))));
      },
      tt,
    ),
  );
}

abbrev are_true : NotesAreTrue killed
are_true = record {
  begins = λ p. sym (told_plain (telling knew) None p (counts_plain knew p (inr refl)) (file_at before p));
  sightings = found;
  all = (
    record { stood = record { earlier = []; later = killed.more; splits = refl; there = refl }; so = record { stamp = 5; told = refl; no_later = omega arith } },
    (record { stood = record { earlier = []; later = killed.more; splits = refl; there = refl }; so = tt }, tt),
  );
  file = record { records = notes_of found; tail = Whole; read = inr has_log; tells = λ p. sym (or_none (noted_in_force (notes_of found) p)) };
}

-- ---- which paths are noted, which have a record, and what stands there

noted_other : (p : List ℕ) → bytes_eq source p ≡ false → bytes_eq gone p ≡ false → next.noted p ≡ None
noted_other p no_source not_gone =
    ap (λ (here : Bool). option_or (if here then Some (absence Source) else None) (if bytes_eq source p then Some source_then else None)) not_gone
    ∙ cond-false (bytes_eq source p) (Some source_then) None no_source

stands_other : (p : List ℕ) → bytes_eq source p ≡ false → bytes_eq gone p ≡ false → file_at later p ≡ file_at (real killed) p
stands_other p no_source not_gone =
    cond-false (bytes_eq gone p) (written (Some edited) 1) (if bytes_eq source p then written (Some edited) 1 else file_at (real killed) p) not_gone
    ∙ cond-false (bytes_eq source p) (written (Some edited) 1) (file_at (real killed) p) no_source

abbrev made_then : Made
made_then = record { act = some_act; start = 6 }

early : (b : Bool) (made : Made) → (if b then Some made_then else None) ≡ Some made → made.start < 8
early true made is = let start : 6 ≡ made.start = ap (λ (m : Made). m.start) (some_is is) in omega (arith, start)
early false made is = absurd (none_some is)

is_later : IsLaterThanRecords reads own (told killed) 8
is_later o made is = early (has (output ∷ []) o) made is

-- ---- what others did

-- this is noted of the path
record IsSeen (seen_at : List ℕ) (seen_as : Noted) (p : List ℕ) (n : Noted) : Type 0 where
  noted : seen_as ≡ n
  here : bytes_eq seen_at p ≡ true

-- a path is one of the sources or another
by_path : (P : List ℕ → Type 0) → P source → P gone → ((p : List ℕ) → bytes_eq source p ≡ false → bytes_eq gone p ≡ false → P p) → (p : List ℕ) → P p
by_path P at_source at_gone other p = elim (cases_Bool (bytes_eq source p)) [
  | inl here ↦ subst P (same_bytes source p here) at_source
  | inr no_source ↦ elim (cases_Bool (bytes_eq gone p)) [
    | inl here ↦ subst P (same_bytes gone p here) at_gone
    | inr not_gone ↦ other p no_source not_gone
  ]
]

abbrev Unnoted : List ℕ → Type 0
Unnoted p = (file : File) → (is_mine p ≡ true) ⊎ (next.noted p ≡ None) → file_at later p ≡ Some file
    → (file_at (real killed) p ≡ Some file) ⊎ IsLaterThanRecords reads own (told killed) file.stamp

unnoted_source : Unnoted source
unnoted_source file (inl mine) there = absurd (false≢true mine)
unnoted_source file (inr none) there = absurd (none_some (sym none))

unnoted_gone : Unnoted gone
unnoted_gone file (inl mine) there = absurd (false≢true mine)
unnoted_gone file (inr none) there = absurd (none_some (sym none))

unnoted_so : (p : List ℕ) → Unnoted p
unnoted_so = by_path Unnoted unnoted_source unnoted_gone (λ p no_source not_gone file which there. inl (sym (stands_other p no_source not_gone) ∙ there))

-- what is noted, and what stands there then
abbrev Noted_so : List ℕ → Type 0
Noted_so p = (n : Noted) → next.noted p ≡ Some n → IsSeen source source_then p n ⊎ IsSeen gone (absence Source) p n

noted_so : (p : List ℕ) → Noted_so p
noted_so = by_path Noted_so
    (λ n is. inl (record { noted = some_is is; here = refl }))
    (λ n is. inr (record { noted = some_is is; here = refl }))
    (λ p no_source not_gone n is. absurd (none_some (sym (noted_other p no_source not_gone) ∙ is)))

-- what stands at a noted path is another than noted
is_another : (p : List ℕ) (n : Noted) (file : File) → next.noted p ≡ Some n → file_at later p ≡ Some file → is_as_noted n file.stamp (length file.content) ≡ true → ⊥
is_another p n file is there as_noted = by (noted_so p n is)
  where
    other : (q : List ℕ) (m : Noted) → IsSeen q m p n → file_at later q ≡ Some (record { content = edited; stamp = 1 }) → is_as_noted m 1 1 ≡ false → ⊥
    other q m seen stands differs =
        false≢true (sym differs ∙ (ap (λ (k : Noted). is_as_noted k 1 1) seen.noted
        ∙ (ap (λ (f : File). is_as_noted n f.stamp (length f.content)) (some_is (sym stands ∙ (ap (λ (r : List ℕ). file_at later r) (same_bytes q p seen.here) ∙ there))) ∙ as_noted)))

    by : IsSeen source source_then p n ⊎ IsSeen gone (absence Source) p n → ⊥
    by (inl seen) = other source source_then seen refl refl
    by (inr seen) = other gone (absence Source) seen refl refl

-- no path that is noted has a record
unrecorded : (p : List ℕ) (n : Noted) (made : Made) → next.noted p ≡ Some n → recorded_at reads own (told killed) p ≡ Some made → ⊥
unrecorded p n made is recorded = by (noted_so p n is)
  where
    by : IsSeen source source_then p n ⊎ IsSeen gone (absence Source) p n → ⊥
    by (inl seen) = none_some (ap (λ (q : List ℕ). recorded_at reads own (told killed) q) (same_bytes source p seen.here) ∙ recorded)
    by (inr seen) = none_some (ap (λ (q : List ℕ). recorded_at reads own (told killed) q) (same_bytes gone p seen.here) ∙ recorded)

abbrev Unnoted_output : List ℕ → Type 0
Unnoted_output o = (made : Made) (file : File) → recorded_at reads own (told killed) o ≡ Some made → file_at later o ≡ Some file → view_of (real killed) o ≡ Some file.content

unnoted_output : (o : List ℕ) → Unnoted_output o
unnoted_output = by_path Unnoted_output
    (λ made file recorded there. absurd (none_some recorded))
    (λ made file recorded there. absurd (none_some recorded))
    (λ o no_source not_gone made file recorded there. ap content_of (sym (stands_other o no_source not_gone) ∙ there))

-- what is noted was not turned
not_turned : (p : List ℕ) (n : Noted) → next.noted p ≡ Some n → is_turned n.kind ≡ true → ⊥
not_turned p n is turned = by (noted_so p n is)
  where
    by : IsSeen source source_then p n ⊎ IsSeen gone (absence Source) p n → ⊥
    by (inl seen) = false≢true (ap (λ (m : Noted). is_turned m.kind) seen.noted ∙ turned)
    by (inr seen) = false≢true (ap (λ (m : Noted). is_turned m.kind) seen.noted ∙ turned)

-- ---- no file is too large

abbrev PutsSmall : List ℕ → Moment → Type 0
PutsSmall p (Wrote by path content stamp) = bytes_eq path p ≡ true → (file : File) → written content stamp ≡ Some file → length file.content < no_size
PutsSmall p (Happened event) = Unit {0}

abbrev IsSmall : Option File → Type 0
IsSmall held = (file : File) → held ≡ Some file → length file.content < no_size

small_from : (p : List ℕ) (ms : List Moment) (held : Option File) → AllByRecursion (PutsSmall p) ms → IsSmall held → IsSmall (file_from p held ms)
small_from p [] held all small = small
small_from p (Wrote by path content stamp ∷ ms) held all small =
    small_from p ms (file_after p held (Wrote by path content stamp)) all.1 (λ file is. elim (cases_Bool (bytes_eq path p)) [
      | inl here ↦ all.0 here file (sym (cond-true (bytes_eq path p) (written content stamp) held here) ∙ is)
      | inr there ↦ small file (sym (cond-false (bytes_eq path p) (written content stamp) held there) ∙ is)
    ])
small_from p (Happened event ∷ ms) held all small = small_from p ms held all.1 small

one_small : (content : List ℕ) (stamp : ℕ) → length content < no_size → (file : File) → written (Some content) stamp ≡ Some file → length file.content < no_size
one_small content stamp small file is = subst (λ (f : File). length f.content < no_size) (some_is is) small

not_notes : (a b : Bool) → (a || b) ≡ false → b ≡ false
not_notes false b is = is
not_notes true b is = absurd (true≢false is)

all_small : (p : List ℕ) → is_mine p ≡ false → AllByRecursion (PutsSmall p) later
all_small p bound = (
  λ here. one_small was 4 (ltb-true 1 no_size refl),
  (
    λ here. one_small was 5 (ltb-true 1 no_size refl),
    (
      λ here. absurd (false≢true (sym (not_notes (is_log p) (bytes_eq seen p) bound) ∙ here)),
      (
        tt,
        (
          λ here. one_small was 8 (ltb-true 1 no_size refl),
          (
            λ here. one_small edited 1 (ltb-true 1 no_size refl),
            (λ here. one_small edited 1 (ltb-true 1 no_size refl), tt),
          ),
        ),
      ),
    ),
  ),
)

-- a path that nobody writes in the build
unwritten : (p : List ℕ) (file : File) → Stood killed p (Some file) → AllByRecursion (IsNotAt p) killed.more → file_at (real killed) p ≡ Some file
unwritten p file stood none =
    ap (λ (l : List Moment). file_at (before ++ l) p) stood.splits
    ∙ (ap (λ (h : List Moment). file_at h p) (sym (append_assoc before stood.earlier stood.later))
    ∙ (file_stays p (before ++ stood.earlier) stood.later (all_parts (IsNotAt p) stood.earlier stood.later (subst (λ (l : List Moment). AllByRecursion (IsNotAt p) l) stood.splits none)).1 ∙ stood.there))

abbrev one_of : Moment
one_of = Wrote Program seen (Some text) 6

abbrev two_of : Moment
two_of = Happened (Start 1 some_act 7)

abbrev three_of : Moment
three_of = Wrote (Command 1) output (Some was) 8

-- and the output, which is written once
once : (file : File) (earlier rest : List Moment) → one_of ∷ two_of ∷ three_of ∷ [] ≡ earlier ++ rest → file_at (before ++ earlier) output ≡ Some file → file_at (real killed) output ≡ Some file
once file [] rest is there = absurd (none_some there)
once file (a ∷ []) rest is there =
    absurd (none_some (ap (λ (m : Moment). file_at (before ++ m ∷ []) output) (head_is one_of a (two_of ∷ three_of ∷ []) rest is) ∙ there))
once file (a ∷ b ∷ []) rest is there =
    let first_is = head_is one_of a (two_of ∷ three_of ∷ []) (b ∷ rest) is in
    let second_is = head_is two_of b (three_of ∷ []) rest (tail_is one_of a (two_of ∷ three_of ∷ []) (b ∷ rest) is) in
    absurd (none_some ((λ i. file_at (before ++ first_is i ∷ second_is i ∷ []) output) ∙ there))
once file (a ∷ b ∷ c ∷ []) rest is there =
    let two_on = tail_is one_of a (two_of ∷ three_of ∷ []) (b ∷ c ∷ rest) is in
    let three_on = tail_is two_of b (three_of ∷ []) (c ∷ rest) two_on in
    let first_is = head_is one_of a (two_of ∷ three_of ∷ []) (b ∷ c ∷ rest) is in
    let second_is = head_is two_of b (three_of ∷ []) (c ∷ rest) two_on in
    let third_is = head_is three_of c [] rest three_on in
    (λ i. file_at (before ++ first_is i ∷ second_is i ∷ third_is i ∷ []) output) ∙ there
once file (a ∷ b ∷ c ∷ d ∷ more) rest is there =
    absurd (no_cons d (more ++ rest)
    (tail_is three_of c [] (d ∷ (more ++ rest)) (tail_is two_of b (three_of ∷ []) (c ∷ d ∷ (more ++ rest)) (tail_is one_of a (two_of ∷ three_of ∷ []) (b ∷ c ∷ d ∷ (more ++ rest)) is))))

stands_so : (p : List ℕ) (file : File) → is_mine p ≡ false → Stood killed p (Some file) → file_at (real killed) p ≡ Some file
stands_so p file bound stood = elim (cases_Bool (bytes_eq output p)) [
  | inl here ↦
      let same = same_bytes output p here in
      ap (λ (q : List ℕ). file_at (real killed) q) (sym same)
      ∙ once file stood.earlier stood.later stood.splits (ap (λ (q : List ℕ). file_at (before ++ stood.earlier) q) same ∙ stood.there)
  | inr there ↦ unwritten p file stood (not_notes (is_log p) (bytes_eq seen p) bound, (tt, (there, tt)))
]

others_so : OthersWroteSo reads own killed next later
others_so = record {
  small = λ p file bound is. small_from p later None (all_small p bound) (λ held so. absurd (none_some so)) file is;
  meanwhile = λ p was bound stood file there looks. some_is (sym there ∙ stands_so p was bound stood);
  build_log = refl;
  deps_log = refl;
  notes_left = refl;
  unnoted = unnoted_so;
  same = λ p n file is there as_noted. absurd (is_another p n file is there as_noted);
  unnoted_outputs = λ o made file recorded which there. unnoted_output o made file recorded there;
  dropped = λ o made n file recorded is out there other. absurd (unrecorded o n made is recorded);
  turned = λ p n file is there as_noted turned out. absurd (not_turned p n is turned);
}

pub killed_law : KilledIsMet
killed_law = (
  are_true,
  record { goes_on = λ is. refl; kept = λ is left. ∣ are_true ∣₁ },
  record {
    enters = record {
      earlier = [];
      later = Wrote Someone gone (Some edited) 1 ∷ [];
      grows = refl;
      enters = record {
        reads = record { records = notes_of found; tail = Whole; read = inr has_log; is = λ p. refl };
        whole = record { records = notes_of found; log = has_log; same = λ p. refl };
      };
      left = (tt, tt);
    };
    fit = record { same = λ p. refl; seen = refl; build_log = refl; deps_log = refl };
    number = is_later;
  },
  record { left = (tt, (tt, (refl, tt))); read = (refl, tt); others = others_so },
)
