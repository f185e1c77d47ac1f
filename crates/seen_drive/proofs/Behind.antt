-- What was written between two builds, and what that says of each path.
use Rattle.std.proofs.Common.{◌≡◌, ◌⊎◌, inl, inr, ℕ, true, false, List, [], ◌∷◌, ◌++◌, Option, Some, None, bytes_eq, drop, length, refl, sym, ◌∙◌, ap, subst}
use Rattle.std.specs.List.{AllByRecursion}
use Rattle.std.proofs.lemmas.Bool.{cases_Bool, cond-false, cond-true, false≢true}
use Rattle.model.specs.declared.event.Moment.{Moment}
use Rattle.model.specs.declared.event.Moment.TheVariants.{Wrote, Happened}
use Rattle.model.specs.declared.event.Writer.{Writer}
use Rattle.model.specs.World.{World, File, IsNotAt, content_of, file_after, file_at, file_from, view_of, written}
use Rattle.model.specs.Calls.{content_or_empty}
use Rattle.model.specs.Records.{LogFormat, OwnFiles}
use Rattle.theory.proofs.Files.{file_from-append, file_stays}
use Rattle.theory.proofs.Lists.{same_bytes}
use Rattle.seen_true.specs.Going.{Entered, NotesStand, course}
use Rattle.seen_true.specs.Notes.{real}
use Rattle.seen_true.specs.Others.{OthersWroteSo}
use Rattle.seen_drive.specs.Between.{GoesOnTo, IsApart, IsSeen, IsSeenWrite, OthersAreSeen, SeenComesBehind}

some_same : {X : Type 0} {x y : X} → Some x ≡ Some y → x ≡ y
some_same e = cc

none_some : {X : Type 0} {x : X} → None ≡ Some x → ⊥
none_some e = cc

-- ---- what stands at a path behind some moments

-- what stood there, or what one of them wrote there, of which this is so
record WroteThere (P : Moment → Type 0) (p : List ℕ) (now : Option File) : Type 0 where
  by : Writer
  path : List ℕ
  content : Option (List ℕ)
  stamp : ℕ
  there : bytes_eq path p ≡ true
  so : P (Wrote by path content stamp)
  is : now ≡ written content stamp

stands_or_wrote : (P : Moment → Type 0) (p : List ℕ) (f : Option File) (ms : List Moment) → AllByRecursion P ms → (file_from p f ms ≡ f) ⊎ WroteThere P p (file_from p f ms)
stands_or_wrote P p f [] all = inl refl
stands_or_wrote P p f (Happened event ∷ ms) all = stands_or_wrote P p f ms all.1
stands_or_wrote P p f (Wrote by path content stamp ∷ ms) all = elim (stands_or_wrote P p (file_after p f (Wrote by path content stamp)) ms all.1) [
  | inr wrote ↦ inr wrote
  | inl same ↦ elim (cases_Bool (bytes_eq path p)) [
    | inl here ↦ inr (record {
      by = by;
      path = path;
      content = content;
      stamp = stamp;
      there = here;
      so = all.0;
      is = same ∙ cond-true (bytes_eq path p) (written content stamp) f here;
    })
    | inr other ↦ inl (same ∙ cond-false (bytes_eq path p) (written content stamp) f other)
  ]
]

-- ---- logs and notes

module _ (format : LogFormat) (own : OwnFiles) (e : Entered) (exit : World) (next : Entered) where
  apart_of : (m : Moment) → IsSeenWrite format own e exit next m → (p : List ℕ) → ((q : List ℕ) → IsApart own e q → bytes_eq q p ≡ false) → IsNotAt p m
  apart_of (Wrote by q None stamp) seen p none = none q seen
  apart_of (Wrote by q (Some content) stamp) seen p none = none q seen.0
  apart_of (Happened event) seen p none = tt

  all_apart : (ms : List Moment) → AllByRecursion (IsSeenWrite format own e exit next) ms → (p : List ℕ) → ((q : List ℕ) → IsApart own e q → bytes_eq q p ≡ false)
      → AllByRecursion (IsNotAt p) ms
  all_apart [] all p none = tt
  all_apart (m ∷ ms) all p none = (apart_of m all.0 p none, all_apart ms all.1 p none)

  -- a file that was written is seen
  seen_file : (path : List ℕ) (by : Writer) (content : Option (List ℕ)) (stamp : ℕ) (file : File) → IsSeenWrite format own e exit next (Wrote by path content stamp)
      → written content stamp ≡ Some file → IsSeen format own e exit next path file
  seen_file path by None stamp file seen is = absurd (none_some is)
  seen_file path by (Some content) stamp file seen is = subst (λ (f : File). IsSeen format own e exit next path f) (some_same is) seen.1

  module _ (stand : NotesStand true e exit) (goes : GoesOnTo exit.history next.first) (others : OthersAreSeen format own e exit next) where
    abbrev gap : List Moment
    gap = drop (length exit.history) next.first

    same_real : exit.history ≡ real (course e exit)
    same_real = stand.goes_on refl

    -- where nothing is written the file is the same
    stays : (p : List ℕ) → ((q : List ℕ) → IsApart own e q → bytes_eq q p ≡ false) → file_at next.first p ≡ file_at (real (course e exit)) p
    stays p none =
        ap (λ (h : List Moment). file_at h p) goes
        ∙ (file_stays p exit.history gap (all_apart gap others.writes p none)
        ∙ ap (λ (h : List Moment). file_at h p) same_real)

    -- what stands at a path stood there at the end, or is seen
    either : (p : List ℕ) (file : File) → file_at next.first p ≡ Some file → (file_at exit.history p ≡ Some file) ⊎ IsSeen format own e exit next p file
    either p file is =
        let from : file_at next.first p ≡ file_from p (file_at exit.history p) gap =
        ap (λ (h : List Moment). file_at h p) goes ∙ file_from-append p None exit.history gap in
        elim (stands_or_wrote (IsSeenWrite format own e exit next) p (file_at exit.history p) gap others.writes) [
          | inl same ↦ inl (sym same ∙ (sym from ∙ is))
          | inr wrote ↦ inr (subst (λ (q : List ℕ). IsSeen format own e exit next q file) (same_bytes wrote.path p wrote.there)
              (seen_file wrote.path wrote.by wrote.content wrote.stamp file wrote.so (sym wrote.is ∙ (sym from ∙ is))))
        ]

    at_real : (p : List ℕ) (file : File) → file_at exit.history p ≡ Some file → file_at (real (course e exit)) p ≡ Some file
    at_real p file is = ap (λ (h : List Moment). file_at h p) (sym same_real) ∙ is

    view_real : (p : List ℕ) (file : File) → file_at exit.history p ≡ Some file → view_of (real (course e exit)) p ≡ Some file.content
    view_real p file is = ap (λ (f : Option File). content_of f) (at_real p file is)

    wrote_so : OthersWroteSo format own (course e exit) next.knows next.first
    wrote_so = record {
      small = others.small;
      meanwhile = others.meanwhile;
      build_log = ap (λ (f : Option File). content_of f) (stays own.build_log (λ q apart. apart.0));
      deps_log = ap (λ (f : Option File). content_of f) (stays own.deps_log (λ q apart. apart.1));
      notes_left = ap (λ (f : Option File). content_or_empty f) (stays e.knows.seen (λ q apart. apart.2));
      unnoted = λ p file none is. elim (either p file is) [
        | inl was ↦ inl (at_real p file was)
        | inr seen ↦ inr (seen.later none)
      ];
      same = λ p n file noted is alike. elim (either p file is) [
        | inl was ↦ (file, at_real p file was, alike, refl)
        | inr seen ↦ absurd (seen.other n noted alike)
      ];
      unnoted_outputs = λ o made file recorded none is. elim (either o file is) [
        | inl was ↦ view_real o file was
        | inr seen ↦ absurd (seen.unmade made none recorded)
      ];
      dropped = λ o made n file recorded noted unmade is not_as. elim (either o file is) [
        | inl was ↦ others.dropped o made n file recorded noted unmade was not_as
        | inr seen ↦ absurd (false≢true (sym unmade ∙ seen.made_still made n noted recorded))
      ];
      turned = λ p n file noted is alike turned made. elim (either p file is) [
        | inl was ↦ others.turned p n file noted was alike turned made
        | inr seen ↦ absurd (seen.other n noted alike)
      ];
    }

pub behind_law : SeenComesBehind
behind_law format own e exit next stand goes others = record {
  left = others.left;
  read = others.read;
  others = wrote_so format own e exit next stand goes others;
}
