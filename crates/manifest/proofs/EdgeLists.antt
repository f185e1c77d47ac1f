-- Lists that take over what an iterator yields, and faults that are told at one place.
use Rattle.std.proofs.Common.{◌≡◌, ◌<◌, ◌+◌, ℕ, zero, suc, slice_get, Some, subst, arith, Bool, true, if◌then◌else◌, List, [], ◌∷◌, ◌++◌, length, take, get_or, map, sym, ◌∙◌, ap, append_assoc, append-nil}
use Rattle.std.proofs.lemmas.List.{take_more, map_push}
use Rattle.std.specs.Map.Iter.{deref}
use denote.Ref.{Bor}
use Rattle.lexer.specs.Quote.{quoted, is_bare_path, in_quotes}
use Rattle.paths.specs.Told.{text_at, texts_at}
use Rattle.manifest.specs.InNumbers.{AreBelow}
use Rattle.manifest.proofs.Added.{at_is}
use Rattle.manifest.specs.Readings.{Place, fault_at}
use Rattle.manifest.specs.Places.{IsFaultAt}
use Rattle.manifest.specs.declared.fault.FaultKind.{FaultKind}
use Rattle.manifest.specs.declared.fault.ReadError.{ReadError}
use Rattle.manifest.specs.declared.fault.ReadError.TheVariants.{Memory, Site, Refused}

module _ {X Y : Type 0} (f : X → Y) where
  -- the first that is left is taken over
  pub takes_one : (done new all : List Y) (left rest : List X) (x : X) (y : Y) → done ++ map f left ≡ all → left ≡ x ∷ rest → new ≡ done ++ y ∷ [] → y ≡ f x
      → new ++ map f rest ≡ all
  takes_one done new all left rest x y before step pushed same =
      ap (λ (l : List Y). l ++ map f rest) pushed
      ∙ (append_assoc done (y ∷ []) (map f rest)
      ∙ (ap (λ (z : Y). done ++ z ∷ map f rest) same
      ∙ (ap (λ (l : List X). done ++ map f l) (sym step) ∙ before)))

  -- nothing is left
  pub took_all : (done all : List Y) (left : List X) → done ++ map f left ≡ all → left ≡ [] → done ≡ all
  took_all done all left before none = sym (append-nil done) ∙ (ap (λ (l : List X). done ++ map f l) (sym none) ∙ before)

-- the same place, and the same fault
pub same_fault : (one other : Place) (kind same : FaultKind) → one.file ≡ other.file → one.line ≡ other.line → kind ≡ same → fault_at one kind ≡ fault_at other same
same_fault one other kind same file line is =
    ap (λ (f : List ℕ). fault_at (record { file = f; line = one.line }) kind) file
    ∙ (ap (λ (l : ℕ). fault_at (record { file = other.file; line = l }) kind) line ∙ ap (λ (k : FaultKind). fault_at other k) is)

pub at_place : (one other : Place) (kind same : FaultKind) (error : ReadError) → one.file ≡ other.file → one.line ≡ other.line → kind ≡ same
    → IsFaultAt one kind error → IsFaultAt other same error
at_place one other kind same Memory file line is told = tt
at_place one other kind same (Site fault) file line is told = told
at_place one other kind same (Refused fault) file line is told = told ∙ same_fault one other kind same file line is

-- ---- texts that are borrowed

-- one path more stands in a command as it is
pub bare_more : (paths : List (Bor (List ℕ))) (i : ℕ) (d : Bor (List ℕ)) → i < length paths → is_bare_path (get_or paths i d).now ≡ true
    → map quoted (map deref (take i paths)) ≡ map deref (take i paths) → map quoted (map deref (take (i + 1) paths)) ≡ map deref (take (i + 1) paths)
bare_more paths i d low bare so_far =
    let path = get_or paths i d in
    let texts : map deref (take (i + 1) paths) ≡ map deref (take i paths) ++ path.now ∷ [] = ap (map deref) (take_more paths i d low) ∙ map_push deref (take i paths) path in
    let stays : quoted path.now ≡ path.now = ap (λ (b : Bool). if b then path.now else in_quotes path.now) bare in
    ap (map quoted) texts ∙ (map_push quoted (map deref (take i paths)) path.now ∙ (ap (λ (l : List (List ℕ)). l ++ quoted path.now ∷ []) so_far
    ∙ (ap (λ (p : List ℕ). map deref (take i paths) ++ p ∷ []) stays ∙ sym texts)))

-- one more is quoted
pub quoted_next : (paths : List (Bor (List ℕ))) (i : ℕ) (d : Bor (List ℕ)) (before after : List (List ℕ)) (word : List ℕ) → i < length paths → before ≡ map quoted (map deref (take i paths))
    → after ≡ before ++ word ∷ [] → word ≡ quoted (get_or paths i d).now → after ≡ map quoted (map deref (take (i + 1) paths))
quoted_next paths i d before after word low was pushed same =
    let path = get_or paths i d in
    let texts : map deref (take (i + 1) paths) ≡ map deref (take i paths) ++ path.now ∷ [] = ap (map deref) (take_more paths i d low) ∙ map_push deref (take i paths) path in
    pushed ∙ (ap (λ (l : List (List ℕ)). l ++ word ∷ []) was ∙ (ap (λ (w : List ℕ). map quoted (map deref (take i paths)) ++ w ∷ []) same
    ∙ (sym (map_push quoted (map deref (take i paths)) path.now) ∙ ap (map quoted) (sym texts))))

-- one more is borrowed
pub texts_next : (table : List (List ℕ)) (numbers : List ℕ) (i number : ℕ) (before after : List (Bor (List ℕ))) (text : Bor (List ℕ)) → i < length numbers → number ≡ get_or numbers i number
    → map deref before ≡ texts_at table (take i numbers) → after ≡ before ++ text ∷ [] → slice_get table number ≡ Some text.now → map deref after ≡ texts_at table (take (i + 1) numbers)
texts_next table numbers i number before after text low is was pushed at =
    let same : text.now ≡ text_at table number = sym (at_is table number text.now at).1 in
    ap (map deref) pushed ∙ (map_push deref before text ∙ (ap (λ (l : List (List ℕ)). l ++ text.now ∷ []) was ∙ (ap (λ (t : List ℕ). texts_at table (take i numbers) ++ t ∷ []) same
    ∙ (sym (map_push (text_at table) (take i numbers) number) ∙ ap (texts_at table) (sym (take_more numbers i number low ∙ ap (λ (n : ℕ). take i numbers ++ n ∷ []) (sym is)))))))

pub words_next : (words : List (List ℕ)) (i : ℕ) (word : List ℕ) (before after : List (Bor (List ℕ))) (text : Bor (List ℕ)) → i < length words → word ≡ get_or words i word
    → map deref before ≡ take i words → after ≡ before ++ text ∷ [] → text.now ≡ word → map deref after ≡ take (i + 1) words
words_next words i word before after text low is was pushed same =
    ap (map deref) pushed ∙ (map_push deref before text ∙ (ap (λ (l : List (List ℕ)). l ++ text.now ∷ []) was ∙ (ap (λ (t : List ℕ). take i words ++ t ∷ []) (same ∙ is)
    ∙ sym (take_more words i word low))))

pub below_at : (count : ℕ) (numbers : List ℕ) (i number : ℕ) → i < length numbers → number ≡ get_or numbers i number → AreBelow count numbers → number < count
below_at count numbers i number low is all = subst (λ (n : ℕ). n < count) (sym is) (by numbers i low all)
  where
    by : (ns : List ℕ) (k : ℕ) → k < length ns → AreBelow count ns → get_or ns k number < count
    by [] k h all = absurd (omega arith)
    by (n ∷ ns) zero h all = all.0
    by (n ∷ ns) (suc k) h all = by ns k (omega arith) all.1
