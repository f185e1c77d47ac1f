-- Paths that are kept once.
use Rattle.std.proofs.Common.{◌≡◌, ℕ, Bool, true, false, not, List, [], ◌∷◌, ◌++◌, map, filter, refl, sym, ◌∙◌, ap, subst, append_assoc, append-nil, Option, Some, None, Result, Ok, Err, Global}
use Rattle.std.specs.Prelude.{bytes_eq, ◌||◌, if◌then◌else◌}
use Rattle.std.specs.List.{list_any, AllZip}
use Rattle.std.specs.Cow.{cow_str_bytes}
use Rattle.std.specs.declared.borrow.CowStr.{CowStr}
use Rattle.std.proofs.lemmas.List.{map-append}
use Rattle.std.proofs.lemmas.List.Elements.{filter-append}
use Rattle.std.proofs.lemmas.Slice.Eq.{bytes_eq-Decides}
use Rattle.indexmap.specs.IndexSet.{insert_key}
use Rattle.lexer.specs.Path.{IsCanonical}
use Rattle.depfile.specs.Signs.{signs, spelled}
use Rattle.depfile.specs.declared.fault.DepFault.{DepFault}
use Rattle.depfile.specs.declared.fault.DepFault.TheVariants.{NoColon, NotUtf8}
use Rattle.depfile.specs.declared.words.Word.{Word as Written}
use Rattle.depfile.specs.declared.words.Token.TheVariants.{Name}
use Rattle.depfile.specs.Depfile.{Word, both, inputs, firsts, IsRead}
use Rattle.depfile.specs.Words.{IsWord, IsToken, front_word, behind_targets}
use Rattle.depfile.specs.Kept.{AreKept, Adds, AddsPath}
use Rattle.depfile.proofs.Lines.{both_both}

same_answer : (a b : Bool) → (a ≡ true → b ≡ true) → (b ≡ true → a ≡ true) → a ≡ b
same_answer true b there back = sym (there refl)
same_answer false true there back = back refl
same_answer false false there back = refl

turned : (a b : List ℕ) → bytes_eq a b ≡ bytes_eq b a
turned a b = same_answer (bytes_eq a b) (bytes_eq b a) (λ h. (bytes_eq-Decides b a).1 (sym ((bytes_eq-Decides a b).0 h))) (λ h. (bytes_eq-Decides a b).1 (sym ((bytes_eq-Decides b a).0 h)))

abbrev pub put : List (List ℕ) → List ℕ → List (List ℕ)
put paths path = if list_any (bytes_eq path) paths then paths else paths ++ path ∷ []

abbrev others : List ℕ → List (List ℕ) → List (List ℕ)
others path = filter (λ other. not (bytes_eq path other))

-- another path is found as well without these
found_among_others : (x p : List ℕ) (paths : List (List ℕ)) → bytes_eq p x ≡ false → list_any (bytes_eq p) (others x paths) ≡ list_any (bytes_eq p) paths
found_among_others x p [] e = refl
found_among_others x p (y ∷ paths) e = by (bytes_eq x y) refl (found_among_others x p paths e)
  where
    by : (is : Bool) → bytes_eq x y ≡ is → list_any (bytes_eq p) (others x paths) ≡ list_any (bytes_eq p) paths → list_any (bytes_eq p) (others x (y ∷ paths)) ≡ list_any (bytes_eq p) (y ∷ paths)
    by true is more =
        let same : x ≡ y = (bytes_eq-Decides x y).0 is in
        let other : bytes_eq p y ≡ false = ap (bytes_eq p) (sym same) ∙ e in
        rw (is, other) more
    by false is more = rw is (ap (λ (b : Bool). bytes_eq p y || b) more)

-- one more path goes last, unless it is there
pub firsts-push : (all : List (List ℕ)) (p : List ℕ) → firsts (all ++ p ∷ []) ≡ put (firsts all) p
firsts-push [] p = refl
firsts-push (x ∷ all) p = ap (λ (ps : List (List ℕ)). x ∷ others x ps) (firsts-push all p) ∙ by (bytes_eq p x) refl (list_any (bytes_eq p) (firsts all)) refl
  where
    by : (same : Bool) → bytes_eq p x ≡ same → (found : Bool) → list_any (bytes_eq p) (firsts all) ≡ found
        → x ∷ others x (put (firsts all) p) ≡ put (x ∷ others x (firsts all)) p
    by true same true found = rw (same, found) refl
    by true same false found =
        let twin : bytes_eq x p ≡ true = turned x p ∙ same in
        rw (same, found) (ap (λ (ps : List (List ℕ)). x ∷ ps) (filter-append (λ other. not (bytes_eq x other)) (firsts all) (p ∷ []) ∙ rw twin (append-nil (others x (firsts all)))))
    by false same true found =
        let there : list_any (bytes_eq p) (others x (firsts all)) ≡ true = found_among_others x p (firsts all) same ∙ found in
        rw (same, found, there) refl
    by false same false found =
        let there : list_any (bytes_eq p) (others x (firsts all)) ≡ false = found_among_others x p (firsts all) same ∙ found in
        let twin : bytes_eq x p ≡ false = turned x p ∙ same in
        rw (same, found, there) (ap (λ (ps : List (List ℕ)). x ∷ ps) (filter-append (λ other. not (bytes_eq x other)) (firsts all) (p ∷ []) ∙ rw twin refl))

abbrev pub same_text : CowStr Global → CowStr Global → Bool
same_text one other = bytes_eq (cow_str_bytes one) (cow_str_bytes other)

found_key : (keys : List (CowStr Global)) (key : CowStr Global) → list_any (same_text key) keys ≡ list_any (bytes_eq (cow_str_bytes key)) (map cow_str_bytes keys)
found_key [] key = refl
found_key (other ∷ keys) key = ap (λ (b : Bool). same_text key other || b) (found_key keys key)

key_put : (keys : List (CowStr Global)) (key : CowStr Global) → map cow_str_bytes (insert_key same_text keys key) ≡ put (map cow_str_bytes keys) (cow_str_bytes key)
key_put keys key = by (list_any (same_text key) keys) refl
  where
    by : (found : Bool) → list_any (same_text key) keys ≡ found → map cow_str_bytes (if found then keys else keys ++ key ∷ []) ≡ put (map cow_str_bytes keys) (cow_str_bytes key)
    by true is = let there = sym (found_key keys key) ∙ is in rw there refl
    by false is = let there = sym (found_key keys key) ∙ is in rw there (map-append cow_str_bytes keys (key ∷ []))

pub path_put : (name : List ℕ) (all : List (List ℕ)) (keys new : List (CowStr Global)) (key : CowStr Global) → IsCanonical name (cow_str_bytes key) → new ≡ insert_key same_text keys key → AreKept all keys → AddsPath name all new
path_put name all keys new key canonical is kept = record {
  path = cow_str_bytes key;
  canonical = canonical;
  now = ap (map cow_str_bytes) is ∙ key_put keys key ∙ ap (λ (ps : List (List ℕ)). put ps (cow_str_bytes key)) kept ∙ sym (firsts-push all (cow_str_bytes key));
}

-- ---- inputs of a rule so far

pub record AddsSoFar (text rest : List ℕ) (all : List (List ℕ)) (kept : List (CowStr Global)) : Type 0 where
  pub words : List Word
  pub paths : List (List ℕ)
  pub canonical : AllZip IsCanonical (map spelled words) paths
  pub now : AreKept (all ++ paths) kept
  pub left_is : behind_targets (signs text) ≡ both (Some words) (behind_targets (signs rest))

both_nothing : (later : Option (List Word)) → later ≡ both (Some []) later
both_nothing None = refl
both_nothing (Some words) = refl

pub adds_nothing : (text : List ℕ) (all : List (List ℕ)) (kept : List (CowStr Global)) → AreKept all kept → AddsSoFar text text all kept
adds_nothing text all kept are = record {
  words = [];
  paths = [];
  canonical = tt;
  now = are ∙ ap firsts (sym (append-nil all));
  left_is = both_nothing (behind_targets (signs text));
}

zip-append : (words more : List (List ℕ)) (paths others : List (List ℕ)) → AllZip IsCanonical words paths → AllZip IsCanonical more others → AllZip IsCanonical (words ++ more) (paths ++ others)
zip-append [] more [] others first second = second
zip-append [] more (path ∷ paths) others first second = absurd first
zip-append (word ∷ words) more [] others first second = absurd first
zip-append (word ∷ words) more (path ∷ paths) others first second = (first.0, zip-append words more paths others first.1 second)

pub adds_one_more : (text between rest : List ℕ) (all : List (List ℕ)) (old new : List (CowStr Global)) (word : Word) → (far : AddsSoFar text between all old) → AddsPath (spelled word) (all ++ far.paths) new
    → behind_targets (signs between) ≡ both (Some (word ∷ [])) (behind_targets (signs rest)) → AddsSoFar text rest all new
adds_one_more text between rest all old new word far one is = record {
  words = far.words ++ word ∷ [];
  paths = far.paths ++ one.path ∷ [];
  canonical = subst (λ (names : List (List ℕ)). AllZip IsCanonical names (far.paths ++ one.path ∷ [])) (sym (map-append spelled far.words (word ∷ []))) (zip-append (map spelled far.words) (spelled word ∷ []) far.paths (one.path ∷ []) far.canonical (one.canonical, tt));
  now = one.now ∙ ap firsts (append_assoc all far.paths (one.path ∷ []));
  left_is = far.left_is ∙ ap (both (Some far.words)) is ∙ both_both far.words (word ∷ []) (behind_targets (signs rest));
}

pub adds_all : (text between rest : List ℕ) (all : List (List ℕ)) (kept : List (CowStr Global)) → AddsSoFar text between all kept → behind_targets (signs between) ≡ inputs (signs rest) → Adds (behind_targets (signs text)) rest all kept
adds_all text between rest all kept far is = record {
  words = far.words;
  paths = far.paths;
  canonical = far.canonical;
  now = far.now;
  left_is = far.left_is ∙ ap (both (Some far.words)) is;
}

-- the word of a token is the one that stands first
pub named_path : (text rest : List ℕ) (word : Written) → (is : IsToken text (Name word) rest) → (all : List (List ℕ)) (kept : List (CowStr Global)) → AddsPath (spelled (front_word (signs word.from.now))) all kept → AddsPath (spelled (front_word (signs is.start))) all kept
named_path text rest word is all kept adds = let here : IsWord is.start word rest = is.here in subst (λ (from : List ℕ). AddsPath (spelled (front_word (signs from))) all kept) here.begins adds

-- ---- the inputs of all rules so far

pub record SaidSoFar (text rest : List ℕ) (kept : List (CowStr Global)) : Type 0 where
  pub words : List Word
  pub paths : List (List ℕ)
  pub canonical : AllZip IsCanonical (map spelled words) paths
  pub now : AreKept paths kept
  pub left_is : inputs (signs text) ≡ both (Some words) (inputs (signs rest))

pub said_nothing : (text : List ℕ) (kept : List (CowStr Global)) → kept ≡ [] → SaidSoFar text text kept
said_nothing text kept none = record { words = []; paths = []; canonical = tt; now = ap (map cow_str_bytes) none; left_is = both_nothing (inputs (signs text)) }

pub says_more : (text between rest : List ℕ) (old new : List (CowStr Global)) → SaidSoFar text between old → ((all : List (List ℕ)) → AreKept all old → Adds (inputs (signs between)) rest all new) → SaidSoFar text rest new
says_more text between rest old new far adds = let one = adds far.paths far.now in record {
  words = far.words ++ one.words;
  paths = far.paths ++ one.paths;
  canonical = subst (λ (names : List (List ℕ)). AllZip IsCanonical names (far.paths ++ one.paths)) (sym (map-append spelled far.words one.words)) (zip-append (map spelled far.words) (map spelled one.words) far.paths one.paths far.canonical one.canonical);
  now = one.now;
  left_is = far.left_is ∙ ap (both (Some far.words)) one.left_is ∙ both_both far.words one.words (inputs (signs rest));
}

-- a rule that is blank, and one that has inputs
pub adds_rule : (text rest : List ℕ) (kept : List (CowStr Global)) → inputs (signs text) ≡ inputs (signs rest) → (all : List (List ℕ)) → AreKept all kept → Adds (inputs (signs text)) rest all kept
adds_rule text rest kept is all are = record { words = []; paths = []; canonical = tt; now = are ∙ ap firsts (sym (append-nil all)); left_is = is ∙ both_nothing (inputs (signs rest)) }

-- ---- one answer

module _ (one_form : (text a b : List ℕ) → IsCanonical text a → IsCanonical text b → a ≡ b) where
  one_list : (names a b : List (List ℕ)) → AllZip IsCanonical names a → AllZip IsCanonical names b → a ≡ b
  one_list [] [] [] first second = refl
  one_list [] [] (q ∷ b) first second = absurd second
  one_list [] (p ∷ a) b first second = absurd first
  one_list (n ∷ names) [] b first second = absurd first
  one_list (n ∷ names) (p ∷ a) [] first second = absurd second
  one_list (n ∷ names) (p ∷ a) (q ∷ b) first second = ap (λ (x : List ℕ). x ∷ a) (one_form n p q first.0 second.0) ∙ ap (λ (xs : List (List ℕ)). q ∷ xs) (one_list names a b first.1 second.1)

  one_some : (x y : List Word) → Some x ≡ Some y → x ≡ y
  one_some x y e = cc

  some_none : {C : Type 0} (x : List Word) → Some x ≡ None → C
  some_none x e = absurd (cc)

  pub one_answer : (bytes : List ℕ) (a b : Result (List (List ℕ)) DepFault) → IsRead bytes a → IsRead bytes b → a ≡ b
  one_answer bytes (Ok a) (Ok b) first second =
      let same : first.1 ≡ second.1 = one_some first.1 second.1 (sym first.2 ∙ second.2) in
      let canonical = subst (λ (words : List Word). AllZip IsCanonical (map spelled words) first.3.all) same first.3.canonical in
      ap Ok (first.3.once ∙ ap firsts (one_list (map spelled second.1) first.3.all second.3.all canonical second.3.canonical) ∙ sym second.3.once)
  one_answer bytes (Ok a) (Err NoColon) first second = some_none first.1 (sym first.2 ∙ second.1)
  one_answer bytes (Ok a) (Err NotUtf8) first second = absurd (second first.0)
  one_answer bytes (Err NoColon) (Ok b) first second = some_none second.1 (sym second.2 ∙ first.1)
  one_answer bytes (Err NoColon) (Err NoColon) first second = refl
  one_answer bytes (Err NoColon) (Err NotUtf8) first second = absurd (second first.0)
  one_answer bytes (Err NotUtf8) (Ok b) first second = absurd (first second.0)
  one_answer bytes (Err NotUtf8) (Err NoColon) first second = absurd (first second.0)
  one_answer bytes (Err NotUtf8) (Err NotUtf8) first second = refl
