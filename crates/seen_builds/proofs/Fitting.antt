-- Two builds whose logs lie where the program's own files do have the same files of their own.
use Rattle.std.proofs.Common.{◌≡◌, ℕ, ◌==◌, ◌||◌, Bool, true, false, if◌then◌else◌, List, [], ◌∷◌, ◌++◌, bytes_eq, refl, sym, ◌∙◌, ap, subst, append_assoc}
use Rattle.std.proofs.lemmas.Bool.{or_left, or_right}
use Rattle.std.proofs.lemmas.List.{append_cancel_right}
use Rattle.model.specs.Records.{IsOwnIn, OwnFiles, build_log_name, deps_log_name, file_in, tick_name}
use Rattle.theory.proofs.Lists.{bytes_same}
use Rattle.seen_true.specs.Counting.{Knowing}
use Rattle.seen_true.specs.Others.{OwnFit}
use Rattle.seen.specs.declared.own.Own.{Own}
use Rattle.seen.specs.Own.{AreOwnIn, is_own, seen_name}

-- ---- files of one folder

-- what stands in front of a name in the folder
abbrev front : List ℕ → List ℕ
front [] = []
front (c ∷ []) = if c == 47 then 47 ∷ [] else c ∷ 47 ∷ []
front (c ∷ d ∷ folder) = (c ∷ d ∷ folder) ++ 47 ∷ []

file_front : (folder name : List ℕ) → file_in folder name ≡ front folder ++ name
file_front [] name = refl
file_front (c ∷ []) name = by (c == 47)
  where
    by : (root : Bool) → (if root then 47 ∷ name else c ∷ 47 ∷ name) ≡ (if root then 47 ∷ [] else c ∷ 47 ∷ []) ++ name
    by true = refl
    by false = refl
file_front (c ∷ d ∷ folder) name = sym (append_assoc (c ∷ d ∷ folder) (47 ∷ []) name)

-- folders that have one file in common have all
same_file : (f g one other : List ℕ) → file_in f one ≡ file_in g one → file_in f other ≡ file_in g other
same_file f g one other is =
    file_front f other
    ∙ (ap (λ (l : List ℕ). l ++ other) (append_cancel_right (front f) (front g) one (sym (file_front f one) ∙ (is ∙ file_front g one)))
    ∙ sym (file_front g other))

-- ---- what a build knows of its own files

-- they are those of a folder in which the program's own files lie
pub record KnowsOwn (own : OwnFiles) (k : Knowing) : Type 0 where
  pub folder : List ℕ
  pub fits : IsOwnIn own folder
  pub files : Own
  pub are : AreOwnIn folder files
  pub is_own_so : (p : List ℕ) → k.is_own p ≡ is_own files p
  pub seen : k.seen ≡ files.seen

-- a file of that path is there
named : (file path : List ℕ) → file ≡ path → bytes_eq file path ≡ true
named file path same = subst (λ (l : List ℕ). bytes_eq l path ≡ true) (sym same) (bytes_same path)

module _ (own : OwnFiles) (k : Knowing) (is : KnowsOwn own k) where
  pub has_log : is_own is.files own.build_log ≡ true
  has_log = or_left (bytes_eq is.files.log own.build_log) _ (named is.files.log own.build_log (is.are.log ∙ sym is.fits.build_log))

  has_deps : is_own is.files own.deps_log ≡ true
  has_deps =
      or_right (bytes_eq is.files.log own.deps_log) _
      (or_left (bytes_eq is.files.deps_log own.deps_log) _ (named is.files.deps_log own.deps_log (is.are.deps_log ∙ sym is.fits.deps_log)))

module _ (own : OwnFiles) (k next : Knowing) (is : KnowsOwn own k) (next_is : KnowsOwn own next) where
  one_folder : file_in next_is.folder build_log_name ≡ file_in is.folder build_log_name
  one_folder = sym next_is.fits.build_log ∙ is.fits.build_log

  log_same : next_is.files.log ≡ is.files.log
  log_same = next_is.are.log ∙ (one_folder ∙ sym is.are.log)

  deps_same : next_is.files.deps_log ≡ is.files.deps_log
  deps_same = next_is.are.deps_log ∙ (same_file next_is.folder is.folder build_log_name deps_log_name one_folder ∙ sym is.are.deps_log)

  tick_same : next_is.files.tick ≡ is.files.tick
  tick_same = next_is.are.tick ∙ (same_file next_is.folder is.folder build_log_name tick_name one_folder ∙ sym is.are.tick)

  seen_same : next_is.files.seen ≡ is.files.seen
  seen_same = next_is.are.seen ∙ (same_file next_is.folder is.folder build_log_name seen_name one_folder ∙ sym is.are.seen)

  own_same : (p : List ℕ) → is_own next_is.files p ≡ is_own is.files p
  own_same p = λ i. bytes_eq (log_same i) p || (bytes_eq (deps_same i) p || (bytes_eq (tick_same i) p || bytes_eq (seen_same i) p))

  pub fit_law : OwnFit own k next
  fit_law = record {
    same = λ p. next_is.is_own_so p ∙ (own_same p ∙ sym (is.is_own_so p));
    seen = next_is.seen ∙ (seen_same ∙ sym is.seen);
    build_log = is.is_own_so own.build_log ∙ has_log own k is;
    deps_log = is.is_own_so own.deps_log ∙ has_deps own k is;
  }
