-- Files that nobody wrote.
use Rattle.std.proofs.Common.{◌≡◌, inl, inr, ℕ, true, false, List, [], ◌∷◌, ◌++◌, Option, refl, sym, ◌∙◌, ap, bytes_eq}
use Rattle.std.proofs.lemmas.Bool.{false≢true, cases_Bool}
use Rattle.model.specs.declared.event.Moment.{Moment}
use Rattle.model.specs.declared.event.Moment.TheVariants.{Wrote, Happened}
use Rattle.model.specs.World.{File, file_after, file_from}
use Rattle.model.specs.Graph.{has}

abbrev pub written_in : List Moment → List (List ℕ)
written_in [] = []
written_in (Wrote by path content stamp ∷ ms) = path ∷ written_in ms
written_in (Happened event ∷ ms) = written_in ms

pub unwritten : (p : List ℕ) (file : Option File) (ms : List Moment) → has (written_in ms) p ≡ false → file_from p file ms ≡ file
unwritten p file [] none = refl
unwritten p file (Wrote by path content stamp ∷ ms) none = elim (cases_Bool (bytes_eq path p)) [
  | inl same ↦ let no : true ≡ false = rw same at none in absurd (false≢true (sym no))
  | inr other ↦
      let rest : has (written_in ms) p ≡ false = rw other at none in
      let kept : file_after p file (Wrote by path content stamp) ≡ file = rw other refl in
      ap (λ (f : Option File). file_from p f ms) kept ∙ unwritten p file ms rest
]
unwritten p file (Happened event ∷ ms) none = unwritten p file ms none

pub from_append : (p : List ℕ) (file : Option File) (xs ys : List Moment) → file_from p file (xs ++ ys) ≡ file_from p (file_from p file xs) ys
from_append p file [] ys = refl
from_append p file (x ∷ xs) ys = from_append p (file_after p file x) xs ys
