-- Each depfile says something: there is a function that reads them.
use Rattle.std.proofs.Common.{◌≡◌, ℕ, Bool, true, false, List, [], ◌∷◌, map, Option, Some, None, Result, Ok, Err, refl, sym, ◌∙◌}
use Rattle.std.specs.List.{AllZip}
use Rattle.std.specs.Str.{IsUtf8, is_utf8}
use Rattle.std.proofs.lemmas.Bool.{false≢true}
use Rattle.std.proofs.lemmas.Str.{IsUtf8-from_is_utf8, is_utf8-from_IsUtf8}
use Rattle.lexer.specs.Path.{IsCanonical, HasCanonical}
use Rattle.depfile.specs.Signs.{signs, spelled}
use Rattle.depfile.specs.declared.fault.DepFault.{DepFault}
use Rattle.depfile.specs.declared.fault.DepFault.TheVariants.{NoColon, NotUtf8}
use Rattle.depfile.specs.Depfile.{Word, inputs, firsts, IsRead, accepted, HasReading}

module _ (canonical : HasCanonical) where
  all_canonical : (texts : List (List ℕ)) → (all : List (List ℕ)) × AllZip IsCanonical texts all
  all_canonical [] = ([], tt)
  all_canonical (text ∷ texts) =
      let first = canonical text in
      let rest = all_canonical texts in
      (first.0 ∷ rest.0, (first.1, rest.1))

  -- ---- what is read of each

  said : (bytes : List ℕ) → (said : Result (List (List ℕ)) DepFault) × IsRead bytes said
  said bytes = by_text (is_utf8 bytes) refl
    where
      by_inputs : IsUtf8 bytes → (found : Option (List Word)) → inputs (signs bytes) ≡ found → (said : Result (List (List ℕ)) DepFault) × IsRead bytes said
      by_inputs text None is = (Err NoColon, (text, is))
      by_inputs text (Some words) is =
          let all = all_canonical (map spelled words) in
          (Ok (firsts all.0), (text, words, is, record { all = all.0; canonical = all.1; once = refl }))

      by_text : (is : Bool) → is_utf8 bytes ≡ is → (said : Result (List (List ℕ)) DepFault) × IsRead bytes said
      by_text true is = by_inputs (IsUtf8-from_is_utf8 bytes is) (inputs (signs bytes)) refl
      by_text false is = (Err NotUtf8, λ text. false≢true (sym is ∙ is_utf8-from_IsUtf8 bytes text))

  pub has_reading : HasReading
  has_reading = (λ bytes. accepted (said bytes).0, λ bytes. ((said bytes).0, (said bytes).1, refl))
