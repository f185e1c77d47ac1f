-- Each dyndep file says something: there is a function that reads them.
use Rattle.std.proofs.Common.{◌≡◌, ℕ, Bool, true, false, List, [], ◌∷◌, Option, Some, None, Result, Ok, Err, ◌⊎◌, inl, inr, refl, sym, ◌∙◌}
use Rattle.std.specs.Str.{is_utf8}
use Rattle.std.proofs.lemmas.Bool.{false≢true}
use Rattle.std.proofs.lemmas.Str.{IsUtf8-from_is_utf8, is_utf8-from_IsUtf8}
use Rattle.lexer.specs.declared.fault.Fault.{Fault}
use Rattle.lexer.specs.Path.{HasCanonical}
use Rattle.lexer.specs.Said.{Form}
use Rattle.dyndep.specs.declared.addition.Addition.{Addition}
use Rattle.dyndep.specs.declared.fault.DynFault.{DynFault}
use Rattle.dyndep.specs.declared.fault.DynFault.TheVariants.{BadVersion, BadStatement}
use Rattle.dyndep.specs.Dyndep.{AreAdditions, Says, IsRead, accepted, is_version, forms_of}
use Rattle.dyndep_law.specs.Readings.{HasReading}
use Rattle.dyndep.specs.Refused.{AreNoAdditions, StatementsAdd}
use Rattle.dyndep_law.proofs.Decided.{additions_found}
use Rattle.dyndep_law.proofs.Told.{told}

abbrev Answered : List ℕ → Type 0
Answered bytes = (said : Result (List Addition) DynFault) × IsRead bytes said

module _ (canonical : HasCanonical) (add : StatementsAdd) where
  -- a version stands first
  behind_version : (bytes : List ℕ) (first : Form) (forms : List Form) (fault : Option Fault) → is_version first ≡ true → Says bytes (first ∷ forms) fault → Answered bytes
  behind_version bytes first forms (Some fault) is says = (Err BadStatement, inr (first ∷ forms, Some fault, says, is))
  behind_version bytes first forms None is says = by (additions_found canonical add forms)
    where
      by : ((all : List Addition) × AreAdditions forms all) ⊎ AreNoAdditions forms → Answered bytes
      by (inl all) = (Ok all.0, (first ∷ forms, says, (is, all.1)))
      by (inr none) = (Err BadStatement, inr (first ∷ forms, None, says, (is, none)))

  by_forms : (bytes : List ℕ) (forms : List Form) (fault : Option Fault) → Says bytes forms fault → Answered bytes
  by_forms bytes [] None says = (Err BadVersion, ([], None, says, tt))
  by_forms bytes [] (Some fault) says = (Err BadStatement, inr ([], Some fault, says, tt))
  by_forms bytes (first ∷ forms) fault says = by (is_version first) refl
    where
      by : (is : Bool) → is_version first ≡ is → Answered bytes
      by true is = behind_version bytes first forms fault is says
      by false is = (Err BadVersion, (first ∷ forms, fault, says, is))

  said : (bytes : List ℕ) → Answered bytes
  said bytes = by (is_utf8 bytes) refl
    where
      by : (is : Bool) → is_utf8 bytes ≡ is → Answered bytes
      by true is =
          let text = told bytes in
          by_forms bytes (forms_of text.said) text.fault (record { utf8 = IsUtf8-from_is_utf8 bytes is; said = text.said; read = text.read; forms_are = refl })
      by false is = (Err BadStatement, inl (λ text. false≢true (sym is ∙ is_utf8-from_IsUtf8 bytes text)))

  pub has_reading : HasReading
  has_reading = (λ bytes. accepted (said bytes).0, λ bytes. ((said bytes).0, (said bytes).1, refl))
