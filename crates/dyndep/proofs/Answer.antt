-- That a dyndep file says one thing.
use Rattle.std.proofs.Common.{◌≡◌, ℕ, Bool, List, [], ◌∷◌, ◌++◌, map, refl, sym, ap, ◌∙◌, subst, Option, Some, None, Result, Ok, Err, inl, inr}
use Rattle.std.specs.List.{AllZip}
use Rattle.std.specs.Str.{IsUtf8}
use Rattle.lexer.specs.declared.fault.Fault.{Fault}
use Rattle.lexer.specs.declared.statement.Line.{Line}
use Rattle.lexer.specs.Path.{IsCanonical}
use Rattle.lexer.specs.Said.{BuildForm, Form, Said, said_of, form_of}
use Rattle.lexer.specs.Lines.{IsRead as IsText}
use Rattle.dyndep.specs.declared.addition.Addition.{Addition}
use Rattle.dyndep.specs.declared.fault.DynFault.{DynFault}
use Rattle.dyndep.specs.declared.fault.DynFault.TheVariants.{BadVersion, BadStatement}
use Rattle.dyndep.specs.declared.fault.ReadError.{ReadError}
use Rattle.dyndep.specs.declared.fault.ReadError.TheVariants as error
use Rattle.dyndep.specs.Dyndep.{IsAddition, AreAdditions, IsPath, Adds, Says, LacksVersion, IsUnfit, IsRead, forms_of, text_of}
use Rattle.dyndep.specs.Dyndep.AreAdditions.{nothing, one_more}
use Rattle.dyndep.specs.Refused.{AnswersFault, RefusesForms, forms_in}
use Rattle.dyndep.proofs.Additions.{begins_so, one_cut, binds_of_block}

-- ---- what was read

same_forms : (lines : List Line) → forms_in lines ≡ forms_of (map said_of lines)
same_forms [] = refl
same_forms (line ∷ lines) = ap (λ (forms : List Form). form_of line.statement ∷ forms) (same_forms lines)

pub says_lines : (bytes text : List ℕ) (lines : List Line) (fault : Option Fault) → (text ≡ bytes) × IsUtf8 bytes → IsText text (map said_of lines) fault → Says bytes (forms_in lines) fault
says_lines bytes text lines fault is read = record {
  utf8 = is.1;
  said = map said_of lines;
  read = subst (λ (t : List ℕ). IsText t (map said_of lines) fault) is.0 read;
  forms_are = same_forms lines;
}

pub adds_read : (bytes : List ℕ) (forms : List Form) (fault : Option Fault) (additions : List Addition) → Says bytes forms fault → (fault ≡ None) × Adds forms additions → IsRead bytes (Ok additions)
adds_read bytes forms fault additions says adds = (forms, subst (Says bytes forms) adds.0 says, adds.1)

pub refuses_read : (bytes : List ℕ) (forms : List Form) (fault : Option Fault) (e : ReadError) → Says bytes forms fault → RefusesForms forms fault e → AnswersFault bytes e
refuses_read bytes forms fault error.Memory says refuses = tt
refuses_read bytes forms fault (error.Fault BadVersion) says refuses = (forms, fault, says, refuses)
refuses_read bytes forms fault (error.Fault BadStatement) says refuses = inr (forms, fault, says, refuses)

-- ---- what fits in more than one way

lacks_unfit : (forms : List Form) (fault : Option Fault) → LacksVersion forms fault → IsUnfit forms fault → ⊥
lacks_unfit [] None lacks unfit = unfit
lacks_unfit [] (Some fault) lacks unfit = lacks
lacks_unfit (first ∷ forms) None lacks unfit = let e = sym lacks ∙ unfit.0 in cc
lacks_unfit (first ∷ forms) (Some fault) lacks unfit = let e = sym lacks ∙ unfit in cc

adds_lacks : (forms : List Form) (additions : List Addition) (fault : Option Fault) → Adds forms additions → LacksVersion forms fault → ⊥
adds_lacks [] additions fault adds lacks = adds
adds_lacks (first ∷ forms) additions fault adds lacks = let e = sym lacks ∙ adds.0 in cc

adds_unfit : (forms : List Form) (additions : List Addition) → Adds forms additions → IsUnfit forms None → ⊥
adds_unfit [] additions adds unfit = adds
adds_unfit (first ∷ forms) additions adds unfit = unfit.1 additions adds.1

same_addition : (a b : Addition) → a.output ≡ b.output → a.outputs ≡ b.outputs → a.inputs ≡ b.inputs → a.restat ≡ b.restat → a ≡ b
same_addition a b output outputs inputs restat =
    ap (λ (o : List ℕ). record a { output = o }) output
    ∙ ap (λ (os : List (List ℕ)). record a { output = b.output; outputs = os }) outputs
    ∙ ap (λ (is : List (List ℕ)). record a { output = b.output; outputs = b.outputs; inputs = is }) inputs
    ∙ ap (λ (r : Bool). record a { output = b.output; outputs = b.outputs; inputs = b.inputs; restat = r }) restat

first_of : (p q : List ℕ) (ps qs : List (List ℕ)) → p ∷ ps ≡ q ∷ qs → p ≡ q
first_of p q ps qs e = cc

module _ (one_form : (text a b : List ℕ) → IsCanonical text a → IsCanonical text b → a ≡ b)
    (one_reading : (text : List ℕ) (a b : List Said) (f g : Option Fault) → IsText text a f → IsText text b g → (a ≡ b) × (f ≡ g)) where
  one_list : (texts a b : List (List ℕ)) → AllZip IsPath texts a → AllZip IsPath texts b → a ≡ b
  one_list [] [] [] first second = refl
  one_list [] [] (q ∷ b) first second = absurd second
  one_list [] (p ∷ a) b first second = absurd first
  one_list (t ∷ texts) [] b first second = absurd first
  one_list (t ∷ texts) (p ∷ a) [] first second = absurd second
  one_list (t ∷ texts) (p ∷ a) (q ∷ b) first second = ap (λ (x : List ℕ). x ∷ a) (one_form t p q first.0.1 second.0.1) ∙ ap (λ (xs : List (List ℕ)). q ∷ xs) (one_list texts a b first.1 second.1)

  one_addition : (line : BuildForm) (block : List Form) (a b : Addition) → IsAddition line block a → IsAddition line block b → a ≡ b
  one_addition line block a b first second = same_addition a b
      (first_of a.output b.output [] [] (one_list (map text_of line.explicit_outputs) (a.output ∷ []) (b.output ∷ []) first.output second.output))
      (one_list (map text_of line.implicit_outputs) a.outputs b.outputs first.outputs second.outputs)
      (one_list (map text_of line.implicit_inputs) a.inputs b.inputs first.inputs second.inputs)
      (first.restat_is ∙ sym second.restat_is)

  one_additions : (forms : List Form) (a : List Addition) → AreAdditions forms a → (others : List Form) (b : List Addition) → AreAdditions others b → forms ≡ others → a ≡ b
  one_additions forms a nothing others b nothing e = refl
  one_additions forms a nothing others b (one_more is more) e = absurd (cc)
  one_additions forms a (one_more is more) others b nothing e = absurd (cc)
  one_additions forms a (one_more {line = line} {block = block} {forms = rest} {addition = x} {additions = xs} is more) others b (one_more {line = line'} {block = block'} {forms = rest'} {addition = y} {additions = ys} is' more') e =
      let tails : block ++ rest ≡ block' ++ rest' = cc in
      let heads : line ≡ line' = cc in
      let cut = one_cut block rest block' rest' tails (binds_of_block block is.block_binds) (begins_so rest xs more) is'.block_binds (begins_so rest' ys more') in
      let here : IsAddition line' block' x = subst (λ (l : BuildForm). IsAddition l block' x) heads (subst (λ (fs : List Form). IsAddition line fs x) cut.0 is) in
      ap (λ (z : Addition). z ∷ xs) (one_addition line' block' x y here is') ∙ ap (λ (zs : List Addition). y ∷ zs) (one_additions rest xs more rest' ys more' cut.1)

  one_said : (bytes : List ℕ) (forms others : List Form) (f g : Option Fault) → Says bytes forms f → Says bytes others g → (forms ≡ others) × (f ≡ g)
  one_said bytes forms others f g first second =
      let same = one_reading bytes first.said second.said f g first.read second.read in
      (first.forms_are ∙ ap forms_of same.0 ∙ sym second.forms_are, same.1)

  one_adds : (forms others : List Form) (a b : List Addition) → forms ≡ others → Adds forms a → Adds others b → a ≡ b
  one_adds [] others a b e first second = absurd first
  one_adds (form ∷ forms) [] a b e first second = absurd second
  one_adds (form ∷ forms) (other ∷ others) a b e first second = let tails : forms ≡ others = cc in one_additions forms a first.1 others b second.1 tails

  added_unfit : (bytes : List ℕ) (a : List Addition) → IsRead bytes (Ok a) → IsRead bytes (Err BadStatement) → ⊥
  added_unfit bytes a first (inl no_text) = no_text first.1.utf8
  added_unfit bytes a first (inr second) =
      let same = one_said bytes first.0 second.0 None second.1 first.1 second.2 in
      adds_unfit first.0 a first.2 (subst (λ (f : Option Fault). IsUnfit first.0 f) (sym same.1) (subst (λ (fs : List Form). IsUnfit fs second.1) (sym same.0) second.3))

  added_lacks : (bytes : List ℕ) (a : List Addition) → IsRead bytes (Ok a) → IsRead bytes (Err BadVersion) → ⊥
  added_lacks bytes a first second =
      let same = one_said bytes first.0 second.0 None second.1 first.1 second.2 in
      adds_lacks first.0 a second.1 first.2 (subst (λ (fs : List Form). LacksVersion fs second.1) (sym same.0) second.3)

  lacking_unfit : (bytes : List ℕ) → IsRead bytes (Err BadVersion) → IsRead bytes (Err BadStatement) → ⊥
  lacking_unfit bytes first (inl no_text) = no_text first.2.utf8
  lacking_unfit bytes first (inr second) =
      let same = one_said bytes first.0 second.0 first.1 second.1 first.2 second.2 in
      lacks_unfit first.0 first.1 first.3 (subst (λ (f : Option Fault). IsUnfit first.0 f) (sym same.1) (subst (λ (fs : List Form). IsUnfit fs second.1) (sym same.0) second.3))

  pub one_answer : (bytes : List ℕ) (a b : Result (List Addition) DynFault) → IsRead bytes a → IsRead bytes b → a ≡ b
  one_answer bytes (Ok a) (Ok b) first second = ap Ok (one_adds first.0 second.0 a b (one_said bytes first.0 second.0 None None first.1 second.1).0 first.2 second.2)
  one_answer bytes (Ok a) (Err BadVersion) first second = absurd (added_lacks bytes a first second)
  one_answer bytes (Ok a) (Err BadStatement) first second = absurd (added_unfit bytes a first second)
  one_answer bytes (Err BadVersion) (Ok b) first second = absurd (added_lacks bytes b second first)
  one_answer bytes (Err BadVersion) (Err BadVersion) first second = refl
  one_answer bytes (Err BadVersion) (Err BadStatement) first second = absurd (lacking_unfit bytes first second)
  one_answer bytes (Err BadStatement) (Ok b) first second = absurd (added_unfit bytes b second first)
  one_answer bytes (Err BadStatement) (Err BadVersion) first second = absurd (lacking_unfit bytes second first)
  one_answer bytes (Err BadStatement) (Err BadStatement) first second = refl
