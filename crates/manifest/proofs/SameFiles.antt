-- Files say the same over states that say the same, so that they declare one thing.
use Rattle.std.proofs.Common.{◌≡◌, ℕ, zero, suc, Bool, true, false, List, [], ◌∷◌, Option, None, Some, refl, sym, ◌∙◌, ap, subst}
use Rattle.std.specs.Option.{option_map}
use Rattle.lexer.specs.declared.fault.Fault.{Fault}
use Rattle.lexer.specs.declared.fault.FaultKind.TheVariants.{TooLarge, EmptyPath}
use Rattle.lexer.specs.Lines.{IsRead}
use Rattle.lexer.specs.Path.{IsCanonical}
use Rattle.lexer.specs.Said.{Fragments, Form, Said}
use Rattle.lexer.specs.Said.Form.{binding, block_binding, rule, build, pool, defaults, includes, subninja}
use Rattle.model.specs.declared.graph.BuildGraph.{BuildGraph}
use Rattle.scopes.specs.declared.template.Template.{Template}
use Rattle.scopes.specs.Moves.{Enter, Leave}
use Rattle.scopes.specs.Use.{IsValueAtUse}
use Rattle.manifest.specs.declared.fault.FaultKind.TheVariants.{Line}
use Rattle.manifest.specs.declared.fault.FileFault.{FileFault}
use Rattle.manifest.specs.Readings.{Outcome, Reading, Give, Unless, Where, Place, fault_at}
use Rattle.manifest.specs.Expansion.{text_at, is_large, is_empty}
use Rattle.manifest.specs.States.{State, nothing, with_move}
use Rattle.manifest.specs.Blocks.{BlockLine, Group, groups_of}
use Rattle.manifest.specs.Files.{Inner, NameOf, Found, FoundIn, OpenOf, OfFile, InScope, OfForm, place_of, if_last, OfGroups, Lexed, fault_in, OfBytes, None_deeper, Reads, deepest}
use Rattle.manifest.specs.Graphs.{OfMain, Declares}
use Rattle.manifest.proofs.Agreeing.{Agree, One, same_outcome, give_agree, refuse_agree, unless_same, cut_agree, then_agree, where_one}
use Rattle.manifest.proofs.Sameness.{SameState}
use Rattle.manifest.proofs.SamePasts.{text_at_same, value_at_end_same, named_same}
use Rattle.manifest.proofs.SameStatements.{binding_same, rule_same, build_statement_same, pool_same, default_same, move_same}
use Rattle.manifest.proofs.SameEdges.{at_end_same}

abbrev InnerSame : Inner → Type 0
InnerSame inner = (name bytes : List ℕ) (s t : State) → SameState s t → Agree SameState (inner name bytes s) (inner name bytes t)

found_one : (place : Place) (too_deep : Bool) (name : List ℕ) (content : Option (List ℕ)) → One (FoundIn place too_deep name content)
found_one place too_deep name None = refuse_agree (λ x y. x ≡ y) _ _ refl
found_one place true name (Some bytes) = refuse_agree (λ x y. x ≡ y) _ _ refl
found_one place false name (Some bytes) = give_agree (λ x y. x ≡ y) _ _ refl

scope_same : (inner : Inner) → InnerSame inner → InnerSame (InScope inner)
scope_same inner inner_same name bytes s t same =
    then_agree SameState SameState _ _ _ _ (inner_same name bytes (with_move Enter s) (with_move Enter t) (move_same s t Enter Enter same tt))
    (λ a b related. give_agree SameState _ _ (move_same a b Leave Leave related tt))

module _ (files : List ℕ → Option (List ℕ)) (one_form : (text a b : List ℕ) → IsCanonical text a → IsCanonical text b → a ≡ b)
    (one_reading : (text : List ℕ) (a b : List Said) (f g : Option Fault) → IsRead text a f → IsRead text b g → (a ≡ b) × (f ≡ g)) where
  abbrev holds : List ℕ → Option (List ℕ) → Type 0
  holds file content = content ≡ files file

  one_content : (name : List ℕ) (a b : Option (List ℕ)) → holds name a → holds name b → a ≡ b
  one_content name a b is is' = is ∙ sym is'

  abbrev name_as : Place → List ℕ → Reading (List ℕ)
  name_as place text =
      Unless (is_large text ≡ true) (fault_at place (Line TooLarge)) (Unless (is_empty text ≡ true) (fault_at place (Line EmptyPath)) (Where (IsCanonical text) (λ (name : List ℕ). Give name)))

  name_same : (place : Place) (path : Fragments) (s t : State) → SameState s t → Agree {X = List ℕ} {Y = List ℕ} (λ x y. x ≡ y) (NameOf place path s) (NameOf place path t)
  name_same place path s t same =
      subst (λ (text : List ℕ). Agree {X = List ℕ} {Y = List ℕ} (λ x y. x ≡ y) (NameOf place path s) (name_as place text)) (text_at_same s.past t.past same.past path)
      (unless_same (λ x y. x ≡ y) _ _ _ _ (unless_same (λ x y. x ≡ y) _ _ _ _
      (where_one (λ x y. x ≡ y) (IsCanonical (text_at s.past path)) _ _ (one_form (text_at s.past path)) (λ name. give_agree (λ x y. x ≡ y) name name refl))))

  open_same : (place : Place) (too_deep : Bool) (path : Fragments) (s t : State) → SameState s t → Agree {X = Found} {Y = Found} (λ x y. x ≡ y) (OpenOf place holds too_deep path s) (OpenOf place holds too_deep path t)
  open_same place too_deep path s t same =
      then_agree (λ x y. x ≡ y) (λ x y. x ≡ y) _ _ _ _ (name_same place path s t same)
      (λ name name' e. subst (λ (n : List ℕ). Agree {X = Found} {Y = Found} (λ x y. x ≡ y) (found name) (found n)) e (found_where name))
    where
      found : List ℕ → Reading Found
      found name = Where (holds name) (λ (content : Option (List ℕ)). FoundIn place too_deep name content)

      found_where : (name : List ℕ) → One (found name)
      found_where name = where_one (λ x y. x ≡ y) (holds name) _ _ (one_content name) (found_one place too_deep name)

  file_same : (place : Place) (too_deep : Bool) (inner : Inner) → InnerSame inner → (path : Fragments) (s t : State) → SameState s t
      → Agree SameState (OfFile place holds too_deep inner path s) (OfFile place holds too_deep inner path t)
  file_same place too_deep inner inner_same path s t same =
      then_agree (λ x y. x ≡ y) SameState _ _ _ _ (open_same place too_deep path s t same)
      (λ file other e. subst (λ (found : Found). Agree SameState (inner file.name file.bytes s) (inner found.name found.bytes t)) e (inner_same file.name file.bytes s t same))

  form_same : (too_deep : Bool) (inner : Inner) → InnerSame inner → (place : Place) (form : Form) (block : List BlockLine) (behind : Option FileFault) (s t : State) → SameState s t
      → Agree SameState (OfForm holds too_deep inner place form block behind s) (OfForm holds too_deep inner place form block behind t)
  form_same too_deep inner inner_same place (binding name value) block behind s t same = binding_same place name value s t same
  form_same too_deep inner inner_same place (block_binding name value) block behind s t same = give_agree SameState s t same
  form_same too_deep inner inner_same place (rule name) block behind s t same = rule_same place name block behind s t same
  form_same too_deep inner inner_same place (build form) block behind s t same = build_statement_same one_form place form block s t same
  form_same too_deep inner inner_same place (pool name) block behind s t same = pool_same place name block behind s t same
  form_same too_deep inner inner_same place (defaults paths) block behind s t same = default_same one_form place paths s t same
  form_same too_deep inner inner_same place (includes path) block behind s t same = file_same place too_deep inner inner_same path s t same
  form_same too_deep inner inner_same place (subninja path) block behind s t same = file_same place too_deep (InScope inner) (scope_same inner inner_same) path s t same

  groups_same : (too_deep : Bool) (inner : Inner) → InnerSame inner → (file : List ℕ) (fault : Option FileFault) (groups : List Group) (s t : State) → SameState s t
      → Agree SameState (OfGroups holds too_deep inner file fault groups s) (OfGroups holds too_deep inner file fault groups t)
  groups_same too_deep inner inner_same file fault [] s t same = cut_agree SameState fault _ _ (give_agree SameState s t same)
  groups_same too_deep inner inner_same file fault (group ∷ groups) s t same =
      then_agree SameState SameState _ _ _ _ (form_same too_deep inner inner_same (place_of file group) group.head.form group.block (if_last groups fault) s t same)
      (λ a b related. groups_same too_deep inner inner_same file fault groups a b related)

  one_text : (text : List ℕ) (a b : Lexed) → IsRead text a.said a.fault → IsRead text b.said b.fault → a ≡ b
  one_text text a b is is' =
      let same = one_reading text a.said b.said a.fault b.fault is is' in
      ap {B = Lexed} (λ (said : List Said). record { said = said; fault = a.fault }) same.0 ∙ ap {B = Lexed} (λ (fault : Option Fault). record { said = b.said; fault = fault }) same.1

  bytes_same : (too_deep : Bool) (inner : Inner) → InnerSame inner → InnerSame (OfBytes holds too_deep inner)
  bytes_same too_deep inner inner_same name bytes s t same =
      unless_same SameState _ _ _ _ (unless_same SameState _ _ _ _
      (where_one SameState (λ (lexed : Lexed). IsRead bytes lexed.said lexed.fault) _ _ (one_text bytes)
      (λ lexed. groups_same too_deep inner inner_same name (option_map (fault_in name) lexed.fault) (groups_of lexed.said) s t same)))

  reads_same : (levels : ℕ) → InnerSame (Reads holds levels)
  reads_same zero = bytes_same true None_deeper (λ name bytes s t same. give_agree SameState s t same)
  reads_same (suc levels) = bytes_same false (Reads holds levels) (reads_same levels)

module _ (one_form : (text a b : List ℕ) → IsCanonical text a → IsCanonical text b → a ≡ b)
    (one_reading : (text : List ℕ) (a b : List Said) (f g : Option Fault) → IsRead text a f → IsRead text b g → (a ≡ b) × (f ≡ g))
    (one_value : (opens : List ℕ → Option Template) (fixed : List ℕ → List ℕ) (name one other : List ℕ) → IsValueAtUse opens fixed name one → IsValueAtUse opens fixed name other → one ≡ other) where
  pub one_outcome : (files : List ℕ → Option (List ℕ)) (name : List ℕ) (one other : Outcome BuildGraph) → Declares (λ file content. content ≡ files file) name one → Declares (λ file content. content ≡ files file) name other → one ≡ other
  one_outcome files name one other declares declares' =
      same_outcome one other (where_one (λ x y. x ≡ y) (holds files one_form one_reading name) _ _ (one_content files one_form one_reading name) main_one one other declares.reading declares'.reading)
    where
      main_one : (content : Option (List ℕ)) → One (OfMain (λ file found. found ≡ files file) name content)
      main_one None = refuse_agree (λ x y. x ≡ y) _ _ refl
      main_one (Some bytes) =
          then_agree SameState (λ x y. x ≡ y) _ _ _ _ (reads_same files one_form one_reading deepest name bytes nothing nothing (record { past = tt; builds = tt; pools = refl; defaults = refl }))
          (at_end_same one_form one_value value_at_end_same named_same)
