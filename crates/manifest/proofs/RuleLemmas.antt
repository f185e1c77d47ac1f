-- The blocks of rules, line by line.
use Rattle.std.proofs.Common.{◌≡◌, ℕ, Bool, true, false, cond, List, [], ◌∷◌, ◌++◌, map, Option, Some, refl, sym, ap, subst, ◌∙◌, ◌+◌, ◌<◌, length, take, drop, get_or}
use Rattle.std.proofs.lemmas.List.{map-append, take_more, take-append-drop}
use Rattle.std.proofs.lemmas.Grind.{flat_map-append}
use mathlib.Core.Bool.{beq}
use Rattle.std.specs.Prelude.{bytes_eq, codes, is_some, not}
use Rattle.std.specs.List.{AllZip}
use Rattle.lexer.specs.declared.statement.Piece.{Piece}
use Rattle.lexer.specs.declared.statement.Piece.TheVariants.{Text as PieceText, Name as PieceName}
use Rattle.lexer.specs.declared.statement.Line.{Line}
use Rattle.lexer.specs.Said.{fragment_of, said_of}
use Rattle.scopes.specs.declared.template.Part.{Part}
use Rattle.scopes.specs.declared.template.Part.TheVariants.{Text, Name}
use Rattle.scopes.specs.declared.template.Template.{Template}
use Rattle.scopes.specs.declared.template.Rule.{Rule}
use Rattle.scopes.specs.Rule.{template_of}
use Rattle.scopes.specs.Texts.{IsPartOf}
use Rattle.manifest.specs.declared.fault.FaultKind.TheVariants.{UnexpectedVariable, NoCommand, UnpairedResponse}
use Rattle.manifest.specs.declared.fault.FileFault.{FileFault}
use Rattle.manifest.specs.declared.fault.ReadError.{ReadError}
use Rattle.manifest.specs.Answer.{IsFaultOf}
use Rattle.manifest.specs.Blocks.{BlockLine, RuleText, RuleBlock, RuleLine, IsRuleOf, is_rule_variable, parts_of, part_of, block_lines}
use Rattle.manifest.specs.declared.fault.FaultKind.{FaultKind}
use Rattle.manifest.specs.declared.place.Place.{Place as KeptPlace}
use Rattle.manifest.specs.Places.{place_of, IsFaultAt}
use Rattle.manifest.specs.Readings.{Outcome, Each, Place}
use Rattle.manifest.specs.Readings.Outcome.{Reached, Broken}
use Rattle.manifest.specs.Declarations.{RuleOf, has_text}
use Rattle.manifest.specs.Readings.Then.{goes_on}
use Rattle.manifest.specs.Readings.Where.{with_value}
use Rattle.manifest.specs.Readings.Unless.{in_order}
use Rattle.manifest.proofs.Binds.{Stops, then_fault, then_next_fault, cut_ok, cut_fault, cut_next_fault, unless_fault, fault_in_wider, each_append, each_fault_append, each_one, each_one_fault, unless_at}

-- ---- a line that may be one of a block

module _ {S : Type 0} (One : BlockLine → S → Outcome S → Type 0) where
  pub no_line : (lines : List BlockLine) (before : S) → lines ≡ [] → Each One (lines ++ []) before (Reached before)
  no_line lines before none = subst (λ (those : List BlockLine). Each One (those ++ []) before (Reached before)) (sym none) refl

  pub one_line : (lines : List BlockLine) (line : BlockLine) (before : S) (outcome : Outcome S) → lines ≡ line ∷ []
      → One line before outcome → Each One (lines ++ []) before outcome
  one_line lines line before outcome are is =
      subst (λ (those : List BlockLine). Each One (those ++ []) before outcome) (sym are) (each_one One line before outcome is)

  pub one_line_fault : (lines : List BlockLine) (line : BlockLine) (before : S) (error : ReadError) → lines ≡ line ∷ []
      → IsFaultOf (One line before) error → IsFaultOf (Each One (lines ++ []) before) error
  one_line_fault lines line before error are is =
      subst (λ (those : List BlockLine). IsFaultOf (Each One (those ++ []) before) error) (sym are) (each_one_fault One line before error is)

-- ---- the lines of a block

lines_append : (xs ys : List Line) → block_lines (map said_of (xs ++ ys)) ≡ block_lines (map said_of xs) ++ block_lines (map said_of ys)
lines_append xs ys = ap block_lines (map-append said_of xs ys) ∙ flat_map-append _ (map said_of xs) (map said_of ys)

module _ {S : Type 0} (One : BlockLine → S → Outcome S → Type 0) (lines : List Line) (i : ℕ) (line : Line) (inside : i < length lines) (item : line ≡ get_or lines i line) where
  taken : take (i + 1) lines ≡ take i lines ++ line ∷ []
  taken = take_more lines i line inside ∙ ap (λ (l : Line). take i lines ++ l ∷ []) (sym item)

  -- one line more is read
  pub lines_step : (before between : S) (outcome : Outcome S) → Each One (block_lines (map said_of (take i lines))) before (Reached between)
      → Each One (block_lines (said_of line ∷ [])) between outcome → Each One (block_lines (map said_of (take (i + 1) lines))) before outcome
  lines_step before between outcome first next =
      let whole : Each One (block_lines (map said_of (take i lines)) ++ block_lines (said_of line ∷ [])) before outcome
      = each_append One (block_lines (map said_of (take i lines))) (block_lines (said_of line ∷ [])) before between outcome first next in
      let same : block_lines (map said_of (take (i + 1) lines)) ≡ block_lines (map said_of (take i lines)) ++ block_lines (said_of line ∷ [])
      = ap (λ (l : List Line). block_lines (map said_of l)) taken ∙ lines_append (take i lines) (line ∷ []) in
      subst (λ (l : List BlockLine). Each One l before outcome) (sym same) whole

  -- a line has a fault: it is the block's
  pub lines_fault : (before between : S) (error : ReadError) → Each One (block_lines (map said_of (take i lines))) before (Reached between)
      → IsFaultOf (Each One (block_lines (said_of line ∷ [])) between) error → IsFaultOf (Each One (block_lines (map said_of lines)) before) error
  lines_fault before between error first next =
      let front : IsFaultOf (Each One (block_lines (map said_of (take (i + 1) lines))) before) error
      = fault_in_wider (Each One (block_lines (said_of line ∷ [])) between) (Each One (block_lines (map said_of (take (i + 1) lines))) before) error (λ fault. lines_step before between (Broken fault) first) next in
      let whole : IsFaultOf (Each One (block_lines (map said_of (take (i + 1) lines)) ++ block_lines (map said_of (drop (i + 1) lines))) before) error
      = each_fault_append One (block_lines (map said_of (take (i + 1) lines))) (block_lines (map said_of (drop (i + 1) lines))) before error front in
      let same : block_lines (map said_of lines) ≡ block_lines (map said_of (take (i + 1) lines)) ++ block_lines (map said_of (drop (i + 1) lines))
      = ap (λ (l : List Line). block_lines (map said_of l)) (sym (take-append-drop (i + 1) lines)) ∙ lines_append (take (i + 1) lines) (drop (i + 1) lines) in
      subst (λ (l : List BlockLine). IsFaultOf (Each One l before) error) (sym same) whole

-- a refusal at another line of the file
pub fault_there : (place there : KeptPlace) (line : ℕ) (told kind : FaultKind) (error : ReadError) → there.file.now ≡ place.file.now → there.line ≡ line → told ≡ kind
    → IsFaultAt (place_of there) told error → IsFaultAt (record { file = place.file.now.value; line = line }) kind error
fault_there place there line told kind error same_file same_line same is = rw (← same_file, ← same_line, ← same) is

-- ---- a line of a rule

part_same : (piece : Piece) (part : Part) → IsPartOf piece part → part_of (fragment_of piece) ≡ part
part_same (PieceText characters) (Text text) is = ap Text (sym is)
part_same (PieceName name) (Name kept) is = ap Name (sym is)
part_same (PieceText characters) (Name kept) is = absurd is
part_same (PieceName name) (Text text) is = absurd is

parts_same : (pieces : List Piece) (parts : List Part) → AllZip IsPartOf pieces parts → parts_of (map fragment_of pieces) ≡ parts
parts_same [] [] all = refl
parts_same [] (part ∷ parts) all = absurd all
parts_same (piece ∷ pieces) [] all = absurd all
parts_same (piece ∷ pieces) (part ∷ parts) all =
    let first : part_of (fragment_of piece) ≡ part = part_same piece part all.0 in
    let rest : parts_of (map fragment_of pieces) ≡ parts = parts_same pieces parts all.1 in
    cc

-- the template is bound
pub rule_bound : (file : List ℕ) (number : ℕ) (name : List ℕ) (pieces : List Piece) (lines : List BlockLine) (template : Template) (old new : Rule)
    → lines ≡ record { line = number; name = name; value = map fragment_of pieces } ∷ []
    → AllZip IsPartOf pieces template.parts → is_rule_variable name ≡ true
    → ((other : List ℕ) → template_of new other ≡ cond (bytes_eq name other) (Some template) (template_of old other))
    → (before : List RuleText) → IsRuleOf before old
    → (after : List RuleText) × IsRuleOf after new × Each (RuleLine file) (lines ++ []) before (Reached after)
rule_bound file number name pieces lines template old new are parts fits bound before is =
    let text : RuleText = record { name = name; value = map fragment_of pieces } in
    let same : parts_of (map fragment_of pieces) ≡ template.parts = parts_same pieces template.parts parts in
    let kept : IsRuleOf (text ∷ before) new = λ (other : List ℕ). bound other
    ∙ (ap (λ (first : List Part). cond (bytes_eq name other) (Some (record { parts = first })) (template_of old other)) (sym same)
    ∙ ap (λ (rest : Option Template). cond (bytes_eq name other) (Some (record { parts = parts_of (map fragment_of pieces) })) rest) (is other)) in
    (text ∷ before, kept, one_line (RuleLine file) lines _ before (Reached (text ∷ before)) are (in_order (λ bad. apart (is_rule_variable name) fits bad) refl))
  where
    apart : (b : Bool) → b ≡ true → b ≡ false → ⊥
    apart b one other = cc

-- the name is refused
pub rule_unexpected : (place there : KeptPlace) (number : ℕ) (name : List ℕ) (pieces : List Piece) (lines : List BlockLine) (told : List ℕ) (error : ReadError)
    → lines ≡ record { line = number; name = name; value = map fragment_of pieces } ∷ []
    → is_rule_variable name ≡ false → there.file.now ≡ place.file.now → there.line ≡ number → told ≡ name
    → IsFaultAt (place_of there) (UnexpectedVariable told) error
    → (before : List RuleText) → IsFaultOf (Each (RuleLine place.file.now.value) (lines ++ []) before) error
rule_unexpected place there number name pieces lines told error are bad same_file same_line same_name is before =
    let at : IsFaultAt (record { file = place.file.now.value; line = number }) (UnexpectedVariable name) error = fault_there place there number (UnexpectedVariable told) (UnexpectedVariable name) error same_file same_line (ap UnexpectedVariable same_name) is in
    one_line_fault (RuleLine place.file.now.value) lines _ before error are (unless_at _ _ (record { file = place.file.now.value; line = number }) (UnexpectedVariable name) error bad at)

-- ---- the whole rule

pub beq_same : (a b : Bool) → not (beq a b) ≡ false → a ≡ b
beq_same true true is = refl
beq_same true false is = cc
beq_same false true is = cc
beq_same false false is = refl

pub beq_differ : (a b : Bool) → not (beq a b) ≡ true → a ≡ b → ⊥
beq_differ true true is same = cc
beq_differ true false is same = cc
beq_differ false true is same = cc
beq_differ false false is same = cc

module _ (place : Place) (name : List ℕ) (block : List BlockLine) (behind : Option FileFault) where
  pub rule_faulty : (error : ReadError) → IsFaultOf (RuleBlock place.file block []) error → IsFaultOf (RuleOf place name block behind) error
  rule_faulty error is = then_fault _ _ error is

  module _ (texts : List RuleText) (read : RuleBlock place.file block [] (Reached texts)) where
    pub rule_stopped : (error : ReadError) → IsFaultOf (Stops behind) error → IsFaultOf (RuleOf place name block behind) error
    rule_stopped error is = then_next_fault (RuleBlock place.file block []) _ texts error read (cut_fault _ behind error is)

    module _ (rule : Rule) (kept : IsRuleOf texts rule) (passed : Stops behind (Reached tt)) where
      has : (variable : List ℕ) → is_some (template_of rule variable) ≡ has_text texts variable
      has variable = ap (λ (found : Option Template). is_some found) (kept variable)

      differ : (b : Bool) → b ≡ true → b ≡ false → ⊥
      differ b one other = cc

      pub rule_no_command : (error : ReadError) → is_some (template_of rule (codes "command")) ≡ false → IsFaultAt place (NoCommand name) error
          → IsFaultOf (RuleOf place name block behind) error
      rule_no_command error none is =
          then_next_fault (RuleBlock place.file block []) _ texts error read (cut_next_fault _ behind error passed
          (unless_at _ _ place (NoCommand name) error (sym (has (codes "command")) ∙ none) is))

      module _ (some : is_some (template_of rule (codes "command")) ≡ true) where
        is_not : (a b : Bool) → (a ≡ b → ⊥) → a ≡ not b
        is_not true true other = absurd (other refl)
        is_not true false other = refl
        is_not false true other = refl
        is_not false false other = absurd (other refl)

        not_itself : (b : Bool) → b ≡ not b → ⊥
        not_itself true same = cc
        not_itself false same = cc

        commanded : has_text texts (codes "command") ≡ false → ⊥
        commanded none = differ (has_text texts (codes "command")) (sym (has (codes "command")) ∙ some) none

        pub rule_unpaired : (error : ReadError)
            → (is_some (template_of rule (codes "rspfile")) ≡ is_some (template_of rule (codes "rspfile_content")) → ⊥) → IsFaultAt place (UnpairedResponse name) error
            → IsFaultOf (RuleOf place name block behind) error
        rule_unpaired error apart is =
            let unpaired : has_text texts (codes "rspfile") ≡ not (has_text texts (codes "rspfile_content"))
            = is_not _ _ (λ same. apart (has (codes "rspfile") ∙ (same ∙ sym (has (codes "rspfile_content"))))) in
            then_next_fault (RuleBlock place.file block []) _ texts error read (cut_next_fault _ behind error passed
            (unless_fault _ _ _ error commanded (unless_at _ _ place (UnpairedResponse name) error unpaired is)))

        pub rule_whole : is_some (template_of rule (codes "rspfile")) ≡ is_some (template_of rule (codes "rspfile_content"))
            → RuleOf place name block behind (Reached rule)
        rule_whole paired =
            let together : has_text texts (codes "rspfile") ≡ has_text texts (codes "rspfile_content")
            = sym (has (codes "rspfile")) ∙ (paired ∙ has (codes "rspfile_content")) in
            goes_on read (cut_ok _ behind (Reached rule) passed
            (in_order commanded (in_order (λ unpaired. not_itself _ (sym together ∙ unpaired)) (with_value kept refl))))
