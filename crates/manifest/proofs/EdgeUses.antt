-- What a use of a rule says is what the build statement says.
use Rattle.std.proofs.Common.{◌≡◌, inl, inr, ◌≤◌, ℕ, Bool, true, false, List, [], ◌∷◌, map, length, Option, None, Some, Result, Ok, Err, refl, sym, ◌∙◌, ap, arith}
use Rattle.std.specs.Prelude.{codes, bytes_eq, if◌then◌else◌, unwrap_or}
use Rattle.lexer.specs.Quote.{quoted}
use Rattle.lexer.specs.declared.fault.FaultKind.TheVariants.{TooLarge as LineTooLarge}
use Rattle.scopes.specs.declared.fault.UseFault.{UseFault}
use Rattle.scopes.specs.declared.fault.UseFault.TheVariants.{Memory as UseMemory, Circle as UseCircle, TooLarge as UseTooLarge}
use Rattle.scopes.specs.declared.template.Rule.{Rule}
use Rattle.scopes.specs.declared.template.Template.{Template}
use Rattle.scopes.specs.declared.usage.Use.{Use}
use Rattle.scopes.specs.declared.usage.Paths.{Paths}
use Rattle.scopes.specs.Block.{block_value}
use Rattle.scopes.specs.Large.{IsTooLargeAtUse}
use Rattle.scopes.specs.Moves.{Move, or_else, value_at_end}
use Rattle.scopes.specs.Rule.{template_of}
use Rattle.scopes.specs.Texts.{joined, largest_value}
use Rattle.scopes.specs.Use.{is_special, is_unquoted, unless_bound, paths_for, special_value, opened, fixed, IsValueAtUse, Fixed, Opened, Names, Leads, Once, More, IsOnTheWay, HasCircle}
use Rattle.manifest.specs.declared.fault.FaultKind.TheVariants.{Line, Circle}
use Rattle.manifest.specs.declared.fault.ReadError.{ReadError}
use Rattle.manifest.specs.declared.values.Values.{Values}
use Rattle.manifest.specs.Answer.{IsAnswerOf}
use Rattle.manifest.specs.Edges.{ExpandedValues}
use Rattle.std.specs.Map.Iter.{deref}
use Rattle.manifest.specs.Held.{IsUseRefused, IsBuildOf, ShowsPaths, ShowsQuoted}
use Rattle.manifest.specs.declared.kept.ReadEdge.{ReadEdge}
use Rattle.scopes.specs.declared.block.Block.{Block}
use Rattle.manifest.specs.Readings.Outcome.{Reached}
use Rattle.manifest.specs.Readings.Unless.{in_order}
use Rattle.manifest.specs.Readings.Where.{with_value}
use Rattle.manifest.specs.States.{Build}
use Rattle.manifest.specs.Expansion.{bound}
use Rattle.manifest.specs.Uses.{opened_in, shown, special_in, fixed_in, LeadsIntoCircle, HasLargeValue, IsValueOf, AreValuesOf}
use Rattle.manifest.specs.Values.{IsValueAt, AreValuesAt, AreSmall, HasLargeValueAt}
use Rattle.manifest.proofs.Binds.{unless_at, unless_fault}
use Rattle.manifest.proofs.EdgeCircles.{each_variable, no_circles}

-- ---- the same names stand for the same

module _ (opens same : List ℕ → Option Template) (is : (name : List ℕ) → opens name ≡ same name) where
  value_carries : (stands other : List ℕ → List ℕ) → ((name : List ℕ) → stands name ≡ other name)
      → (name value : List ℕ) → IsValueAtUse opens stands name value → IsValueAtUse same other name value
  value_carries stands other equal name value (Fixed n v none known) = Fixed n v (sym (is n) ∙ none) (known ∙ equal n)
  value_carries stands other equal name value (Opened n v template values some each known) =
      Opened n v template values (sym (is n) ∙ some) (λ inner named. value_carries stands other equal inner (values inner) (each inner named)) known

  names_carry : (name other : List ℕ) → Names opens name other → Names same name other
  names_carry name other named = record { template = named.template; opens_to = sym (is name) ∙ named.opens_to; named = named.named }

  leads_carry : (name other : List ℕ) → Leads opens name other → Leads same name other
  leads_carry name other (Once n o named) = Once n o (names_carry n o named)
  leads_carry name other (More n next o named leads) = More n next o (names_carry n next named) (leads_carry next o leads)

  way_carries : (name other : List ℕ) → IsOnTheWay opens name other → IsOnTheWay same name other
  way_carries name other (inl here) = inl here
  way_carries name other (inr leads) = inr (leads_carry name other leads)

  circle_carries : (name : List ℕ) → HasCircle opens name → HasCircle same name
  circle_carries name circle = record { at = circle.at; on_the_way = way_carries name circle.at circle.on_the_way; circle = leads_carry circle.at circle.at circle.circle }

  pub into_circle_carries : LeadsIntoCircle opens → LeadsIntoCircle same
  into_circle_carries into = record { name = into.name; expanded = into.expanded; circle = circle_carries into.name into.circle }

-- ---- a use for a build statement

pub record IsUseFor (at : Use) (build : Build) (rule : Rule) : Type 0 where
  pub block : (name : List ℕ) → block_value at.block.now name ≡ bound build.block name
  pub of_rule : at.rule.now ≡ rule
  pub scope : at.scope ≡ build.scope
  pub plain_inputs : map deref at.plain.inputs.now ≡ build.paths.explicit_inputs
  pub plain_outputs : map deref at.plain.outputs.now ≡ build.paths.explicit_outputs
  pub quoted_inputs : map deref at.quoted.inputs.now ≡ map quoted build.paths.explicit_inputs
  pub quoted_outputs : map deref at.quoted.outputs.now ≡ map quoted build.paths.explicit_outputs

module _ (at : Use) (build : Build) (rule : Rule) (for : IsUseFor at build rule) where
  pub opens_same : (name : List ℕ) → opened at name ≡ opened_in build rule name
  opens_same name =
      ap (λ (o : Option (List ℕ)). if is_special name then None else unless_bound o (template_of at.rule.now name)) (for.block name)
      ∙ ap (λ (r : Rule). if is_special name then None else unless_bound (bound build.block name) (template_of r name)) for.of_rule

  inputs_shown : (b : Bool) → map deref (if b then at.plain else at.quoted).inputs.now ≡ (if b then build.paths.explicit_inputs else map quoted build.paths.explicit_inputs)
  inputs_shown true = for.plain_inputs
  inputs_shown false = for.quoted_inputs

  outputs_shown : (b : Bool) → map deref (if b then at.plain else at.quoted).outputs.now ≡ (if b then build.paths.explicit_outputs else map quoted build.paths.explicit_outputs)
  outputs_shown true = for.plain_outputs
  outputs_shown false = for.quoted_outputs

  -- what a special name stands for, by the inputs and outputs that it shows
  abbrev special_of : List ℕ → List (List ℕ) → List (List ℕ) → Option (List ℕ)
  special_of name inputs outputs =
      if bytes_eq name (codes "in") then Some (joined (32 ∷ []) inputs)
      else (if bytes_eq name (codes "out") then Some (joined (32 ∷ []) outputs)
      else (if bytes_eq name (codes "in_newline") then Some (joined (10 ∷ []) inputs) else None))

  special_same : (asked name : List ℕ) → special_value (paths_for at asked) name ≡ special_in build asked name
  special_same asked name =
      ap (λ (i : List (List ℕ)). special_of name i (map deref (paths_for at asked).outputs.now)) (inputs_shown (is_unquoted asked))
      ∙ ap (λ (o : List (List ℕ)). special_of name (shown asked build.paths.explicit_inputs) o) (outputs_shown (is_unquoted asked))

  pub stands_same : (past : List Move) (asked name : List ℕ) → fixed at asked past name ≡ fixed_in build past asked name
  stands_same past asked name =
      ap (λ (s : Option (List ℕ)). unwrap_or s (unwrap_or (or_else (block_value at.block.now name) (value_at_end past at.scope name)) [])) (special_same asked name)
      ∙ (ap (λ (o : Option (List ℕ)). unwrap_or (special_in build asked name) (unwrap_or (or_else o (value_at_end past at.scope name)) [])) (for.block name)
      ∙ ap (λ (n : ℕ). unwrap_or (special_in build asked name) (unwrap_or (or_else (bound build.block name) (value_at_end past n name)) [])) for.scope)

  value_of : (past : List Move) (name value : List ℕ) → IsValueAt at past name value → IsValueOf build rule past name value
  value_of past name value is = value_carries (opened at) (opened_in build rule) opens_same (fixed at name past) (fixed_in build past name) (stands_same past name) name value is

  pub values_of : (past : List Move) (values : Values) → AreValuesAt at past values → AreValuesOf build rule past values
  values_of past values are = record {
    command = value_of past _ _ are.command;
    depfile = value_of past _ _ are.depfile;
    deps = value_of past _ _ are.deps;
    dyndep = value_of past _ _ are.dyndep;
    description = value_of past _ _ are.description;
    pool = value_of past _ _ are.pool;
    restat = value_of past _ _ are.restat;
    rspfile = value_of past _ _ are.rspfile;
    rspfile_content = value_of past _ _ are.rspfile_content;
  }

  pub large_of : (past : List Move) → HasLargeValueAt at past → HasLargeValue build rule past
  large_of past has = record {
    name = has.name;
    expanded = has.expanded;
    large = record { value = has.large.value; is_value = value_of past has.name has.large.value has.large.is_value; large = has.large.large };
  }

  pub circle_of : LeadsIntoCircle (opened at) → LeadsIntoCircle (opened_in build rule)
  circle_of = into_circle_carries (opened at) (opened_in build rule) opens_same

  pub circle_at : LeadsIntoCircle (opened_in build rule) → LeadsIntoCircle (opened at)
  circle_at = into_circle_carries (opened_in build rule) (opened at) (λ name. sym (opens_same name))

-- ---- the answer

-- a name has one value at most, and none where texts of the rule name each other in a circle on the way: the laws of scopes
abbrev pub OneValue : Type 0
OneValue = (opens : List ℕ → Option Template) (fixed : List ℕ → List ℕ) (name one other : List ℕ) → IsValueAtUse opens fixed name one → IsValueAtUse opens fixed name other → one ≡ other

abbrev pub NoCircle : Type 0
NoCircle = (opens : List ℕ → Option Template) (fixed : List ℕ → List ℕ) (name value : List ℕ) → IsValueAtUse opens fixed name value → HasCircle opens name → ⊥

module _ (past : List Move) (build : Build) (rule : Rule) where
  small : OneValue → (name value : List ℕ) → IsValueOf build rule past name value → length value ≤ largest_value
      → IsTooLargeAtUse (opened_in build rule) (fixed_in build past name) name → ⊥
  small one_value name value is low has =
      let same : length value ≡ length has.value = ap length (one_value (opened_in build rule) (fixed_in build past name) name value has.value is has.is_value) in
      omega (arith, same, low, has.large)

  abbrev IsSmallAt : List ℕ → Type 0
  IsSmallAt name = IsTooLargeAtUse (opened_in build rule) (fixed_in build past name) name → ⊥

  none_large : OneValue → (values : Values) → AreValuesOf build rule past values → AreSmall values → HasLargeValue build rule past → ⊥
  none_large one_value values are low has =
      each_variable IsSmallAt
      (small one_value _ _ are.command low.command) (small one_value _ _ are.depfile low.depfile) (small one_value _ _ are.deps low.deps) (small one_value _ _ are.dyndep low.dyndep)
      (small one_value _ _ are.description low.description) (small one_value _ _ are.pool low.pool) (small one_value _ _ are.restat low.restat)
      (small one_value _ _ are.rspfile low.rspfile) (small one_value _ _ are.rspfile_content low.rspfile_content) has.name has.expanded has.large

  none_circular : NoCircle → (values : Values) → AreValuesOf build rule past values → LeadsIntoCircle (opened_in build rule) → ⊥
  none_circular no_circle values are =
      no_circles (opened_in build rule)
      (no_circle _ _ _ _ are.command) (no_circle _ _ _ _ are.depfile) (no_circle _ _ _ _ are.deps)
      (no_circle _ _ _ _ are.dyndep) (no_circle _ _ _ _ are.description) (no_circle _ _ _ _ are.pool)
      (no_circle _ _ _ _ are.restat) (no_circle _ _ _ _ are.rspfile) (no_circle _ _ _ _ are.rspfile_content)

  expanded : OneValue → NoCircle → (values : Values) → AreValuesOf build rule past values → AreSmall values → ExpandedValues past build rule (Reached values)
  expanded one_value no_circle values are low = in_order (none_circular no_circle values are) (in_order (none_large one_value values are low) (with_value are refl))

  not_expanded : (fault : UseFault) (r : Result Values ReadError) → (fault ≡ UseCircle → LeadsIntoCircle (opened_in build rule))
      → (fault ≡ UseTooLarge → LeadsIntoCircle (opened_in build rule) → ⊥) → (fault ≡ UseTooLarge → HasLargeValue build rule past)
      → IsUseRefused build fault r → IsAnswerOf (ExpandedValues past build rule) r
  not_expanded fault (Ok values) circle no_circle large told = absurd told
  not_expanded UseMemory (Err error) circle no_circle large told = rw told tt
  not_expanded UseCircle (Err error) circle no_circle large told = unless_at _ _ build.place (Circle build.rule_name) error (circle refl) told
  not_expanded UseTooLarge (Err error) circle no_circle large told =
      unless_fault _ _ _ error (no_circle refl) (unless_at _ _ build.place (Line LineTooLarge) error (large refl) told)

-- ---- the use that the code makes

pub use_for : (at : Use) (edge : ReadEdge) (build : Build) (rule : Rule) → IsBuildOf edge build → at.block.now ≡ edge.block → at.rule.now ≡ rule → at.scope ≡ edge.scope
    → ShowsPaths at.plain build → ShowsQuoted at.quoted build → IsUseFor at build rule
use_for at edge build rule is block of_rule scope plain words = record {
  block = λ name. ap (λ (b : Block). block_value b name) block ∙ is.block name;
  of_rule = of_rule;
  scope = scope ∙ is.scope;
  plain_inputs = plain.inputs;
  plain_outputs = plain.outputs;
  quoted_inputs = words.inputs;
  quoted_outputs = words.outputs;
}

module _ (past : List Move) (build : Build) (rule : Rule) where
  pub expanded_use : OneValue → NoCircle → (at : Use) (values : Values) → AreValuesAt at past values → AreSmall values → IsUseFor at build rule → ExpandedValues past build rule (Reached values)
  expanded_use one_value no_circle at values are low for = expanded past build rule one_value no_circle values (values_of at build rule for past values are) low

  pub not_expanded_use : (at : Use) (fault : UseFault) (r : Result Values ReadError) → (fault ≡ UseCircle → LeadsIntoCircle (opened at))
      → (fault ≡ UseTooLarge → LeadsIntoCircle (opened at) → ⊥) → (fault ≡ UseTooLarge → HasLargeValueAt at past)
      → IsUseFor at build rule → IsUseRefused build fault r → IsAnswerOf (ExpandedValues past build rule) r
  not_expanded_use at fault r circle no_circle large for told =
      not_expanded past build rule fault r (λ e. circle_of at build rule for (circle e)) (λ e into. no_circle e (circle_at at build rule for into))
      (λ e. large_of at build rule for past (large e)) told

-- ---- the words of paths

pub bare_words : (plain : Paths) (build : Build) → map quoted (map deref plain.inputs.now) ≡ map deref plain.inputs.now → map quoted (map deref plain.outputs.now) ≡ map deref plain.outputs.now
    → ShowsPaths plain build → ShowsQuoted plain build
bare_words plain build inputs outputs shows = record {
  inputs = sym inputs ∙ ap (map quoted) shows.inputs;
  outputs = sym outputs ∙ ap (map quoted) shows.outputs;
}

pub quoted_words : (plain words : Paths) (build : Build) → map deref words.inputs.now ≡ map quoted (map deref plain.inputs.now) → map deref words.outputs.now ≡ map quoted (map deref plain.outputs.now)
    → ShowsPaths plain build → ShowsQuoted words build
quoted_words plain words build inputs outputs shows = record {
  inputs = inputs ∙ ap (map quoted) shows.inputs;
  outputs = outputs ∙ ap (map quoted) shows.outputs;
}
