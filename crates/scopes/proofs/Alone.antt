-- The value of a name that stands for no paths: one that is bound, one that is not, and a text of the rule that names no other.
use Rattle.std.proofs.Common.{◌≡◌, ◌<◌, ℕ, Bool, false, cond, List, [], length, Option, None, Some, unwrap_or, refl, sym, ◌∙◌, ap, subst}
use Rattle.scopes.specs.declared.template.Template.{Template}
use Rattle.scopes.specs.declared.usage.Use.{Use}
use Rattle.scopes.specs.declared.all_scopes.Scopes.{Scopes}
use Rattle.scopes.specs.declared.at_use.Known.{Known}
use Rattle.scopes.specs.Block.{block_value}
use Rattle.scopes.specs.Rule.{template_of}
use Rattle.scopes.specs.Texts.{largest_value}
use Rattle.scopes.specs.Moves.{Move, or_else, value_at_end}
use Rattle.scopes.specs.Scopes.{IsScopesOf}
use Rattle.scopes.specs.Use.{opened, fixed, is_special, paths_for, unless_bound, IsValueAtUse, Fixed}
use Rattle.scopes.specs.Known.{text_of}
use Rattle.scopes.specs.Large.{IsTooLargeAtUse}
use Rattle.scopes.specs.Steps.{AllDone}
use Rattle.scopes.proofs.Special.{no_value}
use Rattle.scopes.proofs.Walking.{all_done}
use Rattle.scopes.proofs.Knowing.{Knows, knows_text}

module _ (at : Use) (asked : List ℕ) (plain : is_special asked ≡ false) where
  pub opened_is : (bound : Option (List ℕ)) (template : Option Template) → block_value at.block.now asked ≡ bound → template_of at.rule.now asked ≡ template
      → opened at asked ≡ unless_bound bound template
  opened_is bound template is_bound is_template =
      ap (λ (b : Bool). cond b None (unless_bound (block_value at.block.now asked) (template_of at.rule.now asked))) plain
      ∙ (ap (λ (o : Option (List ℕ)). unless_bound o (template_of at.rule.now asked)) is_bound ∙ ap (unless_bound bound) is_template)

  module _ (past : List Move) where
    abbrev HasValue : List ℕ → Type 0
    HasValue = IsValueAtUse (opened at) (fixed at asked past) asked

    abbrev HasLarge : Type 0
    HasLarge = IsTooLargeAtUse (opened at) (fixed at asked past) asked

    fixed_is : (bound : Option (List ℕ)) → block_value at.block.now asked ≡ bound → fixed at asked past asked ≡ unwrap_or (or_else bound (value_at_end past at.scope asked)) []
    fixed_is bound is_bound =
        ap (λ (s : Option (List ℕ)). unwrap_or s (unwrap_or (or_else (block_value at.block.now asked) (value_at_end past at.scope asked)) [])) (no_value (paths_for at asked) asked plain)
        ∙ ap (λ (o : Option (List ℕ)). unwrap_or (or_else o (value_at_end past at.scope asked)) []) is_bound

    -- the block binds it
    pub bound_is : (value : List ℕ) → block_value at.block.now asked ≡ Some value → (text : List ℕ) → text ≡ value → HasValue text
    bound_is value bound text same = Fixed asked text (opened_is (Some value) (template_of at.rule.now asked) bound refl) (same ∙ sym (fixed_is (Some value) bound))

    pub bound_large : (value : List ℕ) → block_value at.block.now asked ≡ Some value → largest_value < length value → HasLarge
    bound_large value bound large = record { value = value; is_value = bound_is value bound value refl; large = large }

    -- neither the block nor the rule binds it
    pub unbound_is : block_value at.block.now asked ≡ None → template_of at.rule.now asked ≡ None → (text : List ℕ) → text ≡ unwrap_or (value_at_end past at.scope asked) [] → HasValue text
    unbound_is bound named text same = Fixed asked text (opened_is None None bound named) (same ∙ sym (fixed_is None bound))

    pub unbound_large : block_value at.block.now asked ≡ None → template_of at.rule.now asked ≡ None → (text : List ℕ) → text ≡ unwrap_or (value_at_end past at.scope asked) []
        → largest_value < length text → HasLarge
    unbound_large bound named text same large = record { value = text; is_value = unbound_is bound named text same; large = large }

-- its text names no text of the rule
module _ (scopes : Scopes) (at : Use) (asked : List ℕ) (known : Known) (knows : Knows scopes at asked known []) (past : List Move) (is : IsScopesOf scopes past) where
  pub alone_is : (template : Template) → opened at asked ≡ Some template → AllDone (opened at) [] template.parts → (text : List ℕ) → text ≡ text_of known past template
      → IsValueAtUse (opened at) (fixed at asked past) asked text
  alone_is template some done text same = subst (IsValueAtUse (opened at) (fixed at asked past) asked) (sym same)
      (knows_text scopes at asked known [] knows past is asked (record { template = template; opens_to = some; named = all_done (opened at) [] template.parts done }))
