-- What is told of numbers, also past the last.
use Rattle.std.proofs.Common.{◌≡◌, ℕ, zero, suc, ◌≤◌, true, Bool, List, [], ◌∷◌, Option, Some, None, length, get_or, slice_get, refl, sym, ap, ◌∙◌}
use Rattle.std.specs.Option.{option_map, unwrap_or}
use Rattle.std.specs.Map.Iter.{deref}
use Rattle.std.proofs.lemmas.List.{get_or_past}
use denote.Ref.{Bor}
use Rattle.paths.specs.Commands.{no_action}
use Rattle.paths.specs.Lists.{line_at, line_inputs, line_outputs, line_regular_inputs, no_line}
use Rattle.paths.specs.declared.line.Line.{Line}
use Rattle.paths.specs.declared.manifest.Action.{Action}
use Rattle.graph.specs.Held.{list_at}
use Rattle.graph.specs.Links.{is_alias}

got : (texts : List (List ℕ)) (n : ℕ) → get_or texts n [] ≡ unwrap_or (slice_get texts n) []
got [] n = refl
got (x ∷ texts) zero = refl
got (x ∷ texts) (suc n) = got texts n

told : (o : Option (Bor (List ℕ))) (other : Bor (List ℕ)) → other.now ≡ [] → (unwrap_or o other).now ≡ unwrap_or (option_map deref o) []
told None other none = none
told (Some text) other none = refl

-- what is told of a number, and nothing where it has no text
pub text_or : (o : Option (Bor (List ℕ))) (other text : Bor (List ℕ)) (texts : List (List ℕ)) (n : ℕ) → option_map deref o ≡ slice_get texts n → other.now ≡ [] → text ≡ unwrap_or o other → text.now ≡ get_or texts n []
text_or o other text texts n at none is =
    ap (λ (b : Bor (List ℕ)). b.now) is ∙ (told o other none ∙ (ap (λ (m : Option (List ℕ)). unwrap_or m []) at ∙ sym (got texts n)))

pub no_users : (users : List (List ℕ)) (p : ℕ) → length users ≤ p → [] ≡ list_at users p
no_users users p past = sym (get_or_past users p [] past)

module _ (lines : List Line) (e : ℕ) (past : length lines ≤ e) where
  pub no_outputs : [] ≡ line_outputs (line_at lines e)
  no_outputs = sym (ap line_outputs (get_or_past lines e no_line past))

  pub no_inputs : [] ≡ line_inputs (line_at lines e)
  no_inputs = sym (ap line_inputs (get_or_past lines e no_line past))

  pub no_regular : [] ≡ line_regular_inputs (line_at lines e)
  no_regular = sym (ap line_regular_inputs (get_or_past lines e no_line past))

pub no_command : (actions : List Action) (e : ℕ) → length actions ≤ e → true ≡ is_alias (get_or actions e no_action)
no_command actions e past = sym (ap is_alias (get_or_past actions e no_action past))
