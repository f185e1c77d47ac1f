-- What is kept of blocks and rules.
use Rattle.std.specs.Prelude.{◌≡◌, ℕ, true, false, List, [], ◌∷◌, Option, None, Some, Result, Ok, Err, if◌then◌else◌, bytes_eq}
use Rattle.std.specs.Option.{option_map}
use Rattle.lexer.specs.declared.fault.FaultKind.TheVariants.{TooLarge}
use Rattle.lexer.specs.Said.{Said}
use Rattle.scopes.specs.declared.block.Block.{Block}
use Rattle.scopes.specs.declared.template.Rule.{Rule}
use Rattle.scopes.specs.Block.{block_value}
use Rattle.scopes.specs.Moves.{Move}
use Rattle.manifest.specs.declared.builds.BlockRead.{BlockRead}
use Rattle.manifest.specs.declared.fault.FaultKind.TheVariants.{Line}
use Rattle.manifest.specs.declared.fault.ReadError.{ReadError}
use Rattle.std.specs.declared.rc.Rc.{Rc}
use Rattle.std.specs.declared.alloc.Global.{Global}
use Rattle.manifest.specs.Answer.{IsFaultOf}
use Rattle.manifest.specs.Readings.{Outcome, fault_at}
use Rattle.manifest.specs.Readings.Outcome.{Reached}
use Rattle.manifest.specs.Expansion.{Bound, bound, text_at, is_large}
use Rattle.manifest.specs.Blocks.{BlockLine, BuildBlock, block_line}

abbrev pub IsBlockOf : Block → List Bound → Type 0
IsBlockOf block bindings = (name : List ℕ) → block_value block name ≡ bound bindings name

pub record IsBlockRead (read : BlockRead) (file : List ℕ) (block : BuildBlock) : Type 0 where
  pub bound : IsBlockOf read.block block.bound
  pub fault : block.fault ≡ option_map (λ line. fault_at (record { file = file; line = line }) (Line TooLarge)) read.stop

-- a line that was read: its value is bound, or too large
abbrev pub IsBoundOrLarge : List Move → List BlockLine → Block → Block → Option ℕ → Type 0
IsBoundOrLarge past [] old new stop = (stop ≡ None) × (new ≡ old)
IsBoundOrLarge past (line ∷ lines) old new None =
    (is_large (text_at past line.value) ≡ false)
    × ((other : List ℕ) → block_value new other ≡ (if bytes_eq line.name other then Some (text_at past line.value) else block_value old other))
IsBoundOrLarge past (line ∷ lines) old new (Some number) = (is_large (text_at past line.value) ≡ true) × (number ≡ line.line) × (new ≡ old)

abbrev pub IsLineRead : List Move → Said → Block → Block → Option ℕ → Type 0
IsLineRead past said old new stop = IsBoundOrLarge past (block_line said.number said.form) old new stop

-- the rule that was found, or why none was, is that of the reading
abbrev pub FindsRule : (Outcome (Option Rule) → Type 0) → Result (Option (Rc Rule Global)) ReadError → Type 0
FindsRule reading (Ok kept) = reading (Reached (option_map (λ rule. rule.value) kept))
FindsRule reading (Err error) = IsFaultOf reading error
