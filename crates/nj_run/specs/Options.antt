-- What the words of a command line ask for (this project's own; the letters are those of Ninja).
use Rattle.std.specs.Prelude.{◌≡◌, ◌<◌, ◌^◌, ◌||◌, ℕ, Bool, true, false, pos, List, [], Option, Some, None, codes, unwrap_or}
use Rattle.std.specs.Str.Parse.{IsNumeral, digits_value, without_leading_plus}
use Rattle.clap.specs.Words.{App, Row, Rule, Text, all_of, first_of, matches_of, new_app, new_rule, one_of, with_rule}
use Rattle.clap.specs.Simple.{on_top}
use Rattle.clap.specs.Lexer.{usize_max}
use Rattle.clap.specs.declared.builder.action.ArgAction.TheVariants.{SetTrue}
use Rattle.clap.specs.declared.builder.value_parser.ValueParser.TheVariants as vp

-- ---- what the command takes, in the terms of clap

-- `-C DIR`
abbrev pub folder_rule : Rule
folder_rule = record (new_rule (codes "folder")) { short = Some 67; value_names = 1 }

-- `-f FILE`
abbrev pub file_rule : Rule
file_rule = record (new_rule (codes "file")) { short = Some 102; value_names = 1 }

-- an option with a number below 2 to the 32
abbrev pub number_rule : Text → ℕ → Rule
number_rule id short = record (new_rule id) { short = Some short; value_names = 1; parser = Some (vp.Signed (pos 0) (pos 4294967295)) }

-- `-j N`
abbrev pub jobs_rule : Rule
jobs_rule = number_rule (codes "jobs") 106

-- `-k N`
abbrev pub keep_rule : Rule
keep_rule = number_rule (codes "keep") 107

-- `-v`
abbrev pub verbose_rule : Rule
verbose_rule = record (new_rule (codes "verbose")) { short = Some 118; action = Some SetTrue }

-- `--why`
abbrev pub why_rule : Rule
why_rule = record (new_rule (codes "why")) { long = Some (codes "why"); action = Some SetTrue }

-- `--audit`
abbrev pub audit_rule : Rule
audit_rule = record (new_rule (codes "audit")) { long = Some (codes "audit"); action = Some SetTrue }

-- `--audit-all`
abbrev pub audit_all_rule : Rule
audit_all_rule = record (new_rule (codes "audit_all")) { long = Some (codes "audit-all"); action = Some SetTrue }

-- any number of targets
abbrev pub targets_rule : Rule
targets_rule = record (new_rule (codes "targets")) { value_names = 1; range = Some (record { start_inclusive = 0; end_inclusive = usize_max }) }

-- all words are the command's, and of an option that is given twice the last counts
abbrev pub bare : App
bare = on_top (λ shape. record shape { no_binary_name = true; args_override_self = true }) (new_app (codes "nj"))

abbrev pub nj : App
nj =
    with_rule (with_rule (with_rule (with_rule (with_rule (with_rule (with_rule (with_rule (with_rule bare folder_rule) file_rule) jobs_rule) keep_rule)
    verbose_rule) why_rule) audit_rule) audit_all_rule) targets_rule

-- ---- what it is asked for

pub record Options : Type 0 where
  pub folder : Option Text
  pub file : Text
  pub jobs : ℕ
  pub keep : ℕ
  pub verbose : Bool
  pub why : Bool
  pub audit : Bool
  pub audit_all : Bool
  pub targets : List Text

-- an audit is asked for: commands are traced
abbrev pub audits : Options → Bool
audits options = options.audit || options.audit_all

-- The text writes this number: a plus sign or none, then one decimal digit or more and nothing else, which come to the number; zeros
-- may stand in front. So `8`, `08` and `+8` all write eight.
pub record Writes (text : Text) (number : ℕ) : Type 0 where
  pub digits : IsNumeral 10 (without_leading_plus text)
  pub value : number ≡ digits_value 10 (without_leading_plus text)

-- The number that is given, else the default. (A text that clap takes for these options writes a number below 2 to the 32, once clap
-- has dropped the minus of a `-0`.)
abbrev pub IsNumber : Option Text → ℕ → ℕ → Type 0
IsNumber None default number = number ≡ default
IsNumber (Some text) default number = (given : ℕ) → given < 2 ^ 32 → Writes text given → number ≡ given

-- whether the flag is given
abbrev pub IsFlag : Option Text → Bool → Type 0
IsFlag None flag = flag ≡ false
IsFlag (Some text) flag = (text ≡ codes "true" → flag ≡ true) × (text ≡ codes "false" → flag ≡ false)

-- these options are those that the rows of the words give, else the defaults
pub record AreGiven (rows : List Row) (options : Options) : Type 0 where
  pub folder : options.folder ≡ first_of (codes "folder") rows
  pub file : options.file ≡ unwrap_or (first_of (codes "file") rows) (codes "build.ninja")
  pub jobs : IsNumber (one_of (codes "jobs") rows) 4 options.jobs
  pub keep : IsNumber (one_of (codes "keep") rows) 1 options.keep
  pub verbose : IsFlag (one_of (codes "verbose") rows) options.verbose
  pub why : IsFlag (one_of (codes "why") rows) options.why
  pub audit : IsFlag (one_of (codes "audit") rows) options.audit
  pub audit_all : IsFlag (one_of (codes "audit_all") rows) options.audit_all
  pub targets : options.targets ≡ unwrap_or (all_of (codes "targets") rows) []

-- these options are what the words ask for
pub record AreAsked (words : List Text) (options : Options) : Type 0 where
  pub given : AreGiven (matches_of nj words) options
