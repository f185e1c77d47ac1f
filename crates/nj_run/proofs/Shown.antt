-- Which errors of clap are shown on the standard output.
use Rattle.std.proofs.Common.{◌≡◌, ◌≢◌, Bool, true, false, inl, inr, refl, sym, ap, ◌∙◌}
use Rattle.std.proofs.lemmas.Bool.{false≢true}
use Rattle.clap.specs.declared.error.kind.ErrorKind.{ErrorKind}
use Rattle.clap.specs.declared.error.kind.ErrorKind.TheVariants.{InvalidValue, UnknownArgument, InvalidSubcommand, NoEquals, ValueValidation, TooManyValues, TooFewValues, WrongNumberOfValues, ArgumentConflict, MissingRequiredArgument, MissingSubcommand, DisplayHelp, DisplayHelpOnMissingArgumentOrSubcommand, DisplayVersion, Io, Format, OutOfMemory}
use Rattle.nj_run.specs.Ends.{IsShown}

abbrev is_shown : ErrorKind → Bool
is_shown DisplayHelp = true
is_shown DisplayVersion = true
is_shown _ = false

other : (kind : ErrorKind) → is_shown kind ≡ false → (kind ≢ DisplayHelp) × (kind ≢ DisplayVersion)
other kind no_help = (λ e. false≢true (sym no_help ∙ ap is_shown e), λ e. false≢true (sym no_help ∙ ap is_shown e))

-- an error that goes to the standard output is help, or the version
pub shown : (kind : ErrorKind) → ((kind ≢ DisplayHelp) × (kind ≢ DisplayVersion) → ⊥) → IsShown kind
shown DisplayHelp is = inl refl
shown DisplayVersion is = inr refl
shown InvalidValue is = absurd (is (other InvalidValue refl))
shown UnknownArgument is = absurd (is (other UnknownArgument refl))
shown InvalidSubcommand is = absurd (is (other InvalidSubcommand refl))
shown NoEquals is = absurd (is (other NoEquals refl))
shown ValueValidation is = absurd (is (other ValueValidation refl))
shown TooManyValues is = absurd (is (other TooManyValues refl))
shown TooFewValues is = absurd (is (other TooFewValues refl))
shown WrongNumberOfValues is = absurd (is (other WrongNumberOfValues refl))
shown ArgumentConflict is = absurd (is (other ArgumentConflict refl))
shown MissingRequiredArgument is = absurd (is (other MissingRequiredArgument refl))
shown MissingSubcommand is = absurd (is (other MissingSubcommand refl))
shown DisplayHelpOnMissingArgumentOrSubcommand is = absurd (is (other DisplayHelpOnMissingArgumentOrSubcommand refl))
shown Io is = absurd (is (other Io refl))
shown Format is = absurd (is (other Format refl))
shown OutOfMemory is = absurd (is (other OutOfMemory refl))
