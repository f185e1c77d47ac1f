use Rattle.std.proofs.Common.{◌∙◌, ap, refl}
use Rattle.host.specs.Traced.{traced_variables, traced_words}
use Rattle.host.proofs.tracing.Tracing.hand_over.Goals as goal

-- the words and the variables are both by whether the locale is set
pub returns-in_ok-variables_traced-in-Some : goal.returns-in_ok-variables_traced-in-Some
returns-in_ok-variables_traced-in-Some c =
    rw c.in-Some.is (record {
      program = c.as_bytes.ensures.value;
      words = c.in_ok-words_traced-in-Some.ensures.words ∙ ap (λ is_set. traced_words is_set c.args.job c.args.command.now) c.sets_locale-is_set.ensures;
      whole = c.in_ok-words_traced-in-Some.ensures.whole;
      environment = c.in_ok-variables_traced-in-Some.ensures ∙ ap (λ is_set. traced_variables is_set c.args.environment.now) c.sets_locale-is_set.ensures;
      folder = refl;
      streams = refl;
    })
