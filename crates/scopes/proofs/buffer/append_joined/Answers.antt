use Rattle.std.proofs.Common.{rules, string_bytes, ◌≡◌, Err}
use Rattle.scopes.specs.declared.fault.ExpandFault.TheVariants.{TooLarge}
use Rattle.scopes.proofs.Growth.{large_texts, whole_texts}
use Rattle.scopes.proofs.buffer.append_joined.Goals as goal

pub returns-in_err-append_next-clause-large : goal.returns-in_err-append_next-clause-large
returns-in_err-append_next-clause-large c = λ same.
    let failed : c.append_next.result ≡ Err TooLarge = search rules in
    large_texts (string_bytes c.args.text.now) (string_bytes c.append.new.text) (string_bytes c.loop-path.text) c.args.separator.now _ c.args.paths.now c.loop-path.path-index _ c.in-len1-up.len_at_least c.loop-path-test.true
    c.in_ok-append.ensures.value c.loop-path.invariant.0 (c.append_next.ensures.large failed)

pub returns-clause-value : goal.returns-clause-value
returns-clause-value c =
    whole_texts (string_bytes c.args.text.now) (string_bytes c.append.new.text) (string_bytes c.loop-path.text) c.args.separator.now _ c.args.paths.now c.loop-path.path-index c.in-len1-up.len_at_least c.loop-path-test.false
    c.in_ok-append.ensures.value c.loop-path.invariant.0
