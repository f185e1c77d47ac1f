use Rattle.std.proofs.Common.{rules, ◌≡◌, string_bytes}
use Rattle.std.specs.List.{flat_map}
use Rattle.lexer.specs.Quote.{within_quotes}
use Rattle.lexer.proofs.Quoting.{replaced}
use Rattle.lexer.proofs.shell.in_quotes.Goals as goal

pub returns : goal.returns
returns c =
    let found = c.in_ok-within.ensures.ok in
    let within : string_bytes c.in_ok-within.within ≡ flat_map within_quotes c.args.path.now = replaced found.0 _ _ found.1 in
    rw (← within) (search rules)
