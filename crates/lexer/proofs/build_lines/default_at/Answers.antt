use Rattle.std.proofs.Common.{◌≢◌, [], refl, rules}
use Rattle.lexer.specs.Grammar.{Is, Give, Then}
use Rattle.lexer.specs.Grammar.Then.{goes_on}
use Rattle.lexer.specs.Said.{paths_of}
use Rattle.lexer.specs.Statements.{some_of}
use Rattle.lexer.specs.Tokens.{line_end, word_end}
use Rattle.lexer.specs.Values.{Paths}
use Rattle.lexer.proofs.Marks.{behind_default, behind_default_paths, some_of_paths, none_of_paths, never}
use Rattle.lexer.proofs.Places.{behind_none}
use Rattle.lexer.proofs.Reading.{breaks_first, breaks_next, breaks_unexpected}
use Rattle.lexer.proofs.build_lines.default_at.Goals as goal

pub returns-clause-reads : goal.returns-clause-reads
returns-clause-reads c =
    let some : c.in_ok-paths.paths ≢ [] = never _ c.is_empty.ensures.1 c.if-is_empty.false in
    goes_on {value = tt} c.in_ok-end_word.ensures.reads (goes_on {value = paths_of c.in_ok-paths.paths} c.in_ok-paths.ensures.reads (goes_on {value = tt} (some_of_paths c.in_ok-paths.paths _ some) (goes_on {value = tt} c.in_ok-next.ensures.reads refl)))

pub returns-in_err-end_word-clause-fault : goal.returns-in_err-end_word-clause-fault
returns-in_err-end_word-clause-fault c =
    let stops = breaks_first (Is word_end) behind_default c.args.cursor _ c.in_err-end_word.ensures.fault in
    search (rules, stops)

pub returns-in_err-paths-clause-fault : goal.returns-in_err-paths-clause-fault
returns-in_err-paths-clause-fault c =
    let inner = breaks_first Paths behind_default_paths c.args.cursor _ c.in_err-paths.ensures.fault in
    let stops = breaks_next (Is word_end) behind_default tt c.args.cursor c.args.cursor _ c.in_ok-end_word.ensures.reads (behind_none c.args.cursor) inner in
    search (rules, stops)

pub returns-then-is_empty-clause-fault : goal.returns-then-is_empty-clause-fault
returns-then-is_empty-clause-fault c =
    let ps = paths_of c.in_ok-paths.paths in
    let none = none_of_paths c.in_ok-paths.paths c.in_ok-paths.end.rest.now (c.is_empty.ensures.0 c.if-is_empty.true) in
    let one = breaks_unexpected (some_of ps) c.in_ok-paths.end c.unexpected.result c.unexpected.ensures none in
    let inner = breaks_first (Is (some_of ps)) (λ _. Then (Is line_end) (λ _. Give ps)) c.in_ok-paths.end c.unexpected.result one in
    let behind_paths = breaks_next Paths behind_default_paths ps c.args.cursor c.in_ok-paths.end c.unexpected.result c.in_ok-paths.ensures.reads c.in_ok-paths.ensures.behind inner in
    breaks_next (Is word_end) behind_default tt c.args.cursor c.args.cursor c.unexpected.result c.in_ok-end_word.ensures.reads (behind_none c.args.cursor) behind_paths

pub returns-in_err-next-clause-fault : goal.returns-in_err-next-clause-fault
returns-in_err-next-clause-fault c =
    let ps = paths_of c.in_ok-paths.paths in
    let end = c.in_ok-paths.end in
    let some : c.in_ok-paths.paths ≢ [] = never _ c.is_empty.ensures.1 c.if-is_empty.false in
    let ended = breaks_first (Is line_end) (λ _. Give ps) end _ c.in_err-next.ensures.fault in
    let inner = breaks_next (Is (some_of ps)) (λ _. Then (Is line_end) (λ _. Give ps)) tt end end _ (some_of_paths c.in_ok-paths.paths end.rest.now some) (behind_none end) ended in
    let behind_paths = breaks_next Paths behind_default_paths ps c.args.cursor end _ c.in_ok-paths.ensures.reads c.in_ok-paths.ensures.behind inner in
    let stops = breaks_next (Is word_end) behind_default tt c.args.cursor c.args.cursor _ c.in_ok-end_word.ensures.reads (behind_none c.args.cursor) behind_paths in
    search (rules, stops)
