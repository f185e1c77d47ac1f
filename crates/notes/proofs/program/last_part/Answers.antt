use Rattle.std.proofs.Common.{ℕ, List, sym, subst}
use Rattle.std.specs.Str.Iter.{HasSubslice}
use Rattle.std.specs.Str.Pattern.{FindsCharPrefix}
use Rattle.text.specs.Marks.{Lacks}
use Rattle.notes.proofs.Names.{back_part, no_slash, part_of_part, trimmed_part}
use Rattle.notes.proofs.program.last_part.Goals as goal

pub returns-in-Some-clause-stands : goal.returns-in-Some-clause-stands
returns-in-Some-clause-stands c =
    let bare = c.trim_matches-bare.result.now in
    let cut = c.in-Some.ensures.cases in
    part_of_part c.args.word.now bare c.in-Some.name.now
    (part_of_part c.args.word.now c.trim_matches.result.now bare (trimmed_part (FindsCharPrefix 39) _ _ _ c.trim_matches.ensures.matches.1 c.trim_matches.ensures.matches.2) (trimmed_part (FindsCharPrefix 34) _ _ _ c.trim_matches-bare.ensures.matches.1 c.trim_matches-bare.ensures.matches.2))
    (subst (λ (l : List ℕ). HasSubslice bare l) (sym cut.4) (back_part bare cut.1))

pub returns-in-Some-clause-last : goal.returns-in-Some-clause-last
returns-in-Some-clause-last c =
    let cut = c.in-Some.ensures.cases in
    subst (λ (l : List ℕ). Lacks 47 l) (sym cut.4) (no_slash _ cut.2.0)

pub returns-in-None-clause-stands : goal.returns-in-None-clause-stands
returns-in-None-clause-stands c =
    part_of_part c.args.word.now c.trim_matches.result.now c.trim_matches-bare.result.now (trimmed_part (FindsCharPrefix 39) _ _ _ c.trim_matches.ensures.matches.1 c.trim_matches.ensures.matches.2) (trimmed_part (FindsCharPrefix 34) _ _ _ c.trim_matches-bare.ensures.matches.1 c.trim_matches-bare.ensures.matches.2)

pub returns-in-None-clause-last : goal.returns-in-None-clause-last
returns-in-None-clause-last c = no_slash _ c.in-None.ensures.cases
