use Rattle.std.proofs.Common.{◌≡◌, ◌∙◌, ℕ, List, sym, subst, refl, rules}
use Rattle.lexer.specs.declared.cursor.Cursor.{Cursor}
use Rattle.lexer.specs.declared.forms.Keyword.{Keyword}
use Rattle.lexer.specs.declared.forms.Keyword.TheVariants as keyword
use Rattle.lexer.specs.declared.stop.Stop.{Stop}
use Rattle.lexer.specs.Grammar.{Outcome, Give}
use Rattle.lexer.specs.Grammar.Then.{goes_on}
use Rattle.lexer.specs.Places.{Breaks}
use Rattle.lexer.specs.Said.{Form, fragments_of, paths_of, build_of}
use Rattle.lexer.specs.Said.Form.{binding, rule, build, pool, defaults, includes, subninja}
use Rattle.lexer.specs.Statements.{Bound, NameAlone, PathAlone, DefaultPaths, BuildPaths, keyword_of, BehindWord}
use Rattle.lexer.proofs.Reading.{breaks_first}
use Rattle.lexer.proofs.forms.behind_word.Goals as goal

-- the word is known
reads_as : (known : Keyword) (word bytes : List ℕ) (outcome : Outcome Form) → keyword_of word ≡ known → BehindWord known word bytes outcome → BehindWord (keyword_of word) word bytes outcome
reads_as known word bytes outcome e reads = subst (λ (k : Keyword). BehindWord k word bytes outcome) (sym e) reads

breaks_as : (known : Keyword) (word : List ℕ) (at : Cursor) (stop : Stop) → keyword_of word ≡ known → Breaks (BehindWord known word) at stop → Breaks (BehindWord (keyword_of word) word) at stop
breaks_as known word at stop e breaks = subst (λ (k : Keyword). Breaks (BehindWord k word) at stop) (sym e) breaks

pub returns-in_ok-name-in-Rule-clause-reads : goal.returns-in_ok-name-in-Rule-clause-reads
returns-in_ok-name-in-Rule-clause-reads c = reads_as keyword.Rule c.args.word.now _ _ (sym c.keyword_of.ensures ∙ c.in-Rule.is) (goes_on {value = c.in_ok-name-in-Rule.name.now} c.in_ok-name-in-Rule.ensures.reads refl)

pub returns-in_err-name-in-Rule-clause-fault : goal.returns-in_err-name-in-Rule-clause-fault
returns-in_err-name-in-Rule-clause-fault c =
    let stops = breaks_as keyword.Rule c.args.word.now c.args.cursor _ (sym c.keyword_of.ensures ∙ c.in-Rule.is) (breaks_first NameAlone (λ named. Give (rule named)) c.args.cursor _ c.in_err-name-in-Rule.ensures.fault) in
    search (rules, stops)

pub returns-in_ok-build-in-Build-clause-reads : goal.returns-in_ok-build-in-Build-clause-reads
returns-in_ok-build-in-Build-clause-reads c = reads_as keyword.Build c.args.word.now _ _ (sym c.keyword_of.ensures ∙ c.in-Build.is) (goes_on {value = build_of c.in_ok-build-in-Build.build} c.in_ok-build-in-Build.ensures.reads refl)

pub returns-in_err-build-in-Build-clause-fault : goal.returns-in_err-build-in-Build-clause-fault
returns-in_err-build-in-Build-clause-fault c =
    let stops = breaks_as keyword.Build c.args.word.now c.args.cursor _ (sym c.keyword_of.ensures ∙ c.in-Build.is) (breaks_first BuildPaths (λ line. Give (build line)) c.args.cursor _ c.in_err-build-in-Build.ensures.fault) in
    search (rules, stops)

pub returns-in_ok-name-in-Pool-clause-reads : goal.returns-in_ok-name-in-Pool-clause-reads
returns-in_ok-name-in-Pool-clause-reads c = reads_as keyword.Pool c.args.word.now _ _ (sym c.keyword_of.ensures ∙ c.in-Pool.is) (goes_on {value = c.in_ok-name-in-Pool.name.now} c.in_ok-name-in-Pool.ensures.reads refl)

pub returns-in_err-name-in-Pool-clause-fault : goal.returns-in_err-name-in-Pool-clause-fault
returns-in_err-name-in-Pool-clause-fault c =
    let stops = breaks_as keyword.Pool c.args.word.now c.args.cursor _ (sym c.keyword_of.ensures ∙ c.in-Pool.is) (breaks_first NameAlone (λ named. Give (pool named)) c.args.cursor _ c.in_err-name-in-Pool.ensures.fault) in
    search (rules, stops)

pub returns-in_ok-paths-in-Default-clause-reads : goal.returns-in_ok-paths-in-Default-clause-reads
returns-in_ok-paths-in-Default-clause-reads c = reads_as keyword.Default c.args.word.now _ _ (sym c.keyword_of.ensures ∙ c.in-Default.is) (goes_on {value = paths_of c.in_ok-paths-in-Default.paths} c.in_ok-paths-in-Default.ensures.reads refl)

pub returns-in_err-paths-in-Default-clause-fault : goal.returns-in_err-paths-in-Default-clause-fault
returns-in_err-paths-in-Default-clause-fault c =
    let stops = breaks_as keyword.Default c.args.word.now c.args.cursor _ (sym c.keyword_of.ensures ∙ c.in-Default.is) (breaks_first DefaultPaths (λ paths. Give (defaults paths)) c.args.cursor _ c.in_err-paths-in-Default.ensures.fault) in
    search (rules, stops)

pub returns-in_ok-path-in-Include-clause-reads : goal.returns-in_ok-path-in-Include-clause-reads
returns-in_ok-path-in-Include-clause-reads c = reads_as keyword.Include c.args.word.now _ _ (sym c.keyword_of.ensures ∙ c.in-Include.is) (goes_on {value = fragments_of c.in_ok-path-in-Include.path} c.in_ok-path-in-Include.ensures.reads refl)

pub returns-in_err-path-in-Include-clause-fault : goal.returns-in_err-path-in-Include-clause-fault
returns-in_err-path-in-Include-clause-fault c =
    let stops = breaks_as keyword.Include c.args.word.now c.args.cursor _ (sym c.keyword_of.ensures ∙ c.in-Include.is) (breaks_first PathAlone (λ path. Give (includes path)) c.args.cursor _ c.in_err-path-in-Include.ensures.fault) in
    search (rules, stops)

pub returns-in_ok-path-in-Subninja-clause-reads : goal.returns-in_ok-path-in-Subninja-clause-reads
returns-in_ok-path-in-Subninja-clause-reads c = reads_as keyword.Subninja c.args.word.now _ _ (sym c.keyword_of.ensures ∙ c.in-Subninja.is) (goes_on {value = fragments_of c.in_ok-path-in-Subninja.path} c.in_ok-path-in-Subninja.ensures.reads refl)

pub returns-in_err-path-in-Subninja-clause-fault : goal.returns-in_err-path-in-Subninja-clause-fault
returns-in_err-path-in-Subninja-clause-fault c =
    let stops = breaks_as keyword.Subninja c.args.word.now c.args.cursor _ (sym c.keyword_of.ensures ∙ c.in-Subninja.is) (breaks_first PathAlone (λ path. Give (subninja path)) c.args.cursor _ c.in_err-path-in-Subninja.ensures.fault) in
    search (rules, stops)

pub returns-in_ok-value-in-Other-clause-reads : goal.returns-in_ok-value-in-Other-clause-reads
returns-in_ok-value-in-Other-clause-reads c = reads_as keyword.Other c.args.word.now _ _ (sym c.keyword_of.ensures ∙ c.in-Other.is) (goes_on {value = fragments_of c.in_ok-value-in-Other.value} c.in_ok-value-in-Other.ensures.reads refl)

pub returns-in_err-value-in-Other-clause-fault : goal.returns-in_err-value-in-Other-clause-fault
returns-in_err-value-in-Other-clause-fault c =
    let stops = breaks_as keyword.Other c.args.word.now c.args.cursor _ (sym c.keyword_of.ensures ∙ c.in-Other.is) (breaks_first Bound (λ value. Give (binding c.args.word.now value)) c.args.cursor _ c.in_err-value-in-Other.ensures.fault) in
    search (rules, stops)
