use Rattle.std.proofs.Common.{◌≡◌, ◌∷◌, [], ℕ, List, length, arith, refl, string_bytes, subst}
use Rattle.graph.specs.Links.{links_of}
use Rattle.tools.specs.Answers.{Puts}
use Rattle.tools.specs.Showing.{Opens, head_line}
use Rattle.tools.specs.declared.listing.Level.{Level}
use Rattle.tools.proofs.Leveled.{level_past, shows_none, shows_one}
use Rattle.tools.proofs.Putting.{on_ok}
use Rattle.tools.proofs.listing.show_next.Goals as goal

pub returns-in_default : goal.returns-in_default
returns-in_default c =
    let old = c.args.levels.now.items in
    shows_none c.args.declared.now c.args.depth c.args.level c.args.level old old c.requires (string_bytes c.args.told.now) (level_past c.args.level.paths.now c.args.level.place c.in_default.ensures) refl

pub returns : goal.returns
returns c =
    let declared = c.args.declared.now in
    let depth = c.args.depth in
    let path = c.in-Some.path in
    let old = c.args.levels.now.items in
    let new = c.open_above.new.levels.items in
    let told = string_bytes c.args.told.now in
    let more = string_bytes c.push_path.new.told in
    let count : c.len.result ≡ length old = omega (arith, c.len.ensures, c.args.levels.now.ok.0) in
    let goes = c.in-Some.ensures in
    on_ok c.open_above.result
    (λ opens. shows_one declared depth c.args.level c.behind.result old new c.requires path told more goes.within goes.is c.behind.ensures.paths (c.behind.ensures.place goes.within)
    (subst (λ (l : List Level). Opens declared depth path l new) c.in_ok-push.ensures.items opens)
    (subst (λ (n : ℕ). Puts told more (head_line declared n path ((links_of declared.graph).maker path) ∷ [])) count c.in_ok-push_path.ensures))
    c.open_above.ensures
