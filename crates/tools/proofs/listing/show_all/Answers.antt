use Rattle.std.proofs.Common.{◌≡◌, ◌<◌, ◌≤◌, ◌+◌, ◌++◌, ◌∷◌, [], List, length, length-append, ap, arith, refl, string_bytes, subst, sym, ◌∙◌}
use Rattle.tools.specs.Answers.{lines}
use Rattle.tools.specs.Showing.{left_lines, to_show}
use Rattle.tools.specs.declared.listing.Level.{Level}
use Rattle.tools.proofs.Leveled.{all_shown, shown_first}
use Rattle.tools.proofs.listing.show_all.Goals as goal

pub levels-init : goal.levels-init
levels-init c = record {
  same = shown_first c.args.declared.now c.args.depth c.new-levels.result.items c.push.new.self.items c.level_of.result c.args.paths.now (string_bytes c.new-told.result) c.new-told.ensures.bytes c.new-levels.ensures.items c.in_ok-push.ensures.items c.level_of.ensures.paths c.level_of.ensures.place;
  fits = omega (arith, c.in_ok-push.ensures.len, c.new-levels.ensures.len, c.push.new.self.ok.0, c.requires);
}

pub show_next-requires : goal.show_next-requires
show_next-requires c =
    let items : c.levels.levels.items ≡ c.pop.new.self.items ++ c.in-Some.level ∷ [] = c.in-Some.ensures.items in
    let count : length c.levels.levels.items ≡ length c.pop.new.self.items + 1 = ap length items ∙ length-append c.pop.new.self.items (c.in-Some.level ∷ []) in
    omega (arith, count, c.levels.invariant.fits)

pub levels-preserved : goal.levels-preserved
levels-preserved c =
    let declared = c.args.declared.now in
    let depth = c.args.depth in
    let items : c.levels.levels.items ≡ c.pop.new.self.items ++ c.in-Some.level ∷ [] = c.in-Some.ensures.items in
    let shows = c.in_ok-show_next.ensures in
    record {
      same = shows.same ∙ (ap (λ (l : List Level). string_bytes c.levels.told ++ lines (left_lines declared depth l)) (sym items) ∙ c.levels.invariant.same);
      fits = shows.fits;
    }

pub levels-smaller : goal.levels-smaller
levels-smaller c =
    let declared = c.args.declared.now in
    let depth = c.args.depth in
    let items : c.levels.levels.items ≡ c.pop.new.self.items ++ c.in-Some.level ∷ [] = c.in-Some.ensures.items in
    subst (λ (l : List Level). to_show declared depth c.show_next.new.levels.items < to_show declared depth l) (sym items) c.in_ok-show_next.ensures.nearer

pub returns : goal.returns
returns c =
    let none : length c.levels.levels.items ≡ 0 = let empty = c.in_default.ensures.cases.0 in let ok = c.levels.levels.ok.0 in omega arith in
    all_shown c.args.declared.now c.args.depth c.levels.levels.items (string_bytes c.levels.told) _ none c.levels.invariant.same
