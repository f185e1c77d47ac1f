use Rattle.std.proofs.Common.{◌≡◌, ◌∙◌, ◌≤◌, ℕ, List, Some, false, rules, length, slice_get, sym, subst, ap}
use Rattle.graph.specs.Alias.{any_alias}
use Rattle.graph.specs.Links.{links_of}
use Rattle.graph.specs.ReadingOf.{IsReadingOf}
use Rattle.graph.proofs.ReadThrough.{first_met, next_met, all_met, reading_itself}
use Rattle.graph.proofs.Sets.{found_at, listed_has}
use Rattle.graph.proofs.graph.Graph.reading.Goals as goal

pub returns-then-not-reads_alias : goal.returns-then-not-reads_alias
returns-then-not-reads_alias c =
    let none : any_alias (links_of c.args.self.now) ((links_of c.args.self.now).regular c.args.edge) ≡ false = search rules in
    reading_itself c.args.self.now c.args.edge c.requires none

pub loop-next-init : goal.loop-next-init
loop-next-init c = first_met c.args.self.now c.args.edge c.new-edges.result.keys c.insert.new.self.keys c.requires c.new-edges.ensures.empty c.in_ok-insert.ensures.keys

pub add_aliases-requires : goal.add_aliases-requires
add_aliases-requires c =
    let at = found_at c.as_slice.result.now c.loop-next.place c.get.result c.in-Some.next c.get.ensures.lookup.0 c.get.ensures.lookup.1 c.in-Some.ensures in
    let here : slice_get c.loop-next.edges.keys c.loop-next.place ≡ Some c.in-Some.next = ap (λ (l : List ℕ). slice_get l c.loop-next.place) (sym c.as_slice.ensures.keys) ∙ at in
    c.loop-next.invariant.within c.in-Some.next (listed_has c.loop-next.edges.keys c.loop-next.place c.in-Some.next here)

pub loop-next-preserved : goal.loop-next-preserved
loop-next-preserved c =
    let at = found_at c.as_slice.result.now c.loop-next.place c.get.result c.in-Some.next c.get.ensures.lookup.0 c.get.ensures.lookup.1 c.in-Some.ensures in
    let here : slice_get c.loop-next.edges.keys c.loop-next.place ≡ Some c.in-Some.next = ap (λ (l : List ℕ). slice_get l c.loop-next.place) (sym c.as_slice.ensures.keys) ∙ at in
    next_met c.args.self.now c.args.edge c.loop-next.place c.in-Some.next c.loop-next.edges.keys c.add_aliases.new.edges.keys c.loop-next.invariant here c.in_ok-add_aliases.ensures

pub returns : goal.returns
returns c =
    let past : length c.as_slice.result.now ≤ c.loop-next.place = search rules in
    let items : c.in_ok-to_vec.field-0.items ≡ c.loop-next.edges.keys = c.in_ok-to_vec.ensures.items_if_clones_equal (λ x y h. h) ∙ c.as_slice-2.ensures.keys in
    subst (IsReadingOf c.args.self.now c.args.edge) (sym {A = List ℕ} items)
    (all_met c.args.self.now c.args.edge c.loop-next.place c.loop-next.edges.keys c.loop-next.invariant (subst (λ (l : List ℕ). length l ≤ c.loop-next.place) c.as_slice.ensures.keys past))
