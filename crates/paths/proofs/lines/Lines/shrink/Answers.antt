use Rattle.std.proofs.Common.{◌≡◌, ◌∙◌, ◌++◌, ℕ, List, length, map, take, drop, ap, subst, sym, arith}
use Rattle.std.proofs.Math.ListN.{set}
use Rattle.std.proofs.Math.Seq.{take-append_seam}
use Rattle.paths.specs.declared.line.Line.{Line}
use Rattle.paths.specs.declared.lines.Row.{Row}
use Rattle.paths.specs.Lists.{line_of, IsRowIn, AreLaidOut}
use Rattle.paths.specs.Shrunk.{with_shrunk, IsShrunkRow}
use Rattle.paths.proofs.Flat.{row_found}
use Rattle.paths.proofs.Shrinking.{shrunk_rows, shrunk_lines}
use Rattle.paths.proofs.lines.Lines.shrink.Goals as goal

-- a list that was written over one of its length stands whole
whole_list : (len : ℕ) (old new : List ℕ) → len ≡ length old → length new ≡ length old → take len (new ++ drop (length new) old) ≡ new
whole_list len old new full size = ap (λ (n : ℕ). take n (new ++ drop (length new) old)) (full ∙ sym size) ∙ take-append_seam new (drop (length new) old)

pub shrink_row-shrunk-requires : goal.shrink_row-shrunk-requires
shrink_row-shrunk-requires c =
    let numbers = c.self.inside.numbers.items in
    let found = row_found numbers c.self.inside.rows.items c.args.self.now c.args.edge c.index-place.result c.index-row.result.now c.self.view_is c.self.invariant.lie c.index-place.ensures.place c.requires c.index-row.ensures in
    subst (λ (l : List ℕ). IsRowIn (length l) c.index-row.result.now) (sym {A = List ℕ} c.deref_mut.ensures.value) found.lies

pub invariant_of-self : goal.invariant_of-self
invariant_of-self c =
    let numbers = c.self.inside.numbers in
    let rows = c.self.inside.rows.items in
    let new = c.shrink_row-shrunk.new.numbers in
    let row = c.index-row.result.now in
    let after = c.shrink_row-shrunk.result in
    let shrunk : IsShrunkRow numbers.items new row c.args.outputs c.args.inputs after = subst (λ (l : List ℕ). IsShrunkRow l new row c.args.outputs c.args.inputs after) c.deref_mut.ensures.value c.shrink_row-shrunk.ensures in
    let whole = whole_list numbers.len numbers.items new numbers.ok.0 shrunk.fits in
    subst (λ (l : List ℕ). AreLaidOut (length l) (set rows c.index-place.result after)) (sym {A = List ℕ} whole)
    (shrunk_rows numbers.items new rows c.args.self.now c.args.edge c.index-place.result c.args.outputs c.args.inputs row after c.self.view_is c.self.invariant c.index-place.ensures.place c.requires c.index-row.ensures shrunk)

pub returns : goal.returns
returns c =
    let numbers = c.self.inside.numbers in
    let rows = c.self.inside.rows.items in
    let new = c.shrink_row-shrunk.new.numbers in
    let row = c.index-row.result.now in
    let after = c.shrink_row-shrunk.result in
    let shrunk : IsShrunkRow numbers.items new row c.args.outputs c.args.inputs after = subst (λ (l : List ℕ). IsShrunkRow l new row c.args.outputs c.args.inputs after) c.deref_mut.ensures.value c.shrink_row-shrunk.ensures in
    let whole = whole_list numbers.len numbers.items new numbers.ok.0 shrunk.fits in
    ap (λ (l : List ℕ). map (line_of l) (set rows c.index-place.result after)) whole
    ∙ shrunk_lines numbers.items new rows c.args.self.now c.args.edge c.index-place.result c.args.outputs c.args.inputs row after c.self.view_is c.self.invariant c.index-place.ensures.place c.requires c.index-row.ensures shrunk
