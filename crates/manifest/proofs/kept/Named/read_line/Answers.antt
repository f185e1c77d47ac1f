use Rattle.std.proofs.Common.{◌<◌, arith, ◌∙◌, inl, inr, refl, ap, ◌≡◌, length}
use Rattle.std.specs.declared.alloc.Global.{Global}
use Rattle.std.specs.declared.rc.Rc.{Rc}
use Rattle.std.proofs.lemmas.Result.{err_from_is_err_and}
use Rattle.text.specs.declared.text.Text.{Text}
use Rattle.lexer.specs.Said.{build_of}
use Rattle.manifest.specs.BuildParts.{made_of, rule_in, block_in}
use Rattle.manifest.specs.Declarations.{most_edges}
use Rattle.manifest.specs.InNumbers.{paths_at}
use Rattle.manifest.specs.Places.{place_of}
use Rattle.manifest.specs.States.{named}
use Rattle.manifest.proofs.BuildReads.{paths_fault, parts_from, much_fault, much_above, much_below, block_fault, build_read, count_of, none_kept, names_more, lines_count, lines_formed}
use Rattle.manifest.proofs.PathForms.{paths_formed}
use Rattle.manifest.proofs.kept.Named.read_line.Goals as goal
use Rattle.manifest.proofs.kept.Named.read_line.Goals.{then-len-ge-MOST_EDGES-via-then-len-ge-MOST_EDGES, then-len-ge-MOST_EDGES-via-else-len-ge-MOST_EDGES+then-len-gt-MOST_PATHS}

pub returns-in_err-paths-clause-said : goal.returns-in_err-paths-clause-said
returns-in_err-paths-clause-said c state here are lines block rule =
    let failed = err_from_is_err_and c.from_residual.result c.from_residual.ensures.1 in
    rw (failed.1, failed.2) (paths_fault (place_of c.args.place.now) (build_of c.args.build.now) lines state (block_in c.args.read.now) _ _ block rule
    (rw c.new-reader.ensures.block at c.in_err-paths.ensures.said state.past (rw c.new-reader.ensures.scopes here)))

pub returns-then-len-ge-MOST_EDGES-clause-said : goal.returns-then-len-ge-MOST_EDGES-clause-said
returns-then-len-ge-MOST_EDGES-clause-said c state here are lines block rule =
    let place = place_of c.args.place.now in
    let form = build_of c.args.build.now in
    let texts = paths_at c.line.new.table c.in_ok-paths.paths in
    let parts = parts_from place form lines c.args.scopes.now state (block_in c.args.read.now) _ texts c.new-reader.result.scopes.now c.new-reader.result.block.now here c.new-reader.ensures.scopes c.new-reader.ensures.block
    block rule c.in_ok-paths.ensures.said in
    let edges : c.len.result ≡ length state.builds = c.len.ensures ∙ lines_count c.args.self.now state.builds are in
    let keys = count_of (named state.builds) c.args.self.now.table c.line.new.table c.in_ok-paths.paths c.in_ok-paths.ensures.added are.keys in
    much_fault place form lines state (block_in c.args.read.now) _ texts parts c.too_large.result
    (elim c.then-len-ge-MOST_EDGES.branch [
      | then-len-ge-MOST_EDGES-via-then-len-ge-MOST_EDGES w ↦ much_above state.builds _ c.len.result _ edges refl (inl w.if-len-ge-MOST_EDGES.true)
      | then-len-ge-MOST_EDGES-via-else-len-ge-MOST_EDGES+then-len-gt-MOST_PATHS w ↦
          much_above state.builds _ c.len.result w.len-else-len-ge-MOST_EDGES.result edges (w.len-else-len-ge-MOST_EDGES.ensures.count ∙ keys) (inr w.if-len-gt-MOST_PATHS.true)
    ])
    c.too_large.ensures

pub returns-in-Some-clause-said : goal.returns-in-Some-clause-said
returns-in-Some-clause-said c state here are lines block rule =
    let place = place_of c.args.place.now in
    let form = build_of c.args.build.now in
    let texts = paths_at c.line.new.table c.in_ok-paths.paths in
    let parts = parts_from place form lines c.args.scopes.now state (block_in c.args.read.now) _ texts c.new-reader.result.scopes.now c.new-reader.result.block.now here c.new-reader.ensures.scopes c.new-reader.ensures.block
    block rule c.in_ok-paths.ensures.said in
    let edges : c.len.result ≡ length state.builds = c.len.ensures ∙ lines_count c.args.self.now state.builds are in
    let keys = count_of (named state.builds) c.args.self.now.table c.line.new.table c.in_ok-paths.paths c.in_ok-paths.ensures.added are.keys in
    block_fault place form lines state (block_in c.args.read.now) _ texts parts (place_of c.at_line.result) c.in-Some.line c.too_large-in-Some.result
    (much_below state.builds _ c.len.result c.len-else-len-ge-MOST_EDGES.result edges (c.len-else-len-ge-MOST_EDGES.ensures.count ∙ keys) c.if-len-ge-MOST_EDGES.false c.if-len-gt-MOST_PATHS.false)
    c.in-Some.is (ap (λ (file : Rc Text Global). file.value) c.at_line.ensures.file) c.at_line.ensures.line c.too_large-in-Some.ensures

pub returns-clause-said : goal.returns-clause-said
returns-clause-said c state here are lines block rule =
    let place = place_of c.args.place.now in
    let form = build_of c.args.build.now in
    let texts = paths_at c.line.new.table c.in_ok-paths.paths in
    let parts = parts_from place form lines c.args.scopes.now state (block_in c.args.read.now) _ texts c.new-reader.result.scopes.now c.new-reader.result.block.now here c.new-reader.ensures.scopes c.new-reader.ensures.block
    block rule c.in_ok-paths.ensures.said in
    let edges : c.len.result ≡ length state.builds = c.len.ensures ∙ lines_count c.args.self.now state.builds are in
    let keys = count_of (named state.builds) c.args.self.now.table c.line.new.table c.in_ok-paths.paths c.in_ok-paths.ensures.added are.keys in
    let made = made_of place form lines state (rule_in c.args.read.now) texts in
    let few : length c.args.self.now.lines < most_edges = let e = c.len.ensures in let low = c.if-len-ge-MOST_EDGES.false in omega arith in
    let named_now = names_more c.args.self.now c.line.new.table c.in_ok-paths.paths state.builds made c.is_none.result c.len-else-len-ge-MOST_EDGES.ensures.once c.in_ok-paths.ensures.added refl
    (none_kept c.args.read.now.edge.rule c.is_none.result c.is_none.ensures) few are in (
      texts,
      rw c.in_ok-room.ensures named_now,
      build_read place form lines state (block_in c.args.read.now) _ texts parts
          (much_below state.builds _ c.len.result c.len-else-len-ge-MOST_EDGES.result edges (c.len-else-len-ge-MOST_EDGES.ensures.count ∙ keys) c.if-len-ge-MOST_EDGES.false c.if-len-gt-MOST_PATHS.false)
          c.in_default.is,
    )

pub returns-clause-formed : goal.returns-clause-formed
returns-clause-formed c = λ past here formed some.
    let read = c.in_ok-paths.ensures.said past (rw c.new-reader.ensures.scopes here) in
    rw c.in_ok-room.ensures (lines_formed c.args.self.now c.line.new.table c.in_ok-paths.paths c.is_none.result c.len-else-len-ge-MOST_EDGES.ensures.once c.in_ok-paths.ensures.added
    (paths_formed (place_of c.args.place.now) _ (build_of c.args.build.now) (paths_at c.line.new.table c.in_ok-paths.paths) read some) formed)
