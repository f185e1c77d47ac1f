use Rattle.std.proofs.Common.{◌∙◌, ◌++◌, ◌-◌, [], ℕ, ap, length, sym, take}
use Rattle.std.specs.Prelude.{replicate}
use Rattle.std.proofs.Math.Seq.{take-append_seam}
use Rattle.graph.proofs.Ends.{err_of, no_ok, no_err, some_err}
use Rattle.graph.proofs.Parts.{on_ok_then}
use Rattle.graph.proofs.users.Users.lengthen.Goals as goal

pub returns-then-is_err-clause-ok : goal.returns-then-is_err-clause-ok
returns-then-is_err-clause-ok c = no_ok _ c.add_paths-added.result (sym c.if-is_err.ensures.value)

pub returns-then-is_err-clause-err : goal.returns-then-is_err-clause-err
returns-then-is_err-clause-err c =
    let old = c.args.self.now in
    let some = err_of c.add_paths-added.result (sym c.if-is_err.ensures.value) c.add_paths-added.ensures.err in
    some_err c.add_paths-added.result (c.truncate.ensures ∙ (ap (λ (n : ℕ). take n c.add_paths-added.new.self) c.len-known.ensures ∙ (ap (take (length old)) some.1 ∙ take-append_seam old (replicate some.0 []))))

pub returns-else-is_err-clause-ok : goal.returns-else-is_err-clause-ok
returns-else-is_err-clause-ok c =
    on_ok_then c.add_paths-added.result c.add_paths-added.ensures.ok (λ added. added ∙ ap (λ (n : ℕ). c.args.self.now ++ replicate (c.args.paths - n) []) c.len-known.ensures)

pub returns-else-is_err-clause-err : goal.returns-else-is_err-clause-err
returns-else-is_err-clause-err c = no_err _ c.add_paths-added.result (sym c.if-is_err.ensures.value)
