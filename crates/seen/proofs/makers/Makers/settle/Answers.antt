use Rattle.std.proofs.Common.{◌∙◌, Some, ◌∷◌, [], ap, length, arith}
use Rattle.std.proofs.lemmas.List.{length-append}
use Rattle.std.proofs.lemmas.Map.Text.{hash_map_updates_str}
use Rattle.std.specs.Str.{bytes_eq}
use Rattle.indexmap.specs.IndexMap.{get_by}
use Rattle.seen.proofs.Making.{moved}
use Rattle.seen.proofs.makers.Makers.settle.Goals as goal

pub loop-text-preserved : goal.loop-text-preserved
loop-text-preserved c = record {
  same = λ p.
      moved c.pop.new.self.items c.loop-text.self.listed.items c.in-Some.field-0 p (get_by (λ k. bytes_eq p k.now) c.loop-text.self.table) (get_by (λ k. bytes_eq p k.now) c.insert.new.self) c.in-Some.ensures.items
      (hash_map_updates_str c.in-Some.field-0.text.now c.loop-text.self.table c.insert.new.self (Some c.in-Some.field-0.job) c.in-Ok.ensures.updates p)
      ∙ c.loop-text.invariant.same p;
  room =
      let count = ap length c.in-Some.ensures.items ∙ length-append c.pop.new.self.items (c.in-Some.field-0 ∷ []) in
      omega (arith, count, c.in-Ok.ensures.spare, c.loop-text.invariant.room);
  jobs = c.loop-text.invariant.jobs;
}
