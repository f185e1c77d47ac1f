use Rattle.std.proofs.Common.{◌≡◌, ◌∙◌, ℕ, Bool, true, false, cond, Option, Some, bytes_eq, refl, ap, string_bytes}
use Rattle.std.specs.Option.{option_flatten}
use Rattle.std.proofs.lemmas.Map.Text.{hash_map_updates_text}
use Rattle.indexmap.specs.IndexMap.{get_by_text}
use Rattle.plan.proofs.by_name.Places.put.Goals as goal

flat_if : (b : Bool) (place : Option ℕ) (kept : Option (Option ℕ)) → option_flatten (cond b (Some place) kept) ≡ cond b place (option_flatten kept)
flat_if true place kept = refl
flat_if false place kept = refl

pub returns : goal.returns
returns c = λ other.
    let kept = rw c.in_ok-name.ensures.ok at (hash_map_updates_text (string_bytes c.in_ok-name.name) c.args.self.now.by_name c.insert.new.self _ c.in_ok-insert.ensures.updates other) in
    ap option_flatten kept ∙ flat_if (bytes_eq c.args.name.now other) c.args.place (get_by_text c.args.self.now.by_name other)
