use Rattle.std.proofs.Common.{◌≡◌, Some, None, slice_get, sym, subst, ap, ◌∙◌}
use Rattle.std.specs.Option.{option_and_then, option_copied, option_map}
use Rattle.model.specs.Records.{deps_in_force}
use Rattle.paths.specs.Told.{text_at}
use Rattle.log_text.specs.Kept.{Table, joined}
use Rattle.log_text.specs.declared.deps.Deps.{Deps}
use Rattle.log_text.specs.DepsLog.{Keeps, told_in, tolds}
use Rattle.records.proofs.Places.{place_got}
use Rattle.records.proofs.records.Records.deps.Goals as goal

pub returns-clause-told : goal.returns-clause-told
returns-clause-told c = λ ds paths is low.
    let place : joined (slice_get c.args.self.now.deps_places.items c.args.path) ≡ Some c.in_ok-place.place =
    place_got c.deref.result.now c.args.self.now.deps_places.items c.index.result c.args.path c.in_ok-place.place c.in_ok-get.field-0.now c.deref.ensures.value c.index.ensures.place c.in_ok-get.ensures.lookup.3.0 (c.in_ok-get.ensures.lookup.3.1 None) c.in_ok-place.was in
    let found = c.deps_at.ensures ds (subst (λ (t : Table Deps). Keeps ds t) (sym c.log.ensures) is.keeps) in
    let at = sym (ap (option_and_then (slice_get (tolds ds))) place) ∙ is.told c.args.path low in
    subst (λ (t : Table Deps). option_map (told_in t.outputs) (option_copied c.deps_at.result) ≡ deps_in_force ds (text_at paths c.args.path)) c.log.ensures (found ∙ at)
