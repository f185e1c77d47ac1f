use Rattle.std.proofs.Common.{◌++◌, ◌∷◌, [], List, ℕ, refl, sym, subst, ap, ◌∙◌, map, take, length}
use Rattle.std.specs.List.{AllByRecursion}
use Rattle.std.proofs.lemmas.List.{take_all}
use Rattle.std.proofs.lemmas.Option.{slice_get_read}
use Rattle.log_text.specs.Kept.{IsTableOf, Telling}
use Rattle.log_text.specs.Found.{IsNamed}
use Rattle.log_text.specs.declared.deps.Deps.{Deps}
use Rattle.log_text.specs.DepsLog.{IsLog, told_in, record_in, deps_record}
use Rattle.log_text.proofs.Sayings.{on}
use Rattle.log_text.proofs.KeptDeps.{compaction_is}
use Rattle.log_text.proofs.Writing.{log_of_none, line_behind, next_records, records_are, named_at}
use Rattle.log_text.proofs.deps_log.DepsLogRecords.compacted.Goals as goal

pub loop-telling-init : goal.loop-telling-init
loop-telling-init c = log_of_none c.push.new.self.items (c.in_ok-push.ensures.items ∙ ap (λ (xs : List ℕ). xs ++ 10 ∷ []) (c.in_ok-text.ensures.items ∙ c.first_line.ensures))

pub push_record-requires : goal.push_record-requires
push_record-requires c =
    let items = c.as_slice-telling-items.result.now in
    let named = subst (AllByRecursion IsNamed) (sym c.as_slice-telling-items.ensures.value) (c.in_ok-found.ensures.named c.self.invariant.0 c.self.invariant.1) in
    named_at items c.loop-telling.telling-index c.telling-item.result named (slice_get_read items (length items) c.loop-telling.telling-index c.telling-item.result refl c.loop-telling-test.true c.telling-item.is)

pub loop-telling-preserved : goal.loop-telling-preserved
loop-telling-preserved c =
    let items = c.as_slice-telling-items.result.now in
    let texts = c.args.self.now.outputs in
    let here = slice_get_read items (length items) c.loop-telling.telling-index c.telling-item.result refl c.loop-telling-test.true c.telling-item.is in
    let more = line_behind c.loop-telling.text.items c.push_record.new.text.items (map (record_in texts) (take c.loop-telling.telling-index items)) (record_in texts c.telling-item.result) c.loop-telling.invariant c.in_ok-push_record.ensures in
    subst (IsLog c.push_record.new.text.items) (sym (next_records texts items c.loop-telling.telling-index c.telling-item.result here)) more

pub returns : goal.returns
returns c = λ records keeps.
    let items = c.as_slice-telling-items.result.now in
    let texts = c.args.self.now.outputs in
    let found = c.in_ok-found.found.items in
    let told = c.in_ok-found.ensures.found keeps.all (subst (IsTableOf keeps.all) (sym c.self.view_is) keeps.table) in
    let whole = ap (map (record_in texts)) (take_all c.loop-telling.telling-index items c.loop-telling-test.false) ∙ ap (map (record_in texts)) c.as_slice-telling-items.ensures.value in
    subst (IsLog c.loop-telling.text.items) (whole ∙ (records_are texts found ∙ (ap (λ (ts : List (Telling Deps)). map deps_record (map (on (told_in texts)) ts)) told ∙ compaction_is records keeps))) c.loop-telling.invariant
