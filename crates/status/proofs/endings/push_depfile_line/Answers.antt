use Rattle.std.proofs.Common.{◌≡◌, [], ◌∷◌, codes, ap, ◌∙◌}
use Rattle.std.specs.Prelude.{decimal}
use Rattle.status.proofs.Rows.{in_a_row}
use Rattle.status.proofs.endings.push_depfile_line.Goals as goal

pub returns : goal.returns
returns c =
    let path : c.as_bytes.result.now ≡ c.args.fault.now.path = c.as_bytes.ensures.value ∙ ap (λ f. f.path) c.fault.view_is in
    let number : c.as_bytes-2.result.now ≡ decimal c.args.fault.now.number = c.as_bytes-2.ensures.value ∙ (c.format.ensures.text ∙ ap (λ f. decimal f.number) c.fault.view_is) in
    let text : c.as_bytes-3.result.now ≡ c.args.fault.now.text = c.as_bytes-3.ensures.value ∙ ap (λ f. f.text) c.fault.view_is in
    rw (c.in_ok-push.ensures.items, c.in_ok-extend_from_slice-6.ensures.items, c.in_ok-extend_from_slice-5.ensures.items, c.in_ok-extend_from_slice-4.ensures.items, c.in_ok-extend_from_slice-3.ensures.items, c.in_ok-extend_from_slice-2.ensures.items, c.in_ok-extend_from_slice.ensures.items, path, number, text)
    (in_a_row c.args.shown.now.items (codes "nj: depfile '") c.args.fault.now.path (codes "': N") (decimal c.args.fault.now.number) (codes ": ") c.args.fault.now.text (10 ∷ []))
