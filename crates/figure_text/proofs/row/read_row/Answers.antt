use Rattle.std.proofs.Common.{◌≡◌, take, Err, Ok, sym, ap, ◌∙◌, arith, rules, w64, SFits}
use Rattle.std.proofs.lemmas.List.{set-get_or}
use Rattle.std.proofs.lemmas.Int.{to_z-of_z}
use Rattle.figure_text.specs.Rows.{OneFigure}
use Rattle.figure_text.proofs.Rows.{rest_more, filled_more, figure_cut}
use Rattle.figure_text.proofs.row.read_row.Goals as goal

pub returns-in_err-field : goal.returns-in_err-field
returns-in_err-field c =
    let e : c.from_residual.result ≡ Err c.loop-k.k-counter = search rules in
    let cut = figure_cut c.args.text.now c.loop-k.rest.now c.loop-k.k-counter c.loop-k.invariant.0 (rw c.in_err-field.ensures.ok_part at c.split_at_checked.ensures.cases) in
    rw (e, set-get_or) (omega arith, c.loop-k.invariant.1, cut)

pub loop-k-preserved : goal.loop-k-preserved
loop-k-preserved c =
    let x = c.in_ok-place.field-0 in
    let f : SFits w64 x = search rules in
    let read : c.read_figure.result ≡ Ok x = search rules in
    let cut = rw c.in_ok-field.ensures.ok_part at c.split_at_checked.ensures.cases in
    let field = cut.1 ∙ ap (take 20) c.loop-k.invariant.0 in
    let said = c.read_figure.ensures in
    let one : OneFigure x c.in_ok-field.field.now = (said.read_is_written x read, λ y h. let e : Ok y ≡ Ok x = sym (said.written_is_read y h) ∙ read in cc) in
    let here = rw field at one in (
      rest_more c.args.text.now c.loop-k.rest.now c.in_ok-field.after.now c.loop-k.k-counter c.loop-k.invariant.0 cut.2,
      rw (to_z-of_z w64 x f) (filled_more c.args.text.now c.args.places.now c.loop-k.places c.loop-k.k-counter x (omega arith) c.loop-k.invariant.1 here),
    )
