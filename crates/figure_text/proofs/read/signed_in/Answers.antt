use Rattle.std.proofs.Common.{◌∷◌, [], Some, None, ◌^◌, ◌<◌, refl, arith, w64}
use Rattle.std.proofs.lemmas.Int.{to_z_pos}
use Rattle.std.proofs.lemmas.Slice.Eq.{strip_prefix_is}
use Rattle.std.proofs.lemmas.Bool.Decides.{Decides-eqb}
use Rattle.figure_text.proofs.Signs.{no_figure_behind_minus, reads_behind_minus, reads_positive}
use Rattle.figure_text.proofs.read.signed_in.Goals as goal

pub returns-in_err-size_in-in-Some : goal.returns-in_err-size_in-in-Some
returns-in_err-size_in-in-Some c =
    let minus = strip_prefix_is Decides-eqb c.args.text.now (45 ∷ []) (Some c.in-Some.rest) c.in-Some.ensures.cases in
    rw c.from_residual.ensures (no_figure_behind_minus _ _ minus c.in_err-size_in-in-Some.ensures)

pub negative-requires : goal.negative-requires
negative-requires c = (c.in_ok-size_in-in-Some.ensures.read_is_written _ refl).0

pub returns-in_ok-size_in-in-Some : goal.returns-in_ok-size_in-in-Some
returns-in_ok-size_in-in-Some c =
    let minus = strip_prefix_is Decides-eqb c.args.text.now (45 ∷ []) (Some c.in-Some.rest) c.in-Some.ensures.cases in
    reads_behind_minus _ _ minus _ c.negative.result c.in_ok-size_in-in-Some.ensures c.negative.ensures

size_lt : (c : goal.In_ok-size_in-in-None) → c.in_ok-size_in-in-None.field-0 < 10 ^ 18
size_lt c = (c.in_ok-size_in-in-None.ensures.read_is_written _ refl).0

pub overflow_cast-result : goal.overflow_cast-result
overflow_cast-result c = record { sfits = omega (arith, size_lt c) }

pub returns-in_ok-size_in-in-None : goal.returns-in_ok-size_in-in-None
returns-in_ok-size_in-in-None c =
    let other = strip_prefix_is Decides-eqb c.args.text.now (45 ∷ []) None c.in-None.ensures.cases in
    rw (to_z_pos w64 c.in_ok-size_in-in-None.field-0 (omega (arith, size_lt c))) (reads_positive _ other _ c.in_ok-size_in-in-None.ensures)
