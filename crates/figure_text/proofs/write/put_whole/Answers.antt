use Rattle.std.proofs.Common.{◌≡◌, ◌/◌, ◌^◌, ◌<◌, nat_abs, ap, ◌∙◌, arith, w64}
use Rattle.std.proofs.lemmas.Int.{to_z-of_z}
use Rattle.figure_text.proofs.Wholes.{some_blank, negative_whole_written, positive_whole_written}
use Rattle.figure_text.proofs.write.put_whole.Goals as goal
use Rattle.figure_text.proofs.write.put_whole.Goals.{After-unwrap}

whole_is : (c : goal.After-unwrap) → c.unsigned_abs.result / 10 ^ 10 ≡ nat_abs c.args.units / 10 ^ 10
whole_is c = ap (λ n. n / 10 ^ 10) (c.unsigned_abs.ensures.value ∙ ap nat_abs (to_z-of_z w64 c.args.units c.ranges.units))

whole_lt : (c : goal.After-unwrap) → c.unsigned_abs.result / 10 ^ 10 < 10 ^ 8
whole_lt c = omega (arith, whole_is c)

pub overflow_sub-out : goal.overflow_sub-out
overflow_sub-out c =
    let w = (goal.at.overflow_sub-out c).After-unwrap in
    let b = c.blanks.ensures in
    some_blank _ (whole_lt w) c.args.out.now _ c.requires.room c.write_count.ensures.bytes c.blanks.result b.within b.front b.next

pub returns-then-units-lt0 : goal.returns-then-units-lt0
returns-then-units-lt0 c =
    let w = (goal.at.returns-then-units-lt0 c).After-unwrap in
    let b = c.blanks.ensures in
    let below = rw (to_z-of_z w64 c.args.units c.ranges.units) at c.if-units-lt0.true in
    negative_whole_written _ (whole_lt w) c.args.out.now _ c.requires.room c.write_count.ensures.bytes c.blanks.result b.within b.front b.next c.args.units below (whole_is w)

pub returns-else-units-lt0 : goal.returns-else-units-lt0
returns-else-units-lt0 c =
    let w = (goal.at.returns-else-units-lt0 c).After-unwrap in
    let above = rw (to_z-of_z w64 c.args.units c.ranges.units) at c.if-units-lt0.false in
    positive_whole_written _ (whole_lt w) c.args.out.now _ c.requires.room c.write_count.ensures.bytes c.args.units above (whole_is w)
