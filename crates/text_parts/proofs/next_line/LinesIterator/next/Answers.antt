use Rattle.std.proofs.Common.{eqb, length, rules, arith, refl, ap}
use Rattle.std.proofs.lemmas.List.Sorted.{answers_always}
use Rattle.text_parts.proofs.Front.{part_is_line, part_then_left, lines_then_left}
use Rattle.text_parts.proofs.next_line.LinesIterator.next.Goals as goal

pub returns-clause-steps : goal.returns-clause-steps
returns-clause-steps c =
    let e = rw c.split_inclusive.ensures.rest at c.in_ok-bytes.ensures.steps in
    let first = (e.1.2 (λ b. eqb b 10) (answers_always _ _ _ (λ f a r g called. search rules))).1 in
    record {
      is = part_is_line _ _ _ e.1.0 e.0 e.1.1 first;
      rest = part_then_left _ _ _ e.1.0 e.0 e.1.1 first;
      first = lines_then_left _ _ _ e.1.0 e.0 e.1.1 first e.2;
      number = refl;
      taken = refl;
    }

pub returns-clause-goes : goal.returns-clause-goes
returns-clause-goes c =
    let fewer = ap length (returns-clause-steps c).first in
    record { on = λ _. (tt, tt, omega arith); keeps = tt; rests = λ _. tt }
