use Rattle.std.proofs.Common.{ℕ, get_or, arith, rules}
use Rattle.std.proofs.lemmas.List.{take_all}
use Rattle.std.proofs.lemmas.Str.Parse.{digit_at}
use Rattle.std.proofs.lemmas.Int.Digits.{digits_more, digits_value_more}
use Rattle.count_text.specs.Columns.{FixedIn}
use Rattle.count_text.proofs.Readers.{reads_none, value_fits, fixed_are_digits, reads_fixed}
use Rattle.count_text.proofs.LastDigits.{digit_value_is}
use Rattle.count_text.proofs.digits.read_fixed.Goals as goal

pub returns-in_err-to_digit : goal.returns-in_err-to_digit
returns-in_err-to_digit c =
    let digits = c.args.digits.now in
    let i = c.loop-byte.byte-index in
    let no = rw c.from.ensures at c.in_err-to_digit.ensures.value in
    let never : (n : ℕ) → FixedIn n digits → ⊥ = λ n h.
    let d = digit_at digits i (fixed_are_digits _ n h) c.loop-byte-test.true in
    no (omega (arith, digit_value_is (get_or digits i 0) (omega arith) (omega arith))) in
    rw c.from_residual-in_err-to_digit.ensures (reads_none FixedIn _ never)

pub overflow_mul-n : goal.overflow_mul-n
overflow_mul-n c = omega (arith, value_fits _ _ _ c.loop-byte-test.true c.loop-byte.invariant.0 c.loop-byte.invariant.1 (omega arith))

pub overflow_add-n : goal.overflow_add-n
overflow_add-n c =
    let digit = c.in_ok-to_digit.ensures.value in
    let fits = value_fits _ _ _ c.loop-byte-test.true c.loop-byte.invariant.0 c.loop-byte.invariant.1 (omega arith) in
    omega (arith, c.from-in-loop-byte.ensures)

pub loop-byte-preserved : goal.loop-byte-preserved
loop-byte-preserved c =
    let digits = c.args.digits.now in
    let i = c.loop-byte.byte-index in
    let digit = rw c.from.ensures at c.in_ok-to_digit.ensures.value in
    let more = digits_value_more 10 digits i c.loop-byte-test.true in
    (digits_more 10 digits i c.loop-byte-test.true c.loop-byte.invariant.0 digit.0, omega (arith, c.from-in-loop-byte.ensures))

pub returns : goal.returns
returns c =
    let e = take_all c.loop-byte.byte-index c.args.digits.now c.loop-byte-test.false in
    let i = rw e at c.loop-byte.invariant in
    reads_fixed c.args.digits.now c.loop-byte.n (search rules) (omega arith) i.0 i.1
