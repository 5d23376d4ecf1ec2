use Rattle.std.proofs.Common.{◌<◌, ◌∷◌, [], length, None, Some, refl, arith, rules, tests}
use Rattle.std.proofs.lemmas.Slice.Eq.{strip_prefix_is}
use Rattle.std.proofs.lemmas.Bool.Decides.{Decides-eqb}
use Rattle.figure_text.proofs.Sizes.{no_size_in_short, reads_whole, no_size_without_whole, no_size_without_point, no_size_without_decimals, decimals_lt, reads_size}
use Rattle.figure_text.proofs.read.size_in.Goals as goal

pub returns-in_err-checked_sub : goal.returns-in_err-checked_sub
returns-in_err-checked_sub c =
    let short : length c.args.text.now < 11 = omega (arith, c.in_err-checked_sub.ensures) in
    rw c.from_residual.ensures (no_size_in_short c.args.text.now short)

pub returns-in_err-whole : goal.returns-in_err-whole
returns-in_err-whole c =
    let s = c.split_at.ensures in
    let reads = reads_whole _ (λ a b k. search (rules, tests)) _ _ _ c.read_plain.ensures c.in_err-whole.ensures in
    rw c.from_residual-in_err-whole.ensures (no_size_without_whole _ _ _ _ s.front s.back (omega (arith, s.back_len, c.in_ok-checked_sub.ensures)) reads)

pub returns-in_err-strip_prefix : goal.returns-in_err-strip_prefix
returns-in_err-strip_prefix c =
    let s = c.split_at.ensures in
    let never = strip_prefix_is Decides-eqb c.split_at.result.1.now (46 ∷ []) None c.in_err-strip_prefix.ensures.cases in
    rw c.from_residual-in_err-strip_prefix.ensures (no_size_without_point _ _ _ _ s.front s.back (omega (arith, s.back_len, c.in_ok-checked_sub.ensures)) never)

pub returns-in_err-decimals : goal.returns-in_err-decimals
returns-in_err-decimals c =
    let s = c.split_at.ensures in
    let point = strip_prefix_is Decides-eqb c.split_at.result.1.now (46 ∷ []) (Some c.in_ok-strip_prefix.field-0) c.in_ok-strip_prefix.ensures.cases in
    rw c.from_residual-in_err-decimals.ensures
    (no_size_without_decimals _ _ _ _ s.front s.back (omega (arith, s.back_len, c.in_ok-checked_sub.ensures)) _ point c.in_err-decimals.ensures)

pub overflow_add-result : goal.overflow_add-result
overflow_add-result c =
    let s = c.split_at.ensures in
    let reads = reads_whole _ (λ a b k. search (rules, tests)) _ _ _ c.read_plain.ensures c.in_ok-whole.ensures in
    let point = strip_prefix_is Decides-eqb c.split_at.result.1.now (46 ∷ []) (Some c.in_ok-strip_prefix.field-0) c.in_ok-strip_prefix.ensures.cases in
    let q = decimals_lt _ _ _ _ s.front s.back (omega (arith, s.back_len, c.in_ok-checked_sub.ensures)) _ point _ _ reads c.in_ok-decimals.ensures in
    omega (arith, (reads.read_is_written _ refl).0)

pub returns : goal.returns
returns c =
    let s = c.split_at.ensures in
    let reads = reads_whole _ (λ a b k. search (rules, tests)) _ _ _ c.read_plain.ensures c.in_ok-whole.ensures in
    let point = strip_prefix_is Decides-eqb c.split_at.result.1.now (46 ∷ []) (Some c.in_ok-strip_prefix.field-0) c.in_ok-strip_prefix.ensures.cases in
    reads_size _ _ _ _ s.front s.back (omega (arith, s.back_len, c.in_ok-checked_sub.ensures)) _ point _ _ reads c.in_ok-decimals.ensures
