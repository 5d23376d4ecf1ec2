use Rattle.std.proofs.Common.{◌^◌, ◌<◌, None, decimal, refl, arith}
use Rattle.std.proofs.lemmas.List.{take_rest}
use Rattle.std.proofs.lemmas.Bool.{false≢true}
use Rattle.count_text.specs.Columns.{CountIn}
use Rattle.count_text.proofs.Columns.{reads_at_right, reads_count, length_count}
use Rattle.count_text.proofs.Decimals.{first_is_digit}
use Rattle.count_text.proofs.Readers.{reads_none, ok_where_written, written_where_ok, else_refused}
use Rattle.count_text.proofs.count.read_count.Goals as goal

pub returns-then-not-is_filled_by : goal.returns-then-not-is_filled_by
returns-then-not-is_filled_by c =
    let w = c.args.width.columns in
    let reads = reads_none (CountIn w) c.args.text.now (λ n h. false≢true (c.if-not-is_filled_by.ensures.1 (length_count w n c.args.text.now (omega arith) (omega arith) h))) in
    record { written_is_read = ok_where_written (CountIn w) _ None _ refl reads; read_is_written = written_where_ok (CountIn w) _ None _ refl reads; refused = refl }

pub returns : goal.returns
returns c =
    let w = c.args.width.columns in
    let b = c.blanks.ensures in
    let reads =
    reads_count w c.args.text.now _ (omega arith) (omega arith)
    (reads_at_right c.args.text.now c.blanks.result b.within b.front b.next (λ n. n < 10 ^ 18) decimal (λ n h e. omega (arith, first_is_digit n (omega arith))) w _ _ (omega arith)
    (take_rest c.args.text.now c.blanks.result) c.read_plain.ensures) in
    let is = c.ok_or.ensures.value in
    record { written_is_read = ok_where_written (CountIn w) _ _ _ is reads; read_is_written = written_where_ok (CountIn w) _ _ _ is reads; refused = else_refused (CountIn w) _ _ _ is reads }
