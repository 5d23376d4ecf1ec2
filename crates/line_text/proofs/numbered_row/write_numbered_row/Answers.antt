use Rattle.std.proofs.Common.{length, refl, ◌∙◌, arith, rules}
use Rattle.std.proofs.lemmas.Bool.{false≢true}
use Rattle.line_text.proofs.Puts.{row_not_refused, numbered_put, numbered_short, numbered_fits, numbered_bytes}
use Rattle.line_text.proofs.numbered_row.write_numbered_row.Goals as goal

pub returns-then-not-has_room-clause-refused_first : goal.returns-then-not-has_room-clause-refused_first
returns-then-not-has_room-clause-refused_first c =
    rw
    (numbered_short c.args.width.columns c.args.number c.args.figures.now (length c.args.out.now) (c.if-not-holds.ensures.0 refl) (c.if-not-are_writable.ensures.0 refl)
    (λ le. false≢true (c.if-not-has_room.ensures.1 le))) refl

pub unwrap-requires-2 : goal.unwrap-requires-2
unwrap-requires-2 c =
    let none =
    row_not_refused c.args.letter c.args.number c.args.width.columns _ _ c.args.figures.now c.args.out.now c.write_count.new.out c.args.width.some c.args.width.few (c.if-not-holds.ensures.0 refl)
    (c.if-not-are_writable.ensures.0 refl) (c.if-not-has_room.ensures.0 refl) (omega arith) refl c.write_count.ensures.bytes in
    let done = rw none at c.write_row.ensures.refused_first in
    search rules

pub returns-clause-bytes : goal.returns-clause-bytes
returns-clause-bytes c =
    let small = c.if-not-holds.ensures.0 refl in
    let all = c.if-not-are_writable.ensures.0 refl in
    let room = c.if-not-has_room.ensures.0 refl in
    let fits = numbered_fits c.args.width.columns c.args.number c.args.figures.now (length c.args.out.now) small all room in
    rw fits
    (numbered_put c.args.letter c.args.number c.args.width.columns _ _ c.args.figures.now c.args.out.now c.write_count.new.out c.args.width.some c.args.width.few small all room (omega arith) refl
    c.write_count.ensures.bytes c.write_row.new.out c.write_row.ensures.bytes ∙ numbered_bytes c.args.letter c.args.width.columns c.args.number c.args.figures.now c.args.out.now c.args.width.some c.args.width.few small all)
