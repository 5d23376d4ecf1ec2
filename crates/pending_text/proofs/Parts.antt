-- A line behind the pending text, and a block from its front.
use Rattle.std.proofs.Common.{◌≡◌, ℕ, ◌+◌, ◌-◌, ◌*◌, ◌^◌, ◌<◌, ◌≤◌, ◌==◌, ◌&&◌, List, ◌++◌, [], length, replicate, take, drop, ℤ, Some, None, Ok, Err, Option, inl, inr, sym, refl, ap, ◌∙◌, arith}
use borrow.Rule.Slice.PartMut.{put_mid, post_of}
use mathlib.Core.HLevel.{is_prop→PathP}
use native.Mathlib.Bridge.{le_prop}
use Rattle.std.proofs.lemmas.List.{append-nil, append_assoc, drop_all, take-append-drop, take_all, take_at, take-take, drop-take, length-append, length-drop, length-take-le}
use Rattle.std.proofs.lemmas.List.Edits.{take-paste}
use Rattle.std.specs.List.{copy_within}
use Rattle.std.proofs.lemmas.Bool.{cases_Bool, and_parts, eqb-true, le-leb, ltb-true}
use lib.Dec.{ltb}
use Rattle.quantity.specs.declared.refusal.Refusal.{Refusal}
use Rattle.count_text.specs.Columns.{Writes, bytes_after}
use Rattle.figure_text.specs.Rows.{writable}
use Rattle.figure_text.proofs.Rows.{writable_all}
use Rattle.line_text.specs.NumberedRows.{numbered_text, numbered_refusal}
use Rattle.line_text.proofs.Puts.{numbered_length}
use Rattle.statement_lines.specs.Records.{tail_text, tail_refusal}
use Rattle.pending_text.specs.declared.pending.PendingText.{PendingText}
use Rattle.pending_text.specs.Pending.{text_of, Appended, block_refusal, BlockTaken}

-- what was done was not refused
none_of : (why : Option ℕ) → Writes why (Ok tt) → why ≡ None
none_of (Some number) h = absurd h
none_of None h = refl

-- a block is moved out: what stood behind it stands at the front
pub block_moved : (from : List ℕ) → length from ≡ 676 → take 164 (copy_within from 512 (length from) 0) ≡ drop 512 from
block_moved from n =
    let k : length from - 512 ≡ 164 = omega arith in
    let m : 0 + (length from - 512) ≡ 164 = omega arith in
    let d : length (drop 512 from) ≡ 164 = length-drop 512 from ∙ k in
    ap (λ (l : ℕ). take l (copy_within from 512 (length from) 0)) (sym m) ∙ take-paste from 0 (drop 512 from) (length from - 512) (omega arith) (omega arith) ∙ take_all (length from - 512) (drop 512 from) (omega arith)

-- and zeros stand behind it
pub block_zeroed :
    (from moved blank : List ℕ) → length from ≡ 676 → length moved ≡ 676 → moved ≡ copy_within from 512 (length from) 0 → blank ≡ replicate 512 0 → put_mid 164 512 moved blank ≡ drop 512 from ++ replicate 512 0
block_zeroed from moved blank n m is zeros =
    let front : take 164 moved ≡ drop 512 from = ap (λ (xs : List ℕ). take 164 xs) is ∙ block_moved from n in
    let none : post_of 164 512 moved ≡ [] = drop_all 512 (drop 164 moved) (omega (arith, length-drop 164 moved)) in
    rw (front, zeros, none) (ap (λ (xs : List ℕ). drop 512 from ++ xs) (append-nil (replicate 512 0)))

-- a line is written behind n bytes
pub line_appended :
    (why : Option ℕ) (n w : ℕ) (bytes part line : List ℕ) (before after : PendingText) → before.bytes ≡ bytes → before.length ≡ n → length bytes ≡ 676 → n ≤ 676 → (why ≡ None → length line ≡ w) → Writes why (Ok tt) →
    part ≡ bytes_after why line (take (676 - n) (drop n bytes)) → after.bytes ≡ put_mid n (676 - n) bytes part → after.length ≡ n + w → Appended why line before after
line_appended why n w bytes part line before after b l long within sized done written put longer =
    let none = none_of why done in
    let size = sized none in
    let p : part ≡ line ++ drop (length line) (take (676 - n) (drop n bytes)) = rw none at written in
    let front = take n bytes ++ line in
    let rest = drop (length line) (take (676 - n) (drop n bytes)) ++ post_of n (676 - n) bytes in
    let is : after.bytes ≡ front ++ rest =
    put ∙ ap (λ (t : List ℕ). take n bytes ++ (t ++ post_of n (676 - n) bytes)) p ∙ ap (λ (t : List ℕ). take n bytes ++ t) (append_assoc line _ _) ∙ sym (append_assoc (take n bytes) line rest) in
    let m : length front ≡ n + w = length-append (take n bytes) line ∙ (let e : length (take n bytes) + length line ≡ n + w = omega (arith, length-take-le n bytes (omega arith)) in e) in
    let text : text_of after ≡ front = ap (λ (k : ℕ). take k after.bytes) longer ∙ ap (λ (t : List ℕ). take (n + w) t) is ∙ take_at front rest (n + w) m in
    let old : text_of before ≡ take n bytes = ap (λ (k : ℕ). take k before.bytes) l ∙ ap (λ (t : List ℕ). take n t) b in
    rw none (text ∙ ap (λ (t : List ℕ). t ++ line) (sym old))

-- a numbered row that is not refused is as long as it should be
pub numbered_sized : (letter w n : ℕ) (xs : List ℤ) (room : ℕ) → 0 < w → w ≤ 18 → numbered_refusal w n xs room ≡ None → length (numbered_text letter w n xs) ≡ 2 + w + 20 * length xs
numbered_sized letter w n xs room some few taken =
    elim (cases_Bool (ltb n (10 ^ w) && writable xs)) [
      | inl e ↦ let p = and_parts (ltb n (10 ^ w)) (writable xs) e in numbered_length letter w n xs some few (ltb-true n (10 ^ w) p.0) (writable_all xs p.1)
      | inr e ↦ let wide : ◌≡◌ {A = Option ℕ} (Some 11) None = rw e at taken in absurd cc
    ]

-- and so is a tail
pub tail_sized : (closed : ℕ) (requests : List ℤ) (room : ℕ) → tail_refusal closed requests room ≡ None → length (tail_text closed requests) ≡ 125
tail_sized closed requests room taken =
    elim (cases_Bool (length requests == 6)) [
      | inl e ↦
          let six : length requests ≡ 6 = eqb-true (length requests) 6 e in
          let long = numbered_sized 84 3 closed requests room (omega arith) (omega arith) (rw e at taken) in
          omega arith
      | inr e ↦ let wrong : ◌≡◌ {A = Option ℕ} (Some 11) None = rw e at taken in absurd cc
    ]

-- what is refused stays as it was
pub refused_stays : (why : Option ℕ) (e : Refusal) (line : List ℕ) (p : PendingText) → Writes why (Err e) → Appended why line p p
refused_stays (Some number) e line p said = refl
refused_stays None e line p said = absurd said

-- pending texts with the same bytes and the same length are the same
same_pending : (a b : PendingText) → a.bytes ≡ b.bytes → a.length ≡ b.length → a ≡ b
same_pending a b bytes long i = record { bytes = bytes i; length = long i; within = is_prop→PathP (λ j. long j ≤ 676) (λ j. le_prop) a.within b.within i }

-- a line that is refused leaves the bytes behind n as they were
pub refused_in_place :
    (why : Option ℕ) (e : Refusal) (n : ℕ) (bytes part line : List ℕ) (before after : PendingText) → before.bytes ≡ bytes → before.length ≡ n → Writes why (Err e) →
    part ≡ bytes_after why line (take (676 - n) (drop n bytes)) → after.bytes ≡ put_mid n (676 - n) bytes part → after.length ≡ n → Appended why line before after
refused_in_place (Some number) e n bytes part line before after b l said written put long =
    let behind = drop n bytes in
    let back : put_mid n (676 - n) bytes (take (676 - n) behind) ≡ bytes = ap (λ (t : List ℕ). take n bytes ++ t) (take-append-drop (676 - n) behind) ∙ take-append-drop n bytes in
    same_pending after before (put ∙ ap (λ (t : List ℕ). put_mid n (676 - n) bytes t) written ∙ back ∙ sym b) (long ∙ sym l)
refused_in_place None e n bytes part line before after b l said written put long = absurd said

-- a block, written over the start of zeros, is still there
pub block_front : (from to zs : List ℕ) → length from ≡ 676 → to ≡ take 164 (take 164 (drop 512 from)) ++ zs → take 164 to ≡ drop 512 from
block_front from to zs n e =
    let d : length (drop 512 from) ≡ 164 = length-drop 512 from ∙ (let f : length from - 512 ≡ 164 = omega arith in f) in
    let t : take 164 (drop 512 from) ≡ drop 512 from = take_all 164 (drop 512 from) (omega arith) in
    let a = take_at (drop 512 from) zs 164 d in
    cc

-- what is left of a text of n bytes
pub block_left : (n : ℕ) (p r : List ℕ) → 512 ≤ n → n ≤ 676 → take 164 r ≡ drop 512 p → take (n - 512) r ≡ drop 512 (take n p)
block_left n p r low high e =
    let a = take-take (n - 512) 164 r (omega arith) in
    let s : 512 + (n - 512) ≡ n = omega arith in
    let b = drop-take 512 (n - 512) p in
    sym a ∙ ap (λ (l : List ℕ). take (n - 512) l) e ∙ sym b ∙ ap (λ (k : ℕ). drop 512 (take k p)) s

-- a block is taken
pub block_taken :
    (before after : PendingText) (out new : List ℕ) → 512 ≤ before.length → 512 ≤ length out → new ≡ take 512 before.bytes ++ drop 512 out →
    take 164 after.bytes ≡ drop 512 before.bytes → after.length ≡ before.length - 512 → BlockTaken (block_refusal before (length out)) before after out new
block_taken before after out new full room written left shorter =
    let pending = le-leb 512 before.length full in
    let fits = le-leb 512 (length out) room in
    let a = ap (λ (k : ℕ). take k after.bytes) shorter ∙ block_left before.length before.bytes after.bytes full before.within left in
    let b = take-take 512 before.length before.bytes full in
    rw (pending, fits) (a, written ∙ ap (λ (t : List ℕ). t ++ drop 512 out) (sym b))
