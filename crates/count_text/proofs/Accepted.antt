-- What was not refused stands in the buffer.
use Rattle.std.proofs.Common.{◌≡◌, ℕ, ◌-◌, ◌≤◌, List, [], ◌++◌, length, drop, replicate, Some, None, Ok, Option, refl, ap, ◌∙◌, arith}
use Rattle.std.proofs.lemmas.List.{append-nil, drop_all, length-append, length-replicate}
use Rattle.count_text.specs.Columns.{at_right, Writes, bytes_after}

pub accepted_bytes : (why : Option ℕ) (text old : List ℕ) → Writes why (Ok tt) → bytes_after why text old ≡ text ++ drop (length text) old
accepted_bytes (Some number) text old h = absurd h
accepted_bytes None text old h = refl

-- the columns are filled
pub filled_columns : (w : ℕ) (text : List ℕ) → w ≤ length (at_right w text)
filled_columns w text =
    let l = length-append (replicate {A = ℕ} (w - length text) 32) text in
    let r = length-replicate {A = ℕ} (w - length text) 32 in
    omega arith

-- a buffer that is no longer than its columns holds nothing else
pub accepted_whole : (why : Option ℕ) (w : ℕ) (text old : List ℕ) → Writes why (Ok tt) → length old ≡ w → bytes_after why (at_right w text) old ≡ at_right w text
accepted_whole why w text old h same =
    let none : drop (length (at_right w text)) old ≡ [] = drop_all (length (at_right w text)) old (omega (arith, filled_columns w text)) in
    accepted_bytes why (at_right w text) old h ∙ ap (λ (rest : List ℕ). at_right w text ++ rest) none ∙ append-nil (at_right w text)
