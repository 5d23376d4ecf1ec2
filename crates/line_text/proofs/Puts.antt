-- A numbered row that is written part by part, and why one is not written.
use Rattle.std.proofs.Common.{◌≡◌, ℕ, ◌+◌, ◌-◌, ◌*◌, ◌^◌, ◌<◌, ◌≤◌, true, ◌&&◌, ltb, leb, List, [], ◌∷◌, ◌++◌, length, take, drop, set, ℤ, Some, None, sym, refl, ap, ◌∙◌, arith}
use borrow.Rule.Slice.PartMut.{put_mid}
use Rattle.std.proofs.lemmas.List.{append_assoc, length-append, length-drop, length-set}
use Rattle.std.proofs.lemmas.Bool.{and_from, and_right, false_from_ne_true, le-leb, leb-true, lt-ltb}
use Rattle.count_text.specs.Columns.{count_text_of, count_refusal, bytes_after}
use Rattle.count_text.proofs.Columns.{length_count, not_refused}
use Rattle.figure_text.specs.Rows.{Writable, row_text, writable, row_refusal}
use Rattle.figure_text.proofs.Parts.{part_length, part_written, put_to, set_next}
use Rattle.figure_text.proofs.Rows.{all_writable, row_fits, row_length, writable_all}
use Rattle.line_text.specs.NumberedRows.{numbered_text, numbered_refusal}
use Rattle.line_text.proofs.NumberedRows.{row_whole, whole_parts}
pub use Rattle.figure_text.proofs.Parts.{put_next, set_next, part_length}

-- a count over a part that is as long as its columns
pub count_put : (w n : ℕ) (part new : List ℕ) → 0 < w → w ≤ 18 → n < 10 ^ w → length part ≡ w → new ≡ bytes_after (count_refusal w n (length part)) (count_text_of w n) part → (new ≡ count_text_of w n) × (length new ≡ w)
count_put w n part new some few small long e =
    let l = length_count w n (count_text_of w n) some few (small, refl) in
    let g = part_written (count_refusal w n (length part)) (count_text_of w n) part new (not_refused n (10 ^ w) w (length part) small (omega arith)) (long ∙ sym l) e in
    (g, ap length g ∙ l)

-- figures over a part that is as long as their columns
pub row_put : (xs : List ℤ) (part new : List ℕ) → Writable xs → length part ≡ 20 * length xs → new ≡ bytes_after (row_refusal xs (length part)) (row_text xs) part → (new ≡ row_text xs) × (length new ≡ 20 * length xs)
row_put xs part new all long e =
    let l = row_length xs all in
    let g = part_written (row_refusal xs (length part)) (row_text xs) part new (row_fits xs (length part) all (omega arith)) (long ∙ sym l) e in
    (g, ap length g ∙ l)

-- a buffer with the letter and the number written, the number up to s
abbrev pub numbered_before : ℕ → ℕ → List ℕ → List ℕ → List ℕ
numbered_before letter s old count = put_mid 1 (s - 1) (set old 0 letter) count

-- a numbered row, part by part: the figures stand from s to e
module _
    (letter n w s e : ℕ) (xs : List ℤ) (old count : List ℕ) (some : 0 < w) (few : w ≤ 18) (small : n < 10 ^ w) (all : Writable xs) (room : 2 + w + 20 * length xs ≤ length old) (start : s ≡ 1 + w) (end : e ≡ s + 20 * length xs)
    (counted : count ≡ bytes_after (count_refusal w n (length (take (s - 1) (drop 1 (set old 0 letter))))) (count_text_of w n) (take (s - 1) (drop 1 (set old 0 letter))))
  where
    count_is : (count ≡ count_text_of w n) × (length count ≡ w)
    count_is =
        let long = part_length 1 s (set old 0 letter) (omega arith) (omega (arith, length-set old 0 letter)) in
        count_put w n (take (s - 1) (drop 1 (set old 0 letter))) count some few small (omega arith) counted

    numbered : numbered_before letter s old count ≡ (letter ∷ count) ++ drop s old
    numbered = put_to (letter ∷ []) old (set old 0 letter) 1 refl (set_next [] old old 0 refl refl letter (omega arith)) s count (omega arith) (omega (arith, count_is.1))

    -- the part for the figures has their columns
    row_room : length (take (e - s) (drop s (numbered_before letter s old count))) ≡ 20 * length xs
    row_room =
        let long = part_length s e (numbered_before letter s old count) (omega arith) (omega (arith, ap length numbered, length-append (letter ∷ count) (drop s old), length-drop s old, count_is.1)) in
        omega arith

    pub row_not_refused : row_refusal xs (length (take (e - s) (drop s (numbered_before letter s old count)))) ≡ None
    row_not_refused = row_fits xs (length (take (e - s) (drop s (numbered_before letter s old count)))) all (omega (arith, row_room))

    pub numbered_put :
        (row : List ℕ) → row ≡ bytes_after (row_refusal xs (length (take (e - s) (drop s (numbered_before letter s old count))))) (row_text xs) (take (e - s) (drop s (numbered_before letter s old count))) →
        set (put_mid s (e - s) (numbered_before letter s old count) row) e 10 ≡ numbered_text letter w n xs ++ drop (2 + w + 20 * length xs) old
    numbered_put row rowed =
        let row_is = row_put xs (take (e - s) (drop s (numbered_before letter s old count))) row all row_room rowed in
        let long : length row ≡ 20 * length xs = row_is.1 in
        let front : length (letter ∷ count) ≡ s = omega (arith, count_is.1) in
        let filled = put_to (letter ∷ count) old (numbered_before letter s old count) s front numbered e row (omega arith) (omega arith) in
        let ended = set_next ((letter ∷ count) ++ row) old _ e (omega (arith, length-append (letter ∷ count) row)) filled 10 (omega arith) in
        let text : ((letter ∷ count) ++ row) ++ (10 ∷ []) ≡ numbered_text letter w n xs = append_assoc (letter ∷ count) row (10 ∷ []) ∙ rw (count_is.0, row_is.0) in
        let past : e + 1 ≡ 2 + w + 20 * length xs = omega arith in
        ended ∙ ap (λ (t : List ℕ). t ++ drop (e + 1) old) text ∙ ap (λ (m : ℕ). numbered_text letter w n xs ++ drop m old) past

-- ---- why a numbered row is not written
module _ (w n : ℕ) (xs : List ℤ) (room : ℕ) where
  pub numbered_wide : (Writable xs → ⊥) → numbered_refusal w n xs room ≡ Some 11
  numbered_wide never =
      let g = and_right (ltb n (10 ^ w)) (writable xs) (false_from_ne_true (writable xs) (λ e. never (writable_all xs e))) in
      rw g refl

  module _ (small : n < 10 ^ w) (all : Writable xs) where
    held : (ltb n (10 ^ w) && writable xs) ≡ true
    held = and_from (ltb n (10 ^ w)) (writable xs) (lt-ltb n (10 ^ w) small) (all_writable xs all)

    pub numbered_short : (2 + w + 20 * length xs ≤ room → ⊥) → numbered_refusal w n xs room ≡ Some 16
    numbered_short never = rw (held, false_from_ne_true (leb (2 + w + 20 * length xs) room) (λ e. never (leb-true (2 + w + 20 * length xs) room e))) refl

    pub numbered_fits : 2 + w + 20 * length xs ≤ room → numbered_refusal w n xs room ≡ None
    numbered_fits le = rw (held, le-leb (2 + w + 20 * length xs) room le) refl

pub numbered_length : (letter w n : ℕ) (xs : List ℤ) → 0 < w → w ≤ 18 → n < 10 ^ w → Writable xs → length (numbered_text letter w n xs) ≡ 2 + w + 20 * length xs
numbered_length letter w n xs some few small all = (whole_parts (2 + w + 20 * length xs) (numbered_text letter w n xs) (row_whole letter w n xs (numbered_text letter w n xs) some few (small, all, refl))).0

pub numbered_bytes :
    (letter w n : ℕ) (xs : List ℤ) (old : List ℕ) → 0 < w → w ≤ 18 → n < 10 ^ w → Writable xs →
    numbered_text letter w n xs ++ drop (2 + w + 20 * length xs) old ≡ bytes_after None (numbered_text letter w n xs) old
numbered_bytes letter w n xs old some few small all = ap (λ (k : ℕ). numbered_text letter w n xs ++ drop k old) (sym (numbered_length letter w n xs some few small all))
