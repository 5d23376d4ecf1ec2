-- One more figure of a row.
use Rattle.std.proofs.Common.{◌≡◌, ℕ, zero, suc, ◌+◌, ◌-◌, ◌*◌, ◌^◌, ◌<◌, ◌≤◌, true, ltb, leb, List, [], ◌∷◌, ◌++◌, length, get_or, take, drop, set, ℤ, pos, nat_abs, Some, None, Ok, Err, Decides, Result, sym, refl, ap, ◌∙◌, inl, inr, arith, MatchResult}
use borrow.Rule.Slice.PartMut.{put_mid}
use Rattle.std.proofs.lemmas.List.{append_assoc, take_at, drop_at, take-append-drop, take-take, drop-take, drop-drop, drop-set-lt, get_or-set_same, get_or-set_other, flat_map_more, length-take, length-take-le, length-append, take_all, take_more}
use Rattle.std.proofs.lemmas.List.Elements.{All-tail, All-take}
use Rattle.std.proofs.lemmas.Bool.{cases_eq, false_from_ne_true, le-leb, leb-true}
use Rattle.std.proofs.lemmas.Bool.Decides.{Decides-by_and, Decides-ltb}
use Rattle.quantity.specs.declared.refusal.Refusal.{Refusal}
use Rattle.count_text.specs.Columns.{Writes, bytes_after}
use Rattle.figure_text.specs.Figures.{figure_text_of, FigureIn}
use Rattle.figure_text.proofs.Parts.{put_to}
use Rattle.figure_text.proofs.Wholes.{length_figure}
use Rattle.figure_text.specs.Rows.{Writable, row_text, writable, row_refusal, figure_field, OneFigure, Filled}

pub rest_more : (text rest after : List ℕ) (k : ℕ) → rest ≡ drop (20 * k) text → after ≡ drop 20 rest → after ≡ drop (20 * (k + 1)) text
rest_more text rest after k is past =
    let e : 20 * k + 20 ≡ 20 * (k + 1) = omega arith in
    past ∙ ap (λ (l : List ℕ). drop 20 l) is ∙ drop-drop 20 (20 * k) text ∙ ap (λ (n : ℕ). drop n text) e

pub filled_more : (text : List ℕ) (old new : List ℤ) (k : ℕ) (x : ℤ) → k < length new → Filled k text old new → OneFigure x (figure_field k text) → Filled (k + 1) text old (set new k x)
filled_more text old new k x lt f here = (
  λ i le.
      elim (cases_eq i k) [
        | inl e ↦ rw (e, get_or-set_same new k x (pos 0) lt) here
        | inr n ↦ rw (get_or-set_other new k i x (pos 0) n) (f.0 i (omega arith))
      ],
  drop-set-lt (k + 1) new k x (omega arith) ∙ sym (drop-drop 1 k new) ∙ ap (λ (l : List ℤ). drop 1 l) f.1 ∙ drop-drop 1 k old,
)

-- a figure has all its columns
pub figure_cut : (text rest : List ℕ) (k : ℕ) → rest ≡ drop (20 * k) text → length rest < 20 → (x : ℤ) → FigureIn x (figure_field k text) → ⊥
figure_cut text rest k is short x h =
    let l : length (figure_field k text) ≡ 20 = ap length h.1 ∙ length_figure x h.0 in
    let m = length-take 20 (drop (20 * k) text) in
    let n = ap length is in
    omega arith

-- ---- the whole row
take_add : (m n : ℕ) (xs : List ℕ) → take (m + n) xs ≡ take m xs ++ take n (drop m xs)
take_add m n xs =
    let a = take-take m (m + n) xs (omega arith) in
    let b = drop-take m n xs in
    sym (take-append-drop m (take (m + n) xs)) ∙ rw (a, b)

pub field_suc : (k : ℕ) (text : List ℕ) → figure_field (suc k) text ≡ figure_field k (drop 20 text)
field_suc k text = let e : 20 * suc k ≡ 20 + 20 * k = omega arith in rw e (ap (λ (l : List ℕ). take 20 l) (sym (drop-drop (20 * k) 20 text)))

-- a row from its fields
pub row_from : (xs : List ℤ) (text : List ℕ) → ((i : ℕ) → i < length xs → FigureIn (get_or xs i (pos 0)) (figure_field i text)) → take (20 * length xs) text ≡ row_text xs
row_from [] text each = refl
row_from (x ∷ xs) text each =
    let e : 20 * suc (length xs) ≡ 20 + 20 * length xs = omega arith in
    let here : take 20 text ≡ figure_text_of x = (each 0 (omega arith)).1 in
    let rest = row_from xs (drop 20 text) (λ i lt. rw (field_suc i text) at (each (suc i) (omega arith))) in
    rw e (take_add 20 (20 * length xs) text ∙ rw (here, rest))

-- the fields of a row, whatever stands behind it
pub row_field : (xs : List ℤ) (after : List ℕ) (k : ℕ) → Writable xs → k < length xs → FigureIn (get_or xs k (pos 0)) (figure_field k (row_text xs ++ after))
row_field [] after k all lt = absurd (let q : ⊥ = omega arith in q)
row_field (x ∷ xs) after zero all lt =
    let small = all 0 (pos 0) (omega arith) in
    (small, ap (take 20) (append_assoc (figure_text_of x) (row_text xs) after) ∙ take_at (figure_text_of x) (row_text xs ++ after) 20 (length_figure x small))
row_field (x ∷ xs) after (suc k) all lt =
    let d : drop 20 ((figure_text_of x ++ row_text xs) ++ after) ≡ row_text xs ++ after =
    ap (drop 20) (append_assoc (figure_text_of x) (row_text xs) after) ∙ drop_at (figure_text_of x) (row_text xs ++ after) 20 (length_figure x (all 0 (pos 0) (omega arith))) in
    rw (field_suc k ((figure_text_of x ++ row_text xs) ++ after), d) (row_field xs after k (All-tail (λ y. nat_abs y < 10 ^ 18) x xs all) (omega arith))

pub row_length : (xs : List ℤ) → Writable xs → length (row_text xs) ≡ 20 * length xs
row_length [] all = refl
row_length (x ∷ xs) all =
    let f = length_figure x (all 0 (pos 0) (omega arith)) in
    let r = row_length xs (All-tail (λ y. nat_abs y < 10 ^ 18) x xs all) in
    length-append (figure_text_of x) (row_text xs) ∙ (let e : length (figure_text_of x) + length (row_text xs) ≡ 20 * suc (length xs) = omega arith in e)

-- ---- a row that is written
pub writable_decides : (xs : List ℤ) → Decides (writable xs) (Writable xs)
writable_decides = Decides-by_and (λ x. ltb (nat_abs x) (10 ^ 18)) (λ x. nat_abs x < 10 ^ 18) writable (λ x. Decides-ltb (nat_abs x) (10 ^ 18)) refl (λ _ _. refl)

pub writable_all : (xs : List ℤ) → writable xs ≡ true → Writable xs
writable_all xs = (writable_decides xs).0

pub all_writable : (xs : List ℤ) → Writable xs → writable xs ≡ true
all_writable xs = (writable_decides xs).1

row_more : (xs : List ℤ) (k : ℕ) → k < length xs → row_text (take (k + 1) xs) ≡ row_text (take k xs) ++ figure_text_of (get_or xs k (pos 0))
row_more xs k lt = ap row_text (take_more xs k (pos 0) lt) ∙ sym (flat_map_more figure_text_of [] (take k xs) (get_or xs k (pos 0)))

-- one more figure over its columns
pub row_step :
    (xs : List ℤ) (old out part : List ℕ) (k : ℕ) → Writable xs → k < length xs →
    out ≡ row_text (take k xs) ++ drop (20 * k) old → part ≡ figure_text_of (get_or xs k (pos 0)) →
    put_mid (20 * k) (20 * k + 20 - 20 * k) out part ≡ row_text (take (k + 1) xs) ++ drop (20 * (k + 1)) old
row_step xs old out part k all lt is here =
    let l : length (row_text (take k xs)) ≡ 20 * k =
    row_length (take k xs) (All-take (λ x. nat_abs x < 10 ^ 18) k xs all) ∙ ap (λ (n : ℕ). 20 * n) (length-take-le k xs (omega arith)) in
    let f : length part ≡ 20 * k + 20 - 20 * k = omega (arith, ap length here, length_figure (get_or xs k (pos 0)) (all k (pos 0) lt)) in
    let n : 20 * k + 20 ≡ 20 * (k + 1) = omega arith in
    put_to (row_text (take k xs)) old out (20 * k) l is (20 * k + 20) part (omega arith) f ∙ rw (here, row_more xs k lt, n)

pub row_done : (xs : List ℤ) (old out : List ℕ) (k : ℕ) → length xs ≡ k → out ≡ row_text (take k xs) ++ drop (20 * k) old → out ≡ row_text xs ++ drop (20 * length xs) old
row_done xs old out k e is = rw (take_all k xs (omega arith), ← e) at is

-- why a row is not written
module _ (xs : List ℤ) (room : ℕ) where
  pub row_wide : (Writable xs → ⊥) → row_refusal xs room ≡ Some 11
  row_wide never = rw (false_from_ne_true (writable xs) (λ e. never (writable_all xs e))) refl

  pub row_short : Writable xs → (20 * length xs ≤ room → ⊥) → row_refusal xs room ≡ Some 16
  row_short all never = rw (all_writable xs all, false_from_ne_true (leb (20 * length xs) room) (λ e. never (leb-true (20 * length xs) room e))) refl

  pub row_fits : Writable xs → 20 * length xs ≤ room → row_refusal xs room ≡ None
  row_fits all le = rw (all_writable xs all, le-leb (20 * length xs) room le) refl

pub row_answered : (r : Result Unit Refusal) (P : Type 0) → MatchResult r (λ _. P) (λ _. ⊥) → Writes None r × P
row_answered (Ok done) P h = (tt, h)
row_answered (Err why) P h = absurd h

pub row_bytes : (xs : List ℤ) (old : List ℕ) → Writable xs → row_text xs ++ drop (20 * length xs) old ≡ bytes_after None (row_text xs) old
row_bytes xs old all = ap (λ (n : ℕ). row_text xs ++ drop n old) (sym (row_length xs all))
