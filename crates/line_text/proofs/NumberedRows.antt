-- A numbered row and its fields.
use Rattle.std.proofs.Common.{◌≡◌, ℕ, zero, suc, ◌+◌, ◌-◌, ◌*◌, ◌^◌, ◌<◌, ◌≤◌, true, false, eqb, List, [], ◌∷◌, ◌++◌, length, get_or, take, drop, ℤ, pos, nat_abs, Some, None, sym, refl, ap, ◌∙◌, arith}
use Rattle.std.proofs.lemmas.List.Elements.{All-from_get_or}
use Rattle.std.proofs.lemmas.List.{take_at, drop_at, drop-drop, take-append-drop, drop_all, drop_more, get_or-drop, get_or_at, length-append, ext_get_or, take_rest}
use Rattle.std.proofs.lemmas.Bool.{and_from, and_parts, eq-eqb, eqb-true}
use Rattle.count_text.specs.Columns.{count_text_of, CountIn}
use Rattle.count_text.specs.Forms.{is_count}
use Rattle.count_text.proofs.Columns.{length_count}
use Rattle.count_text.proofs.Forms.{count_number, is_count_lem, is_not_count}
use Rattle.figure_text.specs.Figures.{FigureIn}
use Rattle.figure_text.specs.Forms.{is_figure}
use Rattle.figure_text.specs.Rows.{row_text, figure_field, OneFigure, Filled}
use Rattle.figure_text.proofs.Forms.{figure_number, is_figure_lem, is_not_figure}
use Rattle.figure_text.proofs.Rows.{field_suc, row_from, row_field, row_length}
use Rattle.line_text.specs.NumberedRows.{is_whole, NumberedIn, row_fault, numbered_fault, figures_before}

-- ---- the first figure that is not in its form

-- there is none where each figure is
pub row_clear : (k column : ℕ) (text : List ℕ) → ((i : ℕ) → i < k → (x : ℤ) × FigureIn x (figure_field i text)) → row_fault k column text ≡ None
unfolding row_fault
row_clear zero column text each = refl
row_clear (suc k) column text each =
    let here = each 0 (omega arith) in
    let t : is_figure (take 20 text) ≡ true = is_figure_lem here.0 (take 20 text) here.1 in
    rw t (row_clear k (column + 20) (drop 20 text) (λ i lt. rw (field_suc i text) at (each (suc i) (omega arith))))

-- it is the figure k where those before it are in their form and it is not
pub row_fault_at :
    (n k column at : ℕ) (text : List ℕ) → k < n → at ≡ column + 20 * k → ((i : ℕ) → i < k → (x : ℤ) × FigureIn x (figure_field i text)) → ((x : ℤ) → FigureIn x (figure_field k text) → ⊥) →
    row_fault n column text ≡ Some (record { number = 17; column = at })
unfolding row_fault
row_fault_at zero k column at text lt is each other = absurd (let q : ⊥ = omega arith in q)
row_fault_at (suc n) zero column at text lt is each other =
    let t : is_figure (take 20 text) ≡ false = is_not_figure (take 20 text) other in
    let e : column ≡ at = omega arith in
    rw (t, e)
row_fault_at (suc n) (suc k) column at text lt is each other =
    let here = each 0 (omega arith) in
    let t : is_figure (take 20 text) ≡ true = is_figure_lem here.0 (take 20 text) here.1 in
    rw t (row_fault_at n k (column + 20) at (drop 20 text) (omega arith) (omega arith) (λ i le. rw (field_suc i text) at (each (suc i) (omega arith))) (λ x h. other x (rw (field_suc k text) h)))

-- ---- the length of a line
pub whole_parts : (size : ℕ) (line : List ℕ) → is_whole size line ≡ true → (length line ≡ size) × (get_or line (size - 1) 0 ≡ 10)
whole_parts size line h =
    let p = and_parts (eqb (length line) size) (eqb (get_or line (size - 1) 0) 10) h in
    (eqb-true (length line) size p.0, eqb-true (get_or line (size - 1) 0) 10 p.1)

pub is_whole_lem : (size : ℕ) (line : List ℕ) → length line ≡ size → get_or line (size - 1) 0 ≡ 10 → is_whole size line ≡ true
is_whole_lem size line long end = and_from (eqb (length line) size) (eqb (get_or line (size - 1) 0) 10) (eq-eqb (length line) size long) (eq-eqb (get_or line (size - 1) 0) 10 end)

-- ---- from a numbered row to its fields
module _ (letter w n : ℕ) (xs : List ℤ) (line : List ℕ) (some : 0 < w) (few : w ≤ 18) (h : NumberedIn letter w n xs line) where
  count_length : length (count_text_of w n) ≡ w
  count_length = length_count w n (count_text_of w n) some few (h.0, refl)

  past_letter : drop 1 line ≡ count_text_of w n ++ (row_text xs ++ (10 ∷ []))
  past_letter = ap (λ (l : List ℕ). drop 1 l) h.2

  pub count_of : CountIn w n (take w (drop 1 line))
  count_of = (h.0, ap (λ (l : List ℕ). take w l) past_letter ∙ take_at (count_text_of w n) _ w count_length)

  past_count : drop (1 + w) line ≡ row_text xs ++ (10 ∷ [])
  past_count = sym (drop-drop w 1 line) ∙ ap (λ (l : List ℕ). drop w l) past_letter ∙ drop_at (count_text_of w n) _ w count_length

  pub figure_of : (k : ℕ) → k < length xs → FigureIn (get_or xs k (pos 0)) (figure_field k (drop (1 + w) line))
  figure_of k lt = rw past_count (row_field xs (10 ∷ []) k h.1 lt)

  pub row_whole : is_whole (2 + w + 20 * length xs) line ≡ true
  row_whole =
      let l = ap length h.2 in
      let a = length-append (count_text_of w n) (row_text xs ++ (10 ∷ [])) in
      let b = length-append (row_text xs) (10 ∷ []) in
      let r = row_length xs h.1 in
      let c = count_length in
      let g : get_or (drop (1 + w) line) (20 * length xs) 0 ≡ 10 = rw past_count (get_or_at (row_text xs) 10 [] 0 (20 * length xs) r) in
      let e : 1 + w + 20 * length xs ≡ 2 + w + 20 * length xs - 1 = omega arith in
      let long : length line ≡ 2 + w + 20 * length xs = omega arith in
      is_whole_lem (2 + w + 20 * length xs) line long (rw (get_or-drop (1 + w) line (20 * length xs) 0, e) at g)

  pub no_fault : numbered_fault w (length xs) line ≡ None
  no_fault =
      let a = row_whole in
      let b = is_count_lem w n (take w (drop 1 line)) few count_of in
      let c = row_clear (length xs) (2 + w) (drop (1 + w) line) (λ i lt. (get_or xs i (pos 0), figure_of i lt)) in
      rw (a, b) c

-- ---- from its fields to a numbered row
pub row_of_fields :
    (w n : ℕ) (xs : List ℤ) (line : List ℕ) → is_whole (2 + w + 20 * length xs) line ≡ true → CountIn w n (take w (drop 1 line)) → ((k : ℕ) → k < length xs → FigureIn (get_or xs k (pos 0)) (figure_field k (drop (1 + w) line))) →
    NumberedIn (get_or line 0 0) w n xs line
row_of_fields w n xs line whole count each =
    let p = whole_parts (2 + w + 20 * length xs) line whole in
    let k = 20 * length xs in
    let at : 2 + w + k - 1 ≡ 1 + w + k = omega arith in
    let last : get_or line (1 + w + k) 0 ≡ 10 = rw at at p.1 in
    let end : drop (1 + w + k) line ≡ 10 ∷ [] = drop_more line (1 + w + k) 0 (omega (arith, p.0)) ∙ rw (last, drop_all (1 + w + k + 1) line (omega (arith, p.0))) in
    let f : take k (drop (1 + w) line) ≡ row_text xs = row_from xs (drop (1 + w) line) each in
    let r : drop (1 + w) line ≡ row_text xs ++ (10 ∷ []) = sym (take-append-drop k (drop (1 + w) line)) ∙ rw (f, drop-drop k (1 + w) line, end) in
    let d1 : drop 1 line ≡ count_text_of w n ++ (row_text xs ++ (10 ∷ [])) = sym (take-append-drop w (drop 1 line)) ∙ rw (count.1, drop-drop w 1 line, r) in
    let d0 : line ≡ get_or line 0 0 ∷ drop 1 line = drop_more line 0 0 (omega (arith, p.0)) in
    (count.0, All-from_get_or (λ x. nat_abs x < 10 ^ 18) xs (pos 0) (λ i lt. (each i lt).0), d0 ∙ rw d1)

-- ---- a line is one numbered row at most
pub same_row :
    (letter other w n m : ℕ) (xs ys : List ℤ) (line : List ℕ) → 0 < w → w ≤ 18 → length xs ≡ length ys → NumberedIn letter w n xs line → NumberedIn other w m ys line → (n ≡ m) × (xs ≡ ys)
same_row letter other w n m xs ys line some few long h g =
    let number : n ≡ m = sym (count_number w n _ few (count_of letter w n xs line some few h)) ∙ count_number w m _ few (count_of other w m ys line some few g) in
    let each : (i : ℕ) → i < length xs → get_or xs i (pos 0) ≡ get_or ys i (pos 0) =
    λ i lt. sym (figure_number _ _ (figure_of letter w n xs line some few h i lt)) ∙ figure_number _ _ (figure_of other w m ys line some few g i (omega arith)) in
    (number, ext_get_or (pos 0) xs ys long each)

-- ---- what a reader finds
module _ (w n : ℕ) (line : List ℕ) (whole : is_whole (2 + w + 20 * n) line ≡ true) where
  pub count_fault : ((m : ℕ) → CountIn w m (take w (drop 1 line)) → ⊥) → numbered_fault w n line ≡ Some (record { number = 17; column = 2 })
  count_fault never = let t : is_count w (take w (drop 1 line)) ≡ false = is_not_count w (take w (drop 1 line)) never in rw (whole, t)

  module _ (m : ℕ) (few : w ≤ 18) (count : CountIn w m (take w (drop 1 line))) where
    pub figure_fault :
        (k : ℕ) → k < n → ((i : ℕ) → i < k → (x : ℤ) × FigureIn x (figure_field i (drop (1 + w) line))) → ((x : ℤ) → FigureIn x (figure_field k (drop (1 + w) line)) → ⊥) →
        numbered_fault w n line ≡ Some (record { number = 17; column = 1 + w + 1 + 20 * k })
    figure_fault k lt each other =
        let t : is_count w (take w (drop 1 line)) ≡ true = is_count_lem w m (take w (drop 1 line)) few count in
        let e : 1 + w + 1 + 20 * k ≡ 2 + w + 20 * k = omega arith in
        rw (whole, t) (row_fault_at n k (2 + w) (1 + w + 1 + 20 * k) (drop (1 + w) line) lt e each other)

    pub clear : ((i : ℕ) → i < n → (x : ℤ) × FigureIn x (figure_field i (drop (1 + w) line))) → numbered_fault w n line ≡ None
    clear each =
        let t : is_count w (take w (drop 1 line)) ≡ true = is_count_lem w m (take w (drop 1 line)) few count in
        rw (whole, t) (row_clear n (2 + w) (drop (1 + w) line) each)

-- nothing is read before the first figure
pub nothing_filled : (w column : ℕ) (text : List ℕ) (places : List ℤ) → column ≤ 2 → Filled (figures_before w column) text places places
nothing_filled w column text places le =
    let z : figures_before w column ≡ 0 = omega arith in
    let none : (i : ℕ) → i < figures_before w column → OneFigure (get_or places i (pos 0)) (figure_field i text) = λ i lt. absurd (let q : ⊥ = omega arith in q) in
    (none, refl)

pub before_figure : (w k : ℕ) → figures_before w (1 + w + 1 + 20 * k) ≡ k
before_figure w k = let e : 1 + w + 1 + 20 * k - (2 + w) ≡ 20 * k = omega arith in rw e (omega arith)

-- the parts of a line as its reader cuts them
pub count_part : (w r : ℕ) (line : List ℕ) → r ≡ w → take (1 + r - 1) (drop 1 line) ≡ take w (drop 1 line)
count_part w r line e = let f : 1 + r - 1 ≡ w = omega arith in ap (λ (n : ℕ). take n (drop 1 line)) f

pub row_part : (w r : ℕ) (line : List ℕ) → r ≡ w → take (length line - (1 + r)) (drop (1 + r) line) ≡ drop (1 + w) line
row_part w r line e = take_rest line (1 + r) ∙ ap (λ (n : ℕ). drop (1 + n) line) e
