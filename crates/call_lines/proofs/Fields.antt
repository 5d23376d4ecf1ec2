-- The fields of a request's line.
use Rattle.std.proofs.Common.{◌≡◌, ℕ, zero, suc, ◌+◌, ◌*◌, ◌<◌, true, List, length, get_or, take, drop, ℤ, pos, refl, ap, arith}
use Rattle.count_text.specs.Columns.{CountIn}
use Rattle.figure_text.specs.Figures.{FigureIn}
use Rattle.figure_text.specs.Rows.{figure_field, OneFigure, Filled}
use Rattle.line_text.specs.NumberedRows.{is_whole, NumberedIn}
use Rattle.line_text.proofs.NumberedRows.{is_whole_lem, whole_parts, row_whole, count_of, figure_of, row_of_fields}
use Rattle.call_lines.specs.declared.request_line.RequestLine.{RequestLine}
use Rattle.call_lines.specs.RequestLines.{RequestIn, Passes, FirstFault}
use Rattle.call_lines.proofs.Requests.{same_request}

-- ---- from a request to its fields
module _ (line : List ℕ) (q : RequestLine) (h : RequestIn q line) where
  pub letter_of_lem : get_or line 0 0 ≡ 81
  letter_of_lem = ap (λ (l : List ℕ). get_or l 0 0) h.1.2

  pub whole_of : (length line ≡ 1204) × (get_or line 1203 0 ≡ 10)
  whole_of = whole_parts 1204 line (rw h.0 at (row_whole 81 2 q.minute q.samples line (omega arith) (omega arith) h.1))

  pub passes_all : (j : ℕ) → j < 63 → Passes j line
  passes_all zero lt = letter_of_lem
  passes_all (suc zero) lt = whole_of
  passes_all (suc (suc zero)) lt = (q.minute, count_of 81 2 q.minute q.samples line (omega arith) (omega arith) h.1)
  passes_all (suc (suc (suc k))) lt = (get_or q.samples k (pos 0), figure_of 81 2 q.minute q.samples line (omega arith) (omega arith) h.1 k (omega (arith, h.0)))

-- ---- from its fields to a request
module _ (line : List ℕ) (letter : get_or line 0 0 ≡ 81) (whole : (length line ≡ 1204) × (get_or line 1203 0 ≡ 10)) where
  pub request_from : (q : RequestLine) → length q.samples ≡ 60 → CountIn 2 q.minute (take 2 (drop 1 line)) → ((k : ℕ) → k < 60 → FigureIn (get_or q.samples k (pos 0)) (figure_field k (drop 3 line))) → RequestIn q line
  request_from q sixty count each =
      let size : is_whole (2 + 2 + 20 * length q.samples) line ≡ true = rw sixty (is_whole_lem 1204 line whole.0 whole.1) in
      let row : NumberedIn (get_or line 0 0) 2 q.minute q.samples line = row_of_fields 2 q.minute q.samples line size count (λ k lt. each k (omega arith)) in
      (sixty, rw letter at row)

  -- and to no other
  pub request_alone : (q p : RequestLine) → RequestIn p line → q.minute ≡ p.minute → length q.samples ≡ 60 → ((k : ℕ) → k < 60 → OneFigure (get_or q.samples k (pos 0)) (figure_field k (drop 3 line))) → q ≡ p
  request_alone q p h same sixty each =
      let count = count_of 81 2 p.minute p.samples line (omega arith) (omega arith) h.1 in
      same_request line q p (request_from q sixty (rw same count) (λ k lt. (each k lt).0)) h

-- ---- faults
pub whole_fault : (line : List ℕ) → Passes 0 line → (Passes 1 line → ⊥) → FirstFault line 18 1
whole_fault line letter other = (1, omega arith, λ i lt. (let z : i ≡ 0 = omega arith in rw z letter), other, refl, refl)

before_figures : (line : List ℕ) (k : ℕ) → Passes 0 line → Passes 1 line → Passes 2 line → ((i : ℕ) → i < k → Passes (suc (suc (suc i))) line) → (i : ℕ) → i < suc (suc (suc k)) → Passes i line
before_figures line k a b c rest zero lt = a
before_figures line k a b c rest (suc zero) lt = b
before_figures line k a b c rest (suc (suc zero)) lt = c
before_figures line k a b c rest (suc (suc (suc i))) lt = rest i (omega arith)

pub minute_fault : (line : List ℕ) → Passes 0 line → Passes 1 line → (Passes 2 line → ⊥) → FirstFault line 17 2
minute_fault line letter whole other = (2, omega arith, two, other, refl, refl)
  where
    two : (i : ℕ) → i < 2 → Passes i line
    two zero lt = letter
    two (suc zero) lt = whole
    two (suc (suc i)) lt = absurd (let q : ⊥ = omega arith in q)

pub sample_fault : (line : List ℕ) (k : ℕ) (old new : List ℤ) → k < 60 → Passes 0 line → Passes 1 line → Passes 2 line → Filled k (drop 3 line) old new → ((x : ℤ) → FigureIn x (figure_field k (drop 3 line)) → ⊥) → FirstFault line 17 (4 + 20 * k)
sample_fault line k old new lt a b c filled other = (suc (suc (suc k)), omega arith, before_figures line k a b c (λ i le. (get_or new i (pos 0), (filled.0 i le).0)), λ g. other g.0 g.1, refl, refl)

-- a line with a fault is no request's
pub fault_alone : (line : List ℕ) (number column : ℕ) → FirstFault line number column → (q : RequestLine) → RequestIn q line → ⊥
fault_alone line number column f q h = f.3 (passes_all line q h f.0 f.1)
