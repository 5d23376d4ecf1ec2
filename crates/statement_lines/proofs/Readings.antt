-- A line writes one thing at most, and nothing where it has a fault.
use Rattle.std.proofs.Common.{◌≡◌, ℕ, true, false, eqb, List, [], ◌∷◌, get_or, take, drop, ℤ, IfOk, Some, None, Ok, Result, sym, refl, ap, ◌∙◌, arith}
use Rattle.std.proofs.lemmas.Bool.{true≢false}
use Rattle.count_text.specs.Forms.{number_in}
use Rattle.count_text.proofs.Forms.{count_number}
use Rattle.line_text.specs.Faults.{Judged}
use Rattle.line_text.specs.Letters.{letter_of, is_letter}
use Rattle.line_text.specs.declared.fault.LineFault.{LineFault}
use Rattle.line_text.specs.NumberedRows.{NumberedIn, numbered_fault}
use Rattle.line_text.proofs.NumberedRows.{count_of, no_fault, same_row}
use Rattle.line_text.proofs.Readers.{read_back}
use Rattle.statement_lines.specs.declared.opening.Opening.{Opening as OpeningOf}
use Rattle.statement_lines.specs.declared.statement_line.StatementLine.{StatementLine}
use Rattle.statement_lines.specs.declared.statement_line.StatementLine.TheVariants.{Opening, Record, Tail}
use Rattle.statement_lines.specs.declared.record.SettlementRecord.{SettlementRecord}
use Rattle.statement_lines.specs.Kinds.{LineIn, line_fault}
use Rattle.statement_lines.specs.Openings.{quarter_hours_of, opening_text, opening_fault}
use Rattle.statement_lines.specs.Records.{figures_of, RecordIn, TailIn}
use Rattle.statement_lines.proofs.Openings.{length_field, opening_clear, same_opening}

-- ---- the letter of a line
letter_tells : (line : List ℕ) (b c : ℕ) → Some b ≡ letter_of line → is_letter c line ≡ eqb b c
letter_tells [] b c e = absurd (let z : ◌≡◌ {A = ℕ} 0 1 = cc in let q : ⊥ = omega arith in q)
letter_tells (x ∷ xs) b c e = let f : x ≡ b = cc in ap (λ (n : ℕ). eqb n c) f

letter_first : (line : List ℕ) (b : ℕ) → Some b ≡ letter_of line → get_or line 0 0 ≡ b
letter_first [] b e = absurd (let z : ◌≡◌ {A = ℕ} 0 1 = cc in let q : ⊥ = omega arith in q)
letter_first (x ∷ xs) b e = cc

pub opening_letter : (line : List ℕ) → Some 68 ≡ letter_of line → (line_fault line ≡ opening_fault line) × (get_or line 0 0 ≡ 68)
opening_letter line e = (rw (letter_tells line 68 68 e), letter_first line 68 e)

pub record_letter : (line : List ℕ) → Some 73 ≡ letter_of line → (line_fault line ≡ numbered_fault 3 8 line) × (get_or line 0 0 ≡ 73)
record_letter line e = (rw (letter_tells line 73 68 e, letter_tells line 73 73 e), letter_first line 73 e)

pub tail_letter : (line : List ℕ) → Some 84 ≡ letter_of line → (line_fault line ≡ numbered_fault 3 6 line) × (get_or line 0 0 ≡ 84)
tail_letter line e = (rw (letter_tells line 84 68 e, letter_tells line 84 73 e, letter_tells line 84 84 e), letter_first line 84 e)

-- ---- what a line writes

-- records with the same figures are the same
same_record : (a b : SettlementRecord) → figures_of a ≡ figures_of b → a ≡ b
same_record a b e =
    let e0 : a.recognised.units ≡ b.recognised.units = cc in
    let e1 : a.missing.units ≡ b.missing.units = cc in
    let e2 : a.upward_deviation.units ≡ b.upward_deviation.units = cc in
    let e3 : a.downward_deviation.units ≡ b.downward_deviation.units = cc in
    let e4 : a.upward_energy.units ≡ b.upward_energy.units = cc in
    let e5 : a.downward_energy.units ≡ b.downward_energy.units = cc in
    let e6 : a.upward_share.units ≡ b.upward_share.units = cc in
    let e7 : a.downward_share.units ≡ b.downward_share.units = cc in
    λ i. record {
      recognised = record { units = e0 i };
      missing = record { units = e1 i };
      upward_deviation = record { units = e2 i };
      downward_deviation = record { units = e3 i };
      upward_energy = record { units = e4 i };
      downward_energy = record { units = e5 i };
      upward_share = record { units = e6 i };
      downward_share = record { units = e7 i };
    }

-- the letters of the three kinds
first_of_lem : (letter c w n : ℕ) (xs : List ℤ) (line : List ℕ) → NumberedIn letter w n xs line → is_letter c line ≡ eqb letter c
first_of_lem letter c w n xs line h = ap (λ (l : List ℕ). is_letter c l) h.2

-- the letters of a line, and the numbers behind them
pub opening_shows : (o : OpeningOf) (line : List ℕ) → line ≡ opening_text o → (is_letter 68 line ≡ true) × (number_in (take 3 (drop 7 line)) ≡ quarter_hours_of o.length)
opening_shows o line h = (ap (λ (l : List ℕ). is_letter 68 l) h, count_number 3 _ _ (omega arith) (length_field o line (ap (λ (l : List ℕ). drop 1 l) h)))

pub record_shows : (n : ℕ) (r : SettlementRecord) (line : List ℕ) → RecordIn n r line → (is_letter 68 line ≡ false) × (is_letter 73 line ≡ true) × (number_in (take 3 (drop 1 line)) ≡ n)
record_shows n r line h =
    (first_of_lem 73 68 3 n (figures_of r) line h, first_of_lem 73 73 3 n (figures_of r) line h, count_number 3 n _ (omega arith) (count_of 73 3 n (figures_of r) line (omega arith) (omega arith) h))

pub tail_shows : (n : ℕ) (xs : List ℤ) (line : List ℕ) → TailIn n xs line → (is_letter 68 line ≡ false) × (is_letter 73 line ≡ false) × (is_letter 84 line ≡ true) × (number_in (take 3 (drop 1 line)) ≡ n)
tail_shows n xs line h =
    (first_of_lem 84 68 3 n xs line h.1, first_of_lem 84 73 3 n xs line h.1, first_of_lem 84 84 3 n xs line h.1, count_number 3 n _ (omega arith) (count_of 84 3 n xs line (omega arith) (omega arith) h.1))

-- a line that writes something has no fault
pub line_clear : (read : StatementLine) (line : List ℕ) → LineIn read line → line_fault line ≡ None
line_clear (Opening o) line h =
    let a : is_letter 68 line ≡ true = ap (λ (l : List ℕ). is_letter 68 l) h in
    rw a (opening_clear o line (ap (λ (l : List ℕ). drop 1 l) h))
line_clear (Record r) line h =
    let a : is_letter 68 line ≡ false = first_of_lem 73 68 3 _ (figures_of r.«record») line h in
    let b : is_letter 73 line ≡ true = first_of_lem 73 73 3 _ (figures_of r.«record») line h in
    rw (a, b) (no_fault 73 3 _ (figures_of r.«record») line (omega arith) (omega arith) h)
line_clear (Tail t) line h =
    let a : is_letter 68 line ≡ false = first_of_lem 84 68 3 _ t.requests line h.1 in
    let b : is_letter 73 line ≡ false = first_of_lem 84 73 3 _ t.requests line h.1 in
    let c : is_letter 84 line ≡ true = first_of_lem 84 84 3 _ t.requests line h.1 in
    let f = no_fault 84 3 _ t.requests line (omega arith) (omega arith) h.1 in
    rw (a, b, c) (rw h.0 at f)

-- a line writes one thing at most
pub same_line : (a b : StatementLine) (line : List ℕ) → LineIn a line → LineIn b line → a ≡ b
same_line (Opening o) (Opening p) line h g = ap Opening (same_opening o p line (ap (λ (l : List ℕ). drop 1 l) h) (ap (λ (l : List ℕ). drop 1 l) g))
same_line (Opening o) (Record r) line h g = absurd (true≢false (sym (ap (λ (l : List ℕ). is_letter 68 l) h) ∙ first_of_lem 73 68 3 _ (figures_of r.«record») line g))
same_line (Opening o) (Tail t) line h g = absurd (true≢false (sym (ap (λ (l : List ℕ). is_letter 68 l) h) ∙ first_of_lem 84 68 3 _ t.requests line g.1))
same_line (Record r) (Opening o) line h g = absurd (true≢false (sym (ap (λ (l : List ℕ). is_letter 68 l) g) ∙ first_of_lem 73 68 3 _ (figures_of r.«record») line h))
same_line (Record r) (Record s) line h g =
    let e = same_row 73 73 3 r.quarter_hour s.quarter_hour (figures_of r.«record») (figures_of s.«record») line (omega arith) (omega arith) refl h g in
    let f = same_record r.«record» s.«record» e.1 in
    λ i. Record (record { quarter_hour = e.0 i; «record» = f i })
same_line (Record r) (Tail t) line h g = absurd (true≢false (sym (first_of_lem 73 73 3 _ (figures_of r.«record») line h) ∙ first_of_lem 84 73 3 _ t.requests line g.1))
same_line (Tail t) (Opening o) line h g = absurd (true≢false (sym (ap (λ (l : List ℕ). is_letter 68 l) g) ∙ first_of_lem 84 68 3 _ t.requests line h.1))
same_line (Tail t) (Record r) line h g = absurd (true≢false (sym (first_of_lem 73 73 3 _ (figures_of r.«record») line g) ∙ first_of_lem 84 73 3 _ t.requests line h.1))
same_line (Tail t) (Tail u) line h g =
    let e = same_row 84 84 3 t.closed u.closed t.requests u.requests line (omega arith) (omega arith) (h.0 ∙ sym g.0) h.1 g.1 in
    λ i. Tail (record { closed = e.0 i; requests = e.1 i })

-- a reader that answers the first fault, or what the line writes, answers whatever the line writes
pub reads_back :
    (line : List ℕ) (r : Result StatementLine LineFault) → Judged (line_fault line) r → IfOk r (λ read. LineIn read line) → (read : StatementLine) → LineIn read line → r ≡ Ok read
reads_back line r judged is = read_back (λ read. LineIn read line) (line_fault line) (λ a b. same_line a b line) (λ read. line_clear read line) r is judged
