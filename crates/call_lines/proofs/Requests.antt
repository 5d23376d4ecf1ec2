-- A line is one request at most and then has no fault; the fault that is computed is of the first check that fails.
use Rattle.std.proofs.Common.{◌≡◌, ℕ, zero, suc, ◌+◌, ◌*◌, ◌<◌, ◌↔◌, Bool, true, false, Decides, List, [], ◌∷◌, get_or, take, drop, ℤ, IfOk, IfErr, Some, None, Ok, Err, Option, Result, sym, refl, ap, ◌∙◌, arith}
use Rattle.std.proofs.lemmas.Bool.{eq-eqb, false≢true}
use Rattle.quantity.specs.Refusals.{number_of}
use Rattle.count_text.specs.Forms.{number_in, is_count}
use Rattle.count_text.proofs.Forms.{count_in, is_count_lem}
use Rattle.figure_text.specs.Figures.{FigureIn}
use Rattle.figure_text.specs.Forms.{figure_in, is_figure}
use Rattle.figure_text.specs.Rows.{figure_field}
use Rattle.figure_text.proofs.Forms.{figure_in_lem, is_figure_lem}
use Rattle.figure_text.proofs.Rows.{field_suc}
use Rattle.line_text.specs.Faults.{Fault, Judged, first_of, unless_at}
use Rattle.line_text.specs.Letters.{is_letter}
use Rattle.line_text.specs.NumberedRows.{is_whole, numbered_fault, row_fault}
use Rattle.line_text.specs.declared.fault.LineFault.{LineFault}
use Rattle.line_text.proofs.Readers.{letter_is, read_back, fault_of, taken_of}
use Rattle.line_text.proofs.NumberedRows.{is_whole_lem, no_fault, same_row, whole_parts}
use Rattle.call_lines.specs.declared.request_line.RequestLine.{RequestLine}
use Rattle.call_lines.specs.RequestLines.{RequestIn, Passes, FirstFault, check_column, check_number, request_fault}

pub request_clear : (line : List ℕ) (q : RequestLine) → RequestIn q line → request_fault line ≡ None
request_clear line q h =
    let e : is_letter 81 line ≡ true = ap (λ (l : List ℕ). is_letter 81 l) h.1.2 in
    rw e (rw h.0 at (no_fault 81 2 q.minute q.samples line (omega arith) (omega arith) h.1))

pub same_request : (line : List ℕ) (q p : RequestLine) → RequestIn q line → RequestIn p line → q ≡ p
same_request line q p h g =
    let same = same_row 81 81 2 q.minute p.minute q.samples p.samples line (omega arith) (omega arith) (h.0 ∙ sym g.0) h.1 g.1 in
    let f : ℕ → RequestLine = λ n. record { minute = n; samples = q.samples } in
    let k : List ℤ → RequestLine = λ xs. record { minute = p.minute; samples = xs } in
    ap f same.0 ∙ ap k same.1

pub request_read :
    (line : List ℕ) (r : Result RequestLine LineFault) → IfOk r (λ q. RequestIn q line) → Judged (request_fault line) r → (q : RequestLine) → RequestIn q line → r ≡ Ok q
request_read line = read_back (λ q. RequestIn q line) (request_fault line) (same_request line) (request_clear line)

-- ---- what stands behind the letter
module _ (line : List ℕ) (letter : is_letter 81 line ≡ true) where
  behind_letter_lem : numbered_fault 2 60 line ≡ request_fault line
  behind_letter_lem = rw letter refl

  pub request_refused : (e : LineFault) → Judged {A = ℕ} (numbered_fault 2 60 line) (Err e) → Judged {A = RequestLine} (request_fault line) (Err e)
  request_refused e h = fault_of ℕ RequestLine (request_fault line) e (rw behind_letter_lem at h)

  pub request_taken : (n : ℕ) (q : RequestLine) → Judged (numbered_fault 2 60 line) (Ok n) → Judged (request_fault line) (Ok q)
  request_taken n q h = taken_of (request_fault line) n q (rw behind_letter_lem at h)

-- ---- the first check that fails
-- a fault, where there is one, is of the first of n checks that fails, with that check's number and column
abbrev IsFirst : ℕ → (ℕ → Type 0) → (ℕ → ℕ) → (ℕ → ℕ) → Option Fault → Type 0
IsFirst n Passed number column (Some fault) =
    (j : ℕ) × (j < n) × ((i : ℕ) → i < j → Passed i) × (Passed j → ⊥) × (fault.number ≡ number j) × (fault.column ≡ column j)
IsFirst n Passed number column None = Unit {0}

one_more : (Passed : ℕ → Type 0) (j : ℕ) → Passed 0 → ((i : ℕ) → i < j → Passed (suc i)) → (i : ℕ) → i < suc j → Passed i
one_more Passed j here later zero lt = here
one_more Passed j here later (suc i) lt = later i (omega arith)

check_first :
    (n : ℕ) (Passed : ℕ → Type 0) (number column : ℕ → ℕ) (test : Bool) (here at : ℕ) (later : Option Fault) → here ≡ number 0 → at ≡ column 0 → Decides test (Passed 0) →
    IsFirst n (λ i. Passed (suc i)) (λ i. number (suc i)) (λ i. column (suc i)) later → IsFirst (suc n) Passed number column (first_of (unless_at test here at) later)
check_first n Passed number column true here at (Some fault) same place d h = (suc h.0, omega (arith, h.1), one_more Passed h.0 (d.0 refl) h.2, h.3, h.4, h.5)
check_first n Passed number column true here at None same place d h = tt
check_first n Passed number column false here at later same place d h = (0, omega arith, (λ i lt. absurd (let q : ⊥ = omega arith in q)), (λ p. false≢true (d.1 p)), same, place)

figure_decides : (text : List ℕ) → Decides (is_figure text) ((x : ℤ) × FigureIn x text)
figure_decides text = (λ e. (figure_in text, figure_in_lem text e), λ h. is_figure_lem h.0 text h.1)

row_first :
    (n at : ℕ) (text : List ℕ) (Passed : ℕ → Type 0) (number column : ℕ → ℕ) → ((i : ℕ) → Passed i ↔ ((x : ℤ) × FigureIn x (figure_field i text))) → ((i : ℕ) → number i ≡ 17) → ((i : ℕ) → column i ≡ at + 20 * i) →
    IsFirst n Passed number column (row_fault n at text)
unfolding row_fault
row_first zero at text Passed number column field always place = tt
row_first (suc n) at text Passed number column field always place =
    let here = figure_decides (take 20 text) in
    check_first n Passed number column (is_figure (take 20 text)) 17 at (row_fault n (at + 20) (drop 20 text)) (sym (always 0)) (let p = place 0 in omega arith)
    (λ e. (field 0).1 (here.0 e), λ p. here.1 ((field 0).0 p))
    (row_first n (at + 20) (drop 20 text) (λ i. Passed (suc i)) (λ i. number (suc i)) (λ i. column (suc i)) (λ i. rw (field_suc i text) at (field (suc i))) (λ i. always (suc i)) (λ i. let p = place (suc i) in omega arith))

is_letter_lem : (letter : ℕ) (line : List ℕ) → 0 < letter → get_or line 0 0 ≡ letter → is_letter letter line ≡ true
is_letter_lem letter [] some e = absurd (let q : ⊥ = omega arith in q)
is_letter_lem letter (b ∷ bs) some e = eq-eqb b letter e

request_first : (line : List ℕ) → IsFirst 63 (λ j. Passes j line) check_number check_column (request_fault line)
request_first line =
    let minute = take 2 (drop 1 line) in
    check_first 62 (λ j. Passes j line) check_number check_column (is_letter 81 line) 18 1 _ refl refl (letter_is 81 line, is_letter_lem 81 line (omega arith))
    (check_first 61 (λ j. Passes (suc j) line) (λ j. check_number (suc j)) (λ j. check_column (suc j)) (is_whole 1204 line) 18 1 _ refl refl (whole_parts 1204 line, λ h. is_whole_lem 1204 line h.0 h.1)
    (check_first 60 (λ j. Passes (suc (suc j)) line) (λ j. check_number (suc (suc j))) (λ j. check_column (suc (suc j))) (is_count 2 minute) 17 2 _ refl refl (λ e. (number_in minute, count_in 2 minute e), λ h. is_count_lem 2 h.0 minute (omega arith) h.1)
    (row_first 60 4 (drop 3 line) (λ j. Passes (suc (suc (suc j))) line) (λ j. check_number (suc (suc (suc j)))) (λ j. check_column (suc (suc (suc j)))) (λ i. (λ h. h, λ h. h)) (λ i. refl) (λ i. refl))))

pub first_fault : (line : List ℕ) (r : Result RequestLine LineFault) → Judged (request_fault line) r → IfErr r (λ fault. FirstFault line (number_of fault.refusal) fault.column)
first_fault line (Ok q) h = tt
first_fault line (Err found) h = told (request_fault line) (request_first line) h
  where
    told : (fault : Option Fault) → IsFirst 63 (λ j. Passes j line) check_number check_column fault → Judged {A = RequestLine} fault (Err found) → FirstFault line (number_of found.refusal) found.column
    told (Some fault) first same = rw (same.0, same.1) first
    told None first same = absurd same
