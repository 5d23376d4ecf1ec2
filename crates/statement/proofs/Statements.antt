-- The text of a statement has no fault, and is the text of one statement only.
use Rattle.std.proofs.Common.{◌≡◌, ℕ, ◌+◌, ◌^◌, ◌<◌, ◌≤◌, true, List, [], ◌∷◌, ◌++◌, length, get_or, drop, ℤ, Some, None, sym, refl, ap, ◌∙◌, arith}
use Rattle.std.specs.List.{All, AllByRecursion}
use Rattle.std.proofs.lemmas.List.Elements.{All-head, All-tail}
use Rattle.std.proofs.ByRecursion.{All-append}
use Rattle.std.proofs.lemmas.List.{append_assoc, append-nil}
use Rattle.std.proofs.lemmas.Bool.{and_from, eq-eqb, lt-ltb}
use Rattle.count_text.specs.Columns.{count_text_of}
use Rattle.count_text.proofs.Forms.{count_one_line}
use Rattle.figure_text.specs.Rows.{row_text}
use Rattle.figure_text.proofs.Forms.{row_one_line}
use Rattle.text_parts.specs.Lines.{lines_of}
use Rattle.text_parts.proofs.Front.{lines-first}
use Rattle.line_text.specs.NumberedRows.{numbered_text}
use Rattle.statement_lines.specs.declared.opening.Opening.{Opening as OpeningOf}
use Rattle.statement_lines.specs.declared.record.SettlementRecord.{SettlementRecord}
use Rattle.statement_lines.specs.declared.statement_line.StatementLine.{StatementLine}
use Rattle.statement_lines.specs.declared.statement_line.StatementLine.TheVariants.{Opening, Record, Tail}
use Rattle.statement_lines.specs.Kinds.{LineIn}
use Rattle.statement_lines.specs.Openings.{quarter_hours_of, opening_text}
use Rattle.statement_lines.specs.Records.{figures_of, record_text, tail_text}
use Rattle.statement_lines.proofs.Openings.{same_opening}
use Rattle.statement_lines.proofs.Readings.{same_line}
use Rattle.statement.specs.declared.stage.Stage.{Stage}
use Rattle.statement.specs.declared.stage.Stage.TheVariants.{BeforeOpening, InRecords, AfterTail}
use Rattle.statement.specs.Reading.{fault_from, text_fault}
use Rattle.figure_text.specs.Rows.{Writable}
use Rattle.statement.specs.Statements.{records_text, StatementIn}
use Rattle.statement.specs.Turns.{record_comes, stage_after}
use Rattle.statement.proofs.Fits.{Fits, hundred}
use Rattle.statement.proofs.Reading.{line_next}
use Rattle.statement.proofs.Turns.{turn-taken}

-- ---- each line of a statement ends with its only LF
one_line : (line front rest : List ℕ) → line ≡ front ++ (10 ∷ []) → AllByRecursion (λ b. b ≡ 10 → ⊥) front → lines_of (line ++ rest) ≡ line ∷ lines_of rest
one_line line front rest e all =
    ap (λ (t : List ℕ). lines_of (t ++ rest)) e ∙ ap lines_of (append_assoc front (10 ∷ []) rest) ∙ lines-first front rest all ∙ ap (λ (t : List ℕ). t ∷ lines_of rest) (sym e)

numbered_first : (letter n : ℕ) (xs : List ℤ) (rest : List ℕ) → (letter ≡ 10 → ⊥) → n < 10 ^ 3 → Writable xs → lines_of (numbered_text letter 3 n xs ++ rest) ≡ numbered_text letter 3 n xs ∷ lines_of rest
numbered_first letter n xs rest other small fit =
    one_line (numbered_text letter 3 n xs) (letter ∷ (count_text_of 3 n ++ row_text xs)) rest (ap (λ (t : List ℕ). letter ∷ t) (sym (append_assoc (count_text_of 3 n) (row_text xs) (10 ∷ []))))
    (other, All-append (λ b. b ≡ 10 → ⊥) (count_text_of 3 n) (row_text xs) (count_one_line 3 n (count_text_of 3 n) (omega arith) (small, refl)) (row_one_line xs (fit)))

opening_first : (o : OpeningOf) (rest : List ℕ) → lines_of (opening_text o ++ rest) ≡ opening_text o ∷ lines_of rest
opening_first o rest =
    let a = count_text_of 6 o.day.number in
    let b = count_text_of 3 (quarter_hours_of o.length) in
    let c = count_text_of 1 o.groups.number in
    let front = 68 ∷ ((a ++ b) ++ c) in
    let groups = o.groups.most in
    let day = o.day.most in
    let all : AllByRecursion (λ x. x ≡ 10 → ⊥) front = (
      λ e. omega arith,
      All-append (λ x. x ≡ 10 → ⊥) (a ++ b) c
          (All-append (λ x. x ≡ 10 → ⊥) a b (count_one_line 6 o.day.number a (omega arith) (omega arith, refl)) (count_one_line 3 (quarter_hours_of o.length) b (omega arith) (omega (arith, hundred o.length), refl)))
          (count_one_line 1 o.groups.number c (omega arith) (omega arith, refl)),
    ) in
    let e : opening_text o ≡ front ++ (10 ∷ []) = ap (λ (t : List ℕ). 68 ∷ t) (sym (append_assoc (a ++ b) c (10 ∷ []) ∙ append_assoc a b (c ++ (10 ∷ [])))) in
    one_line (opening_text o) front rest e all

-- ---- the lines of records and of a tail
abbrev record_content : ℕ → SettlementRecord → StatementLine
record_content n r = Record (record { quarter_hour = n; «record» = r })

abbrev tail_content : ℕ → List ℤ → StatementLine
tail_content n xs = Tail (record { closed = n; requests = xs })

record_in : (n : ℕ) (r : SettlementRecord) (line : List ℕ) → n < 10 ^ 3 → Fits r → line ≡ record_text n r → LineIn (record_content n r) line
record_in n r line small fits is = (small, fits, is)

tail_in : (n : ℕ) (xs : List ℤ) (line : List ℕ) → n < 10 ^ 3 → length xs ≡ 6 → Writable xs → line ≡ tail_text n xs → LineIn (tail_content n xs) line
tail_in n xs line small six fit is = (six, (small, fit, is))

-- ---- no line of a statement has a fault
passed : (stage next : Stage) (content : StatementLine) (number : ℕ) (line : List ℕ) (lines : List (List ℕ)) → LineIn content line → Some next ≡ stage_after stage content → fault_from next (number + 1) lines ≡ None → fault_from stage number (line ∷ lines) ≡ None
passed stage next content number line lines is turn rest =
    let p = turn-taken stage content line is next turn in
    line_next stage number line lines ∙ rw (p.0, ← p.1) rest

module _ (hours : ℕ) (requests : List ℤ) (top : hours ≤ 100) (six : length requests ≡ 6) (fit : Writable requests) where
  records_clear :
      (closed number : ℕ) (rs : List SettlementRecord) → closed + length rs ≤ hours → All Fits rs →
      fault_from (InRecords hours closed) number (lines_of (records_text (closed + 1) rs ++ tail_text (closed + length rs) requests)) ≡ None
  unfolding fault_from
  records_clear closed number [] le fits =
      let z : closed + 0 ≡ closed = omega arith in
      let first = numbered_first 84 closed requests [] (λ e. omega arith) (omega arith) fit in
      let line = tail_text closed requests in
      let is = tail_in closed requests line (omega arith) six fit refl in
      let turn : Some AfterTail ≡ stage_after (InRecords hours closed) (Tail (record { closed = closed; requests = requests })) = let t = eq-eqb closed closed refl in rw t refl in
      let lines : lines_of line ≡ line ∷ [] = sym (ap lines_of (append-nil line)) ∙ first in
      rw z (rw lines (passed (InRecords hours closed) AfterTail (Tail (record { closed = closed; requests = requests })) number line [] is turn refl))
  records_clear closed number (r ∷ rs) le fits =
      let n = closed + 1 in
      let line = record_text n r in
      let rest = records_text (n + 1) rs ++ tail_text (n + length rs) requests in
      let e : closed + length (r ∷ rs) ≡ n + length rs = omega arith in
      let first = numbered_first 73 n (figures_of r) rest (λ e. omega arith) (omega arith) (All-head Fits r rs fits) in
      let content : StatementLine = Record (record { quarter_hour = n; «record» = r }) in
      let is = record_in n r line (omega arith) (All-head Fits r rs fits) refl in
      let turn : Some (InRecords hours n) ≡ stage_after (InRecords hours closed) content = let t : record_comes hours closed n ≡ true = and_from _ _ (lt-ltb closed hours (omega arith)) (eq-eqb n n refl) in rw t refl in
      let later = records_clear n (number + 1) rs (omega arith) (All-tail Fits r rs fits) in
      let joined : records_text n (r ∷ rs) ++ tail_text (n + length rs) requests ≡ line ++ rest = append_assoc line (records_text (n + 1) rs) (tail_text (n + length rs) requests) in
      let lines : lines_of (records_text n (r ∷ rs) ++ tail_text (closed + length (r ∷ rs)) requests) ≡ line ∷ lines_of rest = ap (λ (k : ℕ). lines_of (records_text n (r ∷ rs) ++ tail_text k requests)) e ∙ ap lines_of joined ∙ first in
      ap (λ (ls : List (List ℕ)). fault_from (InRecords hours closed) number ls) lines ∙ passed (InRecords hours closed) (InRecords hours n) content number line (lines_of rest) is turn later

pub text_clear : (o : OpeningOf) (rs : List SettlementRecord) (requests : List ℤ) (text : List ℕ) → StatementIn o rs requests text → text_fault text ≡ None
text_clear o rs requests text h =
    let w = h.0 in
    let rest = records_text 1 rs ++ tail_text (length rs) requests in
    let z : 0 + length rs ≡ length rs = omega arith in
    let later = rw z at (records_clear (quarter_hours_of o.length) requests (hundred o.length) w.six w.requests_fit 0 2 rs (omega (arith, w.within)) w.records_fit) in
    ap (λ (t : List ℕ). text_fault t) h.1 ∙ ap (λ (ls : List (List ℕ)). fault_from BeforeOpening 1 ls) (opening_first o rest) ∙ passed BeforeOpening (InRecords (quarter_hours_of o.length) 0) (Opening o) 1 (opening_text o) (lines_of rest) refl refl later

-- ---- a text is one statement's at most
-- the first of some lines, and the others
abbrev head_of : List (List ℕ) → List ℕ
head_of lines = get_or lines 0 []

abbrev tail_of : List (List ℕ) → List (List ℕ)
tail_of lines = drop 1 lines

abbrev record_of : StatementLine → SettlementRecord → SettlementRecord
record_of (Opening o) other = other
record_of (Record r) other = r.«record»
record_of (Tail t) other = other

abbrev requests_of : StatementLine → List ℤ
requests_of (Opening o) = []
requests_of (Record r) = []
requests_of (Tail t) = t.requests

apart : (r : SettlementRecord) (n m : ℕ) (xs : List ℤ) → record_content n r ≡ tail_content m xs → ⊥
apart r n m xs e = let z : ◌≡◌ {A = ℕ} 0 1 = cc in omega arith

-- the lines of the records and of the tail
tail_lines : (n : ℕ) (xs : List ℤ) → n < 10 ^ 3 → Writable xs → lines_of (tail_text n xs) ≡ tail_text n xs ∷ []
tail_lines n xs small fit = sym (ap lines_of (append-nil (tail_text n xs))) ∙ numbered_first 84 n xs [] (λ e. omega arith) small fit

record_lines : (n m : ℕ) (r : SettlementRecord) (rs : List SettlementRecord) (xs : List ℤ) → n < 10 ^ 3 → Fits r → lines_of (records_text n (r ∷ rs) ++ tail_text m xs) ≡ record_text n r ∷ lines_of (records_text (n + 1) rs ++ tail_text m xs)
record_lines n m r rs xs small fit = ap lines_of (append_assoc (record_text n r) (records_text (n + 1) rs) (tail_text m xs)) ∙ numbered_first 73 n (figures_of r) (records_text (n + 1) rs ++ tail_text m xs) (λ e. omega arith) small fit

same_records :
    (n : ℕ) (rs ss : List SettlementRecord) (j k : ℕ) (xs ys : List ℤ) → n + length rs < 10 ^ 3 → n + length ss < 10 ^ 3 → j < 10 ^ 3 → k < 10 ^ 3 → All Fits rs → All Fits ss → length xs ≡ 6 → length ys ≡ 6 → Writable xs → Writable ys →
    lines_of (records_text n rs ++ tail_text j xs) ≡ lines_of (records_text n ss ++ tail_text k ys) → (rs ≡ ss) × (xs ≡ ys)
same_records n [] [] j k xs ys a b js ks fr fs sx sy fx fy e =
    let lines = sym (tail_lines j xs js fx) ∙ e ∙ tail_lines k ys ks fy in
    let text = ap head_of lines in
    let content = same_line (tail_content j xs) (tail_content k ys) (tail_text j xs) (tail_in j xs _ js sx fx refl) (tail_in k ys _ ks sy fy text) in
    (refl, ap requests_of content)
same_records n [] (s ∷ ss) j k xs ys a b js ks fr fs sx sy fx fy e =
    let lines = sym (tail_lines j xs js fx) ∙ e ∙ record_lines n k s ss ys (omega arith) (All-head Fits s ss fs) in
    let text = ap head_of lines in
    absurd (apart s n j xs (same_line (record_content n s) (tail_content j xs) (record_text n s) (record_in n s _ (omega arith) (All-head Fits s ss fs) refl) (tail_in j xs _ js sx fx (sym text))))
same_records n (r ∷ rs) [] j k xs ys a b js ks fr fs sx sy fx fy e =
    let lines = sym (record_lines n j r rs xs (omega arith) (All-head Fits r rs fr)) ∙ e ∙ tail_lines k ys ks fy in
    let text = ap head_of lines in
    absurd (apart r n k ys (same_line (record_content n r) (tail_content k ys) (record_text n r) (record_in n r _ (omega arith) (All-head Fits r rs fr) refl) (tail_in k ys _ ks sy fy text)))
same_records n (r ∷ rs) (s ∷ ss) j k xs ys a b js ks fr fs sx sy fx fy e =
    let lines = sym (record_lines n j r rs xs (omega arith) (All-head Fits r rs fr)) ∙ e ∙ record_lines n k s ss ys (omega arith) (All-head Fits s ss fs) in
    let text = ap head_of lines in
    let rest = ap tail_of lines in
    let content = same_line (record_content n r) (record_content n s) (record_text n r) (record_in n r _ (omega arith) (All-head Fits r rs fr) refl) (record_in n s _ (omega arith) (All-head Fits s ss fs) text) in
    let first : r ≡ s = ap (λ (c : StatementLine). record_of c r) content in
    let later = same_records (n + 1) rs ss j k xs ys (omega arith) (omega arith) js ks (All-tail Fits r rs fr) (All-tail Fits s ss fs) sx sy fx fy rest in
    (λ i. first i ∷ later.0 i, later.1)

pub same_statement :
    (o p : OpeningOf) (rs ss : List SettlementRecord) (xs ys : List ℤ) (text : List ℕ) → StatementIn o rs xs text → StatementIn p ss ys text → (o ≡ p) × (rs ≡ ss) × (xs ≡ ys)
same_statement o p rs ss xs ys text h g =
    let small = hundred o.length in
    let less = hundred p.length in
    let v = h.0 in
    let w = g.0 in
    let lines =
    sym (opening_first o (records_text 1 rs ++ tail_text (length rs) xs)) ∙ ap lines_of (sym h.1 ∙ g.1) ∙ opening_first p (records_text 1 ss ++ tail_text (length ss) ys) in
    let first = ap head_of lines in
    let rest = ap tail_of lines in
    let later =
    same_records 1 rs ss (length rs) (length ss) xs ys (omega (arith, v.within)) (omega (arith, w.within)) (omega (arith, v.within)) (omega (arith, w.within)) v.records_fit w.records_fit v.six w.six v.requests_fit
    w.requests_fit rest in
    (same_opening o p (opening_text o) refl (ap (λ (l : List ℕ). drop 1 l) first), later.0, later.1)
