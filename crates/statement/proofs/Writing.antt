-- A statement that is written line by line.
use Rattle.std.proofs.Common.{◌≡◌, ℕ, ◌+◌, ◌-◌, ◌*◌, ◌^◌, ◌<◌, ◌≤◌, true, false, ◌&&◌, eqb, leb, List, [], ◌∷◌, ◌++◌, length, get_or, take, drop, ℤ, Some, None, Ok, Err, MatchResult, Option, Result, sym, refl, ap, ◌∙◌, inl, inr, arith, Decides, IsOk, rules}
use borrow.Rule.Slice.PartMut.{put_mid}
use Rattle.std.specs.List.{All}
use Rattle.std.proofs.lemmas.List.Elements.{All-nil, All-cons, All-head, All-tail, All-get_or, All-take}
use Rattle.std.proofs.lemmas.List.{append_assoc, append-nil, drop_all, length-append, length-drop, length-take-le, take_all, take_more}
use Rattle.std.proofs.lemmas.Bool.{and_from, and_parts, cases_Bool, eq-eqb, eqb-true, le-leb, leb-true}
use Rattle.count_text.specs.Columns.{Writes, bytes_after}
use Rattle.quantity.specs.declared.refusal.Refusal.{Refusal}
use Rattle.figure_text.specs.Rows.{writable}
use Rattle.figure_text.proofs.Rows.{all_writable, writable_all}
use Rattle.line_text.proofs.Puts.{put_next, numbered_fits, numbered_length, part_length}
use Rattle.statement_lines.specs.declared.opening.Opening.{Opening}
use Rattle.statement_lines.specs.declared.record.SettlementRecord.{SettlementRecord}
use Rattle.statement_lines.specs.Openings.{quarter_hours_of, opening_text, opening_refusal}
use Rattle.statement_lines.specs.Records.{figures_of, record_text, record_refusal, tail_text, tail_refusal}
use Rattle.statement_lines.proofs.Openings.{opening_length}
use Rattle.statement.specs.Statements.{every_fits, records_text, statement_text, Whole, is_statement, statement_length, statement_refusal}
use Rattle.statement.proofs.Drafts.{records_push}
use Rattle.statement.proofs.Fits.{Fits, hundred}

-- ---- a text over a part that is as long as it
pub whole_part : (why : Option ℕ) (text part new : List ℕ) → why ≡ None → length part ≡ length text → new ≡ bytes_after why text part → new ≡ text
whole_part why text part new none long e =
    let f : new ≡ text ++ drop (length text) part = rw none at e in
    let d : drop (length text) part ≡ [] = drop_all (length text) part (omega arith) in
    f ∙ ap (λ (t : List ℕ). text ++ t) d ∙ append-nil text

-- a text of w bytes over the part from m to e, behind what was written before
module _ (m e w : ℕ) (front old out : List ℕ) (sum : e ≡ m + w) (room : m + w ≤ length old) (long : length front ≡ m) (is : out ≡ front ++ drop m old) where
  pub part_holds : length (take (e - m) (drop m out)) ≡ w
  part_holds =
      let kept : length out ≡ length old = ap length is ∙ length-append front (drop m old) ∙ (let q : length front + length (drop m old) ≡ length old = omega (arith, length-drop m old) in q) in
      part_length m e out (omega arith) (omega arith) ∙ (let q : e - m ≡ w = omega arith in q)

  pub over_part : (why : Option ℕ) (text part : List ℕ) → length text ≡ w → why ≡ None → part ≡ bytes_after why text (take (e - m) (drop m out)) → put_mid m (e - m) out part ≡ (front ++ text) ++ drop (m + w) old
  over_part why text part size none written =
      let columns : e - m ≡ w = omega arith in
      let line : part ≡ text = whole_part why text (take (e - m) (drop m out)) part none (part_holds ∙ sym size) written in
      ap (λ (n : ℕ). put_mid m n out part) columns ∙ ap (λ (t : List ℕ). put_mid m w out t) line ∙ put_next front old out m long is w text size

-- ---- record lines
pub record_fits : (n : ℕ) (r : SettlementRecord) (room : ℕ) → n < 10 ^ 3 → Fits r → 165 ≤ room → record_refusal n r room ≡ None
record_fits n r room small fit le = numbered_fits 3 n (figures_of r) room small (fit) le

pub record_length : (n : ℕ) (r : SettlementRecord) → n < 10 ^ 3 → Fits r → length (record_text n r) ≡ 165
record_length n r small fit = numbered_length 73 3 n (figures_of r) (omega arith) (omega arith) small (fit)

pub records_length : (n : ℕ) (rs : List SettlementRecord) → n + length rs ≤ 10 ^ 3 → All Fits rs → length (records_text n rs) ≡ 165 * length rs
records_length n [] le fits = refl
records_length n (r ∷ rs) le fits =
    let a = record_length n r (omega arith) (All-head Fits r rs fits) in
    let b = records_length (n + 1) rs (omega arith) (All-tail Fits r rs fits) in
    length-append (record_text n r) (records_text (n + 1) rs) ∙ (let e : length (record_text n r) + length (records_text (n + 1) rs) ≡ 165 * length (r ∷ rs) = omega arith in e)

module _ (rs : List SettlementRecord) (old : List ℕ) (fits : All Fits rs) (few : length rs ≤ 100) (room : 165 * length rs ≤ length old) where
  front_length : (k : ℕ) → k ≤ length rs → length (records_text 1 (take k rs)) ≡ 165 * k
  front_length k le =
      let l = length-take-le k rs le in
      records_length 1 (take k rs) (omega arith) (All-take Fits k rs fits) ∙ ap (λ (m : ℕ). 165 * m) l

  module _ (k : ℕ) (out : List ℕ) (d : SettlementRecord) (lt : k < length rs) (is : out ≡ records_text 1 (take k rs) ++ drop (165 * k) old) where
    fit_here : Fits (get_or rs k d)
    fit_here = All-get_or Fits rs k d lt fits

    abbrev place : List ℕ
    place = take (165 * k + 165 - 165 * k) (drop (165 * k) out)

    pub not_refused_here : record_refusal (k + 1) (get_or rs k d) (length place) ≡ None
    not_refused_here =
        let held = part_holds (165 * k) (165 * k + 165) 165 (records_text 1 (take k rs)) old out refl (omega arith) (front_length k (omega arith)) is in
        record_fits (k + 1) (get_or rs k d) (length place) (omega arith) fit_here (omega arith)

    pub records_step : (part : List ℕ) → part ≡ bytes_after (record_refusal (k + 1) (get_or rs k d) (length place)) (record_text (k + 1) (get_or rs k d)) place → put_mid (165 * k) (165 * k + 165 - 165 * k) out part ≡ records_text 1 (take (k + 1) rs) ++ drop (165 * (k + 1)) old
    records_step part written =
        let r = get_or rs k d in
        let put = over_part (165 * k) (165 * k + 165) 165 (records_text 1 (take k rs)) old out refl (omega arith) (front_length k (omega arith)) is _ (record_text (k + 1) r) part (record_length (k + 1) r (omega arith) fit_here) not_refused_here written in
        let more : records_text 1 (take k rs) ++ record_text (k + 1) r ≡ records_text 1 (take (k + 1) rs) =
        sym (records_push 1 (k + 1) (take k rs) r (omega (arith, length-take-le k rs (omega arith)))) ∙ ap (λ (l : List SettlementRecord). records_text 1 l) (sym (take_more rs k d lt)) in
        let m : 165 * k + 165 ≡ 165 * (k + 1) = omega arith in
        put ∙ ap (λ (t : List ℕ). t ++ drop (165 * k + 165) old) more ∙ ap (λ (p : ℕ). records_text 1 (take (k + 1) rs) ++ drop p old) m

  pub records_done : (k : ℕ) (out : List ℕ) → length rs ≤ k → k ≤ length rs → out ≡ records_text 1 (take k rs) ++ drop (165 * k) old → out ≡ records_text 1 rs ++ drop (165 * length rs) old
  records_done k out ge le is =
      let e : k ≡ length rs = omega arith in
      is ∙ ap (λ (l : List SettlementRecord). records_text 1 l ++ drop (165 * k) old) (take_all k rs (omega arith)) ∙ ap (λ (p : ℕ). records_text 1 rs ++ drop (165 * p) old) e

-- nothing that is not refused is refused
pub never_refused : (why : Option ℕ) (e : Refusal) → why ≡ None → Writes why (Err e) → ⊥
never_refused why e none h = rw none at h

pub always_written : (why : Option ℕ) (r : Result (Unit {0}) Refusal) → why ≡ None → Writes why r → IsOk r
always_written why (Ok x) none h = search rules
always_written why (Err e) none h = absurd (never_refused why e none h)

-- ---- the three parts of a statement
pub few_records : (o : Opening) (rs : List SettlementRecord) (requests : List ℤ) → Whole o rs requests → length rs ≤ 100
few_records o rs requests whole = omega (arith, whole.within, hundred o.length)

pub opening_part : (o : Opening) (old opening : List ℕ) → 12 ≤ length old → opening ≡ bytes_after (opening_refusal (length (take 12 old))) (opening_text o) (take 12 old) → opening ≡ opening_text o
opening_part o old opening room e =
    let long = length-take-le 12 old room in
    let fits : leb 12 (length (take 12 old)) ≡ true = le-leb 12 (length (take 12 old)) (omega arith) in
    whole_part (opening_refusal (length (take 12 old))) (opening_text o) (take 12 old) opening (rw fits refl) (long ∙ sym (opening_length o)) e

tail_length : (o : Opening) (rs : List SettlementRecord) (requests : List ℤ) → Whole o rs requests → length (tail_text (length rs) requests) ≡ 125
tail_length o rs requests whole =
    numbered_length 84 3 (length rs) requests (omega arith) (omega arith) (omega (arith, few_records o rs requests whole)) (whole.requests_fit) ∙ (let e : 2 + 3 + 20 * length requests ≡ 125 = omega (arith, whole.six) in e)

module _ (o : Opening) (rs : List SettlementRecord) (requests : List ℤ) (old opening records : List ℕ) (whole : Whole o rs requests) (room : statement_length (length rs) ≤ length old) where
  module _ (opened : opening ≡ opening_text o) where
    opening_long : length opening ≡ 12
    opening_long = ap length opened ∙ opening_length o

    pub records_part : records ≡ records_text 1 rs ++ drop (165 * length rs) (take (12 + 165 * length rs - 12) (drop 12 (opening ++ drop 12 old))) → records ≡ records_text 1 rs
    records_part e =
        let held = part_holds 12 (12 + 165 * length rs) (165 * length rs) opening old (opening ++ drop 12 old) refl (omega arith) opening_long refl in
        let none : drop (165 * length rs) (take (12 + 165 * length rs - 12) (drop 12 (opening ++ drop 12 old))) ≡ [] = drop_all (165 * length rs) _ (omega (arith, held)) in
        e ∙ ap (λ (t : List ℕ). records_text 1 rs ++ t) none ∙ append-nil (records_text 1 rs)

    module _ (filled : records ≡ records_text 1 rs) where
      records_long : length records ≡ 165 * length rs
      records_long = ap length filled ∙ records_length 1 rs (omega (arith, few_records o rs requests whole)) whole.records_fit

      after_records : put_mid 12 (12 + 165 * length rs - 12) (opening ++ drop 12 old) records ≡ (opening ++ records) ++ drop (12 + 165 * length rs) old
      after_records =
          let e : 12 + 165 * length rs - 12 ≡ 165 * length rs = omega arith in
          ap (λ (p : ℕ). put_mid 12 p (opening ++ drop 12 old) records) e ∙ put_next opening old (opening ++ drop 12 old) 12 opening_long refl (165 * length rs) records records_long

      front_long : length (opening ++ records) ≡ 12 + 165 * length rs
      front_long = length-append opening records ∙ (let e : length opening + length records ≡ 12 + 165 * length rs = omega (arith, opening_long, records_long) in e)

      pub tail_not_refused : tail_refusal (length rs) requests (length (take (12 + 165 * length rs + 125 - (12 + 165 * length rs)) (drop (12 + 165 * length rs) (put_mid 12 (12 + 165 * length rs - 12) (opening ++ drop 12 old) records)))) ≡ None
      tail_not_refused =
          let held = part_holds (12 + 165 * length rs) (12 + 165 * length rs + 125) 125 (opening ++ records) old (put_mid 12 (12 + 165 * length rs - 12) (opening ++ drop 12 old) records) refl (omega arith) front_long after_records in
          let six : eqb (length requests) 6 ≡ true = eq-eqb (length requests) 6 whole.six in
          rw six (numbered_fits 3 (length rs) requests _ (omega (arith, few_records o rs requests whole)) whole.requests_fit (omega (arith, held, whole.six)))

      -- behind an opening and records that stand in their places
      pub tail_put :
          (tail : List ℕ) →
          tail ≡ bytes_after (tail_refusal (length rs) requests (length (take (12 + 165 * length rs + 125 - (12 + 165 * length rs)) (drop (12 + 165 * length rs) (put_mid 12 (12 + 165 * length rs - 12) (opening ++ drop 12 old) records))))) (tail_text (length rs) requests) (take (12 + 165 * length rs + 125 - (12 + 165 * length rs)) (drop (12 + 165 * length rs) (put_mid 12 (12 + 165 * length rs - 12) (opening ++ drop 12 old) records))) →
          put_mid (12 + 165 * length rs) (12 + 165 * length rs + 125 - (12 + 165 * length rs)) (put_mid 12 (12 + 165 * length rs - 12) (opening ++ drop 12 old) records) tail ≡ statement_text o rs requests ++ drop (statement_length (length rs)) old
      tail_put tail written =
          let put = over_part (12 + 165 * length rs) (12 + 165 * length rs + 125) 125 (opening ++ records) old (put_mid 12 (12 + 165 * length rs - 12) (opening ++ drop 12 old) records) refl (omega arith) front_long after_records _ (tail_text (length rs) requests) tail (tail_length o rs requests whole) tail_not_refused written in
          let text : (opening ++ records) ++ tail_text (length rs) requests ≡ statement_text o rs requests = append_assoc opening records (tail_text (length rs) requests) ∙ ap (λ (x : List ℕ). x ++ (records ++ tail_text (length rs) requests)) opened ∙ ap (λ (x : List ℕ). opening_text o ++ (x ++ tail_text (length rs) requests)) filled in
          put ∙ ap (λ (t : List ℕ). t ++ drop (12 + 165 * length rs + 125) old) text

module _ (o : Opening) (rs : List SettlementRecord) (requests : List ℤ) (old opening records tail : List ℕ) (whole : Whole o rs requests) (room : statement_length (length rs) ≤ length old) where
  -- where the tail stands
  abbrev at : ℕ
  at = 12 + 165 * length rs

  abbrev opened : List ℕ
  opened = opening ++ drop 12 old

  abbrev recorded : List ℕ
  recorded = put_mid 12 (at - 12) opened records

  abbrev tail_place : List ℕ
  tail_place = take (at + 125 - at) (drop at recorded)

  pub statement_put :
      opening ≡ bytes_after (opening_refusal (length (take 12 old))) (opening_text o) (take 12 old) → records ≡ records_text 1 rs ++ drop (165 * length rs) (take (at - 12) (drop 12 opened)) →
      tail ≡ bytes_after (tail_refusal (length rs) requests (length tail_place)) (tail_text (length rs) requests) tail_place → put_mid at (at + 125 - at) recorded tail ≡ statement_text o rs requests ++ drop (statement_length (length rs)) old
  statement_put first second third =
      let begun = opening_part o old opening (omega arith) first in
      let filled = records_part o rs requests old opening records whole room begun second in
      tail_put o rs requests old opening records whole room begun filled tail third

-- ---- why a statement is not written
every_fits_lem : (rs : List SettlementRecord) → All Fits rs → every_fits rs ≡ true
every_fits_lem [] h = refl
every_fits_lem (r ∷ rs) h = and_from (writable (figures_of r)) (every_fits rs) (all_writable (figures_of r) (All-head Fits r rs h)) (every_fits_lem rs (All-tail Fits r rs h))

fits_every : (rs : List SettlementRecord) → every_fits rs ≡ true → All Fits rs
fits_every [] h = All-nil Fits
fits_every (r ∷ rs) h = let p = and_parts (writable (figures_of r)) (every_fits rs) h in All-cons Fits r rs (writable_all (figures_of r) p.0) (fits_every rs p.1)

pub every_fits_decides : (rs : List SettlementRecord) → Decides (every_fits rs) (All Fits rs)
every_fits_decides rs = (fits_every rs, every_fits_lem rs)

module _ (o : Opening) (rs : List SettlementRecord) (requests : List ℤ) where
  pub is_statement_lem : Whole o rs requests → is_statement o rs requests ≡ true
  is_statement_lem w = and_from _ _ (le-leb (length rs) (quarter_hours_of o.length) w.within) (and_from _ _ (every_fits_lem rs w.records_fit) (and_from _ _ (eq-eqb (length requests) 6 w.six) (all_writable requests (w.requests_fit))))

  pub whole_from : is_statement o rs requests ≡ true → Whole o rs requests
  whole_from h =
      let a = and_parts (leb (length rs) (quarter_hours_of o.length)) (every_fits rs && (eqb (length requests) 6 && writable requests)) h in
      let b = and_parts (every_fits rs) (eqb (length requests) 6 && writable requests) a.1 in
      let c = and_parts (eqb (length requests) 6) (writable requests) b.1 in
      record { within = leb-true _ _ a.0; records_fit = fits_every rs b.0; six = eqb-true _ _ c.0; requests_fit = (writable_all requests c.1) }

  pub statement_wide : (room : ℕ) → (Whole o rs requests → ⊥) → statement_refusal o rs requests room ≡ Some 11
  statement_wide room never =
      let f : is_statement o rs requests ≡ false = elim (cases_Bool (is_statement o rs requests)) [ inl e ↦ absurd (never (whole_from e)) | inr e ↦ e ] in
      rw f refl

  pub statement_short : (room : ℕ) → Whole o rs requests → (statement_length (length rs) ≤ room → ⊥) → statement_refusal o rs requests room ≡ Some 16
  statement_short room w never =
      let l : leb (statement_length (length rs)) room ≡ false = elim (cases_Bool (leb (statement_length (length rs)) room)) [ inl e ↦ absurd (never (leb-true _ _ e)) | inr e ↦ e ] in
      rw (is_statement_lem w, l) refl

  pub statement_fits : (room : ℕ) → Whole o rs requests → statement_length (length rs) ≤ room → statement_refusal o rs requests room ≡ None
  statement_fits room w le = rw (is_statement_lem w, le-leb (statement_length (length rs)) room le) refl

  pub statement_length_lem : Whole o rs requests → length (statement_text o rs requests) ≡ statement_length (length rs)
  statement_length_lem w =
      let a = opening_length o in
      let b = records_length 1 rs (omega (arith, few_records o rs requests w)) w.records_fit in
      let c = tail_length o rs requests w in
      length-append (opening_text o) (records_text 1 rs ++ tail_text (length rs) requests) ∙ (let e : length (opening_text o) + length (records_text 1 rs ++ tail_text (length rs) requests) ≡ statement_length (length rs) = omega (arith, length-append (records_text 1 rs) (tail_text (length rs) requests)) in e)

-- ---- a statement that was written
written_bytes :
    (o : Opening) (rs : List SettlementRecord) (xs : List ℤ) (old new : List ℕ) (r : Result ℕ Refusal) → is_statement o rs xs ≡ true → statement_length (length rs) ≤ length old →
    MatchResult r (λ n. (n ≡ statement_length (length rs)) × (new ≡ statement_text o rs xs ++ drop (statement_length (length rs)) old)) (λ _. ⊥) → new ≡ bytes_after (statement_refusal o rs xs (length old)) (statement_text o rs xs) old
written_bytes o rs xs old new (Ok n) whole room h =
    let w = whole_from o rs xs whole in
    rw (statement_fits o rs xs (length old) w room) (h.1 ∙ ap (λ (k : ℕ). statement_text o rs xs ++ drop k old) (sym (statement_length_lem o rs xs w)))
written_bytes o rs xs old new (Err e) whole room h = absurd h

pub statement_bytes :
    (o p : Opening) (rs ss : List SettlementRecord) (xs ys : List ℤ) (old new : List ℕ) (r : Result ℕ Refusal) → o ≡ p → rs ≡ ss → xs ≡ ys → is_statement o rs xs ≡ true → statement_length (length rs) ≤ length old →
    MatchResult r (λ n. (n ≡ statement_length (length rs)) × (new ≡ statement_text o rs xs ++ drop (statement_length (length rs)) old)) (λ _. ⊥) → new ≡ bytes_after (statement_refusal p ss ys (length old)) (statement_text p ss ys) old
statement_bytes o p rs ss xs ys old new r opening records requests whole room h = rw (← opening, ← records, ← requests) (written_bytes o rs xs old new r whole room h)
