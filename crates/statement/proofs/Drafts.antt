-- One line more of a statement that is being read.
use Rattle.std.proofs.Common.{◌≡◌, ℕ, ◌+◌, ◌<◌, Bool, true, false, cond, eqb, ltb, List, [], ◌∷◌, ◌++◌, length, take, ℤ, Some, None, sym, refl, ap, ◌∙◌, arith}
use Rattle.std.proofs.lemmas.List.Elements.{All-nil, All-push, All-same}
use Rattle.std.proofs.lemmas.List.{append_assoc, append-nil, length_push}
use Rattle.std.proofs.lemmas.Bool.{and_parts, eqb-true, ltb-true}
use Rattle.statement_lines.specs.declared.opening.Opening.{Opening as OpeningOf}
use Rattle.statement_lines.specs.declared.record.SettlementRecord.{SettlementRecord}
use Rattle.statement_lines.specs.declared.statement_line.StatementLine.{StatementLine}
use Rattle.statement_lines.specs.declared.statement_line.StatementLine.TheVariants.{Opening, Record, Tail}
use Rattle.statement_lines.specs.Kinds.{LineIn}
use Rattle.statement_lines.specs.Openings.{quarter_hours_of, opening_text}
use Rattle.statement_lines.specs.Records.{record_text, tail_text}
use Rattle.statement.specs.declared.read.Draft.{Draft}
use Rattle.statement.specs.declared.records.Records.{Records}
use Rattle.statement.specs.declared.stage.Stage.{Stage}
use Rattle.statement.specs.declared.stage.Stage.TheVariants.{BeforeOpening, InRecords, AfterTail}
use Rattle.statement.specs.Drafts.{drafted, Added, Begun, Done, Draws}
use Rattle.statement.specs.Statements.{records_text, statement_text, StatementIn}
use Rattle.statement.specs.Turns.{record_comes, stage_after}
use Rattle.statement.proofs.Fits.{Fits, hundred}

-- a record line more
pub records_push : (n m : ℕ) (rs : List SettlementRecord) (r : SettlementRecord) → m ≡ n + length rs → records_text n (rs ++ r ∷ []) ≡ records_text n rs ++ record_text m r
records_push n m [] r e = let f : m ≡ n = omega arith in append-nil (record_text n r) ∙ ap (λ (k : ℕ). record_text k r) (sym f)
records_push n m (x ∷ xs) r e = ap (λ (t : List ℕ). record_text n x ++ t) (records_push (n + 1) m xs r (omega arith)) ∙ sym (append_assoc (record_text n x) (records_text (n + 1) xs) (record_text m r))

never : (next : Stage) → None ≡ Some next → ⊥
never next e = let z : ◌≡◌ {A = ℕ} 0 1 = cc in omega arith

came : (comes : Bool) (then next : Stage) → cond comes (Some then) None ≡ Some next → (comes ≡ true) × (next ≡ then)
came true then next e = (refl, let f : next ≡ then = cc in f)
came false then next e = absurd (never next e)

same_drafted : (d e : Draft) → e.records ≡ d.records → drafted e ≡ drafted d
same_drafted d e same = ap (λ (r : Records). take r.count r.list) same

opened_first : (o : OpeningOf) (d e : Draft) (front line : List ℕ) → Draws BeforeOpening d front → Added d (Opening o) e → line ≡ opening_text o → Begun (quarter_hours_of o.length) 0 e (front ++ line)
opened_first o d e front line before added is =
    let none : drafted e ≡ [] = same_drafted d e added.1 ∙ before.0.2 in
    record {
      opened = o;
      opening = added.0;
      long = refl;
      many = ap length none;
      within = omega arith;
      fit = All-same Fits (drafted e) [] none (All-nil Fits);
      text = rw (before.1, is, none) (sym (append-nil (opening_text o)));
    }

record_more :
    (hours closed n : ℕ) (r : SettlementRecord) (d e : Draft) (front line : List ℕ) → Begun hours closed d front → e.opening ≡ d.opening → (length (drafted d) < 100 → drafted e ≡ drafted d ++ r ∷ []) →
    closed < hours → n ≡ closed + 1 → Fits r → line ≡ record_text n r → Begun hours (closed + 1) e (front ++ line)
record_more hours closed n r d e front line b same added lt next fits is =
    let room : length (drafted d) < 100 = omega (arith, hundred b.opened.length, b.long, b.many) in
    let more = added room in
    let last : records_text 1 (drafted d ++ r ∷ []) ≡ records_text 1 (drafted d) ++ record_text n r = records_push 1 n (drafted d) r (omega (arith, b.many)) in
    record {
      opened = b.opened;
      opening = same ∙ b.opening;
      long = b.long;
      many = ap length more ∙ length_push (drafted d) r ∙ ap (λ (k : ℕ). k + 1) b.many;
      within = omega arith;
      fit = All-same Fits (drafted e) (drafted d ++ r ∷ []) more (All-push Fits (drafted d) r b.fit fits);
      text = rw (b.text, is, more, last) (append_assoc (opening_text b.opened) (records_text 1 (drafted d)) (record_text n r));
    }

pub draws_more :
    (stage next : Stage) (content : StatementLine) (d e : Draft) (front line : List ℕ) → Draws stage d front → Added d content e → LineIn content line → stage_after stage content ≡ Some next → Draws next e (front ++ line)
draws_more BeforeOpening next (Opening o) d e front line before added is turn =
    let f : next ≡ InRecords (quarter_hours_of o.length) 0 = cc in
    rw f (opened_first o d e front line before added is)
draws_more BeforeOpening next (Record r) d e front line before added is turn = absurd (never next turn)
draws_more BeforeOpening next (Tail t) d e front line before added is turn = absurd (never next turn)
draws_more (InRecords hours closed) next (Opening o) d e front line before added is turn = absurd (never next turn)
draws_more (InRecords hours closed) next (Record r) d e front line before added is turn =
    let p = came (record_comes hours closed r.quarter_hour) (InRecords hours (closed + 1)) next turn in
    let q = and_parts (ltb closed hours) (eqb r.quarter_hour (closed + 1)) p.0 in
    rw p.1 (record_more hours closed r.quarter_hour r.«record» d e front line before added.0 added.1 (ltb-true closed hours q.0) (eqb-true _ _ q.1) (is.1) is.2)
draws_more (InRecords hours closed) next (Tail t) d e front line before added is turn =
    let p = came (eqb t.closed closed) AfterTail next turn in
    let n : t.closed ≡ length (drafted d) = eqb-true _ _ p.0 ∙ sym before.many in
    let same = same_drafted d e added.1 in
    let text : front ++ line ≡ statement_text before.opened (drafted d) t.requests = rw (before.text, is.1.2, n) (append_assoc (opening_text before.opened) (records_text 1 (drafted d)) (tail_text (length (drafted d)) t.requests)) in
    let done : Done e (front ++ line) = record {
      opened = before.opened;
      tailed = t;
      opening = added.0 ∙ before.opening;
      tail = added.2;
      whole = rw same (record { within = omega (arith, before.many, before.within, before.long); records_fit = before.fit; six = is.0; requests_fit = is.1.1 }, text);
    } in
    rw p.1 done
draws_more AfterTail next (Opening o) d e front line before added is turn = absurd (never next turn)
draws_more AfterTail next (Record r) d e front line before added is turn = absurd (never next turn)
draws_more AfterTail next (Tail t) d e front line before added is turn = absurd (never next turn)

-- the same statement under other names
pub statement_same :
    (o p : OpeningOf) (rs ss : List SettlementRecord) (xs ys : List ℤ) (front text : List ℕ) → o ≡ p → rs ≡ ss → xs ≡ ys → text ≡ front → StatementIn o rs xs front → StatementIn p ss ys text
statement_same o p rs ss xs ys front text opening records requests is h = rw (is, ← opening, ← records, ← requests) h
