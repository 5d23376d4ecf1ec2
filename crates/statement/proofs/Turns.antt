-- A line that is read comes here or does not.
use Rattle.std.proofs.Common.{◌≡◌, ℕ, Bool, true, false, cond, List, Some, None, Err, Option, refl, ◌∙◌, arith}
use Rattle.line_text.specs.Faults.{Fault, unless_at, first_of, Judged}
use Rattle.line_text.specs.declared.fault.LineFault.{LineFault}
use Rattle.statement_lines.specs.declared.statement_line.StatementLine.{StatementLine}
use Rattle.statement_lines.specs.declared.statement_line.StatementLine.TheVariants.{Opening, Record, Tail}
use Rattle.statement_lines.specs.Kinds.{LineIn, line_fault}
use Rattle.statement_lines.proofs.Readings.{opening_shows, record_shows, tail_shows, line_clear}
use Rattle.statement.specs.declared.stage.Stage.{Stage}
use Rattle.statement.specs.declared.stage.Stage.TheVariants.{BeforeOpening, InRecords, AfterTail}
use Rattle.statement.specs.Turns.{stage_after, comes_here, next_stage, fault_at}

-- the stage after a line, by its values and by its bytes
turn_is : (stage : Stage) (content : StatementLine) (line : List ℕ) → LineIn content line → stage_after stage content ≡ cond (comes_here stage line) (Some (next_stage stage line)) None
turn_is BeforeOpening (Opening o) line h = let p = opening_shows o line h in rw (p.0, p.1)
turn_is BeforeOpening (Record r) line h = let p = record_shows _ r.«record» line h in rw p.0
turn_is BeforeOpening (Tail t) line h = let p = tail_shows _ t.requests line h in rw p.0
turn_is (InRecords hours closed) (Opening o) line h = rw h
turn_is (InRecords hours closed) (Record r) line h = let p = record_shows _ r.«record» line h in rw (p.1, p.2)
turn_is (InRecords hours closed) (Tail t) line h = let p = tail_shows _ t.requests line h in rw (p.1, p.2, p.3)
turn_is AfterTail (Opening o) line h = refl
turn_is AfterTail (Record r) line h = refl
turn_is AfterTail (Tail t) line h = refl

-- the fault of a line that is read
fault_is : (stage : Stage) (line : List ℕ) → line_fault line ≡ None → fault_at stage line ≡ unless_at (comes_here stage line) 19 0
fault_is BeforeOpening line e = rw e
fault_is (InRecords hours closed) line e = rw e
fault_is AfterTail line e = refl

taken_if : (comes : Bool) (next then : Stage) (fault : Option Fault) → fault ≡ unless_at comes 19 0 → Some next ≡ cond comes (Some then) None → (fault ≡ None) × (next ≡ then)
taken_if true next then fault f g = (f, let e : next ≡ then = cc in e)
taken_if false next then fault f g = absurd (let z : ◌≡◌ {A = ℕ} 0 1 = cc in let q : ⊥ = omega arith in q)

refused_if : (comes : Bool) (then : Stage) (fault : Option Fault) → fault ≡ unless_at comes 19 0 → None ≡ cond comes (Some then) None → fault ≡ Some (record { number = 19; column = 0 })
refused_if true then fault f g = absurd (let z : ◌≡◌ {A = ℕ} 0 1 = cc in let q : ⊥ = omega arith in q)
refused_if false then fault f g = f

module _ (stage : Stage) (content : StatementLine) (line : List ℕ) (h : LineIn content line) where
  pub turn-taken : (next : Stage) → Some next ≡ stage_after stage content → (fault_at stage line ≡ None) × (next ≡ next_stage stage line)
  turn-taken next e = taken_if (comes_here stage line) next (next_stage stage line) (fault_at stage line) (fault_is stage line (line_clear content line h)) (e ∙ turn_is stage content line h)

  pub turn_refused : None ≡ stage_after stage content → fault_at stage line ≡ Some (record { number = 19; column = 0 })
  turn_refused e = refused_if (comes_here stage line) (next_stage stage line) (fault_at stage line) (fault_is stage line (line_clear content line h)) (e ∙ turn_is stage content line h)

-- a line with a fault of its own
broken : (A : Type 0) (own later : Option Fault) (found : LineFault) → Judged {A = StatementLine} own (Err found) → Judged {A = A} (first_of own later) (Err found)
broken A (Some fault) later found h = h
broken A None later found h = absurd h

pub turn_broken : (A : Type 0) (stage : Stage) (line : List ℕ) (found : LineFault) → (stage ≡ AfterTail → ⊥) → Judged {A = StatementLine} (line_fault line) (Err found) → Judged {A = A} (fault_at stage line) (Err found)
turn_broken A BeforeOpening line found other h = broken A (line_fault line) _ found h
turn_broken A (InRecords hours closed) line found other h = broken A (line_fault line) _ found h
turn_broken A AfterTail line found other h = absurd (other refl)
