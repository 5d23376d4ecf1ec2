-- A statement that is being read: what a line adds, and what was read by each stage.
use Rattle.std.specs.Prelude.{◌≡◌, ℕ, ◌<◌, ◌≤◌, List, [], ◌∷◌, ◌++◌, length, take, Some, None}
use Rattle.std.specs.List.{All}
use Rattle.statement_lines.specs.declared.opening.Opening.{Opening as OpeningOf}
use Rattle.statement_lines.specs.declared.record.SettlementRecord.{SettlementRecord}
use Rattle.statement_lines.specs.declared.statement_line.StatementLine.{StatementLine}
use Rattle.statement_lines.specs.declared.statement_line.StatementLine.TheVariants.{Opening, Record, Tail}
use Rattle.statement_lines.specs.declared.tail_line.TailLine.{TailLine}
use Rattle.statement_lines.specs.Openings.{quarter_hours_of, opening_text}
use Rattle.statement_lines.specs.Records.{figures_of}
use Rattle.statement.specs.declared.read.Draft.{Draft}
use Rattle.statement.specs.declared.stage.Stage.{Stage}
use Rattle.statement.specs.declared.stage.Stage.TheVariants.{BeforeOpening, InRecords, AfterTail}
use Rattle.figure_text.specs.Rows.{Writable}
use Rattle.statement.specs.Statements.{records_text, StatementIn}

-- the records so far
abbrev pub drafted : Draft → List SettlementRecord
drafted d = take d.records.count d.records.list

-- nothing was read
abbrev pub Blank : Draft → Type 0
Blank d = (d.opening ≡ None) × (d.tail ≡ None) × (drafted d ≡ [])

-- what a line adds; a hundred records are the most
abbrev pub Added : Draft → StatementLine → Draft → Type 0
Added d (Opening o) e = (e.opening ≡ Some o) × (e.records ≡ d.records) × (e.tail ≡ d.tail)
Added d (Record r) e = (e.opening ≡ d.opening) × (length (drafted d) < 100 → drafted e ≡ drafted d ++ r.«record» ∷ []) × (e.tail ≡ d.tail)
Added d (Tail t) e = (e.opening ≡ d.opening) × (e.records ≡ d.records) × (e.tail ≡ Some t)

-- the opening and the records of a day with so many quarter hours
pub record Begun (hours closed : ℕ) (d : Draft) (front : List ℕ) : Type 0 where
  pub opened : OpeningOf
  pub opening : d.opening ≡ Some opened
  pub long : hours ≡ quarter_hours_of opened.length
  pub many : length (drafted d) ≡ closed
  pub within : closed ≤ hours
  pub fit : All (λ r. Writable (figures_of r)) (drafted d)
  pub text : front ≡ opening_text opened ++ records_text 1 (drafted d)

-- all of it
pub record Done (d : Draft) (front : List ℕ) : Type 0 where
  pub opened : OpeningOf
  pub tailed : TailLine
  pub opening : d.opening ≡ Some opened
  pub tail : d.tail ≡ Some tailed
  pub whole : StatementIn opened (drafted d) tailed.requests front

-- what was read by each stage, and from which text
abbrev pub Draws : Stage → Draft → List ℕ → Type 0
Draws BeforeOpening d front = Blank d × (front ≡ [])
Draws (InRecords hours closed) d front = Begun hours closed d front
Draws AfterTail d front = Done d front
