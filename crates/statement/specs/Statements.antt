-- A day's statement is its opening line, a record line for each of its records in order, and its tail line.
use Rattle.std.specs.Prelude.{◌≡◌, ℕ, ◌+◌, ◌*◌, ◌≤◌, Bool, ◌&&◌, List, [], ◌∷◌, ◌++◌, length, take, ℤ, Option, ◌==◌, nat_le}
use Rattle.std.specs.List.{All, list_all}
use Rattle.count_text.specs.Columns.{write_refusal}
use Rattle.figure_text.specs.Rows.{Writable, writable}
use Rattle.statement_lines.specs.declared.opening.Opening.{Opening}
use Rattle.statement_lines.specs.declared.record.SettlementRecord.{SettlementRecord}
use Rattle.statement_lines.specs.Openings.{quarter_hours_of, opening_text}
use Rattle.statement_lines.specs.Records.{figures_of, record_text, tail_text}
use Rattle.statement.specs.declared.statement.Statement.{Statement}

-- records of figures that their columns can hold, as a test
abbrev pub every_fits : List SettlementRecord → Bool
every_fits rs = list_all (λ r. writable (figures_of r)) rs

-- record lines, the first with this number
abbrev pub records_text : ℕ → List SettlementRecord → List ℕ
records_text n [] = []
records_text n (r ∷ rs) = record_text n r ++ records_text (n + 1) rs

-- the text of a statement; its tail counts the records
abbrev pub statement_text : Opening → List SettlementRecord → List ℤ → List ℕ
statement_text o rs requests = opening_text o ++ (records_text 1 rs ++ tail_text (length rs) requests)

-- what can be a statement: no more records than the day has quarter hours, six requests, and figures that their columns can hold
pub record Whole (o : Opening) (rs : List SettlementRecord) (requests : List ℤ) : Type 0 where
  pub within : length rs ≤ quarter_hours_of o.length
  pub records_fit : All (λ r. Writable (figures_of r)) rs
  pub six : length requests ≡ 6
  pub requests_fit : Writable requests

-- the same as a test
abbrev pub is_statement : Opening → List SettlementRecord → List ℤ → Bool
is_statement o rs requests = nat_le (length rs) (quarter_hours_of o.length) && (every_fits rs && (length requests == 6 && writable requests))

-- the bytes of a statement: its opening line, its record lines, its tail line
abbrev pub statement_length : ℕ → ℕ
statement_length records = 12 + 165 * records + 125

-- why a statement is not written: 11 where its values cannot be one, 16 where the buffer is shorter
abbrev pub statement_refusal : Opening → List SettlementRecord → List ℤ → ℕ → Option ℕ
statement_refusal o rs requests room = write_refusal (is_statement o rs requests) (statement_length (length rs)) room

-- a text that is a statement's
abbrev pub StatementIn : Opening → List SettlementRecord → List ℤ → List ℕ → Type 0
StatementIn o rs requests text = Whole o rs requests × (text ≡ statement_text o rs requests)

-- the records of a statement
abbrev pub records_of : Statement → List SettlementRecord
records_of s = take s.records.count s.records.list

-- a statement of these values
abbrev pub Holds : Statement → Opening → List SettlementRecord → List ℤ → Type 0
Holds s o rs requests = (s.opening ≡ o) × (records_of s ≡ rs) × (s.tail.requests ≡ requests)
