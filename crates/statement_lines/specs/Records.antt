-- The line of a record, and the tail line.
use Rattle.std.specs.Prelude.{◌≡◌, ℕ, cond, List, [], ◌∷◌, length, ℤ, Some, Option, ◌==◌}
use Rattle.line_text.specs.NumberedRows.{numbered_text, NumberedIn, numbered_refusal}
use Rattle.statement_lines.specs.declared.record.SettlementRecord.{SettlementRecord}

-- the figures of a record, in the order of its line
abbrev pub figures_of : SettlementRecord → List ℤ
figures_of r =
    r.recognised.units ∷ (r.missing.units ∷ (r.upward_deviation.units ∷ (r.downward_deviation.units
    ∷ (r.upward_energy.units ∷ (r.downward_energy.units ∷ (r.upward_share.units ∷ (r.downward_share.units ∷ [])))))))

-- the line of the record of a quarter hour: I (73), its number in three columns, the eight figures
abbrev pub record_text : ℕ → SettlementRecord → List ℕ
record_text n r = numbered_text 73 3 n (figures_of r)

-- a line that is one
abbrev pub RecordIn : ℕ → SettlementRecord → List ℕ → Type 0
RecordIn n r line = NumberedIn 73 3 n (figures_of r) line

-- why a record is not written
abbrev pub record_refusal : ℕ → SettlementRecord → ℕ → Option ℕ
record_refusal n r room = numbered_refusal 3 n (figures_of r) room

-- the tail line: T (84), how many quarter hours were closed in three columns, the six newest requests, oldest first
abbrev pub tail_text : ℕ → List ℤ → List ℕ
tail_text closed requests = numbered_text 84 3 closed requests

-- a line that is one
abbrev pub TailIn : ℕ → List ℤ → List ℕ → Type 0
TailIn closed requests line = (length requests ≡ 6) × NumberedIn 84 3 closed requests line

-- why a tail is not written: 11 where there are not six requests, else as any numbered row
abbrev pub tail_refusal : ℕ → List ℤ → ℕ → Option ℕ
tail_refusal closed requests room = cond (length requests == 6) (numbered_refusal 3 closed requests room) (Some 11)
