-- Text that is pending, and what a line that is appended or a block that is taken makes of it.
use Rattle.std.specs.Prelude.{◌≡◌, ℕ, ◌-◌, cond, List, ◌++◌, take, drop, replicate, Some, None, Option, nat_le}
use Rattle.pending_text.specs.declared.pending.PendingText.{PendingText}

-- the pending text
abbrev pub text_of : PendingText → List ℕ
text_of p = take p.length p.bytes

-- the bytes that are free
abbrev pub room_in : PendingText → ℕ
room_in p = 676 - p.length

-- a line stands at the end, or everything is as it was where it is refused
abbrev pub Appended : Option ℕ → List ℕ → PendingText → PendingText → Type 0
Appended (Some number) line before after = after ≡ before
Appended None line before after = text_of after ≡ text_of before ++ line

-- why a block is not taken: 15 where less than one is pending, 16 where the buffer is shorter
abbrev pub block_refusal : PendingText → ℕ → Option ℕ
block_refusal p room = cond (nat_le 512 p.length) (cond (nat_le 512 room) None (Some 16)) (Some 15)

-- the first 512 pending bytes stand in the buffer, the rest of which stays, or everything is as it was
abbrev pub BlockTaken : Option ℕ → PendingText → PendingText → List ℕ → List ℕ → Type 0
BlockTaken (Some number) before after old new = (after ≡ before) × (new ≡ old)
BlockTaken None before after old new = (text_of after ≡ drop 512 (text_of before)) × (new ≡ take 512 (text_of before) ++ drop 512 old)

-- why the whole text is not taken: 16 where the buffer is shorter
abbrev pub all_refusal : PendingText → ℕ → Option ℕ
all_refusal p room = cond (nat_le p.length room) None (Some 16)

-- all pending bytes stand in the buffer and the text is as when new, or everything is as it was
abbrev pub AllTaken : Option ℕ → PendingText → PendingText → List ℕ → List ℕ → Type 0
AllTaken (Some number) before after old new = (after ≡ before) × (new ≡ old)
AllTaken None before after old new = (after.bytes ≡ replicate 676 0) × (after.length ≡ 0) × (new ≡ text_of before ++ drop before.length old)
