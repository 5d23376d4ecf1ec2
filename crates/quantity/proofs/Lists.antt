-- Series of figures, one figure at a time.
use Rattle.std.proofs.Common.{◌≡◌, ℕ, zero, suc, ◌+◌, ◌<◌, true, List, [], ◌∷◌, length, get_or, take, ℤ, pos, ◌+ℤ◌, ◌*ℤ◌, ◌≤ℤ◌, add-one, arith}
use lib.IntN.{*ℤ_comm, *ℤ-zero, suc_ℤ-*ℤ}
use lib.Signed.{le_z}
use Rattle.std.proofs.lemmas.Int.{ints}
use Rattle.std.proofs.lemmas.Bool.{and_parts}
use Rattle.std.specs.List.{list_all}
use Rattle.quantity.specs.Series.{within, total}

total-suc : (xs : List ℤ) (i : ℕ) → i < length xs → total (take (suc i) xs) ≡ total (take i xs) +ℤ get_or xs i (pos 0)
total-suc [] i lt = absurd (let q : ⊥ = omega arith in q)
total-suc (x ∷ xs) zero lt = omega (arith, ints)
total-suc (x ∷ xs) (suc i) lt = let h = total-suc xs i (omega arith) in omega (arith, ints)

pub total_more : (xs : List ℤ) (i : ℕ) → i < length xs → total (take (i + 1) xs) ≡ total (take i xs) +ℤ get_or xs i (pos 0)
total_more xs i lt = rw add-one (total-suc xs i lt)

pub within_parts : (low high x : ℤ) → within low high x ≡ true → (low ≤ℤ x) × (x ≤ℤ high)
within_parts low high x h = let p = and_parts (le_z low x) (le_z x high) h in (grind (arith, ints), grind (arith, ints))

times_suc : (z : ℤ) (n : ℕ) → z *ℤ pos (suc n) ≡ z +ℤ (z *ℤ pos n)
times_suc z n = let s = suc_ℤ-*ℤ (pos n) z in let c = *ℤ_comm z (pos (suc n)) in let d = *ℤ_comm (pos n) z in omega (arith, ints)

-- so many figures within limits come to at least so many times the lower and at most so many times the higher
pub total-within : (low high : ℤ) (xs : List ℤ) → list_all (within low high) xs ≡ true → ((low *ℤ pos (length xs)) ≤ℤ total xs) × (total xs ≤ℤ (high *ℤ pos (length xs)))
total-within low high [] h = (rw *ℤ-zero (omega (arith, ints)), rw *ℤ-zero (omega (arith, ints)))
total-within low high (x ∷ xs) h =
    let p = and_parts (within low high x) (list_all (within low high) xs) h in
    let here = within_parts low high x p.0 in
    let rest = total-within low high xs p.1 in
    (rw (times_suc low (length xs)) (omega (arith, ints)), rw (times_suc high (length xs)) (omega (arith, ints)))
