-- The groups of a pool, one at a time.
use Rattle.std.proofs.Common.{◌≡◌, ℕ, zero, suc, ◌+◌, ◌<◌, List, [], ◌∷◌, length, get_or, take, map, ℤ, ◌+ℤ◌, Option, add-one, arith}
use Rattle.std.proofs.lemmas.Int.{ints}
use Rattle.group_report.specs.declared.report.GroupReport.{GroupReport}
use Rattle.group_report.specs.Minutes.{offered_of, realised_of, offered_reserve_of, realised_power_of}

offered_suc : {K : Type 0} (gs : List (Option GroupReport)) (ks : List K) (units : K → ℤ) (i : ℕ) (d : Option GroupReport) (e : K) → i < length gs → i < length ks → offered_reserve_of (take (suc i) gs) (map units ks) ≡ offered_reserve_of (take i gs) (map units ks) +ℤ offered_of (get_or gs i d) (units (get_or ks i e))
offered_suc [] ks units i d e lt lu = absurd (let q : ⊥ = omega arith in q)
offered_suc (g ∷ gs) [] units i d e lt lu = absurd (let q : ⊥ = omega arith in q)
offered_suc (g ∷ gs) (k ∷ ks) units zero d e lt lu = omega (arith, ints)
offered_suc (g ∷ gs) (k ∷ ks) units (suc i) d e lt lu = let h = offered_suc gs ks units i d e (omega arith) (omega arith) in omega (arith, ints)

pub offered_more :
    {K : Type 0} (gs : List (Option GroupReport)) (ks : List K) (units : K → ℤ) (d : Option GroupReport) (e : K) (i : ℕ) (x : ℤ) → i < length gs → i < length ks → x ≡ offered_of (get_or gs i d) (units (get_or ks i e)) → offered_reserve_of (take (i + 1) gs) (map units ks) ≡ offered_reserve_of (take i gs) (map units ks) +ℤ x
offered_more gs ks units d e i x lt lu is = rw (is, add-one) (offered_suc gs ks units i d e lt lu)

realised_suc : (gs : List (Option GroupReport)) (i : ℕ) (d : Option GroupReport) → i < length gs → realised_power_of (take (suc i) gs) ≡ realised_power_of (take i gs) +ℤ realised_of (get_or gs i d)
realised_suc [] i d lt = absurd (let q : ⊥ = omega arith in q)
realised_suc (g ∷ gs) zero d lt = omega (arith, ints)
realised_suc (g ∷ gs) (suc i) d lt = let h = realised_suc gs i d (omega arith) in omega (arith, ints)

pub realised_more :
    (d : Option GroupReport) (gs : List (Option GroupReport)) (i : ℕ) (x : ℤ) → i < length gs → x ≡ realised_of (get_or gs i d) → realised_power_of (take (i + 1) gs) ≡ realised_power_of (take i gs) +ℤ x
realised_more d gs i x lt is = rw (is, add-one) (realised_suc gs i d lt)
