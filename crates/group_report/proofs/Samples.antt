-- The status samples of a minute, one at a time, and what they make of a participation.
use Rattle.std.proofs.Common.{◌≡◌, ℕ, zero, suc, ◌<◌, true, false, eqb, List, [], ◌∷◌, length, get_or, Ok, Err, fold, Result, refl, inl, inr, arith}
use Rattle.std.proofs.lemmas.Bool.{and_parts, and_from, eqb-true, eq-eqb, both_ways, cases_Bool, or_left}
use Rattle.std.specs.List.{list_all}
use Rattle.quantity.specs.declared.refusal.Refusal.{Refusal}
use Rattle.group_report.specs.declared.participation.Participation.{Participation}
use Rattle.group_report.specs.declared.participation.Participation.TheVariants.{Whole, Broken}
use Rattle.group_report.specs.Participations.{readable, sampled, after_sample, participation_of, OnThroughout}

-- ---- whole is what was on in every sample
abbrev On : List ℕ → Type 0
On xs = (k : ℕ) → k < length xs → get_or xs k 0 ≡ 49

on_rest : (x : ℕ) (xs : List ℕ) → On (x ∷ xs) → On xs
on_rest x xs on k lt = on (suc k) (omega arith)

broken_stays : (xs : List ℕ) → fold after_sample Broken xs ≡ Broken
broken_stays [] = refl
broken_stays (x ∷ xs) = broken_stays xs

never_whole : (xs : List ℕ) → fold after_sample Broken xs ≡ Whole → ⊥
never_whole xs e = let b = broken_stays xs in let z : ◌≡◌ {A = ℕ} 0 1 = cc in omega arith

first_on : (x : ℕ) (xs : List ℕ) → x ≡ 49 → On xs → On (x ∷ xs)
first_on x xs here on zero lt = here
first_on x xs here on (suc k) lt = on k (omega arith)

whole_on : (xs : List ℕ) → fold after_sample Whole xs ≡ Whole → On xs
whole_on [] e = λ k lt. absurd (let q : ⊥ = omega arith in q)
whole_on (x ∷ xs) e =
    elim (cases_Bool (eqb x 49)) [ inl t ↦ first_on x xs (eqb-true x 49 t) (whole_on xs (rw t at e)) | inr f ↦ absurd (never_whole xs (rw f at e)) ]

on_whole : (xs : List ℕ) → On xs → fold after_sample Whole xs ≡ Whole
on_whole [] on = refl
on_whole (x ∷ xs) on = rw (eq-eqb x 49 (on 0 (omega arith))) (on_whole xs (on_rest x xs on))

-- the first sample makes whole what it would have kept whole
begun : (xs : List ℕ) → 0 < length xs → participation_of xs ≡ fold after_sample Whole xs
begun [] lt = absurd (let q : ⊥ = omega arith in q)
begun (x ∷ xs) lt = refl

on_readable : (xs : List ℕ) → On xs → list_all readable xs ≡ true
on_readable [] on = refl
on_readable (x ∷ xs) on = and_from _ _ (or_left _ _ (or_left _ _ (eq-eqb x 49 (on 0 (omega arith))))) (on_readable xs (on_rest x xs on))

-- an answer is whole exactly where the signal was on throughout
abbrev pub WholeMinute : List ℕ → Result Participation Refusal → Type 0
WholeMinute xs r = (r ≡ Ok Whole → OnThroughout xs) × (OnThroughout xs → r ≡ Ok Whole)

pub taken_whole : (xs : List ℕ) (p : Participation) → sampled xs ≡ true → p ≡ participation_of xs → WholeMinute xs (Ok p)
taken_whole xs p s is =
    let thirty : length xs ≡ 30 = eqb-true (length xs) 30 (and_parts (eqb (length xs) 30) (list_all readable xs) s).0 in
    let b = begun xs (omega arith) in (
      λ e. let w : fold after_sample Whole xs ≡ Whole = cc in record { thirty = thirty; on = whole_on xs w },
      λ h. let w = on_whole xs h.on in cc,
    )

pub refused_broken : (xs : List ℕ) (why : Refusal) → sampled xs ≡ false → WholeMinute xs (Err why)
refused_broken xs why s = (
  λ e. absurd (let z : ◌≡◌ {A = ℕ} 0 1 = cc in let q : ⊥ = omega arith in q),
  λ h. absurd (both_ways (sampled xs) s (and_from _ _ (eq-eqb (length xs) 30 h.thirty) (on_readable xs h.on))),
)
