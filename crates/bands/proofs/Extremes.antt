-- The foremost request is the greatest or the least.
use Rattle.std.proofs.Common.{◌≡◌, ℕ, suc, ◌<◌, true, List, [], ◌∷◌, length, get_or, ℤ, pos, ◌≤ℤ◌, sym, refl, ap, ◌∙◌, inl, inr, arith}
use lib.Signed.{le_z}
use Rattle.std.proofs.ByRecursion.{All-get_or, folded_max_z_bounds, folded_max_z_reached, folded_min_z_bounds, folded_min_z_reached}
use Rattle.std.proofs.lemmas.List.{get_or-map, length-map}
use Rattle.std.proofs.lemmas.Int.{ints}
use Rattle.activation.specs.declared.request.ActivationRequest.{ActivationRequest}
use Rattle.bands.specs.Orders.{FirstForemost}
use Rattle.bands.specs.Tolerances.{least, greatest, request_units}

same_number : (x y : ℤ) → x ≤ℤ y → y ≤ℤ x → x ≡ y
same_number x y p q = omega (arith, ints)

pub greatest_alone : (xs : List ℤ) (b : ℕ) → b < length xs → ((k : ℕ) → k < length xs → get_or xs k (pos 0) ≤ℤ get_or xs b (pos 0)) → get_or xs b (pos 0) ≡ greatest xs
greatest_alone [] b lt each = absurd (let q : ⊥ = omega arith in q)
greatest_alone (x ∷ xs) b lt each =
    same_number _ _ (All-get_or (λ y. y ≤ℤ greatest (x ∷ xs)) (x ∷ xs) b (pos 0) lt (folded_max_z_bounds x xs _ refl))
    (elim (folded_max_z_reached x xs _ refl) [
      | inl e ↦ rw e (each 0 (omega arith))
      | inr h ↦ rw (sym (h.2 (pos 0))) (each (suc h.0) (omega (arith, h.1)))
    ])

pub least_alone : (xs : List ℤ) (b : ℕ) → b < length xs → ((k : ℕ) → k < length xs → get_or xs b (pos 0) ≤ℤ get_or xs k (pos 0)) → get_or xs b (pos 0) ≡ least xs
least_alone [] b lt each = absurd (let q : ⊥ = omega arith in q)
least_alone (x ∷ xs) b lt each =
    same_number _ _
    (elim (folded_min_z_reached x xs _ refl) [
      | inl e ↦ rw e (each 0 (omega arith))
      | inr h ↦ rw (sym (h.2 (pos 0))) (each (suc h.0) (omega (arith, h.1)))
    ])
    (All-get_or (λ y. least (x ∷ xs) ≤ℤ y) (x ∷ xs) b (pos 0) lt (folded_min_z_bounds x xs _ refl))

-- ---- the same of requests
module _ (window : List ActivationRequest) (b : ℕ) (d : ActivationRequest) (in_run : b < length window) where
  units_at : (k : ℕ) → k < length window → get_or (request_units window) k (pos 0) ≡ (get_or window k d).power.units
  units_at k lt = get_or-map (λ (q : ActivationRequest). q.power.units) window k d (pos 0) lt

  length_units : length (request_units window) ≡ length window
  length_units = length-map window (λ (q : ActivationRequest). q.power.units)

  pub highest_is : ((k : ℕ) → k < length window → le_z (get_or window k d).power.units (get_or window b d).power.units ≡ true) → (get_or window b d).power.units ≡ greatest (request_units window)
  highest_is each =
      sym (units_at b in_run)
      ∙ greatest_alone (request_units window) b (omega (arith, length_units))
      (λ k lt. let le : k < length window = omega (arith, length_units) in let e = each k le in rw (units_at k le, units_at b in_run) (grind (arith, ints)))

  pub lowest_is : ((k : ℕ) → k < length window → le_z (get_or window b d).power.units (get_or window k d).power.units ≡ true) → (get_or window b d).power.units ≡ least (request_units window)
  lowest_is each =
      sym (units_at b in_run)
      ∙ least_alone (request_units window) b (omega (arith, length_units))
      (λ k lt. let le : k < length window = omega (arith, length_units) in let e = each k le in rw (units_at k le, units_at b in_run) (grind (arith, ints)))

-- ---- and of the request that a search found
pub highest_found : (window : List ActivationRequest) (q : ActivationRequest) → (place : ℕ) × FirstForemost (λ x y. le_z y.power.units x.power.units) window place × (q ≡ get_or window place q) → q.power.units ≡ greatest (request_units window)
highest_found window q h = ap (λ (q : ActivationRequest). q.power.units) h.2 ∙ highest_is window h.0 q h.1.in_run (λ k lt. h.1.foremost k q lt)

pub lowest_found : (window : List ActivationRequest) (q : ActivationRequest) → (place : ℕ) × FirstForemost (λ x y. le_z x.power.units y.power.units) window place × (q ≡ get_or window place q) → q.power.units ≡ least (request_units window)
lowest_found window q h = ap (λ (q : ActivationRequest). q.power.units) h.2 ∙ lowest_is window h.0 q h.1.in_run (λ k lt. h.1.foremost k q lt)

pub least-below-greatest : (xs : List ℤ) → least xs ≤ℤ greatest xs
least-below-greatest [] = omega (arith, ints)
least-below-greatest (x ∷ xs) =
    let low : least (x ∷ xs) ≤ℤ x = (folded_min_z_bounds x xs _ refl).0 in
    let high : x ≤ℤ greatest (x ∷ xs) = (folded_max_z_bounds x xs _ refl).0 in
    omega (arith, ints)
