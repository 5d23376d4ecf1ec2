-- The least change is the sum of the distances.
use Rattle.std.proofs.Common.{◌≡◌, ℕ, ◌≤◌, List, [], ◌∷◌, ℤ, pos, ◌-ℤ◌, nat_abs, Some, None, Option, sym, refl, ap, ◌∙◌, arith}
use Rattle.std.proofs.lemmas.Int.{ints, by_lt_z}
use Rattle.std.specs.List.{AllByRecursion}
use Rattle.bands.specs.Ends.{AtLeast, AtMost, Ordered, distance_of}
use Rattle.account.specs.Changes.{Judged, InsideAll, change, LeastChange}
use Rattle.account.specs.Accounts.{distances, Holds}

no_nearer : (low high : Option ℤ) (x v : ℤ) → Ordered low high → AtLeast low v → AtMost high v → distance_of low high x ≤ nat_abs (v -ℤ x)
no_nearer None None x v o a b = grind (arith, ints)
no_nearer None (Some h) x v o a b = grind (arith, ints)
no_nearer (Some l) None x v o a b = grind (arith, ints)
no_nearer (Some l) (Some h) x v o a b = grind (arith, ints)

-- a value inside, as near as the distance
Nearby : Option ℤ → Option ℤ → ℤ → Type 0
Nearby low high x = (v : ℤ) × (AtLeast low v × AtMost high v) × (nat_abs (v -ℤ x) ≡ distance_of low high x)

nearby : (low high : Option ℤ) (x : ℤ) → Ordered low high → Nearby low high x
unfolding Nearby
nearby None None x o = (x, (tt, tt), grind (arith, ints))
nearby None (Some h) x o = by_lt_z h x (λ c. (h, (tt, grind (arith, ints)), grind (arith, ints))) (λ c. (x, (tt, grind (arith, ints)), grind (arith, ints)))
nearby (Some l) None x o = by_lt_z x l (λ c. (l, (grind (arith, ints), tt), grind (arith, ints))) (λ c. (x, (grind (arith, ints), tt), grind (arith, ints)))
nearby (Some l) (Some h) x o =
    by_lt_z x l (λ c. (l, (grind (arith, ints), grind (arith, ints)), grind (arith, ints)))
    (λ c. by_lt_z h x (λ d. (h, (grind (arith, ints), grind (arith, ints)), grind (arith, ints))) (λ d. (x, (grind (arith, ints), grind (arith, ints)), grind (arith, ints))))

bounds : (js : List Judged) → AllByRecursion (λ (j : Judged). Ordered j.low j.high) js → (vs : List ℤ) → InsideAll js vs → distances js ≤ change js vs
bounds [] p [] s = omega arith
bounds [] p (v ∷ vs) s = absurd s
bounds (j ∷ js) p [] s = absurd s
bounds (j ∷ js) p (v ∷ vs) s =
    let here = no_nearer j.low j.high j.figure v p.0 s.0.0 s.0.1 in
    let rest = bounds js p.1 vs s.1 in
    omega arith

reaches : (js : List Judged) → AllByRecursion (λ (j : Judged). Ordered j.low j.high) js → (vs : List ℤ) × InsideAll js vs × (change js vs ≡ distances js)
unfolding Nearby
reaches [] p = ([], tt, refl)
reaches (j ∷ js) p =
    let here = nearby j.low j.high j.figure p.0 in
    let rest = reaches js p.1 in
    (here.0 ∷ rest.0, (here.1, rest.1), omega (arith, here.2, rest.2))

pub holds_least : (js : List Judged) (total : ℤ) (count : ℕ) → Holds js total count → LeastChange js total
holds_least js total count h =
    let r = reaches js h.ordered in
    record {
      least = λ vs inside. (let b = bounds js h.ordered vs inside in let s = h.sum in omega (arith, ints));
      reached = (r.0, r.1, ap pos r.2 ∙ sym h.sum);
    }
