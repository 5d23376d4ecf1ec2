-- What bids within their limits come to.
use Rattle.std.proofs.Common.{◌≡◌, ◌*◌, ◌^◌, true, leb, List, length, ℤ, pos, ◌≤ℤ◌, arith}
use Rattle.std.proofs.lemmas.Int.{ints}
use Rattle.std.proofs.lemmas.Bool.{and_parts, leb-true}
use Rattle.std.specs.List.{list_all}
use Rattle.quantity.specs.Series.{power_limit, within, total}
use Rattle.quantity.proofs.Lists.{total-within}
use Rattle.interval_terms.specs.Terms.{each_bid}

pub bids_small : (xs : List ℤ) → each_bid xs ≡ true → (pos 0 ≤ℤ total xs) × (total xs ≤ℤ pos (10 ^ 14 * 32))
bids_small xs h =
    let p = and_parts (leb (length xs) 32) (list_all (within (pos 1) power_limit) xs) h in
    let few = leb-true (length xs) 32 p.0 in
    let w = total-within (pos 1) power_limit xs p.1 in
    (omega (arith, ints), omega (arith, ints))
