-- What the samples of a minute come to.
use Rattle.std.proofs.Common.{◌≡◌, ◌*◌, ◌^◌, ◌≤◌, true, eqb, List, length, ℤ, pos, ◌+ℤ◌, neg_ℤ, nat_abs, arith}
use Rattle.std.proofs.lemmas.Int.{ints}
use Rattle.std.proofs.lemmas.Bool.{and_parts, eqb-true}
use Rattle.std.specs.List.{list_all}
use Rattle.quantity.specs.Series.{power_limit, within, total}
use Rattle.quantity.proofs.Lists.{total-within}
use Rattle.activation.specs.Requests.{sampled}

-- each direction, and both together, come to at most thirty times the limit
pub record Small (up down : ℤ) : Type 0 where
  pub raised : nat_abs up ≤ 10 ^ 14 * 30
  pub lowered : nat_abs down ≤ 10 ^ 14 * 30
  pub both : nat_abs (up +ℤ down) ≤ 10 ^ 14 * 30

pub sums_small : (up down : List ℤ) → sampled (pos 0) power_limit up ≡ true → sampled (neg_ℤ power_limit) (pos 0) down ≡ true → Small (total up) (total down)
sums_small up down h k =
    let p = and_parts (eqb (length up) 30) (list_all (within (pos 0) power_limit) up) h in
    let q = and_parts (eqb (length down) 30) (list_all (within (neg_ℤ power_limit) (pos 0)) down) k in
    let r = rw (eqb-true (length up) 30 p.0) at (total-within (pos 0) power_limit up p.1) in
    let l = rw (eqb-true (length down) 30 q.0) at (total-within (neg_ℤ power_limit) (pos 0) down q.1) in
    record { raised = omega (arith, ints); lowered = omega (arith, ints); both = omega (arith, ints) }
