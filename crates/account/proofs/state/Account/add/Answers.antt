use Rattle.std.proofs.Common.{◌≡◌, ℕ, ◌+◌, ◌*◌, ◌≤◌, ℤ, pos, ◌+ℤ◌, ◌≤ℤ◌, unsigned_abs, rules, arith}
use Rattle.account.proofs.state.Account.add.Goals as goal

-- one distance more, and the total is within the limit of one figure more
one_more : (total far sum : ℤ) (count : ℕ) → sum ≡ total +ℤ far → total ≤ℤ pos (13000000000000000 * count) → unsigned_abs far ≤ 13000000000000000 → sum ≤ℤ pos (13000000000000000 * (count + 1))
one_more total far sum count is within near = grind arith

pub invariant_of-self-clause-limit : goal.invariant_of-self-clause-limit
invariant_of-self-clause-limit g c =
    let met = c.args.self.now in
    let is : c.from_units-self.result.units ≡ met.total.units +ℤ c.in_ok-far.far.units = search rules in
    one_more met.total.units c.in_ok-far.far.units _ met.count is met.limit c.in_ok-far.ensures.bound

pub invariant_of-self-clause-some : goal.invariant_of-self-clause-some
invariant_of-self-clause-some g c = search rules
