use Rattle.std.proofs.Common.{[]}
use Rattle.account.proofs.Runs.{Underway}
use Rattle.account.proofs.following.follow.Given as goal

abbrev pub invariant-loop : goal.invariant-loop
invariant-loop g l =
    g.C.AccountClient.told [] l.initial.client →
    Underway g.R.BandRule.lowest g.R.BandRule.highest g.C.AccountClient.told l.initial.account.rule l.counter l.client l.account.rule l.account.total.units l.account.count
