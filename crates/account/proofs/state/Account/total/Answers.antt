use Rattle.account.proofs.Nearest.{holds_least}
use Rattle.account.proofs.state.Account.total.Goals as goal

pub returns-clause-least : goal.returns-clause-least
returns-clause-least g c = λ js h. holds_least js _ _ h
