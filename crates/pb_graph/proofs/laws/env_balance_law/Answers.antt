use Rattle.pb_graph.proofs.PriceLemmas.{env_balances}
use Rattle.pb_graph.proofs.laws.env_balance_law.Goals as goal

pub returns : goal.returns
returns c = env_balances
