use Rattle.jc_words.proofs.Fitting.{order_fits}
use Rattle.jc_words.proofs.laws.orders_fit.Goals as goal

pub returns-clause-orders : goal.returns-clause-orders
returns-clause-orders c = order_fits
