use Rattle.kad_distance.proofs.Orders.{closeness_total, closeness_exact}
use Rattle.kad_distance.proofs.laws.order_is_strict.Goals as goal

pub returns : goal.returns
returns c = record { total = closeness_total; strict = closeness_exact }
