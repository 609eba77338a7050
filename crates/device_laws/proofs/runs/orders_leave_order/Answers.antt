use Rattle.device_laws.proofs.OrdersInOrder.{replace_order, join_order, split_order, replace_same, join_same, split_same}
use Rattle.device_laws.proofs.runs.orders_leave_order.Goals as goal

pub returns : goal.returns
returns c = record {
  replaced = λ v w d h side l i down has long. (replace_order v w d h side l i down has long, replace_same v w d h side);
  joined = λ v w d h l i single long. (join_order v w d h l i single long, join_same v w d h);
  split = λ v w d h i none up level. (split_order v w d h i none up level, split_same v w d h);
}
