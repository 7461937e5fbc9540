use Rattle.pb_fixed.proofs.Order.{mul_cancel, mul_mono, root_mono, square_pos}
use Rattle.pb_fixed.proofs.laws.order_laws.Goals as goal

pub returns : goal.returns
returns c = record { mul_mono = mul_mono; mul_cancel = mul_cancel; square_nonneg = square_pos; root_mono = root_mono }
