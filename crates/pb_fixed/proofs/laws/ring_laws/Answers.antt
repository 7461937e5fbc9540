use Rattle.std.proofs.Common.{arith}
use Rattle.std.proofs.lemmas.Int.{ints}
use Rattle.pb_fixed.proofs.RingLaws.{add_assoc, add_comm, zero_add, mul_assoc, mul_comm, one_mul, mul_add}
use Rattle.pb_fixed.proofs.laws.ring_laws.Goals as goal

pub returns : goal.returns
returns c = record {
  add_assoc = λ a b d. add_assoc a b d;
  add_comm = λ a b. add_comm a b;
  zero_add = λ a. zero_add a;
  neg_add = λ a. omega (arith, ints);
  mul_assoc = mul_assoc;
  mul_comm = λ a b. mul_comm a b;
  one_mul = one_mul;
  mul_add = mul_add;
}
