use Rattle.std.proofs.Common.{arith}
use Rattle.wire.proofs.Places.{from_place, num_found, no_num}
use Rattle.wire.proofs.get.get_num.Goals as goal

pub returns-in_err-number-clause-none : goal.returns-in_err-number-clause-none
returns-in_err-number-clause-none c =
    let f = c.in_ok-from.ensures.lookup.0 in
    let is = from_place c.args.bytes.now c.in_ok-from.from.now c.args.at f.0 f.2 in
    rw c.from_residual-in_err-number.ensures (λ n end. no_num c.args.bytes.now c.in_ok-from.from.now c.args.at f.0 is c.in_err-number.ensures.value n end)

pub overflow_sub-result : goal.overflow_sub-result
overflow_sub-result c =
    let f = c.in_ok-from.ensures.lookup.0 in
    let is = from_place c.args.bytes.now c.in_ok-from.from.now c.args.at f.0 f.2 in
    (num_found c.args.bytes.now c.in_ok-from.from.now c.args.at f.0 is (λ i. omega (arith, c.type_inv.bytes i)) c.in_ok-number.number c.in_ok-number.rest.now c.in_ok-number.ensures.value).0

pub returns-clause-found : goal.returns-clause-found
returns-clause-found c =
    let f = c.in_ok-from.ensures.lookup.0 in
    let is = from_place c.args.bytes.now c.in_ok-from.from.now c.args.at f.0 f.2 in
    (num_found c.args.bytes.now c.in_ok-from.from.now c.args.at f.0 is (λ i. omega (arith, c.type_inv.bytes i)) c.in_ok-number.number c.in_ok-number.rest.now c.in_ok-number.ensures.value).1
