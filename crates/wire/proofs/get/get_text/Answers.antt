use Rattle.std.proofs.Common.{arith}
use Rattle.wire.proofs.Places.{from_place, text_found, no_text}
use Rattle.wire.proofs.get.get_text.Goals as goal

pub returns-in_err-text-clause-none : goal.returns-in_err-text-clause-none
returns-in_err-text-clause-none c =
    let f = c.in_ok-from.ensures.lookup.0 in
    let is = from_place c.args.bytes.now c.in_ok-from.from.now c.args.at f.0 f.2 in
    rw c.from_residual-in_err-text.ensures (λ t end. no_text c.args.bytes.now c.in_ok-from.from.now c.args.at f.0 is c.in_err-text.ensures t end)

pub overflow_sub-end : goal.overflow_sub-end
overflow_sub-end c =
    let f = c.in_ok-from.ensures.lookup.0 in
    let is = from_place c.args.bytes.now c.in_ok-from.from.now c.args.at f.0 f.2 in
    (text_found c.args.bytes.now c.in_ok-from.from.now c.args.at f.0 is (λ i. omega (arith, c.type_inv.bytes i)) c.in_ok-text.text.now c.in_ok-text.rest.now c.in_ok-text.ensures).0

pub overflow_sub-result : goal.overflow_sub-result
overflow_sub-result c =
    let f = c.in_ok-from.ensures.lookup.0 in
    let is = from_place c.args.bytes.now c.in_ok-from.from.now c.args.at f.0 f.2 in
    (text_found c.args.bytes.now c.in_ok-from.from.now c.args.at f.0 is (λ i. omega (arith, c.type_inv.bytes i)) c.in_ok-text.text.now c.in_ok-text.rest.now c.in_ok-text.ensures).1

pub returns-clause-found : goal.returns-clause-found
returns-clause-found c =
    let f = c.in_ok-from.ensures.lookup.0 in
    let is = from_place c.args.bytes.now c.in_ok-from.from.now c.args.at f.0 f.2 in
    (text_found c.args.bytes.now c.in_ok-from.from.now c.args.at f.0 is (λ i. omega (arith, c.type_inv.bytes i)) c.in_ok-text.text.now c.in_ok-text.rest.now c.in_ok-text.ensures).2
