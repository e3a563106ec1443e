use Rattle.std.proofs.Common.{sym, subst}
use Rattle.std.specs.Prelude.{IfErr, OnOk}
use Rattle.ir_eval.specs.declared.value.Scalar.{Scalar}
use Rattle.run_rules.specs.Printing.{converted}
use Rattle.run_names.specs.Values.Answer.{IsRefusal}
use Rattle.run_actions.proofs.OnHosts.Put.{IsPut, number_put, number_refused}
use Rattle.run_actions.proofs.hosts.conversion.put_converted.Goals as goal

pub returns-in-Int-clause-ok : goal.returns-in-Int-clause-ok
returns-in-Int-clause-ok c =
    let m = c.args.memory.now in
    let k = c.args.conversion.now in
    let put = c.put_converted_number in
    subst (λ (v : Scalar). OnOk put.result (IsPut (converted m k v) c.args.written.now.items put.new.written.items)) (sym c.in-Int.is)
    (number_put m k c.in-Int.number c.args.written.now.items put.new.written.items put.result put.ensures.ok)

pub returns-in-Int-clause-why : goal.returns-in-Int-clause-why
returns-in-Int-clause-why c =
    let put = c.put_converted_number in
    number_refused (converted c.args.memory.now c.args.conversion.now c.args.argument) put.result put.ensures.why

pub returns-in-Ptr-clause-ok : goal.returns-in-Ptr-clause-ok
returns-in-Ptr-clause-ok c =
    let m = c.args.memory.now in
    let k = c.args.conversion.now in
    let put = c.put_string in
    subst (λ (v : Scalar). OnOk put.result (IsPut (converted m k v) c.args.written.now.items put.new.written.items)) (sym c.in-Ptr.is) put.ensures.ok

pub returns-in-Ptr-clause-why : goal.returns-in-Ptr-clause-why
returns-in-Ptr-clause-why c =
    let m = c.args.memory.now in
    let k = c.args.conversion.now in
    let put = c.put_string in
    subst (λ (v : Scalar). IfErr put.result (IsRefusal (converted m k v))) (sym c.in-Ptr.is) put.ensures.why
