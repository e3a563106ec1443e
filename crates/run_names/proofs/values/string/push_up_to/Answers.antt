use Rattle.std.proofs.Common.{◌+◌, Err, Ok, [], sym, ap, ◌∙◌, subst}
use Rattle.ir_tables.specs.declared.undefined_kind.UndefinedKind.TheVariants.{OutsideBlock}
use Rattle.ir_memory.specs.Memory.{live_bytes}
use Rattle.run_rules.specs.Printing.{string_for}
use Rattle.run_names.specs.Values.Answer.{IsRefusal}
use Rattle.run_names.specs.Values.Strings.{string_ended, string_then}
use Rattle.run_names.proofs.OnValues.Bytes.{ended_is, up_to_is, within_is}
use Rattle.run_names.proofs.OnValues.Refusals.{if_fault}
use Rattle.run_names.proofs.values.string.push_up_to.Goals as goal

pub returns-in_err-push_bytes-in-Some-clause-why : goal.returns-in_err-push_bytes-in-Some-clause-why
returns-in_err-push_bytes-in-Some-clause-why c =
    let m = c.args.memory.now in
    let p = c.args.pointer in
    let same = ap (λ n. string_then (Ok []) m n p) c.from.ensures ∙ sym (up_to_is m c.in-Some.most p) ∙ ap (λ o. string_for m o p) (sym c.in-Some.is) in
    if_fault c.from_residual.result _ (IsRefusal (string_for m c.args.most p)) c.from_residual.ensures.0 c.from_residual.ensures.1
    (subst (λ s. IsRefusal s c.in_err-push_bytes-in-Some.field-0.0) same (c.in_err-push_bytes-in-Some.ensures.why (Ok [])))

pub returns-in_err-push_bytes-in-None-clause-why : goal.returns-in_err-push_bytes-in-None-clause-why
returns-in_err-push_bytes-in-None-clause-why c =
    let m = c.args.memory.now in
    let p = c.args.pointer in
    let same =
    ap (λ n. string_then (Err OutsideBlock) m (n + 1) p) c.live_bytes.ensures.value ∙ sym (within_is m (live_bytes m.list + 1) p)
    ∙ ap (λ o. string_for m o p) (sym c.in-None.is) in
    if_fault c.from_residual-in_err-push_bytes-in-None.result _ (IsRefusal (string_for m c.args.most p)) c.from_residual-in_err-push_bytes-in-None.ensures.0
    c.from_residual-in_err-push_bytes-in-None.ensures.1
    (subst (λ s. IsRefusal s c.in_err-push_bytes-in-None.field-0.0) same (c.in_err-push_bytes-in-None.ensures.why (Err OutsideBlock)))

pub returns-in_ok-push_bytes-in-Some-clause-ok : goal.returns-in_ok-push_bytes-in-Some-clause-ok
returns-in_ok-push_bytes-in-Some-clause-ok c =
    let m = c.args.memory.now in
    let p = c.args.pointer in
    let same = ap (λ n. string_then (Ok []) m n p) c.from.ensures ∙ sym (up_to_is m c.in-Some.most p) ∙ ap (λ o. string_for m o p) (sym c.in-Some.is) in
    let read = c.in_ok-push_bytes-in-Some.ensures.ok in
    (read.0, sym same ∙ read.1 (Ok []) ∙ ended_is read.0 c.in_ok-push_bytes-in-Some.field-0, read.2)

pub returns-then-branch-clause-ok : goal.returns-then-branch-clause-ok
returns-then-branch-clause-ok c =
    let m = c.args.memory.now in
    let p = c.args.pointer in
    let same =
    ap (λ n. string_then (Err OutsideBlock) m (n + 1) p) c.live_bytes.ensures.value ∙ sym (within_is m (live_bytes m.list + 1) p)
    ∙ ap (λ o. string_for m o p) (sym c.in-None.is) in
    let read = c.in_ok-push_bytes-in-None.ensures.ok in
    (read.0, sym same ∙ read.1 (Err OutsideBlock) ∙ ap (λ b. string_ended read.0 b (Err OutsideBlock)) c.if-branch.true, read.2)

pub returns-else-branch-clause-why : goal.returns-else-branch-clause-why
returns-else-branch-clause-why c =
    let m = c.args.memory.now in
    let p = c.args.pointer in
    let same =
    ap (λ n. string_then (Err OutsideBlock) m (n + 1) p) c.live_bytes.ensures.value ∙ sym (within_is m (live_bytes m.list + 1) p)
    ∙ ap (λ o. string_for m o p) (sym c.in-None.is) in
    let read = c.in_ok-push_bytes-in-None.ensures.ok in
    sym same ∙ read.1 (Err OutsideBlock) ∙ ap (λ b. string_ended read.0 b (Err OutsideBlock)) c.if-branch.false
