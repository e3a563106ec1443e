use Rattle.std.proofs.Common.{◌≡◌, ℕ, ◌+◌, ◌++◌, List, length, Ok, ap, sym, ◌∙◌, subst, arith}
use Rattle.ir_memory.specs.Given.{IsBlock}
use Rattle.ir_memory.proofs.Changed.{on_err}
use Rattle.run_rules.specs.Access.{behind}
use Rattle.run_names.specs.Values.Answer.{IsRefusal}
use Rattle.run_names.specs.Values.Strings.{StringTold, string_then}
use Rattle.run_names.proofs.OnValues.Bytes.{IsPartRead, none_read, one_read, zero_read, no_byte, all_read}
use Rattle.run_names.proofs.OnValues.Refusals.{if_fault}
use Rattle.run_names.proofs.values.string.push_bytes.Goals as goal

pub bytes-init : goal.bytes-init
bytes-init c = none_read c.args.memory.now c.args.pointer c.args.most c.args.into.now.items

pub byte_at-requires : goal.byte_at-requires
byte_at-requires c = subst (λ b. IsBlock (length c.args.memory.now.list) b) (sym c.bytes.invariant.block) c.requires

pub bytes-preserved : goal.bytes-preserved
bytes-preserved c =
    let m = c.args.memory.now in
    let p = c.args.pointer in
    let k = c.bytes._read in
    let old = c.args.into.now.items in
    let more = one_read m p c.args.most k c.bytes.place old c.bytes.into.items c.in_ok-byte.byte c.bytes.invariant c.bytes-test.true (sym c.in_ok-byte.ensures) c.if-byte-eq0.false in
    subst (λ q. IsPartRead m p c.args.most (k + 1) q old c.push.new.self.items) (sym c.behind-place.ensures)
    (subst (λ new. IsPartRead m p c.args.most (k + 1) (behind c.bytes.place 1) old new) (sym c.in_ok-push.ensures.items) more)

pub returns-in_err-byte-clause-err : goal.returns-in_err-byte-clause-err
returns-in_err-byte-clause-err c =
    on_err c.from_residual.result ((bytes : List ℕ) × (c.bytes.into.items ≡ c.args.into.now.items ++ bytes)) (c.bytes.invariant.front, c.bytes.invariant.items)

pub returns-in_err-byte-clause-why : goal.returns-in_err-byte-clause-why
returns-in_err-byte-clause-why c =
    let m = c.args.memory.now in
    let p = c.args.pointer in
    if_fault c.from_residual.result _ (λ fault. (rest : StringTold) → IsRefusal (string_then rest m c.args.most p) fault) c.from_residual.ensures.0 c.from_residual.ensures.1
    (no_byte m p c.args.most c.bytes._read c.bytes.place c.args.into.now.items c.bytes.into.items _ c.bytes.invariant c.bytes-test.true (sym c.in_err-byte.ensures))

pub returns-then-byte-eq0-clause-ok : goal.returns-then-byte-eq0-clause-ok
returns-then-byte-eq0-clause-ok c = (
  c.bytes.invariant.front,
  zero_read c.args.memory.now c.args.pointer c.args.most c.bytes._read c.bytes.place c.args.into.now.items c.bytes.into.items c.bytes.invariant c.bytes-test.true
      (sym c.in_ok-byte.ensures ∙ ap Ok c.if-byte-eq0.true),
  c.bytes.invariant.items,
)

pub returns-in_err-push-clause-err : goal.returns-in_err-push-clause-err
returns-in_err-push-clause-err c =
    on_err c.from_residual-in_err-push.result ((bytes : List ℕ) × (c.push.new.self.items ≡ c.args.into.now.items ++ bytes))
    (c.bytes.invariant.front, c.in_err-push.ensures.items ∙ c.bytes.invariant.items)

pub returns-clause-ok : goal.returns-clause-ok
returns-clause-ok c = (
  c.bytes.invariant.front,
  all_read c.args.memory.now c.args.pointer c.args.most c.bytes._read c.bytes.place c.args.into.now.items c.bytes.into.items c.bytes.invariant (omega arith),
  c.bytes.invariant.items,
)
