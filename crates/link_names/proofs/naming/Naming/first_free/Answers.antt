use Rattle.std.proofs.Common.{◌≡◌, ◌+◌, ◌≤◌, true, length, length-append, sym, ap, ◌∙◌, bytes_eq, arith, rules}
use Rattle.linkage_rules.specs.Lists.{has}
use Rattle.link_rules.specs.Rename.{dotted}
use Rattle.link_names.specs.Naming.{TakenNames, taken}
use Rattle.link_names.proofs.FirstFree.{taken_more, taken_fewer, last_free}
use Rattle.link_names.proofs.naming.Naming.first_free.Goals as goal

pub returns-then-not-is_taken-clause-before : goal.returns-then-not-is_taken-clause-before
returns-then-not-is_taken-clause-before c = c.numbers.invariant.before

pub numbers-preserved : goal.numbers-preserved
numbers-preserved c =
    let names = taken c.args.self.now in
    let there : c.is_taken.result ≡ true = search rules in
    let e : has bytes_eq names (dotted c.args.base.now c.numbers.number) ≡ true = ap (has bytes_eq names) (sym c.in_ok-name.ensures) ∙ sym c.is_taken.ensures ∙ there in
    record { first = omega arith; before = taken_more names c.args.base.now c.numbers.number c.numbers.invariant.before e }

pub returns-clause-before : goal.returns-clause-before
returns-clause-before c =
    let end : c.len.result + c.len-2.result + 1 ≤ c.numbers.number = c.numbers-test.false in
    taken_fewer (taken c.args.self.now) c.args.base.now (c.len.result + c.len-2.result + 1) c.numbers.number end c.numbers.invariant.before

pub returns-clause-free : goal.returns-clause-free
returns-clause-free c =
    let names = taken c.args.self.now in
    let last = c.len.result + c.len-2.result + 1 in
    let end : last ≤ c.numbers.number = c.numbers-test.false in
    let given : c.len.result ≡ length c.args.self.now.given = c.len.ensures.len ∙ ap (λ (v : TakenNames). length v.given) c.self.view_is in
    let avoided : c.len-2.result ≡ length c.args.self.now.avoided = c.len-2.ensures.len ∙ ap (λ (v : TakenNames). length v.avoided) c.self.view_is in
    let all : last ≡ length names + 1 = omega (arith, given, avoided, length-append c.args.self.now.given c.args.self.now.avoided) in
    ap (has bytes_eq names) c.in_ok-dotted.ensures ∙ last_free names c.args.base.now last c.numbers.number all end c.numbers.invariant.before
