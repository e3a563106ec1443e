use Rattle.std.proofs.Common.{◌≡◌, ap, sym, ◌∙◌, List, ℕ, bytes_eq, cond, Some, None}
use Rattle.type_table.specs.Names.Entries.{value_of}
use Rattle.name_judge.proofs.Firsts.{first_more, first_again}
use Rattle.name_judge.proofs.earlier.first_or_kept.Goals as goal

pub returns-in-Some-clause-earlier : goal.returns-in-Some-clause-earlier
returns-in-Some-clause-earlier c before are =
    let old = c.args.seen.now in
    let name = c.args.name.now in
    sym c.in-Some.is ∙ c.get.ensures ∙ ap (value_of old) c.bytes.ensures.bytes ∙ are.each name.name

pub returns-in-Some-clause-kept : goal.returns-in-Some-clause-kept
returns-in-Some-clause-kept c before are =
    let old = c.args.seen.now in
    let name = c.args.name.now in
    first_again old before name c.in-Some.earlier (ap (value_of old) (sym c.bytes.ensures.bytes) ∙ sym c.get.ensures ∙ c.in-Some.is) are

pub returns-in_ok-put-in-None-clause-earlier : goal.returns-in_ok-put-in-None-clause-earlier
returns-in_ok-put-in-None-clause-earlier c before are =
    let old = c.args.seen.now in
    let name = c.args.name.now in
    sym c.in-None.is ∙ c.get.ensures ∙ ap (value_of old) c.bytes.ensures.bytes ∙ are.each name.name

pub returns-in_ok-put-in-None-clause-kept : goal.returns-in_ok-put-in-None-clause-kept
returns-in_ok-put-in-None-clause-kept c before are =
    let old = c.args.seen.now in
    let name = c.args.name.now in
    let none : value_of old name.name ≡ None = ap (value_of old) (sym c.bytes.ensures.bytes) ∙ sym c.get.ensures ∙ c.in-None.is in
    first_more old c.put.new.self before name none
    (λ other. c.in_ok-put-in-None.ensures.put other ∙ ap (λ (k : List ℕ). cond (bytes_eq other k) (Some name.place) (value_of old other)) c.bytes-in-None.ensures.bytes)
    are
