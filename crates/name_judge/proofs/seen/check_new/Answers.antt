use Rattle.std.proofs.Common.{◌≡◌, ap, sym, ◌∙◌, List, ℕ, bytes_eq, cond, Some, None}
use Rattle.type_table.specs.Names.Entries.{value_of}
use Rattle.name_judge.proofs.Firsts.{first_more}
use Rattle.name_judge.proofs.seen.check_new.Goals as goal

pub returns-in_ok-put-in-None-clause-seen : goal.returns-in_ok-put-in-None-clause-seen
returns-in_ok-put-in-None-clause-seen c before are =
    let old = c.args.seen.now in
    let name = c.args.name.now in
    let none : value_of old name.name ≡ None = ap (value_of old) (sym c.bytes.ensures.bytes) ∙ sym c.get.ensures ∙ c.in-None.is in
    first_more old c.put.new.self before name none
    (λ other. c.in_ok-put-in-None.ensures.put other ∙ ap (λ (k : List ℕ). cond (bytes_eq other k) (Some name.place) (value_of old other)) c.bytes-in-None.ensures.bytes)
    are
