use Rattle.std.proofs.Common.{length, ap, ◌∙◌}
use Rattle.std.proofs.lemmas.Result.{err_from_is_err_and}
use Rattle.record_table.specs.Codes.{kind_view}
use Rattle.record_read.specs.Reader.{Reader}
use Rattle.type_table.specs.Types.{Types}
use Rattle.type_read.proofs.Walks.{out_of_memory}
use Rattle.type_read.proofs.Recording.{type_some, type_none}
use Rattle.type_read.proofs.listing.read_type_record.Goals as goal

pub returns-in_err-ty-clause-answers : goal.returns-in_err-ty-clause-answers
returns-in_err-ty-clause-answers c = λ names all s operands on number later so_far.
    let p = err_from_is_err_and c.from_residual.result c.from_residual.ensures.1 in
    rw p.1 (out_of_memory _ _ p.0 p.2)

pub returns-in_err-add_type-in-Some-clause-answers : goal.returns-in_err-add_type-in-Some-clause-answers
returns-in_err-add_type-in-Some-clause-answers c = λ names all s operands on number later so_far.
    let p = err_from_is_err_and c.from_residual-in_err-add_type-in-Some.result c.from_residual-in_err-add_type-in-Some.ensures.1 in
    rw p.1 (out_of_memory _ _ p.0 (p.2 ∙ c.in_err-add_type-in-Some.ensures))

pub returns-in_ok-add_type-in-Some-clause-answers : goal.returns-in_ok-add_type-in-Some-clause-answers
returns-in_ok-add_type-in-Some-clause-answers c = λ names all s operands on number later so_far.
    let read = rw c.in-Some.is at c.in_ok-ty.ensures in
    let added = c.in_ok-add_type-in-Some.ensures in
    let at = ap (λ (r : Reader). r.at) added.1 ∙ (ap (λ (r : Reader). r.at) c.also.ensures ∙ (ap (λ (r : Reader). r.at) read.reader ∙ on.at)) in
    type_some c.args.arena.now _ names all later s operands c.args.reader.now c.read_type.new.reader _ _ on c.are_within.ensures.good so_far (kind_view c.args.kind) c.type_count-count.result c.struct_count-structs.result c.args.defined
    (c.type_count-count.ensures.count ∙ ap (λ (t : Types). length t.types) c.types.ensures) (c.struct_count-structs.ensures ∙ ap (λ (t : Types). length t.structs) c.types-2.ensures) number c.also.ensures
    c.in-Some.ty _ read added at c.finish.ensures.told

pub returns-in-None-clause-answers : goal.returns-in-None-clause-answers
returns-in-None-clause-answers c = λ names all s operands on number later so_far.
    let read = rw c.in-None.is at c.in_ok-ty.ensures in
    let at = ap (λ (r : Reader). r.at) c.also.ensures ∙ (ap (λ (r : Reader). r.at) read.reader ∙ on.at) in
    type_none c.args.arena.now c.args.arena.now names all later s operands c.args.reader.now c.read_type.new.reader _ c.args.reader.now on c.are_within.ensures.good so_far (kind_view c.args.kind) c.type_count-count.result
    c.struct_count-structs.result c.args.defined
    (c.type_count-count.ensures.count ∙ ap (λ (t : Types). length t.types) c.types.ensures) (c.struct_count-structs.ensures ∙ ap (λ (t : Types). length t.structs) c.types-2.ensures) number c.also.ensures
    _ read at c.finish-in-None.ensures.told
