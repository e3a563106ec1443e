use Rattle.std.proofs.Common.{◌≡◌, All, length, slice_get, Some, sym, ap, ◌∙◌, subst, arith}
use Rattle.type_table.specs.Types.{bodies}
use Rattle.std.specs.Option.{option_copied}
use Rattle.std.proofs.lemmas.List.{length-map}
use Rattle.type_table.specs.Types.{Types, KnowsBody}
use Rattle.record_write.proofs.OnOrder.KnownParts.{entry_known}
use Rattle.record_write.proofs.OnOrder.Going.{goes_none, goes_at, goes_all}
use Rattle.record_write.specs.Order.Written.{in_struct_body}
use Rattle.record_write.proofs.order.entries.note_structs.Goals as goal

pub loop-number-init : goal.loop-number-init
loop-number-init c = goes_none c.requires

pub note_fields-requires : goal.note_fields-requires
note_fields-requires c =
    let at = subst (λ (t : Types). slice_get (bodies t) c.loop-number.number ≡ Some (option_copied c.struct_body.result)) c.types-types.ensures (ap (λ n. slice_get (bodies c.types-types.result.now) n) (sym c.new.ensures) ∙ c.struct_body.ensures) in
    let known = subst (λ (t : Types). All (KnowsBody (length t.types)) (bodies t)) c.types-types.ensures c.type_count-count.ensures.good.known_bodies in
    record { ready = c.loop-number.invariant.ready; body = entry_known (KnowsBody (length c.args.arena.now.table.types)) (bodies c.args.arena.now.table) c.loop-number.number (option_copied c.struct_body.result) at known }

pub loop-number-preserved : goal.loop-number-preserved
loop-number-preserved c =
    let at = subst (λ (t : Types). slice_get (bodies t) c.loop-number.number ≡ Some (option_copied c.struct_body.result)) c.types-types.ensures (ap (λ n. slice_get (bodies c.types-types.result.now) n) (sym c.new.ensures) ∙ c.struct_body.ensures) in
    goes_at (in_struct_body c.args.arena.now.table) (bodies c.args.arena.now.table) c.loop-number.number (option_copied c.struct_body.result) at c.loop-number.invariant c.in_ok-note_fields.ensures

pub returns : goal.returns
returns c =
    let many : length (bodies c.args.arena.now.table) ≡ length c.args.arena.now.table.structs = length-map c.args.arena.now.table.structs (λ s. s.1) in
    let same : length c.types-types.result.now.structs ≡ length c.args.arena.now.table.structs = ap (λ (t : Types). length t.structs) c.types-types.ensures in
    goes_all (in_struct_body c.args.arena.now.table) (bodies c.args.arena.now.table) c.loop-number.number (omega (arith, many, same, c.loop-number-test.false, c.struct_count-number-end.ensures)) c.loop-number.invariant
