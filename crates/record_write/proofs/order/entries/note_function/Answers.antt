use Rattle.std.proofs.Common.{◌∷◌, ◌++◌, flat_map, sym, ap, ◌∙◌}
use Rattle.type_table.specs.Types.{tree}
use Rattle.std.proofs.lemmas.List.{append-nil}
use Rattle.record_write.proofs.OnOrder.KnownParts.{blocks_known}
use Rattle.record_write.proofs.OnOrder.Going.{goes_end, goes_then, goes_same}
use Rattle.record_write.specs.Order.Written.{in_type, in_block, in_body}
use Rattle.record_write.proofs.order.entries.note_function.Goals as goal

pub note_type-requires : goal.note_type-requires
note_type-requires c = record { ready = c.requires.ready; ty = c.requires.function.result_known }

pub note_parameters-requires : goal.note_parameters-requires
note_parameters-requires c = record { ready = c.in_ok-note_type.ensures.ready; parameters = rw c.as_slice.ensures c.requires.function.parameters_known }

pub note_blocks-requires : goal.note_blocks-requires
note_blocks-requires c = record { ready = c.in_ok-note_parameters.ensures.ready; blocks = rw c.as_slice-in-Some.ensures (blocks_known c.args.arena.now c.args.function.now c.requires.function c.in-Some.body c.in-Some.is) }

pub returns-in-Some : goal.returns-in-Some
returns-in-Some c =
    goes_end _ _ _ _ c.note_blocks.result (goes_then c.in_ok-note_type.ensures (goes_same (ap (flat_map (λ p. in_type c.args.arena.now p.ty)) c.as_slice.ensures) c.in_ok-note_parameters.ensures))
    (ap (flat_map (in_block c.args.arena.now)) c.as_slice-in-Some.ensures)
    (ap (λ o. tree c.args.arena.now.table c.args.function.now.result ∷ flat_map (λ p. in_type c.args.arena.now p.ty) c.args.function.now.parameters ++ in_body c.args.arena.now o) (sym c.in-Some.is)) c.note_blocks.ensures

pub returns-in-None : goal.returns-in-None
returns-in-None c =
    goes_same (sym (append-nil _) ∙ ap (λ o. tree c.args.arena.now.table c.args.function.now.result ∷ flat_map (λ p. in_type c.args.arena.now p.ty) c.args.function.now.parameters ++ in_body c.args.arena.now o) (sym c.in-None.is))
    (goes_then c.in_ok-note_type.ensures (goes_same (ap (flat_map (λ p. in_type c.args.arena.now p.ty)) c.as_slice.ensures) c.in_ok-note_parameters.ensures))
