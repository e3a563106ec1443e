use Rattle.std.proofs.Common.{◌++◌, flat_map, refl, sym, ap, ◌∙◌, subst}
use Rattle.module_arena.specs.declared.instruction.Choice.{Choice}
use Rattle.module_arena.specs.declared.instruction.Call.{Call}
use Rattle.module_arena.specs.declared.instruction.Insertion.{Insertion}
use Rattle.record_write.proofs.OnOrder.Going.{goes_end, goes_as, goes_then}
use Rattle.record_write.specs.Order.Written.{in_value, in_operand, in_incoming, in_signature, in_inst}
use Rattle.record_write.specs.Order.Known.{KnowsChoice, KnowsCall, KnowsInst, KnowsInsertion}
use Rattle.record_write.proofs.order.instructions.note_instruction.Goals as goal

pub note_operand-requires : goal.note_operand-requires
note_operand-requires c =
    let known = subst (KnowsInst c.args.arena.now) c.in-Binary.is c.requires.instruction in
    record { ready = c.requires.ready; operand = known.0 }

pub note_value-requires : goal.note_value-requires
note_value-requires c =
    let known = subst (KnowsInst c.args.arena.now) c.in-Binary.is c.requires.instruction in
    record { ready = c.in_ok-note_operand-in-Binary.ensures.ready; value = known.1 }

pub returns-in_ok-note_operand-in-Binary : goal.returns-in_ok-note_operand-in-Binary
returns-in_ok-note_operand-in-Binary c = goes_end _ _ _ _ c.note_value.result c.in_ok-note_operand-in-Binary.ensures refl (ap (in_inst c.args.arena.now) (sym c.in-Binary.is)) c.note_value.ensures

pub note_operand-requires-in-Compare : goal.note_operand-requires-in-Compare
note_operand-requires-in-Compare c =
    let known = subst (KnowsInst c.args.arena.now) c.in-Compare.is c.requires.instruction in
    record { ready = c.requires.ready; operand = known.0 }

pub note_value-requires-in-Compare : goal.note_value-requires-in-Compare
note_value-requires-in-Compare c =
    let known = subst (KnowsInst c.args.arena.now) c.in-Compare.is c.requires.instruction in
    record { ready = c.in_ok-note_operand-in-Compare.ensures.ready; value = known.1 }

pub returns-in_ok-note_operand-in-Compare : goal.returns-in_ok-note_operand-in-Compare
returns-in_ok-note_operand-in-Compare c = goes_end _ _ _ _ c.note_value-in-Compare.result c.in_ok-note_operand-in-Compare.ensures refl (ap (in_inst c.args.arena.now) (sym c.in-Compare.is)) c.note_value-in-Compare.ensures

pub note_operand-requires-in-Convert : goal.note_operand-requires-in-Convert
note_operand-requires-in-Convert c =
    let known = subst (KnowsInst c.args.arena.now) c.in-Convert.is c.requires.instruction in
    record { ready = c.requires.ready; operand = known.0 }

pub note_type-requires : goal.note_type-requires
note_type-requires c =
    let known = subst (KnowsInst c.args.arena.now) c.in-Convert.is c.requires.instruction in
    record { ready = c.in_ok-note_operand-in-Convert.ensures.ready; ty = known.1 }

pub returns-in_ok-note_operand-in-Convert : goal.returns-in_ok-note_operand-in-Convert
returns-in_ok-note_operand-in-Convert c = goes_end _ _ _ _ c.note_type.result c.in_ok-note_operand-in-Convert.ensures refl (ap (in_inst c.args.arena.now) (sym c.in-Convert.is)) c.note_type.ensures

pub note_choice-requires : goal.note_choice-requires
note_choice-requires c =
    let known = subst (KnowsInst c.args.arena.now) c.in-Select.is c.requires.instruction in
    record { ready = c.requires.ready; choice = subst (KnowsChoice c.args.arena.now) (sym c.get.ensures) known }

pub returns-in-Select : goal.returns-in-Select
returns-in-Select c = goes_as c.args.arena.now c.args.order.now _ _ _ c.note_choice.result (ap (λ (x : Choice). in_operand c.args.arena.now x.condition ++ in_operand c.args.arena.now x.first ++ in_operand c.args.arena.now x.second) c.get.ensures ∙ ap (in_inst c.args.arena.now) (sym c.in-Select.is)) c.note_choice.ensures

pub note_operand-requires-in-Freeze : goal.note_operand-requires-in-Freeze
note_operand-requires-in-Freeze c =
    let known = subst (KnowsInst c.args.arena.now) c.in-Freeze.is c.requires.instruction in
    record { ready = c.requires.ready; operand = known }

pub returns-in-Freeze : goal.returns-in-Freeze
returns-in-Freeze c = goes_as c.args.arena.now c.args.order.now _ _ _ c.note_operand-in-Freeze.result (ap (in_inst c.args.arena.now) (sym c.in-Freeze.is)) c.note_operand-in-Freeze.ensures

pub note_type-requires-in-Phi : goal.note_type-requires-in-Phi
note_type-requires-in-Phi c =
    let known = subst (KnowsInst c.args.arena.now) c.in-Phi.is c.requires.instruction in
    record { ready = c.requires.ready; ty = known.0 }

pub note_incoming-requires : goal.note_incoming-requires
note_incoming-requires c =
    let known = subst (KnowsInst c.args.arena.now) c.in-Phi.is c.requires.instruction in
    record { ready = c.in_ok-note_type-in-Phi.ensures.ready; values = rw c.as_slice.ensures known.1 }

pub returns-in_ok-note_type-in-Phi : goal.returns-in_ok-note_type-in-Phi
returns-in_ok-note_type-in-Phi c = goes_end _ _ _ _ c.note_incoming.result c.in_ok-note_type-in-Phi.ensures (ap (flat_map (in_incoming c.args.arena.now)) c.as_slice.ensures) (ap (in_inst c.args.arena.now) (sym c.in-Phi.is)) c.note_incoming.ensures

pub note_type-requires-in-Load : goal.note_type-requires-in-Load
note_type-requires-in-Load c =
    let known = subst (KnowsInst c.args.arena.now) c.in-Load.is c.requires.instruction in
    record { ready = c.requires.ready; ty = known.0 }

pub note_operand-requires-in-Load : goal.note_operand-requires-in-Load
note_operand-requires-in-Load c =
    let known = subst (KnowsInst c.args.arena.now) c.in-Load.is c.requires.instruction in
    record { ready = c.in_ok-note_type-in-Load.ensures.ready; operand = known.1 }

pub returns-in_ok-note_type-in-Load : goal.returns-in_ok-note_type-in-Load
returns-in_ok-note_type-in-Load c = goes_end _ _ _ _ c.note_operand-in-Load.result c.in_ok-note_type-in-Load.ensures refl (ap (in_inst c.args.arena.now) (sym c.in-Load.is)) c.note_operand-in-Load.ensures

pub note_operand-requires-in-Store : goal.note_operand-requires-in-Store
note_operand-requires-in-Store c =
    let known = subst (KnowsInst c.args.arena.now) c.in-Store.is c.requires.instruction in
    record { ready = c.requires.ready; operand = known.0 }

pub note_operand-requires-in-Store-2 : goal.note_operand-requires-in-Store-2
note_operand-requires-in-Store-2 c =
    let known = subst (KnowsInst c.args.arena.now) c.in-Store.is c.requires.instruction in
    record { ready = c.in_ok-note_operand-in-Store.ensures.ready; operand = known.1 }

pub returns-in_ok-note_operand-in-Store : goal.returns-in_ok-note_operand-in-Store
returns-in_ok-note_operand-in-Store c = goes_end _ _ _ _ c.note_operand-in-Store-2.result c.in_ok-note_operand-in-Store.ensures refl (ap (in_inst c.args.arena.now) (sym c.in-Store.is)) c.note_operand-in-Store-2.ensures

pub note_type-requires-in-Alloca : goal.note_type-requires-in-Alloca
note_type-requires-in-Alloca c =
    let known = subst (KnowsInst c.args.arena.now) c.in-Alloca.is c.requires.instruction in
    record { ready = c.requires.ready; ty = known.0 }

pub note_count-requires : goal.note_count-requires
note_count-requires c =
    let known = subst (KnowsInst c.args.arena.now) c.in-Alloca.is c.requires.instruction in
    record { ready = c.in_ok-note_type-in-Alloca.ensures.ready; count = known.1 }

pub returns-in_ok-note_type-in-Alloca : goal.returns-in_ok-note_type-in-Alloca
returns-in_ok-note_type-in-Alloca c = goes_end _ _ _ _ c.note_count.result c.in_ok-note_type-in-Alloca.ensures refl (ap (in_inst c.args.arena.now) (sym c.in-Alloca.is)) c.note_count.ensures

pub note_type-requires-in-GetElementPtr : goal.note_type-requires-in-GetElementPtr
note_type-requires-in-GetElementPtr c =
    let known = subst (KnowsInst c.args.arena.now) c.in-GetElementPtr.is c.requires.instruction in
    record { ready = c.requires.ready; ty = known.0 }

pub note_operand-requires-in-GetElementPtr : goal.note_operand-requires-in-GetElementPtr
note_operand-requires-in-GetElementPtr c =
    let known = subst (KnowsInst c.args.arena.now) c.in-GetElementPtr.is c.requires.instruction in
    record { ready = c.in_ok-note_type-in-GetElementPtr.ensures.ready; operand = known.1 }

pub note_operands-requires : goal.note_operands-requires
note_operands-requires c =
    let known = subst (KnowsInst c.args.arena.now) c.in-GetElementPtr.is c.requires.instruction in
    record { ready = c.in_ok-note_operand-in-GetElementPtr.ensures.ready; operands = rw c.as_slice-in-GetElementPtr.ensures known.2 }

pub returns-in_ok-note_operand-in-GetElementPtr : goal.returns-in_ok-note_operand-in-GetElementPtr
returns-in_ok-note_operand-in-GetElementPtr c = goes_end _ _ _ _ c.note_operands.result (goes_then c.in_ok-note_type-in-GetElementPtr.ensures c.in_ok-note_operand-in-GetElementPtr.ensures) (ap (flat_map (in_operand c.args.arena.now)) c.as_slice-in-GetElementPtr.ensures) (ap (in_inst c.args.arena.now) (sym c.in-GetElementPtr.is)) c.note_operands.ensures

pub note_call-requires : goal.note_call-requires
note_call-requires c =
    let known = subst (KnowsInst c.args.arena.now) c.in-Call.is c.requires.instruction in
    record { ready = c.requires.ready; call = subst (KnowsCall c.args.arena.now) (sym c.get-in-Call.ensures) known }

pub returns-in-Call : goal.returns-in-Call
returns-in-Call c = goes_as c.args.arena.now c.args.order.now _ _ _ c.note_call.result (ap (λ (x : Call). in_signature c.args.arena.now x.signature ++ in_value c.args.arena.now x.callee ++ flat_map (in_operand c.args.arena.now) x.arguments) c.get-in-Call.ensures ∙ ap (in_inst c.args.arena.now) (sym c.in-Call.is)) c.note_call.ensures

pub note_operand-requires-in-ExtractValue : goal.note_operand-requires-in-ExtractValue
note_operand-requires-in-ExtractValue c =
    let known = subst (KnowsInst c.args.arena.now) c.in-ExtractValue.is c.requires.instruction in
    record { ready = c.requires.ready; operand = known }

pub returns-in-ExtractValue : goal.returns-in-ExtractValue
returns-in-ExtractValue c = goes_as c.args.arena.now c.args.order.now _ _ _ c.note_operand-in-ExtractValue.result (ap (in_inst c.args.arena.now) (sym c.in-ExtractValue.is)) c.note_operand-in-ExtractValue.ensures

pub note_insertion-requires : goal.note_insertion-requires
note_insertion-requires c =
    let known = subst (KnowsInst c.args.arena.now) c.in-InsertValue.is c.requires.instruction in
    record { ready = c.requires.ready; insertion = subst (KnowsInsertion c.args.arena.now) (sym c.get-in-InsertValue.ensures) known }

pub returns-in-InsertValue : goal.returns-in-InsertValue
returns-in-InsertValue c = goes_as c.args.arena.now c.args.order.now _ _ _ c.note_insertion.result (ap (λ (x : Insertion). in_operand c.args.arena.now x.aggregate ++ in_operand c.args.arena.now x.part) c.get-in-InsertValue.ensures ∙ ap (in_inst c.args.arena.now) (sym c.in-InsertValue.is)) c.note_insertion.ensures
