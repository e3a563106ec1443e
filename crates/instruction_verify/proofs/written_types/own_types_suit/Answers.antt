use Rattle.std.proofs.Common.{◌<◌, ◌∷◌, ◌&&◌, All, length, subst, sym, ap, ◌∙◌}
use Rattle.std.specs.List.{list_all}
use Rattle.type_table.specs.Types.{tree, structs}
use Rattle.type_table.proofs.ShapeMeasures.{and_true}
use Rattle.module_arena.specs.EntryRules.{return_suits}
use Rattle.module_arena.specs.InstructionRules.{result_suits}
use Rattle.module_arena.specs.Mentions.{types_of}
use Rattle.module_arena.specs.TypeTests.{is_passable, lies_in_memory, part_at}
use Rattle.module_arena.specs.declared.instruction.Call.{Call}
use Rattle.module_arena.specs.declared.instruction.Choice.{Choice}
use Rattle.module_arena.specs.declared.instruction.Insertion.{Insertion}
use Rattle.instruction_verify.specs.ArenaOperands.{instruction_in}
use Rattle.instruction_verify.specs.Parts.{own_types_suit}
use Rattle.instruction_verify.proofs.OwnTypes.{call_suits, gives, type_moves}
use Rattle.instruction_verify.proofs.written_types.own_types_suit.Goals as goal

pub returns-in-Binary : goal.returns-in-Binary
returns-in-Binary c a values blocks same =
    let t = c.args.types.now in
    c.is_passable.ensures
    ∙ gives t a same c.in-Binary.left.ty
    ∙ ap (λ i. own_types_suit (structs t) (instruction_in a values blocks i).operation) (sym c.in-Binary.is)

pub returns-in-Convert : goal.returns-in-Convert
returns-in-Convert c a values blocks same =
    let t = c.args.types.now in
    c.is_passable-in-Convert.ensures
    ∙ gives t a same c.in-Convert.to
    ∙ ap (λ i. own_types_suit (structs t) (instruction_in a values blocks i).operation) (sym c.in-Convert.is)

pub returns-in-Freeze : goal.returns-in-Freeze
returns-in-Freeze c a values blocks same =
    let t = c.args.types.now in
    c.is_passable-in-Freeze.ensures
    ∙ gives t a same c.in-Freeze.operand.ty
    ∙ ap (λ i. own_types_suit (structs t) (instruction_in a values blocks i).operation) (sym c.in-Freeze.is)

pub returns-in-Phi : goal.returns-in-Phi
returns-in-Phi c a values blocks same =
    let t = c.args.types.now in
    c.is_passable-in-Phi.ensures
    ∙ gives t a same c.in-Phi.ty
    ∙ ap (λ i. own_types_suit (structs t) (instruction_in a values blocks i).operation) (sym c.in-Phi.is)

pub returns-in-Load : goal.returns-in-Load
returns-in-Load c a values blocks same =
    let t = c.args.types.now in
    c.is_passable-in-Load.ensures
    ∙ gives t a same c.in-Load.ty
    ∙ ap (λ i. own_types_suit (structs t) (instruction_in a values blocks i).operation) (sym c.in-Load.is)

pub returns-in-Compare : goal.returns-in-Compare
returns-in-Compare c a values blocks same =
    let t = c.args.types.now in
    ap (λ i. own_types_suit (structs t) (instruction_in a values blocks i).operation) (sym c.in-Compare.is)

pub returns-in-Store : goal.returns-in-Store
returns-in-Store c a values blocks same =
    let t = c.args.types.now in
    ap (λ i. own_types_suit (structs t) (instruction_in a values blocks i).operation) (sym c.in-Store.is)

pub returns-in-Select : goal.returns-in-Select
returns-in-Select c a values blocks same =
    let t = c.args.types.now in
    c.is_passable-in-Select.ensures
    ∙ ap (λ (k : Choice). is_passable (structs t) (tree t k.first.ty)) c.get.ensures
    ∙ gives t a same c.in-Select.choice.first.ty
    ∙ ap (λ i. own_types_suit (structs t) (instruction_in a values blocks i).operation) (sym c.in-Select.is)

pub returns-in-InsertValue : goal.returns-in-InsertValue
returns-in-InsertValue c a values blocks same =
    let t = c.args.types.now in
    c.is_passable-in-InsertValue.ensures
    ∙ ap (λ (k : Insertion). is_passable (structs t) (tree t k.aggregate.ty)) c.get-in-InsertValue.ensures
    ∙ gives t a same c.in-InsertValue.insertion.aggregate.ty
    ∙ ap (λ i. own_types_suit (structs t) (instruction_in a values blocks i).operation) (sym c.in-InsertValue.is)

pub returns-in-Alloca : goal.returns-in-Alloca
returns-in-Alloca c a values blocks same =
    let t = c.args.types.now in
    c.lies_in_memory.ensures
    ∙ type_moves t a same (lies_in_memory (structs t)) c.in-Alloca.ty
    ∙ ap (λ i. own_types_suit (structs t) (instruction_in a values blocks i).operation) (sym c.in-Alloca.is)

pub returns-in-GetElementPtr : goal.returns-in-GetElementPtr
returns-in-GetElementPtr c a values blocks same =
    let t = c.args.types.now in
    c.lies_in_memory-in-GetElementPtr.ensures
    ∙ type_moves t a same (lies_in_memory (structs t)) c.in-GetElementPtr.source
    ∙ ap (λ i. own_types_suit (structs t) (instruction_in a values blocks i).operation) (sym c.in-GetElementPtr.is)

pub signature_suits-requires : goal.signature_suits-requires
signature_suits-requires c =
    let t = c.args.types.now in
    subst (λ (k : Call). All (λ ty. ty < length t.types) (k.signature.returns ∷ k.signature.parameters)) (sym c.get-in-Call.ensures)
    (subst (λ i. All (λ ty. ty < length t.types) (types_of i)) c.in-Call.is c.requires.written)

pub returns-in-Call : goal.returns-in-Call
returns-in-Call c a values blocks same =
    let t = c.args.types.now in
    c.signature_suits.ensures
    ∙ ap (λ (k : Call). return_suits (structs t) (tree t k.signature.returns) && list_all (λ ty. is_passable (structs t) (tree t ty)) k.signature.parameters) c.get-in-Call.ensures
    ∙ call_suits t a same c.in-Call.call.signature.returns c.in-Call.call.signature.parameters
    ∙ ap (λ i. own_types_suit (structs t) (instruction_in a values blocks i).operation) (sym c.in-Call.is)

pub returns-in-ExtractValue : goal.returns-in-ExtractValue
returns-in-ExtractValue c a values blocks same =
    let t = c.args.types.now in
    c.part_suits.ensures
    ∙ ap (λ ks. result_suits (structs t) (part_at (structs t) (tree t c.in-ExtractValue.aggregate.ty) ks)) c.as_slice.ensures
    ∙ type_moves t a same (λ u. result_suits (structs t) (part_at (structs t) u c.in-ExtractValue.indices)) c.in-ExtractValue.aggregate.ty
    ∙ and_true _
    ∙ ap (λ i. own_types_suit (structs t) (instruction_in a values blocks i).operation) (sym c.in-ExtractValue.is)
