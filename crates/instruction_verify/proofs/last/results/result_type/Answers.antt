use Rattle.std.proofs.Common.{ℕ, ◌<◌, List, [], ◌∷◌, All, length, sym, ap, ◌∙◌, subst}
use Rattle.std.proofs.lemmas.List.Elements.{All-tail}
use Rattle.type_table.specs.Types.{structs, tree}
use Rattle.module_arena.specs.Mentions.{operands_of, types_of}
use Rattle.module_arena.specs.TypeTests.{part_at}
use Rattle.module_arena.specs.declared.instruction.Call.{Call}
use Rattle.module_arena.specs.declared.instruction.Choice.{Choice}
use Rattle.module_arena.specs.declared.instruction.Inst.TheVariants as inst
use Rattle.module_arena.specs.declared.instruction.Insertion.{Insertion}
use Rattle.module_arena.specs.declared.instruction.Operand.{Operand}
use Rattle.instruction_verify.specs.Last.ValuesById.{tree_of}
use Rattle.instruction_verify.specs.declared.last.local_type.LocalType.TheVariants as written
use Rattle.instruction_verify.specs.Last.Given.{given}
use Rattle.instruction_verify.proofs.OnLast.Typed.{first_operand, first_type}
use Rattle.instruction_verify.proofs.last.results.result_type.Goals as goal

pub returns-in-Binary-clause-ty : goal.returns-in-Binary-clause-ty
returns-in-Binary-clause-ty c = ap (given c.args.types.now) (sym c.in-Binary.is)

pub returns-in-Compare-clause-ty : goal.returns-in-Compare-clause-ty
returns-in-Compare-clause-ty c = ap (given c.args.types.now) (sym c.in-Compare.is)

pub returns-in-Convert-clause-ty : goal.returns-in-Convert-clause-ty
returns-in-Convert-clause-ty c = ap (given c.args.types.now) (sym c.in-Convert.is)

pub returns-in-Freeze-clause-ty : goal.returns-in-Freeze-clause-ty
returns-in-Freeze-clause-ty c = ap (given c.args.types.now) (sym c.in-Freeze.is)

pub returns-in-Phi-clause-ty : goal.returns-in-Phi-clause-ty
returns-in-Phi-clause-ty c = ap (given c.args.types.now) (sym c.in-Phi.is)

pub returns-in-Load-clause-ty : goal.returns-in-Load-clause-ty
returns-in-Load-clause-ty c = ap (given c.args.types.now) (sym c.in-Load.is)

pub returns-in-Store-clause-ty : goal.returns-in-Store-clause-ty
returns-in-Store-clause-ty c = ap (given c.args.types.now) (sym c.in-Store.is)

pub returns-in-Alloca-clause-ty : goal.returns-in-Alloca-clause-ty
returns-in-Alloca-clause-ty c = ap (given c.args.types.now) (sym c.in-Alloca.is)

pub returns-in-GetElementPtr-clause-ty : goal.returns-in-GetElementPtr-clause-ty
returns-in-GetElementPtr-clause-ty c = ap (given c.args.types.now) (sym c.in-GetElementPtr.is)

pub returns-in-Binary-clause-known : goal.returns-in-Binary-clause-known
returns-in-Binary-clause-known c = first_operand c.args.types.now c.in-Binary.left [] (subst (λ i. All (λ (o : Operand). o.ty < length c.args.types.now.types) (operands_of i)) c.in-Binary.is c.requires.operands_known)

pub returns-in-Freeze-clause-known : goal.returns-in-Freeze-clause-known
returns-in-Freeze-clause-known c = first_operand c.args.types.now c.in-Freeze.operand [] (subst (λ i. All (λ (o : Operand). o.ty < length c.args.types.now.types) (operands_of i)) c.in-Freeze.is c.requires.operands_known)

pub returns-in-Convert-clause-known : goal.returns-in-Convert-clause-known
returns-in-Convert-clause-known c = first_type c.args.types.now c.in-Convert.to [] (subst (λ i. All (λ (ty : ℕ). ty < length c.args.types.now.types) (types_of i)) c.in-Convert.is c.requires.types_known)

pub returns-in-Phi-clause-known : goal.returns-in-Phi-clause-known
returns-in-Phi-clause-known c = first_type c.args.types.now c.in-Phi.ty [] (subst (λ i. All (λ (ty : ℕ). ty < length c.args.types.now.types) (types_of i)) c.in-Phi.is c.requires.types_known)

pub returns-in-Load-clause-known : goal.returns-in-Load-clause-known
returns-in-Load-clause-known c = first_type c.args.types.now c.in-Load.ty [] (subst (λ i. All (λ (ty : ℕ). ty < length c.args.types.now.types) (types_of i)) c.in-Load.is c.requires.types_known)

pub returns-in-Select-clause-ty : goal.returns-in-Select-clause-ty
returns-in-Select-clause-ty c =
    let t = c.args.types.now in
    ap (λ (k : Choice). tree_of t (written.Written k.first.ty) ∷ []) c.get-choice.ensures ∙ ap (given t) (sym c.in-Select.is)

pub returns-in-Select-clause-known : goal.returns-in-Select-clause-known
returns-in-Select-clause-known c =
    let t = c.args.types.now in
    let k = c.in-Select.choice in
    subst (λ (x : Choice). x.first.ty < length t.types) (sym c.get-choice.ensures)
    (first_operand t k.first (k.second ∷ []) (All-tail (λ (o : Operand). o.ty < length t.types) k.condition (k.first ∷ k.second ∷ []) (subst (λ i. All (λ (o : Operand). o.ty < length t.types) (operands_of i)) c.in-Select.is c.requires.operands_known)))

pub returns-in-InsertValue-clause-ty : goal.returns-in-InsertValue-clause-ty
returns-in-InsertValue-clause-ty c =
    let t = c.args.types.now in
    ap (λ (k : Insertion). tree_of t (written.Written k.aggregate.ty) ∷ []) c.get-insertion.ensures ∙ ap (given t) (sym c.in-InsertValue.is)

pub returns-in-InsertValue-clause-known : goal.returns-in-InsertValue-clause-known
returns-in-InsertValue-clause-known c =
    let t = c.args.types.now in
    let k = c.in-InsertValue.insertion in
    subst (λ (x : Insertion). x.aggregate.ty < length t.types) (sym c.get-insertion.ensures)
    (first_operand t k.aggregate (k.part ∷ []) (subst (λ i. All (λ (o : Operand). o.ty < length t.types) (operands_of i)) c.in-InsertValue.is c.requires.operands_known))

pub call_type-requires : goal.call_type-requires
call_type-requires c =
    let t = c.args.types.now in
    let s = c.in-Call.call.signature in
    subst (λ (x : Call). x.signature.returns < length t.types) (sym c.get.ensures)
    (first_type t s.returns s.parameters (subst (λ i. All (λ (ty : ℕ). ty < length t.types) (types_of i)) c.in-Call.is c.requires.types_known))

pub returns-in-Call-clause-ty : goal.returns-in-Call-clause-ty
returns-in-Call-clause-ty c =
    let t = c.args.types.now in
    c.call_type.ensures.ty ∙ ap (λ (k : Call). given t (inst.Call k)) c.get.ensures ∙ ap (given t) (sym c.in-Call.is)

pub part_type-requires : goal.part_type-requires
part_type-requires c =
    let t = c.args.types.now in
    first_operand t c.in-ExtractValue.aggregate [] (subst (λ i. All (λ (o : Operand). o.ty < length t.types) (operands_of i)) c.in-ExtractValue.is c.requires.operands_known)

pub returns-in-ExtractValue-clause-ty : goal.returns-in-ExtractValue-clause-ty
returns-in-ExtractValue-clause-ty c =
    let t = c.args.types.now in
    let part = c.part_type.ensures.ty ∙ ap (λ (is : List ℕ). part_at (structs t) (tree t c.in-ExtractValue.aggregate.ty) is) c.as_slice.ensures in
    ap (λ u. u ∷ []) part ∙ ap (given t) (sym c.in-ExtractValue.is)
