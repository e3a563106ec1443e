use Rattle.std.proofs.Common.{Bool, List, [], ap, map, refl, sym, ℕ, ◌++◌, ◌∙◌, ◌∷◌, ◌≡◌}
use Rattle.record_write.proofs.OnOperands.Chain.{last6, reworded}
use Rattle.module_arena.specs.View.{parameter_view}
use Rattle.record_write.specs.Operands.Numbered.{indices, texts}
use Rattle.record_table.specs.Fields.{bool_code, ty}
use Rattle.record_table.specs.Layout.{counted}
use Rattle.type_table.specs.Tree.{Tree}
use Rattle.type_table.specs.Types.{Types, tree, trees}
use Rattle.module_arena.specs.declared.entry.Parameter.{Parameter}
use Rattle.module_arena.specs.Module as m
use Rattle.bitcode_write.proofs.entries.put_function_parts.Goals as goal

types_viewed : (t : Types) (ps : List Parameter) → map (λ (p : m.Parameter). p.ty) (map (parameter_view (trees t)) ps) ≡ map (λ (p : Parameter). tree t p.ty) ps
types_viewed t [] = refl
types_viewed t (p ∷ ps) = ap (λ (xs : List Tree). tree t p.ty ∷ xs) (types_viewed t ps)

pub returns : goal.returns
returns c =
    let a = c.args.numbering.now in
    let o = c.args.operands.now.items in
    let f = c.args.function.now in
    let named = c.bytes.ensures ∙ c.text.ensures.bytes in
    let parameters = ap (λ (ps : List Parameter). map (λ (p : Parameter). tree a.table p.ty) ps) c.as_slice.ensures ∙ sym (types_viewed a.table f.parameters) in
    let viewed = map (parameter_view (trees a.table)) f.parameters in
    let types = (counted (ty (indices a))).spell (map (λ (p : m.Parameter). p.ty) viewed) in
    last6 _ o _ _ _ _ _ types _ _ _ _ _ _
    (c.in_ok-put_text.ensures ∙ ap (λ (n : List ℕ). o ++ (texts a).middle.spell n) named)
    c.in_ok-put_linkage.ensures (c.in_ok-put_flag.ensures ∙ ap (λ (d : Bool). c.put_linkage.new.operands.items ++ bool_code d ∷ []) c.is_some.ensures) c.in_ok-put_type.ensures c.in_ok-put_flag-2.ensures
    (reworded _ _ _ _ _ c.put_parameter_types.ensures
    (ap (λ (ts : List Tree). (counted (ty (indices a))).spell ts) parameters))

pub put_parameter_types-requires : goal.put_parameter_types-requires
put_parameter_types-requires c = rw c.as_slice.ensures c.requires.parameters_known
