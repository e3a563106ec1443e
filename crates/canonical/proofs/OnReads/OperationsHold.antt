-- What the instructions of canonical text ask for holds.
use Rattle.std.specs.Prelude.{◌≡◌, ℕ, ◌^◌, nat_lt, Bool, true, false, nat_le, List, [], ◌∷◌, map, flat_map, Option, Some, None, option_map}
use Rattle.std.specs.List.{list_all}
use Rattle.std.specs.Option.{option_to_list}
use Rattle.std.proofs.Common.{ap, sym, subst, ◌∙◌}
use Rattle.std.proofs.lemmas.Bool.{and_parts}
use Rattle.ir_tables.specs.declared.opcode.Opcode.TheVariants as op
use Rattle.type_table.specs.Tree.{Tree, ptr}
use Rattle.module_arena.specs.Module.{LocalName, Constant, Value, Local, Known, Operand, Incoming, Operation, BinaryOperation, Compare, Convert, Select, Freeze, Phi, Load, Store, Alloca, GetElementPtr, Call, ExtractValue, InsertValue, Case, Ending, ReturnVoid, Return, Jump, Branch, Switch, Unreachable, Module}
use Rattle.module_arena.specs.Same.{has_local}
use Rattle.module_arena.specs.Constants.{constants_in}
use Rattle.module_arena.specs.Operations.{incoming_operand, case_operand}
use Rattle.module_arena.specs.Forms.{are_flags_of, is_not_empty, is_small_alignment}
use Rattle.module_arena.specs.WellFormed.{is_good_type, are_good_structs, is_good_part, depth, is_good_constant}
use Rattle.canonical.specs.Items.Parts.{natural, local_tree, type_tree, value_tree, operand_tree, incoming_tree, signature_tree, operation_tree, case_tree, ending_tree}
use Rattle.canonical.proofs.OnModules.Back.{type_back, local_back}
use Rattle.name_rules.specs.Written.{type_in}
use Rattle.name_rules.specs.Locals.{Locals, is_there, local_in}
use Rattle.name_rules.specs.TypeDemands.{type_demands}
use Rattle.name_rules.specs.FunctionDemands.{index_demands, alignment_demands, value_demands, operand_demands, incoming_demands, signature_demands, count_demands, operation_demands, case_demands, ending_demands}
use Rattle.canonical.proofs.OnReads.Asked.{Held, held_none, held_more, held_both}
use Rattle.canonical.proofs.OnReads.Good.{first_of_all, others_of_all, AreGoodParts, IsGoodValue, IsGoodOperand, AreGoodOperands, IsGoodOperation}
use Rattle.canonical.proofs.OnReads.GoodBodies.{IsGoodEnding}
use Rattle.canonical.proofs.OnReads.TypesHold.{known, type_holds, constant_holds, constant_at_holds}

indices_hold : (ns : List ℕ) → list_all (λ k. nat_lt k (2 ^ 32)) ns ≡ true → Held (index_demands (map natural ns))
indices_hold [] e = held_none
indices_hold (n ∷ ns) e = held_more (first_of_all (λ k. nat_lt k (2 ^ 32)) n ns e) (indices_hold ns (others_of_all (λ k. nat_lt k (2 ^ 32)) n ns e))

pub alignment_holds : (n : Option ℕ) → is_small_alignment n ≡ true → Held (alignment_demands (option_map natural n))
alignment_holds None e = held_none
alignment_holds (Some n) e = held_more e held_none

module _ (m : Module) (good : are_good_structs m.structs ≡ true) where
  pub types_held : (ts : List Tree) → list_all (is_good_type m.structs) ts ≡ true → Held (flat_map (type_demands (known m good)) (map type_tree ts))
  types_held [] e = held_none
  types_held (t ∷ ts) e = held_both (type_holds m good t (first_of_all (is_good_type m.structs) t ts e)) (types_held ts (others_of_all (is_good_type m.structs) t ts e))

  pub parts_of : (t : Tree) (c : Constant) → is_good_constant m (t, c) ≡ true → AreGoodParts m t c
  parts_of t c e = (and_parts (nat_le (depth c) 64) (list_all (is_good_part m) (constants_in t c)) e).1

  module _ (all : Locals) (values ends : List LocalName) (values_there : (n : LocalName) → has_local values n ≡ true → is_there all false n ≡ true) (ends_there : (n : LocalName) → has_local ends n ≡ true → is_there all true n ≡ true) where
    value_holds : (ty : Tree) (v : Value) → IsGoodValue m values ty v → Held (value_demands (known m good) all ty (value_tree ty v))
    value_holds ty (Local n) g = held_more (ap (is_there all false) (local_back n) ∙ values_there n g) held_none
    value_holds ty (Known c) g = constant_holds m good ty c (parts_of ty c g)

    value_at_holds : (ty : Tree) (v : Value) → IsGoodValue m values ty v → Held (value_demands (known m good) all (type_in (type_tree ty)) (value_tree ty v))
    value_at_holds ty v g = subst (λ u. Held (value_demands (known m good) all u (value_tree ty v))) (sym (type_back ty)) (value_holds ty v g)

    operand_holds : (o : Operand) → IsGoodOperand m values o → Held (operand_demands (known m good) all (operand_tree o))
    operand_holds o g = held_both (type_holds m good o.ty g.0) (value_at_holds o.ty o.value g.1)

    operands_hold : (os : List Operand) → AreGoodOperands m values os → Held (flat_map (operand_demands (known m good) all) (map operand_tree os))
    operands_hold [] g = held_none
    operands_hold (o ∷ os) g = held_both (operand_holds o g.0) (operands_hold os g.1)

    block_holds : (n : LocalName) → has_local ends n ≡ true → is_there all true (local_in (local_tree n)) ≡ true
    block_holds n e = ap (is_there all true) (local_back n) ∙ ends_there n e

    incoming_hold : (ty : Tree) (js : List Incoming) → AreGoodOperands m values (map (incoming_operand ty) js) → list_all (has_local ends) (map (λ i. i.block) js) ≡ true
        → Held (flat_map (incoming_demands (known m good) all (type_in (type_tree ty))) (map (incoming_tree ty) js))
    incoming_hold ty [] g e = held_none
    incoming_hold ty (j ∷ js) g e =
        held_both (held_both (value_at_holds ty j.value g.0.1) (held_more (block_holds j.block (first_of_all (has_local ends) j.block (map (λ i. i.block) js) e)) held_none))
        (incoming_hold ty js g.1 (others_of_all (has_local ends) j.block (map (λ i. i.block) js) e))

    count_holds : (c : Option Operand) → AreGoodOperands m values (option_to_list c) → Held (count_demands (known m good) all (option_map operand_tree c))
    count_holds None g = held_none
    count_holds (Some o) g = operand_holds o g.0

    signature_holds : (ts : List Tree) (variadic : Bool) → list_all (is_good_type m.structs) ts ≡ true → Held (signature_demands (known m good) all (signature_tree ts variadic))
    signature_holds ts false e = held_none
    signature_holds ts true e = types_held ts e

    pub operation_holds : (o : Operation) → IsGoodOperation m values ends o → Held (operation_demands (known m good) all (operation_tree o))
    operation_holds (BinaryOperation o set left right) g = let w = g.works_on in held_both (operand_holds left w.0) (value_at_holds left.ty right w.1.0.1)
    operation_holds (Compare set p left right) g = let w = g.works_on in held_both (operand_holds left w.0) (value_at_holds left.ty right w.1.0.1)
    operation_holds (Convert o set value to) g = held_both (operand_holds value g.works_on.0) (type_holds m good to (first_of_all (is_good_type m.structs) to [] g.types))
    operation_holds (Select a b c) g = let w = g.works_on in held_both (operand_holds a w.0) (held_both (operand_holds b w.1.0) (operand_holds c w.1.1.0))
    operation_holds (Freeze v) g = operand_holds v g.works_on.0
    operation_holds (Phi ty incoming) g = held_both (type_holds m good ty (first_of_all (is_good_type m.structs) ty [] g.types)) (incoming_hold ty incoming g.works_on g.comes_from)
    operation_holds (Load set ty a n) g =
        held_both (type_holds m good ty (first_of_all (is_good_type m.structs) ty [] g.types))
        (held_both (operand_holds a g.works_on.0) (alignment_holds n (and_parts (are_flags_of op.Load set) (is_small_alignment n) g.phrase).1))
    operation_holds (Store set v a n) g =
        held_both (operand_holds v g.works_on.0) (held_both (operand_holds a g.works_on.1.0) (alignment_holds n (and_parts (are_flags_of op.Store set) (is_small_alignment n) g.phrase).1))
    operation_holds (Alloca ty c n) g =
        held_both (type_holds m good ty (first_of_all (is_good_type m.structs) ty [] g.types)) (held_both (count_holds c g.works_on) (alignment_holds n g.phrase))
    operation_holds (GetElementPtr set s o os) g = held_both (type_holds m good s (first_of_all (is_good_type m.structs) s [] g.types)) (held_both (operand_holds o g.works_on.0) (operands_hold os g.works_on.1))
    operation_holds (Call s v os) g =
        held_both (type_holds m good s.returns (first_of_all (is_good_type m.structs) s.returns s.parameters g.types))
        (held_both (signature_holds s.parameters s.variadic (others_of_all (is_good_type m.structs) s.returns s.parameters g.types))
        (held_both (value_holds ptr v g.called) (operands_hold os g.works_on)))
    operation_holds (ExtractValue v ns) g = held_both (operand_holds v g.works_on.0) (indices_hold ns (and_parts (is_not_empty ns) (list_all (λ k. nat_lt k (2 ^ 32)) ns) g.phrase).1)
    operation_holds (InsertValue v p ns) g =
        held_both (operand_holds v g.works_on.0) (held_both (operand_holds p g.works_on.1.0) (indices_hold ns (and_parts (is_not_empty ns) (list_all (λ k. nat_lt k (2 ^ 32)) ns) g.phrase).1))

    cases_hold : (cs : List Case) → AreGoodOperands m values (map case_operand cs) → list_all (has_local ends) (map (λ c. c.target) cs) ≡ true → Held (flat_map (case_demands (known m good) all) (map case_tree cs))
    cases_hold [] g e = held_none
    cases_hold (c ∷ cs) g e =
        held_both (held_both (type_holds m good c.ty g.0.0) (held_both (constant_at_holds m good c.ty c.value (parts_of c.ty c.value g.0.1)) (held_more (block_holds c.target (first_of_all (has_local ends) c.target (map (λ c. c.target) cs) e)) held_none)))
        (cases_hold cs g.1 (others_of_all (has_local ends) c.target (map (λ c. c.target) cs) e))

    pub ending_holds : (e : Ending) → IsGoodEnding m values ends e → Held (ending_demands (known m good) all (ending_tree e))
    ending_holds ReturnVoid g = held_none
    ending_holds (Return v) g = operand_holds v g.works_on.0
    ending_holds (Jump to) g = held_more (block_holds to (first_of_all (has_local ends) to [] g.leads_to)) held_none
    ending_holds (Branch c a b) g =
        held_both (operand_holds c g.works_on.0)
        (held_more (block_holds a (first_of_all (has_local ends) a (b ∷ []) g.leads_to)) (held_more (block_holds b (first_of_all (has_local ends) b [] (others_of_all (has_local ends) a (b ∷ []) g.leads_to))) held_none))
    ending_holds (Switch v to cs) g =
        held_both (operand_holds v g.works_on.0)
        (held_more (block_holds to (first_of_all (has_local ends) to (map (λ c. c.target) cs) g.leads_to)) (cases_hold cs g.works_on.1 (others_of_all (has_local ends) to (map (λ c. c.target) cs) g.leads_to)))
    ending_holds Unreachable g = held_none
