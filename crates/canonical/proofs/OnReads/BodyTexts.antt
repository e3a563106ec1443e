-- Instructions, functions and variables that are well formed and valid can be written.
use Rattle.std.specs.Prelude.{◌≡◌, refl, ℕ, ◌^◌, nat_lt, Bool, true, false, not, ◌&&◌, ◌||◌, is_none, List, [], ◌∷◌, ◌++◌, map, flat_map, Option, Some, None}
use Rattle.std.specs.Prelude.{is_some as is_there}
use Rattle.std.specs.List.{list_all}
use Rattle.std.specs.Option.{option_to_list, option_map_or}
use Rattle.std.proofs.Common.{arith}
use Rattle.std.proofs.lemmas.Bool.{and_parts, ltb-true}
use Rattle.ir_tables.specs.declared.linkage.Linkage.{Linkage}
use Rattle.ir_tables.specs.declared.linkage.Linkage.TheVariants as linkage
use Rattle.ir_tables.specs.declared.opcode.Opcode.TheVariants as op
use Rattle.type_table.specs.Tree.{Tree, int, ptr, void, array, struct, named, Structs}
use Rattle.module_arena.specs.Module.{LocalName, Constant, Value, Local, Known, Operand, Incoming, Operation, BinaryOperation, Compare, Convert, Select, Freeze, Phi, Load, Store, Alloca, GetElementPtr, Call, ExtractValue, InsertValue, Instruction, Case, Ending, ReturnVoid, Return, Jump, Branch, Switch, Unreachable, Block, Parameter, Variable, AliasType, PlainType, FunctionType, Alias, Function, Module}
use Rattle.module_arena.specs.Same.{has_local}
use Rattle.module_arena.specs.TypeTests.{is_passable}
use Rattle.module_arena.specs.Operations.{incoming_operand, case_operand, ending_operands}
use Rattle.module_arena.specs.Functions.{body, blocks, result_name}
use Rattle.module_arena.specs.Forms.{are_flags_of, is_not_empty, is_small_alignment, has_result_of_phrase}
use Rattle.module_arena.specs.Forms as forms
use Rattle.module_arena.specs.Names.{is_name, block_results, local_names}
use Rattle.module_arena.specs.EntryRules.{linkage_suits, return_suits}
use Rattle.module_arena.specs.InstructionRules.{operands_suit, value_types_suit}
use Rattle.module_arena.specs.WellFormed.{struct_names, global_names, is_good_type, is_good_constant, types_of_alias, has_entry, is_good_alias}
use Rattle.canonical.specs.Law.Written.{IsLocalText, IsValueText, IsOperandText, AreOperandTexts, AreSmall, IsAlignmentText, IsCountText, AreIncomingTexts, IsOperationText}
use Rattle.canonical.specs.Law.Texts.{HasResult, AreInstructionTexts, AreCaseTexts, is_value_type, IsEndingText, AreBlockTexts, AreParameterTexts, IsBodyText, is_declared_as, is_defined_as, IsInitialiserText, AreVariableTexts, IsAliasTypeText, AreAliasTexts, AreFunctionTexts}
use Rattle.canonical.proofs.OnReads.Flags.{flag_set}
use Rattle.canonical.proofs.OnReads.Good.{first_of_all, others_of_all, IsGoodValue, IsGoodOperand, AreGoodOperands, IsGoodOperation}
use Rattle.canonical.proofs.OnReads.GoodBodies.{AreGoodInstructions, IsGoodEnding, AreGoodBlocks}
use Rattle.canonical.proofs.OnReads.GoodModule.{AreGoodVariables, AreGoodFunctions}
use Rattle.canonical.proofs.OnReads.FunctionsHold.{names_in}
use Rattle.canonical.proofs.OnReads.Valid.{AreFineVariables, AreFineBlocks, AreFineFunctions}
use Rattle.canonical.proofs.OnReads.NameTexts.{name_text, name_among, AreLocalTexts, local_texts, value_text, block_text}
use Rattle.canonical.proofs.OnReads.TypeTexts.{good_type_text, type_list_text, good_constant_text}

small_text : (ns : List ℕ) → list_all (λ k. nat_lt k (2 ^ 32)) ns ≡ true → AreSmall ns
small_text [] e = tt
small_text (n ∷ ns) e =
    let lt = ltb-true n (2 ^ 32) (first_of_all (λ k. nat_lt k (2 ^ 32)) n ns e) in
    (omega (arith, lt), small_text ns (others_of_all (λ k. nat_lt k (2 ^ 32)) n ns e))

alignment_text : (n : Option ℕ) → is_small_alignment n ≡ true → IsAlignmentText n
alignment_text None e = tt
alignment_text (Some n) e = let lt = ltb-true n (2 ^ 32) e in omega (arith, lt)

value_type : (structs : Structs) (t : Tree) → is_passable structs t ≡ true → is_value_type t ≡ true
value_type structs (int w) e = refl
value_type structs ptr e = refl
value_type structs void e = absurd cc
value_type structs (array n t) e = refl
value_type structs (struct packed ts) e = refl
value_type structs (named name) e = refl

result_text : (r : Option LocalName) (o : Operation) → has_result_of_phrase o (is_there r) ≡ true → AreLocalTexts (option_to_list r) → HasResult r o
result_text None o e t = tt
result_text (Some n) (BinaryOperation code set left right) e t = t.0
result_text (Some n) (Compare set p left right) e t = t.0
result_text (Some n) (Convert code set value to) e t = t.0
result_text (Some n) (Select a b c) e t = t.0
result_text (Some n) (Freeze v) e t = t.0
result_text (Some n) (Phi ty incoming) e t = t.0
result_text (Some n) (Load set ty a k) e t = t.0
result_text (Some n) (Store set v a k) e t = absurd cc
result_text (Some n) (Alloca ty c k) e t = t.0
result_text (Some n) (GetElementPtr set s o os) e t = t.0
result_text (Some n) (Call s v os) e t = t.0
result_text (Some n) (ExtractValue v ns) e t = t.0
result_text (Some n) (InsertValue v p ns) e t = t.0

texts_front : (xs ys : List LocalName) → AreLocalTexts (xs ++ ys) → AreLocalTexts xs
texts_front [] ys t = tt
texts_front (x ∷ xs) ys t = (t.0, texts_front xs ys t.1)

texts_rest : (xs ys : List LocalName) → AreLocalTexts (xs ++ ys) → AreLocalTexts ys
texts_rest [] ys t = t
texts_rest (x ∷ xs) ys t = texts_rest xs ys t.1

module _ (m : Module) (sn : list_all is_name (struct_names m) ≡ true) (gn : list_all is_name (global_names m) ≡ true) where
  module _ (values ends : List LocalName) (values_text : (n : LocalName) → has_local values n ≡ true → IsLocalText n) (ends_text : (n : LocalName) → has_local ends n ≡ true → IsLocalText n) where
    operand_value_text : (ty : Tree) (v : Value) → IsGoodValue m values ty v → IsValueText 64 ty v
    operand_value_text ty (Local n) g = values_text n g
    operand_value_text ty (Known c) g = good_constant_text m sn gn ty c g

    operand_text : (o : Operand) → IsGoodOperand m values o → IsOperandText 64 o
    operand_text o g = (good_type_text m sn gn o.ty g.0, operand_value_text o.ty o.value g.1)

    operands_text : (os : List Operand) → AreGoodOperands m values os → AreOperandTexts 64 os
    operands_text [] g = tt
    operands_text (o ∷ os) g = (operand_text o g.0, operands_text os g.1)

    incoming_text : (ty : Tree) (js : List Incoming) → AreGoodOperands m values (map (incoming_operand ty) js) → list_all (has_local ends) (map (λ i. i.block) js) ≡ true → AreIncomingTexts 64 ty js
    incoming_text ty [] g e = tt
    incoming_text ty (j ∷ js) g e = (operand_value_text ty j.value g.0.1, ends_text j.block (first_of_all (has_local ends) j.block (map (λ i. i.block) js) e), incoming_text ty js g.1 (others_of_all (has_local ends) j.block (map (λ i. i.block) js) e))

    count_text : (c : Option Operand) → AreGoodOperands m values (option_to_list c) → IsCountText 64 c
    count_text None g = tt
    count_text (Some o) g = operand_text o g.0

    operation_text : (o : Operation) → IsGoodOperation m values ends o → IsOperationText 64 o
    operation_text (BinaryOperation code set left right) g =
        let p = and_parts (forms.is_binary code) (are_flags_of code set) g.phrase in
        (p.0, flag_set code set p.1, operand_text left g.works_on.0, operand_value_text left.ty right g.works_on.1.0.1)
    operation_text (Compare set p left right) g = (flag_set op.ICmp set g.phrase, operand_text left g.works_on.0, operand_value_text left.ty right g.works_on.1.0.1)
    operation_text (Convert code set value to) g =
        let p = and_parts (forms.is_cast code) (are_flags_of code set) g.phrase in
        (p.0, flag_set code set p.1, operand_text value g.works_on.0, good_type_text m sn gn to (first_of_all (is_good_type m.structs) to [] g.types))
    operation_text (Select a b c) g = (operand_text a g.works_on.0, operand_text b g.works_on.1.0, operand_text c g.works_on.1.1.0)
    operation_text (Freeze v) g = operand_text v g.works_on.0
    operation_text (Phi ty incoming) g = (good_type_text m sn gn ty (first_of_all (is_good_type m.structs) ty [] g.types), g.phrase, incoming_text ty incoming g.works_on g.comes_from)
    operation_text (Load set ty a n) g =
        let p = and_parts (are_flags_of op.Load set) (is_small_alignment n) g.phrase in
        (flag_set op.Load set p.0, good_type_text m sn gn ty (first_of_all (is_good_type m.structs) ty [] g.types), operand_text a g.works_on.0, alignment_text n p.1)
    operation_text (Store set v a n) g =
        let p = and_parts (are_flags_of op.Store set) (is_small_alignment n) g.phrase in
        (flag_set op.Store set p.0, operand_text v g.works_on.0, operand_text a g.works_on.1.0, alignment_text n p.1)
    operation_text (Alloca ty c n) g = (good_type_text m sn gn ty (first_of_all (is_good_type m.structs) ty [] g.types), count_text c g.works_on, alignment_text n g.phrase)
    operation_text (GetElementPtr set s o os) g =
        (flag_set op.GetElementPtr set g.phrase, good_type_text m sn gn s (first_of_all (is_good_type m.structs) s [] g.types), operand_text o g.works_on.0, operands_text os g.works_on.1)
    operation_text (Call s v os) g = (
      good_type_text m sn gn s.returns (first_of_all (is_good_type m.structs) s.returns s.parameters g.types),
      type_list_text m sn gn s.parameters (others_of_all (is_good_type m.structs) s.returns s.parameters g.types),
      operand_value_text ptr v g.called,
      operands_text os g.works_on,
    )
    operation_text (ExtractValue v ns) g =
        let p = and_parts (is_not_empty ns) (list_all (λ k. nat_lt k (2 ^ 32)) ns) g.phrase in
        (operand_text v g.works_on.0, p.0, small_text ns p.1)
    operation_text (InsertValue v q ns) g =
        let p = and_parts (is_not_empty ns) (list_all (λ k. nat_lt k (2 ^ 32)) ns) g.phrase in
        (operand_text v g.works_on.0, operand_text q g.works_on.1.0, p.0, small_text ns p.1)

    cases_text : (cs : List Case) → AreGoodOperands m values (map case_operand cs) → list_all (has_local ends) (map (λ c. c.target) cs) ≡ true → AreCaseTexts 64 cs
    cases_text [] g e = tt
    cases_text (c ∷ cs) g e =
        (good_type_text m sn gn c.ty g.0.0, good_constant_text m sn gn c.ty c.value g.0.1, ends_text c.target (first_of_all (has_local ends) c.target (map (λ c. c.target) cs) e), cases_text cs g.1 (others_of_all (has_local ends) c.target (map (λ c. c.target) cs) e))

    ending_text : (e : Ending) → IsGoodEnding m values ends e → operands_suit m.structs (ending_operands e) ≡ true → IsEndingText 64 e
    ending_text ReturnVoid g v = tt
    ending_text (Return o) g v =
        let p = and_parts (is_passable m.structs o.ty && value_types_suit m.structs o.ty o.value) true v in
        (value_type m.structs o.ty (and_parts (is_passable m.structs o.ty) (value_types_suit m.structs o.ty o.value) p.0).0, operand_text o g.works_on.0)
    ending_text (Jump to) g v = ends_text to (first_of_all (has_local ends) to [] g.leads_to)
    ending_text (Branch c a b) g v = (operand_text c g.works_on.0, ends_text a (first_of_all (has_local ends) a (b ∷ []) g.leads_to), ends_text b (first_of_all (has_local ends) b [] (others_of_all (has_local ends) a (b ∷ []) g.leads_to)))
    ending_text (Switch o to cs) g v =
        (operand_text o g.works_on.0, ends_text to (first_of_all (has_local ends) to (map (λ c. c.target) cs) g.leads_to), cases_text cs g.works_on.1 (others_of_all (has_local ends) to (map (λ c. c.target) cs) g.leads_to))
    ending_text Unreachable g v = tt

    instructions_text : (is : List Instruction) → AreGoodInstructions m values ends is → AreLocalTexts (flat_map result_name is) → AreInstructionTexts 64 is
    instructions_text [] g t = tt
    instructions_text (i ∷ is) g t =
        ((result_text i.result i.operation g.0.named (texts_front (result_name i) (flat_map result_name is) t), operation_text i.operation g.0.operation), instructions_text is g.1 (texts_rest (result_name i) (flat_map result_name is) t))

    blocks_text : (f : Function) (bs : List Block) → AreGoodBlocks m values ends bs → AreFineBlocks m f bs → AreLocalTexts (flat_map (λ b. b.name ∷ block_results b) bs) → AreBlockTexts 64 bs
    blocks_text f [] g v t = tt
    blocks_text f (b ∷ bs) g v t =
        let rest = flat_map (λ (b : Block). b.name ∷ block_results b) bs in
        ((t.0, instructions_text b.instructions g.0.instructions (texts_front (block_results b) rest t.1), ending_text b.ending g.0.ending v.1), blocks_text f bs g.1 v.2 (texts_rest (block_results b) rest t.1))

  parameters_text : (ps : List Parameter) (rest : List LocalName) → list_all (λ p. is_good_type m.structs p.ty) ps ≡ true → AreLocalTexts (map (λ p. p.name) ps ++ rest) → AreParameterTexts 64 ps
  parameters_text [] rest e t = tt
  parameters_text (p ∷ ps) rest e t = (good_type_text m sn gn p.ty (first_of_all (λ p. is_good_type m.structs p.ty) p ps e), t.0, parameters_text ps rest (others_of_all (λ p. is_good_type m.structs p.ty) p ps e) t.1)

  unvaried : (b : Bool) → (not b || false) ≡ true → b ≡ false
  unvaried true e = absurd cc
  unvaried false e = refl

  body_text : (f : Function) (o : Option (List Block)) → option_map_or is_not_empty o true ≡ true → (not f.variadic || is_none o) ≡ true → AreLocalTexts (names_in f.parameters (body o))
      → AreGoodBlocks m (map (λ p. p.name) f.parameters ++ flat_map block_results (body o)) (map (λ b. b.name) (body o)) (body o) → AreFineBlocks m f (body o) → IsBodyText 64 f.variadic o
  body_text f None s v t g b = tt
  body_text f (Some bs) s v t g b =
      (unvaried f.variadic v, s, blocks_text _ _ (value_text f.parameters bs t) (block_text f.parameters bs t) f bs g b (texts_rest (map (λ p. p.name) f.parameters) (flat_map (λ b. b.name ∷ block_results b) bs) t))

  pub functions_text : (fs : List Function) → list_all is_name (map (λ f. f.name) fs) ≡ true → AreGoodFunctions m fs → AreFineFunctions m fs → AreFunctionTexts 64 fs
  functions_text [] n g v = tt
  functions_text (f ∷ fs) n g v =
      let p = and_parts (list_all (λ p. is_passable m.structs p.ty) f.parameters) (return_suits m.structs f.returns && (not f.variadic || is_none f.body)) v.0.types in
      let q = and_parts (return_suits m.structs f.returns) (not f.variadic || is_none f.body) p.1 in
      let t = local_texts (local_names f) g.0.names in (
        (
          name_text f.name (first_of_all is_name f.name (map (λ f. f.name) fs) n),
          good_type_text m sn gn f.returns g.0.returns,
          parameters_text f.parameters (flat_map (λ b. b.name ∷ block_results b) (blocks f)) g.0.types t,
          body_text f f.body g.0.not_empty q.1 t g.0.bodies v.0.bodies,
        ),
        functions_text fs (others_of_all is_name f.name (map (λ f. f.name) fs) n) g.1 v.1,
      )

  declared_as : (l : Linkage) → linkage_suits false l ≡ true → is_declared_as l ≡ true
  declared_as linkage.External e = e
  declared_as linkage.Private e = e
  declared_as linkage.Internal e = e
  declared_as linkage.AvailableExternally e = e
  declared_as linkage.Linkonce e = e
  declared_as linkage.LinkonceOdr e = e
  declared_as linkage.Weak e = e
  declared_as linkage.WeakOdr e = e
  declared_as linkage.Common e = e
  declared_as linkage.Appending e = e
  declared_as linkage.ExternWeak e = e

  defined_as : (l : Linkage) → linkage_suits true l ≡ true → is_defined_as l ≡ true
  defined_as linkage.External e = e
  defined_as linkage.Private e = e
  defined_as linkage.Internal e = e
  defined_as linkage.AvailableExternally e = e
  defined_as linkage.Linkonce e = e
  defined_as linkage.LinkonceOdr e = e
  defined_as linkage.Weak e = e
  defined_as linkage.WeakOdr e = e
  defined_as linkage.Common e = e
  defined_as linkage.Appending e = e
  defined_as linkage.ExternWeak e = e

  initialiser_text : (l : Linkage) (ty : Tree) (c : Option Constant) → linkage_suits (is_there c) l ≡ true → list_all (is_good_constant m) (map (λ c. (ty, c)) (option_to_list c)) ≡ true → IsInitialiserText 64 l ty c
  initialiser_text l ty None e g = declared_as l e
  initialiser_text l ty (Some c) e g = (defined_as l e, good_constant_text m sn gn ty c (first_of_all (is_good_constant m) (ty, c) [] g))

  pub variables_text : (vs : List Variable) → list_all is_name (map (λ v. v.name) vs) ≡ true → AreGoodVariables m vs → AreFineVariables m vs → AreVariableTexts 64 vs
  variables_text [] n g v = tt
  variables_text (x ∷ vs) n g v = (
    (name_text x.name (first_of_all is_name x.name (map (λ v. v.name) vs) n), good_type_text m sn gn x.ty g.0.ty, initialiser_text x.linkage x.ty x.initialiser v.0 g.0.initialiser, alignment_text x.alignment g.0.alignment),
    variables_text vs (others_of_all is_name x.name (map (λ v. v.name) vs) n) g.1 v.1,
  )

  alias_type_text : (t : AliasType) → list_all (is_good_type m.structs) (types_of_alias t) ≡ true → IsAliasTypeText 64 t
  alias_type_text (PlainType ty) e = good_type_text m sn gn ty (first_of_all (is_good_type m.structs) ty [] e)
  alias_type_text (FunctionType s) e =
      (good_type_text m sn gn s.returns (first_of_all (is_good_type m.structs) s.returns s.parameters e), type_list_text m sn gn s.parameters (others_of_all (is_good_type m.structs) s.returns s.parameters e))

  pub aliases_text : (as_ : List Alias) → list_all is_name (map (λ a. a.name) as_) ≡ true → list_all (is_good_alias m) as_ ≡ true → AreAliasTexts 64 as_
  aliases_text [] n e = tt
  aliases_text (a ∷ as_) n e =
      let p = and_parts (list_all (is_good_type m.structs) (types_of_alias a.ty)) (has_entry m a.target) (first_of_all (is_good_alias m) a as_ e) in (
        (name_text a.name (first_of_all is_name a.name (map (λ a. a.name) as_) n), alias_type_text a.ty p.0, name_among (global_names m) a.target gn p.1),
        aliases_text as_ (others_of_all is_name a.name (map (λ a. a.name) as_) n) (others_of_all (is_good_alias m) a as_ e),
      )
