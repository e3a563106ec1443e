-- The canonical items of a module that is well formed and valid stand for it.
use Rattle.std.specs.Prelude.{◌≡◌, refl, ℕ, suc, ◌+◌, ◌^◌, ◌==◌, nat_le, Bool, true, false, not, ◌&&◌, ◌||◌, is_some, is_none, List, [], ◌∷◌, ◌++◌, map, flat_map, Option, Some, None}
use Rattle.std.specs.List.{list_all}
use Rattle.std.specs.Option.{option_to_list}
use Rattle.std.proofs.Common.{ap, sym, ◌∙◌, add-one, append_assoc}
use Rattle.std.proofs.lemmas.Bool.{and_parts, ltb-true, eqb-true, not-true}
use Rattle.type_table.specs.Tree.{Tree, int, ptr, void, array, struct, named}
use Rattle.module_arena.specs.Module.{LocalName, Named, Numbered, Constant, Integer, Truth, Null, Undef, Poison, ZeroInitializer, Address, ByteString, Aggregate, ElementAddress, Cast, Binary, Constants, no_constants, more_constants, Value, Local, Known, Operand, Incoming, Operation, BinaryOperation, Compare, Convert, Select, Freeze, Phi, Load, Store, Alloca, GetElementPtr, Call, ExtractValue, InsertValue, Instruction, Case, Ending, ReturnVoid, Return, Jump, Branch, Switch, Unreachable, Block, Parameter, Variable, Function, Module}
use Rattle.module_arena.specs.Same.{same_type}
use Rattle.module_arena.specs.TypeTests.{is_void, is_passable}
use Rattle.module_arena.specs.Constants.{constants_in, constants_of}
use Rattle.module_arena.specs.Operations.{incoming_operand, case_operand}
use Rattle.module_arena.specs.Functions.{body, result_name}
use Rattle.module_arena.specs.Forms.{has_result_of_phrase}
use Rattle.module_arena.specs.Names.{block_results, is_number, is_numbered_from}
use Rattle.module_arena.specs.EntryRules.{return_suits}
use Rattle.module_arena.specs.ValueRules.{is_pointer_value, arguments_suit, call_suits}
use Rattle.module_arena.specs.WellFormed.{depth, is_in_range, is_good_part, is_good_constant}
use Rattle.module_arena.proofs.SameValues.{type_is}
use Rattle.canonical.specs.Modules.Exact.{is_bit, IsExactNumber, IsExact, AreExact, IsExactValue, IsExactOperand, AreExactOperands, AreExactIncoming, IsExactCount, IsExactSignature, IsExactOperation, HasNoResult, IsNext, behind, IsNextResult, behind_result, AreExactInstructions, AreExactCases, IsExactEnding, behind_all, AreExactBlocks, AreExactParameters, behind_parameters, AreNumbered, IsExactBody, AreExactFunctions, IsExactInitialiser, AreExactVariables, IsExactModule}
use Rattle.canonical.specs.Reads.Laws.{IsGoodModule}
use Rattle.canonical.proofs.OnReads.Good.{first_of_all, others_of_all, all_front, all_rest, whole, AreGoodParts, AllGoodParts, IsGoodValue, IsGoodOperand, AreGoodOperands, IsGoodOperation}
use Rattle.canonical.proofs.OnReads.GoodBodies.{AreGoodInstructions, IsGoodEnding, AreGoodBlocks}
use Rattle.canonical.proofs.OnReads.GoodModule.{AreGoodVariables, AreGoodFunctions, the_variables, the_functions}
use Rattle.canonical.proofs.OnReads.FunctionsHold.{names_in}
use Rattle.canonical.proofs.OnReads.Valid.{AreFineCalls, AreFineBlocks, AreFineFunctions, valid_functions}

-- the canonical items of a good module stand for it
abbrev pub StandsForItself : Type 0
StandsForItself = (m : Module) → IsGoodModule m → IsExactModule m

-- ---- constants

exact_number : (ty : Tree) (n : ℕ) → is_in_range ty (Integer n) ≡ true → IsExactNumber ty n
exact_number (int width) n e = ltb-true n (2 ^ width) e
exact_number ptr n e = ltb-true n (2 ^ 128) e
exact_number void n e = ltb-true n (2 ^ 128) e
exact_number (array k t) n e = ltb-true n (2 ^ 128) e
exact_number (struct packed ts) n e = ltb-true n (2 ^ 128) e
exact_number (named name) n e = ltb-true n (2 ^ 128) e

not_a_bit : (ty : Tree) (b : Bool) → is_in_range ty (Truth b) ≡ true → is_bit ty ≡ false
not_a_bit (int width) b e = not-true (width == 1) e
not_a_bit ptr b e = refl
not_a_bit void b e = refl
not_a_bit (array k t) b e = refl
not_a_bit (struct packed ts) b e = refl
not_a_bit (named name) b e = refl

module _ (m : Module) where
  mutual
    exact_constant : (t : Tree) (c : Constant) → AreGoodParts m t c → IsExact t c
    exact_constant t (Integer n) e = exact_number t n (whole m t (Integer n) e).range
    exact_constant t (Truth b) e = not_a_bit t b (whole m t (Truth b) e).range
    exact_constant t Null e = tt
    exact_constant t Undef e = tt
    exact_constant t Poison e = tt
    exact_constant t ZeroInitializer e = tt
    exact_constant t (Address name) e = tt
    exact_constant t (ByteString bytes) e = tt
    exact_constant t (Aggregate kind cs) e = exact_constants cs (others_of_all (is_good_part m) (t, Aggregate kind cs) (constants_of cs) e)
    exact_constant t (ElementAddress set s cs) e = exact_constants cs (others_of_all (is_good_part m) (t, ElementAddress set s cs) (constants_of cs) e)
    exact_constant t (Cast o from c to) e = exact_constant from c (others_of_all (is_good_part m) (t, Cast o from c to) (constants_in from c) e)
    exact_constant t (Binary o set a b u c) e =
        let inner = others_of_all (is_good_part m) (t, Binary o set a b u c) (constants_in a b ++ constants_in u c) e in
        (exact_constant a b (all_front (is_good_part m) (constants_in a b) (constants_in u c) inner), exact_constant u c (all_rest (is_good_part m) (constants_in a b) (constants_in u c) inner))

    exact_constants : (cs : Constants) → AllGoodParts m cs → AreExact cs
    exact_constants no_constants e = tt
    exact_constants (more_constants t c cs) e = (exact_constant t c (all_front (is_good_part m) (constants_in t c) (constants_of cs) e), exact_constants cs (all_rest (is_good_part m) (constants_in t c) (constants_of cs) e))

  exact_whole : (t : Tree) (c : Constant) → is_good_constant m (t, c) ≡ true → IsExact t c
  exact_whole t c e = exact_constant t c (and_parts (nat_le (depth c) 64) (list_all (is_good_part m) (constants_in t c)) e).1

  -- ---- instructions

  module _ (values ends : List LocalName) where
    exact_value : (ty : Tree) (v : Value) → IsGoodValue m values ty v → IsExactValue ty v
    exact_value ty (Local n) g = tt
    exact_value ty (Known c) g = exact_whole ty c g

    exact_operand : (o : Operand) → IsGoodOperand m values o → IsExactOperand o
    exact_operand o g = exact_value o.ty o.value g.1

    exact_operands : (os : List Operand) → AreGoodOperands m values os → AreExactOperands os
    exact_operands [] g = tt
    exact_operands (o ∷ os) g = (exact_operand o g.0, exact_operands os g.1)

    exact_incoming : (ty : Tree) (js : List Incoming) → AreGoodOperands m values (map (incoming_operand ty) js) → AreExactIncoming ty js
    exact_incoming ty [] g = tt
    exact_incoming ty (j ∷ js) g = (exact_value ty j.value g.0.1, exact_incoming ty js g.1)

    exact_count : (c : Option Operand) → AreGoodOperands m values (option_to_list c) → IsExactCount c
    exact_count None g = tt
    exact_count (Some o) g = exact_operand o g.0

    same_arguments : (ts : List Tree) (os : List Operand) → arguments_suit false ts os ≡ true → ts ≡ map (λ o. o.ty) os
    same_arguments [] [] e = refl
    same_arguments [] (o ∷ os) e = absurd cc
    same_arguments (t ∷ ts) [] e = absurd cc
    same_arguments (t ∷ ts) (o ∷ os) e =
        let p = and_parts (same_type t o.ty) (arguments_suit false ts os) e in
        λ i. type_is t o.ty p.0 i ∷ same_arguments ts os p.1 i

    exact_signature : (variadic : Bool) (ts : List Tree) (os : List Operand) → arguments_suit variadic ts os ≡ true → IsExactSignature variadic ts os
    exact_signature true ts os e = tt
    exact_signature false ts os e = same_arguments ts os e

    exact_operation : (f : Function) (r : Option LocalName) (o : Operation) → IsGoodOperation m values ends o → call_suits m.structs f r o ≡ true → IsExactOperation o
    exact_operation f r (BinaryOperation o set left right) g e = (exact_operand left g.works_on.0, exact_value left.ty right g.works_on.1.0.1)
    exact_operation f r (Compare set p left right) g e = (exact_operand left g.works_on.0, exact_value left.ty right g.works_on.1.0.1)
    exact_operation f r (Convert o set value to) g e = exact_operand value g.works_on.0
    exact_operation f r (Select a b c) g e = (exact_operand a g.works_on.0, exact_operand b g.works_on.1.0, exact_operand c g.works_on.1.1.0)
    exact_operation f r (Freeze v) g e = exact_operand v g.works_on.0
    exact_operation f r (Phi ty incoming) g e = exact_incoming ty incoming g.works_on
    exact_operation f r (Load set ty a n) g e = exact_operand a g.works_on.0
    exact_operation f r (Store set v a n) g e = (exact_operand v g.works_on.0, exact_operand a g.works_on.1.0)
    exact_operation f r (Alloca ty c n) g e = exact_count c g.works_on
    exact_operation f r (GetElementPtr set s o os) g e = (exact_operand o g.works_on.0, exact_operands os g.works_on.1)
    exact_operation f r (Call s v os) g e =
        let p = and_parts (is_pointer_value m.structs f v) (arguments_suit s.variadic s.parameters os && (not (is_void s.returns) || is_none r)) e in
        let q = and_parts (arguments_suit s.variadic s.parameters os) (not (is_void s.returns) || is_none r) p.1 in
        (exact_signature s.variadic s.parameters os q.0, exact_value ptr v g.called, exact_operands os g.works_on)
    exact_operation f r (ExtractValue v ns) g e = exact_operand v g.works_on.0
    exact_operation f r (InsertValue v p ns) g e = (exact_operand v g.works_on.0, exact_operand p g.works_on.1.0)

    exact_cases : (cs : List Case) → AreGoodOperands m values (map case_operand cs) → AreExactCases cs
    exact_cases [] g = tt
    exact_cases (c ∷ cs) g = (exact_whole c.ty c.value g.0.1, exact_cases cs g.1)

    exact_ending : (e : Ending) → IsGoodEnding m values ends e → IsExactEnding e
    exact_ending ReturnVoid g = tt
    exact_ending (Return v) g = exact_operand v g.works_on.0
    exact_ending (Jump to) g = tt
    exact_ending (Branch c a b) g = exact_operand c g.works_on.0
    exact_ending (Switch v to cs) g = (exact_operand v g.works_on.0, exact_cases cs g.works_on.1)
    exact_ending Unreachable g = tt

-- ---- numbers in order

next_name : (next : ℕ) (name : LocalName) (rest : List LocalName) → is_numbered_from next (name ∷ rest) ≡ true → IsNext next name × (is_numbered_from (behind next name) rest ≡ true)
next_name next (Named x) rest e = (tt, e)
next_name next (Numbered n) rest e =
    let p = and_parts (n == next) (is_numbered_from (next + 1) rest) e in
    (eqb-true n next p.0, ap (λ k. is_numbered_from k rest) (sym (add-one next)) ∙ p.1)

no_result : (o : Operation) → has_result_of_phrase o false ≡ true → HasNoResult o
no_result (BinaryOperation code set left right) e = absurd cc
no_result (Compare set p left right) e = absurd cc
no_result (Convert code set value to) e = absurd cc
no_result (Select a b c) e = absurd cc
no_result (Freeze v) e = absurd cc
no_result (Phi ty incoming) e = absurd cc
no_result (Load set ty a n) e = absurd cc
no_result (Store set v a n) e = tt
no_result (Alloca ty c n) e = absurd cc
no_result (GetElementPtr set s o os) e = absurd cc
no_result (Call s v os) e = e
no_result (ExtractValue v ns) e = absurd cc
no_result (InsertValue v p ns) e = absurd cc

next_result : (next : ℕ) (r : Option LocalName) (o : Operation) (rest : List LocalName) → has_result_of_phrase o (is_some r) ≡ true → is_numbered_from next (option_to_list r ++ rest) ≡ true → IsNextResult next r o × (is_numbered_from (behind_result next r) rest ≡ true)
next_result next None o rest h e = (no_result o h, e)
next_result next (Some name) o rest h e = next_name next name rest e

numbered_parameters : (next : ℕ) (ps : List Parameter) (rest : List LocalName) → is_numbered_from next (map (λ p. p.name) ps ++ rest) ≡ true → AreExactParameters next ps × (is_numbered_from (behind_parameters next ps) rest ≡ true)
numbered_parameters next [] rest e = (tt, e)
numbered_parameters next (p ∷ ps) rest e =
    let here = next_name next p.name (map (λ p. p.name) ps ++ rest) e in
    let more = numbered_parameters (behind next p.name) ps rest here.1 in
    ((here.0, more.0), more.1)

declared_name : (next : ℕ) (name : LocalName) (rest : List LocalName) → is_number name ≡ true → is_numbered_from next (name ∷ rest) ≡ true → (name ≡ Numbered next) × (is_numbered_from (suc next) rest ≡ true)
declared_name next (Named x) rest h e = absurd cc
declared_name next (Numbered n) rest h e = let p = next_name next (Numbered n) rest e in (ap Numbered p.0, p.1)

declared_parameters : (next : ℕ) (ps : List Parameter) → list_all is_number (map (λ p. p.name) ps) ≡ true → is_numbered_from next (map (λ p. p.name) ps ++ []) ≡ true → AreNumbered next ps
declared_parameters next [] h e = tt
declared_parameters next (p ∷ ps) h e =
    let here = declared_name next p.name (map (λ p. p.name) ps ++ []) (first_of_all is_number p.name (map (λ p. p.name) ps) h) e in
    (here.0, declared_parameters (suc next) ps (others_of_all is_number p.name (map (λ p. p.name) ps) h) here.1)

-- ---- functions and variables

module _ (m : Module) where
  exact_instructions : (f : Function) (values ends : List LocalName) (next : ℕ) (is : List Instruction) (rest : List LocalName) → AreGoodInstructions m values ends is → AreFineCalls m f is → is_numbered_from next (flat_map result_name is ++ rest) ≡ true
      → AreExactInstructions next is × (is_numbered_from (behind_all next is) rest ≡ true)
  exact_instructions f values ends next [] rest g v e = (tt, e)
  exact_instructions f values ends next (i ∷ is) rest g v e =
      let here = next_result next i.result i.operation (flat_map result_name is ++ rest) g.0.named (ap (is_numbered_from next) (sym (append_assoc (result_name i) (flat_map result_name is) rest)) ∙ e) in
      let more = exact_instructions f values ends (behind_result next i.result) is rest g.1 v.1 here.1 in
      ((here.0, exact_operation m values ends f i.result i.operation g.0.operation v.0, more.0), more.1)

  exact_blocks : (f : Function) (values ends : List LocalName) (next : ℕ) (bs : List Block) → AreGoodBlocks m values ends bs → AreFineBlocks m f bs → is_numbered_from next (flat_map (λ b. b.name ∷ block_results b) bs) ≡ true → AreExactBlocks next bs
  exact_blocks f values ends next [] g v e = tt
  exact_blocks f values ends next (b ∷ bs) g v e =
      let rest = flat_map (λ (b : Block). b.name ∷ block_results b) bs in
      let here = next_name next b.name (block_results b ++ rest) e in
      let inside = exact_instructions f values ends (behind next b.name) b.instructions rest g.0.instructions v.0 here.1 in
      (here.0, inside.0, exact_ending m values ends b.ending g.0.ending, exact_blocks f values ends (behind_all (behind next b.name) b.instructions) bs g.1 v.2 inside.1)

  unvaried : (b : Bool) → (not b || false) ≡ true → b ≡ false
  unvaried true e = absurd cc
  unvaried false e = refl

  exact_body : (f : Function) (values ends : List LocalName) (o : Option (List Block)) → (not (is_none o) || list_all is_number (map (λ p. p.name) f.parameters)) ≡ true → (not f.variadic || is_none o) ≡ true
      → AreGoodBlocks m values ends (body o) → AreFineBlocks m f (body o) → is_numbered_from 0 (names_in f.parameters (body o)) ≡ true → IsExactBody f o
  exact_body f values ends None d v g b e = declared_parameters 0 f.parameters d e
  exact_body f values ends (Some bs) d v g b e =
      let p = numbered_parameters 0 f.parameters (flat_map (λ b. b.name ∷ block_results b) bs) e in
      (unvaried f.variadic v, p.0, exact_blocks f values ends (behind_parameters 0 f.parameters) bs g b p.1)

  exact_functions : (fs : List Function) → AreGoodFunctions m fs → AreFineFunctions m fs → AreExactFunctions fs
  exact_functions [] g v = tt
  exact_functions (f ∷ fs) g v =
      let p = and_parts (list_all (λ p. is_passable m.structs p.ty) f.parameters) (return_suits m.structs f.returns && (not f.variadic || is_none f.body)) v.0.types in
      let q = and_parts (return_suits m.structs f.returns) (not f.variadic || is_none f.body) p.1 in
      (exact_body f _ _ f.body g.0.declared q.1 g.0.bodies v.0.bodies g.0.ordered, exact_functions fs g.1 v.1)

  exact_initialiser : (ty : Tree) (c : Option Constant) → list_all (is_good_constant m) (map (λ c. (ty, c)) (option_to_list c)) ≡ true → IsExactInitialiser ty c
  exact_initialiser ty None e = tt
  exact_initialiser ty (Some c) e = exact_whole m ty c (first_of_all (is_good_constant m) (ty, c) [] e)

  exact_variables : (vs : List Variable) → AreGoodVariables m vs → AreExactVariables vs
  exact_variables [] g = tt
  exact_variables (v ∷ vs) g = (exact_initialiser v.ty v.initialiser g.0.initialiser, exact_variables vs g.1)

pub stands_for_itself : StandsForItself
stands_for_itself m sound = record {
  variables = exact_variables m m.variables (the_variables m sound.well_formed);
  functions = exact_functions m m.functions (the_functions m sound.well_formed) (valid_functions m sound.valid);
}
