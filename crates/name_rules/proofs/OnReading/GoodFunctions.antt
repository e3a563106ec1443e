-- Where nothing fails that a function asks for, it is a good function.
use Rattle.std.proofs.Common.{◌≡◌, ℕ, suc, ◌&&◌, cond, List, [], ◌∷◌, ◌++◌, map, Bool, true, false, Option, Some, None, refl, sym, ap, subst, ◌∙◌}
use Rattle.std.specs.List.{list_all, flat_map}
use Rattle.std.specs.Prelude.{option_to_list}
use Rattle.std.proofs.lemmas.Bool.{and_from}
use Rattle.std.proofs.lemmas.List.{append-nil}
use Rattle.ir_tables.specs.Table.{is_distinct}
use Rattle.ir_terminals.specs.declared.values.Local.{Local}
use Rattle.ir_phrases.specs.Constants.Tree.{TypeTree}
use Rattle.ir_phrases.specs.Constants.Forms.{AllAre, IsNotEmpty}
use Rattle.ir_phrases.proofs.OnConstants.Gives.{IfThere}
use Rattle.ir_phrases.specs.Instructions.Tree.{InstructionTree, BlockTree}
use Rattle.ir_phrases.specs.Instructions.Forms.{IsBlockFormed}
use Rattle.ir_syntax.specs.Tree.{ItemTree, ParameterTree, HeadTree}
use Rattle.ir_syntax.specs.Items.{language}
use Rattle.module_arena.specs.Module.{Bytes, LocalName, Block, Parameter}
use Rattle.module_arena.specs.Forms.{is_not_empty}
use Rattle.module_arena.specs.Functions.{blocks, result_name}
use Rattle.module_arena.specs.Names.{is_local_name, block_results, local_names, is_numbered_from, is_number, is_numbered_as_declared, value_names, locals_of_block, blocks_of_block, knows_its_names, has_good_names}
use Rattle.module_arena.specs.Same.{same_local, has_local}
use Rattle.module_arena.specs.WellFormed.{is_good_type, is_good_constant, has_entry, known_of_block, is_good_block, is_good_function}
use Rattle.name_rules.specs.Locals.{Announced, Locals, called, next_behind, next_after, announced, announced_parameter, announced_result, announced_block, has_result, locals_from, is_there}
use Rattle.name_rules.specs.Written.{type_in}
use Rattle.name_rules.specs.Bodies.{instructions_in, blocks_in}
use Rattle.name_rules.specs.ModuleOf.{structs_in, numbered_parameters, parameters_in, declared, defined, module_of_items}
use Rattle.name_rules.specs.Demand.{first_refusal}
use Rattle.name_rules.specs.TypeDemands.{has_name, type_demands}
use Rattle.name_rules.specs.FunctionDemands.{Called, none_called, called_with, called_after, call_demands, operation_demands, instruction_demands, instructions_demands, ending_demands, block_demands, blocks_demands, parameters_demands, definition_demands}
use Rattle.name_rules.specs.Breaks.{known_in, demands}
use Rattle.name_rules.proofs.Judging.{both_hold}
use Rattle.name_rules.proofs.OnReading.Types.{HasWidths}
use Rattle.name_rules.proofs.OnReading.Spellings.{IsLocalWell}
use Rattle.name_rules.proofs.OnReading.Instructions.{IsInstructionWell, IsBlockWell}
use Rattle.name_rules.proofs.OnReading.Items.{IsParameterWell}
use Rattle.name_rules.proofs.OnReading.GoodTypes.{good_type}
use Rattle.name_rules.proofs.OnReading.GoodBlocks.{IsBlockGood, blocks_good}
use Rattle.name_rules.proofs.OnReading.Called.{called_from, of_kind, called-append, of_kind-append, AreCalled, both_called, numbered_in_order, names_are_names, called_distinct, kind_there}
use Rattle.name_rules.proofs.OnReading.Tests.{all_flat, are_all}

-- ---- the names of a definition

parameters_called : (next : ℕ) (ps : List ParameterTree) → map (λ (p : Parameter). p.name) (parameters_in next ps) ≡ called_from next (map announced_parameter ps)
parameters_called next [] = refl
parameters_called next (p ∷ ps) = ap (λ rest. called next p.1 ∷ rest) (parameters_called (next_behind next p.1) ps)

parameters_values : (next : ℕ) (ps : List ParameterTree) → map (λ (p : Parameter). p.name) (parameters_in next ps) ≡ of_kind false next (map announced_parameter ps)
parameters_values next [] = refl
parameters_values next (p ∷ ps) = ap (λ rest. called next p.1 ∷ rest) (parameters_values (next_behind next p.1) ps)

no_blocks : (next : ℕ) (ps : List ParameterTree) → [] ≡ of_kind true next (map announced_parameter ps)
no_blocks next [] = refl
no_blocks next (p ∷ ps) = no_blocks (next_behind next p.1) ps

one_result : (b : Bool) (next : ℕ) (written : Option Local) → option_to_list (cond b (Some (called next written)) None) ≡ called_from next (cond b ((false, written) ∷ []) [])
one_result true next written = refl
one_result false next written = refl

one_value : (b : Bool) (next : ℕ) (written : Option Local) → option_to_list (cond b (Some (called next written)) None) ≡ of_kind false next (cond b ((false, written) ∷ []) [])
one_value true next written = refl
one_value false next written = refl

one_no_block : (b : Bool) (next : ℕ) (written : Option Local) → [] ≡ of_kind true next (cond b ((false, written) ∷ []) [])
one_no_block true next written = refl
one_no_block false next written = refl

instructions_called : (next : ℕ) (is : List InstructionTree) → flat_map result_name (instructions_in next is) ≡ called_from next (flat_map announced_result is)
instructions_called next [] = refl
instructions_called next (i ∷ is) =
    (λ j. one_result (has_result i) next i.result j ++ instructions_called (next_after next (announced_result i)) is j)
    ∙ sym (called-append next (announced_result i) (flat_map announced_result is))

instructions_values : (next : ℕ) (is : List InstructionTree) → flat_map result_name (instructions_in next is) ≡ of_kind false next (flat_map announced_result is)
instructions_values next [] = refl
instructions_values next (i ∷ is) =
    (λ j. one_value (has_result i) next i.result j ++ instructions_values (next_after next (announced_result i)) is j)
    ∙ sym (of_kind-append false next (announced_result i) (flat_map announced_result is))

instructions_no_blocks : (next : ℕ) (is : List InstructionTree) → [] ≡ of_kind true next (flat_map announced_result is)
instructions_no_blocks next [] = refl
instructions_no_blocks next (i ∷ is) =
    (λ j. one_no_block (has_result i) next i.result j ++ instructions_no_blocks (next_after next (announced_result i)) is j)
    ∙ sym (of_kind-append true next (announced_result i) (flat_map announced_result is))

blocks_called : (next : ℕ) (bs : List BlockTree) → flat_map (λ block. block.name ∷ block_results block) (blocks_in next bs) ≡ called_from next (flat_map announced_block bs)
blocks_called next [] = refl
blocks_called next (b ∷ bs) =
    (λ j. called next b.label ∷ (instructions_called (next_behind next b.label) b.instructions j ++ blocks_called (next_after next (announced_block b)) bs j))
    ∙ sym (called-append next (announced_block b) (flat_map announced_block bs))

blocks_values : (next : ℕ) (bs : List BlockTree) → flat_map block_results (blocks_in next bs) ≡ of_kind false next (flat_map announced_block bs)
blocks_values next [] = refl
blocks_values next (b ∷ bs) =
    (λ j. instructions_values (next_behind next b.label) b.instructions j ++ blocks_values (next_after next (announced_block b)) bs j)
    ∙ sym (of_kind-append false next (announced_block b) (flat_map announced_block bs))

blocks_blocks : (next : ℕ) (bs : List BlockTree) → map (λ (b : Block). b.name) (blocks_in next bs) ≡ of_kind true next (flat_map announced_block bs)
blocks_blocks next [] = refl
blocks_blocks next (b ∷ bs) =
    (λ j. called next b.label ∷ (instructions_no_blocks (next_behind next b.label) b.instructions j ++ blocks_blocks (next_after next (announced_block b)) bs j))
    ∙ sym (of_kind-append true next (announced_block b) (flat_map announced_block bs))

defined_called : (head : HeadTree) (ps : List ParameterTree) (bs : List BlockTree) → local_names (defined head ps bs) ≡ called_from 0 (announced ps bs)
defined_called head ps bs =
    (λ j. parameters_called 0 ps j ++ blocks_called (next_after 0 (map announced_parameter ps)) bs j)
    ∙ sym (called-append 0 (map announced_parameter ps) (flat_map announced_block bs))

pub defined_values : (head : HeadTree) (ps : List ParameterTree) (bs : List BlockTree) → value_names (defined head ps bs) ≡ of_kind false 0 (announced ps bs)
defined_values head ps bs =
    (λ j. parameters_values 0 ps j ++ blocks_values (next_after 0 (map announced_parameter ps)) bs j)
    ∙ sym (of_kind-append false 0 (map announced_parameter ps) (flat_map announced_block bs))

pub defined_blocks : (head : HeadTree) (ps : List ParameterTree) (bs : List BlockTree) → map (λ (b : Block). b.name) (blocks (defined head ps bs)) ≡ of_kind true 0 (announced ps bs)
defined_blocks head ps bs =
    (λ j. no_blocks 0 ps j ++ blocks_blocks (next_after 0 (map announced_parameter ps)) bs j)
    ∙ sym (of_kind-append true 0 (map announced_parameter ps) (flat_map announced_block bs))

-- ---- what they ask for

one_called : (b : Bool) (before : Called) (written : Option Local) → first_refusal (call_demands before written) ≡ None → AreCalled before (cond b ((false, written) ∷ []) [])
one_called true before written e = (e, tt)
one_called false before written e = tt

module _ (items : List ItemTree) (all : Locals) where
  pub parameters_ask : (before : Called) (ps : List ParameterTree) → first_refusal (parameters_demands (known_in items) all before ps) ≡ None → AreCalled before (map announced_parameter ps)
  parameters_ask before [] e = tt
  parameters_ask before (p ∷ ps) e =
      let first = both_hold (type_demands (known_in items) p.0) (call_demands before p.1 ++ parameters_demands (known_in items) all (called_with before (false, p.1)) ps) e in
      let second = both_hold (call_demands before p.1) (parameters_demands (known_in items) all (called_with before (false, p.1)) ps) first.1 in
      (second.0, parameters_ask (called_with before (false, p.1)) ps second.1)

  instructions_ask : (before : Called) (is : List InstructionTree) → first_refusal (instructions_demands (known_in items) all before is) ≡ None → AreCalled before (flat_map announced_result is)
  instructions_ask before [] e = tt
  instructions_ask before (i ∷ is) e =
      let parts = both_hold (instruction_demands (known_in items) all before i) (instructions_demands (known_in items) all (called_after before (announced_result i)) is) e in
      let halves = both_hold (call_demands before i.result) (operation_demands (known_in items) all i.operation) parts.0 in
      both_called before (announced_result i) (flat_map announced_result is) (one_called (has_result i) before i.result halves.0)
      (instructions_ask (called_after before (announced_result i)) is parts.1)

  pub blocks_ask : (before : Called) (bs : List BlockTree) → first_refusal (blocks_demands (known_in items) all before bs) ≡ None → AreCalled before (flat_map announced_block bs)
  blocks_ask before [] e = tt
  blocks_ask before (b ∷ bs) e =
      let inside = called_with before (true, b.label) in
      let parts = both_hold (block_demands (known_in items) all before b) (blocks_demands (known_in items) all (called_after before (announced_block b)) bs) e in
      let first = both_hold (call_demands before b.label) (instructions_demands (known_in items) all inside b.instructions ++ ending_demands (known_in items) all b.ending) parts.0 in
      let second = both_hold (instructions_demands (known_in items) all inside b.instructions) (ending_demands (known_in items) all b.ending) first.1 in
      both_called before (announced_block b) (flat_map announced_block bs) (first.0, instructions_ask inside b.instructions second.0)
      (blocks_ask (called_after before (announced_block b)) bs parts.1)

-- ---- names that are names

abbrev AreWell : List Announced → Type 0
AreWell all = AllAre (λ a. IfThere IsLocalWell a.1) all

well-append : (xs ys : List Announced) → AreWell xs → AreWell ys → AreWell (xs ++ ys)
well-append [] ys h g = g
well-append (x ∷ xs) ys h g = (h.0, well-append xs ys h.1 g)

parameters_well : (ps : List ParameterTree) → AllAre IsParameterWell ps → AreWell (map announced_parameter ps)
parameters_well [] h = tt
parameters_well (p ∷ ps) h = (h.0.1, parameters_well ps h.1)

one_well : (b : Bool) (written : Option Local) → IfThere IsLocalWell written → AreWell (cond b ((false, written) ∷ []) [])
one_well true written h = (h, tt)
one_well false written h = tt

instructions_well : (is : List InstructionTree) → AllAre (IsInstructionWell language) is → AreWell (flat_map announced_result is)
instructions_well [] h = tt
instructions_well (i ∷ is) h = well-append (announced_result i) (flat_map announced_result is) (one_well (has_result i) i.result h.0.0) (instructions_well is h.1)

blocks_well : (bs : List BlockTree) → AllAre (IsBlockWell language) bs → AreWell (flat_map announced_block bs)
blocks_well [] h = tt
blocks_well (b ∷ bs) h = well-append (announced_block b) (flat_map announced_block bs) (h.0.0, instructions_well b.instructions h.0.1) (blocks_well bs h.1)

-- ---- a declaration

unnamed : List TypeTree → List Announced
unnamed ts = map (λ t. (false, None)) ts

numbered_called : (next : ℕ) (ts : List TypeTree) → map (λ (p : Parameter). p.name) (numbered_parameters next ts) ≡ called_from next (unnamed ts)
unfolding unnamed
numbered_called next [] = refl
numbered_called next (t ∷ ts) = ap (λ rest. called next None ∷ rest) (numbered_called (suc next) ts)

unnamed_called : (before : Called) (ts : List TypeTree) → AreCalled before (unnamed ts)
unfolding unnamed
unnamed_called before [] = tt
unnamed_called before (t ∷ ts) = (refl, unnamed_called (called_with before (false, None)) ts)

unnamed_well : (ts : List TypeTree) → AreWell (unnamed ts)
unfolding unnamed
unnamed_well [] = tt
unnamed_well (t ∷ ts) = (tt, unnamed_well ts)

all_numbers : (next : ℕ) (ts : List TypeTree) → list_all is_number (map (λ (p : Parameter). p.name) (numbered_parameters next ts)) ≡ true
all_numbers next [] = refl
all_numbers next (t ∷ ts) = all_numbers (suc next) ts

declared_called : (head : HeadTree) (ts : List TypeTree) (variadic : Bool) → local_names (declared head ts variadic) ≡ called_from 0 (unnamed ts)
declared_called head ts variadic = append-nil (map (λ (p : Parameter). p.name) (numbered_parameters 0 ts)) ∙ numbered_called 0 ts

module _ (items : List ItemTree) (unbroken : first_refusal (demands items) ≡ None) (entries : (name : Bytes) → has_name (known_in items).globals name ≡ true → has_entry (module_of_items items) name ≡ true) where
  declared_types : (next : ℕ) (ts : List TypeTree) → AllAre HasWidths ts → first_refusal (flat_map (type_demands (known_in items)) ts) ≡ None → list_all (λ (p : Parameter). is_good_type (structs_in items) p.ty) (numbered_parameters next ts) ≡ true
  declared_types next [] w e = refl
  declared_types next (t ∷ ts) w e =
      let parts = both_hold (type_demands (known_in items) t) (flat_map (type_demands (known_in items)) ts) e in
      and_from _ _ (good_type items unbroken t w.0 parts.0) (declared_types (suc next) ts w.1 parts.1)

  declared_names : (head : HeadTree) (ts : List TypeTree) (variadic : Bool) → has_good_names (declared head ts variadic) ≡ true
  declared_names head ts variadic =
      let f = declared head ts variadic in
      let same = declared_called head ts variadic in
      and_from (list_all is_local_name (local_names f)) _ (ap (list_all is_local_name) same ∙ names_are_names 0 (unnamed ts) (unnamed_well ts))
      (and_from (is_distinct same_local (local_names f)) _ (ap (is_distinct same_local) same ∙ called_distinct none_called (unnamed ts) (unnamed_called none_called ts))
      (and_from (is_numbered_from 0 (local_names f)) _ (ap (is_numbered_from 0) same ∙ numbered_in_order 0 (unnamed ts))
      (and_from (is_numbered_as_declared f) (knows_its_names f) (all_numbers 0 ts) refl)))

  -- a declaration of which nothing is asked in vain
  pub good_declaration : (head : HeadTree) (ts : List TypeTree) (variadic : Bool) → HasWidths head.returns → AllAre HasWidths ts → first_refusal (type_demands (known_in items) head.returns) ≡ None
      → first_refusal (flat_map (type_demands (known_in items)) ts) ≡ None → is_good_function (module_of_items items) (declared head ts variadic) ≡ true
  good_declaration head ts variadic w v e g =
      and_from (is_good_type (structs_in items) (type_in head.returns)) _ (good_type items unbroken head.returns w e)
      (and_from (list_all (λ p. is_good_type (structs_in items) p.ty) (numbered_parameters 0 ts)) _ (declared_types 0 ts v g)
      (and_from (has_good_names (declared head ts variadic)) true (declared_names head ts variadic) refl))

  -- ---- a definition

  defined_types : (all : Locals) (next : ℕ) (before : Called) (ps : List ParameterTree) → AllAre IsParameterWell ps → first_refusal (parameters_demands (known_in items) all before ps) ≡ None
      → list_all (λ (p : Parameter). is_good_type (structs_in items) p.ty) (parameters_in next ps) ≡ true
  defined_types all next before [] w e = refl
  defined_types all next before (p ∷ ps) w e =
      let first = both_hold (type_demands (known_in items) p.0) (call_demands before p.1 ++ parameters_demands (known_in items) all (called_with before (false, p.1)) ps) e in
      let second = both_hold (call_demands before p.1) (parameters_demands (known_in items) all (called_with before (false, p.1)) ps) first.1 in
      and_from _ _ (good_type items unbroken p.0 w.0.0 first.0) (defined_types all (next_behind next p.1) (called_with before (false, p.1)) ps w.1 second.1)

  implied : (p q : LocalName → Bool) → ((x : LocalName) → p x ≡ true → q x ≡ true) → (xs : List LocalName) → list_all p xs ≡ true → list_all q xs ≡ true
  implied p q k [] h = refl
  implied p q k (x ∷ xs) h = by (p x) refl h (λ g. implied p q k xs g)
    where
      by : (b : Bool) → p x ≡ b → (b && list_all p xs) ≡ true → (list_all p xs ≡ true → list_all q xs ≡ true) → (q x && list_all q xs) ≡ true
      by true e g rest = and_from (q x) (list_all q xs) (k x e) (rest g)
      by false e g rest = absurd cc

  module _ (head : HeadTree) (ps : List ParameterTree) (bs : List BlockTree) (e : first_refusal (definition_demands (known_in items) ps bs) ≡ None) where
    parts : (first_refusal (parameters_demands (known_in items) (locals_from 0 (announced ps bs)) none_called ps) ≡ None)
        × (first_refusal (blocks_demands (known_in items) (locals_from 0 (announced ps bs)) (called_after none_called (announced ps [])) bs) ≡ None)
    parts =
        both_hold (parameters_demands (known_in items) (locals_from 0 (announced ps bs)) none_called ps)
        (blocks_demands (known_in items) (locals_from 0 (announced ps bs)) (called_after none_called (announced ps [])) bs) e

    are_called : AreCalled none_called (announced ps bs)
    are_called =
        both_called none_called (map announced_parameter ps) (flat_map announced_block bs)
        (parameters_ask items (locals_from 0 (announced ps bs)) none_called ps parts.0)
        (subst (λ b. AreCalled (called_after none_called b) (flat_map announced_block bs)) (append-nil (map announced_parameter ps))
        (blocks_ask items (locals_from 0 (announced ps bs)) (called_after none_called (announced ps [])) bs parts.1))

    module _ (w : AllAre IsParameterWell ps) (v : AllAre (IsBlockWell language) bs) (f : AllAre IsBlockFormed bs) where
      abbrev Good : Block → Type 0
      Good b = IsBlockGood items unbroken entries (locals_from 0 (announced ps bs)) b

      inside : AllAre Good (blocks_in (next_after 0 (map announced_parameter ps)) bs)
      inside =
          blocks_good items unbroken entries (locals_from 0 (announced ps bs)) (next_after 0 (map announced_parameter ps)) (called_after none_called (announced ps [])) bs v f parts.1

      knows : knows_its_names (defined head ps bs) ≡ true
      knows =
          let blocks_here = blocks_in (next_after 0 (map announced_parameter ps)) bs in
          let locals = locals_from 0 (announced ps bs) in
          let values = all_flat (λ name. is_there locals false name) locals_of_block Good (λ b g. g.locals) blocks_here inside in
          let targets = all_flat (λ name. is_there locals true name) blocks_of_block Good (λ b g. g.blocks) blocks_here inside in
          and_from (list_all (has_local (value_names (defined head ps bs))) (flat_map locals_of_block blocks_here)) _
          (implied (λ name. is_there locals false name) (has_local (value_names (defined head ps bs)))
          (λ x g. subst (λ names. has_local names x ≡ true) (sym (defined_values head ps bs)) (kind_there none_called (announced ps bs) false x are_called g)) (flat_map locals_of_block blocks_here) values)
          (implied (λ name. is_there locals true name) (has_local (map (λ block. block.name) (blocks (defined head ps bs))))
          (λ x g. subst (λ names. has_local names x ≡ true) (sym (defined_blocks head ps bs)) (kind_there none_called (announced ps bs) true x are_called g)) (flat_map blocks_of_block blocks_here) targets)

      defined_names : has_good_names (defined head ps bs) ≡ true
      defined_names =
          let d = defined head ps bs in
          let same = defined_called head ps bs in
          let well = well-append (map announced_parameter ps) (flat_map announced_block bs) (parameters_well ps w) (blocks_well bs v) in
          and_from (list_all is_local_name (local_names d)) _ (ap (list_all is_local_name) same ∙ names_are_names 0 (announced ps bs) well)
          (and_from (is_distinct same_local (local_names d)) _ (ap (is_distinct same_local) same ∙ called_distinct none_called (announced ps bs) are_called)
          (and_from (is_numbered_from 0 (local_names d)) _ (ap (is_numbered_from 0) same ∙ numbered_in_order 0 (announced ps bs))
          (and_from (is_numbered_as_declared d) (knows_its_names d) refl knows)))

      some_block : (next : ℕ) (cs : List BlockTree) → IsNotEmpty cs → is_not_empty (blocks_in next cs) ≡ true
      some_block next [] h = absurd h
      some_block next (c ∷ cs) h = refl

      -- a definition of which nothing is asked in vain
      pub good_definition : HasWidths head.returns → IsNotEmpty bs → first_refusal (type_demands (known_in items) head.returns) ≡ None → is_good_function (module_of_items items) (defined head ps bs) ≡ true
      good_definition h some g =
          let blocks_here = blocks_in (next_after 0 (map announced_parameter ps)) bs in
          and_from (is_good_type (structs_in items) (type_in head.returns)) _ (good_type items unbroken head.returns h g)
          (and_from (list_all (λ p. is_good_type (structs_in items) p.ty) (parameters_in 0 ps)) _ (defined_types (locals_from 0 (announced ps bs)) 0 none_called ps w parts.0)
          (and_from (is_not_empty blocks_here) _ (some_block (next_after 0 (map announced_parameter ps)) bs some)
          (and_from (has_good_names (defined head ps bs)) _ defined_names
          (are_all (is_good_block (module_of_items items)) Good (λ b k. k.good) blocks_here inside))))

      pub definition_constants : list_all (is_good_constant (module_of_items items)) (flat_map known_of_block (blocks (defined head ps bs))) ≡ true
      definition_constants = all_flat (is_good_constant (module_of_items items)) known_of_block Good (λ b k. k.constants) (blocks_in (next_after 0 (map announced_parameter ps)) bs) inside
