-- The bodies of a well-formed and valid module are read back.
use Rattle.std.proofs.Common.{◌≡◌, ℕ, ◌+◌, Bool, true, false, ◌&&◌, ◌||◌, not, List, [], ◌∷◌, ◌++◌, length, map, flat_map, filter_map, Option, Some, None, is_some, refl, sym, ap, ◌∙◌, subst, append_assoc, append-nil}
use Rattle.std.specs.Prelude.{is_none}
use Rattle.std.specs.List.{list_all, AllByRecursion}
use Rattle.std.specs.Option.{option_map_or, option_to_list}
use Rattle.std.proofs.lemmas.Bool.{and_parts, false≢true}
use Rattle.ir_tables.specs.Table.{is_distinct}
use Rattle.type_table.specs.Tree.{Tree, ptr}
use Rattle.module_arena.specs.Module.{Bytes, LocalName, Value, Operation, Store, Call, Instruction, Block, Parameter, Function, Module}
use Rattle.module_arena.specs.Same.{same_local, has_local}
use Rattle.module_arena.specs.Flow.{flow_of}
use Rattle.module_arena.specs.Forms.{is_instruction_of_phrase, is_operation_of_phrase, has_result_of_phrase, is_not_empty}
use Rattle.module_arena.specs.Functions.{blocks, body, result_name}
use Rattle.module_arena.specs.Names.{is_local_name, block_results, parameter_names, local_names, is_numbered_from, is_number, is_numbered_as_declared, value_names, locals_of_operation, locals_of_block, blocks_of_operation, blocks_of_block, knows_its_names, has_good_names}
use Rattle.module_arena.specs.Operations.{operands, ending_operands, callee, targets, local_in}
use Rattle.module_arena.specs.TypeTests.{is_void}
use Rattle.module_arena.specs.ValueRules.{operands_fit, callee_fits, arguments_suit, call_suits, is_pointer_value}
use Rattle.module_arena.specs.Valid.{AllHold, instruction_demands, ending_demands, instructions_demands, blocks_demands, function_demands, definedness_demands, operation_uses, operand_uses}
use Rattle.module_arena.specs.Valid as valid
use Rattle.module_arena.specs.WellFormed.{is_good_type, is_good_constant, is_good_block, is_good_function, are_good_operands, types_of_operation, known_in, known_of_operands, known_of_operation, known_of_block}
use Rattle.module_arena.proofs.Parts.{front_holds, rest_holds, valid_blocks, valid_ending}
use Rattle.record_table.specs.Fields.{Texts, after, name_in}
use Rattle.record_table.specs.Listed.{IsLabel}
use Rattle.record_table.specs.FittingLines.{IsSome, IsAbsent, IsCallResult, IsResult, OperationFits, EndingFits}
use Rattle.record_table.specs.Bodies.{after_all, with_names, results}
use Rattle.record_table.specs.Mentions.{in_operation, in_ending, in_block, in_function, in_some, mentioned}
use Rattle.record_table.specs.Spelling.{names_of_body, texts_of_body, numbering}
use Rattle.record_law.specs.Bodies.FittingBodies.{own_behind, taken_behind, own_behind_block, taken_behind_block, AreLabels, InstructionsFit, BlockFits, BlocksFit, BodyFits}
use Rattle.record_law.specs.FittingModules.{declared, PartsFit, FunctionFits}
use Rattle.record_law.proofs.OnTypes.Tests.{all_front, all_rest, front_of, rest_of}
use Rattle.record_law.proofs.OnTypes.TypesInOrder.{has}
use Rattle.record_law.proofs.OnFits.ConstantsFit.{here}
use Rattle.record_law.proofs.OnFits.LinesFit.{CalleeSound, sound_operands, operation_in, ending_in}
use Rattle.record_law.proofs.OnFits.LabelsFit.{held_names, AreAhead, all_ahead, front_ahead, rest_ahead, result_front, result_rest, numbered_again}

module _ (texts : Texts) where
  call_result : (own : ℕ) (empty : Bool) (result : Option LocalName) → (not empty || is_none result) ≡ true → (is_some result || empty) ≡ true → AreLabels texts own (option_to_list result) → IsCallResult texts own empty result
  call_result own true None h k labels = tt
  call_result own true (Some name) h k labels = absurd (false≢true h)
  call_result own false None h k labels = absurd (false≢true k)
  call_result own false (Some name) h k labels = labels.0

  named_result : (own : ℕ) (result : Option LocalName) → is_some result ≡ true → AreLabels texts own (option_to_list result) → IsSome (IsLabel texts own) result
  named_result own None h labels = absurd (false≢true h)
  named_result own (Some name) h labels = labels.0

  absent : (result : Option LocalName) → not (is_some result) ≡ true → IsAbsent result
  absent None h = tt
  absent (Some name) h = absurd (false≢true h)

module _ (m : Module) (f : Function) (values targets_of : List LocalName) (texts : Texts) where
  abbrev There : List Tree → Type 0
  There ts = AllByRecursion (λ t. has (mentioned m) t ≡ true) ts

  result_fits : (own : ℕ) (o : Operation) (result : Option LocalName) → has_result_of_phrase o (is_some result) ≡ true → call_suits m.structs f result o ≡ true → AreLabels texts own (option_to_list result)
      → IsResult texts (here m values targets_of) own o result
  result_fits own (Store set v a align) result given call labels = absent texts result given
  result_fits own (Call s v xs) result given call labels =
      let p = and_parts (is_pointer_value m.structs f v) (arguments_suit s.variadic s.parameters xs && (not (is_void s.returns) || is_none result)) call in
      call_result texts own (is_void s.returns) result (and_parts (arguments_suit s.variadic s.parameters xs) (not (is_void s.returns) || is_none result) p.1).1 given labels
  result_fits own _ result given call labels = named_result texts own result given labels

  callee_sound : (c : Option Value) → callee_fits m.structs c ≡ true → list_all (is_good_constant m) (option_map_or (known_in ptr) c []) ≡ true → list_all (has_local values) (option_map_or local_in c []) ≡ true
      → CalleeSound m values targets_of c
  callee_sound None fit good known = tt
  callee_sound (Some v) fit good known = record { fit = fit; good = good; known = known }

  module _ (b : Block) where
    abbrev is_good_line : Instruction → Bool
    is_good_line i = is_instruction_of_phrase i && (are_good_operands m (operands i.operation) && list_all (is_good_type m.structs) (types_of_operation i.operation))

    -- what an instruction is, but for its name
    record IsSoundLine (i : Instruction) : Type 0 where
      pub operation : OperationFits (here m values targets_of) i.operation
      pub given : has_result_of_phrase i.operation (is_some i.result) ≡ true
      pub call : call_suits m.structs f i.result i.operation ≡ true

    line_sound : (before number : ℕ) (i : Instruction) → is_instruction_of_phrase i ≡ true → AllHold (instruction_demands m f b before number i) → list_all (is_good_constant m) (known_of_operation i.operation) ≡ true
        → list_all (has_local values) (locals_of_operation i.operation) ≡ true → list_all (has_local targets_of) (blocks_of_operation i.operation) ≡ true → There (in_operation i.operation) → IsSoundLine i
    line_sound before number i phrase holds good known targets_known there =
        let entity = valid.InstructionOf number f.name in
        let uses = definedness_demands f entity (operation_uses (flow_of f) (record { block = b.name; before = before }) i.operation) in
        let later = rest_holds uses _ holds.1.1.1.1 in
        let fit = and_parts (operands_fit m.structs (operands i.operation)) (callee_fits m.structs (callee i.operation)) later.1.1.1.1.1.1.1.0 in
        let form = and_parts (is_operation_of_phrase i.operation) (has_result_of_phrase i.operation (is_some i.result)) phrase in
        let called = option_map_or (known_in ptr) (callee i.operation) [] in
        let called_locals = option_map_or local_in (callee i.operation) [] in
        let all = sound_operands m values targets_of (operands i.operation) fit.0 (all_front (is_good_constant m) (known_of_operands (operands i.operation)) called good)
        (all_front (has_local values) (flat_map (λ x. local_in x.value) (operands i.operation)) called_locals known) in
        let callee_in = callee_sound (callee i.operation) fit.1 (all_rest (is_good_constant m) (known_of_operands (operands i.operation)) called good)
        (all_rest (has_local values) (flat_map (λ x. local_in x.value) (operands i.operation)) called_locals known) in
        record {
          operation = operation_in m values targets_of f i.operation i.result form.0 holds.1.1.0 later.1.0 later.1.1.1.0 later.1.1.1.1.0 later.1.1.1.1.1.1.0 all callee_in targets_known there;
          given = form.1;
          call = later.1.1.1.1.1.1.0;
        }

    lines_sound : (before number : ℕ) (is : List Instruction) → list_all is_good_line is ≡ true → AllHold (instructions_demands m f b before number is)
        → list_all (is_good_constant m) (flat_map (λ i. known_of_operation i.operation) is) ≡ true → list_all (has_local values) (flat_map (λ i. locals_of_operation i.operation) is) ≡ true
        → list_all (has_local targets_of) (flat_map (λ i. blocks_of_operation i.operation) is) ≡ true → There (flat_map (λ i. in_operation i.operation) is) → AllByRecursion IsSoundLine is
    lines_sound before number [] form holds good known targets_known there = tt
    lines_sound before number (i ∷ is) form holds good known targets_known there =
        let p = and_parts (is_good_line i) (list_all is_good_line is) form in
        let phrase = (and_parts (is_instruction_of_phrase i) (are_good_operands m (operands i.operation) && list_all (is_good_type m.structs) (types_of_operation i.operation)) p.0).0 in
        let goods = flat_map (λ (i : Instruction). known_of_operation i.operation) is in
        let knowns = flat_map (λ (i : Instruction). locals_of_operation i.operation) is in
        let blocks_known = flat_map (λ (i : Instruction). blocks_of_operation i.operation) is in
        let types = flat_map (λ (i : Instruction). in_operation i.operation) is in
        let P = λ (t : Tree). has (mentioned m) t ≡ true in (
          line_sound before number i phrase (front_holds (instruction_demands m f b before number i) (instructions_demands m f b (before + 1) (number + 1) is) holds)
              (all_front (is_good_constant m) (known_of_operation i.operation) goods good) (all_front (has_local values) (locals_of_operation i.operation) knowns known)
              (all_front (has_local targets_of) (blocks_of_operation i.operation) blocks_known targets_known) (front_of P (in_operation i.operation) types there),
          lines_sound (before + 1) (number + 1) is p.1 (rest_holds (instruction_demands m f b before number i) (instructions_demands m f b (before + 1) (number + 1) is) holds)
              (all_rest (is_good_constant m) (known_of_operation i.operation) goods good) (all_rest (has_local values) (locals_of_operation i.operation) knowns known)
              (all_rest (has_local targets_of) (blocks_of_operation i.operation) blocks_known targets_known) (rest_of P (in_operation i.operation) types there),
        )

    -- with names, one behind the other
    named_lines : (is : List Instruction) (own : ℕ) (taken : List Bytes) (rest : List LocalName) → AllByRecursion IsSoundLine is → AreAhead texts own taken (flat_map result_name is ++ rest)
        → InstructionsFit texts (here m values targets_of) own taken is × AreAhead texts (own_behind own is) (taken_behind taken is) rest
    named_lines [] own taken rest sound ahead = (tt, ahead)
    named_lines (i ∷ is) own taken rest sound ahead =
        let shifted = subst (AreAhead texts own taken) (append_assoc (option_to_list i.result) (flat_map result_name is) rest) ahead in
        let front = result_front texts i.result own taken (flat_map result_name is ++ rest) shifted in
        let behind = result_rest texts i.result own taken (flat_map result_name is ++ rest) shifted in
        let later = named_lines is (after_all own (results i.result)) (with_names taken (results i.result)) rest sound.1 behind in
        (((sound.0.operation, result_fits own i.operation i.result sound.0.given sound.0.call front.0), front.1, later.0), later.1)

    end_fits : (number : ℕ) → AllHold (ending_demands m f b number) → list_all (is_good_constant m) (known_of_operands (ending_operands b.ending)) ≡ true
        → list_all (has_local values) (flat_map (λ x. local_in x.value) (ending_operands b.ending)) ≡ true → list_all (has_local targets_of) (targets b.ending) ≡ true → There (in_ending b.ending) → EndingFits (here m values targets_of) b.ending
    end_fits number holds good known targets_known there =
        let entity = valid.InstructionOf number f.name in
        let uses = definedness_demands f entity (operand_uses (record { block = b.name; before = length b.instructions }) (ending_operands b.ending)) in
        let later = rest_holds uses _ holds.1.1 in
        ending_in m values targets_of f b.ending later.1.0 (sound_operands m values targets_of (ending_operands b.ending) later.1.1.0 good known) targets_known there

  -- what is said of some blocks of the function
  pub record AreSound (number : ℕ) (bs : List Block) : Type 0 where
    pub form : list_all (is_good_block m) bs ≡ true
    pub holds : AllHold (blocks_demands m f number bs)
    pub good : list_all (is_good_constant m) (flat_map known_of_block bs) ≡ true
    pub known : list_all (has_local values) (flat_map locals_of_block bs) ≡ true
    pub targets_known : list_all (has_local targets_of) (flat_map blocks_of_block bs) ≡ true
    pub there : AllByRecursion (λ t. has (mentioned m) t ≡ true) (flat_map in_block bs)

  later_sound : (number : ℕ) (b : Block) (bs : List Block) → AreSound number (b ∷ bs) → AreSound (number + length b.instructions + 1) bs
  later_sound number b bs s = record {
    form = (and_parts (is_good_block m b) (list_all (is_good_block m) bs) s.form).1;
    holds = rest_holds (instructions_demands m f b 0 number b.instructions) (blocks_demands m f (number + length b.instructions + 1) bs) s.holds;
    good = all_rest (is_good_constant m) (known_of_block b) (flat_map known_of_block bs) s.good;
    known = all_rest (has_local values) (locals_of_block b) (flat_map locals_of_block bs) s.known;
    targets_known = all_rest (has_local targets_of) (blocks_of_block b) (flat_map blocks_of_block bs) s.targets_known;
    there = rest_of (λ t. has (mentioned m) t ≡ true) (in_block b) (flat_map in_block bs) s.there;
  }

  block_fits : (number : ℕ) (b : Block) (bs : List Block) (own : ℕ) (taken : List Bytes) (rest : List LocalName) → AreSound number (b ∷ bs) → AreAhead texts own taken ((b.name ∷ block_results b) ++ rest)
      → BlockFits texts (here m values targets_of) own taken b × AreAhead texts (own_behind_block own b) (taken_behind_block taken b) rest
  block_fits number b bs own taken rest s ahead =
      let p = and_parts (list_all (is_good_line b) b.instructions) (are_good_operands m (ending_operands b.ending)) (and_parts (is_good_block m b) (list_all (is_good_block m) bs) s.form).0 in
      let holds = front_holds (instructions_demands m f b 0 number b.instructions) (blocks_demands m f (number + length b.instructions + 1) bs) s.holds in
      let good = all_front (is_good_constant m) (known_of_block b) (flat_map known_of_block bs) s.good in
      let known = all_front (has_local values) (locals_of_block b) (flat_map locals_of_block bs) s.known in
      let targets_known = all_front (has_local targets_of) (blocks_of_block b) (flat_map blocks_of_block bs) s.targets_known in
      let P = λ (t : Tree). has (mentioned m) t ≡ true in
      let there = front_of P (in_block b) (flat_map in_block bs) s.there in
      let goods = flat_map (λ (i : Instruction). known_of_operation i.operation) b.instructions in
      let knowns = flat_map (λ (i : Instruction). locals_of_operation i.operation) b.instructions in
      let blocks_known = flat_map (λ (i : Instruction). blocks_of_operation i.operation) b.instructions in
      let types = flat_map (λ (i : Instruction). in_operation i.operation) b.instructions in
      let sound = lines_sound b 0 number b.instructions p.0 holds (all_front (is_good_constant m) goods (known_of_operands (ending_operands b.ending)) good)
      (all_front (has_local values) knowns (flat_map (λ x. local_in x.value) (ending_operands b.ending)) known)
      (all_front (has_local targets_of) blocks_known (targets b.ending) targets_known) (front_of P types (in_ending b.ending) there) in
      let end = end_fits b (number + length b.instructions) (valid_ending m f b 0 number b.instructions holds) (all_rest (is_good_constant m) goods (known_of_operands (ending_operands b.ending)) good)
      (all_rest (has_local values) knowns (flat_map (λ x. local_in x.value) (ending_operands b.ending)) known)
      (all_rest (has_local targets_of) blocks_known (targets b.ending) targets_known) (rest_of P types (in_ending b.ending) there) in
      let front = front_ahead texts own taken (b.name ∷ []) (block_results b ++ rest) ahead in
      let behind = rest_ahead texts own taken (b.name ∷ []) (block_results b ++ rest) ahead in
      let lines = named_lines b b.instructions (after own b.name) (with_names taken (b.name ∷ [])) rest sound behind in
      ((front.labels.0, front.new, lines.0, end), lines.1)

  pub blocks_fit : (bs : List Block) (number own : ℕ) (taken : List Bytes) → AreSound number bs → AreAhead texts own taken (flat_map (λ b. b.name ∷ block_results b) bs) → BlocksFit texts (here m values targets_of) own taken bs
  blocks_fit [] number own taken s ahead = tt
  blocks_fit (b ∷ bs) number own taken s ahead =
      let one = block_fits number b bs own taken (flat_map (λ b. b.name ∷ block_results b) bs) s ahead in
      (one.0, blocks_fit bs (number + length b.instructions + 1) (own_behind_block own b) (taken_behind_block taken b) (later_sound number b bs s) one.1)

-- ---- functions
module _ (m : Module) (texts : Texts) where
  -- what is said of a function with these blocks
  record IsSoundBody (f : Function) (bs : List Block) : Type 0 where
    pub some : is_not_empty bs ≡ true
    pub sound : AreSound m f (parameter_names f ++ flat_map block_results bs) (map (λ b. b.name) bs) texts 0 bs
    pub ahead : AreAhead texts 0 [] (parameter_names f ++ flat_map (λ b. b.name ∷ block_results b) bs)

  body_fits : (f : Function) (bs : List Block) → IsSoundBody f bs → BodyFits texts (numbering m) f bs
  body_fits f [] s = absurd (false≢true s.some)
  body_fits f (b ∷ bs) s =
      let rest = flat_map (λ (b : Block). b.name ∷ block_results b) (b ∷ bs) in
      let front = front_ahead texts 0 [] (parameter_names f) rest s.ahead in (
        front.labels,
        front.new,
        blocks_fit m f (parameter_names f ++ flat_map block_results (b ∷ bs)) (map (λ b. b.name) (b ∷ bs)) texts (b ∷ bs) 0 (after_all 0 (parameter_names f)) (with_names [] (parameter_names f)) s.sound (rest_ahead texts 0 [] (parameter_names f) rest s.ahead),
      )

  declared_again : (f : Function) → f.body ≡ None → list_all is_number (parameter_names f) ≡ true → is_numbered_from 0 (parameter_names f) ≡ true → declared f ≡ f
  declared_again f is numbers numbered =
      let made : List Parameter → Option (List Block) → Function = λ ps o. record f { parameters = ps; body = o } in
      ap (λ ps. made ps None) (numbered_again f.parameters 0 numbers numbered) ∙ ap (made f.parameters) (sym is)

  abbrev AllThere : List Tree → Type 0
  AllThere ts = AllByRecursion (λ t. has (mentioned m) t ≡ true) ts

  abbrev Held : List Bytes → Type 0
  Held ts = AllByRecursion (λ t. texts.holds t ≡ true) ts

  parts_fit : (f : Function) (o : Option (List Block)) → f.body ≡ o → option_map_or is_not_empty o true ≡ true → list_all is_local_name (parameter_names f ++ flat_map (λ b. b.name ∷ block_results b) (body o)) ≡ true
      → is_distinct same_local (parameter_names f ++ flat_map (λ b. b.name ∷ block_results b) (body o)) ≡ true
      → is_numbered_from 0 (parameter_names f ++ flat_map (λ b. b.name ∷ block_results b) (body o)) ≡ true → (not (is_none o) || list_all is_number (parameter_names f)) ≡ true
      → AreSound m f (parameter_names f ++ flat_map block_results (body o)) (map (λ b. b.name) (body o)) texts 0 (body o) → Held (flat_map (λ bs. filter_map name_in (names_of_body f bs)) (option_to_list o)) → PartsFit texts (numbering m) f o
  parts_fit f None is some local apart numbered as_declared sound held =
      declared_again f is as_declared (subst (λ (ns : List LocalName). is_numbered_from 0 ns ≡ true) (append-nil (parameter_names f)) numbered)
  parts_fit f (Some bs) is some local apart numbered as_declared sound held =
      let names = names_of_body f bs in
      body_fits f bs (record {
        some = some;
        sound = sound;
        ahead = all_ahead texts names (held_names texts names (front_of (λ t. texts.holds t ≡ true) (filter_map name_in names) [] held)) local numbered apart;
      })

  blocks_there : (o : Option (List Block)) → AllThere (in_some (λ bs. flat_map in_block bs) o) → AllThere (flat_map in_block (body o))
  blocks_there None there = tt
  blocks_there (Some bs) there = there

  function_fits : (f : Function) → is_good_function m f ≡ true → AllHold (function_demands m f) → list_all (is_good_constant m) (flat_map known_of_block (blocks f)) ≡ true → AllThere (in_function f) → Held (texts_of_body f) → FunctionFits texts (numbering m) f
  function_fits f form holds good there held =
      let returns = and_parts (is_good_type m.structs f.returns) _ form in
      let parameters = and_parts (list_all (λ p. is_good_type m.structs p.ty) f.parameters) _ returns.1 in
      let q = and_parts (option_map_or is_not_empty f.body true) (has_good_names f && list_all (is_good_block m) (blocks f)) parameters.1 in
      let r = and_parts (has_good_names f) (list_all (is_good_block m) (blocks f)) q.1 in
      let a = and_parts (list_all is_local_name (local_names f)) _ r.0 in
      let b = and_parts (is_distinct same_local (local_names f)) _ a.1 in
      let c = and_parts (is_numbered_from 0 (local_names f)) _ b.1 in
      let d = and_parts (is_numbered_as_declared f) (knows_its_names f) c.1 in
      let e = and_parts (list_all (has_local (value_names f)) (flat_map locals_of_block (blocks f))) (list_all (has_local (map (λ block. block.name) (blocks f))) (flat_map blocks_of_block (blocks f))) d.1 in
      let types = f.returns ∷ map (λ p. p.ty) f.parameters in
      parts_fit f f.body refl q.0 a.0 b.0 c.0 d.0
      (record {
        form = r.1;
        holds = (valid_blocks m f holds).1;
        good = good;
        known = e.0;
        targets_known = e.1;
        there = blocks_there f.body (rest_of (λ t. has (mentioned m) t ≡ true) types (in_some (λ bs. flat_map in_block bs) f.body) there);
      })
      held

  pub functions_fit : (fs : List Function) → list_all (is_good_function m) fs ≡ true → AllHold (flat_map (function_demands m) fs) → list_all (is_good_constant m) (flat_map (λ f. flat_map known_of_block (blocks f)) fs) ≡ true
      → AllThere (flat_map in_function fs) → Held (flat_map texts_of_body fs) → AllByRecursion (FunctionFits texts (numbering m)) fs
  functions_fit [] form holds good there held = tt
  functions_fit (f ∷ fs) form holds good there held =
      let p = and_parts (is_good_function m f) (list_all (is_good_function m) fs) form in
      let own = flat_map known_of_block (blocks f) in
      let others = flat_map (λ (g : Function). flat_map known_of_block (blocks g)) fs in
      let P = λ (t : Tree). has (mentioned m) t ≡ true in
      let H = λ (t : Bytes). texts.holds t ≡ true in (
        function_fits f p.0 (front_holds (function_demands m f) (flat_map (function_demands m) fs) holds) (all_front (is_good_constant m) own others good)
            (front_of P (in_function f) (flat_map in_function fs) there) (front_of H (texts_of_body f) (flat_map texts_of_body fs) held),
        functions_fit fs p.1 (rest_holds (function_demands m f) (flat_map (function_demands m) fs) holds) (all_rest (is_good_constant m) own others good)
            (rest_of P (in_function f) (flat_map in_function fs) there) (rest_of H (texts_of_body f) (flat_map texts_of_body fs) held),
      )
