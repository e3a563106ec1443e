-- A function is put as a declaration or as a definition of its blocks.
use Rattle.std.proofs.Common.{◌≡◌, ℕ, zero, suc, ◌+◌, ◌<◌, List, [], ◌∷◌, ◌++◌, codes, map, flat_map, length, Option, Some, None, All, get_or, subst, refl, sym, ap, ◌∙◌, arith}
use Rattle.std.specs.Option.{option_map, option_map_or, option_to_list}
use Rattle.std.proofs.lemmas.List.{map-append, length-map, length-append}
use Rattle.std.proofs.lemmas.List.Elements.{All-cons, All-head}
use Rattle.type_table.proofs.Judged.{All-left, All-right}
use Rattle.type_table.specs.Types.{Types, trees, tree}
use Rattle.module_arena.specs.declared.entry.Block as the_block
use Rattle.module_arena.specs.declared.entry.Body as the_body
use Rattle.module_arena.specs.declared.entry.Function as the_function
use Rattle.module_arena.specs.declared.entry.Parameter as the_parameter
use Rattle.module_arena.specs.declared.instruction.Inst.{Inst}
use Rattle.module_arena.specs.Known.{upto, KnowsBlock, KnowsBody, KnowsFunction}
use Rattle.module_arena.specs.Lists.{Lists, value_names, function_blocks}
use Rattle.module_arena.specs.Mentions.{result_of, block_results}
use Rattle.module_arena.specs.Module as m
use Rattle.module_arena.specs.Module.{LocalName}
use Rattle.module_arena.specs.View.{constants_of, local_view, parameter_view, block_view, body_view}
use Rattle.canonical.specs.Canonical.{function_phrase, function_phrase_by, body_of_blocks}
use Rattle.canonical.specs.Operations.{dotted}
use Rattle.canonical.specs.Phrase.{Phrase, word, ◌␣◌, ◌⌢◌, in_parentheses, listed}
use Rattle.canonical.specs.Types.{type_phrase}
use Rattle.ir_printer.specs.Instructions.Named.{values_in}
use Rattle.ir_printer.specs.Listed.{head_of, parameter_list}
use Rattle.ir_printer.specs.Blocks.{HasBlock, block_of}
use Rattle.ir_printer.specs.Functions.{function_of, declared_phrase, defined_phrase}

-- the types of the parameters are those that the module has
types_viewed : (t : Types) (ps : List the_parameter.Parameter) → map (λ (p : m.Parameter). type_phrase p.ty) (map (parameter_view (trees t)) ps) ≡ map (λ (p : the_parameter.Parameter). type_phrase (tree t p.ty)) ps
types_viewed t [] = refl
types_viewed t (p ∷ ps) = ap (λ (xs : List Phrase). type_phrase (tree t p.ty) ∷ xs) (types_viewed t ps)

-- what the parameters are called
names_viewed : (ps : List the_parameter.Parameter) → map (λ (p : the_parameter.Parameter). local_view p.name) ps ≡ map local_view (map (λ (p : the_parameter.Parameter). p.name) ps)
names_viewed [] = refl
names_viewed (p ∷ ps) = ap (λ (xs : List LocalName). local_view p.name ∷ xs) (names_viewed ps)

-- results are numbered below their end
below : (first count : ℕ) → All (λ (r : ℕ). r < first + count) (upto first count)
unfolding upto
below first zero = λ k d lt. absurd (omega (arith, lt))
below first (suc count) = All-cons (λ (r : ℕ). r < first + suc count) first (upto (first + 1) count) (omega arith) (subst (λ (n : ℕ). All (λ (r : ℕ). r < n) (upto (first + 1) count)) (omega arith) (below (first + 1) count))

module _ (n : ℕ) where
  -- each result of each instruction is
  below_inst : (is : List Inst) → All (λ (r : ℕ). r < n) (flat_map result_of is) → All (λ (i : Inst). All (λ (r : ℕ). r < n) (result_of i)) is
  below_inst [] all = λ k d lt. absurd (omega (arith, lt))
  below_inst (i ∷ is) all =
      All-cons (λ (i : Inst). All (λ (r : ℕ). r < n) (result_of i)) i is (All-left (λ (r : ℕ). r < n) (result_of i) (flat_map result_of is) all)
      (below_inst is (All-right (λ (r : ℕ). r < n) (result_of i) (flat_map result_of is) all))

  below_block : (bs : List the_block.Block) → All (λ (r : ℕ). r < n) (flat_map block_results bs) → All (λ (b : the_block.Block). All (λ (r : ℕ). r < n) (block_results b)) bs
  below_block [] all = λ k d lt. absurd (omega (arith, lt))
  below_block (b ∷ bs) all =
      All-cons (λ (b : the_block.Block). All (λ (r : ℕ). r < n) (block_results b)) b bs (All-left (λ (r : ℕ). r < n) (block_results b) (flat_map block_results bs) all)
      (below_block bs (All-right (λ (r : ℕ). r < n) (block_results b) (flat_map block_results bs) all))

module _ (a : Lists) (f : the_function.Function) where
  -- without a body it is a declaration
  pub declared : f.body ≡ None → function_phrase (function_of a f) ≡ declared_phrase a f
  declared is =
      ap (λ (o : Option the_body.Body). function_phrase_by (function_of a f) (option_map (body_view (trees a.table) (constants_of a) (map (λ (p : the_parameter.Parameter). local_view p.name) f.parameters)) o)) is
      ∙ ap (λ (ps : List Phrase). word (codes "declare") ␣ head_of a.table f ⌢ in_parentheses (listed (dotted ps f.variadic))) (types_viewed a.table f.parameters)

  module _ (b : the_body.Body) (is : f.body ≡ Some b) where
    -- what its values and its blocks are called
    values_are : values_in f ≡ map (λ (p : the_parameter.Parameter). local_view p.name) f.parameters ++ map local_view b.results
    values_are =
        ap (λ (o : Option the_body.Body). map local_view (map (λ (p : the_parameter.Parameter). p.name) f.parameters ++ option_map_or (λ (b : the_body.Body). b.results) o [])) is
        ∙ map-append local_view (map (λ (p : the_parameter.Parameter). p.name) f.parameters) b.results
        ∙ ap (λ (xs : List LocalName). xs ++ map local_view b.results) (sym (names_viewed f.parameters))

    pub blocks_are : function_blocks f ≡ b.blocks
    blocks_are = ap (λ (o : Option the_body.Body). option_map_or (λ (b : the_body.Body). b.blocks) o []) is

    body_is : body_view (trees a.table) (constants_of a) (map (λ (p : the_parameter.Parameter). local_view p.name) f.parameters) b ≡ map (block_of a f) (function_blocks f)
    body_is =
        (λ j. map (block_view (trees a.table) (constants_of a) (sym values_are j) (map (λ (x : the_block.Block). local_view x.name) b.blocks)) b.blocks)
        ∙ (λ j. map (block_view (trees a.table) (constants_of a) (values_in f) (map (λ (x : the_block.Block). local_view x.name) (sym blocks_are j))) (sym blocks_are j))

    -- with a body it is a definition
    pub defined : function_phrase (function_of a f) ≡ defined_phrase a f
    defined =
        ap (λ (o : Option the_body.Body). function_phrase_by (function_of a f) (option_map (body_view (trees a.table) (constants_of a) (map (λ (p : the_parameter.Parameter). local_view p.name) f.parameters)) o)) is
        ∙ ap (λ (bs : List m.Block). word (codes "define") ␣ head_of a.table f ⌢ in_parentheses (listed (parameter_list a.table f.parameters)) ␣ body_of_blocks bs) body_is

    count_is : length (value_names f) ≡ length f.parameters + length b.results
    count_is =
        ap (λ (o : Option the_body.Body). length (map (λ (p : the_parameter.Parameter). p.name) f.parameters ++ option_map_or (λ (b : the_body.Body). b.results) o [])) is
        ∙ omega (arith, length-append (map (λ (p : the_parameter.Parameter). p.name) f.parameters) b.results, length-map f.parameters (λ (p : the_parameter.Parameter). p.name))

    -- the ids in its blocks are those of the arena and of the function
    pub has_blocks : KnowsFunction (length a.table.types) (length a.constants) f → All (HasBlock a f) b.blocks
    has_blocks known = λ k d lt.
        let block = get_or b.blocks k d in
        let body : KnowsBody (length a.table.types) (length a.constants) (length f.parameters) b =
        All-head (KnowsBody (length a.table.types) (length a.constants) (length f.parameters)) b [] (subst (λ (o : Option the_body.Body). All (KnowsBody (length a.table.types) (length a.constants) (length f.parameters)) (option_to_list o)) is known.body_known) in
        let here : KnowsBlock (length a.table.types) (length a.constants) (length (value_names f)) (length (function_blocks f)) block =
        rw count_is (rw blocks_are (body.blocks_known k d lt)) in
        let results : All (λ (r : ℕ). r < length (value_names f)) (flat_map result_of block.instructions) =
        rw count_is (below_block (length f.parameters + length b.results) b.blocks (rw body.in_order (below (length f.parameters) (length b.results))) k d lt) in
        record {
          instructions = λ j e less. record { known = here.instructions_known j e less; result = below_inst (length (value_names f)) block.instructions results j e less };
          operands = here.operands_known;
          targets = here.targets_known;
        }
