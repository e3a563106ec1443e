-- The entries of a checked module can be spelled as they are.
use Rattle.std.proofs.Common.{◌≡◌, ℕ, zero, suc, ◌+◌, ◌<◌, Bool, true, false, ◌&&◌, not, List, [], ◌∷◌, ◌++◌, length, map, flat_map, Option, Some, None, All, get_or, bytes_eq, is_some, inl, inr, refl, ap, ◌∙◌, subst, arith}
use Rattle.std.specs.List.{list_all, list_any, AllByRecursion, IsDistinct}
use Rattle.std.specs.Option.{option_map, option_map_or, option_to_list}
use Rattle.std.proofs.lemmas.Bool.{and_parts, and_from, or_cases, or_left, or_right, or_parts, both_ways, not_from_true, not_from_false, false_from_ne_true, false≢true, not-true}
use Rattle.std.proofs.lemmas.List.{append-nil}
use Rattle.std.proofs.lemmas.Slice.Eq.{bytes_eq-Decides}
use Rattle.std.proofs.lemmas.List.Elements.{All-cons, All-from_recursion}
use Rattle.ir_tables.specs.Table.{is_distinct}
use Rattle.type_table.proofs.Judged.{All-left, All-right}
use Rattle.type_table.specs.Tree.{Tree, Structs}
use Rattle.type_table.specs.Types.{tree, structs}
use Rattle.module_arena.specs.declared.entry.Alias as the_alias
use Rattle.module_arena.specs.declared.entry.AliasType.TheVariants as alias_type
use Rattle.module_arena.specs.declared.entry.Block as the_block
use Rattle.module_arena.specs.declared.entry.Body as the_body
use Rattle.module_arena.specs.declared.entry.Function as the_function
use Rattle.module_arena.specs.declared.entry.GlobalId.{GlobalId}
use Rattle.module_arena.specs.declared.entry.Parameter as the_parameter
use Rattle.module_arena.specs.declared.entry.Variable as the_variable
use Rattle.module_arena.specs.declared.instruction.Inst.{Inst}
use Rattle.module_arena.specs.declared.instruction.Operand as the_operand
use Rattle.module_arena.specs.declared.instruction.Value as the_value
use Rattle.module_arena.specs.declared.instruction.Value.TheVariants as value
use Rattle.module_arena.specs.Constants.{fits}
use Rattle.module_arena.specs.EntryRules.{is_lasting, target_suits}
use Rattle.module_arena.specs.Functions.{blocks}
use Rattle.module_arena.specs.Known.{upto, HasValue, KnowsBlock, KnowsBody, KnowsFunction, IsGood}
use Rattle.module_arena.specs.Lists.{Lists, value_names, function_blocks, name_at}
use Rattle.module_arena.specs.Mentions.{result_of, block_results, end_operands_of}
use Rattle.module_arena.specs.Module as m
use Rattle.module_arena.specs.Module.{LocalName, Bytes}
use Rattle.module_arena.specs.Names as names
use Rattle.module_arena.specs.Names.{has_good_names}
use Rattle.module_arena.specs.Same.{same_local}
use Rattle.module_arena.specs.Valid.{AllHold, IsValid, module_demands, variable_demands, alias_demands, function_demands}
use Rattle.module_arena.specs.View.{module_of}
use Rattle.module_arena.specs.WellFormed.{IsWellFormed, global_names, is_good_constant, known_of_variable, known_of_block}
use Rattle.module_arena.proofs.LocalTypes.{values_distinct}
use Rattle.module_arena.proofs.Parts.{front_holds, rest_holds}
use Rattle.record_table.specs.Standing.{Stands, InstructionStands}
use Rattle.record_write.specs.Operands.Numbered.{constant_of, values_in, labels_in}
use Rattle.record_write.specs.Operands.Wide.{IsBody, KnowsValue}
use Rattle.bitcode_write.specs.Lines.Lines.{instruction_of}
use Rattle.bitcode_write.specs.Entries.{variable_of, alias_of, function_of, block_of, IsVariable, IsAlias, IsBlock, AreEntries}
use Rattle.bitcode_write.proofs.Viewed.{blocks_are, body_is, view_is, count_is, labels_viewed, body_known, values_named}
use Rattle.bitcode_write.proofs.Fitting.{all_front, all_rest, stands}
use Rattle.bitcode_write.proofs.Blocks.{BlockStands, FunctionStands, functions_stand}

-- ---- distinct names

none_same : (x : LocalName) (ys : List LocalName) → list_any (same_local x) ys ≡ false → AllByRecursion (λ (y : LocalName). same_local x y ≡ false) ys
none_same x [] h = tt
none_same x (y ∷ ys) h = let p = or_parts (same_local x y) (list_any (same_local x) ys) h in (p.0, none_same x ys p.1)

are_distinct : (xs : List LocalName) → is_distinct same_local xs ≡ true → IsDistinct same_local xs
unfolding IsDistinct
are_distinct [] h = tt
are_distinct (x ∷ xs) h =
    let p = and_parts (not (list_any (same_local x) xs)) (is_distinct same_local xs) h in
    (none_same x xs (not-true (list_any (same_local x) xs) p.0), are_distinct xs p.1)

-- the first list is the second with some elements left out
data IsPartOf : List LocalName → List LocalName → Type 0 where
  ends : IsPartOf [] []
  keeps : {xs ys : List LocalName} (x : LocalName) → IsPartOf xs ys → IsPartOf (x ∷ xs) (x ∷ ys)
  drops : {xs ys : List LocalName} (y : LocalName) → IsPartOf xs ys → IsPartOf xs (y ∷ ys)

skipping : (zs : List LocalName) {xs ys : List LocalName} → IsPartOf xs ys → IsPartOf xs (zs ++ ys)
skipping [] p = p
skipping (z ∷ zs) p = drops z (skipping zs p)

any_part : (q : LocalName → Bool) {xs ys : List LocalName} → IsPartOf xs ys → list_any q xs ≡ true → list_any q ys ≡ true
any_part q ends h = h
any_part q (keeps {xs = xs} {ys = ys} x p) h = elim (or_cases (q x) (list_any q xs) h) [
  | inl t ↦ or_left (q x) (list_any q ys) t
  | inr t ↦ or_right (q x) (list_any q ys) (any_part q p t)
]
any_part q (drops {ys = ys} y p) h = or_right (q y) (list_any q ys) (any_part q p h)

none_part : (q : LocalName → Bool) {xs ys : List LocalName} → IsPartOf xs ys → not (list_any q ys) ≡ true → not (list_any q xs) ≡ true
none_part q {xs = xs} {ys = ys} p h =
    not_from_false (list_any q xs) (false_from_ne_true (list_any q xs) (λ t. both_ways (not (list_any q ys)) (not_from_true (list_any q ys) (any_part q p t)) h))

distinct_part : {xs ys : List LocalName} → IsPartOf xs ys → is_distinct same_local ys ≡ true → is_distinct same_local xs ≡ true
distinct_part ends h = h
distinct_part (keeps {xs = xs} {ys = ys} x p) h =
    let k = and_parts (not (list_any (same_local x) ys)) (is_distinct same_local ys) h in
    and_from (not (list_any (same_local x) xs)) (is_distinct same_local xs) (none_part (same_local x) p k.0) (distinct_part p k.1)
distinct_part (drops {ys = ys} y p) h = distinct_part p (and_parts (not (list_any (same_local y) ys)) (is_distinct same_local ys) h).1

labels_are_part : (bs : List m.Block) → IsPartOf (map (λ (b : m.Block). b.name) bs) (flat_map (λ (b : m.Block). b.name ∷ names.block_results b) bs)
labels_are_part [] = ends
labels_are_part (b ∷ bs) = keeps b.name (skipping (names.block_results b) (labels_are_part bs))

labels_distinct : (f : m.Function) → has_good_names f ≡ true → is_distinct same_local (map (λ (b : m.Block). b.name) (blocks f)) ≡ true
labels_distinct f h =
    let p = and_parts (list_all names.is_local_name (names.local_names f)) _ h in
    let q = and_parts (is_distinct same_local (names.local_names f)) _ p.1 in
    distinct_part (skipping (names.parameter_names f) (labels_are_part (blocks f))) q.0

-- two lists pass as one
all_both : {A : Type 0} (p : A → Bool) (xs ys : List A) → list_all p xs ≡ true → list_all p ys ≡ true → list_all p (xs ++ ys) ≡ true
all_both p [] ys h k = k
all_both p (x ∷ xs) ys h k = let q = and_parts (p x) (list_all p xs) h in and_from (p x) (list_all p (xs ++ ys)) q.0 (all_both p xs ys q.1 k)

-- ---- the parts of a list that is made of another

unmapped : {A B : Type 0} (P : B → Type 0) (g : A → B) (xs : List A) → AllByRecursion P (map g xs) → AllByRecursion (λ x. P (g x)) xs
unmapped P g [] h = tt
unmapped P g (x ∷ xs) h = (h.0, unmapped P g xs h.1)

-- results are numbered below their end
below : (first count : ℕ) → All (λ (r : ℕ). r < first + count) (upto first count)
unfolding upto
below first zero = λ k d lt. absurd (omega (arith, lt))
below first (suc count) = All-cons (λ (r : ℕ). r < first + suc count) first (upto (first + 1) count) (omega arith) (subst (λ (n : ℕ). All (λ (r : ℕ). r < n) (upto (first + 1) count)) (omega arith) (below (first + 1) count))

module _ (n : ℕ) where
  below_inst : (is : List Inst) → All (λ (r : ℕ). r < n) (flat_map result_of is) → All (λ (i : Inst). All (λ (r : ℕ). r < n) (result_of i)) is
  below_inst [] all = λ k d lt. absurd (omega (arith, lt))
  below_inst (i ∷ is) all =
      All-cons (λ (i : Inst). All (λ (r : ℕ). r < n) (result_of i)) i is (All-left (λ (r : ℕ). r < n) (result_of i) (flat_map result_of is) all)
      (below_inst is (All-right (λ (r : ℕ). r < n) (result_of i) (flat_map result_of is) all))

  below_block : (bs : List the_block.Block) → All (λ (r : ℕ). r < n) (flat_map block_results bs) → All (λ (b : the_block.Block). All (λ (r : ℕ). r < n) (block_results b)) bs
  below_block [] all = λ k d lt. absurd (omega (arith, lt))
  below_block (b ∷ bs) all =
      All-cons (λ (b : the_block.Block). All (λ (r : ℕ). r < n) (block_results b)) b bs (All-left (λ (r : ℕ). r < n) (block_results b) (flat_map block_results bs) all)
      (below_block bs (All-right (λ (r : ℕ). r < n) (block_results b) (flat_map block_results bs) all))

module _ (a : Lists) (f : the_function.Function) where
  known_value : (count : ℕ) (v : the_value.Value) → HasValue (length a.constants) count v → KnowsValue (length a.constants) v
  known_value count (value.Local id) h = tt
  known_value count (value.Known id) h = h

  module _ (b : the_body.Body) (is : f.body ≡ Some b) where
    module _ (known : KnowsFunction (length a.table.types) (length a.constants) f) where
      -- no two values have one name, and no two blocks
      is_body : has_good_names (function_of a f) ≡ true → IsBody a f
      is_body good =
          let labelled : map (λ (x : m.Block). x.name) (blocks (function_of a f)) ≡ labels_in a f =
          ap (map (λ (x : m.Block). x.name)) (view_is a f b is ∙ body_is a f b is) ∙ labels_viewed a f (function_blocks f) in
          record {
            values = are_distinct (values_in a f) (subst (λ (xs : List LocalName). is_distinct same_local xs ≡ true) (values_named a f b is known) (values_distinct (function_of a f) good));
            blocks = are_distinct (labels_in a f) (subst (λ (xs : List LocalName). is_distinct same_local xs ≡ true) labelled (labels_distinct (function_of a f) good));
          }

      are_blocks : FunctionStands (function_of a f) → All (IsBlock a f) b.blocks
      are_blocks standing = λ k d lt.
          let block = get_or b.blocks k d in
          let body = is_body standing.names in
          let own : KnowsBody (length a.table.types) (length a.constants) (length f.parameters) b = body_known a f b is known in
          let all : AllByRecursion (λ (x : the_block.Block). BlockStands (block_of a f x)) b.blocks =
          subst (λ (xs : List the_block.Block). AllByRecursion (λ (x : the_block.Block). BlockStands (block_of a f x)) xs) (blocks_are a f b is)
          (unmapped BlockStands (block_of a f) (function_blocks f) (subst (AllByRecursion BlockStands) (view_is a f b is ∙ body_is a f b is) standing.bodies)) in
          let standing_block : BlockStands (block_of a f block) = All-from_recursion (λ (x : the_block.Block). BlockStands (block_of a f x)) b.blocks all k d lt in
          let here : KnowsBlock (length a.table.types) (length a.constants) (length (value_names f)) (length (function_blocks f)) block = rw (count_is a f b is) (rw (blocks_are a f b is) (own.blocks_known k d lt)) in
          let results : All (λ (r : ℕ). r < length (value_names f)) (flat_map result_of block.instructions) =
          rw (count_is a f b is) (below_block (length f.parameters + length b.results) b.blocks (rw own.in_order (below (length f.parameters) (length b.results))) k d lt) in
          let standing_lines = All-from_recursion (λ (i : Inst). InstructionStands (instruction_of a f i)) block.instructions (unmapped InstructionStands (instruction_of a f) block.instructions standing_block.instructions) in
          record {
            known = λ j e less. record { known = here.instructions_known j e less; result = below_inst (length (value_names f)) block.instructions results j e less };
            lines = λ j e less. record { body = body; stands = standing_lines j e less };
            end_known = λ j e less. let o = here.operands_known j e less in record { ty = o.0; value = known_value (length (value_names f)) (get_or (end_operands_of block.end) j e).value o.1 };
            ending = record { body = body; operands = here.operands_known; targets = here.targets_known; stands = standing_block.ending };
          }

  own_blocks : (o : Option the_body.Body) → f.body ≡ o → KnowsFunction (length a.table.types) (length a.constants) f → FunctionStands (function_of a f) → All (IsBlock a f) (option_map_or (λ (b : the_body.Body). b.blocks) o [])
  own_blocks None is known standing = λ k d lt. absurd (omega (arith, lt))
  own_blocks (Some b) is known standing = are_blocks b is known standing

-- ---- variables and aliases

module _ (a : Lists) (meant : m.Module) where
  initial : (t : Tree) (o : Option ℕ) → option_map_or (fits meant.structs t) (option_map (constant_of a) o) true ≡ true
      → list_all (is_good_constant meant) (map (λ c. (t, c)) (option_to_list (option_map (constant_of a) o))) ≡ true → All (λ (id : ℕ). Stands t (constant_of a id)) (option_to_list o)
  initial t None fit good = λ k d lt. absurd (omega (arith, lt))
  initial t (Some id) fit good =
      let p = and_parts (is_good_constant meant (t, constant_of a id)) true good in
      All-from_recursion (λ (x : ℕ). Stands t (constant_of a x)) (id ∷ []) (stands meant t (constant_of a id) fit (and_parts _ _ p.0).1, tt)

  are_variables : (vs : List the_variable.Variable) → AllHold (flat_map (variable_demands meant) (map (variable_of a) vs)) → list_all (is_good_constant meant) (flat_map known_of_variable (map (variable_of a) vs)) ≡ true → AllByRecursion (IsVariable a) vs
  are_variables [] holds good = tt
  are_variables (v ∷ vs) holds good =
      let here = front_holds (variable_demands meant (variable_of a v)) (flat_map (variable_demands meant) (map (variable_of a) vs)) holds in (
        record {
          alignment = here.1.1.1.1.1.0;
          initialiser = initial (tree a.table v.ty) v.initialiser here.1.1.1.1.1.1.0 (all_front (is_good_constant meant) (known_of_variable (variable_of a v)) (flat_map known_of_variable (map (variable_of a) vs)) good);
        },
        are_variables vs (rest_holds (variable_demands meant (variable_of a v)) (flat_map (variable_demands meant) (map (variable_of a) vs)) holds)
            (all_rest (is_good_constant meant) (known_of_variable (variable_of a v)) (flat_map known_of_variable (map (variable_of a) vs)) good),
      )

any_named : {A : Type 0} (name_of : A → Bytes) (q : A → Bool) (name : Bytes) (xs : List A) (others : List Bytes) → list_any (λ x. bytes_eq (name_of x) name && q x) xs ≡ true → list_any (λ n. bytes_eq n name) (map name_of xs ++ others) ≡ true
any_named name_of q name [] others h = absurd (false≢true h)
any_named name_of q name (x ∷ xs) others h = elim (or_cases (bytes_eq (name_of x) name && q x) (list_any (λ x. bytes_eq (name_of x) name && q x) xs) h) [
  | inl t ↦ or_left (bytes_eq (name_of x) name) _ (and_parts (bytes_eq (name_of x) name) (q x) t).0
  | inr t ↦ or_right (bytes_eq (name_of x) name) _ (any_named name_of q name xs others t)
]

any_behind : (name : Bytes) (ns others : List Bytes) → list_any (λ n. bytes_eq n name) others ≡ true → list_any (λ n. bytes_eq n name) (ns ++ others) ≡ true
any_behind name [] others h = h
any_behind name (n ∷ ns) others h = or_right (bytes_eq n name) _ (any_behind name ns others h)

-- a name that is listed is not empty
none_empty : (ns : List Bytes) → list_all names.is_name ns ≡ true → list_any (λ n. bytes_eq n []) ns ≡ true → ⊥
none_empty [] good h = false≢true h
none_empty (n ∷ ns) good h =
    let p = and_parts (names.is_name n) (list_all names.is_name ns) good in
    elim (or_cases (bytes_eq n []) (list_any (λ n. bytes_eq n []) ns) h) [
      | inl t ↦ false≢true (subst (λ (x : Bytes). names.is_name x ≡ true) ((bytes_eq-Decides n []).0 t) p.0)
      | inr t ↦ none_empty ns p.1 t
    ]

module _ (a : Lists) where
  abbrev variable_names : List Bytes
  variable_names = map (λ (v : m.Variable). v.name) (map (variable_of a) a.variables)

  abbrev function_names : List Bytes
  function_names = map (λ (f : m.Function). f.name) (map (function_of a) a.functions)

  -- a target that suits is a variable or a function
  among_targets : (structs : Structs) (source layout triple : Option Bytes) (aliases : List m.Alias) (t : m.AliasType) (name : Bytes)
      → target_suits (record { source = source; layout = layout; triple = triple; structs = structs; variables = map (variable_of a) a.variables; aliases = aliases; functions = map (function_of a) a.functions }) t name ≡ true
      → list_any (λ n. bytes_eq n name) (variable_names ++ function_names) ≡ true
  among_targets structs source layout triple aliases (m.PlainType ty) name h =
      any_named (λ (v : m.Variable). v.name) (λ v. is_some v.initialiser && is_lasting v.linkage) name (map (variable_of a) a.variables) function_names h
  among_targets structs source layout triple aliases (m.FunctionType s) name h =
      any_behind name variable_names function_names
      (subst (λ (ns : List Bytes). list_any (λ n. bytes_eq n name) ns ≡ true) (append-nil function_names)
      (any_named (λ (f : m.Function). f.name) (λ f. is_some f.body && is_lasting f.linkage) name (map (function_of a) a.functions) [] h))

  is_alias : (x : the_alias.Alias) (o : Option GlobalId) → x.target ≡ o → list_all names.is_name (variable_names ++ function_names) ≡ true
      → list_any (λ n. bytes_eq n (option_map_or (name_at a) o [])) (variable_names ++ function_names) ≡ true → is_some o ≡ true
  is_alias x None is good h = absurd (none_empty (variable_names ++ function_names) good h)
  is_alias x (Some g) is good h = refl

  module _ (good : IsGood a) (well : IsWellFormed (module_of a)) (valid : IsValid (module_of a)) where
    -- what is named is named by names
    good_names : list_all names.is_name (variable_names ++ function_names) ≡ true
    unfolding module_of
    good_names =
        let all = (and_parts (list_all names.is_name (global_names (module_of a))) _ well.global_names).0 in
        let aliases = map (λ (x : m.Alias). x.name) (map (alias_of a) a.aliases) in
        all_both names.is_name variable_names function_names (all_front names.is_name variable_names (aliases ++ function_names) all)
        (all_rest names.is_name aliases function_names (all_rest names.is_name variable_names (aliases ++ function_names) all))

    are_aliases : (xs : List the_alias.Alias) → AllHold (flat_map (alias_demands (module_of a)) (map (alias_of a) xs)) → AllByRecursion (IsAlias a) xs
    unfolding module_of
    are_aliases [] holds = tt
    are_aliases (x ∷ xs) holds =
        let here = front_holds (alias_demands (module_of a) (alias_of a x)) (flat_map (alias_demands (module_of a)) (map (alias_of a) xs)) holds in
        let among = among_targets (structs a.table) a.source a.layout a.triple (map (alias_of a) a.aliases) (alias_of a x).ty (alias_of a x).target
        (and_parts (is_lasting (alias_of a x).linkage) (target_suits (module_of a) (alias_of a x).ty (alias_of a x).target) here.1.1.1.1.1.0).1 in
        (record { some = is_alias x x.target refl good_names among; among = among }, are_aliases xs (rest_holds (alias_demands (module_of a) (alias_of a x)) (flat_map (alias_demands (module_of a)) (map (alias_of a) xs)) holds))

    -- the entries of a checked module
    pub are_entries : AreEntries a
    unfolding module_of
    are_entries =
        let meant = module_of a in
        let later = rest_holds (module_demands meant) _ valid in
        let of_variables = front_holds (flat_map (variable_demands meant) meant.variables) _ later in
        let behind = rest_holds (flat_map (variable_demands meant) meant.variables) (flat_map (alias_demands meant) meant.aliases ++ flat_map (function_demands meant) meant.functions) later in
        let of_aliases = front_holds (flat_map (alias_demands meant) meant.aliases) (flat_map (function_demands meant) meant.functions) behind in
        let of_functions = rest_holds (flat_map (alias_demands meant) meant.aliases) (flat_map (function_demands meant) meant.functions) behind in
        let in_variables = flat_map known_of_variable meant.variables in
        let in_functions = flat_map (λ (f : m.Function). flat_map known_of_block (blocks f)) meant.functions in
        let standing = unmapped FunctionStands (function_of a) a.functions (functions_stand meant meant.functions well.functions of_functions (all_rest (is_good_constant meant) in_variables in_functions well.constants)) in
        record {
          variables = All-from_recursion (IsVariable a) a.variables (are_variables a meant a.variables of_variables (all_front (is_good_constant meant) in_variables in_functions well.constants));
          aliases = All-from_recursion (IsAlias a) a.aliases (are_aliases a.aliases of_aliases);
          functions = λ k d lt. own_blocks a (get_or a.functions k d) (get_or a.functions k d).body refl (good.functions k d lt) (All-from_recursion (λ (f : the_function.Function). FunctionStands (function_of a f)) a.functions standing k d lt);
        }
