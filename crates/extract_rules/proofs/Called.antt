-- What entries of an arena call is what the functions of the module call.
use Rattle.std.proofs.Common.{◌≡◌, ℕ, ◌+◌, Bool, true, false, ◌&&◌, ◌||◌, List, [], ◌∷◌, ◌++◌, map, flat_map, length, Option, Some, None, refl, sym, ap, ◌∙◌, subst, bytes_eq, cond, slice_get, if◌then◌else◌}
use Rattle.std.specs.Prelude.{All, option_to_list}
use Rattle.std.specs.List.{list_any}
use Rattle.std.specs.Option.{option_map, option_map_or}
use Rattle.std.proofs.lemmas.List.Elements.{All-weaker}
use Rattle.std.proofs.lemmas.List.Folds.{list_any-append}
use Rattle.type_table.specs.Types.{trees}
use Rattle.module_arena.specs.declared.constant.Const as the_const
use Rattle.module_arena.specs.declared.constant.Const.TheVariants as const
use Rattle.module_arena.specs.declared.entry.Block as the_block
use Rattle.module_arena.specs.declared.entry.Body as the_body
use Rattle.module_arena.specs.declared.entry.Function as the_function
use Rattle.module_arena.specs.declared.entry.GlobalId.{GlobalId}
use Rattle.module_arena.specs.declared.entry.GlobalId.TheVariants as global
use Rattle.module_arena.specs.declared.instruction.Inst as the_inst
use Rattle.module_arena.specs.declared.instruction.Inst.TheVariants as inst
use Rattle.module_arena.specs.declared.instruction.Value as the_value
use Rattle.module_arena.specs.declared.instruction.Value.TheVariants as value
use Rattle.module_arena.specs.Changes.{constant_in}
use Rattle.module_arena.specs.Known.{AreDistinct, HasGlobal, HasValue, IsGood, KnowsBlock, KnowsBody, KnowsFunction, KnowsInst, counts}
use Rattle.module_arena.specs.Lists.{Lists, name_at}
use Rattle.module_arena.specs.Mentions.{bare_values_of, globals_in}
use Rattle.module_arena.specs.Module.{Bytes, Function, LocalName, Module}
use Rattle.module_arena.specs.View.{module_of, constants_of, local_view, value_view, inst_view, block_view, body_view, function_view}
use Rattle.module_arena.proofs.ConstantsTold.{const_known, constant_here}
use Rattle.extract_rules.specs.Calls.{HasConstant, HasCallees, called_in, called_in_block, called_in_function, called_in_entry, defined_behind, written_in}
use Rattle.extract_rules.specs.Entries.{target_or_own}
use Rattle.extract_rules.specs.Selected.{written_in as written_in_value}
use Rattle.extract_rules.specs.Selected.{is_among, defines_function, behind, written_in_constant, callee_names, callees_in_block, callees_of, called_by}
use Rattle.extract_rules.proofs.Among.{turned_name, any_gathered, any_key, any_same, among_filter}
use Rattle.extract_rules.proofs.Entries.{Looks, all_get, at_one, nowhere, behind_found, looks_at, unmapped}

-- ---- one value

pub is_behind : (a : Lists) → AreDistinct a → (g : GlobalId) → HasGlobal (counts a) g → behind (module_of a) (name_at a g) ≡ target_or_own a g
is_behind a distinct g known = behind_found a (name_at a g) (Some g) (looks_at a distinct g known)

pub defined_yes : (m : Module) (n t : Bytes) → behind m n ≡ t → defines_function m t ≡ true → t ∷ [] ≡ defined_behind m (n ∷ [])
defined_yes m n t e h = sym (ap (λ z. cond (defines_function m z) (z ∷ []) []) e ∙ ap (λ b. cond b (t ∷ []) []) h)

pub defined_no : (m : Module) (n t : Bytes) → behind m n ≡ t → defines_function m t ≡ false → [] ≡ defined_behind m (n ∷ [])
defined_no m n t e h = sym (ap (λ z. cond (defines_function m z) (z ∷ []) []) e ∙ ap (λ b. cond b (t ∷ []) []) h)

not_address : (a : Lists) (c : the_const.Const) → ((g : GlobalId) → c ≡ const.Address g → ⊥) → written_in_constant (constant_in a c) ≡ []
not_address a (const.Address g) bad = absurd (bad g refl)
not_address a (const.Integer number) bad = refl
not_address a (const.Truth truth) bad = refl
not_address a const.Null bad = refl
not_address a const.Undef bad = refl
not_address a const.Poison bad = refl
not_address a const.ZeroInitializer bad = refl
not_address a (const.ByteString bytes) bad = refl
not_address a (const.Aggregate round elements) bad = refl
not_address a (const.ElementAddress flags address) bad = refl
not_address a (const.Cast opcode operand to) bad = refl
not_address a (const.Binary opcode flags pair) bad = refl

module _ (a : Lists) (good : IsGood a) (v : the_value.Value) (id : ℕ) (is : v ≡ value.Known id) (c : the_const.Const) (at : slice_get a.constants id ≡ Some c) where
  pub called_none : ((g : GlobalId) → c ≡ const.Address g → ⊥) → [] ≡ defined_behind (module_of a) (written_in a v)
  called_none bad = sym (ap (λ (w : the_value.Value). defined_behind (module_of a) (written_in a w)) is ∙ ap (λ k. defined_behind (module_of a) (written_in_constant k)) (constant_here a good id c at) ∙ ap (defined_behind (module_of a)) (not_address a c bad))

  pub called_one : (g : GlobalId) → c ≡ const.Address g → defined_behind (module_of a) (name_at a g ∷ []) ≡ defined_behind (module_of a) (written_in a v)
  called_one g e = sym (ap (λ (w : the_value.Value). defined_behind (module_of a) (written_in a w)) is ∙ ap (λ k. defined_behind (module_of a) (written_in_constant k)) (constant_here a good id c at ∙ ap (constant_in a) e))

  pub address_known : (g : GlobalId) → c ≡ const.Address g → HasGlobal (counts a) g
  address_known g e = all_get (HasGlobal (counts a)) (globals_in c) 0 g (const_known a good id c at).globals_known (ap (λ (x : the_const.Const). slice_get (globals_in x) 0) e)

-- ---- what is known of bodies

value_known : (constants values : ℕ) (v : the_value.Value) → HasValue constants values v → HasConstant constants v
value_known constants values (value.Known id) h = h
value_known constants values (value.Local id) h = tt

pub callees_known : (a : Lists) → IsGood a → (k : ℕ) (f : the_function.Function) (b : the_body.Body) (xs : List the_block.Block) → slice_get a.functions k ≡ Some f → f.body ≡ Some b → xs ≡ b.blocks → All (HasCallees (length a.constants)) xs
callees_known a good k f b xs at is same =
    subst (All (HasCallees (length a.constants))) (sym same)
    (All-weaker (KnowsBlock types constants values blocks) (HasCallees constants)
    (λ block known. All-weaker (KnowsInst types constants values blocks) (λ i. All (HasConstant constants) (bare_values_of i))
    (λ i knows. All-weaker (HasValue constants values) (HasConstant constants) (value_known constants values) (bare_values_of i) knows.values_known)
    block.instructions known.instructions_known)
    b.blocks body.blocks_known)
  where
    types : ℕ
    types = length a.table.types

    constants : ℕ
    constants = length a.constants

    body : KnowsBody types constants (length f.parameters) b
    body =
        all_get (KnowsBody types constants (length f.parameters)) (option_to_list f.body) 0 b
        (all_get (KnowsFunction types constants) a.functions k f good.functions at).body_known (ap (λ (o : Option the_body.Body). slice_get (option_to_list o) 0) is)

    values : ℕ
    values = length f.parameters + length b.results

    blocks : ℕ
    blocks = length b.blocks

-- ---- bodies as the module has them

module _ (a : Lists) where
  abbrev m : Module
  m = module_of a

  -- one of the functions with bodies that some names stand for
  abbrev Behind : Bytes → List Bytes → Bool
  Behind n names = defines_function m n && is_among (map (behind m) names) n

  among_behind : (names : List Bytes) (n : Bytes) → is_among (defined_behind m names) n ≡ Behind n names
  among_behind names n = among_filter (defines_function m) (map (behind m) names) n

  none_behind : (n : Bytes) → false ≡ Behind n []
  none_behind n = go (defines_function m n)
    where
      go : (b : Bool) → false ≡ (b && false)
      go true = refl
      go false = refl

  both_behind : (n : Bytes) (xs ys : List Bytes) → (Behind n xs || Behind n ys) ≡ Behind n (xs ++ ys)
  both_behind n xs ys = shared (defines_function m n) _ _ ∙ ap (λ b. defines_function m n && b) (sym (list_any-append (bytes_eq n) (map (behind m) xs) (map (behind m) ys)) ∙ ap (λ l. is_among l n) (sym (mapped xs)))
    where
      shared : (t p q : Bool) → ((t && p) || (t && q)) ≡ (t && (p || q))
      shared true p q = refl
      shared false p q = refl

      mapped : (zs : List Bytes) → map (behind m) (zs ++ ys) ≡ map (behind m) zs ++ map (behind m) ys
      mapped [] = refl
      mapped (z ∷ zs) = ap (λ l. behind m z ∷ l) (mapped zs)

  module _ (values blocks : List LocalName) where
    abbrev seen : the_inst.Inst → List Bytes
    seen i = callee_names (inst_view (trees a.table) (constants_of a) values blocks i).operation

    inst_called : (i : the_inst.Inst) (n : Bytes) → is_among (called_in a i) n ≡ Behind n (seen i)
    inst_called (inst.Call call) n = among_behind (written_in a call.callee) n ∙ by call.callee
      where
        by : (v : the_value.Value) → Behind n (written_in a v) ≡ Behind n (written_in_value (value_view (trees a.table) (constants_of a) values blocks v))
        by (value.Known id) = refl
        by (value.Local id) = refl
    inst_called (inst.Binary opcode flags result left right) n = none_behind n
    inst_called (inst.Compare flags predicate result left right) n = none_behind n
    inst_called (inst.Convert opcode flags result operand to) n = none_behind n
    inst_called (inst.Select result choice) n = none_behind n
    inst_called (inst.Freeze result operand) n = none_behind n
    inst_called (inst.Phi result ty incoming) n = none_behind n
    inst_called (inst.Load flags result ty address alignment) n = none_behind n
    inst_called (inst.Store flags stored address alignment) n = none_behind n
    inst_called (inst.Alloca result ty count alignment) n = none_behind n
    inst_called (inst.GetElementPtr flags result source base indices) n = none_behind n
    inst_called (inst.ExtractValue result aggregate indices) n = none_behind n
    inst_called (inst.InsertValue result insertion) n = none_behind n

    insts_called : (is : List the_inst.Inst) (n : Bytes) → is_among (flat_map (called_in a) is) n ≡ Behind n (flat_map (λ i. callee_names i.operation) (map (inst_view (trees a.table) (constants_of a) values blocks) is))
    insts_called [] n = none_behind n
    insts_called (i ∷ is) n =
        list_any-append (bytes_eq n) (called_in a i) (flat_map (called_in a) is)
        ∙ ap (λ b. b || is_among (flat_map (called_in a) is) n) (inst_called i n)
        ∙ ap (λ b. Behind n (seen i) || b) (insts_called is n)
        ∙ both_behind n (seen i) (flat_map (λ i. callee_names i.operation) (map (inst_view (trees a.table) (constants_of a) values blocks) is))

    blocks_called : (bs : List the_block.Block) (n : Bytes) → is_among (flat_map (called_in_block a) bs) n ≡ Behind n (flat_map callees_in_block (map (block_view (trees a.table) (constants_of a) values blocks) bs))
    blocks_called [] n = none_behind n
    blocks_called (b ∷ bs) n =
        list_any-append (bytes_eq n) (called_in_block a b) (flat_map (called_in_block a) bs)
        ∙ ap (λ c. c || is_among (flat_map (called_in_block a) bs) n) (insts_called b.instructions n)
        ∙ ap (λ c. Behind n (callees_in_block (block_view (trees a.table) (constants_of a) values blocks b)) || c) (blocks_called bs n)
        ∙ both_behind n (callees_in_block (block_view (trees a.table) (constants_of a) values blocks b)) (flat_map callees_in_block (map (block_view (trees a.table) (constants_of a) values blocks) bs))

  function_called : (f : the_function.Function) (n : Bytes) → is_among (called_in_function a f) n ≡ Behind n (callees_of (function_view (trees a.table) (constants_of a) f))
  function_called f n = go f.body
    where
      go : (o : Option the_body.Body) → is_among (option_map_or (λ b. flat_map (called_in_block a) b.blocks) o []) n
          ≡ Behind n (option_map_or (flat_map callees_in_block) (option_map (body_view (trees a.table) (constants_of a) (map (λ p. local_view p.name) f.parameters)) o) [])
      go None = none_behind n
      go (Some b) = blocks_called (map (λ p. local_view p.name) f.parameters ++ map local_view b.results) (map (λ block. local_view block.name) b.blocks) b.blocks n

  -- ---- by names

  abbrev calls_it : Bytes → the_function.Function → Bool
  calls_it n f = is_among (map (behind m) (callees_of (function_view (trees a.table) (constants_of a) f))) n

  called_any : (x n : Bytes) → is_among (called_by m (x ∷ [])) n ≡ list_any (λ f. bytes_eq x f.name && calls_it n f) a.functions
  unfolding module_of
  called_any x n =
      any_gathered (bytes_eq n) (λ (f : Function). if is_among (x ∷ []) f.name then map (behind m) (callees_of f) else []) m.functions
      ∙ any_key (function_view (trees a.table) (constants_of a)) (λ (f : Function). is_among (if is_among (x ∷ []) f.name then map (behind m) (callees_of f) else []) n) a.functions
      ∙ any_same (λ (f : the_function.Function). is_among (if is_among (x ∷ []) f.name then map (behind m) (callees_of (function_view (trees a.table) (constants_of a) f)) else []) n) (λ f. bytes_eq x f.name && calls_it n f) a.functions each
    where
      each : (f : the_function.Function) → is_among (if is_among (x ∷ []) f.name then map (behind m) (callees_of (function_view (trees a.table) (constants_of a) f)) else []) n ≡ (bytes_eq x f.name && calls_it n f)
      each f = ap (λ b. is_among (if b || false then map (behind m) (callees_of (function_view (trees a.table) (constants_of a) f)) else []) n) (turned_name f.name x) ∙ go (bytes_eq x f.name)
        where
          go : (b : Bool) → is_among (if b || false then map (behind m) (callees_of (function_view (trees a.table) (constants_of a) f)) else []) n ≡ (b && calls_it n f)
          go true = refl
          go false = refl

  function_id : (x : Bytes) (o : Option GlobalId) → Looks a x o → (j : ℕ) (y : the_function.Function) → slice_get a.functions j ≡ Some y → y.name ≡ x → o ≡ Some (global.Function j)
  function_id x o looks j y at same = (looks (global.Function j)).1 (ap (option_map (λ f. f.name)) at ∙ ap Some same)

  -- what the entry of a name calls
  pub looked_called : (x : Bytes) (o : Option GlobalId) → Looks a x o → (n : Bytes) → is_among (option_map_or (called_in_entry a) o []) n ≡ (defines_function m n && is_among (called_by m (x ∷ [])) n)
  looked_called x o looks n = go o refl ∙ ap (λ b. defines_function m n && b) (sym (called_any x n))
    where
      nothing : ((j : ℕ) (y : the_function.Function) → slice_get a.functions j ≡ Some y → y.name ≡ x → ⊥) → false ≡ (defines_function m n && list_any (λ f. bytes_eq x f.name && calls_it n f) a.functions)
      nothing bad = none_behind n ∙ ap (λ b. defines_function m n && b) (sym (nowhere (λ f. f.name) (calls_it n) x a.functions bad))

      by : (g : GlobalId) → o ≡ Some g → is_among (called_in_entry a g) n ≡ (defines_function m n && list_any (λ f. bytes_eq x f.name && calls_it n f) a.functions)
      by (global.Variable k) e = nothing (λ j y at same. let f = function_id x o looks j y at same in cc)
      by (global.Alias k) e = nothing (λ j y at same. let f = function_id x o looks j y at same in cc)
      by (global.Function k) e =
          let f = unmapped (λ f. f.name) (slice_get a.functions k) x ((looks (global.Function k)).0 e) in
          ap (λ s. is_among (option_map_or (called_in_function a) s []) n) f.1 ∙ function_called f.0 n
          ∙ ap (λ b. defines_function m n && b) (sym (at_one (λ f. f.name) (calls_it n) x a.functions k f.0 f.1 f.2 (λ j y at same. let g = function_id x o looks j y at same in cc)))

      go : (p : Option GlobalId) → o ≡ p → is_among (option_map_or (called_in_entry a) p []) n ≡ (defines_function m n && list_any (λ f. bytes_eq x f.name && calls_it n f) a.functions)
      go None e = nothing (λ j y at same. let f = function_id x o looks j y at same in cc)
      go (Some g) e = by g e
