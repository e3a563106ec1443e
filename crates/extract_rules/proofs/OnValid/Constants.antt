-- The constants that are extracted are good: each entry that one names is kept or declared.
use Rattle.std.proofs.Common.{◌≡◌, Bool, true, false, not, ◌&&◌, ◌⊎◌, inl, inr, List, [], ◌∷◌, ◌++◌, map, filter, filter_map, flat_map, Option, Some, None, refl, sym, ap, ◌∙◌, subst, bytes_eq, if◌then◌else◌}
use Rattle.std.specs.Prelude.{⊤, option_to_list}
use Rattle.std.specs.List.{cons_option, list_any, list_all, AllByRecursion}
use Rattle.std.specs.Option.{option_map_or}
use Rattle.std.proofs.lemmas.Bool.{and_from, and_parts, or_left, or_right, or_cases}
use Rattle.std.proofs.lemmas.Option.{same_Some}
use Rattle.std.proofs.lemmas.List.Folds.{list_any-append}
use Rattle.ir_tables.specs.declared.linkage.Linkage.{Linkage}
use Rattle.ir_tables.specs.declared.linkage.Linkage.TheVariants.{External, Private, Internal, Common, Appending, ExternWeak, AvailableExternally, Linkonce, LinkonceOdr, Weak, WeakOdr}
use Rattle.type_table.specs.Tree.{Tree, int, ptr, void, array, struct, named}
use Rattle.module_arena.specs.Module.{Bytes, Constant, Constants, Value, Operand, Incoming, Operation, Case, Ending, Instruction, Block, Variable, AliasType, PlainType, FunctionType, Alias, Function, Module}
use Rattle.module_arena.specs.Module.Brackets.{Square}
use Rattle.module_arena.specs.Module.Constant.{Integer, Truth, Null, Undef, Poison, ZeroInitializer, Address, ByteString, Aggregate, ElementAddress, Cast, Binary}
use Rattle.module_arena.specs.Module.Constants.{no_constants, more_constants}
use Rattle.module_arena.specs.Module.Value.{Local, Known}
use Rattle.module_arena.specs.Module.Operation.{BinaryOperation, Compare, Convert, Select, Freeze, Phi, Load, Store, Alloca, GetElementPtr, Call, ExtractValue, InsertValue}
use Rattle.module_arena.specs.Module.Ending.{ReturnVoid, Return, Jump, Branch, Switch, Unreachable}
use Rattle.module_arena.specs.Constants.{Typed, constants_in, constants_of}
use Rattle.module_arena.specs.Functions.{blocks, body, variable_names, alias_names, function_names}
use Rattle.module_arena.specs.Operations.{operands, ending_operands, callee, incoming_operand, case_operand}
use Rattle.module_arena.specs.UsedNames.{names_in_constant, names_in_constants, names_in_value, names_in_operand, names_in_incoming, names_in_operation, names_in_instruction, names_in_case, names_in_ending, names_in_block, names_in_variable, names_in_function}
use Rattle.module_arena.specs.WellFormed.{IsWellFormed, has_entry, is_good_type, is_good_part, is_good_constant, is_good_variable, known_in, known_of_operands, known_of_operation, known_of_block, known_of_variable, module_constants}
use Rattle.extract_rules.specs.declared.selection.Selection.{Selection}
use Rattle.extract_rules.specs.Selected.{is_among, keeps_variable, keeps_function, keeps_alias}
use Rattle.extract_rules.specs.Extracted.{kept_names, kept_linkage, without_elements, declared_variable, declared_function, extracted_variable, extracted_function, extracted_alias, alias_as_variable, alias_as_function, declared_aliases, Extracted}
use Rattle.extract_rules.proofs.Among.{name_self, name_exact, any_key}
use Rattle.extract_rules.proofs.Closure.{all_follow}
use Rattle.extract_rules.proofs.OnValid.Gathered.{all_parts, all_both, all_gathered, gathered_all, made_all, both_all, gathered, any_split, any_filtered}
use Rattle.extract_rules.proofs.OnValid.GoodVariables.{without_good}
use Rattle.extract_rules.proofs.OnValid.Kept.{made_any, any_front, any_back, either}
use Rattle.extract_rules.proofs.OnValid.Lists.{all_units, all_tests, all_of_append}

module _ (m : Module) (s : Selection) where
  abbrev n : Module
  n = Extracted m s

  -- each of the names is in a kept definition
  abbrev AllAmong : List Bytes → Type 0
  AllAmong names = (name : Bytes) → is_among names name ≡ true → is_among (kept_names m s) name ≡ true

  in_front : (xs ys : List Bytes) → AllAmong (xs ++ ys) → AllAmong xs
  in_front xs ys a name h = a name (any_front (bytes_eq name) xs ys h)

  behind_it : (xs ys : List Bytes) → AllAmong (xs ++ ys) → AllAmong ys
  behind_it xs ys a name h = a name (any_back (bytes_eq name) xs ys h)

  each_among : {X : Type 0} (f : X → List Bytes) (xs : List X) → AllAmong (flat_map f xs) → AllByRecursion (λ x. AllAmong (f x)) xs
  each_among f [] a = tt
  each_among f (x ∷ xs) a = (in_front (f x) (flat_map f xs) a, each_among f xs (behind_it (f x) (flat_map f xs) a))

  -- ---- each entry that is named is there

  abbrev kept_variables : List Variable
  kept_variables = filter_map (extracted_variable m s) m.variables

  abbrev alias_variables : List Variable
  alias_variables = filter_map (λ (a : Alias). alias_as_variable m a.name a.target a.ty) (declared_aliases m s)

  abbrev kept_functions : List Function
  kept_functions = filter_map (extracted_function m s) m.functions

  abbrev alias_functions : List Function
  alias_functions = filter_map (λ (a : Alias). alias_as_function a.name a.ty) (declared_aliases m s)

  declared_name : (l : Linkage) (v : Variable) → (declared_variable l v).name ≡ v.name
  declared_name External v = refl
  declared_name Private v = refl
  declared_name Internal v = refl
  declared_name Common v = refl
  declared_name Appending v = refl
  declared_name ExternWeak v = refl
  declared_name AvailableExternally v = refl
  declared_name Linkonce v = refl
  declared_name LinkonceOdr v = refl
  declared_name Weak v = refl
  declared_name WeakOdr v = refl

  module _ (name : Bytes) (among : is_among (kept_names m s) name ≡ true) where
    named_too : (other : Bytes) → bytes_eq name other ≡ true → is_among (kept_names m s) other ≡ true
    named_too other e = subst (λ z. is_among (kept_names m s) z ≡ true) (name_exact name other e) among

    variable_stays : (v : Variable) → bytes_eq name v.name ≡ true → (w : Variable) × (extracted_variable m s v ≡ Some w) × (bytes_eq name w.name ≡ true)
    variable_stays v e = by (keeps_variable m s v) refl
      where
        by : (b : Bool) → keeps_variable m s v ≡ b → (w : Variable) × (extracted_variable m s v ≡ Some w) × (bytes_eq name w.name ≡ true)
        by true k = (
          record v { linkage = kept_linkage v.linkage },
          ap (λ b. if b then Some (record v { linkage = kept_linkage v.linkage }) else (if is_among (kept_names m s) v.name then Some (declared_variable v.linkage v) else None)) k,
          e,
        )
        by false k = (
          declared_variable v.linkage v,
          ap (λ b. if b then Some (record v { linkage = kept_linkage v.linkage }) else (if is_among (kept_names m s) v.name then Some (declared_variable v.linkage v) else None)) k
              ∙ ap (λ c. if c then Some (declared_variable v.linkage v) else None) (named_too v.name e),
          ap (bytes_eq name) (declared_name v.linkage v) ∙ e,
        )

    function_stays : (f : Function) → bytes_eq name f.name ≡ true → (g : Function) × (extracted_function m s f ≡ Some g) × (bytes_eq name g.name ≡ true)
    function_stays f e = by (keeps_function m s f) refl
      where
        by : (b : Bool) → keeps_function m s f ≡ b → (g : Function) × (extracted_function m s f ≡ Some g) × (bytes_eq name g.name ≡ true)
        by true k = (
          record f { linkage = kept_linkage f.linkage },
          ap (λ b. if b then Some (record f { linkage = kept_linkage f.linkage }) else (if is_among (kept_names m s) f.name then Some (declared_function f) else None)) k,
          e,
        )
        by false k = (
          declared_function f,
          ap (λ b. if b then Some (record f { linkage = kept_linkage f.linkage }) else (if is_among (kept_names m s) f.name then Some (declared_function f) else None)) k
              ∙ ap (λ c. if c then Some (declared_function f) else None) (named_too f.name e),
          e,
        )

    as_variable : list_any (λ (v : Variable). bytes_eq name v.name) n.variables ≡ true → has_entry n name ≡ true
    as_variable h = any_front (bytes_eq name) (variable_names n) (alias_names n ++ function_names n) (any_key (λ (v : Variable). v.name) (bytes_eq name) n.variables ∙ h)

    as_alias : list_any (λ (a : Alias). bytes_eq name a.name) n.aliases ≡ true → has_entry n name ≡ true
    as_alias h =
        any_back (bytes_eq name) (variable_names n) (alias_names n ++ function_names n)
        (any_front (bytes_eq name) (alias_names n) (function_names n) (any_key (λ (a : Alias). a.name) (bytes_eq name) n.aliases ∙ h))

    as_function : list_any (λ (f : Function). bytes_eq name f.name) n.functions ≡ true → has_entry n name ≡ true
    as_function h =
        any_back (bytes_eq name) (variable_names n) (alias_names n ++ function_names n)
        (any_back (bytes_eq name) (alias_names n) (function_names n) (any_key (λ (f : Function). f.name) (bytes_eq name) n.functions ∙ h))

    abbrev declares : Alias → Bool
    declares a = not (keeps_alias m s a) && is_among (kept_names m s) a.name

    alias_kept : (a : Alias) → (bytes_eq name a.name && keeps_alias m s a) ≡ true → (b : Alias) × (extracted_alias m s a ≡ Some b) × (bytes_eq name b.name ≡ true)
    alias_kept a e =
        let both = and_parts (bytes_eq name a.name) _ e in
        (record a { linkage = kept_linkage a.linkage }, ap (λ b. if b then Some (record a { linkage = kept_linkage a.linkage }) else None) both.1, both.0)

    -- an alias that is declared is a variable or a function
    declared_there : (as_ : List Alias) → list_any (λ (a : Alias). bytes_eq name a.name) as_ ≡ true
        → (list_any (λ (v : Variable). bytes_eq name v.name) (filter_map (λ (a : Alias). alias_as_variable m a.name a.target a.ty) as_) ≡ true)
        ⊎ (list_any (λ (f : Function). bytes_eq name f.name) (filter_map (λ (a : Alias). alias_as_function a.name a.ty) as_) ≡ true)
    declared_there [] h = cc
    declared_there (a ∷ as_) h = go a.ty (or_cases (bytes_eq name a.name) _ h) (declared_there as_)
      where
        vs : List Variable
        vs = filter_map (λ (a : Alias). alias_as_variable m a.name a.target a.ty) as_

        fs : List Function
        fs = filter_map (λ (a : Alias). alias_as_function a.name a.ty) as_

        Found : AliasType → Type 0
        Found t =
            (list_any (λ (v : Variable). bytes_eq name v.name) (cons_option (alias_as_variable m a.name a.target t) vs) ≡ true)
            ⊎ (list_any (λ (f : Function). bytes_eq name f.name) (cons_option (alias_as_function a.name t) fs) ≡ true)

        later : (t : AliasType) → (list_any (λ (v : Variable). bytes_eq name v.name) vs ≡ true) ⊎ (list_any (λ (f : Function). bytes_eq name f.name) fs ≡ true) → Found t
        later (PlainType t) (inl e) = inl (or_right (bytes_eq name a.name) _ e)
        later (PlainType t) (inr e) = inr e
        later (FunctionType signature) (inl e) = inl e
        later (FunctionType signature) (inr e) = inr (or_right (bytes_eq name a.name) _ e)

        first : (t : AliasType) → bytes_eq name a.name ≡ true → Found t
        first (PlainType t) e = inl (or_left _ _ e)
        first (FunctionType signature) e = inr (or_left _ _ e)

        go : (t : AliasType) → (bytes_eq name a.name ≡ true) ⊎ (list_any (λ (a : Alias). bytes_eq name a.name) as_ ≡ true)
            → (list_any (λ (a : Alias). bytes_eq name a.name) as_ ≡ true → (list_any (λ (v : Variable). bytes_eq name v.name) vs ≡ true) ⊎ (list_any (λ (f : Function). bytes_eq name f.name) fs ≡ true)) → Found t
        go t (inl e) more = first t e
        go t (inr e) more = later t (more e)

    alias_declared : list_any (λ a. bytes_eq name a.name && not (keeps_alias m s a)) m.aliases ≡ true → has_entry n name ≡ true
    alias_declared h = by (declared_there (declared_aliases m s) (weaker (declared_aliases m s) (any_filtered (λ a. bytes_eq name a.name && not (keeps_alias m s a)) declares m.aliases chosen_so h)))
      where
        chosen_so : (a : Alias) → (bytes_eq name a.name && not (keeps_alias m s a)) ≡ true → declares a ≡ true
        chosen_so a e = let both = and_parts (bytes_eq name a.name) _ e in and_from _ _ both.1 (named_too a.name both.0)

        weaker : (as_ : List Alias) → list_any (λ a. bytes_eq name a.name && not (keeps_alias m s a)) as_ ≡ true → list_any (λ (a : Alias). bytes_eq name a.name) as_ ≡ true
        weaker [] e = cc
        weaker (a ∷ as_) e = step (or_cases (bytes_eq name a.name && not (keeps_alias m s a)) _ e) (weaker as_)
          where
            step : ((bytes_eq name a.name && not (keeps_alias m s a)) ≡ true) ⊎ (list_any (λ a. bytes_eq name a.name && not (keeps_alias m s a)) as_ ≡ true)
                → (list_any (λ a. bytes_eq name a.name && not (keeps_alias m s a)) as_ ≡ true → list_any (λ (a : Alias). bytes_eq name a.name) as_ ≡ true) → list_any (λ (a : Alias). bytes_eq name a.name) (a ∷ as_) ≡ true
            step (inl t) more = or_left _ _ (and_parts (bytes_eq name a.name) _ t).0
            step (inr t) more = or_right (bytes_eq name a.name) _ (more t)

        by : (list_any (λ (v : Variable). bytes_eq name v.name) alias_variables ≡ true) ⊎ (list_any (λ (f : Function). bytes_eq name f.name) alias_functions ≡ true) → has_entry n name ≡ true
        by (inl e) = as_variable (any_back (λ (v : Variable). bytes_eq name v.name) kept_variables alias_variables e)
        by (inr e) = as_function (any_back (λ (f : Function). bytes_eq name f.name) kept_functions alias_functions e)

    alias_stays : list_any (λ (a : Alias). bytes_eq name a.name) m.aliases ≡ true → has_entry n name ≡ true
    alias_stays h = go (any_split (λ (a : Alias). bytes_eq name a.name) (keeps_alias m s) m.aliases h)
      where
        go : (list_any (λ a. bytes_eq name a.name && keeps_alias m s a) m.aliases ≡ true) ⊎ (list_any (λ a. bytes_eq name a.name && not (keeps_alias m s a)) m.aliases ≡ true) → has_entry n name ≡ true
        go (inl t) =
            as_alias (made_any (λ a. ⊤) (extracted_alias m s) (λ a. bytes_eq name a.name && keeps_alias m s a) (λ b. bytes_eq name b.name) (λ a u e. alias_kept a e) m.aliases (all_units m.aliases) t)
        go (inr t) = alias_declared t

    entry_stays : has_entry m name ≡ true → has_entry n name ≡ true
    entry_stays h = go (or_cases (is_among (variable_names m) name) _ (sym (list_any-append (bytes_eq name) (variable_names m) (alias_names m ++ function_names m)) ∙ h))
      where
        later : (is_among (alias_names m) name ≡ true) ⊎ (is_among (function_names m) name ≡ true) → has_entry n name ≡ true
        later (inl e) = alias_stays (sym (any_key (λ (a : Alias). a.name) (bytes_eq name) m.aliases) ∙ e)
        later (inr e) =
            as_function (any_front (λ (f : Function). bytes_eq name f.name) kept_functions alias_functions
            (made_any (λ f. ⊤) (extracted_function m s) (λ f. bytes_eq name f.name) (λ f. bytes_eq name f.name) (λ f u e. function_stays f e) m.functions (all_units m.functions)
            (sym (any_key (λ (f : Function). f.name) (bytes_eq name) m.functions) ∙ e)))

        go : (is_among (variable_names m) name ≡ true) ⊎ (is_among (alias_names m ++ function_names m) name ≡ true) → has_entry n name ≡ true
        go (inl e) =
            as_variable (any_front (λ (v : Variable). bytes_eq name v.name) kept_variables alias_variables
            (made_any (λ v. ⊤) (extracted_variable m s) (λ v. bytes_eq name v.name) (λ v. bytes_eq name v.name) (λ v u e. variable_stays v e) m.variables (all_units m.variables)
            (sym (any_key (λ (v : Variable). v.name) (bytes_eq name) m.variables) ∙ e)))
        go (inr e) = later (or_cases (is_among (alias_names m) name) _ (sym (list_any-append (bytes_eq name) (alias_names m) (function_names m)) ∙ e))

  -- ---- constants

  -- of one constant, its parts apart
  part_stays : (t : Tree) (c : Constant) → AllAmong (names_in_constant c) → is_good_part m (t, c) ≡ true → is_good_part n (t, c) ≡ true
  part_stays t (Address name) a h =
      let one = and_parts (is_good_type m.structs t) _ h in
      let two = and_parts true _ one.1 in
      let three = and_parts _ _ two.1 in
      let four = and_parts true _ three.1 in
      and_from _ _ one.0 (and_from _ _ two.0 (and_from _ _ three.0 (and_from _ _ four.0 (entry_stays name (a name (or_left _ _ (name_self name))) four.1))))
  part_stays t (Integer k) a h = h
  part_stays t (Truth truth) a h = h
  part_stays t Null a h = h
  part_stays t Undef a h = h
  part_stays t Poison a h = h
  part_stays t ZeroInitializer a h = h
  part_stays t (ByteString bytes) a h = h
  part_stays t (Aggregate b cs) a h = h
  part_stays t (ElementAddress flags source cs) a h = h
  part_stays t (Cast opcode from value to) a h = h
  part_stays t (Binary opcode flags l left r right) a h = h

  abbrev Good : List Typed → Type 0
  Good ts = list_all (is_good_part m) ts ≡ true

  abbrev Stays : List Typed → Type 0
  Stays ts = list_all (is_good_part n) ts ≡ true

  alone : (t : Tree) (c : Constant) → AllAmong (names_in_constant c) → Good ((t, c) ∷ []) → Stays ((t, c) ∷ [])
  alone t c a h = and_from _ _ (part_stays t c a (and_parts (is_good_part m (t, c)) _ h).0) refl

  mutual
    within_stay : (t : Tree) (c : Constant) → AllAmong (names_in_constant c) → Good (constants_in t c) → Stays (constants_in t c)
    within_stay t (Integer k) a h = alone t (Integer k) a h
    within_stay t (Truth truth) a h = alone t (Truth truth) a h
    within_stay t Null a h = alone t Null a h
    within_stay t Undef a h = alone t Undef a h
    within_stay t Poison a h = alone t Poison a h
    within_stay t ZeroInitializer a h = alone t ZeroInitializer a h
    within_stay t (Address name) a h = alone t (Address name) a h
    within_stay t (ByteString bytes) a h = alone t (ByteString bytes) a h
    within_stay t (Aggregate b cs) a h =
        let both = and_parts (is_good_part m (t, Aggregate b cs)) _ h in
        and_from _ _ both.0 (all_within_stay cs a both.1)
    within_stay t (ElementAddress flags source cs) a h =
        let both = and_parts (is_good_part m (t, ElementAddress flags source cs)) _ h in
        and_from _ _ both.0 (all_within_stay cs a both.1)
    within_stay t (Cast opcode from value to) a h =
        let both = and_parts (is_good_part m (t, Cast opcode from value to)) _ h in
        and_from _ _ both.0 (within_stay from value a both.1)
    within_stay t (Binary opcode flags l left r right) a h =
        let both = and_parts (is_good_part m (t, Binary opcode flags l left r right)) _ h in
        let rest = all_parts (is_good_part m) (constants_in l left) (constants_in r right) both.1 in
        and_from _ _ both.0 (all_both (is_good_part n) (constants_in l left) (constants_in r right)
        (within_stay l left (in_front (names_in_constant left) (names_in_constant right) a) rest.0)
        (within_stay r right (behind_it (names_in_constant left) (names_in_constant right) a) rest.1))

    all_within_stay : (cs : Constants) → AllAmong (names_in_constants cs) → Good (constants_of cs) → Stays (constants_of cs)
    all_within_stay no_constants a h = refl
    all_within_stay (more_constants t c cs) a h =
        let both = all_parts (is_good_part m) (constants_in t c) (constants_of cs) h in
        all_both (is_good_part n) (constants_in t c) (constants_of cs)
        (within_stay t c (in_front (names_in_constant c) (names_in_constants cs) a) both.0)
        (all_within_stay cs (behind_it (names_in_constant c) (names_in_constants cs) a) both.1)

  constant_stays : (t : Tree) (c : Constant) → AllAmong (names_in_constant c) → is_good_constant m (t, c) ≡ true → is_good_constant n (t, c) ≡ true
  constant_stays t c a h = let both = and_parts _ (list_all (is_good_part m) (constants_in t c)) h in and_from _ _ both.0 (within_stay t c a both.1)

  -- ---- bodies

  abbrev AreGood : List Typed → Type 0
  AreGood ts = list_all (is_good_constant m) ts ≡ true

  abbrev Stay : List Typed → Type 0
  Stay ts = list_all (is_good_constant n) ts ≡ true

  value_stays : (t : Tree) (v : Value) → AllAmong (names_in_value v) → AreGood (known_in t v) → Stay (known_in t v)
  value_stays t (Local name) a h = refl
  value_stays t (Known c) a h = and_from _ _ (constant_stays t c a (and_parts (is_good_constant m (t, c)) _ h).0) refl

  operands_stay : (os : List Operand) → AllByRecursion (λ o. AllAmong (names_in_operand o)) os → AreGood (known_of_operands os) → Stay (known_of_operands os)
  operands_stay [] a h = refl
  operands_stay (o ∷ os) a h =
      let both = all_parts (is_good_constant m) (known_in o.ty o.value) (known_of_operands os) h in
      all_both (is_good_constant n) (known_in o.ty o.value) (known_of_operands os) (value_stays o.ty o.value a.0 both.0) (operands_stay os a.1 both.1)

  incoming_among : (t : Tree) (is : List Incoming) → AllAmong (flat_map names_in_incoming is) → AllByRecursion (λ o. AllAmong (names_in_operand o)) (map (incoming_operand t) is)
  incoming_among t [] a = tt
  incoming_among t (i ∷ is) a = (in_front (names_in_incoming i) (flat_map names_in_incoming is) a, incoming_among t is (behind_it (names_in_incoming i) (flat_map names_in_incoming is) a))

  count_among : (o : Option Operand) → AllAmong (option_map_or names_in_operand o []) → AllByRecursion (λ o. AllAmong (names_in_operand o)) (option_to_list o)
  count_among None a = tt
  count_among (Some o) a = (a, tt)

  operands_among : (o : Operation) → AllAmong (names_in_operation o) → AllByRecursion (λ x. AllAmong (names_in_operand x)) (operands o)
  operands_among (BinaryOperation opcode flags left right) a = (in_front (names_in_operand left) (names_in_value right) a, (behind_it (names_in_operand left) (names_in_value right) a, tt))
  operands_among (Compare flags predicate left right) a = (in_front (names_in_operand left) (names_in_value right) a, (behind_it (names_in_operand left) (names_in_value right) a, tt))
  operands_among (Convert opcode flags value to) a = (a, tt)
  operands_among (Select condition first second) a =
      let rest = behind_it (names_in_operand condition) (names_in_operand first ++ names_in_operand second) a in
      (in_front (names_in_operand condition) (names_in_operand first ++ names_in_operand second) a, (in_front (names_in_operand first) (names_in_operand second) rest, (behind_it (names_in_operand first) (names_in_operand second) rest, tt)))
  operands_among (Freeze value) a = (a, tt)
  operands_among (Phi ty incoming) a = incoming_among ty incoming a
  operands_among (Load flags ty address alignment) a = (a, tt)
  operands_among (Store flags value address alignment) a = (in_front (names_in_operand value) (names_in_operand address) a, (behind_it (names_in_operand value) (names_in_operand address) a, tt))
  operands_among (Alloca ty count alignment) a = count_among count a
  operands_among (GetElementPtr flags source base indices) a =
      (in_front (names_in_operand base) (flat_map names_in_operand indices) a, each_among names_in_operand indices (behind_it (names_in_operand base) (flat_map names_in_operand indices) a))
  operands_among (Call signature value arguments) a = each_among names_in_operand arguments (behind_it (names_in_value value) (flat_map names_in_operand arguments) a)
  operands_among (ExtractValue aggregate indices) a = (a, tt)
  operands_among (InsertValue aggregate part indices) a = (in_front (names_in_operand aggregate) (names_in_operand part) a, (behind_it (names_in_operand aggregate) (names_in_operand part) a, tt))

  callee_stays : (o : Operation) → AllAmong (names_in_operation o) → AreGood (option_map_or (known_in ptr) (callee o) []) → Stay (option_map_or (known_in ptr) (callee o) [])
  callee_stays (Call signature value arguments) a h = value_stays ptr value (in_front (names_in_value value) (flat_map names_in_operand arguments) a) h
  callee_stays (BinaryOperation opcode flags left right) a h = refl
  callee_stays (Compare flags predicate left right) a h = refl
  callee_stays (Convert opcode flags value to) a h = refl
  callee_stays (Select condition first second) a h = refl
  callee_stays (Freeze value) a h = refl
  callee_stays (Phi ty incoming) a h = refl
  callee_stays (Load flags ty address alignment) a h = refl
  callee_stays (Store flags value address alignment) a h = refl
  callee_stays (Alloca ty count alignment) a h = refl
  callee_stays (GetElementPtr flags source base indices) a h = refl
  callee_stays (ExtractValue aggregate indices) a h = refl
  callee_stays (InsertValue aggregate part indices) a h = refl

  operation_stays : (o : Operation) → AllAmong (names_in_operation o) → AreGood (known_of_operation o) → Stay (known_of_operation o)
  operation_stays o a h =
      let both = all_parts (is_good_constant m) (known_of_operands (operands o)) (option_map_or (known_in ptr) (callee o) []) h in
      all_both (is_good_constant n) (known_of_operands (operands o)) (option_map_or (known_in ptr) (callee o) []) (operands_stay (operands o) (operands_among o a) both.0) (callee_stays o a both.1)

  cases_among : (cs : List Case) → AllAmong (flat_map names_in_case cs) → AllByRecursion (λ o. AllAmong (names_in_operand o)) (map case_operand cs)
  cases_among [] a = tt
  cases_among (c ∷ cs) a = (in_front (names_in_case c) (flat_map names_in_case cs) a, cases_among cs (behind_it (names_in_case c) (flat_map names_in_case cs) a))

  ending_among : (e : Ending) → AllAmong (names_in_ending e) → AllByRecursion (λ o. AllAmong (names_in_operand o)) (ending_operands e)
  ending_among ReturnVoid a = tt
  ending_among (Return value) a = (a, tt)
  ending_among (Jump target) a = tt
  ending_among (Branch condition then_to else_to) a = (a, tt)
  ending_among (Switch value otherwise cases) a = (in_front (names_in_operand value) (flat_map names_in_case cases) a, cases_among cases (behind_it (names_in_operand value) (flat_map names_in_case cases) a))
  ending_among Unreachable a = tt

  instructions_stay : (is : List Instruction) → AllAmong (flat_map names_in_instruction is) → AreGood (flat_map (λ i. known_of_operation i.operation) is) → Stay (flat_map (λ i. known_of_operation i.operation) is)
  instructions_stay [] a h = refl
  instructions_stay (i ∷ is) a h =
      let both = all_parts (is_good_constant m) (known_of_operation i.operation) (flat_map (λ i. known_of_operation i.operation) is) h in
      all_both (is_good_constant n) (known_of_operation i.operation) (flat_map (λ i. known_of_operation i.operation) is)
      (operation_stays i.operation (in_front (names_in_instruction i) (flat_map names_in_instruction is) a) both.0)
      (instructions_stay is (behind_it (names_in_instruction i) (flat_map names_in_instruction is) a) both.1)

  block_stays : (b : Block) → AllAmong (names_in_block b) → AreGood (known_of_block b) → Stay (known_of_block b)
  block_stays b a h =
      let both = all_parts (is_good_constant m) (flat_map (λ i. known_of_operation i.operation) b.instructions) (known_of_operands (ending_operands b.ending)) h in
      all_both (is_good_constant n) (flat_map (λ i. known_of_operation i.operation) b.instructions) (known_of_operands (ending_operands b.ending))
      (instructions_stay b.instructions (in_front (flat_map names_in_instruction b.instructions) (names_in_ending b.ending) a) both.0)
      (operands_stay (ending_operands b.ending) (ending_among b.ending (behind_it (flat_map names_in_instruction b.instructions) (names_in_ending b.ending) a)) both.1)

  blocks_stay : (bs : List Block) → AllAmong (flat_map names_in_block bs) → AreGood (flat_map known_of_block bs) → Stay (flat_map known_of_block bs)
  blocks_stay [] a h = refl
  blocks_stay (b ∷ bs) a h =
      let both = all_parts (is_good_constant m) (known_of_block b) (flat_map known_of_block bs) h in
      all_both (is_good_constant n) (known_of_block b) (flat_map known_of_block bs)
      (block_stays b (in_front (names_in_block b) (flat_map names_in_block bs) a) both.0)
      (blocks_stay bs (behind_it (names_in_block b) (flat_map names_in_block bs) a) both.1)

  body_stays : (o : Option (List Block)) → AllAmong (option_map_or (flat_map names_in_block) o []) → AreGood (flat_map known_of_block (body o)) → Stay (flat_map known_of_block (body o))
  body_stays None a h = refl
  body_stays (Some bs) a h = blocks_stay bs a h

  -- ---- entries

  abbrev known_of_function : Function → List Typed
  known_of_function f = flat_map known_of_block (blocks f)

  initialiser_stays : (v : Variable) (o : Option Constant) → AllAmong (option_map_or names_in_constant o []) → AreGood (map (λ c. (v.ty, c)) (option_to_list o)) → Stay (map (λ c. (v.ty, c)) (option_to_list o))
  initialiser_stays v None a h = refl
  initialiser_stays v (Some c) a h = and_from _ _ (constant_stays v.ty c a (and_parts (is_good_constant m (v.ty, c)) _ h).0) refl

  -- the list of no elements that an appending variable is left with
  empty_list : (t : Tree) → is_good_type m.structs t ≡ true → is_good_constant n (t, Aggregate Square no_constants) ≡ true
  empty_list (int width) h = and_from (is_good_part n (int width, Aggregate Square no_constants)) _ (and_from (is_good_type m.structs (int width)) _ h refl) refl
  empty_list ptr h = refl
  empty_list void h = refl
  empty_list (array k t) h = and_from (is_good_part n (array k t, Aggregate Square no_constants)) _ (and_from (is_good_type m.structs (array k t)) _ h refl) refl
  empty_list (struct packed ts) h = and_from (is_good_part n (struct packed ts, Aggregate Square no_constants)) _ (and_from (is_good_type m.structs (struct packed ts)) _ h refl) refl
  empty_list (named name) h = and_from (is_good_part n (named name, Aggregate Square no_constants)) _ (and_from (is_good_type m.structs (named name)) _ h refl) refl

  declared_stays : (l : Linkage) (v : Variable) → is_good_variable m v ≡ true → Stay (known_of_variable (declared_variable l v))
  declared_stays Appending v h =
      and_from _ _ (empty_list (without_elements v.ty) (without_good m.structs v.ty (and_parts (is_good_type m.structs v.ty) _ h).0)) refl
  declared_stays External v h = refl
  declared_stays Private v h = refl
  declared_stays Internal v h = refl
  declared_stays Common v h = refl
  declared_stays ExternWeak v h = refl
  declared_stays AvailableExternally v h = refl
  declared_stays Linkonce v h = refl
  declared_stays LinkonceOdr v h = refl
  declared_stays Weak v h = refl
  declared_stays WeakOdr v h = refl

  abbrev VariableNamed : Variable → Type 0
  VariableNamed v = keeps_variable m s v ≡ true → AllAmong (names_in_variable v)

  abbrev FunctionNamed : Function → Type 0
  FunctionNamed f = keeps_function m s f ≡ true → AllAmong (names_in_function f)

  variables_named : AllByRecursion VariableNamed m.variables
  variables_named =
      all_follow (λ v. keeps_variable m s v ≡ true → (name : Bytes) → is_among (names_in_variable v) name ≡ true → is_among (flat_map names_in_variable (filter (keeps_variable m s) m.variables)) name ≡ true) VariableNamed m.variables
      (λ v p t name h. any_front (bytes_eq name) (flat_map names_in_variable (filter (keeps_variable m s) m.variables)) (flat_map names_in_function (filter (keeps_function m s) m.functions)) (p t name h))
      (gathered (keeps_variable m s) names_in_variable m.variables)

  functions_named : AllByRecursion FunctionNamed m.functions
  functions_named =
      all_follow (λ f. keeps_function m s f ≡ true → (name : Bytes) → is_among (names_in_function f) name ≡ true → is_among (flat_map names_in_function (filter (keeps_function m s) m.functions)) name ≡ true) FunctionNamed m.functions
      (λ f p t name h. any_back (bytes_eq name) (flat_map names_in_variable (filter (keeps_variable m s) m.variables)) (flat_map names_in_function (filter (keeps_function m s) m.functions)) (p t name h))
      (gathered (keeps_function m s) names_in_function m.functions)

  alias_variable_stays : (a : Alias) (t : AliasType) (w : Variable) → alias_as_variable m a.name a.target t ≡ Some w → Stay (known_of_variable w)
  alias_variable_stays a (FunctionType signature) w e = cc
  alias_variable_stays a (PlainType t) w e = subst (λ (x : Variable). Stay (known_of_variable x)) (same_Some _ w e) refl

  alias_function_stays : (a : Alias) (t : AliasType) (g : Function) → alias_as_function a.name t ≡ Some g → Stay (known_of_function g)
  alias_function_stays a (PlainType t) g e = cc
  alias_function_stays a (FunctionType signature) g e = subst (λ (x : Function). Stay (known_of_function x)) (same_Some _ g e) refl

  pub constants_good : IsWellFormed m → list_all (is_good_constant n) (module_constants n) ≡ true
  constants_good good =
      all_both (is_good_constant n) (flat_map known_of_variable n.variables) (flat_map known_of_function n.functions)
      (all_gathered (is_good_constant n) known_of_variable n.variables variables)
      (all_gathered (is_good_constant n) known_of_function n.functions functions)
    where
      both : AreGood (flat_map known_of_variable m.variables) × AreGood (flat_map known_of_function m.functions)
      both = all_parts (is_good_constant m) (flat_map known_of_variable m.variables) (flat_map known_of_function m.functions) good.constants

      variables : AllByRecursion (λ v. Stay (known_of_variable v)) n.variables
      variables =
          all_of_append (λ v. Stay (known_of_variable v)) kept_variables alias_variables
          (made_all (λ v. AreGood (known_of_variable v) × (VariableNamed v × (is_good_variable m v ≡ true))) (extracted_variable m s) (λ v. Stay (known_of_variable v))
          (λ v p y e. either (λ (w : Variable). Stay (known_of_variable w)) (keeps_variable m s v) (is_among (kept_names m s) v.name) (record v { linkage = kept_linkage v.linkage }) (declared_variable v.linkage v) y e
          (λ k. initialiser_stays v v.initialiser (p.1.0 k) p.0)
          (λ k c. declared_stays v.linkage v p.1.1))
          m.variables
          (both_all (λ v. AreGood (known_of_variable v)) (λ v. VariableNamed v × (is_good_variable m v ≡ true)) m.variables (gathered_all (is_good_constant m) known_of_variable m.variables both.0)
          (both_all VariableNamed (λ v. is_good_variable m v ≡ true) m.variables variables_named (all_tests (is_good_variable m) m.variables good.variables))))
          (made_all (λ a. ⊤) (λ (a : Alias). alias_as_variable m a.name a.target a.ty) (λ v. Stay (known_of_variable v)) (λ a u w e. alias_variable_stays a a.ty w e) (declared_aliases m s) (all_units (declared_aliases m s)))

      functions : AllByRecursion (λ f. Stay (known_of_function f)) n.functions
      functions =
          all_of_append (λ f. Stay (known_of_function f)) kept_functions alias_functions
          (made_all (λ f. AreGood (known_of_function f) × FunctionNamed f) (extracted_function m s) (λ f. Stay (known_of_function f))
          (λ f p y e. either (λ (g : Function). Stay (known_of_function g)) (keeps_function m s f) (is_among (kept_names m s) f.name) (record f { linkage = kept_linkage f.linkage }) (declared_function f) y e
          (λ k. body_stays f.body (p.1 k) p.0)
          (λ k c. refl))
          m.functions (both_all (λ f. AreGood (known_of_function f)) FunctionNamed m.functions (gathered_all (is_good_constant m) known_of_function m.functions both.1) functions_named))
          (made_all (λ a. ⊤) (λ (a : Alias). alias_as_function a.name a.ty) (λ f. Stay (known_of_function f)) (λ a u g e. alias_function_stays a a.ty g e) (declared_aliases m s) (all_units (declared_aliases m s)))
