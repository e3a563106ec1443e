-- The variables, functions and aliases of a well-formed and valid module are read back, each behind those before it.
use Rattle.std.proofs.Common.{◌≡◌, ℕ, suc, ◌+◌, ◌≤◌, ◌<◌, Bool, true, false, ◌&&◌, max, List, [], ◌∷◌, ◌++◌, length, map, flat_map, Option, Some, None, is_some, refl, sym, ap, ◌∙◌, subst, append_assoc, append-nil, arith, inl, inr}
use Rattle.std.specs.Prelude.{bytes_eq}
use Rattle.std.specs.List.{list_all, list_any, AllByRecursion, fold}
use Rattle.std.specs.Option.{option_map_or, option_to_list}
use Rattle.std.proofs.lemmas.Bool.{and_parts, or_cases, or_left, or_right, lt-ltb, le-leb, false≢true}
use Rattle.std.proofs.lemmas.List.{length-append, length-map, map_push}
use Rattle.std.proofs.lemmas.Slice.Eq.{bytes_eq-Decides}
use Rattle.ir_tables.specs.Table.{is_distinct}
use Rattle.type_table.specs.Tree.{Tree}
use Rattle.module_arena.specs.Module.{Bytes, Constant, Variable, AliasType, PlainType, FunctionType, Alias, Function, Module}
use Rattle.module_arena.specs.Constants.{fits}
use Rattle.module_arena.specs.EntryRules.{is_lasting, target_suits}
use Rattle.module_arena.specs.Valid.{AllHold, variable_demands, alias_demands}
use Rattle.module_arena.specs.WellFormed.{global_names, is_good_constant, known_of_variable, count_for_aliases}
use Rattle.module_arena.proofs.Parts.{front_holds, rest_holds}
use Rattle.record_table.specs.Listed.{IsName, IsType}
use Rattle.record_table.specs.FittingConstants.{Fits}
use Rattle.record_table.specs.FittingLines.{IfSome}
use Rattle.record_table.specs.Records.{Sofar, may_follow, is_new, types_of}
use Rattle.record_table.specs.Mentions.{in_constant, in_some, in_variable, in_function, in_alias_type, mentioned}
use Rattle.record_table.specs.Spelling.{texts_in, numbering}
use Rattle.record_law.specs.FittingEntries.{VariableFits, AliasTypeFits, AliasFits}
use Rattle.record_law.specs.FittingModules.{due, Globals, with_globals, EachFits, after_variable, after_function, after_alias, none_yet, behind_variables, behind_functions, VariableFollows, FunctionFollows, AliasFollows, behind_types}
use Rattle.record_law.proofs.OnTypes.Tests.{all_front, all_rest, front_of, rest_of, new_behind}
use Rattle.record_law.proofs.OnTypes.TypesInOrder.{has}
use Rattle.record_law.proofs.OnFits.Among.{any_front, any_rest, none_of, any_mapped, none_behind}
use Rattle.record_law.proofs.OnFits.ConstantsFit.{type_listed, target_listed, known_fits}
use Rattle.record_law.proofs.OnFits.LinesFit.{has_code}

-- ---- names
abbrev variable_name : Variable → Bytes
variable_name v = v.name

abbrev function_name : Function → Bytes
function_name f = f.name

abbrev alias_name : Alias → Bytes
alias_name a = a.name

due_names : (fs : List Function) → map (λ (x : Bool × Function). x.1.name) (map due fs) ≡ map function_name fs
due_names [] = refl
due_names (f ∷ fs) = ap (λ all. f.name ∷ all) (due_names fs)

-- what stands behind the first of some names
abbrev IsApart : List Bytes → List Bytes → Type 0
IsApart done names = is_distinct bytes_eq (done ++ names) ≡ true

moved : (done : List Bytes) (n : Bytes) (names : List Bytes) → IsApart done (n ∷ names) → IsApart (done ++ n ∷ []) names
moved done n names d = subst (λ (ns : List Bytes). is_distinct bytes_eq ns ≡ true) (sym (append_assoc done (n ∷ []) names)) d

-- ---- what is there so far
record IsAt (g : Globals) (vs : List Variable) (fs : List (Bool × Function)) (all : List Alias) : Type 0 where
  pub variables : g.variables ≡ vs
  pub functions : g.functions ≡ fs
  pub aliases : g.aliases ≡ all

new_at : (s : Sofar) (g : Globals) (vs : List Variable) (fs : List (Bool × Function)) (all : List Alias) (n : Bytes) → IsAt g vs fs all → list_any (bytes_eq n) (map variable_name vs) ≡ false
    → list_any (bytes_eq n) (map (λ (x : Bool × Function). x.1.name) fs) ≡ false → list_any (bytes_eq n) (map alias_name all) ≡ false → is_new (with_globals s g) n ≡ true
new_at s g vs fs all n here a b c =
    let of_variables : list_any (λ (v : Variable). bytes_eq n v.name) g.variables ≡ false = ap (list_any (λ (v : Variable). bytes_eq n v.name)) here.variables ∙ sym (any_mapped (bytes_eq n) variable_name vs) ∙ a in
    let of_functions : list_any (λ (f : Bool × Function). bytes_eq n f.1.name) g.functions ≡ false = ap (list_any (λ (f : Bool × Function). bytes_eq n f.1.name)) here.functions ∙ sym (any_mapped (bytes_eq n) (λ (x : Bool × Function). x.1.name) fs) ∙ b in
    let of_aliases : list_any (λ (x : Alias). bytes_eq n x.name) g.aliases ≡ false = ap (list_any (λ (x : Alias). bytes_eq n x.name)) here.aliases ∙ sym (any_mapped (bytes_eq n) alias_name all) ∙ c in
    rw (of_variables, of_functions, of_aliases) refl

at_variables : (vs : List Variable) (g : Globals) (front : List Variable) (fs : List (Bool × Function)) (all : List Alias) → IsAt g front fs all → IsAt (fold after_variable g vs) (front ++ vs) fs all
at_variables [] g front fs all here = record { variables = here.variables ∙ sym (append-nil front); functions = here.functions; aliases = here.aliases }
at_variables (v ∷ vs) g front fs all here =
    let later = at_variables vs (after_variable g v) (front ++ v ∷ []) fs all (record { variables = ap (λ xs. xs ++ v ∷ []) here.variables; functions = here.functions; aliases = here.aliases }) in
    record { variables = later.variables ∙ append_assoc front (v ∷ []) vs; functions = later.functions; aliases = later.aliases }

at_functions : (fs : List Function) (g : Globals) (vs : List Variable) (front : List (Bool × Function)) (all : List Alias) → IsAt g vs front all → IsAt (fold after_function g fs) vs (front ++ map due fs) all
at_functions [] g vs front all here = record { variables = here.variables; functions = here.functions ∙ sym (append-nil front); aliases = here.aliases }
at_functions (f ∷ fs) g vs front all here =
    let later = at_functions fs (after_function g f) vs (front ++ due f ∷ []) all (record { variables = here.variables; functions = ap (λ xs. xs ++ due f ∷ []) here.functions; aliases = here.aliases }) in
    record { variables = later.variables; functions = later.functions ∙ append_assoc front (due f ∷ []) (map due fs); aliases = later.aliases }

last_variables : (vs : List Variable) (g : Globals) → may_follow g.last 7 ≡ true → may_follow (fold after_variable g vs).last 7 ≡ true
last_variables [] g may = may
last_variables (v ∷ vs) g may = last_variables vs (after_variable g v) refl

before_aliases : (fs : List Function) (g : Globals) → may_follow g.last 8 ≡ true → may_follow (fold after_function g fs).last 8 ≡ true
before_aliases [] g may = may
before_aliases (f ∷ fs) g may = before_aliases fs (after_function g f) refl

past_variables : (vs : List Variable) (g : Globals) → may_follow g.last 8 ≡ true → may_follow (fold after_variable g vs).last 8 ≡ true
past_variables [] g may = may
past_variables (v ∷ vs) g may = past_variables vs (after_variable g v) refl

module _ (m : Module) where
  abbrev There : List Tree → Type 0
  There ts = AllByRecursion (λ t. has (mentioned m) t ≡ true) ts

  -- ---- variables
  initial_fits : (t : Tree) (o : Option Constant) → option_map_or (fits m.structs t) o true ≡ true → list_all (is_good_constant m) (map (λ c. (t, c)) (option_to_list o)) ≡ true → There (in_some in_constant o)
      → IfSome (λ c. Fits (numbering m) c 64 t) o
  initial_fits t None fit good there = tt
  initial_fits t (Some c) fit good there = known_fits m [] [] t c fit (and_parts (is_good_constant m (t, c)) true good).0 there

  pub variables_fit : (vs : List Variable) → AllByRecursion (λ v. IsName (texts_in m) v.name) vs → AllHold (flat_map (variable_demands m) vs) → list_all (is_good_constant m) (flat_map known_of_variable vs) ≡ true → There (flat_map in_variable vs)
      → AllByRecursion (VariableFits (texts_in m) (numbering m)) vs
  variables_fit [] named holds good there = tt
  variables_fit (v ∷ vs) named holds good there =
      let here = front_holds (variable_demands m v) (flat_map (variable_demands m) vs) holds in
      let P = λ (t : Tree). has (mentioned m) t ≡ true in
      let types = front_of P (in_variable v) (flat_map in_variable vs) there in
      let fit = initial_fits v.ty v.initialiser here.1.1.1.1.1.1.0 (all_front (is_good_constant m) (known_of_variable v) (flat_map known_of_variable vs) good) types.1 in (
        (named.0, type_listed m [] [] v.ty types.0, has_code v.alignment here.1.1.1.1.1.0, fit),
        variables_fit vs named.1 (rest_holds (variable_demands m v) (flat_map (variable_demands m) vs) holds) (all_rest (is_good_constant m) (known_of_variable v) (flat_map known_of_variable vs) good)
            (rest_of P (in_variable v) (flat_map in_variable vs) there),
      )

  -- ---- functions
  types_listed : (ts : List Tree) → There ts → AllByRecursion (IsType (numbering m)) ts
  types_listed [] there = tt
  types_listed (t ∷ ts) there = (type_listed m [] [] t there.0, types_listed ts there.1)

  -- what the record of a function says
  abbrev pub RecordFits : Function → Type 0
  RecordFits f = IsName (texts_in m) f.name × IsType (numbering m) f.returns × AllByRecursion (IsType (numbering m)) (types_of f)

  pub records_fit : (fs : List Function) → AllByRecursion (λ f. IsName (texts_in m) f.name) fs → There (flat_map in_function fs) → AllByRecursion RecordFits fs
  records_fit [] named there = tt
  records_fit (f ∷ fs) named there =
      let P = λ (t : Tree). has (mentioned m) t ≡ true in
      let here = front_of P (in_function f) (flat_map in_function fs) there in
      let types = front_of P (f.returns ∷ map (λ p. p.ty) f.parameters) _ here in
      ((named.0, type_listed m [] [] f.returns types.0, types_listed (types_of f) types.1), records_fit fs named.1 (rest_of P (in_function f) (flat_map in_function fs) there))

  -- ---- aliases
  turned : (a b : Bytes) → bytes_eq a b ≡ true → bytes_eq b a ≡ true
  turned a b e = (bytes_eq-Decides b a).1 (sym ((bytes_eq-Decides a b).0 e))

  any_named : {A : Type 0} (name_of : A → Bytes) (q : A → Bool) (name : Bytes) (xs : List A) → list_any (λ x. bytes_eq (name_of x) name && q x) xs ≡ true → list_any (bytes_eq name) (map name_of xs) ≡ true
  any_named name_of q name [] h = absurd (false≢true h)
  any_named name_of q name (x ∷ xs) h = elim (or_cases (bytes_eq (name_of x) name && q x) (list_any (λ x. bytes_eq (name_of x) name && q x) xs) h) [
    | inl t ↦ or_left (bytes_eq name (name_of x)) (list_any (bytes_eq name) (map name_of xs)) (turned (name_of x) name (and_parts (bytes_eq (name_of x) name) (q x) t).0)
    | inr t ↦ or_right (bytes_eq name (name_of x)) (list_any (bytes_eq name) (map name_of xs)) (any_named name_of q name xs t)
  ]

  among_targets : (t : AliasType) (name : Bytes) → target_suits m t name ≡ true → list_any (bytes_eq name) (map variable_name m.variables ++ map function_name m.functions) ≡ true
  among_targets (PlainType ty) name h =
      any_front (bytes_eq name) (map variable_name m.variables) (map function_name m.functions) (any_named variable_name (λ v. is_some v.initialiser && is_lasting v.linkage) name m.variables h)
  among_targets (FunctionType s) name h =
      any_rest (bytes_eq name) (map variable_name m.variables) (map function_name m.functions) (any_named function_name (λ f. is_some f.body && is_lasting f.linkage) name m.functions h)

  alias_type_fits : (t : AliasType) → There (in_alias_type t) → AliasTypeFits (numbering m) t
  alias_type_fits (PlainType t) there = type_listed m [] [] t there.0
  alias_type_fits (FunctionType s) there = (type_listed m [] [] s.returns there.0, types_listed s.parameters there.1)

  pub aliases_fit : (all : List Alias) → AllByRecursion (λ a. IsName (texts_in m) a.name) all → AllHold (flat_map (alias_demands m) all) → There (flat_map (λ a. in_alias_type a.ty) all) → AllByRecursion (AliasFits (texts_in m) (numbering m)) all
  aliases_fit [] named holds there = tt
  aliases_fit (a ∷ all) named holds there =
      let here = front_holds (alias_demands m a) (flat_map (alias_demands m) all) holds in
      let P = λ (t : Tree). has (mentioned m) t ≡ true in
      let suits = (and_parts (is_lasting a.linkage) (target_suits m a.ty a.target) here.1.1.1.1.1.0).1 in
      let others = flat_map (λ (a : Alias). in_alias_type a.ty) all in (
        (named.0, alias_type_fits a.ty (front_of P (in_alias_type a.ty) others there), target_listed m [] [] a.target (among_targets a.ty a.target suits)),
        aliases_fit all named.1 (rest_holds (alias_demands m a) (flat_map (alias_demands m) all) holds) (rest_of P (in_alias_type a.ty) others there),
      )

  -- ---- one behind the other
  module _ (at : ℕ) where
    abbrev s : Sofar
    s = behind_types m at

    variables_follow : (vs front : List Variable) (done others : List Bytes) (g : Globals) → AllByRecursion (VariableFits (texts_in m) (numbering m)) vs → IsAt g front [] [] → may_follow g.last 6 ≡ true → length front + length vs ≤ 262144
        → done ≡ map variable_name front → IsApart done (map variable_name vs ++ others) → EachFits after_variable (VariableFollows s) g vs
    variables_follow [] front done others g fit here may few e apart = tt
    variables_follow (v ∷ vs) front done others g fit here may few e apart =
        let fresh = subst (λ (ns : List Bytes). list_any (bytes_eq v.name) ns ≡ false) e (new_behind done (map variable_name vs ++ others) v.name apart) in
        let count = ap length here.variables in
        let less : length g.variables < 262144 = omega (arith, few, count) in
        let next = IsAt (after_variable g v) (front ++ v ∷ []) [] [] in
        let there : next = record { variables = ap (λ xs. xs ++ v ∷ []) here.variables; functions = here.functions; aliases = here.aliases } in (
          (fit.0, may, lt-ltb (length g.variables) 0x4_0000 less, new_at s g front [] [] v.name here fresh refl refl),
          variables_follow vs (front ++ v ∷ []) (done ++ v.name ∷ []) others (after_variable g v) fit.1 there refl (omega (arith, few, length-append front (v ∷ []))) (ap (λ ns. ns ++ v.name ∷ []) e ∙ sym (map_push variable_name front v))
              (moved done v.name (map variable_name vs ++ others) apart),
        )

    functions_follow : (fs front : List Function) (done : List Bytes) (g : Globals) → AllByRecursion RecordFits fs → IsAt g m.variables (map due front) [] → may_follow g.last 7 ≡ true → length front + length fs ≤ 262144
        → done ≡ (map variable_name m.variables ++ map alias_name m.aliases) ++ map function_name front → IsApart done (map function_name fs) → EachFits after_function (FunctionFollows s) g fs
    functions_follow [] front done g fit here may few e apart = tt
    functions_follow (f ∷ fs) front done g fit here may few e apart =
        let ahead = map variable_name m.variables ++ map alias_name m.aliases in
        let fresh = subst (λ (ns : List Bytes). list_any (bytes_eq f.name) ns ≡ false) e (new_behind done (map function_name fs) f.name apart) in
        let parts = none_of (bytes_eq f.name) ahead (map function_name front) fresh in
        let of_variables = (none_of (bytes_eq f.name) (map variable_name m.variables) (map alias_name m.aliases) parts.0).0 in
        let of_functions = ap (list_any (bytes_eq f.name)) (due_names front) ∙ parts.1 in
        let count = ap length here.functions ∙ length-map front due in
        let less : length g.functions < 262144 = omega (arith, few, count) in
        let next = IsAt (after_function g f) m.variables (map due (front ++ f ∷ [])) [] in
        let there : next = record { variables = here.variables; functions = ap (λ xs. xs ++ due f ∷ []) here.functions ∙ sym (map_push due front f); aliases = here.aliases } in (
          (fit.0, may, lt-ltb (length g.functions) 0x4_0000 less, new_at s g m.variables (map due front) [] f.name here of_variables of_functions refl),
          functions_follow fs (front ++ f ∷ []) (done ++ f.name ∷ []) (after_function g f) fit.1 there refl (omega (arith, few, length-append front (f ∷ [])))
              (ap (λ ns. ns ++ f.name ∷ []) e ∙ append_assoc ahead (map function_name front) (f.name ∷ []) ∙ ap (λ ns. ahead ++ ns) (sym (map_push function_name front f))) (moved done f.name (map function_name fs) apart),
        )

    aliases_follow : (all front : List Alias) (done : List Bytes) (g : Globals) → AllByRecursion (AliasFits (texts_in m) (numbering m)) all → IsAt g m.variables (map due m.functions) front → may_follow g.last 8 ≡ true
        → length front + length all + max (length m.variables) (length m.functions) ≤ 262144 → done ≡ map variable_name m.variables ++ map alias_name front → IsApart done (map alias_name all ++ map function_name m.functions) → EachFits after_alias (AliasFollows s) g all
    aliases_follow [] front done g fit here may few e apart = tt
    aliases_follow (a ∷ all) front done g fit here may few e apart =
        let fresh = subst (λ (ns : List Bytes). list_any (bytes_eq a.name) ns ≡ false) e (new_behind done (map alias_name all ++ map function_name m.functions) a.name apart) in
        let parts = none_of (bytes_eq a.name) (map variable_name m.variables) (map alias_name front) fresh in
        let later = (none_of (bytes_eq a.name) (map alias_name all) (map function_name m.functions) (none_behind done (map alias_name all ++ map function_name m.functions) a.name apart)).1 in
        let of_functions = ap (list_any (bytes_eq a.name)) (due_names m.functions) ∙ later in
        let vs = ap length here.variables in
        let fs = ap length here.functions ∙ length-map m.functions due in
        let as_ = ap length here.aliases in
        let less : suc (length g.aliases) + max (length g.variables) (length g.functions) ≤ 262144 = rw (vs, fs, as_) (omega (arith, few)) in
        let next = IsAt (after_alias g a) m.variables (map due m.functions) (front ++ a ∷ []) in
        let there : next = record { variables = here.variables; functions = here.functions; aliases = ap (λ xs. xs ++ a ∷ []) here.aliases } in (
          (fit.0, may, le-leb (suc (length g.aliases) + max (length g.variables) (length g.functions)) 0x4_0000 less, new_at s g m.variables (map due m.functions) front a.name here parts.0 of_functions parts.1),
          aliases_follow all (front ++ a ∷ []) (done ++ a.name ∷ []) (after_alias g a) fit.1 there refl (omega (arith, few, length-append front (a ∷ [])))
              (ap (λ ns. ns ++ a.name ∷ []) e ∙ append_assoc (map variable_name m.variables) (map alias_name front) (a.name ∷ []) ∙ ap (λ ns. map variable_name m.variables ++ ns) (sym (map_push alias_name front a)))
              (moved done a.name (map alias_name all ++ map function_name m.functions) apart),
        )

    pub all_variables : AllByRecursion (VariableFits (texts_in m) (numbering m)) m.variables → length m.variables ≤ 262144 → is_distinct bytes_eq (global_names m) ≡ true → EachFits after_variable (VariableFollows s) (none_yet at) m.variables
    all_variables fit few apart =
        variables_follow m.variables [] [] (map alias_name m.aliases ++ map function_name m.functions) (none_yet at) fit (record { variables = refl; functions = refl; aliases = refl }) refl (omega (arith, few)) refl apart

    behind_all_variables : IsAt (behind_variables m.variables at) m.variables [] []
    behind_all_variables = at_variables m.variables (none_yet at) [] [] [] (record { variables = refl; functions = refl; aliases = refl })

    pub all_functions : AllByRecursion RecordFits m.functions → length m.functions ≤ 262144 → is_distinct bytes_eq (global_names m) ≡ true → EachFits after_function (FunctionFollows s) (behind_variables m.variables at) m.functions
    all_functions fit few apart =
        let vs = map variable_name m.variables in
        let as_ = map alias_name m.aliases in
        functions_follow m.functions [] (vs ++ as_) (behind_variables m.variables at) fit behind_all_variables (last_variables m.variables (none_yet at) refl) (omega (arith, few)) (sym (append-nil (vs ++ as_)))
        (subst (λ (ns : List Bytes). is_distinct bytes_eq ns ≡ true) (sym (append_assoc vs as_ (map function_name m.functions))) apart)

    any_aliases : (all : List Alias) → all ≡ m.aliases → AllByRecursion (AliasFits (texts_in m) (numbering m)) all → count_for_aliases all m.variables m.functions ≤ 262144
        → IsApart (map variable_name m.variables) (map alias_name all ++ map function_name m.functions) → EachFits after_alias (AliasFollows s) (behind_functions m.variables m.functions at) all
    any_aliases [] is fit few apart = tt
    any_aliases (a ∷ all) is fit few apart =
        aliases_follow (a ∷ all) [] (map variable_name m.variables) (behind_functions m.variables m.functions at) fit (at_functions m.functions (behind_variables m.variables at) m.variables [] [] behind_all_variables)
        (before_aliases m.functions (behind_variables m.variables at) (past_variables m.variables (none_yet at) refl)) (omega (arith, few)) (sym (append-nil (map variable_name m.variables))) apart

    pub all_aliases : AllByRecursion (AliasFits (texts_in m) (numbering m)) m.aliases → count_for_aliases m.aliases m.variables m.functions ≤ 262144 → is_distinct bytes_eq (global_names m) ≡ true
        → EachFits after_alias (AliasFollows s) (behind_functions m.variables m.functions at) m.aliases
    all_aliases fit few apart = any_aliases m.aliases refl fit few apart
