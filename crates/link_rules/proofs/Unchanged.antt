-- Of a well-formed, valid module linking changes nothing but available_externally definitions and appending `zeroinitializer`s.
use Rattle.std.proofs.Common.{◌≡◌, ◌≢◌, ℕ, suc, ◌+◌, Bool, true, false, not, ◌&&◌, ◌||◌, ◌==◌, ◌⊎◌, inl, inr, List, [], ◌∷◌, ◌++◌, map, flat_map, Option, Some, None, is_some, is_none, refl, ap, ◌∙◌, subst, arith}
use Rattle.std.specs.Prelude.{⊤}
use Rattle.std.specs.List.{list_all, AllByRecursion}
use Rattle.std.specs.Option.{option_map_or}
use Rattle.std.proofs.lemmas.Bool.{and_parts, eqb-true}
use Rattle.ir_tables.specs.declared.linkage.Linkage.{Linkage}
use Rattle.ir_tables.specs.declared.linkage.Linkage.TheVariants.{External, Appending, ExternWeak}
use Rattle.ir_tables.specs.Table.{is_distinct}
use Rattle.type_table.specs.Tree.{Tree, array}
use Rattle.module_arena.specs.EntryRules as rules
use Rattle.module_arena.specs.EntryRules.{linkage_suits, is_list_of, is_list_variable}
use Rattle.module_arena.specs.Forms.{is_not_empty}
use Rattle.module_arena.specs.Functions.{blocks}
use Rattle.module_arena.specs.Module.{LocalName, Named, Numbered, Constant, ZeroInitializer, Aggregate, Square, Constants, Parameter, Variable, Alias, Function, Module}
use Rattle.module_arena.specs.Names.{is_local_name, block_results, local_names, is_numbered_from, is_number, is_numbered_as_declared, knows_its_names, has_good_names}
use Rattle.module_arena.specs.Same.{same_local}
use Rattle.module_arena.specs.TypeTests.{is_free_of_names}
use Rattle.module_arena.specs.Valid.{AllHold, variable_demands, alias_demands, function_demands, IsValid}
use Rattle.module_arena.specs.WellFormed.{IsWellFormed, is_good_type, is_good_function}
use Rattle.linkage_rules.specs.Globals.{Global, OfVariable, OfFunction, OfAlias, linkage_of, is_written, globals}
use Rattle.linkage_rules.specs.Linkages.{is_available_externally, is_appending}
use Rattle.linkage_rules.proofs.Entries.{all_follow}
use Rattle.link_rules.specs.Alone.{Stays}
use Rattle.link_rules.proofs.Asked.{of_variables, of_aliases, of_functions}
use Rattle.link_rules.proofs.Parts.{all_true, globals_all}

-- parameters that have the numbers from n on as names
abbrev pub NumberedFrom : ℕ → List Parameter → Type 0
NumberedFrom n [] = ⊤
NumberedFrom n (p ∷ ps) = (p.name ≡ Numbered n) × NumberedFrom (suc n) ps

-- an array that is written as a list in brackets
abbrev pub IsList : Global → Type 0
IsList (OfVariable v) = (n : ℕ) × (t : Tree) × (cs : Constants) × (v.ty ≡ array n t) × (v.initialiser ≡ Some (Aggregate Square cs))
IsList (OfFunction f) = ⊥
IsList (OfAlias a) = ⊥

-- a function whose parameters are numbered
abbrev pub HasNumbers : Global → Type 0
HasNumbers (OfVariable v) = ⊤
HasNumbers (OfFunction f) = NumberedFrom 0 f.parameters
HasNumbers (OfAlias a) = ⊤

-- an entry as linking writes it: no available_externally definition, an appending one as a list in brackets, and a declaration with its linkage and its numbers
pub record IsUnchanged (g : Global) : Type 0 where
  pub written : is_written g ≡ true → is_available_externally (linkage_of g) ≡ false
  pub declared : is_written g ≡ false → (linkage_of g ≡ External) ⊎ (linkage_of g ≡ ExternWeak)
  pub list : is_appending (linkage_of g) ≡ true → IsList g
  pub numbered : is_written g ≡ false → HasNumbers g

all_lead : {A : Type 0} (P Q : A → Type 0) (xs : List A) → AllByRecursion (λ x. P x → Q x) xs → AllByRecursion P xs → AllByRecursion Q xs
all_lead P Q [] f a = tt
all_lead P Q (x ∷ xs) f a = (f.0 a.0, all_lead P Q xs f.1 a.1)

-- LINKAGES

declared_so : (b : Bool) (l : Linkage) → linkage_suits b l ≡ true → b ≡ false → (l ≡ External) ⊎ (l ≡ ExternWeak)
declared_so false External h w = inl refl
declared_so false ExternWeak h w = inr refl
declared_so b l h w = cc

never_appends : (l : Linkage) → not (rules.is_appending l) ≡ true → is_appending l ≡ true → ⊥
never_appends Appending h a = cc
never_appends l h a = cc

where_appending : (l : Linkage) (b : Bool) → is_appending l ≡ true → (not (rules.is_appending l) || b) ≡ true → b ≡ true
where_appending Appending b a h = h
where_appending l b a h = cc

-- LISTS

in_brackets : (v : Variable) (n : ℕ) (t : Tree) (o : Option Constant) → v.ty ≡ array n t → v.initialiser ≡ o → is_list_of n o ≡ true → v.initialiser ≢ Some ZeroInitializer → IsList (OfVariable v)
in_brackets v n t (Some (Aggregate Square cs)) e i h z = (n, t, cs, e, i)
in_brackets v n t (Some ZeroInitializer) e i h z = absurd (z i)
in_brackets v n t o e i h z = cc

is_list : (v : Variable) (t : Tree) → v.ty ≡ t → is_list_variable t v.initialiser ≡ true → v.initialiser ≢ Some ZeroInitializer → IsList (OfVariable v)
is_list v (array n t) e h z = in_brackets v n t v.initialiser e refl (and_parts (is_free_of_names t) (is_list_of n v.initialiser) h).1 z
is_list v t e h z = cc

-- NUMBERS

numbers_stand : (n : ℕ) (ps : List Parameter) (others : List LocalName) → is_numbered_from n (map (λ p. p.name) ps ++ others) ≡ true → list_all is_number (map (λ (p : Parameter). p.name) ps) ≡ true → NumberedFrom n ps
numbers_stand n [] others h k = tt
numbers_stand n (p ∷ ps) others h k = go p.name refl h k (numbers_stand (suc n) ps others)
  where
    names : List LocalName
    names = map (λ (q : Parameter). q.name) ps

    next : n + 1 ≡ suc n
    next = omega arith

    go : (name : LocalName) → p.name ≡ name → is_numbered_from n (name ∷ names ++ others) ≡ true → (is_number name && list_all is_number names) ≡ true
        → (is_numbered_from (suc n) (names ++ others) ≡ true → list_all is_number names ≡ true → NumberedFrom (suc n) ps) → NumberedFrom n (p ∷ ps)
    go (Named name) e h k rest = cc
    go (Numbered i) e h k rest =
        let halves = and_parts (i == n) _ h in
        (e ∙ ap Numbered (eqb-true i n halves.0), rest (subst (λ j. is_numbered_from j (names ++ others) ≡ true) next halves.1) k)

not_written : {A : Type 0} (o : Option A) (b : Bool) → is_some o ≡ false → (not (is_none o) || b) ≡ true → b ≡ true
not_written None b w h = h
not_written (Some x) b w h = cc

good_names : (m : Module) (f : Function) → is_good_function m f ≡ true → has_good_names f ≡ true
good_names m f h =
    let types = and_parts (is_good_type m.structs f.returns) _ h in
    let rest = and_parts (list_all (λ p. is_good_type m.structs p.ty) f.parameters) _ types.1 in
    let names = and_parts (option_map_or is_not_empty f.body true) _ rest.1 in
    (and_parts (has_good_names f) _ names.1).0

parameters_numbered : (f : Function) → has_good_names f ≡ true → is_some f.body ≡ false → NumberedFrom 0 f.parameters
parameters_numbered f h w =
    let apart = and_parts (list_all is_local_name (local_names f)) _ h in
    let order = and_parts (is_distinct same_local (local_names f)) _ apart.1 in
    let numbered = and_parts (is_numbered_from 0 (local_names f)) _ order.1 in
    let declared = and_parts (is_numbered_as_declared f) (knows_its_names f) numbered.1 in
    numbers_stand 0 f.parameters (flat_map (λ block. block.name ∷ block_results block) (blocks f)) numbered.0 (not_written f.body _ w declared.0)

-- ENTRIES

module _ (m : Module) where
  variable_unchanged : (v : Variable) → AllHold (variable_demands m v) → Stays (OfVariable v) → IsUnchanged (OfVariable v)
  variable_unchanged v h s = record {
    written = s.written;
    declared = declared_so (is_some v.initialiser) v.linkage h.0;
    list = λ a. is_list v v.ty refl (where_appending v.linkage _ a h.1.1.0) (s.list a);
    numbered = λ w. tt;
  }

  function_unchanged : (f : Function) → AllHold (function_demands m f) → is_good_function m f ≡ true → Stays (OfFunction f) → IsUnchanged (OfFunction f)
  function_unchanged f h good s = record {
    written = s.written;
    declared = declared_so (is_some f.body) f.linkage h.0;
    list = never_appends f.linkage h.1.1.0;
    numbered = parameters_numbered f (good_names m f good);
  }

  alias_unchanged : (a : Alias) → AllHold (alias_demands m a) → Stays (OfAlias a) → IsUnchanged (OfAlias a)
  alias_unchanged a h s = record {
    written = s.written;
    declared = declared_so true a.linkage h.0;
    list = never_appends a.linkage h.1.1.0;
    numbered = λ w. tt;
  }

  -- what validity and well-formedness ask of an entry does the rest
  pub all_unchanged : IsWellFormed m → IsValid m → AllByRecursion Stays (globals m) → AllByRecursion IsUnchanged (globals m)
  all_unchanged formed valid =
      all_lead Stays IsUnchanged (globals m)
      (globals_all (λ g. Stays g → IsUnchanged g) m
      (all_follow _ _ m.variables variable_unchanged (of_variables m valid))
      (all_lead (λ f. is_good_function m f ≡ true) (λ f. Stays (OfFunction f) → IsUnchanged (OfFunction f)) m.functions (all_follow _ _ m.functions function_unchanged (of_functions m valid)) (all_true (is_good_function m) m.functions formed.functions))
      (all_follow _ _ m.aliases alias_unchanged (of_aliases m valid)))
