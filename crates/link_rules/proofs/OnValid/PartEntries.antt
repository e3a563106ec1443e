-- Each entry of parts is one of its part's variables, functions or aliases, and what is known of those is known of it.
use Rattle.std.proofs.Common.{◌≡◌, ℕ, zero, suc, ◌+◌, Bool, true, false, not, ◌&&◌, ◌||◌, List, [], ◌∷◌, ◌++◌, map, Option, Some, None, refl, sym, ap, ◌∙◌, subst, is_some, is_none, arith}
use Rattle.std.specs.Prelude.{slice_get, slice_index_or}
use Rattle.std.specs.List.{AllByRecursion}
use Rattle.std.specs.Option.{option_map_or}
use Rattle.std.proofs.lemmas.Bool.{and_from, and_parts, and_right, both_ways, false_from_ne_true, not-true}
use Rattle.linkage_rules.proofs.Gathered.{all_joined, all_mapped}
use Rattle.ir_tables.specs.declared.linkage.Linkage.{Linkage}
use Rattle.ir_tables.specs.declared.linkage.Linkage.TheVariants.{External, Private, Internal, Common, Appending, ExternWeak, AvailableExternally, Linkonce, LinkonceOdr, Weak, WeakOdr}
use Rattle.module_arena.specs.Module.{Variable, Alias, Function, Module, empty_module}
use Rattle.module_arena.specs.declared.host.HostRow.{HostRow}
use Rattle.module_arena.specs.HostRows.{host_row, is_declared_as}
use Rattle.module_arena.specs.EntryRules.{linkage_suits, is_llvm_name, is_appending, variable_name_suits, is_constructor_list, is_used_list}
use Rattle.module_arena.specs.Valid.{AllHold, IsValid, variable_demands, alias_demands, function_demands}
use Rattle.module_arena.specs.WellFormed.{IsWellFormed}
use Rattle.module_arena.proofs.Parts.{valid_variable, valid_alias, valid_function}
use Rattle.linkage_rules.specs.Globals.{Global, OfVariable, OfFunction, OfAlias, name_of, linkage_of, is_written, globals}
use Rattle.linkage_rules.specs.Linkages.{is_local, is_available_externally}
use Rattle.linkage_rules.specs.Entries.{Entry, entries_from, entries, part_at}
use Rattle.linkage_rules.specs.Winner.{is_definition}
use Rattle.linkage_rules.proofs.Entries.{all_follow}

-- where a module has it
abbrev pub HasAt : Module → Global → Type 0
HasAt m (OfVariable v) = (k : ℕ) × (slice_get m.variables k ≡ Some v)
HasAt m (OfFunction f) = (k : ℕ) × (slice_get m.functions k ≡ Some f)
HasAt m (OfAlias a) = (k : ℕ) × (slice_get m.aliases k ≡ Some a)

-- what is asked of it
abbrev pub EntryHolds : Module → Global → Type 0
EntryHolds m (OfVariable v) = AllHold (variable_demands m v)
EntryHolds m (OfFunction f) = AllHold (function_demands m f)
EntryHolds m (OfAlias a) = AllHold (alias_demands m a)

pub entry_holds : (m : Module) (g : Global) → IsValid m → HasAt m g → EntryHolds m g
entry_holds m (OfVariable v) valid at = valid_variable m at.0 v valid at.1
entry_holds m (OfFunction f) valid at = valid_function m at.0 f valid at.1
entry_holds m (OfAlias a) valid at = valid_alias m at.0 a valid at.1

slots : {A : Type 0} (xs : List A) → AllByRecursion (λ x. (k : ℕ) × (slice_get xs k ≡ Some x)) xs
slots [] = tt
slots (x ∷ xs) = ((0, refl), all_follow (λ y. (k : ℕ) × (slice_get xs k ≡ Some y)) (λ y. (k : ℕ) × (slice_get (x ∷ xs) k ≡ Some y)) xs (λ y p. (suc p.0, p.1)) (slots xs))

globals_at : (m : Module) → AllByRecursion (HasAt m) (globals m)
globals_at m =
    all_joined (HasAt m) (map OfVariable m.variables ++ map OfFunction m.functions) (map OfAlias m.aliases)
    (all_joined (HasAt m) (map OfVariable m.variables) (map OfFunction m.functions) (all_mapped (HasAt m) OfVariable m.variables (slots m.variables)) (all_mapped (HasAt m) OfFunction m.functions (slots m.functions)))
    (all_mapped (HasAt m) OfAlias m.aliases (slots m.aliases))

entries_from_at : (i : ℕ) (ms : List Module) (look : ℕ → Module) → ((k : ℕ) → look (i + k) ≡ slice_index_or ms k empty_module) → AllByRecursion (λ e. HasAt (look e.part) e.global) (entries_from i ms)
entries_from_at i [] look same = tt
entries_from_at i (m ∷ ms) look same =
    all_joined (λ e. HasAt (look e.part) e.global) (map (λ g. let e : Entry = record { part = i; global = g } in e) (globals m)) (entries_from (suc i) ms)
    (all_mapped (λ e. HasAt (look e.part) e.global) (λ g. let e : Entry = record { part = i; global = g } in e) (globals m)
    (subst (λ (n : Module). AllByRecursion (HasAt n) (globals m)) (sym (ap look zero_more ∙ same 0)) (globals_at m)))
    (entries_from_at (suc i) ms look (λ k. ap look (moved k) ∙ same (suc k)))
  where
    zero_more : i ≡ i + 0
    zero_more = omega arith

    moved : (k : ℕ) → suc i + k ≡ i + suc k
    moved k = omega arith

pub entries_at : (parts : List Module) → AllByRecursion (λ e. HasAt (part_at parts e.part) e.global) (entries parts)
entries_at parts = entries_from_at 0 parts (part_at parts) (λ k. ap (part_at parts) (none k))
  where
    none : (k : ℕ) → 0 + k ≡ k
    none k = omega arith

-- what holds of all parts, and of a module of nothing, holds at each number
pub at_part : (P : Module → Type 0) (parts : List Module) (i : ℕ) → P empty_module → AllByRecursion P parts → P (part_at parts i)
at_part P [] i e a = e
at_part P (m ∷ parts) zero e a = a.0
at_part P (m ∷ parts) (suc i) e a = at_part P parts i e a.1

pub empty_good : IsWellFormed empty_module
empty_good = record { texts = refl; few = refl; struct_names = refl; global_names = refl; structs = refl; variables = refl; aliases = refl; functions = refl; constants = refl }

pub empty_valid : IsValid empty_module
empty_valid = (refl, tt)

-- LINKAGES AND NAMES OF VALID ENTRIES

-- what is kept to a part is defined
pub local_written : (b : Bool) (l : Linkage) → linkage_suits b l ≡ true → is_local l ≡ true → b ≡ true
local_written true l h k = refl
local_written false Private h k = cc
local_written false Internal h k = cc
local_written false External h k = cc
local_written false ExternWeak h k = cc
local_written false Common h k = cc
local_written false Appending h k = cc
local_written false AvailableExternally h k = cc
local_written false Linkonce h k = cc
local_written false LinkonceOdr h k = cc
local_written false Weak h k = cc
local_written false WeakOdr h k = cc

local_here : (l : Linkage) → is_local l ≡ true → not (is_available_externally l) ≡ true
local_here Private k = refl
local_here Internal k = refl
local_here External k = cc
local_here ExternWeak k = cc
local_here Common k = cc
local_here Appending k = cc
local_here AvailableExternally k = cc
local_here Linkonce k = cc
local_here LinkonceOdr k = cc
local_here Weak k = cc
local_here WeakOdr k = cc

pub local_unappended : (l : Linkage) → is_local l ≡ true → is_appending l ≡ false
local_unappended Private k = refl
local_unappended Internal k = refl
local_unappended Appending k = cc
local_unappended External k = refl
local_unappended ExternWeak k = refl
local_unappended Common k = refl
local_unappended AvailableExternally k = refl
local_unappended Linkonce k = refl
local_unappended LinkonceOdr k = refl
local_unappended Weak k = refl
local_unappended WeakOdr k = refl

pub local_defined : (m : Module) (e : Entry) → EntryHolds m e.global → is_local (linkage_of e.global) ≡ true → is_definition e ≡ true
local_defined m e h local = and_from (is_written e.global) _ (go e.global h local) (local_here (linkage_of e.global) local)
  where
    go : (g : Global) → EntryHolds m g → is_local (linkage_of g) ≡ true → is_written g ≡ true
    go (OfVariable v) h local = local_written (is_some v.initialiser) v.linkage h.0 local
    go (OfFunction f) h local = local_written (is_some f.body) f.linkage h.0 local
    go (OfAlias a) h local = refl

-- a variable that is not appending has no name that begins `llvm.`
pub variable_plain : (m : Module) (v : Variable) → AllHold (variable_demands m v) → is_appending v.linkage ≡ false → is_llvm_name v.name ≡ false
variable_plain m v h plain = false_from_ne_true _ (λ e. go (is_llvm_name v.name) e (and_parts (variable_name_suits m v) _ h.1.1.1.0).0)
  where
    list_at : (b : Bool) (r : Bool) → (b && (is_appending v.linkage && r)) ≡ false
    list_at b r = and_right b _ (ap (λ a. a && r) plain)

    go : (b : Bool) → b ≡ true → (not b || (is_constructor_list m v || is_used_list v)) ≡ true → ⊥
    go true e h = neither (is_constructor_list m v) (is_used_list v) (list_at _ _) (list_at _ _) h
      where
        neither : (a b : Bool) → a ≡ false → b ≡ false → (a || b) ≡ true → ⊥
        neither false false p q h = cc
        neither true b p q h = cc
        neither false true p q h = cc
    go false e h = cc

-- nor has a function that is defined
pub function_plain : (m : Module) (f : Function) → AllHold (function_demands m f) → is_some f.body ≡ true → is_llvm_name f.name ≡ false
function_plain m f h defined = false_from_ne_true _ (λ e. go (is_llvm_name f.name) e h.1.1.1.0)
  where
    body_none : is_none f.body ≡ false
    body_none = by (f.body) defined
      where
        by : {A : Type 0} (o : Option A) → is_some o ≡ true → is_none o ≡ false
        by (Some x) h = refl
        by None h = cc

    by_row : (o : Option HostRow) → option_map_or (λ row. is_declared_as row f) o false ≡ true → ⊥
    by_row None h = cc
    by_row (Some row) h = both_ways _ body_none (and_parts (is_none f.body) _ h).0

    go : (b : Bool) → b ≡ true → (not b || option_map_or (λ row. is_declared_as row f) (host_row f.name) false) ≡ true → ⊥
    go true e h = by_row (host_row f.name) h
    go false e h = cc

-- nor has an alias
pub alias_plain : (m : Module) (a : Alias) → AllHold (alias_demands m a) → is_llvm_name a.name ≡ false
alias_plain m a h = not-true _ (and_parts (not (is_llvm_name a.name)) _ h.1.1.1.0).0

-- what is kept to a part has no name that begins `llvm.`
pub local_name_plain : (m : Module) (g : Global) → EntryHolds m g → is_local (linkage_of g) ≡ true → is_llvm_name (name_of g) ≡ false
local_name_plain m (OfVariable v) h local = variable_plain m v h (local_unappended v.linkage local)
local_name_plain m (OfFunction f) h local = function_plain m f h (local_written (is_some f.body) f.linkage h.0 local)
local_name_plain m (OfAlias a) h local = alias_plain m a h
