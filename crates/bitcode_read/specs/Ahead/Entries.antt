-- For `declare_entries`: the entries that the records of a module's block declare.
use Rattle.std.specs.Prelude.{◌≡◌, ◌⊎◌, ◌+◌, ℕ, suc, nat_eq, nat_lt, Bool, true, false, List, [], ◌∷◌, length, drop, slice_get, Option, Some, None, slice_index_or, if◌then◌else◌}
use Rattle.std.specs.Option.{option_map_or}
use Rattle.ir_tables.specs.declared.linkage.Linkage.{Linkage}
use Rattle.module_arena.specs.declared.entry.Alias.{Alias}
use Rattle.module_arena.specs.declared.entry.AliasType.{AliasType}
use Rattle.module_arena.specs.declared.entry.Function.{Function}
use Rattle.module_arena.specs.declared.entry.GlobalId.{GlobalId}
use Rattle.module_arena.specs.declared.entry.LocalName as the_local
use Rattle.module_arena.specs.declared.entry.LocalName.TheVariants as local
use Rattle.module_arena.specs.declared.entry.Parameter.{Parameter}
use Rattle.module_arena.specs.declared.entry.Variable.{Variable}
use Rattle.module_arena.specs.declared.fault.ArenaFault.{ArenaFault}
use Rattle.module_arena.specs.declared.fault.ArenaFault.TheVariants.{Memory}
use Rattle.module_arena.specs.Changes.{with_variable, with_function, with_alias}
use Rattle.module_arena.specs.Known.{counts, first_excess}
use Rattle.module_arena.specs.Lists.{Lists, global_name}
use Rattle.module_arena.specs.Module.{Bytes}
use Rattle.record_table.specs.Faults.{Records, no_more, a_block, a_record}
use Rattle.record_table.specs.Fields.{Texts}
use Rattle.record_table.specs.Layout.{Layout}
use Rattle.record_table.specs.Walk.{Walk, going}
use Rattle.record_read.specs.Reader.{IsBroken}
use Rattle.body_read.specs.declared.ahead.ahead.BodyAhead.{BodyAhead}
use Rattle.bitcode_read.specs.Ahead.Bodies.{names_given}
use Rattle.bitcode_read.specs.Head.Ahead.{one_where}
use Rattle.bitcode_read.specs.Head.Fronts.{VariableFields, FunctionFields, AliasFields, variable_front, function_front, alias_front, kept_alias_type, function_defined, name_in}

-- ---- entries, of which nothing is known but what their records begin with

-- a variable without an initialiser
abbrev pub variable_entry : VariableFields → Variable
variable_entry (name, (linkage, (constant, (ty, alignment)))) =
    record { name = name; linkage = linkage; constant = constant; ty = ty; alignment = alignment; initialiser = None }

-- what stands at that place of these names, or its number where they are fewer
abbrev pub name_or_number : List the_local.LocalName → ℕ → the_local.LocalName
name_or_number names place = slice_index_or names place (local.Numbered place)

-- parameters of these types, from that place on: called so, and numbered where nothing calls them
abbrev pub parameters_called : List the_local.LocalName → ℕ → List ℕ → List Parameter
parameters_called names place [] = []
parameters_called names place (t ∷ ts) = record { ty = t; name = name_or_number names place } ∷ parameters_called names (suc place) ts

-- a function without a body, whose parameters are called so
abbrev pub function_entry : List the_local.LocalName → FunctionFields → Function
function_entry names (name, (linkage, (defined, (returns, (variadic, types))))) =
    record { name = name; linkage = linkage; result = returns; parameters = parameters_called names 0 types; variadic = variadic; body = None }

-- an alias without a target
abbrev pub alias_entry : AliasFields → Alias
alias_entry (name, (linkage, ty)) = record { name = name; linkage = linkage; ty = kept_alias_type ty; target = None }

-- ---- what is declared

-- No entry more is declared than these: the record breaks a rule, its name is there, or there are too many entries with it.
pub record IsRefused (a after final : Lists) (name : Bytes) (w : Walk) : Type 0 where
  pub stays : final ≡ a
  pub cause : IsBroken w ⊎ (((g : GlobalId) × (global_name a g ≡ Some name)) ⊎ (first_excess (counts after) ≡ None → ⊥))

-- what the names of the parameters are, of a function that is defined or not, where the bodies that come give these
abbrev pub names_for : Bool → List (List the_local.LocalName) → List the_local.LocalName
names_for false all = []
names_for true [] = []
names_for true (names ∷ all) = names

-- those that the bodies behind it give
abbrev pub names_behind : Bool → List (List the_local.LocalName) → List (List the_local.LocalName)
names_behind false all = all
names_behind true [] = []
names_behind true (names ∷ all) = all

-- what a record declares
pub data Declaring : Type 0 where
  a_variable : Declaring
  a_function : Declaring
  an_alias : Declaring
  nothing : Declaring

-- by its code
abbrev pub declaring : ℕ → Declaring
declaring code = if nat_eq code 5 then a_variable else (if nat_eq code 6 then a_function else (if nat_eq code 7 then an_alias else nothing))

-- whether it is an entry
abbrev pub is_entry : Declaring → Bool
is_entry a_variable = true
is_entry a_function = true
is_entry an_alias = true
is_entry nothing = false

-- how many of these records declare entries
abbrev pub entry_count : Records → ℕ
entry_count no_more = 0
entry_count (a_block id inside behind) = entry_count behind
entry_count (a_record code operands behind) = one_where (is_entry (declaring code)) + entry_count behind

-- what stands in front in a record, and the walk behind it
abbrev pub front_of : {A : Type 0} → Layout A → List ℕ → A × Walk
front_of l operands = l.read (going operands None)

module _ (texts : Texts) (types : ℕ) (final : Lists) where
  -- An entry more is declared behind these, and those behind it; or none more is.
  abbrev pub DeclaresOne : List (List the_local.LocalName) → Lists → List ℕ → (List (List the_local.LocalName) → Lists → Type 0) → Declaring → Type 0
  DeclaresOne names a operands behind a_variable =
      let (front, walk) = front_of (variable_front texts types) operands in let after = with_variable a (variable_entry front) in
      IsRefused a after final (name_in front) walk ⊎ behind names after
  DeclaresOne names a operands behind a_function =
      let (front, walk) = front_of (function_front texts types) operands in
      let after = with_function a (function_entry (names_for (function_defined front) names) front) in
      IsRefused a after final (name_in front) walk ⊎ behind (names_behind (function_defined front) names) after
  DeclaresOne names a operands behind an_alias =
      let (front, walk) = front_of (alias_front texts types) operands in let after = with_alias a (alias_entry front) in
      IsRefused a after final (name_in front) walk ⊎ behind names after
  DeclaresOne names a operands behind nothing = behind names a

  -- The arena has, behind these entries, those of the records, up to one that is refused. The functions that are defined have
  -- their parameters called by these names, in order.
  abbrev pub Declares : List (List the_local.LocalName) → Lists → Records → Type 0
  Declares names a no_more = final ≡ a
  Declares names a (a_block id inside behind) = Declares names a behind
  Declares names a (a_record code operands behind) = DeclaresOne names a operands (λ later after. Declares later after behind) (declaring code)

-- ---- one entry

-- an entry more is there, or none, for a cause
abbrev pub IsAdded : Lists → Lists → Bytes → Bool → Lists → Type 0
IsAdded old after name true new = new ≡ after
IsAdded old after name false new = (new ≡ old) × (((g : GlobalId) × (global_name old g ≡ Some name)) ⊎ (first_excess (counts after) ≡ None → ⊥))

-- it was not added, and memory did not run out
abbrev pub IsRefusal : ArenaFault → Bool → Type 0
IsRefusal Memory is = ⊥
IsRefusal _ is = is ≡ false

-- the same of an entry whose record may break a rule
abbrev pub IsDeclared : Lists → Lists → Bytes → Walk → Bool → Lists → Type 0
IsDeclared old after name w true new = new ≡ after
IsDeclared old after name w false new = IsRefused old after new name w

-- all that a front has, where it is known
abbrev pub whole_variable : Option Bytes → Linkage → Bool → Option ℕ → Option ℕ → Option Variable
whole_variable (Some name) linkage constant (Some ty) alignment = Some (variable_entry (name, (linkage, (constant, (ty, alignment)))))
whole_variable (Some name) linkage constant None alignment = None
whole_variable None linkage constant ty alignment = None

-- the same of a function
abbrev pub whole_function : List the_local.LocalName → Option Bytes → Linkage → Option ℕ → Bool → Option (List ℕ) → Option Function
whole_function names (Some name) linkage (Some returns) variadic (Some types) = Some (function_entry names (name, (linkage, (true, (returns, (variadic, types))))))
whole_function names (Some name) linkage (Some returns) variadic None = None
whole_function names (Some name) linkage None variadic types = None
whole_function names None linkage returns variadic types = None

-- the same of an alias
abbrev pub whole_alias : Option Bytes → Linkage → Option AliasType → Option Alias
whole_alias (Some name) linkage (Some ty) = Some (record { name = name; linkage = linkage; ty = ty; target = None })
whole_alias (Some name) linkage None = None
whole_alias None linkage ty = None

-- ---- one record

-- so many of these lists of names are used; behind an entry that is declared as many more as it takes
abbrev pub StepsOn : List (List the_local.LocalName) → List (List the_local.LocalName) → Lists → Lists → Bytes → Walk → Option ℕ → Lists → Type 0
StepsOn all later after old name w None new = IsRefused old after new name w
StepsOn all later after old name w (Some used) new = (new ≡ after) × (drop used all ≡ later)

module _ (texts : Texts) (all : List (List the_local.LocalName)) (used : ℕ) (operands : List ℕ) (old : Lists) where
  -- the front of a variable's record was read, and the variable declared or not
  abbrev pub DeclaresVariable : Bool → Lists → Type 0
  DeclaresVariable is new =
      let (front, walk) = front_of (variable_front texts (length old.table.types)) operands in
      IsDeclared old (with_variable old (variable_entry front)) (name_in front) walk is new

  -- the same of an alias
  abbrev pub DeclaresAlias : Bool → Lists → Type 0
  DeclaresAlias is new =
      let (front, walk) = front_of (alias_front texts (length old.table.types)) operands in
      IsDeclared old (with_alias old (alias_entry front)) (name_in front) walk is new

  -- the same of a function, whose body gives it the names that were not used yet
  abbrev pub DeclaresFunction : Option ℕ → Lists → Type 0
  DeclaresFunction now new =
      let (front, walk) = front_of (function_front texts (length old.table.types)) operands in let names = drop used all in
      let after = with_function old (function_entry (names_for (function_defined front) names) front) in
      StepsOn all (names_behind (function_defined front) names) after old (name_in front) walk now new

  -- an entry that uses no names
  abbrev pub StepsBy : (Bool → Lists → Type 0) → Option ℕ → Lists → Type 0
  StepsBy declares None new = declares false new
  StepsBy declares (Some now) new = declares true new × (now ≡ used)

  -- a record by what it declares
  abbrev pub DeclaresBy : Declaring → Option ℕ → Lists → Type 0
  DeclaresBy a_variable now new = StepsBy DeclaresVariable now new
  DeclaresBy a_function now new = DeclaresFunction now new
  DeclaresBy an_alias now new = StepsBy DeclaresAlias now new
  DeclaresBy nothing now new = (now ≡ Some used) × (new ≡ old)

-- the names that the body of that place gives
abbrev pub names_of_place : List BodyAhead → ℕ → List the_local.LocalName
names_of_place bodies place = option_map_or names_given (slice_get bodies place) []

-- how many bodies are used behind a function that is defined or not, where there are so many
abbrev pub used_with : Bool → ℕ → ℕ → ℕ
used_with false used count = used
used_with true used count = if nat_lt used count then suc used else used
