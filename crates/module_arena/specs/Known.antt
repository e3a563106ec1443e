-- For the calls of `Arena`: when ids are those of the arena, and what holds of the lists of every arena.
use Rattle.std.specs.Prelude.{◌≡◌, ℕ, zero, suc, ◌+◌, ◌^◌, ◌<◌, ◌↔◌, max, nat_lt, bytes_eq, List, [], ◌∷◌, length, flat_map, All, ⊤, Option, Some, None, option_to_list, if◌then◌else◌}
use Rattle.std.specs.Map.{lookup}
use Rattle.module_arena.specs.declared.arena.TheConstants.{COUNT_LIMIT}
use Rattle.module_arena.specs.declared.constant.Const.{Const}
use Rattle.module_arena.specs.declared.entry.GlobalId.{GlobalId}
use Rattle.module_arena.specs.declared.entry.GlobalId.TheVariants as global
use Rattle.module_arena.specs.declared.entry.Variable.{Variable}
use Rattle.module_arena.specs.declared.entry.Alias.{Alias}
use Rattle.module_arena.specs.declared.entry.AliasType.{AliasType}
use Rattle.module_arena.specs.declared.entry.AliasType.TheVariants as alias_type
use Rattle.module_arena.specs.declared.entry.Body.{Body}
use Rattle.module_arena.specs.declared.entry.Block.{Block}
use Rattle.module_arena.specs.declared.entry.Function.{Function}
use Rattle.module_arena.specs.declared.fault.ArenaFault.{ArenaFault}
use Rattle.module_arena.specs.declared.fault.ArenaFault.TheVariants.{Duplicate, TooMany, Memory}
use Rattle.module_arena.specs.declared.fault.CountKind.{CountKind}
use Rattle.module_arena.specs.declared.fault.CountKind.TheVariants as kind
use Rattle.module_arena.specs.declared.instruction.Inst.{Inst}
use Rattle.module_arena.specs.declared.instruction.Operand.{Operand}
use Rattle.module_arena.specs.declared.instruction.Value.{Value}
use Rattle.module_arena.specs.declared.instruction.Value.TheVariants as value
use Rattle.module_arena.specs.Lists.{Lists, global_name}
use Rattle.module_arena.specs.Mentions.{typed_in, types_in, globals_in, operands_of, bare_values_of, types_of, blocks_of, end_operands_of, targets_of, block_results}

-- how many variables, aliases and functions there are
pub record Counts : Type 0 where
  pub variables : ℕ
  pub aliases : ℕ
  pub functions : ℕ

-- the counts of an arena
abbrev pub counts : Lists → Counts
counts a = record { variables = length a.variables; aliases = length a.aliases; functions = length a.functions }

-- the entry is one of so many
abbrev pub HasGlobal : Counts → GlobalId → Type 0
HasGlobal n (global.Variable id) = id < n.variables
HasGlobal n (global.Function id) = id < n.functions
HasGlobal n (global.Alias id) = id < n.aliases

-- types are below `types`, and the constants in it below `count`
pub record KnowsConst (types : ℕ) (n : Counts) (count : ℕ) (c : Const) : Type 0 where
  pub types_known : All (λ ty. ty < types) (types_in c)
  pub typed_known : All (λ t. (t.ty < types) × (t.value < count)) (typed_in c)
  pub globals_known : All (HasGlobal n) (globals_in c)

-- each constant has earlier ones in it
abbrev pub AllKnownConsts : ℕ → Counts → ℕ → List Const → Type 0
AllKnownConsts types n count [] = ⊤
AllKnownConsts types n count (c ∷ cs) = KnowsConst types n count c × AllKnownConsts types n (count + 1) cs

-- the type is below `types`, and the initialiser below `constants`
pub record KnowsVariable (types constants : ℕ) (v : Variable) : Type 0 where
  pub ty_known : v.ty < types
  pub initialiser_known : All (λ id. id < constants) (option_to_list v.initialiser)

-- the types that an alias writes
abbrev pub alias_types : AliasType → List ℕ
alias_types (alias_type.Plain ty) = ty ∷ []
alias_types (alias_type.Function returns parameters variadic) = returns ∷ parameters

-- types are below `types`, and the target is an entry
pub record KnowsAlias (types : ℕ) (n : Counts) (x : Alias) : Type 0 where
  pub types_known : All (λ ty. ty < types) (alias_types x.ty)
  pub target_known : All (HasGlobal n) (option_to_list x.target)

-- a value is below `values`, or a constant below `constants`
abbrev pub HasValue : ℕ → ℕ → Value → Type 0
HasValue constants values (value.Local id) = id < values
HasValue constants values (value.Known id) = id < constants

-- so many numbers from the first on
unfoldable pub upto : ℕ → ℕ → List ℕ
upto first zero = []
upto first (suc count) = first ∷ upto (first + 1) count

-- the type is below `types`, and the value is there
abbrev pub HasOperand : ℕ → ℕ → ℕ → Operand → Type 0
HasOperand types constants values o = (o.ty < types) × HasValue constants values o.value

-- the ids of an instruction are below these counts
pub record KnowsInst (types constants values blocks : ℕ) (i : Inst) : Type 0 where
  pub operands_known : All (HasOperand types constants values) (operands_of i)
  pub values_known : All (HasValue constants values) (bare_values_of i)
  pub types_known : All (λ ty. ty < types) (types_of i)
  pub blocks_known : All (λ id. id < blocks) (blocks_of i)

-- the ids of a block are below these counts
pub record KnowsBlock (types constants values blocks : ℕ) (b : Block) : Type 0 where
  pub instructions_known : All (KnowsInst types constants values blocks) b.instructions
  pub operands_known : All (HasOperand types constants values) (end_operands_of b.end)
  pub targets_known : All (λ id. id < blocks) (targets_of b.end)

-- the body of a function with so many parameters: results are numbered in order, and each has a name
pub record KnowsBody (types constants parameters : ℕ) (b : Body) : Type 0 where
  pub few_values : parameters + length b.results < 2 ^ 32
  pub few_blocks : length b.blocks < 2 ^ 32
  pub in_order : flat_map block_results b.blocks ≡ upto parameters (length b.results)
  pub blocks_known : All (KnowsBlock types constants (parameters + length b.results) (length b.blocks)) b.blocks

-- the ids of a function are below these counts, and its body suits its parameters
pub record KnowsFunction (types constants : ℕ) (f : Function) : Type 0 where
  pub result_known : f.result < types
  pub parameters_known : All (λ p. p.ty < types) f.parameters
  pub body_known : All (KnowsBody types constants (length f.parameters)) (option_to_list f.body)

-- ---- counts

-- what is counted for the aliases: with the declarations that may stand for them, no list gets too long
abbrev pub counted_aliases : ℕ → ℕ → ℕ → ℕ
counted_aliases zero variables functions = 0
counted_aliases (suc aliases) variables functions = suc aliases + max variables functions

-- the first list that is too long, and how long it is
abbrev pub first_excess : Counts → Option (CountKind × ℕ)
first_excess n =
    if nat_lt COUNT_LIMIT n.variables then Some (kind.Variables, n.variables)
    else (if nat_lt COUNT_LIMIT n.functions then Some (kind.Functions, n.functions)
    else (if nat_lt COUNT_LIMIT (counted_aliases n.aliases n.variables n.functions) then Some (kind.Aliases, counted_aliases n.aliases n.variables n.functions)
    else None))

-- ---- every arena

-- no two entries have one name
abbrev pub AreDistinct : Lists → Type 0
AreDistinct a = (name : List ℕ) (g h : GlobalId) → global_name a g ≡ Some name → global_name a h ≡ Some name → g ≡ h

-- what holds of the lists of every arena
pub record IsGood (a : Lists) : Type 0 where
  pub few : first_excess (counts a) ≡ None
  pub constants : AllKnownConsts (length a.table.types) (counts a) 0 a.constants
  pub variables : All (KnowsVariable (length a.table.types) (length a.constants)) a.variables
  pub aliases : All (KnowsAlias (length a.table.types) (counts a)) a.aliases
  pub functions : All (KnowsFunction (length a.table.types) (length a.constants)) a.functions

-- an entry is found exactly by its name
abbrev pub FindsNames : List (List ℕ × GlobalId) → Lists → Type 0
FindsNames entries a = (name : List ℕ) (g : GlobalId) → (lookup (bytes_eq name) entries ≡ Some g) ↔ (global_name a g ≡ Some name)

-- the ids are known, and the map of names finds each entry
pub record IsArena (entries : List (List ℕ × GlobalId)) (a : Lists) : Type 0 where
  pub good : IsGood a
  pub finds : FindsNames entries a

-- ---- refusals

-- why an entry of that name is not declared, after which there would be so many
abbrev pub HasFault : Lists → List ℕ → Counts → ArenaFault → Type 0
HasFault a name n (Duplicate g) = global_name a g ≡ Some name
HasFault a name n (TooMany counted many) = ((g : GlobalId) → ¬ (global_name a g ≡ Some name)) × (first_excess n ≡ Some (counted, many))
HasFault a name n Memory = ⊤
