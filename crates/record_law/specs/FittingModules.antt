-- For `modules_are_read_back`: what a module must be so that its records are read back.
use Rattle.std.specs.Prelude.{◌≡◌, ℕ, suc, ◌+◌, max, nat_lt, nat_le, Bool, true, false, List, [], ◌∷◌, ◌++◌, length, zip, is_some, Option, Some, None, Ok, ⊤}
use Rattle.std.specs.List.{AllByRecursion, fold}
use Rattle.module_arena.specs.declared.arena.TheConstants.{COUNT_LIMIT}
use Rattle.module_arena.specs.Module.{Bytes, Block, Variable, Function, Alias, Module}
use Rattle.record_table.specs.Fields.{Texts, Numbering}
use Rattle.record_table.specs.Listed.{IsType, IsName, AreBytes}
use Rattle.record_table.specs.FittingLines.{IfSome}
use Rattle.record_table.specs.Faults.{Answer}
use Rattle.record_table.specs.Bodies.{numbers_from}
use Rattle.record_table.specs.Records.{Sofar, may_follow, types_rank, variables_rank, functions_rank, aliases_rank, is_new, types_of, parameters_of, module_of}
use Rattle.record_table.specs.Spelling.{texts_of, texts_in, numbering}
use Rattle.record_law.specs.Bodies.FittingBodies.{BodyFits}
use Rattle.record_law.specs.Types.ReadTypes.{TypesAreRead}
use Rattle.record_law.specs.FittingEntries.{VariableFits, AliasFits}

-- what its record says of a function
abbrev pub declared : Function → Function
declared f = record f { parameters = parameters_of (zip (types_of f) (numbers_from 0 (length (types_of f)))); body = None }

-- a function whose body is not due
abbrev pub settled : Function → Bool × Function
settled f = (false, f)

-- before its body is read
abbrev pub due : Function → Bool × Function
due f = (is_some f.body, declared f)

-- what changes as variables, functions and aliases are read
pub record Globals : Type 0 where
  pub at : ℕ
  pub last : ℕ
  pub variables : List Variable
  pub functions : List (Bool × Function)
  pub aliases : List Alias

-- what is read so far, with these
abbrev pub with_globals : Sofar → Globals → Sofar
with_globals s g = record s { at = g.at; last = g.last; variables = g.variables; functions = g.functions; aliases = g.aliases }

-- each fits behind those before it
abbrev pub EachFits : {A : Type 0} → (Globals → A → Globals) → (Globals → A → Type 0) → Globals → List A → Type 0
EachFits next fits g [] = ⊤
EachFits next fits g (x ∷ xs) = fits g x × EachFits next fits (next g x) xs

-- what is there behind a variable
abbrev pub after_variable : Globals → Variable → Globals
after_variable g v = record g { at = suc g.at; last = variables_rank; variables = g.variables ++ v ∷ [] }

-- behind a function
abbrev pub after_function : Globals → Function → Globals
after_function g f = record g { at = suc g.at; last = functions_rank; functions = g.functions ++ due f ∷ [] }

-- behind an alias
abbrev pub after_alias : Globals → Alias → Globals
after_alias g a = record g { at = suc g.at; last = aliases_rank; aliases = g.aliases ++ a ∷ [] }

-- behind the block of types, before any of these
abbrev pub none_yet : ℕ → Globals
none_yet at = record { at = at; last = types_rank; variables = []; functions = []; aliases = [] }

-- behind all variables
abbrev pub behind_variables : List Variable → ℕ → Globals
behind_variables vs at = fold after_variable (none_yet at) vs

-- and all functions
abbrev pub behind_functions : List Variable → List Function → ℕ → Globals
behind_functions vs fs at = fold after_function (behind_variables vs at) fs

module _ (s : Sofar) where
  -- a variable that fits, has a new name and is not one too many
  abbrev pub VariableFollows : Globals → Variable → Type 0
  VariableFollows g v =
      VariableFits s.texts s.k v
      × (may_follow g.last variables_rank ≡ true)
      × (nat_lt (length g.variables) COUNT_LIMIT ≡ true)
      × (is_new (with_globals s g) v.name ≡ true)

  -- a function whose record fits, with a new name, and not one too many
  abbrev pub FunctionFollows : Globals → Function → Type 0
  FunctionFollows g f =
      (IsName s.texts f.name × IsType s.k f.returns × AllByRecursion (IsType s.k) (types_of f))
      × (may_follow g.last functions_rank ≡ true) × (nat_lt (length g.functions) COUNT_LIMIT ≡ true) × (is_new (with_globals s g) f.name ≡ true)

  -- an alias that fits
  abbrev pub AliasFollows : Globals → Alias → Type 0
  AliasFollows g a = AliasFits s.texts s.k a × (may_follow g.last aliases_rank ≡ true)
      × (nat_le (suc (length g.aliases) + max (length g.variables) (length g.functions)) COUNT_LIMIT ≡ true) × (is_new (with_globals s g) a.name ≡ true)

-- a declaration is what its record says; a body fits
abbrev pub PartsFit : Texts → Numbering → Function → Option (List Block) → Type 0
PartsFit texts k f None = declared f ≡ f
PartsFit texts k f (Some blocks) = BodyFits texts k f blocks

-- a function with its body or without
abbrev pub FunctionFits : Texts → Numbering → Function → Type 0
FunctionFits texts k f = PartsFit texts k f f.body

-- what stands behind the types: each fits where it stands
pub record TailFits (s : Sofar) (vs : List Variable) (fs : List Function) (all : List Alias) (at : ℕ) : Type 0 where
  pub variables_fit : EachFits after_variable (VariableFollows s) (none_yet at) vs
  pub functions_fit : EachFits after_function (FunctionFollows s) (behind_variables vs at) fs
  pub aliases_fit : EachFits after_alias (AliasFollows s) (behind_functions vs fs at) all
  pub bodies_fit : AllByRecursion (FunctionFits s.texts s.k) fs

-- a module is read
pub record IsRead (m : Module) (answer : Answer Sofar) : Type 0 where
  pub sofar : Sofar
  pub is : answer ≡ Ok sofar
  pub same : module_of sofar ≡ m

-- what is read behind the types
abbrev pub behind_types : Module → ℕ → Sofar
behind_types m at = record {
  texts = texts_in m;
  at = at;
  last = types_rank;
  source = m.source;
  layout = m.layout;
  triple = m.triple;
  variables = [];
  functions = [];
  aliases = [];
  k = numbering m;
}

-- one record more, where there is a text
abbrev pub at_text : ℕ → Option Bytes → ℕ
at_text at None = at
at_text at (Some t) = suc at

-- how many records stand in front of the types: the producer, the table, VERSION and the texts
abbrev pub at_types : Module → ℕ
at_types m = at_text (at_text (at_text 3 m.source) m.layout) m.triple

-- A module is read back where its texts are bytes that its table holds, its globals have names, its types are read, and
-- what stands behind them fits
pub record ModuleFits (m : Module) : Type 0 where
  pub texts_are_bytes : AllByRecursion AreBytes (texts_of m)
  pub source_is_held : IfSome (λ t. (texts_in m).holds t ≡ true) m.source
  pub layout_is_held : IfSome (λ t. (texts_in m).holds t ≡ true) m.layout
  pub triple_is_held : IfSome (λ t. (texts_in m).holds t ≡ true) m.triple
  pub variables_are_named : AllByRecursion (λ v. IsName (texts_in m) v.name) m.variables
  pub functions_are_named : AllByRecursion (λ f. IsName (texts_in m) f.name) m.functions
  pub aliases_are_named : AllByRecursion (λ a. IsName (texts_in m) a.name) m.aliases
  pub types_are_read : TypesAreRead m (at_types m)
  pub tail_fits : TailFits (behind_types m types_are_read.all.at) m.variables m.functions m.aliases types_are_read.all.at
