-- For `declare_variables`: what holds while the entries of an arena are declared in another.
use Rattle.std.specs.Prelude.{◌≡◌, ℕ, ◌+◌, ◌≤◌, List, [], ◌∷◌, Option, Some, None}
use Rattle.module_arena.specs.declared.entry.GlobalId.{GlobalId}
use Rattle.module_arena.specs.Known.{Counts, counts, HasGlobal}
use Rattle.module_arena.specs.Lists.{Lists, global_name}
use Rattle.module_arena.specs.Module.{Bytes}
use Rattle.item_build.specs.Types.Declarations.{AreUntargeted}
use Rattle.extract_core.specs.declared.fates.fates.Fate.{Fate}
use Rattle.extract_core.specs.declared.fates.fates.Fate.TheVariants.{Kept, Declared, LeftOut}

-- ---- how far it is

-- so many of the variables are through, and nothing else
abbrev pub variables_through : ℕ → Counts
variables_through id = record { variables = id; aliases = 0; functions = 0 }

-- ---- names

-- each entry of b has the name of one of the first so many entries of a
abbrev pub StandsFor : Lists → Counts → Lists → Type 0
StandsFor a n b = (g : GlobalId) (name : Bytes) → global_name b g ≡ Some name → (h : GlobalId) × HasGlobal n h × (global_name a h ≡ Some name)

-- each entry keeps its name
abbrev pub KeepsNames : Lists → Lists → Type 0
KeepsNames a b = (g : GlobalId) (name : Bytes) → global_name a g ≡ Some name → global_name b g ≡ Some name

-- ---- counts

-- There are at most so many, but that aliases may have become variables or functions.
pub record AreFewer (n now : Counts) : Type 0 where
  pub as_variables : ℕ
  pub as_functions : ℕ
  pub variables : now.variables ≤ n.variables + as_variables
  pub functions : now.functions ≤ n.functions + as_functions
  pub aliases : now.aliases + (as_variables + as_functions) ≤ n.aliases

-- Of the entries of a, the first so many are declared in b where they are not left out, and nothing else is.
pub record IsDeclaring (a : Lists) (n : Counts) (b : Lists) : Type 0 where
  pub stand : StandsFor a n b
  pub fewer : AreFewer n (counts b)
  pub untargeted : AreUntargeted 0 b

-- ---- new ids

-- The new id of an entry of that name: that of the entry of the name in b, or none where it is left out.
abbrev pub HasNewId : Lists → Bytes → Fate → Option GlobalId → Type 0
HasNewId b name LeftOut id = id ≡ None
HasNewId b name Kept None = ⊥
HasNewId b name Kept (Some new) = global_name b new ≡ Some name
HasNewId b name Declared None = ⊥
HasNewId b name Declared (Some new) = global_name b new ≡ Some name

-- the new ids of entries of these names and fates, in order
abbrev pub AreNewIds : Lists → List Bytes → List Fate → List (Option GlobalId) → Type 0
AreNewIds b [] [] [] = Unit {0}
AreNewIds b (name ∷ names) (fate ∷ fates) (id ∷ ids) = HasNewId b name fate id × AreNewIds b names fates ids
AreNewIds b names fates ids = ⊥
