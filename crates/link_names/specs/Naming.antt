-- For `avoid`, `give` and `name_for` of `Naming`, and how the code reads: names that are given one after another, whatever
-- the order in which they are kept.
use Rattle.std.specs.Prelude.{◌≡◌, ℕ, ◌<◌, ◌≤◌, Bool, true, false, List, ◌∷◌, ◌++◌, bytes_eq, Some}
use Rattle.std.specs.Map.{lookup}
use Rattle.module_arena.specs.Module.{Bytes}
use Rattle.linkage_rules.specs.Lists.{has}
use Rattle.linkage_rules.specs.declared.symbol.Symbol.{Symbol}
use Rattle.linkage_rules.specs.declared.symbol.Symbol.TheVariants.{Shared, Local}
use Rattle.link_rules.specs.Rename.{base_of, dotted, new_name}

-- the names that were given, and those that no name with a number is to be
pub record TakenNames : Type 0 where
  pub given : List Bytes
  pub avoided : List Bytes

-- both
abbrev pub taken : TakenNames → List Bytes
taken n = n.given ++ n.avoided

-- the same names, in any order
abbrev pub SameNames : List Bytes → List Bytes → Type 0
SameNames xs ys = (name : Bytes) → has bytes_eq xs name ≡ has bytes_eq ys name

-- these names and that one, in any order
abbrev pub HasOneMore : List Bytes → Bytes → List Bytes → Type 0
HasOneMore before name now = SameNames now (name ∷ before)

-- these names and those, in any order
abbrev pub HasMore : List Bytes → List Bytes → List Bytes → Type 0
HasMore before names now = SameNames now (names ++ before)

-- each number from 1 on, below that one, gives a name that is taken
abbrev pub AllTaken : List Bytes → Bytes → ℕ → Type 0
AllTaken names base number = (n : ℕ) → 1 ≤ n → n < number → has bytes_eq names (dotted base n) ≡ true

-- of each name with a hint, all numbers before the hint are taken
abbrev pub AreHints : List (Bytes × ℕ) → List Bytes → Type 0
AreHints hints names = (base : Bytes) (number : ℕ) → lookup (bytes_eq base) hints ≡ Some number → (1 ≤ number) × AllTaken names base number

-- the symbol has that name: a shared one its own, and nothing more is given; a local one a new one, which is given then
abbrev pub GivesName : TakenNames → Symbol → Bytes → TakenNames → Type 0
GivesName before (Shared name) new now = (new ≡ name) × (now ≡ before)
GivesName before (Local part name) new now = (new ≡ new_name base_of before.avoided before.given name) × HasOneMore before.given new now.given

-- all parts share the symbol
abbrev pub is_shared : Symbol → Bool
is_shared (Shared name) = true
is_shared (Local part name) = false
