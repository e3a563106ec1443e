-- From each of a list to all of it, and what is given of the items, the entries and the locals of a text.
use Rattle.std.proofs.Common.{◌≡◌, List, [], ◌∷◌, true, false, None, All, sym, bytes_eq}
use Rattle.std.specs.List.{flat_map, Contains}
use Rattle.std.proofs.lemmas.List.Elements.{All-nil, All-cons, All-head, All-tail}
use Rattle.std.proofs.lemmas.Map.Views.{Contains-from_any}
use Rattle.std.proofs.lemmas.Slice.Eq.{bytes_eq-Decides}
use Rattle.ir_syntax.specs.Tree.{ItemTree}
use Rattle.module_arena.specs.Lists.{Lists}
use Rattle.module_arena.specs.Module.{Bytes, LocalName}
use Rattle.module_arena.specs.Same.{same_local, has_local}
use Rattle.module_arena.proofs.SameNames.{same_is}
use Rattle.name_rules.specs.Locals.{Locals, is_there}
use Rattle.name_rules.specs.Demand.{Demand, first_refusal}
use Rattle.name_rules.specs.TypeDemands.{has_name}
use Rattle.name_rules.specs.Breaks.{demands}
use Rattle.name_rules.proofs.Judging.{both_hold}
use Rattle.item_build.specs.Buildable.Laws.{global_names, HasEntries}

-- the name that is found is one of these
pub name_contained : (names : List Bytes) (name : Bytes) → has_name names name ≡ true → Contains names name
name_contained names name h = Contains-from_any {K = Bytes} {eq = λ x y. bytes_eq y x} (λ x y e. sym ((bytes_eq-Decides y x).0 e)) name names h

pub local_contained : (names : List LocalName) (name : LocalName) → has_local names name ≡ true → Contains names name
local_contained names name h = Contains-from_any {K = LocalName} {eq = λ x y. same_local y x} (λ x y e. sym (same_is y x e)) name names h

-- what holds of each of which nothing is asked in vain holds of all
pub all_asked : {A : Type 0} (N P : A → Type 0) (ask : A → List Demand) → ((a : A) → N a → first_refusal (ask a) ≡ None → P a) → (xs : List A) → All N xs → first_refusal (flat_map ask xs) ≡ None → All P xs
all_asked N P ask each [] n e = All-nil P
all_asked N P ask each (x ∷ xs) n e =
    let parts = both_hold (ask x) (flat_map ask xs) e in
    All-cons P x xs (each x (All-head N x xs n) parts.0) (all_asked N P ask each xs (All-tail N x xs n) parts.1)

-- nothing that items ask for fails, and the entries have the names of theirs
pub record IsGiven (items : List ItemTree) (entries : Lists) : Type 0 where
  pub unbroken : first_refusal (demands items) ≡ None
  pub entries_there : HasEntries entries (global_names items)

-- the values and the blocks of a function that are found are called so
pub record AreLocals (all : Locals) (values labels : List LocalName) : Type 0 where
  pub value_called : (name : LocalName) → is_there all false name ≡ true → Contains values name
  pub label_called : (name : LocalName) → is_there all true name ≡ true → Contains labels name
