-- A name that is free and a count that is small are taken: only memory may be wanting.
use Rattle.std.proofs.Common.{◌≡◌, ℕ, ◌+◌, List, [], ◌∷◌, length, map, All, Result, Ok, Err, OnOk, arith, refl, sym, ap, ◌∙◌, subst}
use Rattle.std.proofs.lemmas.List.{length_push}
use Rattle.std.proofs.lemmas.List.Elements.{All-cons, All-head, All-tail}
use Rattle.module_arena.specs.declared.entry.Variable as the_variable
use Rattle.module_arena.specs.declared.entry.Alias as the_alias
use Rattle.module_arena.specs.declared.entry.Function as the_function
use Rattle.module_arena.specs.declared.fault.ArenaFault.{ArenaFault}
use Rattle.module_arena.specs.declared.fault.ArenaFault.TheVariants.{Duplicate, TooMany, Memory}
use Rattle.module_arena.specs.Changes.{with_variable, with_alias, with_function}
use Rattle.module_arena.specs.Known.{Counts, counts, HasFault}
use Rattle.module_arena.specs.Lists.{Lists, global_name}
use Rattle.item_build.specs.Types.Stands.{Grows}
use Rattle.item_build.proofs.OnTypes.Staying.{entries_stay, entry_named}
use Rattle.item_build.specs.Types.Declarations.{IsFree, AreFew, one_variable_more, one_alias_more, one_function_more}

pub memory_alone : (a : Lists) (name : List ℕ) (n : Counts) (fault : ArenaFault) → HasFault a name n fault → IsFree a name → AreFew n → fault ≡ Memory
memory_alone a name n (Duplicate g) has free few = absurd (free g has)
memory_alone a name n (TooMany kind many) has free few = let e = has.1 in cc
memory_alone a name n Memory has free few = refl

module _ (a b : Lists) (g : Grows a b) where
  pub free_still : (name : List ℕ) → IsFree a name → IsFree b name
  free_still name free id e = free id (entry_named a id ∙ ap (λ x. global_name x id) (sym (entries_stay a b g)) ∙ sym (entry_named b id) ∙ e)

  pub few_aliases_still : (x : the_alias.Alias) → AreFew (one_alias_more a) → AreFew (counts (with_alias b x))
  few_aliases_still x few = subst AreFew (sym same) few
    where
      same : counts (with_alias b x) ≡ one_alias_more a
      same = λ j. record { variables = length (g.variables j); aliases = (length_push b.aliases x ∙ ap (λ xs. length xs + 1) g.aliases) j; functions = length (g.functions j) }

  pub few_functions_still : (f : the_function.Function) → AreFew (one_function_more a) → AreFew (counts (with_function b f))
  few_functions_still f few = subst AreFew (sym same) few
    where
      same : counts (with_function b f) ≡ one_function_more a
      same = λ j. record { variables = length (g.variables j); aliases = length (g.aliases j); functions = (length_push b.functions f ∙ ap (λ xs. length xs + 1) g.functions) j }

  pub few_still : (v : the_variable.Variable) → AreFew (one_variable_more a) → AreFew (counts (with_variable b v))
  few_still v few = subst AreFew (sym same) few
    where
      same : counts (with_variable b v) ≡ one_variable_more a
      same = λ j. record { variables = (length_push b.variables v ∙ ap (λ xs. length xs + 1) g.variables) j; aliases = length (g.aliases j); functions = length (g.functions j) }

-- what holds of what all items are mapped to
pub all_mapped : {X Y : Type 0} (f : X → Y) (P : Y → Type 0) (xs : List X) → All P (map f xs) → All (λ x. P (f x)) xs
all_mapped f P [] all = λ k d lt. absurd (omega arith)
all_mapped f P (x ∷ xs) all = All-cons (λ y. P (f y)) x xs (All-head P (f x) (map f xs) all) (all_mapped f P xs (All-tail P (f x) (map f xs) all))

-- what stays the same twice
pub then_same : {A E X : Type 0} (r : Result A E) (x y z : X) → y ≡ x → OnOk r (z ≡ y) → OnOk r (z ≡ x)
then_same (Ok a) x y z first then = then ∙ first
then_same (Err e) x y z first then = tt
