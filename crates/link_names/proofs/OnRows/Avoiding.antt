-- Names of structs that are avoided, one behind the other.
use Rattle.std.proofs.Common.{◌≡◌, ℕ, ◌+◌, List, [], ◌∷◌, ◌++◌, map, take, Some, refl, sym, ap, ◌∙◌, subst}
use Rattle.std.specs.Prelude.{slice_get}
use Rattle.std.proofs.lemmas.List.{map-append}
use Rattle.linkage_rules.specs.Entries.{symbol_name}
use Rattle.linkage_rules.specs.Ids.{modules}
use Rattle.linkage_rules.specs.declared.symbol.Symbol.TheVariants.{Local}
use Rattle.linkage_rules.proofs.Steps.{take_more}
use Rattle.module_arena.specs.Lists.{Lists}
use Rattle.module_arena.specs.Module.{Bytes}
use Rattle.type_table.specs.Types.{names}
use Rattle.link_names.specs.Naming.{HasMore, HasOneMore}
use Rattle.link_names.proofs.Avoided.{more_names}
use Rattle.link_names.specs.Rows.Numbers.{so_far}
use Rattle.link_names.proofs.OnRows.Parts.{part_symbols, so_far_more, symbols_are}

-- one name more
pub one_more : (all : List Bytes) (k : ℕ) (name : Bytes) (old mid new : List Bytes) → slice_get all k ≡ Some name → HasMore old (take k all) mid → HasOneMore mid name new → HasMore old (take (k + 1) all) new
one_more all k name old mid new at first one =
    subst (λ (l : List Bytes). HasMore old l new) (sym (take_more all k name at)) (more_names old mid new (take k all) (name ∷ []) first one)

names_of : (i : ℕ) (all : List Bytes) → map symbol_name (map (Local i) all) ≡ all
names_of i [] = refl
names_of i (name ∷ all) = ap (λ (l : List Bytes). name ∷ l) (names_of i all)

-- one part's names more
pub part_more : (ps : List Lists) (k : ℕ) (a : Lists) (old mid new : List Bytes) → slice_get ps k ≡ Some a → HasMore old (map symbol_name (so_far (modules ps) k)) mid → HasMore mid (names a.table) new
    → HasMore old (map symbol_name (so_far (modules ps) (k + 1))) new
part_more ps k a old mid new at first more =
    subst (λ (l : List Bytes). HasMore old l new)
    (sym
    (ap (map symbol_name) (so_far_more ps k a at)
    ∙ map-append symbol_name (so_far (modules ps) k) (part_symbols (modules ps) k)
    ∙ ap (λ l. map symbol_name (so_far (modules ps) k) ++ l) (ap (map symbol_name) (symbols_are ps k a at) ∙ names_of k (names a.table))))
    (more_names old mid new (map symbol_name (so_far (modules ps) k)) (names a.table) first more)
