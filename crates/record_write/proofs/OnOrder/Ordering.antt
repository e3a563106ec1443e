-- The types of a module, mentioned in their order.
use Rattle.std.proofs.Common.{◌≡◌, ℕ, List, [], ◌++◌, flat_map, map, sym, ap, ◌∙◌}
use Rattle.std.specs.List.{fold}
use Rattle.type_table.specs.Types.{tree, bodies}
use Rattle.module_arena.specs.Lists.{Lists}
use Rattle.module_arena.specs.View.{module_of}
use Rattle.record_table.specs.Mentions.{with_tree, mentioned}
use Rattle.record_write.specs.Order.Order.{Order, listed_trees}
use Rattle.record_write.specs.Order.Written.{in_struct_body, in_variable, in_function, in_alias_type, Goes}
use Rattle.record_write.proofs.OnOrder.Going.{goes_then}
use Rattle.record_write.proofs.OnOrder.WrittenIn.{written_are}

-- what is listed once all entries are gone through
pub order_is : (a : Lists) {o p q r s : Order} → o.listed ≡ [] → Goes a o p (flat_map (in_struct_body a.table) (bodies a.table)) → Goes a p q (flat_map (in_variable a) a.variables)
    → Goes a q r (flat_map (in_function a) a.functions) → Goes a r s (flat_map (λ x. in_alias_type a x.ty) a.aliases) → listed_trees s ≡ mentioned (module_of a)
order_is a {o} {p} {q} {r} {s} none structs variables functions aliases =
    (goes_then (goes_then (goes_then structs variables) functions) aliases).listed
    ∙ ap (λ (ids : List ℕ). fold (λ all t. with_tree t all) (map (tree o.types) ids) (flat_map (in_struct_body a.table) (bodies a.table) ++ flat_map (in_variable a) a.variables ++ flat_map (in_function a) a.functions ++ flat_map (λ x. in_alias_type a x.ty) a.aliases)) none
    ∙ ap (fold (λ all t. with_tree t all) []) (sym (written_are a))
