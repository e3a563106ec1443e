use Rattle.std.proofs.Common.{◌≡◌, ℕ, List, position, slice_get, get_or, Option, Some, None, IfSome, bytes_eq, sym, ap, ◌∙◌}
use Rattle.std.specs.Cmp.Lexicographic.{bytes_decides, nat_list_eq_equiv}
use Rattle.std.proofs.lemmas.List.Quantifiers.{position-Some}
use Rattle.std.proofs.lemmas.Map.Views.{Contains-keys_from_lookup, IsSome-lookup_from_Contains}
use Rattle.std.proofs.lemmas.Option.{slice_get-get_or}
use Rattle.indexmap.specs.IndexMap.{keys}
use Rattle.type_table.proofs.structs.place_of.Goals as goal

found : (ns : List (List ℕ)) (n : List ℕ) (r : Option ℕ) → r ≡ position (bytes_eq n) ns → IfSome r (λ i. slice_get ns i ≡ Some n)
found ns n None e = tt
found ns n (Some i) e =
    let at = position-Some (bytes_eq n) ns i n (sym e) in
    slice_get-get_or ns i n at.0 ∙ ap Some (sym ((bytes_decides n (get_or ns i n)).0 at.1))

pub returns-clause-found : goal.returns-clause-found
returns-clause-found c = found (keys c.args.structs.now) c.args.name.now _ c.get_index_of.ensures.index

pub returns-clause-present : goal.returns-clause-present
returns-clause-present c =
    let es = c.args.structs.now.entries in
    let name = c.args.name.now in (
      λ t. Contains-keys_from_lookup (λ x y. (bytes_decides x y).0) name es (sym c.get_index_of.ensures.found ∙ t),
      λ h. c.get_index_of.ensures.found ∙ IsSome-lookup_from_Contains nat_list_eq_equiv name es h,
    )
