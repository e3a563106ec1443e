use Rattle.std.specs.Cmp.Lexicographic.{bytes_decides, nat_list_eq_equiv}
use Rattle.std.proofs.lemmas.Map.Views.{Contains-keys_from_lookup, IsSome-lookup_from_Contains}
use Rattle.type_table.proofs.structs.has_name.Goals as goal

pub returns : goal.returns
returns c =
    let es = c.args.structs.now.entries in
    let name = c.args.name.now in (
      λ t. Contains-keys_from_lookup (λ x y. (bytes_decides x y).0) name es (rw (← c.contains_key.ensures) t),
      λ h. rw c.contains_key.ensures (IsSome-lookup_from_Contains nat_list_eq_equiv name es h),
    )
