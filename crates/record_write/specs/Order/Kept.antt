-- For `note` and `place` of `TypeOrder`: how it keeps the places of the types that are listed.
use Rattle.std.specs.Prelude.{◌≡◌, ℕ, ◌<◌, List, length, map, All, slice_index_or, Option, None}
use Rattle.type_table.specs.Types.{Types, tree}
use Rattle.entry_verify.specs.Types.Classes.{AreClasses}
use Rattle.record_write.specs.Order.Order.{place_in, IsClosed}

-- each class has its place, the types that are listed are types of the table, and their parts are listed
pub record IsOrder (t : Types) (classes : List ℕ) (places : List (Option ℕ)) (listed : List ℕ) : Type 0 where
  pub known : All (λ ty. ty < length t.types) listed
  pub same : AreClasses t classes
  pub placed : (ty : ℕ) → ty < length t.types → slice_index_or places (slice_index_or classes ty 0) None ≡ place_in (map (tree t) listed) (tree t ty)
  pub closed : IsClosed (map (tree t) listed)
