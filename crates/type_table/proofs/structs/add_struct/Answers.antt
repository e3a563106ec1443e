use Rattle.std.proofs.Common.{bytes_eq, ◌∙◌, Contains, Option, None, Some, ◌≡◌, List, ℕ, refl}
use Rattle.std.specs.Map.{keys_of, lookup}
use Rattle.std.specs.Cmp.Lexicographic.{bytes_decides}
use Rattle.std.proofs.lemmas.Map.Views.{Contains-keys_from_lookup}
use Rattle.indexmap.proofs.CallerLemmas.{insert_entry-new}
use Rattle.type_table.proofs.structs.add_struct.Goals as goal

-- a name that is not among the keys is not found
not_found : {X : Type 0} (name : List ℕ) (es : List (List ℕ × X)) → (Contains (keys_of es) name → ⊥) → lookup (bytes_eq name) es ≡ None
not_found {X} name es absent = by (lookup (bytes_eq name) es) refl
  where
    by : (r : Option X) → lookup (bytes_eq name) es ≡ r → lookup (bytes_eq name) es ≡ None
    by None e = e
    by (Some x) e = absurd (absent (Contains-keys_from_lookup (λ a b. (bytes_decides a b).0) name es (rw e refl)))

pub returns-clause-added : goal.returns-clause-added
returns-clause-added c =
    c.in_ok-insert.ensures.entries ∙ insert_entry-new bytes_eq c.args.structs.now c.args.name _ (not_found _ _ c.requires)
