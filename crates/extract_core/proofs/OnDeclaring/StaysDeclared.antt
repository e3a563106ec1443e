-- What is declared stays so where types and constants are added, and what types are copied where entries are added.
use Rattle.std.proofs.Common.{◌≡◌, ℕ, ◌<◌, length, slice_get, sym, subst, ap, ◌∙◌, arith}
use Rattle.type_table.specs.Types.{trees, structs, names}
use Rattle.module_arena.specs.declared.entry.GlobalId.{GlobalId}
use Rattle.module_arena.specs.Known.{Counts, counts}
use Rattle.module_arena.specs.Lists.{Lists, global_name}
use Rattle.module_arena.specs.View.{type_at}
use Rattle.module_arena.proofs.Renamed.{tree_stays}
use Rattle.item_build.specs.Types.Stands.{IsType, Grows}
use Rattle.item_build.proofs.OnTypes.Staying.{structs_stay, entries_stay, entry_named}
use Rattle.entry_copy.specs.Tables.{Tables, new_type}
use Rattle.entry_copy.proofs.Starting.{types_still_copied}
use Rattle.entry_copy.proofs.TypesCopied.{types_still}
use Rattle.extract_core.specs.Declaring.Declaring.{KeepsNames, AreFewer, IsDeclaring}
use Rattle.extract_core.specs.Declaring.Stages.{same_name, HasTypes}

module _ (b c : Lists) (g : Grows b c) where
  name_still : (x : GlobalId) → global_name c x ≡ global_name b x
  name_still x = entry_named c x ∙ ap (λ l. global_name l x) (entries_stay b c g) ∙ sym (entry_named b x)

  pub grown_keeps : KeepsNames b c
  grown_keeps x name e = name_still x ∙ e

  counts_still : counts c ≡ counts b
  counts_still = λ j. record { variables = length (g.variables j); aliases = length (g.aliases j); functions = length (g.functions j) }

  pub declaring_still : (a : Lists) (n : Counts) → IsDeclaring a n b → IsDeclaring a n c
  declaring_still a n h = record {
    stand = λ x name e. h.stand x name (sym (name_still x) ∙ e);
    fewer = subst (AreFewer n) (sym counts_still) h.fewer;
    untargeted = λ id x le is. h.untargeted id x le (ap (λ xs. slice_get xs id) (sym g.aliases) ∙ is);
  }

  pub types_grown : (a : Lists) (t : Tables) → HasTypes a b t → HasTypes a c t
  types_grown a t h = record { structs = structs_stay b c g ∙ h.structs; copies = types_still same_name a b t h.copies c g; all = h.all }

-- the table alone counts
pub types_there : (a b c : Lists) (t : Tables) → c.table ≡ b.table → HasTypes a b t → HasTypes a c t
types_there a b c t e h = record {
  structs = ap structs e ∙ h.structs;
  copies = types_still_copied b c (ap trees e) (ap (λ x. length x.types) e) same_name a t (ap names e) h.copies;
  all = h.all;
}

-- ---- the new id of a type

pub type_is_copied : (a b : Lists) (t : Tables) → HasTypes a b t → (ty : ℕ) → ty < length a.table.types → IsType b (new_type t ty) (type_at (trees a.table) ty)
type_is_copied a b t h ty lt =
    let all = h.all in
    subst (IsType b (new_type t ty)) (tree_stays (type_at (trees a.table) ty)) (h.copies.types ty (omega (arith, all, lt)))
